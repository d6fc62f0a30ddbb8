-- The characters that are left move on from the position so far, and have the bytes that are left.
use Rattle.std.proofs.Common.{◌≡◌, ◌+◌, drop, length}
use Rattle.std.specs.Str.{chars}
use Rattle.dcx_tokens.specs.Position.{bytes_of, moved_over, start_of_text, IsInText}
use Rattle.dcx_tokens.proofs.read.behind_text.Given as goal

abbrev pub invariant-loop-c : goal.invariant-loop-c
invariant-loop-c l = record {
  so_far : moved_over l.at (drop (length l.yielded) (chars l.text)) ≡ moved_over start_of_text (chars l.text);
  within : IsInText l.at;
  offset : l.at.offset + bytes_of (drop (length l.yielded) (chars l.text)) ≡ length l.text;
}
