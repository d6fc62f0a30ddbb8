-- The characters that are left move on from the position so far, which is in the text.
use Rattle.std.proofs.Common.{◌≡◌, ◌+◌, drop}
use Rattle.dcx_tokens.specs.Position.{bytes_of, moved_over, IsInText}
use Rattle.dcx_tokens.proofs.position.behind_all.Given as goal

abbrev pub invariant-loop-c : goal.invariant-loop-c
invariant-loop-c l = record {
  so_far : moved_over l.position (drop l.c-index l.chars) ≡ moved_over l.fn.at l.chars;
  within : IsInText l.position;
  offset : l.position.offset + bytes_of (drop l.c-index l.chars) ≡ l.fn.at.offset + bytes_of l.chars;
}
