-- One of the texts that are left has the characters exactly where one of all has them.
use Rattle.std.proofs.Common.{◌≡◌, drop, nat_eq}
use Rattle.std.specs.Cmp.Lexicographic.{pointwise}
use Rattle.std.specs.List.{list_any}
use Rattle.dcx_tokens.proofs.word.is_any_word.Given as goal

abbrev pub invariant-loop-text : goal.invariant-loop-text
invariant-loop-text l = list_any (λ text. pointwise nat_eq l.fn.chars text.now) (drop l.text-index l.texts) ≡ list_any (λ text. pointwise nat_eq l.fn.chars text.now) l.texts
