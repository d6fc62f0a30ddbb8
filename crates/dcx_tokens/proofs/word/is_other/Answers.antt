-- Testing the words from the first one on is testing whether one of them is it.
use Rattle.std.proofs.Common.{List, ℕ, false, nat_eq, ap, ◌∙◌, Bor}
use Rattle.std.specs.Cmp.Lexicographic.{pointwise}
use Rattle.dcx_tokens.proofs.Words.{any_from, any_in_order}
use Rattle.dcx_tokens.proofs.word.is_other.Goals as goal

pub returns : goal.returns
returns c =
    let test = λ (text : Bor (List ℕ)). pointwise nat_eq c.args.word.now text.now in
    c.is_any_word.ensures ∙ any_in_order test c.as_slice.result.now ∙ ap (any_from test false) c.as_slice.ensures
