-- What is cut off in front is the run of digits, so all of it are digits.
use Rattle.std.proofs.Common.{take, ap, ◌∙◌, subst, sym}
use Rattle.std.specs.Char.{is_ascii_digit}
use Rattle.std.specs.Str.Parse.{AllDigits}
use Rattle.std.proofs.lemmas.List.Folds.{length-prefix_len}
use Rattle.dcx_tokens.proofs.Digits.{all_digits}
use Rattle.dcx_tokens.proofs.number.leading_digits.Goals as goal

pub returns-clause-digits : goal.returns-clause-digits
returns-clause-digits c =
    let cs = c.args.chars.now in
    let front = ap (λ n. take n cs) (c.digit_run.ensures.value ∙ length-prefix_len is_ascii_digit cs) in
    subst (AllDigits 10) (sym front) (all_digits cs)
