-- The number that digits write, byte by byte, and that of a number's own text.
use Rattle.std.proofs.Common.{◌≡◌, ℕ, ◌+◌, ◌-◌, ◌*◌, ◌^◌, ◌<◌, List, [], ◌∷◌, ◌++◌, length, get_or, take, refl, sym, ap, ◌∙◌, arith, lit<}
use Rattle.std.proofs.lemmas.Bool.Decides.{nat_tests}
use Rattle.std.proofs.lemmas.Fmt.{decimal_is_IsNumeral_wide}
use Rattle.std.proofs.lemmas.List.{take_more}
use Rattle.std.specs.Prelude.{decimal}
use Rattle.std.specs.Char.{digit_value}
use Rattle.std.specs.List.{AllByRecursion}
use Rattle.std.specs.Str.Parse.{digits_value_after}
use Rattle.dcx_lines.specs.Reading.{worth_after, worth_of}
use Rattle.dcx_lines.proofs.Digits.{IsDigit, decimal_digits}

worth_push : (n : ℕ) (ds : List ℕ) (c : ℕ) → worth_after n (ds ++ c ∷ []) ≡ worth_after n ds * 10 + (c - 48)
worth_push n [] c = refl
worth_push n (d ∷ ds) c = worth_push (n * 10 + (d - 48)) ds c

-- one more digit
pub worth_more : (bs : List ℕ) (i : ℕ) → i < length bs → worth_of (take (i + 1) bs) ≡ worth_of (take i bs) * 10 + (get_or bs i 0 - 48)
worth_more bs i l = ap worth_of (take_more bs i 0 l) ∙ worth_push 0 (take i bs) (get_or bs i 0)

digit_worth : (c : ℕ) → IsDigit c → digit_value c ≡ c - 48
digit_worth c h = let low = h.low in let high = h.high in grind (arith, nat_tests)

worth_digits : (n : ℕ) (cs : List ℕ) → AllByRecursion IsDigit cs → worth_after n cs ≡ digits_value_after 10 n cs
worth_digits n [] h = refl
worth_digits n (c ∷ cs) h =
    worth_digits (n * 10 + (c - 48)) cs h.1 ∙ ap (λ d. digits_value_after 10 (n * 10 + d) cs) (sym (digit_worth c h.0))

-- the text of a number writes it
pub worth_decimal : (n : ℕ) → n < 2 ^ 128 → worth_of (decimal n) ≡ n
worth_decimal n small =
    let bound : 2 ^ 128 < 10 ^ 64 = lit< tt in
    worth_digits 0 (decimal n) (decimal_digits n) ∙ (decimal_is_IsNumeral_wide n (omega arith)).1
