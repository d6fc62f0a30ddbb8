-- What isn't parsed spells no number within bounds.
use Rattle.std.proofs.Common.{◌≡◌, ℕ, ◌<◌, ◌^◌, Bool, true, false, ◌&&◌, cond, length, List, Some, None, Err, refl, arith, rules}
use Rattle.std.specs.Prelude.{nat_le}
use Rattle.std.specs.Char.{is_ascii_digit}
use Rattle.std.specs.List.{list_all}
use Rattle.std.specs.Str.Parse.{ParsesUnsigned, digits_value}
use Rattle.std.proofs.lemmas.Bool.{and_parts}
use Rattle.std.proofs.lemmas.Bool.Decides.{nat_tests}
use Rattle.std.proofs.lemmas.Str.Parse.{IsNumeralModel, numerals_by_value, parse_digits}
use Rattle.dcx_words.specs.Commands.{is_numeral, number_within}

own : IsNumeralModel (λ ds. list_all is_ascii_digit ds ≡ true) (digits_value 10)
own = numerals_by_value _ (search rules)

some_digit : (n : ℕ) → nat_le 1 n ≡ true → 0 < n
some_digit n e = grind (arith, nat_tests)

above : (most v : ℕ) → most < v → nat_le v most ≡ false
above most v l = grind (arith, nat_tests)

pub no_parsed_number : {E : Type 0} (longest least most : ℕ) (err : E) (text : List ℕ) → ParsesUnsigned 64 10 text (Err err) → is_numeral longest text ≡ true → most < 2 ^ 64
    → number_within longest least most text ≡ None
no_parsed_number longest least most err text h e l =
    let ps = and_parts _ _ e in
    let qs = and_parts _ _ ps.0 in
    let large : digits_value 10 text < 2 ^ 64 → ⊥ = λ m. parse_digits own 64 text (Err err) h ps.1 (some_digit (length text) qs.0, m) in
    let t : nat_le (digits_value 10 text) most ≡ false = above most (digits_value 10 text) (omega (arith, large)) in
    by (is_numeral longest text && nat_le least (digits_value 10 text)) (nat_le (digits_value 10 text) most) t
  where
    by : (a b : Bool) → b ≡ false → cond (a && b) (Some (digits_value 10 text)) None ≡ None
    by true true d = cc
    by true false d = refl
    by false b d = refl
