-- The bytes of a number's text, and that the text determines the number.
use Rattle.std.proofs.Common.{◌≡◌, ◌≢◌, ℕ, zero, suc, ◌/◌, ◌%◌, ◌^◌, ◌<◌, ◌≤◌, ℤ, pos, negsuc, unsigned_abs, true, false, cond, eqb, List, [], ◌∷◌, ◌++◌, sym, ap, ◌∙◌, subst, arith, lit<}
use Rattle.std.proofs.lemmas.Bool.Decides.{nat_tests}
use Rattle.std.proofs.lemmas.Fmt.{decimal_is_IsNumeral_wide}
use Rattle.std.specs.Fmt.{digits, digits_onto, digit_glyph, decimal, signed_decimal}
use Rattle.std.specs.Str.Parse.{digits_value}
use Rattle.std.specs.List.{AllByRecursion}

-- what follows from a fact holds of the bytes of which the fact does
pub bytes_weaker : {P Q : ℕ → Type 0} → ((c : ℕ) → P c → Q c) → (xs : List ℕ) → AllByRecursion P xs → AllByRecursion Q xs
bytes_weaker f [] h = tt
bytes_weaker f (x ∷ xs) h = (f x h.0, bytes_weaker f xs h.1)

-- what holds of the bytes of two lists holds of those of the one after the other
pub bytes_append : (P : ℕ → Type 0) (xs ys : List ℕ) → AllByRecursion P xs → AllByRecursion P ys → AllByRecursion P (xs ++ ys)
bytes_append P [] ys h k = k
bytes_append P (x ∷ xs) ys h k = (h.0, bytes_append P xs ys h.1 k)

-- the byte is a digit
pub record IsDigit (c : ℕ) : Type 0 where
  pub low : 48 ≤ c
  pub high : c ≤ 57

glyph : (d : ℕ) → d < 10 → IsDigit (digit_glyph false d)
glyph d h = record { low = grind (arith, nat_tests); high = grind (arith, nat_tests) }

onto : (k n : ℕ) (acc : List ℕ) → AllByRecursion IsDigit acc → AllByRecursion IsDigit (digits_onto k 10 false n acc)
onto zero n acc h = h
onto (suc k) n acc h =
    let d : IsDigit (digit_glyph false (n % 10)) = glyph (n % 10) (omega arith) in
    let more : AllByRecursion IsDigit (digit_glyph false (n % 10) ∷ acc) = (d, h) in
    elim (eqb (n / 10) 0) as (λ b. AllByRecursion IsDigit (cond b (digit_glyph false (n % 10) ∷ acc) (digits_onto k 10 false (n / 10) (digit_glyph false (n % 10) ∷ acc))))
    [ true ↦ more | false ↦ onto k (n / 10) (digit_glyph false (n % 10) ∷ acc) more ]

-- a number's text has digits alone
pub decimal_digits : (n : ℕ) → AllByRecursion IsDigit (decimal n)
unfolding digits
decimal_digits n = onto 64 n [] tt

-- numbers with one text are equal
pub decimal_injective_wide : (m n : ℕ) → m < 2 ^ 128 → n < 2 ^ 128 → decimal m ≡ decimal n → m ≡ n
decimal_injective_wide m n small fits e =
    let bound : 2 ^ 128 < 10 ^ 64 = lit< tt in
    sym (decimal_is_IsNumeral_wide m (omega arith)).1 ∙ ap (digits_value 10) e ∙ (decimal_is_IsNumeral_wide n (omega arith)).1

-- a byte of an integer: a digit, or the sign
pub record IsSigned (c : ℕ) : Type 0 where
  pub low : 45 ≤ c
  pub high : c ≤ 57
  pub no_slash : c ≢ 47

signed_from_digit : (c : ℕ) → IsDigit c → IsSigned c
signed_from_digit c h = record { low = omega (arith, h.low); high = h.high; no_slash = omega (arith, h.low) }

-- an integer's text has such bytes alone
pub signed_bytes : (z : ℤ) → AllByRecursion IsSigned (signed_decimal z)
signed_bytes (pos n) = bytes_weaker signed_from_digit (decimal n) (decimal_digits n)
signed_bytes (negsuc n) =
    (record { low = omega arith; high = omega arith; no_slash = omega arith }, bytes_weaker signed_from_digit (decimal (suc n)) (decimal_digits (suc n)))

no_sign : (n m : ℕ) → decimal n ≡ 45 ∷ decimal m → ⊥
no_sign n m e = let h = subst (AllByRecursion IsDigit) e (decimal_digits n) in omega (arith, h.0.low)

-- integers with one text are equal
pub signed_injective : (y z : ℤ) → unsigned_abs y < 2 ^ 127 → unsigned_abs z < 2 ^ 127 → signed_decimal y ≡ signed_decimal z → y ≡ z
signed_injective (pos m) (pos n) small fits e = ap pos (decimal_injective_wide m n (omega arith) (omega arith) e)
signed_injective (pos m) (negsuc n) small fits e = absurd (no_sign m (suc n) e)
signed_injective (negsuc m) (pos n) small fits e = absurd (no_sign n (suc m) (sym e))
signed_injective (negsuc m) (negsuc n) small fits e =
    let same : decimal (suc m) ≡ decimal (suc n) = cc in
    let next : suc m ≡ suc n = decimal_injective_wide (suc m) (suc n) (omega arith) (omega arith) same in
    ap negsuc (omega arith)
