-- What digits write: how a loop over them goes on, and bounds.
use Rattle.std.proofs.Common.{◌≡◌, ℕ, suc, ◌+◌, ◌*◌, ◌^◌, ◌<◌, ◌≤◌, Bool, true, false, cond, ◌⊎◌, inl, inr, List, [], ◌∷◌, ◌++◌, length, drop, get_or, min, add-one, refl, sym, ap, ◌∙◌, subst, arith}
use Rattle.std.proofs.Math.Nat.{pow-suc, mul_assoc, mul_comm, mul-le-mul_right, mul-le-mul_left, pow-le-pow_right, one-le-pow}
use Rattle.std.proofs.Math.Seq.{drop-cons}
use Rattle.std.proofs.lemmas.Nat.{pow-add}
use Rattle.std.proofs.lemmas.Bool.Decides.{nat_tests}
use Rattle.std.specs.Char.{is_ascii_digit, digit_value}
use Rattle.std.specs.Str.Parse.{digits_value_after, AllDigits}
use Rattle.std.proofs.lemmas.List.Sums.{take_while-cons}
use Rattle.std.proofs.str.Laws.{order}
use Rattle.dcx_tokens.specs.Number.{digits}

pub digit_small : (c : ℕ) → is_ascii_digit c ≡ true → digit_value c < 10
digit_small c e = grind (arith, nat_tests)

-- the digits in front are digits
pub all_digits : (cs : List ℕ) → AllDigits 10 (digits cs)
all_digits [] = tt
all_digits (c ∷ cs) = subst (AllDigits 10) (sym (take_while-cons is_ascii_digit c cs)) (by (is_ascii_digit c) refl (all_digits cs))
  where
    by : (b : Bool) → is_ascii_digit c ≡ b → AllDigits 10 (digits cs) → AllDigits 10 (cond b (c ∷ digits cs) [])
    by true e rest = (digit_small c e, rest)
    by false e rest = tt

-- one digit more: its value, and those behind it
pub record GoesOn (n d : ℕ) (xs ys : List ℕ) : Type 0 where
  pub value : digits_value_after 10 n xs ≡ digits_value_after 10 (n * 10 + digit_value d) ys
  pub all : AllDigits 10 ys
  pub digit : digit_value d < 10
  pub small : (n * 10 + digit_value d + 1) * 10 ^ length ys ≤ (n + 1) * 10 ^ length xs

larger : (n v p : ℕ) → v < 10 → (n * 10 + v + 1) * p ≤ (n + 1) * (p * 10)
larger n v p h =
    let e : (n * 10 + v + 1) * p ≤ ((n + 1) * 10) * p = mul-le-mul_right p (omega arith) in
    rw (mul_comm p 10, ← mul_assoc (n + 1) 10 p) e

pub goes_on : (n d : ℕ) (ys : List ℕ) → AllDigits 10 (d ∷ ys) → GoesOn n d (d ∷ ys) ys
goes_on n d ys all = record {
  value = refl;
  all = all.1;
  digit = all.0;
  small = rw (pow-suc 10 (length ys)) (larger n (digit_value d) (10 ^ length ys) all.0);
}

-- with a power of ten at least 1, what fits with it fits alone
pub alone : (n : ℕ) (ys : List ℕ) (most : ℕ) → n * 10 ^ length ys ≤ most → n ≤ most
alone n ys most h =
    let one = one-le-pow (length ys) 10 (omega arith) in
    let e : n * 1 ≤ n * 10 ^ length ys = mul-le-mul_left n one in
    omega (arith, e)

-- the same inside a list, at its index i
pub at_drop : (n : ℕ) (ds : List ℕ) (i d : ℕ) → i < length ds → d ≡ get_or ds i d → AllDigits 10 (drop i ds) → GoesOn n d (drop i ds) (drop (i + 1) ds)
at_drop n ds i d lt is all =
    let e : drop i ds ≡ d ∷ drop (i + 1) ds = rw add-one (drop-cons ds i d lt ∙ ap (λ x. x ∷ drop (suc i) ds) (sym is)) in
    subst (λ xs. GoesOn n d xs (drop (i + 1) ds)) (sym e) (goes_on n d (drop (i + 1) ds) (subst (AllDigits 10) e all))

-- the number stays within a bound that it has with room for the digits
pub stays_below : (n d : ℕ) (xs ys : List ℕ) (most : ℕ) → GoesOn n d xs ys → (n + 1) * 10 ^ length xs ≤ most → n * 10 + digit_value d + 1 ≤ most
stays_below n d xs ys most on h = alone (n * 10 + digit_value d + 1) ys most (omega (arith, on.small))

-- what digits write behind n is at least n
after-ge : (n : ℕ) (ds : List ℕ) → n ≤ digits_value_after 10 n ds
after-ge n [] = omega arith
after-ge n (d ∷ ds) = omega (arith, after-ge (n * 10 + digit_value d) ds)

-- up to 31 alone it doesn't matter whether a number is cut at 31 before the digits go on
pub min-after : (n : ℕ) (ds : List ℕ) → min 31 (digits_value_after 10 (min n 31) ds) ≡ min 31 (digits_value_after 10 n ds)
min-after n ds = by (order n 32)
  where
    by : (n < 32) ⊎ (32 ≤ n) → min 31 (digits_value_after 10 (min n 31) ds) ≡ min 31 (digits_value_after 10 n ds)
    by (inl small) = let e : min n 31 ≡ n = omega arith in rw e refl
    by (inr large) = let e : min n 31 ≡ 31 = omega arith in rw e (omega (arith, after-ge 31 ds, after-ge n ds))

-- digits go on behind digits
pub after-append : (n : ℕ) (xs ys : List ℕ) → digits_value_after 10 n (xs ++ ys) ≡ digits_value_after 10 (digits_value_after 10 n xs) ys
after-append n [] ys = refl
after-append n (x ∷ xs) ys = after-append (n * 10 + digit_value x) xs ys

-- 30 digits are not too many
pub power_small : (k : ℕ) → k ≤ 30 → 10 ^ k ≤ 10 ^ 30
power_small k h = pow-le-pow_right (omega arith) h

pub power_positive : (k : ℕ) → 1 ≤ 10 ^ k
power_positive k = one-le-pow k 10 (omega arith)

pub both_small : (n i j : ℕ) → n + 1 ≤ 1 * 10 ^ i → i + j ≤ 30 → (n + 1) * 10 ^ j ≤ 10 ^ 30
both_small n i j h few =
    let e : (n + 1) * 10 ^ j ≤ (1 * 10 ^ i) * 10 ^ j = mul-le-mul_right (10 ^ j) h in
    let p = pow-add 10 i j in
    let q = power_small (i + j) few in
    let r : (1 * 10 ^ i) * 10 ^ j ≡ 10 ^ i * 10 ^ j = ap (λ m. m * 10 ^ j) (omega arith) in
    omega (arith, e, p, q, r)
