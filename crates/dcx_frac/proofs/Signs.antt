-- Integers as a sign and a size.
use Rattle.std.proofs.Common.{◌≡◌, ◌≢◌, ℕ, zero, suc, ◌*◌, ◌/◌, ◌<◌, ℤ, pos, negsuc, ◌*ℤ◌, ◌<ℤ◌, unsigned_abs, Bool, true, false, not, arith, refl, sym}
use Rattle.std.proofs.lemmas.Int.{ints}
use mathlib.Core.Bool.{beq}
use lib.Signed.{lt_z}
use Rattle.dcx_math.specs.Integers.{ring}
use Rattle.dcx_math.specs.Divisors.{divided}
use Rattle.dcx_frac.specs.Fits.{signed}

-- whether the integer is below 0
abbrev pub is_negative : ℤ → Bool
is_negative (pos n) = false
is_negative (negsuc n) = true

-- the test of the code
pub lt_zero : (z : ℤ) → lt_z z (pos 0) ≡ is_negative z
lt_zero (pos n) = sym (omega (arith, ints))
lt_zero (negsuc n) = refl

-- an integer is its sign and its size
pub signed-abs : (z : ℤ) → signed (is_negative z) (unsigned_abs z) ≡ z
signed-abs (pos n) = refl
signed-abs (negsuc n) = refl

-- the size of a signed number
pub unsigned_abs-signed : (s : Bool) (n : ℕ) → unsigned_abs (signed s n) ≡ n
unsigned_abs-signed true zero = refl
unsigned_abs-signed true (suc n) = refl
unsigned_abs-signed false n = refl

-- the size of an integer other than 0 is positive
pub abs-pos : (z : ℤ) → z ≢ pos 0 → 0 < unsigned_abs z
abs-pos (pos zero) h = absurd (h refl)
abs-pos (pos (suc n)) h = omega arith
abs-pos (negsuc n) h = omega arith

-- a positive integer is its size
pub pos-abs : (z : ℤ) → pos 0 <ℤ z → pos (unsigned_abs z) ≡ z
pos-abs (pos n) h = refl
pos-abs (negsuc n) h = absurd (omega (arith, ints))

-- a positive integer divided is its size divided
pub divided-positive : (g : ℕ) (z : ℤ) → pos 0 <ℤ z → divided g z ≡ pos (unsigned_abs z / g)
divided-positive g (pos n) h = refl
divided-positive g (negsuc n) h = absurd (omega (arith, ints))

-- a factor goes to the size
pub signed-times : (s : Bool) (n k : ℕ) → signed s n *ℤ pos k ≡ signed s (n * k)
signed-times true n k = simp ring (omega (arith, ints))
signed-times false n k = refl

-- the sign of a product
pub signed-mul : (s t : Bool) (m n : ℕ) → signed (not (beq s t)) (m * n) ≡ signed s m *ℤ signed t n
signed-mul true true m n = simp ring (omega (arith, ints))
signed-mul true false m n = simp ring (omega (arith, ints))
signed-mul false true m n = simp ring (omega (arith, ints))
signed-mul false false m n = refl
