-- The numbers of a range are whole numbers of 128 bits, and as such they are fractions.
use Rattle.std.specs.Prelude.{◌≡◌, ℕ, suc, ◌*◌, ◌<◌, pos, negsuc, ℤ, ◌+ℤ◌, ◌-ℤ◌, ◌*ℤ◌, ◌<ℤ◌, ◌≤ℤ◌, unsigned_abs, length, slice_get, Some}
use Rattle.std.proofs.Common.{ap, ◌∙◌, subst, arith, lit<}
use Rattle.std.specs.Int.{saturate_signed}
use Rattle.std.proofs.lemmas.Int.{ints}
use Rattle.std.proofs.lemmas.Option.{slice_get-get_or}
use Rattle.std.proofs.lemmas.List.FromFn.{length-map-range_with_len, get_or-map-range_with_len}
use mir.Syntax.{w128}
use Rattle.dcx_math.specs.Rational.{whole, ◌/ℚ◌}
use Rattle.dcx_frac.specs.declared.fraction.Frac.{Frac}
use Rattle.dcx_frac.specs.Fits.{Fits, IsRepresentable}
use Rattle.dcx_frac.specs.Frac.{value}
use Rattle.dcx_frac.proofs.Integers.{over_unit}
use Rattle.dcx_frac.proofs.Representable.{representable_quotient}
use Rattle.dcx_atom.specs.Formed.{frac_at}
use Rattle.dcx_atom.proofs.FormedSums.{frac_at-value}
use Rattle.dcx_script_values.specs.Values.{Value, nothing}
use Rattle.dcx_script_values.specs.Ranges.{AreInside}
use Rattle.dcx_signature.specs.Turns.{range_items, whole_value}

-- ---- the way from the first number
-- a whole number of 128 bits is saturated already
saturated : (z : ℤ) → Fits z → saturate_signed w128 z ≡ z
saturated (pos n) h = ap pos (omega arith)
saturated (negsuc n) h = ap negsuc (omega arith)

way_down : (first : ℤ) (k n : ℕ) → first -ℤ pos (k * suc n) ≡ first +ℤ pos k *ℤ negsuc n
way_down first k n = omega (arith, ints)

-- the number that is reached downwards
pub reached_down : (first step r : ℤ) (n k way : ℕ) → AreInside first step n → k < n → step <ℤ pos 0 → way ≡ k * unsigned_abs step → r ≡ saturate_signed w128 (first -ℤ pos way)
    → r ≡ first +ℤ pos k *ℤ step
reached_down first (pos m) r n k way inside h down e is = absurd (omega (arith, ints, down))
reached_down first (negsuc m) r n k way inside h down e is =
    is ∙ (rw (e, way_down first k m) (saturated (first +ℤ pos k *ℤ negsuc m) (inside k h)))

-- and upwards
pub reached_up : (first step r : ℤ) (n k way : ℕ) → AreInside first step n → k < n → pos 0 ≤ℤ step → way ≡ k * unsigned_abs step → r ≡ saturate_signed w128 (first +ℤ pos way)
    → r ≡ first +ℤ pos k *ℤ step
reached_up first (pos m) r n k way inside h up e is = is ∙ (rw e (saturated (first +ℤ pos k *ℤ pos m) (inside k h)))
reached_up first (negsuc m) r n k way inside h up e is = absurd (omega (arith, ints, up))

-- ---- whole numbers as fractions
pub one_is_some : ¬ (pos 1 ≡ pos 0)
one_is_some e = absurd (omega (arith, ints, e))

pub is_fraction : (n : ℤ) → Fits n → IsRepresentable (whole n /ℚ whole (pos 1))
is_fraction n f = representable_quotient n (pos 1) f (lit< tt) one_is_some

pub frac_at-is : (n : ℤ) (f : Frac) → value f ≡ whole n /ℚ whole (pos 1) → frac_at (whole n) ≡ f
frac_at-is n f e = subst (λ x. frac_at x ≡ f) (e ∙ over_unit n) (frac_at-value f)

-- ---- the items that are gone through
pub range_items-length : (first step : ℤ) (n : ℕ) → length (range_items first step n) ≡ n
range_items-length first step n = length-map-range_with_len (λ j. whole_value (first +ℤ pos j *ℤ step)) 0 n

-- item k of a range
pub range_item : (first step : ℤ) (n k : ℕ) → k < n → slice_get (range_items first step n) k ≡ Some (whole_value (first +ℤ pos k *ℤ step))
range_item first step n k h =
    let f : ℕ → Value = λ j. whole_value (first +ℤ pos j *ℤ step) in
    let within : k < length (range_items first step n) = rw (range_items-length first step n) h in
    slice_get-get_or (range_items first step n) k nothing within ∙ ap Some (get_or-map-range_with_len f 0 n k k nothing h (omega arith))
