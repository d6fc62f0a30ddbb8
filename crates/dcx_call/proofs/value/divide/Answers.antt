-- The test of 0 is that of the definition.
use Rattle.std.proofs.Common.{◌≡◌, ◌≢◌, ℕ, Bool, true, false, IsTrue, if◌then◌else◌, Err, refl, sym, ap, ap₂, ◌∙◌, pos, ◌↔◌}
use Rattle.dcx_math.specs.Rational.{ℚ, whole, rat_eq}
use Rattle.dcx_math.proofs.Ratios.{IsTrue-rat_eq}
use Rattle.dcx_frac.specs.declared.fraction.Frac.{Frac}
use Rattle.dcx_frac.specs.Frac.{value}
use Rattle.dcx_frac.specs.Results.{quotient_of}
use Rattle.dcx_atom.specs.declared.stops.ValueStop.TheVariants.{ZeroDivisor}
use Rattle.dcx_atom.specs.Formed.{frac_at}
use Rattle.dcx_atom.proofs.FormedSums.{frac_at-value}
use Rattle.dcx_call.specs.Forming.{or_passes, divided}
use Rattle.dcx_call.proofs.value.divide.Goals as goal

by_zero : (j : ℕ) (x y : ℚ) → y ≡ whole (pos 0) → divided j x y ≡ Err (ZeroDivisor j)
by_zero j x y e = rw ((IsTrue-rat_eq y (whole (pos 0))).1 e) refl

by_other : (j : ℕ) (x y : Frac) → value y ≢ whole (pos 0) → divided j (value x) (value y) ≡ or_passes j (quotient_of x y)
by_other j x y ne = by (rat_eq (value y) (whole (pos 0))) refl ∙ ap₂ (λ a b. or_passes j (quotient_of a b)) (frac_at-value x) (frac_at-value y)
  where
    by : (t : Bool) → rat_eq (value y) (whole (pos 0)) ≡ t →
        (if t then Err (ZeroDivisor j) else or_passes j (quotient_of (frac_at (value x)) (frac_at (value y)))) ≡ or_passes j (quotient_of (frac_at (value x)) (frac_at (value y)))
    by true e = absurd (ne ((IsTrue-rat_eq (value y) (whole (pos 0))).0 e))
    by false e = refl

not_true : (b : Bool) {P : Type 0} → IsTrue b ↔ P → b ≡ false → ¬ P
not_true b h e p = let t = h.1 p in cc

pub returns-then-is_zero : goal.returns-then-is_zero
returns-then-is_zero c = sym (by_zero c.args.j (value c.args.x) (value c.args.y) (c.is_zero.ensures.0 c.if-is_zero.true))

pub returns : goal.returns
returns c =
    c.or_passes.ensures ∙ ap (or_passes c.args.j) c.div.ensures.answer
    ∙ sym (by_other c.args.j c.args.x c.args.y (not_true c.is_zero.result c.is_zero.ensures c.if-is_zero.false))
