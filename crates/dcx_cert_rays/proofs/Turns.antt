-- Checks in turn, and what their faults tell.
use Rattle.std.proofs.Common.{◌≡◌, ◌⊎◌, ℕ, ◌<◌, zero, suc, Bool, true, false, [], ◌∷◌, All, Option, Some, Result, slice_get, sym, ap, ap₂, ◌∙◌, subst, arith, true≢false}
use Rattle.dcx_math.specs.Rational.{◌-ℚ◌, ◌≤ℚ◌, neg_ℚ, rat_le}
use Rattle.dcx_math.proofs.Ratios.{IsTrue-rat_le}
use Rattle.dcx_frac.specs.declared.fraction.Frac.{Frac}
use Rattle.dcx_frac.specs.Frac.{value}
use Rattle.dcx_shape.specs.Shape.{sides_of}
use Rattle.dcx_shape.specs.Sides.{entries_of}
use Rattle.dcx_atom.specs.Formed.{frac_at}
use Rattle.dcx_atom.proofs.FormedSums.{frac_at-value}
use Rattle.dcx_point.specs.Pairs.{Pairs}
use Rattle.dcx_convex.specs.Problems.{Holds}
use Rattle.dcx_tree.specs.declared.constraint.Constraint.{Constraint}
use Rattle.dcx_tree.specs.declared.problem.Problem.{Problem}
use Rattle.dcx_tree.specs.Meaning.{relation_of}
use Rattle.dcx_answer.specs.declared.cert_fault.CertFault.{CertFault}
use Rattle.dcx_answer.specs.declared.cert_fault.CertFault.TheVariants.{Memory, RayConstraint, RayValue}
use Rattle.dcx_cert_sections.specs.Checks.{Checked}
use Rattle.dcx_cert_sections.proofs.Turns.{second_checked, first_failed}
use Rattle.dcx_cert_rays.specs.Steepness.{steepness_at, forming}
use Rattle.dcx_cert_rays.specs.Rays.{HoldsAt, IsFirstBroken, sides_hold, constraint_check, objective_steepness, falls}

-- what holds of two numbers holds of both in a list
pub two_below : (n a b : ℕ) → a < n → b < n → All (λ r. r < n) (a ∷ b ∷ [])
two_below n a b la lb zero d lt = la
two_below n a b la lb (suc zero) d lt = lb
two_below n a b la lb (suc (suc k)) d lt = absurd (omega arith)

module _ (p : Problem) (setting ray : Pairs) where
  -- a constraint that is there
  module _ (k : ℕ) (c : Constraint) (there : slice_get p.constraints k ≡ Some c) where
    pub constraint_fails : (f : CertFault) → (f ≡ Memory) ⊎ (forming p setting ray (c.left.0 ∷ c.right.0 ∷ [])).fails f
        → (f ≡ Memory) ⊎ (constraint_check p setting ray k (slice_get p.constraints k)).fails f
    constraint_fails f h =
        subst (λ (o : Option Constraint). (f ≡ Memory) ⊎ (constraint_check p setting ray k o).fails f) (sym there)
        (first_failed (forming p setting ray (c.left.0 ∷ c.right.0 ∷ [])) (sides_hold p setting ray k c) f h)

    pub constraint_then : {T : Type 0} (r : Result T CertFault) → (forming p setting ray (c.left.0 ∷ c.right.0 ∷ [])).passes → Checked (sides_hold p setting ray k c) r →
        Checked (constraint_check p setting ray k (slice_get p.constraints k)) r
    constraint_then r pass h =
        subst (λ (o : Option Constraint). Checked (constraint_check p setting ray k o) r) (sym there)
        (second_checked (forming p setting ray (c.left.0 ∷ c.right.0 ∷ [])) (sides_hold p setting ray k c) r pass h)

  module _ (k : ℕ) (c : Constraint) (j : ℕ) (left right : Frac) (left_is : value left ≡ steepness_at p setting ray c.left.0 j) (right_is : value right ≡ steepness_at p setting ray c.right.0 j) where
    gap_is : value left -ℚ value right ≡ steepness_at p setting ray c.left.0 j -ℚ steepness_at p setting ray c.right.0 j
    gap_is = ap₂ ◌-ℚ◌ left_is right_is

    pub holding : Holds (relation_of c.kind) (value left -ℚ value right) → HoldsAt p setting ray c j
    holding h = subst (Holds (relation_of c.kind)) gap_is h

    pub broken : ¬ Holds (relation_of c.kind) (value left -ℚ value right) → j < entries_of (sides_of c.shape) → ((i : ℕ) → i < j → HoldsAt p setting ray c i)
        → IsFirstBroken p setting ray k c (RayConstraint k j left right)
    broken breaks within before = record {
      entry = j;
      within = within;
      before = before;
      here = λ h. breaks (subst (Holds (relation_of c.kind)) (sym gap_is) h);
      told = ap₂ (RayConstraint k j) (sym (frac_at-value left) ∙ ap frac_at left_is) (sym (frac_at-value right) ∙ ap frac_at right_is);
    }

  module _ (slope found stated : Frac) (found_is : value found ≡ objective_steepness p setting ray) (stated_is : value stated ≡ neg_ℚ (value slope))
      (b : Bool) (test : b ≡ rat_le (value found) (value stated)) where
    high : objective_steepness p setting ray ≤ℚ neg_ℚ (value slope) → value found ≤ℚ value stated
    high h = subst (λ x. x ≤ℚ value stated) (sym found_is) (subst (λ y. objective_steepness p setting ray ≤ℚ y) (sym stated_is) h)

    pub not_falling : b ≡ false → (falls p setting ray slope).fails (RayValue stated found)
    not_falling f = (
      λ h. true≢false (sym (test ∙ (IsTrue-rat_le (value found) (value stated)).1 (high h)) ∙ f),
      ap₂ RayValue (sym (frac_at-value stated) ∙ ap frac_at stated_is) (sym (frac_at-value found) ∙ ap frac_at found_is),
    )
