-- What each comparison of the code tells of its demand.
use Rattle.std.proofs.Common.{◌≡◌, ◌⊎◌, inr, ℕ, zero, suc, ◌<◌, Bool, true, false, List, [], ◌∷◌, Option, Some, None, Result, MatchBool, refl, sym, ap, ap₂, ◌∙◌, subst, true≢false, pos}
use Rattle.std.specs.List.{slice_get}
use Rattle.std.proofs.lemmas.Option.{slice_get_within}
use Rattle.dcx_math.specs.Rational.{ℚ, whole, rat_eq, rat_le, ◌≤ℚ◌, ◌<ℚ◌}
use Rattle.dcx_math.proofs.Orders.{<ℚ-not}
use Rattle.dcx_math.proofs.Ratios.{IsTrue-rat_eq}
use Rattle.dcx_frac.specs.declared.fraction.Frac.{Frac}
use Rattle.dcx_frac.specs.Frac.{value}
use Rattle.dcx_shape.specs.Shape.{sides_of}
use Rattle.dcx_atom.specs.declared.array.Array.{Array}
use Rattle.dcx_atom.specs.Arrays.{numbers_of}
use Rattle.dcx_atom.specs.Formed.{frac_at}
use Rattle.dcx_atom.proofs.FormedSums.{frac_at-value}
use Rattle.dcx_point.specs.Pairs.{Pairs}
use Rattle.dcx_call.specs.declared.attribute.Variable.{Variable}
use Rattle.dcx_call.specs.Attributes.{counted}
use Rattle.dcx_call.specs.Values.{given_by}
use Rattle.dcx_tree.specs.declared.constraint.Kind.{Kind}
use Rattle.dcx_tree.specs.declared.constraint.Kind.TheVariants.{AtMost}
use Rattle.dcx_tree.specs.declared.constraint.Constraint.{Constraint}
use Rattle.dcx_domain.specs.declared.point.Outside.{Outside}
use Rattle.dcx_domain.specs.Points.{IsFirstOutside}
use Rattle.dcx_domain.proofs.Comparisons.{at_most}
use Rattle.dcx_domain.proofs.Entries.{entries_hold, not_both}
use Rattle.dcx_answer.specs.declared.cert_fault.CertFault.{CertFault}
use Rattle.dcx_answer.specs.declared.cert_fault.CertFault.TheVariants as faults
use Rattle.dcx_cert_sections.specs.Checks.{Checked}
use Rattle.dcx_cert_check.specs.Demands.{check_if, each_in}
use Rattle.dcx_cert_check.specs.Numbers.{number_if}
use Rattle.dcx_cert_check.specs.SingleChecks.{entry_is, multiplier_signed, entries_signed, multipliers_signed, variable_inside}

-- ---- told values
pub entry_passes : (b : Bool) (k j : ℕ) (x y : Frac) → b ≡ rat_eq (value x) (value y) → b ≡ true → (entry_is k j (value x) (value y)).passes
entry_passes b k j x y e t = (IsTrue-rat_eq (value x) (value y)).0 (sym e ∙ t)

pub entry_fails : (b : Bool) (k j : ℕ) (x y : Frac) → b ≡ rat_eq (value x) (value y) → b ≡ false →
    (faults.Setting k j x y ≡ faults.Memory) ⊎ (entry_is k j (value x) (value y)).fails (faults.Setting k j x y)
entry_fails b k j x y e f = inr (
  (λ same. true≢false (sym ((IsTrue-rat_eq (value x) (value y)).1 same) ∙ (sym e ∙ f))),
  ap₂ (λ u v. faults.Setting k j u v) (sym (frac_at-value x)) (sym (frac_at-value y)),
)

-- the same at numbers that are the same
pub same_entry_passes : (k j : ℕ) (x y u v : ℚ) → x ≡ u → y ≡ v → (entry_is k j x y).passes → (entry_is k j u v).passes
same_entry_passes k j x y u v e g h = sym e ∙ h ∙ g

pub same_entry_fails : (k j : ℕ) (x y u v : ℚ) (f : CertFault) → x ≡ u → y ≡ v → (f ≡ faults.Memory) ⊎ (entry_is k j x y).fails f → (f ≡ faults.Memory) ⊎ (entry_is k j u v).fails f
same_entry_fails k j x y u v f e g h =
    subst (λ (z : ℚ). (f ≡ faults.Memory) ⊎ (entry_is k j z v).fails f) e (subst (λ (z : ℚ). (f ≡ faults.Memory) ⊎ (entry_is k j x z).fails f) g h)

-- ---- multipliers
-- array k of the multipliers
pub numbers_are : (args : List Array) (k : ℕ) → numbers_of args k ≡ number_if (slice_get args k)
numbers_are [] k = refl
numbers_are (a ∷ args) zero = refl
numbers_are (a ∷ args) (suc k) = numbers_are args k

at_least_zero : (b : Bool) (nought x : Frac) → value nought ≡ whole (pos 0) → b ≡ rat_le (value nought) (value x) → MatchBool b (whole (pos 0) ≤ℚ value x) (value x <ℚ whole (pos 0))
at_least_zero b nought x z e = at_most b (whole (pos 0)) (value x) (e ∙ ap (λ u. rat_le u (value x)) z)

at_most_zero : (b : Bool) (nought x : Frac) → value nought ≡ whole (pos 0) → b ≡ rat_le (value x) (value nought) → MatchBool b (value x ≤ℚ whole (pos 0)) (whole (pos 0) <ℚ value x)
at_most_zero b nought x z e = at_most b (value x) (whole (pos 0)) (e ∙ ap (rat_le (value x)) z)

-- what a test that succeeds, and one that fails, tells
when_true : (b : Bool) (K L : Type 0) → MatchBool b K L → b ≡ true → K
when_true true K L m t = m
when_true false K L m t = absurd (true≢false (sym t))

when_false : (b : Bool) (K L : Type 0) → MatchBool b K L → b ≡ false → L
when_false true K L m f = absurd (true≢false f)
when_false false K L m f = m

pub multiplier_fails : (b : Bool) (k j : ℕ) (nought x : Frac) → value nought ≡ whole (pos 0) → b ≡ rat_le (value nought) (value x) → b ≡ false →
    (faults.DualSign k j x ≡ faults.Memory) ⊎ (multiplier_signed AtMost k j (value x)).fails (faults.DualSign k j x)
multiplier_fails b k j nought x z e f = inr (
  (λ h. <ℚ-not (when_false b _ _ (at_least_zero b nought x z e) f) h),
  ap (λ u. faults.DualSign k j u) (sym (frac_at-value x)),
)

-- the same at a number that is the same
pub same_multiplier_passes : (kind : Kind) (k j : ℕ) (x u : ℚ) → x ≡ u → (multiplier_signed kind k j x).passes → (multiplier_signed kind k j u).passes
same_multiplier_passes kind k j x u e h = subst (λ (z : ℚ). (multiplier_signed kind k j z).passes) e h

pub same_multiplier_fails : (kind : Kind) (k j : ℕ) (x u : ℚ) (f : CertFault) → x ≡ u → (f ≡ faults.Memory) ⊎ (multiplier_signed kind k j x).fails f
    → (f ≡ faults.Memory) ⊎ (multiplier_signed kind k j u).fails f
same_multiplier_fails kind k j x u f e h = subst (λ (z : ℚ). (f ≡ faults.Memory) ⊎ (multiplier_signed kind k j z).fails f) e h

-- the multipliers of constraint k, where its array was looked up
pub looked_up : (duals : List Array) (k : ℕ) (c : Constraint) (o : Option Array) → o ≡ slice_get duals k → {T : Type 0} (r : Result T CertFault) → Checked (entries_signed k c (number_if o)) r
    → Checked (multipliers_signed duals k c) r
looked_up duals k c o e r h = subst (λ f. Checked (entries_signed k c f) r) (ap number_if e ∙ sym (numbers_are duals k)) h

-- ---- the objective, which is x
pub stated_passes : (b : Bool) (found stated : Frac) (x : ℚ) → value found ≡ x → b ≡ rat_eq (value found) (value stated) → b ≡ true → x ≡ value stated
stated_passes b found stated x e is t = sym e ∙ (IsTrue-rat_eq (value found) (value stated)).0 (sym is ∙ t)

pub stated_fails : (b : Bool) (found stated : Frac) (x : ℚ) → value found ≡ x → b ≡ rat_eq (value found) (value stated) → b ≡ false →
    (¬ (x ≡ value stated)) × (faults.Value stated found ≡ faults.Value stated (frac_at x))
stated_fails b found stated x e is f = (
  (λ h. true≢false (sym ((IsTrue-rat_eq (value found) (value stated)).1 (e ∙ h)) ∙ (sym is ∙ f))),
  ap (λ u. faults.Value stated u) (sym (frac_at-value found) ∙ ap frac_at e),
)

pub bound_passes : (b : Bool) (found bound : Frac) (x : ℚ) → value found ≡ x → b ≡ rat_le (value found) (value bound) → b ≡ true → x ≤ℚ value bound
bound_passes b found bound x e is t = subst (λ (z : ℚ). z ≤ℚ value bound) e (when_true b _ _ (at_most b (value found) (value bound) is) t)

pub bound_fails : (b : Bool) (found bound : Frac) (x : ℚ) → value found ≡ x → b ≡ rat_le (value found) (value bound) → b ≡ false →
    (¬ (x ≤ℚ value bound)) × (faults.Bound bound found ≡ faults.Bound bound (frac_at x))
bound_fails b found bound x e is f = (
  (λ h. <ℚ-not (when_false b _ _ (at_most b (value found) (value bound) is) f) (subst (λ (z : ℚ). z ≤ℚ value bound) (sym e) h)),
  ap (λ u. faults.Bound bound u) (sym (frac_at-value found) ∙ ap frac_at e),
)

-- ---- gap and slope
pub positive : (b : Bool) (nought x : Frac) → value nought ≡ whole (pos 0) → b ≡ rat_le (value x) (value nought) → b ≡ false → whole (pos 0) <ℚ value x
positive b nought x z e f = when_false b _ _ (at_most_zero b nought x z e) f

pub not_positive : (b : Bool) (nought x : Frac) → value nought ≡ whole (pos 0) → b ≡ rat_le (value x) (value nought) → b ≡ true → ¬ (whole (pos 0) <ℚ value x)
not_positive b nought x z e t h = <ℚ-not h (when_true b _ _ (at_most_zero b nought x z e) t)

-- ---- where a point leaves the domain
module _ (vs : List Variable) (given : Pairs) (fault : ℕ → ℕ → Frac → CertFault) (o : Outside) (first : IsFirstOutside vs given o) where
  before_inside : (k : ℕ) → k < o.variable → (w : Option Variable) → slice_get vs k ≡ w → (check_if (variable_inside fault given k) w).passes
  before_inside k lt None at = tt
  before_inside k lt (Some v) at = (entries_hold.each v (given_by given v.name)).0 (first.before k v lt at)

  pub outside_fails : (x : Frac) → value x ≡ given_by given first.variable.name o.entry → (each_in vs (variable_inside fault given)).fails (fault o.variable o.entry x)
  outside_fails x e = record {
    position = o.variable;
    there = slice_get_within vs o.variable first.variable first.there;
    before = λ k lt. before_inside k lt (slice_get vs k) refl;
    here = subst (λ w. (check_if (variable_inside fault given o.variable) w).fails (fault o.variable o.entry x)) (sym first.there) (record {
      position = o.entry;
      there = first.entry.there;
      before = first.entry.before;
      here = (
        (λ h. not_both (counted first.variable.whole first.variable.attribute) (sides_of first.variable.shape) (given_by given first.variable.name) o.entry h first.entry.leaves),
        ap (fault o.variable o.entry) (sym (frac_at-value x) ∙ ap frac_at e),
      );
    });
  }
