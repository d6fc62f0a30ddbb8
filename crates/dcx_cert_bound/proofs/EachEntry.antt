-- Where each entry of a variable that is asked may be reached, the coefficients may reach the variable.
use Rattle.std.proofs.Common.{◌≡◌, ◌≢◌, ◌⊎◌, inl, inr, ℕ, ◌<◌, ◌≤◌, arith, Bool, true, false, nat_eq, eq-eqb, List, Result, Ok, Err, refl, sym, ap, ap₂, ◌∙◌, subst, pos, true≢false}
use Rattle.std.specs.Prelude.{nat_le, IfOk, if◌then◌else◌}
use Rattle.std.proofs.lemmas.Bool.{le-leb, ne_eqb, cases_order}
use Rattle.dcx_math.specs.Rational.{ℚ, whole, ◌+ℚ◌, ◌≤ℚ◌}
use Rattle.dcx_math.proofs.Orders.{+ℚ_comm, +ℚ_idl}
use Rattle.dcx_frac.proofs.Results.{sum_of_is}
use Rattle.dcx_shape.proofs.Entries.{place_below}
use Rattle.dcx_frac.specs.declared.fraction.Frac.{Frac}
use Rattle.dcx_frac.specs.declared.fraction.Passes.{Passes}
use Rattle.dcx_frac.specs.Frac.{value}
use Rattle.dcx_frac.specs.Results.{sum_of}
use Rattle.dcx_shape.specs.declared.shape.Sides.{Sides}
use Rattle.dcx_shape.specs.Sides.{rows_of, cols_of, entries_of}
use Rattle.dcx_shape.specs.Places.{HasEntry, row_place}
use Rattle.dcx_atom.specs.Arrays.{number_at}
use Rattle.dcx_call.specs.declared.attribute.Attribute.{Attribute}
use Rattle.dcx_call.specs.declared.attribute.Attribute.TheVariants.{Free, Nonneg, Nonpos, Symmetric, Diag}
use Rattle.dcx_convex.specs.Certificates.{MayReach}
use Rattle.dcx_tree.specs.Nodes.{attribute_of}
use Rattle.dcx_call.specs.Attributes.{IsSquareFor}
use Rattle.dcx_unknowns.specs.Own.{row_in, column_in, is_own, mirror_of}
use Rattle.dcx_unknowns.proofs.Sources.{row_is, column_is, turned}
use Rattle.dcx_cert_collect.specs.Shares.{frac_in}
use Rattle.dcx_cert_collect.proofs.Flat.{frac_value}
use Rattle.dcx_cert_sections.specs.Checks.{Check}
use Rattle.dcx_cert_bound.specs.Variables.{mirrored, reaching_entry, number_check, asked, entry_check}

-- what is asked of entries, of one kind of variable
abbrev pub AllPass : Attribute → Sides → List Frac → ℕ → Type 0
AllPass a sides cs k = (e : ℕ) → e < entries_of sides → (entry_check a sides cs k e).passes

passed_check : (b : Bool) (check : Check) → b ≡ true → (asked b check).passes → check.passes
passed_check true check e p = p
passed_check false check e p = absurd (true≢false (sym e))

module _ (sides : Sides) (cs : List Frac) (k : ℕ) where
  -- an entry that is asked, and the number that reaches it
  asked_number : (a : Attribute) (e : ℕ) (r : Result Frac Passes) → AllPass a sides cs k → e < entries_of sides → is_own a sides e ≡ true → reaching_entry a sides cs e ≡ r
      → (number_check a k e r).passes
  asked_number a e r all b own is =
      subst (λ r. (number_check a k e r).passes) is (passed_check (is_own a sides e) (number_check a k e (reaching_entry a sides cs e)) own (all e b))

  below : (i j : ℕ) → HasEntry sides i j → row_place sides i j < entries_of sides
  below i j h = place_below false sides i j h

  -- ---- symmetric variables
  own_pair : (i j : ℕ) → HasEntry sides i j → i ≤ j → is_own Symmetric sides (row_place sides i j) ≡ true
  own_pair i j h le = ap₂ nat_le (row_is sides i j h) (column_is sides i j h) ∙ le-leb i j le

  pair_number : (i j : ℕ) → HasEntry sides i j → i ≢ j → mirrored sides cs (row_place sides i j) ≡ sum_of (frac_in cs (row_place sides i j)) (frac_in cs (row_place sides j i))
  pair_number i j h ne =
      let e = row_place sides i j in
      let other : nat_eq (row_in sides e) (column_in sides e) ≡ false = ap₂ nat_eq (row_is sides i j h) (column_is sides i j h) ∙ ne_eqb i j ne in
      ap (λ b. if b then Ok (frac_in cs e) else sum_of (frac_in cs e) (frac_in cs (mirror_of sides e))) other
      ∙ ap₂ (λ r c. sum_of (frac_in cs e) (frac_in cs (row_place sides c r))) (row_is sides i j h) (column_is sides i j h)

  own_number : (i : ℕ) → HasEntry sides i i → mirrored sides cs (row_place sides i i) ≡ Ok (frac_in cs (row_place sides i i))
  own_number i h =
      let e = row_place sides i i in
      let same : nat_eq (row_in sides e) (column_in sides e) ≡ true = ap₂ nat_eq (row_is sides i i h) (column_is sides i i h) ∙ eq-eqb i i refl in
      ap (λ b. if b then Ok (frac_in cs e) else sum_of (frac_in cs e) (frac_in cs (mirror_of sides e))) same

  sum_zero : (x y : Frac) (e : ℕ) → (number_check Symmetric k e (sum_of x y)).passes → value x +ℚ value y ≡ whole (pos 0)
  sum_zero x y e p = by (sum_of x y) (sum_of_is x y).exact p
    where
      by : (r : Result Frac Passes) → IfOk r (λ t. value t ≡ value x +ℚ value y) → (number_check Symmetric k e r).passes → value x +ℚ value y ≡ whole (pos 0)
      by (Ok t) h q = sym h ∙ q
      by (Err passes) h q = absurd q

  -- both coefficients sum to 0
  pair_zero : AllPass Symmetric sides cs k → (i j : ℕ) → HasEntry sides i j → i < j → number_at cs (row_place sides i j) +ℚ number_at cs (row_place sides j i) ≡ whole (pos 0)
  pair_zero all i j h lt =
      let e = row_place sides i j in
      let ne : i ≢ j = λ same. absurd (omega (arith, lt, same)) in
      ap₂ (λ x y. x +ℚ y) (sym (frac_value cs e)) (sym (frac_value cs (row_place sides j i)))
      ∙ sum_zero (frac_in cs e) (frac_in cs (row_place sides j i)) e (asked_number Symmetric e _ all (below i j h) (own_pair i j h (omega (arith, lt))) (pair_number i j h ne))

  own_zero : AllPass Symmetric sides cs k → (i : ℕ) → HasEntry sides i i → number_at cs (row_place sides i i) ≡ whole (pos 0)
  own_zero all i h =
      let e = row_place sides i i in
      sym (frac_value cs e) ∙ asked_number Symmetric e (Ok (frac_in cs e)) all (below i i h) (own_pair i i h (omega arith)) (own_number i h)

  twice_zero : (x : ℚ) → x ≡ whole (pos 0) → x +ℚ x ≡ whole (pos 0)
  twice_zero x e = ap₂ (λ a b. a +ℚ b) e e ∙ +ℚ_idl (whole (pos 0))

  mirrored_zero : rows_of sides ≡ cols_of sides → AllPass Symmetric sides cs k → (i j : ℕ) → HasEntry sides i j
      → number_at cs (row_place sides i j) +ℚ number_at cs (row_place sides j i) ≡ whole (pos 0)
  mirrored_zero square all i j h = by (cases_order i j)
    where
      by : (i ≡ j) ⊎ ((i < j) ⊎ (j < i)) → number_at cs (row_place sides i j) +ℚ number_at cs (row_place sides j i) ≡ whole (pos 0)
      by (inl e) =
          ap₂ (λ r c. number_at cs (row_place sides i c) +ℚ number_at cs (row_place sides r i)) (sym e) (sym e)
          ∙ twice_zero (number_at cs (row_place sides i i)) (own_zero all i (subst (λ c. HasEntry sides i c) (sym e) h))
      by (inr (inl lt)) = pair_zero all i j h lt
      by (inr (inr gt)) = +ℚ_comm _ _ ∙ pair_zero all j i (turned sides i j square h) gt

  -- ---- the variable
  pub may_reach : (a : Attribute) → IsSquareFor a sides → AllPass a sides cs k → MayReach (attribute_of a) sides (number_at cs)
  may_reach Free square all = λ j b. sym (frac_value cs j) ∙ asked_number Free j (Ok (frac_in cs j)) all b refl refl
  may_reach Nonneg square all = λ j b. subst (λ x. whole (pos 0) ≤ℚ x) (frac_value cs j) (asked_number Nonneg j (Ok (frac_in cs j)) all b refl refl)
  may_reach Nonpos square all = λ j b. subst (λ x. x ≤ℚ whole (pos 0)) (frac_value cs j) (asked_number Nonpos j (Ok (frac_in cs j)) all b refl refl)
  may_reach Symmetric square all = λ i j h. mirrored_zero square all i j h
  may_reach Diag square all = λ i h.
      let e = row_place sides i i in
      sym (frac_value cs e)
      ∙ asked_number Diag e (Ok (frac_in cs e)) all (below i i h) (ap₂ nat_eq (row_is sides i i h) (column_is sides i i h) ∙ eq-eqb i i refl) refl
