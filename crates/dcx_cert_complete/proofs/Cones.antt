-- Coefficients in the dual cone of a variable's attribute may reach each entry that is asked.
use Rattle.std.proofs.Common.{[], ◌∷◌, ◌≡◌, ℕ, ◌<◌, Bool, true, false, nat_eq, List, Result, Ok, Err, refl, sym, ap, ap₂, ◌∙◌, subst, pos, negsuc}
use Rattle.std.specs.Prelude.{IfOk, if◌then◌else◌}
use Rattle.std.proofs.lemmas.Bool.{eqb-true}
use Rattle.dcx_math.specs.Rational.{ℚ, whole, ◌+ℚ◌, ◌*ℚ◌, ◌≤ℚ◌}
use Rattle.dcx_math.specs.Sums.{IsNonnegative}
use Rattle.dcx_math.proofs.Ring.{reads}
use Rattle.dcx_math.proofs.Orders.{≤ℚ_antisym, ≤ℚ-from_≡, +ℚ_comm, +ℚ-*ℚ, *ℚ-zero, linear}
use Rattle.dcx_math.proofs.FieldLaws.{*ℚ-+ℚ}
use Rattle.dcx_math.proofs.Products.{linear_over}
use Rattle.dcx_math.proofs.Sums.{rat_sum_below-same, rat_sum_below-+ℚ, rat_sum_below-one}
use Rattle.dcx_frac.specs.declared.fraction.Frac.{Frac}
use Rattle.dcx_frac.specs.declared.fraction.Passes.{Passes}
use Rattle.dcx_frac.specs.Frac.{value}
use Rattle.dcx_frac.specs.Results.{sum_of}
use Rattle.dcx_frac.proofs.Results.{sum_of_is}
use Rattle.dcx_shape.specs.declared.shape.Sides.{Sides}
use Rattle.dcx_shape.specs.Sides.{rows_of, cols_of, entries_of}
use Rattle.dcx_shape.specs.Places.{HasEntry, row_place}
use Rattle.dcx_atom.specs.Arrays.{number_at}
use Rattle.dcx_call.specs.declared.attribute.Attribute.{Attribute}
use Rattle.dcx_call.specs.declared.attribute.Attribute.TheVariants.{Free, Nonneg, Nonpos, Symmetric, Diag}
use Rattle.dcx_call.specs.Attributes.{IsSquareFor}
use Rattle.dcx_convex.specs.Nodes.{Numbers}
use Rattle.dcx_convex.specs.Certificates.{times, IsInDualCone}
use Rattle.dcx_shape.proofs.EntryPlaces.{place_here}
use Rattle.dcx_tree.specs.Nodes.{attribute_of}
use Rattle.dcx_unknowns.specs.Own.{row_in, column_in, is_own, mirror_of}
use Rattle.dcx_unknowns.proofs.Sources.{row_is, column_is, turned, mirror_entry, mirror_below}
use Rattle.dcx_cert_collect.specs.Shares.{frac_in}
use Rattle.dcx_cert_collect.proofs.Flat.{frac_value}
use Rattle.dcx_cert_bound.specs.Variables.{mirrored, reaching_entry, MayReachEntry}
use Rattle.dcx_atom.proofs.Units.{only_at, at_itself, at_other, one_nonnegative, only_nonnegative, minus_nonpositive, only_nonpositive}

-- ---- numbers from what they are at 1 and at -1
up : (c : ℚ) → IsNonnegative (c *ℚ whole (pos 1)) → IsNonnegative c
up c h = linear (c ∷ []) h (search reads depth 30) tt

down : (c : ℚ) → IsNonnegative (c *ℚ whole (negsuc 0)) → c ≤ℚ whole (pos 0)
down c h = linear (c ∷ []) h (search reads depth 30) tt

nothing : (c : ℚ) → ((x : ℚ) → IsNonnegative (c *ℚ x)) → c ≡ whole (pos 0)
nothing c h = ≤ℚ_antisym (down c (h (whole (negsuc 0)))) (up c (h (whole (pos 1))))

twice : (c : ℚ) → c +ℚ c ≡ whole (pos 0) → c ≡ whole (pos 0)
twice c e = ≤ℚ_antisym (half_most c (≤ℚ-from_≡ e)) (half_least c (≤ℚ-from_≡ (sym e)))
  where
    half_most : (c : ℚ) → c +ℚ c ≤ℚ whole (pos 0) → c ≤ℚ whole (pos 0)
    half_most c h = linear_over 1 (c ∷ []) h (search reads depth 30) tt

    half_least : (c : ℚ) → whole (pos 0) ≤ℚ c +ℚ c → whole (pos 0) ≤ℚ c
    half_least c h = linear_over 1 (c ∷ []) h (search reads depth 30) tt

-- coefficients times an array of one entry alone
at_entry : (n : ℕ) (c : Numbers) (e : ℕ) (x : ℚ) → e < n → times n c (only_at e x) ≡ c e *ℚ x
at_entry n c e x b =
    rat_sum_below-one n e (λ j. c j *ℚ only_at e x j) b (λ i l d. ap (λ z. c i *ℚ z) (at_other e x i d) ∙ *ℚ-zero (c i)) ∙ ap (λ z. c e *ℚ z) (at_itself e x)

module _ (s : Sides) (sq : rows_of s ≡ cols_of s) where
  -- the mirror of an entry's mirror is the entry
  mirror_twice : (z : ℕ) → z < entries_of s → mirror_of s (mirror_of s z) ≡ z
  mirror_twice z b =
      let h = mirror_entry s sq z b in
      ap₂ (λ r c. row_place s c r) (row_is s (column_in s z) (row_in s z) h) (column_is s (column_in s z) (row_in s z) h) ∙ sym (place_here s z b)

  mirror_place : (i j : ℕ) → HasEntry s i j → mirror_of s (row_place s i j) ≡ row_place s j i
  mirror_place i j h = ap₂ (λ r c. row_place s c r) (row_is s i j h) (column_is s i j h)

  -- x at an entry and at its mirror
  abbrev both_at : ℕ → ℚ → Numbers
  both_at e x z = only_at e x z +ℚ only_at e x (mirror_of s z)

  both_kept : (e : ℕ) (x : ℚ) (i j : ℕ) → HasEntry s i j → both_at e x (row_place s i j) ≡ both_at e x (row_place s j i)
  both_kept e x i j h =
      ap (λ z. only_at e x (row_place s i j) +ℚ only_at e x z) (mirror_place i j h) ∙ +ℚ_comm _ _
      ∙ ap (λ z. only_at e x (row_place s j i) +ℚ only_at e x z) (sym (mirror_place j i (turned s i j sq h)))

  at_both : (c : Numbers) (e : ℕ) (x : ℚ) → e < entries_of s → times (entries_of s) c (both_at e x) ≡ (c e +ℚ c (mirror_of s e)) *ℚ x
  at_both c e x b =
      let n = entries_of s in
      let own = λ (z : ℕ). c z *ℚ only_at e x z in
      let other = λ (z : ℕ). c z *ℚ only_at e x (mirror_of s z) in
      rat_sum_below-same n _ _ (λ z l. *ℚ-+ℚ (c z) (only_at e x z) (only_at e x (mirror_of s z)))
      ∙ rat_sum_below-+ℚ n own other
      ∙ ap₂ ◌+ℚ◌ (at_entry n c e x b)
      (rat_sum_below-one n (mirror_of s e) other (mirror_below s sq e b)
      (λ i l d. ap (λ z. c i *ℚ z) (at_other e x (mirror_of s i) (λ h. d (sym (mirror_twice i l) ∙ ap (mirror_of s) h))) ∙ *ℚ-zero (c i))
      ∙ ap (λ z. c (mirror_of s e) *ℚ z) (ap (only_at e x) (mirror_twice e b) ∙ at_itself e x))
      ∙ sym (+ℚ-*ℚ (c e) (c (mirror_of s e)) x)

-- ---- by attribute
module _ (s : Sides) (cs : List Frac) where
  abbrev c : Numbers
  c = number_at cs

  free_entry : ((y : Numbers) → IsNonnegative (times (entries_of s) c y)) → (e : ℕ) → e < entries_of s → c e ≡ whole (pos 0)
  free_entry cone e b = nothing (c e) (λ x. subst IsNonnegative (at_entry (entries_of s) c e x b) (cone (only_at e x)))

  symmetric_entry : rows_of s ≡ cols_of s → IsInDualCone (attribute_of Symmetric) s c → (e : ℕ) → e < entries_of s → c e +ℚ c (mirror_of s e) ≡ whole (pos 0)
  symmetric_entry sq cone e b = nothing (c e +ℚ c (mirror_of s e)) (λ x. subst IsNonnegative (at_both s sq c e x b) (cone (both_at s sq e x) (λ i j h. both_kept s sq e x i j h)))

  diag_entry : IsInDualCone (attribute_of Diag) s c → (e : ℕ) → e < entries_of s → row_in s e ≡ column_in s e → c e ≡ whole (pos 0)
  diag_entry cone e b same = nothing (c e) (λ x. subst IsNonnegative (at_entry (entries_of s) c e x b)
      (cone (only_at e x) (λ i j h d. at_other e x (row_place s i j) (λ p. d (sym (row_is s i j h) ∙ ap (row_in s) p ∙ same ∙ ap (column_in s) (sym p) ∙ column_is s i j h)))))

  mirrored_entry : rows_of s ≡ cols_of s → IsInDualCone (attribute_of Symmetric) s c → (e : ℕ) → e < entries_of s → (x : Frac) → mirrored s cs e ≡ Ok x → value x ≡ whole (pos 0)
  mirrored_entry sq cone e b x = by (nat_eq (row_in s e) (column_in s e)) refl
    where
      zero_sum : c e +ℚ c (mirror_of s e) ≡ whole (pos 0)
      zero_sum = symmetric_entry sq cone e b

      summed : (r : Result Frac Passes) → IfOk r (λ t. value t ≡ value (frac_in cs e) +ℚ value (frac_in cs (mirror_of s e))) → r ≡ Ok x → value x ≡ whole (pos 0)
      summed (Ok t) is h = let same : t ≡ x = cc in ap value (sym same) ∙ is ∙ ap₂ ◌+ℚ◌ (frac_value cs e) (frac_value cs (mirror_of s e)) ∙ zero_sum
      summed (Err passes) is h = cc

      by : (t : Bool) → nat_eq (row_in s e) (column_in s e) ≡ t → (if t then Ok (frac_in cs e) else sum_of (frac_in cs e) (frac_in cs (mirror_of s e))) ≡ Ok x → value x ≡ whole (pos 0)
      by true same h =
          let eq : row_in s e ≡ column_in s e = eqb-true (row_in s e) (column_in s e) same in
          let own : mirror_of s e ≡ e = ap₂ (row_place s) (sym eq) eq ∙ sym (place_here s e b) in
          let is : frac_in cs e ≡ x = cc in
          ap value (sym is) ∙ frac_value cs e ∙ twice (c e) (ap (λ z. c e +ℚ c z) (sym own) ∙ zero_sum)
      by false same h = summed (sum_of (frac_in cs e) (frac_in cs (mirror_of s e))) (sum_of_is (frac_in cs e) (frac_in cs (mirror_of s e))).exact h

  -- what reaches an entry that is asked may
  pub entry_may : (a : Attribute) → IsSquareFor a s → IsInDualCone (attribute_of a) s c → (e : ℕ) → e < entries_of s → is_own a s e ≡ true → (x : Frac) → reaching_entry a s cs e ≡ Ok x
      → MayReachEntry a (value x)
  entry_may Free square cone e b own x h = let is : frac_in cs e ≡ x = cc in ap value (sym is) ∙ frac_value cs e ∙ free_entry (λ y. cone y tt) e b
  entry_may Nonneg square cone e b own x h =
      let is : frac_in cs e ≡ x = cc in
      subst (λ z. whole (pos 0) ≤ℚ z) (sym (frac_value cs e) ∙ ap value is)
      (up (c e) (subst IsNonnegative (at_entry (entries_of s) c e (whole (pos 1)) b) (cone (only_at e (whole (pos 1))) (λ j l. only_nonnegative e (whole (pos 1)) one_nonnegative j))))
  entry_may Nonpos square cone e b own x h =
      let is : frac_in cs e ≡ x = cc in
      subst (λ z. z ≤ℚ whole (pos 0)) (sym (frac_value cs e) ∙ ap value is)
      (down (c e) (subst IsNonnegative (at_entry (entries_of s) c e (whole (negsuc 0)) b) (cone (only_at e (whole (negsuc 0))) (λ j l. only_nonpositive e (whole (negsuc 0)) minus_nonpositive j))))
  entry_may Symmetric square cone e b own x h = mirrored_entry square cone e b x h
  entry_may Diag square cone e b own x h =
      let is : frac_in cs e ≡ x = cc in
      ap value (sym is) ∙ frac_value cs e ∙ diag_entry cone e b (eqb-true (row_in s e) (column_in s e) own)
