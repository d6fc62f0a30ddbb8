-- The laws of the sum of the k largest entries, and of the k smallest.
use Rattle.std.proofs.Common.{
  ◌≡◌,
  ℕ,
  zero,
  suc,
  ◌-◌,
  ◌<◌,
  ◌≤◌,
  ◌&&◌,
  if◌then◌else◌,
  arith,
  Bool,
  true,
  false,
  List,
  [],
  ◌∷◌,
  ◌++◌,
  map,
  length,
  take,
  All,
  Some,
  None,
  replicate,
  refl,
  sym,
  ap,
  ap₂,
  ◌∙◌,
  subst,
  pos,
  negsuc,
}
use Rattle.std.specs.Prelude.{nat_le, slice_index_or}
use Rattle.std.proofs.lemmas.Bool.{leb-true}
use Rattle.std.proofs.lemmas.List.{get_or-replicate}
use Rattle.std.proofs.lemmas.List.Elements.{All-head, All-tail, All-cons, All-nil, All-map}
use Rattle.dcx_math.specs.Rational.{ℚ, whole, neg_ℚ, ◌+ℚ◌, ◌-ℚ◌, ◌*ℚ◌, ◌≤ℚ◌}
use Rattle.dcx_math.specs.Sums.{IsNonnegative, rat_sum, rat_sum_by, rat_sum_below, rat_at}
use Rattle.dcx_math.proofs.Ring.{ring, reads}
use Rattle.dcx_math.proofs.Orders.{≤ℚ_refl, ≤ℚ_trans, ≤ℚ-from_≡, neg_ℚ-≤ℚ, neg_ℚ-neg_ℚ, neg_ℚ-+ℚ, neg_ℚ-zero, +ℚ_idl, +ℚ_idr, +ℚ-≤ℚ, *ℚ-≤ℚ, linear, +ℚ-nonnegative, +ℚ-nonpositive}
use Rattle.dcx_math.proofs.Bounds.{≤ℚ-rat_max_left, rat_max-≤ℚ}
use Rattle.dcx_math.proofs.Sums.{rat_sum_below-same, rat_sum_below-monotone, rat_sum_below-*ℚ, rat_sum_by-++}
use Rattle.dcx_shape.specs.declared.shape.Sides.{Sides}
use Rattle.dcx_shape.specs.declared.shape.Sides.TheVariants.{Scalar}
use Rattle.dcx_shape.specs.Sides.{entries_of}
use Rattle.dcx_atom.specs.declared.flags.Bend.{Bend}
use Rattle.dcx_atom.specs.declared.flags.Bend.TheVariants.{Convex, Concave}
use Rattle.dcx_atom.specs.declared.graph.AuxKind.TheVariants.{Free, Nonneg}
use Rattle.dcx_atom.specs.Arrays.{Entries, list_below, sides_at}
use Rattle.dcx_atom.specs.Signs.{IsBeyond}
use Rattle.dcx_atom.specs.Rows.{Filling, row_at, form_at, weighted}
use Rattle.dcx_atom.specs.Meaning.{IsMet}
use Rattle.dcx_atom.specs.Laws.{SumsUp, KeepsSign, KeepsTrend, IsBent, IsSoundGraph, IsTightGraph, HasSubgradients, Recedes}
use Rattle.dcx_atom.specs.Bounding.{outward}
use Rattle.dcx_atom.proofs.Sublinear.{curvature_of, recession_of}
use Rattle.dcx_atom.specs.Duality.{no_entries, no_filling, AreRowSlopes, AreBalanced}
use Rattle.dcx_atom.proofs.Duality.{subgradient_of}
use Rattle.dcx_atom.proofs.LinearSums.{follows_rising, All-list_below}
use Rattle.dcx_atom.proofs.BoundRows.{taken, length-list_below, map-list_below, All-at, RowsHold-list_below, RowsHold-list_below_back, weighted-list_below, form-list_below, rat_sum-list_below}
use Rattle.dcx_fold.specs.Sorted.{above, All-falling, falling-falls, length-falling, falling-summed, above-nonneg, above-monotone, first-≤, first-is}
use Rattle.dcx_fold.specs.Largest.{chosen_sides, ordered, chosen, chosen_level, level_row, level_form, level_filling, each_condition, sum_condition, largest_meaning}

-- ---- the only argument, with k entries or more
pub record IsChosen (k : ℕ) (args : List Sides) (to : Sides) : Type 0 where
  pub from : Sides
  pub only : args ≡ from ∷ []
  pub some : 1 ≤ k
  pub most : k ≤ entries_of from
  pub is : to ≡ Scalar

pub is_chosen : (k : ℕ) (args : List Sides) (to : Sides) → chosen_sides k args ≡ Some to → IsChosen k args to
is_chosen k [] to e = cc
is_chosen k (s ∷ []) to e = by (nat_le 1 k) (nat_le k (entries_of s)) refl refl e
  where
    by : (a b : Bool) → nat_le 1 k ≡ a → nat_le k (entries_of s) ≡ b → (if a && b then Some Scalar else None) ≡ Some to → IsChosen k (s ∷ []) to
    by true true p q h = record { from = s; only = refl; some = leb-true 1 k p; most = leb-true k (entries_of s) q; is = cc }
    by true false p q h = cc
    by false b p q h = cc
is_chosen k (s ∷ r ∷ rs) to e = cc

most_entries : (k : ℕ) (args : List Sides) (to : Sides) → IsChosen k args to → k ≤ entries_of (sides_at args 0)
most_entries k args to f = subst (λ xs. k ≤ entries_of (sides_at xs 0)) (sym f.only) f.most

-- ---- turning
pub turned_twice : (bend : Bend) (x : ℚ) → outward bend (outward bend x) ≡ x
turned_twice Convex x = refl
turned_twice Concave x = neg_ℚ-neg_ℚ x

-- what is at most as the call counts lies on the near side
beyond_of : (bend : Bend) {x y : ℚ} → x ≤ℚ y → IsBeyond bend (outward bend x) (outward bend y)
beyond_of Convex h = h
beyond_of Concave h = neg_ℚ-≤ℚ h

of_beyond : (bend : Bend) (x y : ℚ) → IsBeyond bend x y → outward bend x ≤ℚ outward bend y
of_beyond Convex x y h = h
of_beyond Concave x y h = neg_ℚ-≤ℚ h

turned_sum : (bend : Bend) (xs : List ℚ) → rat_sum (map (outward bend) xs) ≡ outward bend (rat_sum xs)
turned_sum Convex [] = refl
turned_sum Convex (x ∷ xs) = ap (λ y. x +ℚ y) (turned_sum Convex xs)
turned_sum Concave [] = sym neg_ℚ-zero
turned_sum Concave (x ∷ xs) = ap (λ y. neg_ℚ x +ℚ y) (turned_sum Concave xs) ∙ sym (neg_ℚ-+ℚ x (rat_sum xs))

-- ---- the value, as the call counts
unfoldable pub excess : Bend → ℕ → ℚ → (ℕ → ℚ) → ℚ
excess bend n q x = rat_sum_below n (λ i. above q (outward bend (x i)))

excess_is : (bend : Bend) (n : ℕ) (q : ℚ) (x : ℕ → ℚ) → rat_sum_by (above q) (ordered bend n x) ≡ excess bend n q x
unfolding excess
excess_is bend n q x = falling-summed (above q) (list_below n (λ i. outward bend (x i))) ∙ by n
  where
    by : (n : ℕ) → rat_sum_by (above q) (list_below n (λ i. outward bend (x i))) ≡ rat_sum_below n (λ i. above q (outward bend (x i)))
    by zero = refl
    by (suc n) = rat_sum_by-++ (above q) (list_below n (λ i. outward bend (x i))) (outward bend (x n) ∷ []) ∙ ap₂ ◌+ℚ◌ (by n) (+ℚ_idr (above q (outward bend (x n))))

ordered_length : (bend : Bend) (n : ℕ) (x : ℕ → ℚ) → length (ordered bend n x) ≡ n
ordered_length bend n x = length-falling (list_below n (λ i. outward bend (x i))) ∙ length-list_below n (λ i. outward bend (x i))

-- any level bounds it
under_level : (bend : Bend) (k n : ℕ) (q : ℚ) (x : ℕ → ℚ) → k ≤ n → rat_sum (take k (ordered bend n x)) ≤ℚ whole (pos k) *ℚ q +ℚ excess bend n q x
under_level bend k n q x h =
    subst (λ z. rat_sum (take k (ordered bend n x)) ≤ℚ whole (pos k) *ℚ q +ℚ z) (excess_is bend n q x)
    (first-≤ k q (ordered bend n x) (subst (λ m. k ≤ m) (sym (ordered_length bend n x)) h))

-- and its own level is exact
pub at_level : (bend : Bend) (k n : ℕ) (x : ℕ → ℚ) → 1 ≤ k → k ≤ n →
    whole (pos k) *ℚ chosen_level bend k n x +ℚ excess bend n (chosen_level bend k n x) x ≡ rat_sum (take k (ordered bend n x))
at_level bend zero n x h l = absurd (omega arith)
at_level bend (suc k) n x h l =
    let e : suc k - 1 ≡ k = omega arith in
    let q = rat_at (ordered bend n x) k in
    rw e (ap (λ z. whole (pos (suc k)) *ℚ q +ℚ z) (sym (excess_is bend n q x))
    ∙ first-is k (ordered bend n x) (subst (λ m. k < m) (sym (ordered_length bend n x)) (omega arith)) (falling-falls (list_below n (λ i. outward bend (x i)))))

pub value_is : (bend : Bend) (k n : ℕ) (x : ℕ → ℚ) → rat_sum (chosen bend k n x) ≡ outward bend (rat_sum (take k (ordered bend n x)))
value_is bend k n x = turned_sum bend (take k (ordered bend n x))

-- ---- values
pub largest_formation : (bend : Bend) (k : ℕ) → SumsUp (largest_meaning bend k)
largest_formation bend k args sides is j b a = refl

All-take : (P : ℚ → Type 0) (k : ℕ) (xs : List ℚ) → All P xs → All P (take k xs)
All-take P zero xs h = All-nil P
All-take P (suc k) [] h = h
All-take P (suc k) (x ∷ xs) h = All-cons P x (take k xs) (All-head P x xs h) (All-take P k xs (All-tail P x xs h))

sum_nonneg : (xs : List ℚ) → All IsNonnegative xs → IsNonnegative (rat_sum xs)
sum_nonneg [] h = ≤ℚ_refl (whole (pos 0))
sum_nonneg (x ∷ xs) h = +ℚ-nonnegative (All-head IsNonnegative x xs h) (sum_nonneg xs (All-tail IsNonnegative x xs h))

sum_nonpos : (xs : List ℚ) → All (λ x. x ≤ℚ whole (pos 0)) xs → rat_sum xs ≤ℚ whole (pos 0)
sum_nonpos [] h = ≤ℚ_refl (whole (pos 0))
sum_nonpos (x ∷ xs) h = +ℚ-nonpositive (All-head (λ x. x ≤ℚ whole (pos 0)) x xs h) (sum_nonpos xs (All-tail (λ x. x ≤ℚ whole (pos 0)) x xs h))

-- what holds of each entry holds of each that is chosen
chosen_each : (P : ℚ → Type 0) (bend : Bend) (k n : ℕ) (x : ℕ → ℚ) → ((i : ℕ) → i < n → P (x i)) → All P (chosen bend k n x)
chosen_each P bend k n x h =
    All-map P (outward bend) (take k (ordered bend n x))
    (All-take (λ z. P (outward bend z)) k (ordered bend n x) (All-falling (λ z. P (outward bend z)) (list_below n (λ i. outward bend (x i)))
    (All-list_below (λ z. P (outward bend z)) n (λ i. outward bend (x i)) (λ i b. subst P (sym (turned_twice bend (x i))) (h i b)))))

pub largest_sign_law : (bend : Bend) (k : ℕ) → KeepsSign (largest_meaning bend k)
largest_sign_law bend k args sides is j b signs a l h =
    let n = entries_of (sides_at args 0) in
    record {
      nonneg = λ t. sum_nonneg (chosen bend k n (a 0)) (chosen_each IsNonnegative bend k n (a 0) (λ i _. (h 0 i).nonneg t));
      nonpos = λ t. sum_nonpos (chosen bend k n (a 0)) (chosen_each (λ x. x ≤ℚ whole (pos 0)) bend k n (a 0) (λ i _. (h 0 i).nonpos t));
    }

excess_goes : (bend : Bend) (n : ℕ) (q : ℚ) (x y : ℕ → ℚ) → ((i : ℕ) → i < n → outward bend (x i) ≤ℚ outward bend (y i)) → excess bend n q x ≤ℚ excess bend n q y
unfolding excess
excess_goes bend n q x y h = rat_sum_below-monotone n _ _ (λ i b. above-monotone q (h i b))

pub largest_monotonicity : (bend : Bend) (k : ℕ) → KeepsTrend (largest_meaning bend k)
largest_monotonicity bend k args sides is j below signs a b h f =
    let n = entries_of (sides_at args 0) in
    let w = is_chosen k args sides is in
    let most = most_entries k args sides w in
    let q = chosen_level bend k n (b 0) in
    let goes : rat_sum (take k (ordered bend n (a 0))) ≤ℚ rat_sum (take k (ordered bend n (b 0))) =
    subst (λ z. rat_sum (take k (ordered bend n (a 0))) ≤ℚ z) (at_level bend k n (b 0) w.some most)
    (≤ℚ_trans (under_level bend k n q (a 0) most)
    (+ℚ-≤ℚ (≤ℚ_refl (whole (pos k) *ℚ q)) (excess_goes bend n q (a 0) (b 0) (λ i _. of_beyond bend (a 0 i) (b 0 i) (follows_rising bend (a 0 i) (b 0 i) (f 0 i)))))) in
    subst (λ x. IsBeyond bend x (rat_sum (chosen bend k n (b 0)))) (sym (value_is bend k n (a 0)))
    (subst (λ y. IsBeyond bend (outward bend (rat_sum (take k (ordered bend n (a 0))))) y) (sym (value_is bend k n (b 0))) (beyond_of bend goes))

-- ---- the graph
convex_within : (x q u : ℚ) → whole (pos 1) *ℚ x +ℚ (whole (negsuc 0) *ℚ q +ℚ (whole (negsuc 0) *ℚ u +ℚ whole (pos 0))) ≤ℚ whole (pos 0) → x -ℚ q ≤ℚ u
convex_within x q u h = linear (x ∷ q ∷ u ∷ []) h (search reads depth 30) tt

concave_within : (x q u : ℚ) → whole (pos 1) *ℚ q +ℚ (whole (negsuc 0) *ℚ u +ℚ (whole (negsuc 0) *ℚ x +ℚ whole (pos 0))) ≤ℚ whole (pos 0) → neg_ℚ x -ℚ neg_ℚ q ≤ℚ u
concave_within x q u h = linear (x ∷ q ∷ u ∷ []) h (search reads depth 30) tt

-- where the row of an entry holds, its unknown is at least what stands above the level
row_within : (bend : Bend) (i : ℕ) (a : Entries) (t : Filling) → row_at (level_row bend i) a t ≤ℚ whole (pos 0) → IsNonnegative (t (suc i))
    → above (outward bend (t 0)) (outward bend (a 0 i)) ≤ℚ t (suc i)
row_within Convex i a t h n = rat_max-≤ℚ (convex_within (a 0 i) (t 0) (t (suc i)) h) n
row_within Concave i a t h n = rat_max-≤ℚ (concave_within (a 0 i) (t 0) (t (suc i)) h) n

convex_form : (m q u : ℚ) → m *ℚ q +ℚ whole (pos 1) *ℚ u ≡ m *ℚ q +ℚ u
convex_form m q u = ring (m ∷ q ∷ u ∷ []) (search reads depth 30) tt

concave_form : (m q u : ℚ) → m *ℚ q +ℚ neg_ℚ (whole (pos 1)) *ℚ u ≡ neg_ℚ (m *ℚ neg_ℚ q +ℚ u)
concave_form m q u = ring (m ∷ q ∷ u ∷ []) (search reads depth 30) tt

-- the form, as the call counts it
form_is : (bend : Bend) (k n : ℕ) (t : Filling) → form_at (level_form bend k n) t ≡ outward bend (whole (pos k) *ℚ outward bend (t 0) +ℚ rat_sum_below n (λ i. t (suc i)))
form_is bend k n t =
    ap (λ z. whole (pos k) *ℚ t 0 +ℚ z)
    (form-list_below n (λ i. record { aux = suc i; coefficient = outward bend (whole (pos 1)) }) t ∙ rat_sum_below-*ℚ n (outward bend (whole (pos 1))) (λ i. t (suc i)))
    ∙ by bend
  where
    by : (bend : Bend) → whole (pos k) *ℚ t 0 +ℚ outward bend (whole (pos 1)) *ℚ rat_sum_below n (λ i. t (suc i))
        ≡ outward bend (whole (pos k) *ℚ outward bend (t 0) +ℚ rat_sum_below n (λ i. t (suc i)))
    by Convex = convex_form (whole (pos k)) (t 0) (rat_sum_below n (λ i. t (suc i)))
    by Concave = concave_form (whole (pos k)) (t 0) (rat_sum_below n (λ i. t (suc i)))

excess_within : (bend : Bend) (n : ℕ) (q : ℚ) (x u : ℕ → ℚ) → ((i : ℕ) → i < n → above q (outward bend (x i)) ≤ℚ u i) → excess bend n q x ≤ℚ rat_sum_below n u
unfolding excess
excess_within bend n q x u h = rat_sum_below-monotone n _ u h

-- the first entry of a value of one entry
only_entry : (k : ℕ) (args : List Sides) (to : Sides) → IsChosen k args to → 0 < entries_of to
only_entry k args to f = subst (λ s. 0 < entries_of s) (sym f.is) (omega arith)

pub largest_soundness : (bend : Bend) (k : ℕ) → IsSoundGraph (largest_meaning bend k)
largest_soundness bend k args sides is a t holds j below =
    let n = entries_of (sides_at args 0) in
    let w = is_chosen k args sides is in
    let q = outward bend (t 0) in
    let rows = RowsHold-list_below_back n (level_row bend) a t (holds.rows j below) in
    let under : rat_sum (take k (ordered bend n (a 0))) ≤ℚ whole (pos k) *ℚ q +ℚ rat_sum_below n (λ i. t (suc i)) =
    ≤ℚ_trans (under_level bend k n q (a 0) (most_entries k args sides w))
    (+ℚ-≤ℚ (≤ℚ_refl (whole (pos k) *ℚ q)) (excess_within bend n q (a 0) (λ i. t (suc i))
    (λ i b. row_within bend i a t (rows i b) (holds.kinds (suc i) (get_or-replicate n i Nonneg Free b))))) in
    subst (λ x. IsBeyond bend x (form_at (level_form bend k n) t)) (sym (value_is bend k n (a 0)))
    (subst (λ y. IsBeyond bend (outward bend (rat_sum (take k (ordered bend n (a 0))))) y) (sym (form_is bend k n t)) (beyond_of bend under))

convex_holds : (x q u : ℚ) → x -ℚ q ≤ℚ u → whole (pos 1) *ℚ x +ℚ (whole (negsuc 0) *ℚ q +ℚ (whole (negsuc 0) *ℚ u +ℚ whole (pos 0))) ≤ℚ whole (pos 0)
convex_holds x q u h = linear (x ∷ q ∷ u ∷ []) h (search reads depth 30) tt

concave_holds : (x q u : ℚ) → neg_ℚ x -ℚ q ≤ℚ u → whole (pos 1) *ℚ neg_ℚ q +ℚ (whole (negsuc 0) *ℚ u +ℚ (whole (negsuc 0) *ℚ x +ℚ whole (pos 0))) ≤ℚ whole (pos 0)
concave_holds x q u h = linear (x ∷ q ∷ u ∷ []) h (search reads depth 30) tt

row_holds : (bend : Bend) (k n i : ℕ) (a : Entries) → row_at (level_row bend i) a (level_filling bend k n (a 0)) ≤ℚ whole (pos 0)
row_holds Convex k n i a =
    let q = chosen_level Convex k n (a 0) in convex_holds (a 0 i) q (above q (a 0 i)) (≤ℚ-rat_max_left (a 0 i -ℚ q) (whole (pos 0)))
row_holds Concave k n i a =
    let q = chosen_level Concave k n (a 0) in concave_holds (a 0 i) q (above q (neg_ℚ (a 0 i))) (≤ℚ-rat_max_left (neg_ℚ (a 0 i) -ℚ q) (whole (pos 0)))

filled_kinds : (bend : Bend) (k n : ℕ) (x : ℕ → ℚ) (u : ℕ) → slice_index_or (Free ∷ replicate n Nonneg) u Free ≡ Nonneg → IsNonnegative (level_filling bend k n x u)
filled_kinds bend k n x zero e = cc
filled_kinds bend k n x (suc i) e = above-nonneg (chosen_level bend k n x) (outward bend (x i))

filled_form : (bend : Bend) (k n : ℕ) (x : ℕ → ℚ) → 1 ≤ k → k ≤ n → form_at (level_form bend k n) (level_filling bend k n x) ≡ rat_sum (chosen bend k n x)
unfolding excess
filled_form bend k n x some most =
    let q = chosen_level bend k n x in
    form_is bend k n (level_filling bend k n x)
    ∙ ap (λ z. outward bend (whole (pos k) *ℚ z +ℚ rat_sum_below n (λ i. above q (outward bend (x i))))) (turned_twice bend q)
    ∙ ap (outward bend) (at_level bend k n x some most) ∙ sym (value_is bend k n x)

pub largest_tightness : (bend : Bend) (k : ℕ) → IsTightGraph (largest_meaning bend k)
largest_tightness bend k args sides is a =
    let n = entries_of (sides_at args 0) in
    let w = is_chosen k args sides is in
    record {
      holds = record {
        kinds = filled_kinds bend k n (a 0);
        rows = λ j b. RowsHold-list_below n (level_row bend) a (level_filling bend k n (a 0)) (λ i h. row_holds bend k n i a);
      };
      reaches = λ j b. filled_form bend k n (a 0) w.some (most_entries k args sides w);
    }

pub largest_curvature : (bend : Bend) (k : ℕ) → IsBent (largest_meaning bend k)
largest_curvature bend k = curvature_of (largest_meaning bend k) (largest_soundness bend k) (largest_tightness bend k)

pub largest_recession : (bend : Bend) (k : ℕ) → Recedes (largest_meaning bend k)
largest_recession bend k = recession_of (largest_meaning bend k) (largest_soundness bend k) (largest_tightness bend k)

-- ---- slopes
convex_slope : (w x : ℚ) → w *ℚ x ≡ w *ℚ (whole (pos 1) *ℚ x +ℚ (whole (negsuc 0) *ℚ whole (pos 0) +ℚ (whole (negsuc 0) *ℚ whole (pos 0) +ℚ whole (pos 0))))
convex_slope w x = ring (w ∷ x ∷ []) (search reads depth 30) tt

concave_slope : (w x : ℚ) → neg_ℚ w *ℚ x ≡ w *ℚ (whole (pos 1) *ℚ whole (pos 0) +ℚ (whole (negsuc 0) *ℚ whole (pos 0) +ℚ (whole (negsuc 0) *ℚ x +ℚ whole (pos 0))))
concave_slope w x = ring (w ∷ x ∷ []) (search reads depth 30) tt

row_slope : (bend : Bend) (w : ℚ) (i : ℕ) (a : Entries) → outward bend w *ℚ a 0 i ≡ w *ℚ row_at (level_row bend i) a no_filling
row_slope Convex w i a = convex_slope w (a 0 i)
row_slope Concave w i a = concave_slope w (a 0 i)

pub row_slopes : (bend : Bend) (k : ℕ) → AreRowSlopes (largest_meaning bend k)
row_slopes bend k [] sides is w a = cc
row_slopes bend k (s ∷ []) sides is w a =
    let f = is_chosen k (s ∷ []) sides is in
    ap (λ z. whole (pos 0) +ℚ z) (rat_sum_below-same (entries_of s) _ _ (λ e b. row_slope bend (w 0 e) e a) ∙ sym (weighted-list_below (entries_of s) (level_row bend) (w 0) a no_filling))
    ∙ ap (λ (r : Sides). rat_sum_below (entries_of r) (λ j. weighted (list_below (entries_of s) (level_row bend)) (w j) a no_filling)) (sym f.is)
row_slopes bend k (q ∷ r ∷ rs) sides is w a = cc

-- ---- what weights balance
convex_start : (c m q : ℚ) → c *ℚ m +ℚ neg_ℚ (whole (pos 0) *ℚ q) ≡ c *ℚ (m +ℚ whole (pos 0)) +ℚ whole (pos 0)
convex_start c m q = ring (c ∷ m ∷ q ∷ []) (search reads depth 30) tt

concave_start : (c m q : ℚ) → c *ℚ m +ℚ whole (pos 0) *ℚ q ≡ c *ℚ (m +ℚ whole (pos 0)) +ℚ whole (pos 0)
concave_start c m q = ring (c ∷ m ∷ q ∷ []) (search reads depth 30) tt

convex_more : (c m q s u r w v : ℚ) → c *ℚ m +ℚ neg_ℚ (s *ℚ q) ≤ℚ c *ℚ (m +ℚ u) +ℚ r → w ≤ℚ c → IsNonnegative v →
    c *ℚ m +ℚ neg_ℚ ((s +ℚ w) *ℚ q) ≤ℚ c *ℚ (m +ℚ (u +ℚ whole (pos 1) *ℚ v)) +ℚ (r +ℚ w *ℚ (whole (pos 1) *ℚ whole (pos 0) +ℚ (whole (negsuc 0) *ℚ q +ℚ (whole (negsuc 0) *ℚ v +ℚ whole (pos 0)))))
convex_more c m q s u r w v h hw hv = linear (c ∷ m ∷ q ∷ s ∷ u ∷ r ∷ w ∷ v ∷ []) (+ℚ-≤ℚ h (*ℚ-≤ℚ hv hw)) (search reads depth 40 fits 20000) tt

concave_more : (c m q s u r w v : ℚ) → c *ℚ m +ℚ s *ℚ q ≤ℚ c *ℚ (m +ℚ u) +ℚ r → w ≤ℚ neg_ℚ c → IsNonnegative v →
    c *ℚ m +ℚ (s +ℚ w) *ℚ q ≤ℚ c *ℚ (m +ℚ (u +ℚ neg_ℚ (whole (pos 1)) *ℚ v)) +ℚ (r +ℚ w *ℚ (whole (pos 1) *ℚ q +ℚ (whole (negsuc 0) *ℚ v +ℚ (whole (negsuc 0) *ℚ whole (pos 0) +ℚ whole (pos 0)))))
concave_more c m q s u r w v h hw hv = linear (c ∷ m ∷ q ∷ s ∷ u ∷ r ∷ w ∷ v ∷ []) (+ℚ-≤ℚ h (*ℚ-≤ℚ hv hw)) (search reads depth 40 fits 20000) tt

-- weights of at most c on unknowns of at least 0 leave at least the level's part
level_left : (bend : Bend) (n : ℕ) (c m : ℚ) (w : ℕ → ℚ) (t : Filling) → ((i : ℕ) → i < n → w i ≤ℚ outward bend c) → ((i : ℕ) → i < n → IsNonnegative (t (suc i))) →
    c *ℚ m +ℚ taken bend (rat_sum_below n w) (t 0) ≤ℚ
    c *ℚ (m +ℚ rat_sum_below n (λ i. outward bend (whole (pos 1)) *ℚ t (suc i))) +ℚ rat_sum_below n (λ i. w i *ℚ row_at (level_row bend i) no_entries t)
level_left Convex zero c m w t h k = ≤ℚ-from_≡ (convex_start c m (t 0))
level_left Concave zero c m w t h k = ≤ℚ-from_≡ (concave_start c m (t 0))
level_left Convex (suc n) c m w t h k =
    convex_more c m (t 0) _ _ _ (w n) (t (suc n)) (level_left Convex n c m w t (λ i b. h i (omega arith)) (λ i b. k i (omega arith))) (h n (omega arith)) (k n (omega arith))
level_left Concave (suc n) c m w t h k =
    concave_more c m (t 0) _ _ _ (w n) (t (suc n)) (level_left Concave n c m w t (λ i b. h i (omega arith)) (λ i b. k i (omega arith))) (h n (omega arith)) (k n (omega arith))

convex_level : (c m q : ℚ) → whole (pos 0) ≡ c *ℚ (m *ℚ q) +ℚ neg_ℚ ((m *ℚ c) *ℚ q)
convex_level c m q = ring (c ∷ m ∷ q ∷ []) (search reads depth 30) tt

concave_level : (c m q : ℚ) → whole (pos 0) ≡ c *ℚ (m *ℚ q) +ℚ (neg_ℚ m *ℚ c) *ℚ q
concave_level c m q = ring (c ∷ m ∷ q ∷ []) (search reads depth 30) tt

-- and weights that sum to k c leave nothing of it
level_balanced : (bend : Bend) (c m q s : ℚ) → s ≡ outward bend m *ℚ c → whole (pos 0) ≡ c *ℚ (m *ℚ q) +ℚ taken bend s q
level_balanced Convex c m q s e = convex_level c m q ∙ ap (λ z. c *ℚ (m *ℚ q) +ℚ neg_ℚ (z *ℚ q)) (sym e)
level_balanced Concave c m q s e = concave_level c m q ∙ ap (λ z. c *ℚ (m *ℚ q) +ℚ z *ℚ q) (sym e)

balanced_sum : (bend : Bend) (k n : ℕ) (c : ℚ) (w : ℕ → ℚ) (t : Filling) → ((i : ℕ) → i < n → w i ≤ℚ outward bend c) → rat_sum (list_below n w) ≡ outward bend (whole (pos k)) *ℚ c →
    ((i : ℕ) → i < n → IsNonnegative (t (suc i))) → IsNonnegative (c *ℚ form_at (level_form bend k n) t +ℚ weighted (list_below n (level_row bend)) w no_entries t)
balanced_sum bend k n c w t each total nonneg =
    subst (λ z. IsNonnegative (c *ℚ (whole (pos k) *ℚ t 0 +ℚ z) +ℚ weighted (list_below n (level_row bend)) w no_entries t))
    (sym (form-list_below n (λ i. record { aux = suc i; coefficient = outward bend (whole (pos 1)) }) t))
    (subst (λ z. IsNonnegative (c *ℚ (whole (pos k) *ℚ t 0 +ℚ rat_sum_below n (λ i. outward bend (whole (pos 1)) *ℚ t (suc i))) +ℚ z))
    (sym (weighted-list_below n (level_row bend) w no_entries t))
    (≤ℚ_trans (≤ℚ-from_≡ (level_balanced bend c (whole (pos k)) (t 0) (rat_sum_below n w) (sym (rat_sum-list_below n w) ∙ total))) (level_left bend n c (whole (pos k) *ℚ t 0) w t each nonneg)))

All-first : {A : Type 0} (P : A → Type 0) (xs ys : List A) → All P (xs ++ ys) → All P xs
All-first P [] ys h = All-nil P
All-first P (x ∷ xs) ys h = All-cons P x xs (All-head P x (xs ++ ys) h) (All-first P xs ys (All-tail P x (xs ++ ys) h))

All-rest : {A : Type 0} (P : A → Type 0) (xs ys : List A) → All P (xs ++ ys) → All P ys
All-rest P [] ys h = h
All-rest P (x ∷ xs) ys h = All-rest P xs ys (All-tail P x (xs ++ ys) h)

balanced : (bend : Bend) (k : ℕ) → AreBalanced (largest_meaning bend k)
balanced bend k args sides is c w accepted t kinds =
    let n = entries_of (sides_at args 0) in
    let f = is_chosen k args sides is in
    let met = accepted.conditions 0 (only_entry k args sides f) in
    let ws = list_below n (w 0) in
    let each = All-first IsMet (map (each_condition bend (c 0)) ws) (sum_condition bend k (c 0) ws ∷ []) met in
    let total = All-head IsMet (sum_condition bend k (c 0) ws) [] (All-rest IsMet (map (each_condition bend (c 0)) ws) (sum_condition bend k (c 0) ws ∷ []) met) in
    subst (λ (s : Sides). IsNonnegative (rat_sum_below (entries_of s) (λ j. c j *ℚ form_at (level_form bend k n) t +ℚ weighted (list_below n (level_row bend)) (w j) no_entries t))) (sym f.is)
    (subst IsNonnegative (sym (+ℚ_idl _))
    (balanced_sum bend k n (c 0) (w 0) t
    (λ i b. All-at IsMet n (λ i. each_condition bend (c 0) (w 0 i)) (subst (All IsMet) (map-list_below n (w 0) (each_condition bend (c 0))) each) i b) total
    (λ i b. kinds (suc i) (get_or-replicate n i Nonneg Free b))))

pub largest_subgradient : (bend : Bend) (k : ℕ) → HasSubgradients (largest_meaning bend k)
largest_subgradient bend k = subgradient_of (largest_meaning bend k) (largest_tightness bend k) (row_slopes bend k) (balanced bend k)
