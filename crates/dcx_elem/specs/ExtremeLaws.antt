-- The laws of the greatest and the least.
use Rattle.std.proofs.Common.{◌≡◌, ℕ, zero, suc, ◌<◌, ◌==◌, ◌&&◌, ◌||◌, arith, Bool, true, false, if◌then◌else◌, List, [], ◌∷◌, map, length, Some, None, refl, sym, ap, ap₂, ◌∙◌, subst, pos, negsuc}
use Rattle.std.specs.List.{list_any, list_all}
use Rattle.std.proofs.lemmas.Bool.{eqb-true, and_parts}
use Rattle.std.proofs.lemmas.List.Elements.{All-head}
use Rattle.dcx_math.specs.Rational.{ℚ, whole, neg_ℚ, ◌+ℚ◌, ◌*ℚ◌}
use Rattle.dcx_math.specs.Sums.{IsNonnegative, rat_sum, rat_sum_below}
use Rattle.dcx_math.proofs.Ring.{ring, reads}
use Rattle.dcx_math.proofs.Orders.{≤ℚ_trans, +ℚ_idr, *ℚ_idl}
use Rattle.dcx_math.proofs.Sums.{rat_sum_below-same, rat_sum_below-nonnegative, rat_sum_below-exchange}
use Rattle.dcx_shape.specs.declared.shape.Sides.{Sides}
use Rattle.dcx_shape.specs.declared.shape.Sides.TheVariants.{Scalar, Vector, Matrix}
use Rattle.dcx_shape.specs.Sides.{entries_of}
use Rattle.dcx_atom.specs.declared.flags.Sign.{Sign}
use Rattle.dcx_atom.specs.declared.flags.Bend.{Bend}
use Rattle.dcx_atom.specs.declared.flags.Bend.TheVariants.{Convex, Concave}
use Rattle.dcx_atom.specs.Arrays.{Entries, list_below, sides_at, same_sides}
use Rattle.dcx_atom.specs.Signs.{sign_at, IsBeyond}
use Rattle.dcx_atom.specs.Rows.{row_at, form_at, RowsHold, weighted}
use Rattle.dcx_atom.specs.Meaning.{IsMet}
use Rattle.dcx_atom.specs.Laws.{SumsUp, KeepsSign, KeepsTrend, IsBent, IsSoundGraph, IsTightGraph, HasSubgradients, Recedes}
use Rattle.dcx_atom.proofs.Sublinear.{curvature_of, recession_of}
use Rattle.dcx_atom.specs.Duality.{no_entries, no_filling, AreRowSlopes, AreBalanced}
use Rattle.dcx_atom.proofs.Duality.{subgradient_of}
use Rattle.dcx_atom.proofs.LinearSums.{follows_rising, All-list_below}
use Rattle.dcx_atom.specs.Bounding.{argument_term, bound_row, outward, unknown_form, free_kinds}
use Rattle.dcx_atom.proofs.BoundRows.{map-list_below, length-list_below, All-at, RowsHold-list_below, weighted-list_below, beyond_of_rows, row_of_beyond, alone_is, free_balanced}
use Rattle.dcx_atom.specs.Farthest.{extreme, beyond_trans, extreme_each, extreme_within}
use Rattle.dcx_elem.specs.Extremes.{alike, extreme_meaning}

-- ---- arguments of one shape
-- sides that pass the test are the same
same_is : (s r : Sides) → same_sides s r ≡ true → r ≡ s
same_is Scalar Scalar e = refl
same_is Scalar (Vector n) e = cc
same_is Scalar (Matrix m n) e = cc
same_is (Vector n) Scalar e = cc
same_is (Vector n) (Vector k) e = ap Vector (sym (eqb-true n k e))
same_is (Vector n) (Matrix m k) e = cc
same_is (Matrix m n) Scalar e = cc
same_is (Matrix m n) (Vector k) e = cc
same_is (Matrix m n) (Matrix k l) e = let p = and_parts (m == k) (n == l) e in ap₂ Matrix (sym (eqb-true m k p.0)) (sym (eqb-true n l p.1))

-- as many arguments as the call takes, two or more, all of these sides
pub record AreAlike (count : ℕ) (args : List Sides) (s : Sides) : Type 0 where
  pub count_is : count ≡ length args
  pub some : 1 < length args
  pub first : sides_at args 0 ≡ s
  pub each : (i : ℕ) → i < length args → sides_at args i ≡ s

each_same : (s : Sides) (rs : List Sides) → list_all (same_sides s) rs ≡ true → (i : ℕ) → i < length rs → sides_at rs i ≡ s
each_same s [] e i b = absurd (omega arith)
each_same s (r ∷ rs) e zero b = same_is s r (and_parts (same_sides s r) (list_all (same_sides s) rs) e).0
each_same s (r ∷ rs) e (suc i) b = each_same s rs (and_parts (same_sides s r) (list_all (same_sides s) rs) e).1 i (omega arith)

pub alike_are : (count : ℕ) (args : List Sides) (s : Sides) → alike count args ≡ Some s → AreAlike count args s
alike_are count [] s e = cc
alike_are count (r ∷ []) s e = cc
alike_are count (r ∷ q ∷ qs) s e = by (count == length (r ∷ q ∷ qs)) (list_all (same_sides r) (r ∷ q ∷ qs)) refl refl e
  where
    by : (a b : Bool) → count == length (r ∷ q ∷ qs) ≡ a → list_all (same_sides r) (r ∷ q ∷ qs) ≡ b → (if a && b then Some r else None) ≡ Some s → AreAlike count (r ∷ q ∷ qs) s
    by true true f g h =
        let k : r ≡ s = cc in
        record { count_is = eqb-true count (length (r ∷ q ∷ qs)) f; some = omega arith; first = k; each = λ i b. each_same r (r ∷ q ∷ qs) g i b ∙ k }
    by true false f g h = cc
    by false b f g h = cc

-- ---- signs
all_each : (p : Sign → Bool) (signs : List Sign) → list_all p signs ≡ true → (i : ℕ) → i < length signs → p (sign_at signs i) ≡ true
all_each p [] e i b = absurd (omega arith)
all_each p (s ∷ signs) e zero b = (and_parts (p s) (list_all p signs) e).0
all_each p (s ∷ signs) e (suc i) b = all_each p signs (and_parts (p s) (list_all p signs) e).1 i (omega arith)

-- what follows of each argument that passes a test follows where some does
any_of : (p : Sign → Bool) (signs : List Sign) (Q : Type 0) → list_any p signs ≡ true → ((i : ℕ) → i < length signs → p (sign_at signs i) ≡ true → Q) → Q
any_of p [] Q e f = cc
any_of p (s ∷ signs) Q e f = by (λ k. any_of p signs Q k (λ i b h. f (suc i) (omega arith) h)) (p s) refl e
  where
    by : (list_any p signs ≡ true → Q) → (b : Bool) → p s ≡ b → b || list_any p signs ≡ true → Q
    by rest true h k = f 0 (omega arith) h
    by rest false h k = rest k

-- ---- the laws
-- the value is beyond each argument's entry
each_argument : (bend : Bend) (count : ℕ) (a : Entries) (j i : ℕ) → i < count → IsBeyond bend (a i j) (extreme bend (list_below count (λ k. a k j)))
each_argument bend count a j i b =
    All-at (λ x. IsBeyond bend x (extreme bend (list_below count (λ k. a k j)))) count (λ k. a k j) (extreme_each bend (list_below count (λ k. a k j))) i b

-- and what is beyond each of them is beyond the value
all_arguments : (bend : Bend) (count : ℕ) (a : Entries) (j : ℕ) (z : ℚ) → 0 < count → ((i : ℕ) → i < count → IsBeyond bend (a i j) z) →
    IsBeyond bend (extreme bend (list_below count (λ k. a k j))) z
all_arguments bend count a j z n h =
    extreme_within bend (list_below count (λ k. a k j)) z (subst (λ k. 0 < k) (sym (length-list_below count (λ k. a k j))) n) (All-list_below (λ x. IsBeyond bend x z) count (λ k. a k j) h)

pub extreme_formation : (bend : Bend) (count : ℕ) → SumsUp (extreme_meaning bend count)
extreme_formation bend count args sides is j b a = sym (+ℚ_idr (extreme bend (list_below count (λ i. a i j))))

pub extreme_sign_law : (bend : Bend) (count : ℕ) → KeepsSign (extreme_meaning bend count)
extreme_sign_law Convex count args sides is j b signs a n h =
    let alike = alike_are count args sides is in
    record {
      nonneg = λ t. any_of (λ s. s.nonneg) signs _ t (λ i l p. ≤ℚ_trans ((h i j).nonneg p) (each_argument Convex count a j i (omega (arith, alike.count_is))));
      nonpos = λ t. all_arguments Convex count a j (whole (pos 0)) (omega (arith, alike.count_is, alike.some))
          (λ i l. (h i j).nonpos (all_each (λ s. s.nonpos) signs t i (omega (arith, alike.count_is))));
    }
extreme_sign_law Concave count args sides is j b signs a n h =
    let alike = alike_are count args sides is in
    record {
      nonneg = λ t. all_arguments Concave count a j (whole (pos 0)) (omega (arith, alike.count_is, alike.some))
          (λ i l. (h i j).nonneg (all_each (λ s. s.nonneg) signs t i (omega (arith, alike.count_is))));
      nonpos = λ t. any_of (λ s. s.nonpos) signs _ t (λ i l p. ≤ℚ_trans (each_argument Concave count a j i (omega (arith, alike.count_is))) ((h i j).nonpos p));
    }

pub extreme_monotonicity : (bend : Bend) (count : ℕ) → KeepsTrend (extreme_meaning bend count)
extreme_monotonicity bend count args sides is j below signs a b h f =
    let alike = alike_are count args sides is in
    all_arguments bend count a j (extreme bend (list_below count (λ i. b i j))) (omega (arith, alike.count_is, alike.some))
    (λ i l. beyond_trans bend _ _ _ (follows_rising bend (a i j) (b i j) (f i j)) (each_argument bend count b j i l))

-- the rows of an entry, as those of a list of arguments
pub rows_are : (bend : Bend) (count j : ℕ) → list_below count (λ i. bound_row bend j (argument_term i j (whole (pos 1)))) ≡
    map (λ i. bound_row bend j (argument_term i j (whole (pos 1)))) (list_below count (λ i. i))
rows_are bend count j = sym (map-list_below count (λ i. i) (λ i. bound_row bend j (argument_term i j (whole (pos 1)))))

pub extreme_soundness : (bend : Bend) (count : ℕ) → IsSoundGraph (extreme_meaning bend count)
extreme_soundness bend count args sides is a t holds j below =
    let alike = alike_are count args sides is in
    let rows = beyond_of_rows bend j (λ i. argument_term i j (whole (pos 1))) (list_below count (λ i. i)) a t (subst (λ rows. RowsHold rows a t) (rows_are bend count j) (holds.rows j below)) in
    subst (λ y. IsBeyond bend (extreme bend (list_below count (λ i. a i j))) y) (sym (alone_is (t j)))
    (all_arguments bend count a j (t j) (omega (arith, alike.count_is, alike.some))
    (λ i l. subst (λ y. IsBeyond bend y (t j)) (*ℚ_idl (a i j))
    (All-at (λ i. IsBeyond bend (whole (pos 1) *ℚ a i j) (t j)) count (λ i. i) rows i l)))

pub extreme_tightness : (bend : Bend) (count : ℕ) → IsTightGraph (extreme_meaning bend count)
extreme_tightness bend count args sides is a = record {
  holds = record {
    kinds = λ k e. absurd (free_kinds (entries_of (sides_at args 0)) k e);
    rows = λ j b. RowsHold-list_below count (λ i. bound_row bend j (argument_term i j (whole (pos 1)))) a (λ k. extreme bend (list_below count (λ i. a i k)))
        (λ i l. row_of_beyond bend j (argument_term i j (whole (pos 1))) a (λ k. extreme bend (list_below count (λ i. a i k)))
        (subst (λ y. IsBeyond bend y (extreme bend (list_below count (λ i. a i j)))) (sym (*ℚ_idl (a i j))) (each_argument bend count a j i l)));
  };
  reaches = λ j b. alone_is (extreme bend (list_below count (λ i. a i j)));
}

pub extreme_curvature : (bend : Bend) (count : ℕ) → IsBent (extreme_meaning bend count)
extreme_curvature bend count = curvature_of (extreme_meaning bend count) (extreme_soundness bend count) (extreme_tightness bend count)

pub extreme_recession : (bend : Bend) (count : ℕ) → Recedes (extreme_meaning bend count)
extreme_recession bend count = recession_of (extreme_meaning bend count) (extreme_soundness bend count) (extreme_tightness bend count)

-- a weighted row over the argument alone
greatest_slope : (w x : ℚ) → w *ℚ x ≡ w *ℚ (whole (pos 1) *ℚ x +ℚ (whole (negsuc 0) *ℚ whole (pos 0) +ℚ whole (pos 0)))
greatest_slope w x = ring (w ∷ x ∷ []) (search reads depth 30) tt

least_slope : (w x : ℚ) → neg_ℚ w *ℚ x ≡ w *ℚ (whole (pos 1) *ℚ whole (pos 0) +ℚ (neg_ℚ (whole (pos 1)) *ℚ x +ℚ whole (pos 0)))
least_slope w x = ring (w ∷ x ∷ []) (search reads depth 30) tt

row_slope : (bend : Bend) (w : ℚ) (a : Entries) (i j : ℕ) → outward bend w *ℚ a i j ≡ w *ℚ row_at (bound_row bend j (argument_term i j (whole (pos 1)))) a no_filling
row_slope Convex w a i j = greatest_slope w (a i j)
row_slope Concave w a i j = least_slope w (a i j)

pub row_slopes : (bend : Bend) (count : ℕ) → AreRowSlopes (extreme_meaning bend count)
row_slopes bend count args sides is w a =
    let alike = alike_are count args sides is in
    let n = entries_of sides in
    let term = λ (i j : ℕ). w j i *ℚ row_at (bound_row bend j (argument_term i j (whole (pos 1)))) a no_filling in
    rat_sum_below-same (length args) _ _
    (λ i l. ap (λ s. rat_sum_below (entries_of s) (λ e. outward bend (w e i) *ℚ a i e)) (alike.each i l) ∙ rat_sum_below-same n _ _ (λ j b. row_slope bend (w j i) a i j))
    ∙ ap (λ k. rat_sum_below k (λ i. rat_sum_below n (term i))) (sym alike.count_is)
    ∙ rat_sum_below-exchange count n term
    ∙ sym (rat_sum_below-same n _ _ (λ j b. weighted-list_below count (λ i. bound_row bend j (argument_term i j (whole (pos 1)))) (w j) a no_filling))

balanced : (bend : Bend) (count : ℕ) → AreBalanced (extreme_meaning bend count)
balanced bend count args sides is c w accepted t kinds =
    rat_sum_below-nonnegative (entries_of sides) _ (λ j b.
    let met = All-head IsMet _ [] (accepted.conditions j b) in
    subst (λ rows. IsNonnegative (c j *ℚ form_at (unknown_form j) t +ℚ weighted rows (w j) no_entries t)) (sym (rows_are bend count j))
    (free_balanced bend j (c j) (λ i. argument_term i j (whole (pos 1))) (list_below count (λ i. i)) (w j) t (λ i. refl)
    (ap (λ k. rat_sum (list_below k (w j))) (length-list_below count (λ i. i)) ∙ met)))

pub extreme_subgradient : (bend : Bend) (count : ℕ) → HasSubgradients (extreme_meaning bend count)
extreme_subgradient bend count = subgradient_of (extreme_meaning bend count) (extreme_tightness bend count) (row_slopes bend count) (balanced bend count)
