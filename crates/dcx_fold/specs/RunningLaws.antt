-- The laws of the running maximum.
use Rattle.std.proofs.Common.{◌≡◌, ⊎_elim, ℕ, zero, suc, ◌<◌, arith, Bool, true, false, if◌then◌else◌, List, [], ◌∷◌, Some, refl, sym, ap, ◌∙◌, subst, pos, negsuc}
use Rattle.std.specs.Prelude.{nat_lt}
use Rattle.std.proofs.lemmas.Bool.{lt-ltb, ltb-true}
use Rattle.std.proofs.lemmas.List.Elements.{All-head}
use Rattle.dcx_math.specs.Rational.{ℚ, whole, neg_ℚ, ◌+ℚ◌, ◌*ℚ◌, ◌≤ℚ◌}
use Rattle.dcx_math.specs.Sums.{IsNonnegative, rat_sum, rat_sum_below}
use Rattle.dcx_math.proofs.Ring.{ring, reads}
use Rattle.dcx_math.proofs.Orders.{≤ℚ_trans, ≤ℚ-from_≡, +ℚ_idl, +ℚ_idr, *ℚ_idl, zero-*ℚ, neg_ℚ-zero}
use Rattle.dcx_math.proofs.Sums.{rat_sum_below-same}
use Rattle.dcx_shape.specs.declared.shape.Sides.{Sides}
use Rattle.dcx_shape.specs.declared.shape.Sides.TheVariants.{Scalar, Vector, Matrix}
use Rattle.dcx_shape.specs.Sides.{entries_of}
use Rattle.dcx_atom.specs.declared.flags.Bend.TheVariants.{Convex}
use Rattle.dcx_atom.specs.Arrays.{Entries, sides_at}
use Rattle.dcx_atom.specs.Signs.{sign_at}
use Rattle.dcx_atom.specs.Rows.{Filling, form_at, RowsHold, weighted}
use Rattle.dcx_atom.specs.Meaning.{IsMet}
use Rattle.dcx_atom.specs.Laws.{SumsUp, KeepsSign, KeepsTrend, IsBent, IsSoundGraph, IsTightGraph, HasSubgradients, Recedes}
use Rattle.dcx_atom.specs.Bounding.{argument_term, unknown_term, unknown_form, free_kinds}
use Rattle.dcx_atom.proofs.Sublinear.{curvature_of, recession_of}
use Rattle.dcx_atom.specs.Duality.{no_entries, no_filling, AreRowSlopes, AreBalanced}
use Rattle.dcx_atom.proofs.Duality.{subgradient_of}
use Rattle.dcx_atom.proofs.LinearSums.{follows_rising}
use Rattle.dcx_atom.proofs.BoundRows.{beyond_of_row, row_of_beyond, alone_is, below_or_last}
use Rattle.dcx_fold.specs.FoldLaws.{each_beyond, all_beyond, extreme_goes, extreme_signed, greatest_slope}
use Rattle.dcx_fold.specs.Running.{only_vector, greatest_so_far, running_rows, own_weights, next_weights, running_condition, running_meaning}

-- the only argument is a vector
pub record IsRunning (args : List Sides) (to : Sides) : Type 0 where
  pub count : ℕ
  pub only : args ≡ Vector count ∷ []
  pub is : to ≡ Vector count

pub is_running : (args : List Sides) (to : Sides) → only_vector args ≡ Some to → IsRunning args to
is_running [] to e = cc
is_running (Scalar ∷ []) to e = cc
is_running (Vector n ∷ []) to e = record { count = n; only = refl; is = cc }
is_running (Matrix m n ∷ []) to e = cc
is_running (s ∷ r ∷ rs) to e = cc

pub running_formation : SumsUp running_meaning
running_formation args sides is j b a = sym (+ℚ_idr (greatest_so_far (a 0) j))

pub running_sign_law : KeepsSign running_meaning
running_sign_law args sides is j b signs a n h = extreme_signed Convex (sign_at signs 0) (suc j) (a 0) (λ i _. h 0 i)

pub running_monotonicity : KeepsTrend running_meaning
running_monotonicity args sides is j below signs a b h f =
    extreme_goes Convex (suc j) (a 0) (b 0) (omega arith) (λ i _. follows_rising Convex (a 0 i) (b 0 i) (f 0 i))

-- ---- the graph
-- where the rows up to entry j hold, unknown j is at least each entry so far
carried : (j : ℕ) (a : Entries) (t : Filling) → ((k : ℕ) → k < suc j → RowsHold (running_rows k) a t) → (i : ℕ) → i < suc j → a 0 i ≤ℚ t j
carried zero a t h i b =
    let e : i ≡ 0 = omega arith in
    subst (λ k. a 0 k ≤ℚ t 0) (sym e) (subst (λ y. y ≤ℚ t 0) (*ℚ_idl (a 0 0)) (beyond_of_row Convex 0 (argument_term 0 0 (whole (pos 1))) a t (h 0 (omega arith)).0))
carried (suc j) a t h i b =
    let rows = h (suc j) (omega arith) in
    let on = subst (λ y. y ≤ℚ t (suc j)) (*ℚ_idl (t j)) (beyond_of_row Convex (suc j) (unknown_term j (whole (pos 1))) a t rows.1.0) in
    let own = subst (λ y. y ≤ℚ t (suc j)) (*ℚ_idl (a 0 (suc j))) (beyond_of_row Convex (suc j) (argument_term 0 (suc j) (whole (pos 1))) a t rows.0) in
    let before = carried j a t (λ k l. h k (omega arith)) i in
    ⊎_elim (λ l. ≤ℚ_trans (before l) on) (λ e. subst (λ k. a 0 k ≤ℚ t (suc j)) (sym e) own) (below_or_last i (suc j) b)

pub running_soundness : IsSoundGraph running_meaning
running_soundness args sides is a t holds j below =
    subst (λ y. greatest_so_far (a 0) j ≤ℚ y) (sym (alone_is (t j)))
    (all_beyond Convex (suc j) (a 0) (t j) (omega arith) (carried j a t (λ k b. holds.rows k (omega arith))))

running_rows_hold : (j : ℕ) (a : Entries) → RowsHold (running_rows j) a (greatest_so_far (a 0))
running_rows_hold zero a = (
  row_of_beyond Convex 0 (argument_term 0 0 (whole (pos 1))) a (greatest_so_far (a 0))
      (subst (λ y. y ≤ℚ greatest_so_far (a 0) 0) (sym (*ℚ_idl (a 0 0))) (each_beyond Convex 1 (a 0) 0 (omega arith))),
  tt,
)
running_rows_hold (suc j) a = (
  row_of_beyond Convex (suc j) (argument_term 0 (suc j) (whole (pos 1))) a (greatest_so_far (a 0))
      (subst (λ y. y ≤ℚ greatest_so_far (a 0) (suc j)) (sym (*ℚ_idl (a 0 (suc j)))) (each_beyond Convex (suc (suc j)) (a 0) (suc j) (omega arith))),
  (
    row_of_beyond Convex (suc j) (unknown_term j (whole (pos 1))) a (greatest_so_far (a 0))
        (subst (λ y. y ≤ℚ greatest_so_far (a 0) (suc j)) (sym (*ℚ_idl (greatest_so_far (a 0) j)))
        (all_beyond Convex (suc j) (a 0) (greatest_so_far (a 0) (suc j)) (omega arith) (λ i b. each_beyond Convex (suc (suc j)) (a 0) i (omega arith)))),
    tt,
  ),
)

pub running_tightness : IsTightGraph running_meaning
running_tightness args sides is a = record {
  holds = record {
    kinds = λ k e. absurd (free_kinds (entries_of (sides_at args 0)) k e);
    rows = λ j b. running_rows_hold j a;
  };
  reaches = λ j b. alone_is (greatest_so_far (a 0) j);
}

pub running_curvature : IsBent running_meaning
running_curvature = curvature_of running_meaning running_soundness running_tightness

pub running_recession : Recedes running_meaning
running_recession = recession_of running_meaning running_soundness running_tightness

-- ---- slopes
next_slope : (w v x : ℚ) → w *ℚ x ≡ w *ℚ (whole (pos 1) *ℚ x +ℚ (whole (negsuc 0) *ℚ whole (pos 0) +ℚ whole (pos 0)))
    +ℚ (v *ℚ (whole (pos 1) *ℚ whole (pos 0) +ℚ (whole (negsuc 0) *ℚ whole (pos 0) +ℚ whole (pos 0))) +ℚ whole (pos 0))
next_slope w v x = ring (w ∷ v ∷ x ∷ []) (search reads depth 30) tt

slope_of_entry : (j : ℕ) (w : ℕ → ℚ) (a : Entries) → w 0 *ℚ a 0 j ≡ weighted (running_rows j) w a no_filling
slope_of_entry zero w a = greatest_slope (w 0) (a 0 0)
slope_of_entry (suc j) w a = next_slope (w 0) (w 1) (a 0 (suc j))

pub row_slopes : AreRowSlopes running_meaning
row_slopes [] sides is w a = cc
row_slopes (Scalar ∷ []) sides is w a = cc
row_slopes (Vector n ∷ []) sides is w a =
    let e : Vector n ≡ sides = cc in
    +ℚ_idl _ ∙ rat_sum_below-same n _ _ (λ j b. slope_of_entry j (w j) a)
    ∙ ap (λ s. rat_sum_below (entries_of s) (λ j. weighted (running_rows j) (w j) a no_filling)) e
row_slopes (Matrix m n ∷ []) sides is w a = cc
row_slopes (s ∷ r ∷ rs) sides is w a = cc

-- ---- what weights balance
-- the weight that is carried on from entry j
unfoldable pub carry : ℕ → (ℕ → ℕ → ℚ) → ℕ → ℚ
carry n w j = rat_sum (next_weights n w j)

pub carry_on : (n j : ℕ) (w : ℕ → ℕ → ℚ) → suc j < n → carry n w j ≡ w (suc j) 1
unfolding carry
carry_on n j w h = by (nat_lt (suc j) n) (lt-ltb (suc j) n h)
  where
    by : (b : Bool) → b ≡ true → rat_sum (if b then w (suc j) 1 ∷ [] else []) ≡ w (suc j) 1
    by true e = +ℚ_idr (w (suc j) 1)
    by false e = cc

pub carry_none : (j : ℕ) (w : ℕ → ℕ → ℚ) → carry (suc j) w j ≡ whole (pos 0)
unfolding carry
carry_none j w = by (nat_lt (suc j) (suc j)) refl
  where
    by : (b : Bool) → nat_lt (suc j) (suc j) ≡ b → rat_sum (if b then w (suc j) 1 ∷ [] else []) ≡ whole (pos 0)
    by true e = let below = ltb-true (suc j) (suc j) e in absurd (omega (arith, below))
    by false e = refl

-- coefficient times result with the weighted rows, of the unknowns alone
unfoldable pub left_of : (c : ℕ → ℚ) (w : ℕ → ℕ → ℚ) (t : Filling) (j : ℕ) → ℚ
left_of c w t j = c j *ℚ form_at (unknown_form j) t +ℚ weighted (running_rows j) (w j) no_entries t

first_left : (c w v t : ℚ) → w +ℚ whole (pos 0) ≡ c +ℚ v →
    whole (pos 0) +ℚ (c *ℚ (whole (pos 1) *ℚ t +ℚ whole (pos 0)) +ℚ (w *ℚ (whole (pos 1) *ℚ whole (pos 0) +ℚ (whole (negsuc 0) *ℚ t +ℚ whole (pos 0))) +ℚ whole (pos 0))) ≡ neg_ℚ (v *ℚ t)
first_left c w v t e = spread c w t ∙ ap (λ x. c *ℚ t +ℚ neg_ℚ (x *ℚ t)) (sym (+ℚ_idr w) ∙ e) ∙ drop c v t
  where
    spread : (c w t : ℚ) → whole (pos 0) +ℚ (c *ℚ (whole (pos 1) *ℚ t +ℚ whole (pos 0))
        +ℚ (w *ℚ (whole (pos 1) *ℚ whole (pos 0) +ℚ (whole (negsuc 0) *ℚ t +ℚ whole (pos 0))) +ℚ whole (pos 0))) ≡ c *ℚ t +ℚ neg_ℚ (w *ℚ t)
    spread c w t = ring (c ∷ w ∷ t ∷ []) (search reads depth 30) tt

    drop : (c v t : ℚ) → c *ℚ t +ℚ neg_ℚ ((c +ℚ v) *ℚ t) ≡ neg_ℚ (v *ℚ t)
    drop c v t = ring (c ∷ v ∷ t ∷ []) (search reads depth 30) tt

next_left : (c w u v s t : ℚ) → w +ℚ (u +ℚ whole (pos 0)) ≡ c +ℚ v →
    neg_ℚ (u *ℚ s) +ℚ (c *ℚ (whole (pos 1) *ℚ t +ℚ whole (pos 0)) +ℚ (w *ℚ (whole (pos 1) *ℚ whole (pos 0) +ℚ (whole (negsuc 0) *ℚ t +ℚ whole (pos 0)))
    +ℚ (u *ℚ (whole (pos 1) *ℚ s +ℚ (whole (negsuc 0) *ℚ t +ℚ whole (pos 0))) +ℚ whole (pos 0)))) ≡ neg_ℚ (v *ℚ t)
next_left c w u v s t e = spread c w u s t ∙ ap (λ x. c *ℚ t +ℚ neg_ℚ (x *ℚ t)) e ∙ drop c v t
  where
    spread : (c w u s t : ℚ) → neg_ℚ (u *ℚ s) +ℚ (c *ℚ (whole (pos 1) *ℚ t +ℚ whole (pos 0)) +ℚ (w *ℚ (whole (pos 1) *ℚ whole (pos 0) +ℚ (whole (negsuc 0) *ℚ t +ℚ whole (pos 0)))
        +ℚ (u *ℚ (whole (pos 1) *ℚ s +ℚ (whole (negsuc 0) *ℚ t +ℚ whole (pos 0))) +ℚ whole (pos 0)))) ≡ c *ℚ t +ℚ neg_ℚ ((w +ℚ (u +ℚ whole (pos 0))) *ℚ t)
    spread c w u s t = ring (c ∷ w ∷ u ∷ s ∷ t ∷ []) (search reads depth 40 fits 20000) tt

    drop : (c v t : ℚ) → c *ℚ t +ℚ neg_ℚ ((c +ℚ v) *ℚ t) ≡ neg_ℚ (v *ℚ t)
    drop c v t = ring (c ∷ v ∷ t ∷ []) (search reads depth 30) tt

-- what is left of the first entries is the part that is carried on
left_so_far : (n m : ℕ) (c : ℕ → ℚ) (w : ℕ → ℕ → ℚ) (t : Filling) → m < n → ((j : ℕ) → j < n → rat_sum (own_weights j (w j)) ≡ c j +ℚ carry n w j) →
    rat_sum_below (suc m) (left_of c w t) ≡ neg_ℚ (carry n w m *ℚ t m)
unfolding left_of
left_so_far n zero c w t h met = first_left (c 0) (w 0 0) (carry n w 0) (t 0) (met 0 h)
left_so_far n (suc m) c w t h met =
    ap (λ x. x +ℚ left_of c w t (suc m)) (left_so_far n m c w t (omega arith) met ∙ ap (λ v. neg_ℚ (v *ℚ t m)) (carry_on n m w h))
    ∙ next_left (c (suc m)) (w (suc m) 0) (w (suc m) 1) (carry n w (suc m)) (t m) (t (suc m)) (met (suc m) h)

nothing_left : (n : ℕ) (c : ℕ → ℚ) (w : ℕ → ℕ → ℚ) (t : Filling) → ((j : ℕ) → j < n → rat_sum (own_weights j (w j)) ≡ c j +ℚ carry n w j) → rat_sum_below n (left_of c w t) ≡ whole (pos 0)
nothing_left zero c w t met = refl
nothing_left (suc m) c w t met = left_so_far (suc m) m c w t (omega arith) met ∙ ap (λ v. neg_ℚ (v *ℚ t m)) (carry_none m w) ∙ ap neg_ℚ (zero-*ℚ (t m)) ∙ neg_ℚ-zero

balanced : AreBalanced running_meaning
unfolding carry left_of
balanced [] sides is c w accepted t kinds = cc
balanced (Scalar ∷ []) sides is c w accepted t kinds = cc
balanced (Vector n ∷ []) sides is c w accepted t kinds =
    let e : Vector n ≡ sides = cc in
    let met : (j : ℕ) → j < n → rat_sum (own_weights j (w j)) ≡ c j +ℚ rat_sum (next_weights n w j) =
    λ j b. All-head IsMet (running_condition n (c j) w j) [] (accepted.conditions j (subst (λ s. j < entries_of s) e b)) in
    subst (λ s. IsNonnegative (rat_sum_below (entries_of s) (λ j. c j *ℚ form_at (unknown_form j) t +ℚ weighted (running_rows j) (w j) no_entries t))) e
    (≤ℚ-from_≡ (sym (nothing_left n c w t met)))
balanced (Matrix m n ∷ []) sides is c w accepted t kinds = cc
balanced (s ∷ r ∷ rs) sides is c w accepted t kinds = cc

pub running_subgradient : HasSubgradients running_meaning
running_subgradient = subgradient_of running_meaning running_tightness row_slopes balanced
