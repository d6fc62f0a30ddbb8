-- The laws of the magnitude and of the parts above and below 0.
use Rattle.std.proofs.Common.{◌≡◌, ℕ, List, [], ◌∷◌, arith, inl, inr, refl, sym, ap, subst, ◌∙◌, pos, negsuc}
use Rattle.std.proofs.lemmas.List.{get_or-replicate}
use Rattle.std.proofs.lemmas.List.Elements.{All-head}
use Rattle.dcx_math.specs.Rational.{ℚ, whole, neg_ℚ, ◌+ℚ◌, ◌-ℚ◌, ◌*ℚ◌, ◌≤ℚ◌}
use Rattle.dcx_math.specs.Sums.{IsNonnegative, rat_sum_below}
use Rattle.dcx_math.proofs.Ring.{ring, reads}
use Rattle.dcx_math.proofs.Orders.{≤ℚ_refl, ≤ℚ_trans, ≤ℚ-from_≡, neg_ℚ-≤ℚ, +ℚ_idl, +ℚ_idr, *ℚ_idl, minus_one-*ℚ}
use Rattle.dcx_math.proofs.Bounds.{
  ≤ℚ-rat_max_left,
  ≤ℚ-rat_max_right,
  rat_max-≤ℚ,
  rat_max-monotone,
  ≤ℚ-rat_abs,
  neg_ℚ-≤ℚ-rat_abs,
  rat_abs-≤ℚ,
  rat_abs-nonnegative,
  rat_abs-of_nonnegative,
  rat_abs-of_nonpositive,
}
use Rattle.dcx_math.proofs.Sums.{rat_sum_below-same, rat_sum_below-nonnegative}
use Rattle.dcx_shape.specs.declared.shape.Sides.{Sides}
use Rattle.dcx_shape.specs.Sides.{entries_of}
use Rattle.dcx_atom.specs.declared.flags.Sign.{Sign}
use Rattle.dcx_atom.specs.declared.flags.Bend.TheVariants.{Convex}
use Rattle.dcx_atom.specs.declared.graph.AuxKind.TheVariants.{Free, Nonneg}
use Rattle.dcx_atom.specs.Arrays.{Entries, sides_at}
use Rattle.dcx_atom.specs.Formed.{exact}
use Rattle.dcx_atom.specs.Signs.{HasSign, sign_at, Follows}
use Rattle.dcx_atom.specs.Rows.{Filling, RowsHold, weighted}
use Rattle.dcx_atom.specs.Meaning.{IsMet}
use Rattle.dcx_atom.specs.Laws.{SumsUp, KeepsSign, KeepsTrend, IsBent, IsSoundGraph, IsTightGraph, HasSubgradients, Recedes}
use Rattle.dcx_atom.proofs.Sublinear.{curvature_of, recession_of}
use Rattle.dcx_atom.specs.Duality.{no_filling, AreRowSlopes, AreBalanced}
use Rattle.dcx_atom.proofs.Duality.{subgradient_of}
use Rattle.dcx_elem.specs.declared.kinks.Kink.{Kink}
use Rattle.dcx_elem.specs.declared.kinks.Kink.TheVariants.{Abs, Pos, Neg}
use Rattle.dcx_atom.specs.Bounding.{argument_term, only_is}
use Rattle.dcx_elem.specs.Kinks.{kink_at, kink_trend, kink_factors, kink_slope, kink_meaning}
use Rattle.dcx_atom.proofs.BoundRows.{beyond_of_row, row_of_beyond, alone_is, nonneg_balanced}

-- the value is at least 0
pub kink-nonnegative : (p : Kink) (x : ℚ) → IsNonnegative (kink_at p x)
kink-nonnegative Abs x = rat_abs-nonnegative x
kink-nonnegative Pos x = ≤ℚ-rat_max_right x (whole (pos 0))
kink-nonnegative Neg x = ≤ℚ-rat_max_right (neg_ℚ x) (whole (pos 0))

-- the rows hold at the value
kink_rows_hold : (p : Kink) (j : ℕ) (a : Entries) (t : Filling) → t j ≡ kink_at p (a 0 j) → RowsHold ((kink_meaning p).rows [] j) a t
kink_rows_hold Abs j a t e = (
  row_of_beyond Convex j (argument_term 0 j (whole (pos 1))) a t (rw (*ℚ_idl (a 0 j), e) (≤ℚ-rat_abs (a 0 j))),
  (row_of_beyond Convex j (argument_term 0 j (whole (negsuc 0))) a t (rw (minus_one-*ℚ (a 0 j), e) (neg_ℚ-≤ℚ-rat_abs (a 0 j))), tt),
)
kink_rows_hold Pos j a t e = (row_of_beyond Convex j (argument_term 0 j (whole (pos 1))) a t (rw (*ℚ_idl (a 0 j), e) (≤ℚ-rat_max_left (a 0 j) (whole (pos 0)))), tt)
kink_rows_hold Neg j a t e = (row_of_beyond Convex j (argument_term 0 j (whole (negsuc 0))) a t (rw (minus_one-*ℚ (a 0 j), e) (≤ℚ-rat_max_left (neg_ℚ (a 0 j)) (whole (pos 0)))), tt)

-- where they hold, the unknown is at least the value
kink_below : (p : Kink) (j : ℕ) (a : Entries) (t : Filling) → IsNonnegative (t j) → RowsHold ((kink_meaning p).rows [] j) a t → kink_at p (a 0 j) ≤ℚ t j
kink_below Abs j a t n h = rat_abs-≤ℚ
    (subst (λ y. y ≤ℚ t j) (*ℚ_idl (a 0 j)) (beyond_of_row Convex j (argument_term 0 j (whole (pos 1))) a t h.0))
    (subst (λ y. y ≤ℚ t j) (minus_one-*ℚ (a 0 j)) (beyond_of_row Convex j (argument_term 0 j (whole (negsuc 0))) a t h.1.0))
kink_below Pos j a t n h = rat_max-≤ℚ (subst (λ y. y ≤ℚ t j) (*ℚ_idl (a 0 j)) (beyond_of_row Convex j (argument_term 0 j (whole (pos 1))) a t h.0)) n
kink_below Neg j a t n h = rat_max-≤ℚ (subst (λ y. y ≤ℚ t j) (minus_one-*ℚ (a 0 j)) (beyond_of_row Convex j (argument_term 0 j (whole (negsuc 0))) a t h.0)) n

pub kink_formation : (p : Kink) → SumsUp (kink_meaning p)
kink_formation p args sides is j b a = sym (+ℚ_idr (kink_at p (a 0 j)))

pub kink_sign : (p : Kink) → KeepsSign (kink_meaning p)
kink_sign p args sides is j b signs a n h = record { nonneg = λ _. kink-nonnegative p (a 0 j); nonpos = λ f. cc }

-- the value doesn't fall where the argument goes as the trend allows
follows : (p : Kink) (s : Sign) (x y : ℚ) → HasSign s x → Follows Convex (kink_trend p s) x y → kink_at p x ≤ℚ kink_at p y
follows p s x y h (inl e) = ≤ℚ-from_≡ (ap (kink_at p) e)
follows Abs s x y h (inr (inl f)) = ≤ℚ_trans (≤ℚ-from_≡ (rat_abs-of_nonnegative (h.nonneg f.0))) (≤ℚ_trans f.1 (≤ℚ-rat_abs y))
follows Abs s x y h (inr (inr f)) = ≤ℚ_trans (≤ℚ-from_≡ (rat_abs-of_nonpositive (h.nonpos f.0))) (≤ℚ_trans (neg_ℚ-≤ℚ f.1) (neg_ℚ-≤ℚ-rat_abs y))
follows Pos s x y h (inr (inl f)) = rat_max-monotone f.1 (≤ℚ_refl (whole (pos 0)))
follows Pos s x y h (inr (inr f)) = let n = f.0 in cc
follows Neg s x y h (inr (inl f)) = let n = f.0 in cc
follows Neg s x y h (inr (inr f)) = rat_max-monotone (neg_ℚ-≤ℚ f.1) (≤ℚ_refl (whole (pos 0)))

pub kink_monotonicity : (p : Kink) → KeepsTrend (kink_meaning p)
kink_monotonicity p args sides is j below signs a b h f = follows p (sign_at signs 0) (a 0 j) (b 0 j) (h 0 j) (f 0 j)

pub kink_soundness : (p : Kink) → IsSoundGraph (kink_meaning p)
kink_soundness p args sides is a t holds j below =
    let size : entries_of (sides_at args 0) ≡ entries_of sides = ap (λ xs. entries_of (sides_at xs 0)) (only_is args sides is) in
    let n = holds.kinds j (get_or-replicate (entries_of (sides_at args 0)) j Nonneg Free (omega (arith, size))) in
    subst (λ y. kink_at p (a 0 j) ≤ℚ y) (sym (alone_is (t j))) (kink_below p j a t n (holds.rows j below))

pub kink_tightness : (p : Kink) → IsTightGraph (kink_meaning p)
kink_tightness p args sides is a = record {
  holds = record { kinds = λ k e. kink-nonnegative p (a 0 k); rows = λ j b. kink_rows_hold p j a (λ k. kink_at p (a 0 k)) refl };
  reaches = λ j b. alone_is (kink_at p (a 0 j));
}

pub kink_curvature : (p : Kink) → IsBent (kink_meaning p)
kink_curvature p = curvature_of (kink_meaning p) (kink_soundness p) (kink_tightness p)

pub kink_recession : (p : Kink) → Recedes (kink_meaning p)
kink_recession p = recession_of (kink_meaning p) (kink_soundness p) (kink_tightness p)

-- the weighted rows of an entry, over the argument alone
abs_slope : (v w x : ℚ) → (v -ℚ w) *ℚ x ≡ v *ℚ (whole (pos 1) *ℚ x +ℚ (whole (negsuc 0) *ℚ whole (pos 0) +ℚ whole (pos 0)))
    +ℚ (w *ℚ (whole (negsuc 0) *ℚ x +ℚ (whole (negsuc 0) *ℚ whole (pos 0) +ℚ whole (pos 0))) +ℚ whole (pos 0))
abs_slope v w x = ring (v ∷ w ∷ x ∷ []) (search reads depth 30) tt

pos_slope : (w x : ℚ) → w *ℚ x ≡ w *ℚ (whole (pos 1) *ℚ x +ℚ (whole (negsuc 0) *ℚ whole (pos 0) +ℚ whole (pos 0))) +ℚ whole (pos 0)
pos_slope w x = ring (w ∷ x ∷ []) (search reads depth 30) tt

neg_slope : (w x : ℚ) → neg_ℚ w *ℚ x ≡ w *ℚ (whole (negsuc 0) *ℚ x +ℚ (whole (negsuc 0) *ℚ whole (pos 0) +ℚ whole (pos 0))) +ℚ whole (pos 0)
neg_slope w x = ring (w ∷ x ∷ []) (search reads depth 30) tt

slope_is : (p : Kink) (args : List Sides) (w : ℕ → ℚ) (a : Entries) (j : ℕ) → exact (kink_slope p w) *ℚ a 0 j ≡ weighted ((kink_meaning p).rows args j) w a no_filling
slope_is Abs args w a j = abs_slope (w 0) (w 1) (a 0 j)
slope_is Pos args w a j = pos_slope (w 0) (a 0 j)
slope_is Neg args w a j = neg_slope (w 0) (a 0 j)

pub row_slopes : (p : Kink) → AreRowSlopes (kink_meaning p)
row_slopes p [] sides is w a = cc
row_slopes p (s ∷ []) sides is w a =
    let e : s ≡ sides = cc in
    +ℚ_idl _ ∙ rat_sum_below-same (entries_of s) _ _ (λ j b. slope_is p (s ∷ []) (w j) a j)
    ∙ ap (λ r. rat_sum_below (entries_of r) (λ j. weighted ((kink_meaning p).rows (s ∷ []) j) (w j) a no_filling)) e
row_slopes p (q ∷ r ∷ rs) sides is w a = cc

balanced : (p : Kink) → AreBalanced (kink_meaning p)
balanced p args sides is c w accepted t kinds =
    let size : entries_of (sides_at args 0) ≡ entries_of sides = ap (λ xs. entries_of (sides_at xs 0)) (only_is args sides is) in
    rat_sum_below-nonnegative (entries_of sides) _ (λ j b. nonneg_balanced j (c j) (argument_term 0 j) (kink_factors p) (w j) t (λ q. refl)
    (All-head IsMet _ [] (accepted.conditions j b)) (kinds j (get_or-replicate (entries_of (sides_at args 0)) j Nonneg Free (omega (arith, size)))))

pub kink_subgradient : (p : Kink) → HasSubgradients (kink_meaning p)
kink_subgradient p = subgradient_of (kink_meaning p) (kink_tightness p) (row_slopes p) (balanced p)
