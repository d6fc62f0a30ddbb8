-- The subgradient law of a call with a tight graph: weights at least 0 on rows at most 0, whose slopes are those of the
-- rows, and which let no auxiliary unknown lower the sum of coefficients times results.
use Rattle.std.proofs.Common.{◌≡◌, ℕ, suc, ◌<◌, List, [], ◌∷◌, arith, length, sym, subst, ◌∙◌, ap, ap₂, pos}
use Rattle.dcx_math.specs.Rational.{ℚ, whole, ◌+ℚ◌, ◌*ℚ◌, ◌≤ℚ◌}
use Rattle.dcx_math.specs.Sums.{IsNonnegative, rat_sum_below}
use Rattle.dcx_math.proofs.Ring.{ring, reads}
use Rattle.dcx_math.proofs.Orders.{+ℚ-≤ℚ, *ℚ-≤ℚ, ≤ℚ_refl, linear, ≤ℚ-from_≡, +ℚ_idr, +ℚ_idl, +ℚ_left_comm}
use Rattle.dcx_math.proofs.Sums.{rat_sum_below-+ℚ, rat_sum_below-same, rat_sum_below-monotone, rat_sum_below-zero}
use Rattle.dcx_shape.specs.Sides.{entries_of}
use Rattle.dcx_atom.specs.declared.graph.Operand.{Operand}
use Rattle.dcx_atom.specs.declared.graph.Operand.TheVariants.{Argument, Aux}
use Rattle.dcx_atom.specs.Arrays.{Entries}
use Rattle.dcx_atom.specs.Rows.{Filling, Row, operand_at, row_at, form_at, RowsHold, weighted}
use Rattle.dcx_atom.specs.Meaning.{Meaning}
use Rattle.dcx_atom.specs.Laws.{IsTightGraph, HasSubgradients}
use Rattle.dcx_atom.specs.Duality.{no_entries, no_filling, weighted_arguments, AreRowSlopes, balance, AreBalanced}

operand_parts : (x : Operand) (a : Entries) (t : Filling) → operand_at x a t ≡ operand_at x a no_filling +ℚ operand_at x no_entries t
operand_parts (Argument i j) a t = sym (+ℚ_idr (a i j))
operand_parts (Aux k) a t = sym (+ℚ_idl (t k))

nothing_parts : whole (pos 0) ≡ whole (pos 0) +ℚ whole (pos 0)
nothing_parts = ring [] (search reads depth 30) tt

apart : (c x y p q : ℚ) → c *ℚ (x +ℚ y) +ℚ (p +ℚ q) ≡ (c *ℚ x +ℚ p) +ℚ (c *ℚ y +ℚ q)
apart c x y p q = ring (c ∷ x ∷ y ∷ p ∷ q ∷ []) (search reads depth 30) tt

row_parts : (row : Row) (a : Entries) (t : Filling) → row_at row a t ≡ row_at row a no_filling +ℚ row_at row no_entries t
row_parts [] a t = nothing_parts
row_parts (x ∷ row) a t = ap₂ (λ y z. x.coefficient *ℚ y +ℚ z) (operand_parts x.operand a t) (row_parts row a t) ∙ apart x.coefficient _ _ _ _

-- weighted rows are their part over the arguments and their part over the unknowns
pub weighted_parts : (rows : List Row) (w : ℕ → ℚ) (a : Entries) (t : Filling) → weighted rows w a t ≡ weighted rows w a no_filling +ℚ weighted rows w no_entries t
weighted_parts [] w a t = nothing_parts
weighted_parts (row ∷ rows) w a t = ap₂ (λ y z. w 0 *ℚ y +ℚ z) (row_parts row a t) (weighted_parts rows (λ r. w (suc r)) a t) ∙ apart (w 0) _ _ _ _

below_zero : {w x y : ℚ} → IsNonnegative w → x ≤ℚ whole (pos 0) → y ≤ℚ whole (pos 0) → w *ℚ x +ℚ y ≤ℚ whole (pos 0)
below_zero {w} {x} {y} hw hx hy = linear (w ∷ x ∷ y ∷ []) (+ℚ-≤ℚ (*ℚ-≤ℚ hw hx) hy) (search reads depth 30) tt

-- rows that hold, with weights at least 0, sum to at most 0
pub weighted-nonpositive : (rows : List Row) (w : ℕ → ℚ) (a : Entries) (t : Filling) → ((r : ℕ) → r < length rows → IsNonnegative (w r)) → RowsHold rows a t →
    weighted rows w a t ≤ℚ whole (pos 0)
weighted-nonpositive [] w a t h k = ≤ℚ_refl (whole (pos 0))
weighted-nonpositive (row ∷ rows) w a t h k =
    below_zero (h 0 (omega arith)) k.0 (weighted-nonpositive rows (λ r. w (suc r)) a t (λ r b. h (suc r) (omega arith)) k.1)

-- s + r = v + n, with r at least 0 and n at most 0: s is at most v
squeezed : {s r v n : ℚ} → s +ℚ r ≡ v +ℚ n → IsNonnegative r → n ≤ℚ whole (pos 0) → s ≤ℚ v
squeezed {s} {r} {v} {n} e hr hn = linear (s ∷ r ∷ v ∷ n ∷ []) (+ℚ-≤ℚ (≤ℚ-from_≡ e) (+ℚ-≤ℚ hr hn)) (search reads depth 30) tt

-- the subgradient law of a call with a tight graph
pub subgradient_of : (m : Meaning) → IsTightGraph m → AreRowSlopes m → AreBalanced m → HasSubgradients m
subgradient_of m tight slopes balanced args sides is c w accepted a =
    let n = entries_of sides in
    let t = m.filling args a in
    let reached = tight args sides is a in
    let over_arguments = λ (j : ℕ). weighted (m.rows args j) (w j) a no_filling in
    let over_unknowns = λ (j : ℕ). c j *ℚ form_at (m.result args j) t +ℚ weighted (m.rows args j) (w j) no_entries t in
    let values = λ (j : ℕ). c j *ℚ m.value args a j in
    let whole_rows = λ (j : ℕ). weighted (m.rows args j) (w j) a t in
    let each : (j : ℕ) → j < n → over_arguments j +ℚ over_unknowns j ≡ values j +ℚ whole_rows j =
    λ j b. +ℚ_left_comm (over_arguments j) (c j *ℚ form_at (m.result args j) t) (weighted (m.rows args j) (w j) no_entries t)
    ∙ ap (λ v. c j *ℚ form_at (m.result args j) t +ℚ v) (sym (weighted_parts (m.rows args j) (w j) a t))
    ∙ ap (λ v. c j *ℚ v +ℚ whole_rows j) (reached.reaches j b) in
    let same : weighted_arguments m args n w a +ℚ balance m args n c w t ≡ rat_sum_below n values +ℚ rat_sum_below n whole_rows =
    sym (rat_sum_below-+ℚ n over_arguments over_unknowns) ∙ rat_sum_below-same n _ _ each ∙ rat_sum_below-+ℚ n values whole_rows in
    let low : rat_sum_below n whole_rows ≤ℚ whole (pos 0) =
    subst (λ v. rat_sum_below n whole_rows ≤ℚ v) (rat_sum_below-zero n)
    (rat_sum_below-monotone n whole_rows (λ _. whole (pos 0)) (λ j b. weighted-nonpositive (m.rows args j) (w j) a t (λ r k. accepted.weights j r b k) (reached.holds.rows j b))) in
    subst (λ v. v ≤ℚ rat_sum_below n values) (sym (slopes args sides is w a)) (squeezed same (balanced args sides is c w accepted t reached.holds.kinds) low)
