-- What multipliers show of all solutions.
use Rattle.std.proofs.Common.{◌≡◌, ℕ, suc, ◌+◌, List, [], ◌∷◌, Some, slice_get, refl, sym, ap, ◌∙◌, subst, pos, arith}
use Rattle.dcx_math.specs.Rational.{ℚ, whole, ◌+ℚ◌, ◌*ℚ◌, ◌≤ℚ◌}
use Rattle.dcx_math.proofs.Orders.{≤ℚ_refl, ≤ℚ_trans, +ℚ-≤ℚ, *ℚ-≤ℚ, *ℚ-zero, +ℚ_idl, +ℚ_idr, <ℚ-not}
use Rattle.dcx_linear.specs.declared.row.RowKind.{RowKind}
use Rattle.dcx_linear.specs.declared.row.RowKind.TheVariants.{AtMost, Equal}
use Rattle.dcx_linear.specs.FormTerms.{Unknowns}
use Rattle.dcx_linear.specs.Rows.{RowAt, LinearProgram, StandsTo, IsSolution, combined_from, combined, HaveSigns, IsOptimal, IsInfeasible}

-- a multiplier times a row that holds is at most 0
row_at_most : (kind : RowKind) (m q : ℚ) → (kind ≡ AtMost → whole (pos 0) ≤ℚ m) → StandsTo kind q → m *ℚ q ≤ℚ whole (pos 0)
row_at_most AtMost m q signs h = let e = *ℚ-≤ℚ (signs refl) h in subst (λ z. m *ℚ q ≤ℚ z) (*ℚ-zero m) e
row_at_most Equal m q signs h = subst (λ z. z ≤ℚ whole (pos 0)) (sym (ap (λ z. m *ℚ z) h ∙ *ℚ-zero m)) (≤ℚ_refl (whole (pos 0)))

-- so are all of them together
rows_at_most : (m : ℕ → ℚ) (n : ℕ) (rs : List RowAt) (y : Unknowns) → ((i : ℕ) (r : RowAt) → slice_get rs i ≡ Some r → (r.kind ≡ AtMost → whole (pos 0) ≤ℚ m (n + i)) × StandsTo r.kind (r.number y))
    → combined_from m n rs y ≤ℚ whole (pos 0)
rows_at_most m n [] y h = ≤ℚ_refl (whole (pos 0))
rows_at_most m n (r ∷ rs) y h =
    let here = h 0 r refl in
    let first = row_at_most r.kind (m n) (r.number y) (λ e. subst (λ k. whole (pos 0) ≤ℚ m k) (omega arith) (here.0 e)) here.1 in
    let rest = rows_at_most m (suc n) rs y (λ i q e. let z = h (suc i) q e in (λ k. subst (λ j. whole (pos 0) ≤ℚ m j) (omega arith) (z.0 k), z.1)) in
    subst (λ z. m n *ℚ r.number y +ℚ combined_from m (suc n) rs y ≤ℚ z) (+ℚ_idl (whole (pos 0))) (+ℚ-≤ℚ first rest)

combined_at_most : (l : LinearProgram) (m : ℕ → ℚ) (y : Unknowns) → HaveSigns l m → IsSolution l y → combined l m y ≤ℚ whole (pos 0)
combined_at_most l m y signs h = rows_at_most m 0 l.rows y (λ i r e. (λ k. subst (λ j. whole (pos 0) ≤ℚ m j) (omega arith) (signs i r e k), h.rows i r e))

-- no solution has a smaller objective
pub least : (l : LinearProgram) (v : ℚ) (x y : Unknowns) (m : ℕ → ℚ) → IsOptimal l v x m → IsSolution l y → v ≤ℚ l.objective y
least l v x y m o h =
    ≤ℚ_trans (o.bound y h.kinds) (subst (λ z. l.objective y +ℚ combined l m y ≤ℚ z) (+ℚ_idr (l.objective y)) (+ℚ-≤ℚ (≤ℚ_refl (l.objective y)) (combined_at_most l m y o.signs h)))

-- there is no solution
pub none : (l : LinearProgram) (gap : ℚ) (y : Unknowns) (m : ℕ → ℚ) → IsInfeasible l gap m → ¬ (IsSolution l y)
none l gap y m o h = <ℚ-not o.positive (≤ℚ_trans (o.bound y h.kinds) (combined_at_most l m y o.signs h))
