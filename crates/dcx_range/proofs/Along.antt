-- The columns of the last basis along their direction.
use Rattle.std.proofs.Common.{◌≡◌, ◌≢◌, ℕ, zero, suc, ◌<◌, List, [], ◌∷◌, length, arith, refl, sym, ap, ap₂, ◌∙◌, pos}
use Rattle.std.proofs.lemmas.List.{length-map}
use Rattle.dcx_math.specs.Rational.{ℚ, whole, ◌+ℚ◌, ◌-ℚ◌, ◌*ℚ◌, ◌/ℚ◌, neg_ℚ}
use Rattle.dcx_math.specs.Sums.{rat_dot, rat_at, rat_scaled, rat_sum_below, along}
use Rattle.dcx_math.proofs.Orders.{zero-*ℚ, +ℚ_idl, *ℚ_idr, linear_eq}
use Rattle.dcx_math.proofs.Points.{wholes}
use Rattle.dcx_math.proofs.Products.{/ℚ-unique}
use Rattle.dcx_math.proofs.Ring.{ring, reads}
use Rattle.dcx_math.proofs.Sums.{rat_sum_below-one}
use Rattle.dcx_math.proofs.Vectors.{rat_dot-along, rat_at-rat_added, rat_at-rat_scaled, length-rat_scaled}
use Rattle.dcx_frac.specs.Frac.{value}
use Rattle.dcx_tab.specs.declared.program.Program.{Program}
use Rattle.dcx_tab.specs.First.{first_tableau}
use Rattle.dcx_tab.specs.Rows.{basic_at}
use Rattle.dcx_tab.specs.Table.{Table, entry_at}
use Rattle.dcx_tab.specs.Program.{entries_at, right_side_at}
use Rattle.dcx_tab.proofs.RationalRows.{placed, length_added}
use Rattle.dcx_tab.proofs.RowLaws.{unit}
use Rattle.dcx_lp_answer.specs.declared.answer.LpAnswer.{LpAnswer}
use Rattle.dcx_lp_answer.specs.declared.answer.LpStatus.TheVariants as status
use Rattle.dcx_lp_answer.specs.Notes.{numbers}
use Rattle.dcx_lp_answer.specs.Right.{row_at_columns, cost_at_columns, IsSolution}
use Rattle.dcx_simplex.specs.Run.{right_at}
use Rattle.dcx_simplex.specs.Basis.{IsBasic}
use Rattle.dcx_simplex.specs.Reading.{IsReading}
use Rattle.dcx_simplex.proofs.EndFacts.{IsEnded}
use Rattle.dcx_simplex.proofs.Bounds.{lead_some_of, zero_right}
use Rattle.dcx_simplex.proofs.Rights.{rows_are}
use Rattle.dcx_range.proofs.Placing.{no_sum, base, put}
use Rattle.dcx_range.proofs.Directions.{is_readable, basic, step, direction, direction_length, rate, row_moves, cost_moves}

-- ---- numbers put at columns, column by column
unit_own : (t : ℕ) → rat_at (wholes (unit t)) t ≡ whole (pos 1)
unit_own zero = refl
unit_own (suc t) = unit_own t

unit_other : (t j : ℕ) → j ≢ t → rat_at (wholes (unit t)) j ≡ whole (pos 0)
unit_other zero zero n = absurd (n refl)
unit_other zero (suc j) n = refl
unit_other (suc t) zero n = refl
unit_other (suc t) (suc j) n = unit_other t j (λ e. n (ap suc e))

placed_at : (f : ℕ → ℚ) (own : ℕ → ℕ) (m j : ℕ) → rat_at (placed f own m) j ≡ rat_sum_below m (λ k. f k *ℚ rat_at (wholes (unit (own k))) j)
placed_at f own zero j = refl
placed_at f own (suc m) j =
    rat_at-rat_added (placed f own m) (rat_scaled (f m) (wholes (unit (own m)))) j ∙ ap₂ ◌+ℚ◌ (placed_at f own m j) (rat_at-rat_scaled (f m) (wholes (unit (own m))) j)

put_at : (q : Program) (f : ℕ → ℚ) (own : ℕ → ℕ) (j : ℕ) → rat_at (put q f own) j ≡ rat_sum_below (length q.rows) (λ k. f k *ℚ rat_at (wholes (unit (own k))) j)
unfolding put base
put_at q f own j =
    rat_at-rat_added (base q) (placed f own (length q.rows)) j
    ∙ ap₂ ◌+ℚ◌ (rat_at-rat_scaled (whole (pos 0)) (wholes q.objective.entries) j ∙ zero-*ℚ _) (placed_at f own (length q.rows) j) ∙ +ℚ_idl _

fallen : (r d k s l z : ℚ) → l ≢ whole (pos 0) → z *ℚ l ≡ r -ℚ d → (r -ℚ (d +ℚ k *ℚ neg_ℚ (l *ℚ s))) /ℚ l ≡ z +ℚ k *ℚ s
fallen r d k s l z n e = /ℚ-unique (r -ℚ (d +ℚ k *ℚ neg_ℚ (l *ℚ s))) l (z +ℚ k *ℚ s) n (linear_eq (r ∷ d ∷ k ∷ s ∷ l ∷ z ∷ []) e (search reads depth 30 fits 4000) tt)

nothing_moved : (t x y : ℚ) → x ≡ whole (pos 0) → y ≡ whole (pos 0) → x +ℚ t *ℚ y ≡ whole (pos 0)
nothing_moved t x y e f = ap₂ (λ p r. p +ℚ t *ℚ r) e f ∙ ring (t ∷ []) (search reads depth 30) tt

module _ (q : Program) (u : Table) (end : IsEnded (first_tableau q).rows (first_tableau q) u) (h : ℕ → ℚ) where
  pub direction_basic : (i : ℕ) → i < length q.rows → rat_at (direction q u end h) (basic q u end i) ≡ step q u end h i
  unfolding direction basic
  direction_basic i l =
      let r = rows_are q u end in
      put_at q (step q u end h) (λ k. basic_at u.basis k) (basic_at u.basis i)
      ∙ rat_sum_below-one (length q.rows) i _ l
      (λ k b n. zero_right (step q u end h k) _ (unit_other (basic_at u.basis k) (basic_at u.basis i) (λ e. n ((is_readable q u end).apart k i (omega (arith, r, b)) (omega (arith, r, l)) (sym e)))))
      ∙ ap (λ z. step q u end h i *ℚ z) (unit_own (basic_at u.basis i)) ∙ *ℚ_idr (step q u end h i)

  pub direction_other : (j : ℕ) → ¬ (IsBasic u j) → rat_at (direction q u end h) j ≡ whole (pos 0)
  unfolding direction basic
  direction_other j n =
      let r = rows_are q u end in
      put_at q (step q u end h) (λ k. basic_at u.basis k) j
      ∙ no_sum (length q.rows) _ (λ k b. zero_right (step q u end h k) _ (unit_other (basic_at u.basis k) j (λ e. n (k, omega (arith, r, b), sym e))))

  -- ---- the columns of an answer, moved by t
  module _ (a : LpAnswer) (reading : IsReading q.rows q.columns u status.Optimal a) (t : ℚ) where
    unfoldable pub moved : List ℚ
    moved = along (numbers a.columns) t (direction q u end h)

    pub moved_length : length moved ≡ length q.columns
    unfolding moved
    moved_length =
        let c = length-map a.columns value in
        let r = reading.columns in
        let d = direction_length q u end h in
        let s = length-rat_scaled t (direction q u end h) in
        length_added (numbers a.columns) (rat_scaled t (direction q u end h)) (omega (arith, c, r, d, s)) ∙ c ∙ r

    at_moved : (j : ℕ) → rat_at moved j ≡ rat_at (numbers a.columns) j +ℚ t *ℚ rat_at (direction q u end h) j
    unfolding moved
    at_moved j = rat_at-rat_added (numbers a.columns) (rat_scaled t (direction q u end h)) j ∙ ap (λ z. rat_at (numbers a.columns) j +ℚ z) (rat_at-rat_scaled t (direction q u end h) j)

    -- a column outside the basis stays 0
    pub moved_other : (j : ℕ) → j < length q.columns → ¬ (IsBasic u j) → rat_at moved j ≡ whole (pos 0)
    moved_other j l n = at_moved j ∙ nothing_moved t _ _ ((reading.column j l).other n) (direction_other j n)

    -- a basic column moves by its row's change, over its entry
    pub moved_basic : (i : ℕ) → i < length q.rows → basic q u end i < length q.columns
        → rat_at moved (basic q u end i) ≡ whole (right_at u i) /ℚ whole (entry_at u i (basic q u end i)) +ℚ t *ℚ step q u end h i
    unfolding basic
    moved_basic i l b =
        let r = rows_are q u end in
        at_moved (basic_at u.basis i) ∙ ap₂ (λ p d. p +ℚ t *ℚ d) ((reading.column (basic_at u.basis i) b).basic i (omega (arith, r, l)) refl) (direction_basic i l)

    -- ---- the rows and the cost there, where the columns of the answer solve the rows
    module _ (solution : IsSolution q (numbers a.columns)) where
      pub moved_row : (i : ℕ) → i < length q.rows → row_at_columns q i moved ≡ whole (right_side_at q.rows i) +ℚ t *ℚ h i
      unfolding moved
      moved_row i l =
          rat_dot-along (wholes (entries_at q.rows i)) (numbers a.columns) t (direction q u end h)
          ∙ ap₂ (λ p d. p +ℚ t *ℚ d) (solution.rows i l) (row_moves q u end h i l)

      pub moved_cost : (v : ℚ) → v *ℚ whole q.objective.lead ≡ whole q.objective.right -ℚ rat_dot (wholes q.objective.entries) (numbers a.columns)
          → cost_at_columns q.objective moved ≡ v +ℚ t *ℚ rate q u end h
      unfolding moved
      moved_cost v e =
          ap (λ d. (whole q.objective.right -ℚ d) /ℚ whole q.objective.lead)
          (rat_dot-along (wholes q.objective.entries) (numbers a.columns) t (direction q u end h) ∙ ap (λ z. rat_dot (wholes q.objective.entries) (numbers a.columns) +ℚ t *ℚ z) (cost_moves q u end h))
          ∙ fallen (whole q.objective.right) (rat_dot (wholes q.objective.entries) (numbers a.columns)) t (rate q u end h) (whole q.objective.lead) v (lead_some_of q.objective.lead q.form.cost.lead) e
