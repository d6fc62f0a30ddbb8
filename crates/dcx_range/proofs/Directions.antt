-- How the columns of the last basis move with the right sides of the rows.
use Rattle.std.proofs.Common.{◌≡◌, ◌≢◌, ℕ, ◌+◌, ◌<◌, ◌≤◌, List, [], ◌∷◌, length, arith, sym, ap, ◌∙◌, ℤ, pos, negsuc, ◌<ℤ◌}
use Rattle.dcx_math.specs.Rational.{ℚ, whole, ◌+ℚ◌, ◌*ℚ◌, ◌/ℚ◌, neg_ℚ}
use Rattle.dcx_math.specs.Sums.{rat_dot, rat_sum_below}
use Rattle.dcx_math.proofs.Orders.{*ℚ_comm, linear_eq}
use Rattle.dcx_math.proofs.Points.{wholes}
use Rattle.dcx_math.proofs.Products.{/ℚ-*ℚ}
use Rattle.dcx_math.proofs.Ring.{ring, reads}
use Rattle.dcx_math.proofs.Sums.{rat_sum_below-one}
use Rattle.dcx_tab.specs.declared.program.Program.{Program}
use Rattle.dcx_tab.specs.First.{first_tableau}
use Rattle.dcx_tab.specs.Rows.{entry, row_at, basic_at}
use Rattle.dcx_tab.specs.Table.{Table, entry_at}
use Rattle.dcx_tab.specs.Program.{entries_at, right_side_at}
use Rattle.dcx_tab.proofs.RationalRows.{SolvesRational, solves_rational, full}
use Rattle.dcx_lp_answer.specs.Right.{row_at_columns}
use Rattle.dcx_simplex.specs.Whole.{objective_row, phase_row}
use Rattle.dcx_simplex.specs.Basis.{lead_at}
use Rattle.dcx_simplex.specs.Start.{IsStart}
use Rattle.dcx_simplex.specs.Readable.{IsReadable}
use Rattle.dcx_simplex.proofs.Starts.{starts}
use Rattle.dcx_simplex.proofs.EndFacts.{IsEnded, readable}
use Rattle.dcx_simplex.proofs.Bounds.{lead_some_of, first_solved, first_cost, zero_right}
use Rattle.dcx_simplex.proofs.Last.{solves_last}
use Rattle.dcx_simplex.proofs.Rights.{columns_are, rows_are}
use Rattle.dcx_range.proofs.Placing.{no_sum, put, put_length, dot_put, less, less_length, dot_less, first, first_low, at_first}
use Rattle.dcx_range.proofs.Placing as placing

pub none_left : (a r : ℚ) → (a +ℚ whole (negsuc 0) *ℚ a) +ℚ r *ℚ whole (pos 0) ≡ whole (pos 0)
none_left a r = ring (a ∷ r ∷ []) (search reads depth 30) tt

cost_left : (c l z r : ℚ) → l *ℚ z ≡ c → ((whole (pos 0) +ℚ whole (negsuc 0) *ℚ c) +ℚ l *ℚ z) +ℚ r *ℚ whole (pos 0) ≡ whole (pos 0)
cost_left c l z r e = ap (λ x. ((whole (pos 0) +ℚ whole (negsuc 0) *ℚ c) +ℚ x) +ℚ r *ℚ whole (pos 0)) e ∙ ring (c ∷ r ∷ []) (search reads depth 30) tt

solved_row : (a b r : ℚ) → (a +ℚ whole (negsuc 0) *ℚ b) +ℚ r *ℚ whole (pos 0) ≡ whole (pos 0) → a ≡ b
solved_row a b r e = linear_eq (a ∷ b ∷ r ∷ []) e (search reads depth 30) tt

solved_cost : (a b l z r : ℚ) → b ≡ whole (pos 0) → ((a +ℚ whole (negsuc 0) *ℚ b) +ℚ l *ℚ z) +ℚ r *ℚ whole (pos 0) ≡ whole (pos 0) → a ≡ neg_ℚ (l *ℚ z)
solved_cost a b l z r h e =
    linear_eq (a ∷ l ∷ z ∷ r ∷ []) (ap (λ x. ((a +ℚ whole (negsuc 0) *ℚ x) +ℚ l *ℚ z) +ℚ r *ℚ whole (pos 0)) (sym h) ∙ e) (search reads depth 30) tt

over_lead : (c : ℚ) (l : ℤ) → pos 0 <ℤ l → whole l *ℚ (c /ℚ whole l) ≡ c
over_lead c l h = *ℚ_comm (whole l) (c /ℚ whole l) ∙ /ℚ-*ℚ c (whole l) (lead_some_of l h)

module _ (q : Program) (u : Table) (end : IsEnded (first_tableau q).rows (first_tableau q) u) where
  pub start : IsStart (first_tableau q).rows (first_tableau q)
  start = starts q.rows q.columns q.objective q.phase q.form

  pub is_readable : IsReadable u
  is_readable = readable (first_tableau q).rows (first_tableau q) start u end

  unfoldable pub basic : ℕ → ℕ
  basic i = basic_at u.basis i

  pub basic_low : (i : ℕ) → i < length q.rows → basic i < length q.columns
  unfolding basic
  basic_low i h = let r = rows_are q u end in let c = columns_are q u end in let l = end.basics i (omega (arith, r, h)) in omega (arith, l, c)

  pub basic_zero : (i k : ℕ) → i < length u.rows → k < length q.rows → k ≢ i → entry_at u i (basic k) ≡ pos 0
  unfolding basic
  basic_zero i k h l n = let r = rows_are q u end in let s = end.tableau.form.size in (end.tableau.form.basic i h).zeros k (omega (arith, l, r, s)) n

  pub basic_positive : (i : ℕ) → i < length q.rows → pos 0 <ℤ entry_at u i (basic i)
  unfolding basic
  basic_positive i h = let r = rows_are q u end in is_readable.positive i (omega (arith, r, h))

  -- a row's sum over what is put at the basic columns
  pub at_basic : (i : ℕ) (f : ℕ → ℚ) → i < length q.rows → rat_sum_below (length q.rows) (λ k. f k *ℚ whole (entry_at u i (basic k))) ≡ f i *ℚ whole (entry_at u i (basic i))
  at_basic i f h =
      let r = rows_are q u end in
      rat_sum_below-one (length q.rows) i (λ k. f k *ℚ whole (entry_at u i (basic k))) h (λ k l n. zero_right (f k) _ (ap whole (basic_zero i k (omega (arith, r, h)) l n)))

  pub at_costs : (i : ℕ) (f : ℕ → ℚ) → length q.rows ≤ i → i < length u.rows → rat_sum_below (length q.rows) (λ k. f k *ℚ whole (entry_at u i (basic k))) ≡ whole (pos 0)
  at_costs i f h l = no_sum (length q.rows) (λ k. f k *ℚ whole (entry_at u i (basic k))) (λ k b. zero_right (f k) _ (ap whole (basic_zero i k l b (λ e. absurd (omega (arith, e, b, h))))))

  pub objective_low : objective_row u < length u.rows
  objective_low = let r = rows_are q u end in omega (arith, r)

  phase_low : phase_row u < length u.rows
  phase_low = let r = rows_are q u end in omega (arith, r)

  pub objective_is : objective_row u ≡ length q.rows
  objective_is = let r = rows_are q u end in omega (arith, r)

  phase_high : length q.rows ≤ phase_row u
  phase_high = let r = rows_are q u end in omega (arith, r)

  -- ---- where the right side of row k changes by h k
  module _ (h : ℕ → ℚ) where
    -- so the right side of row i of the last tableau changes
    unfoldable pub change : ℕ → ℚ
    change i = rat_sum_below (length q.rows) (λ k. h k *ℚ whole (entry_at u i (first q k)))

    -- and so its basic column
    unfoldable pub step : ℕ → ℚ
    step i = change i /ℚ whole (entry_at u i (basic i))

    -- the columns
    unfoldable pub direction : List ℚ
    direction = put q step basic

    pub direction_length : length direction ≡ length q.columns
    unfolding direction
    direction_length = put_length q step basic basic_low

    -- that less what the first basic columns take up
    delta : List ℚ
    delta = less q step basic h (first q)

    delta_length : length delta ≡ length q.columns
    unfolding delta
    delta_length = less_length q step basic h (first q) basic_low (first_low q)

    -- the change of the objective
    unfoldable pub rate : ℚ
    rate = change (objective_row u) /ℚ whole (lead_at u (objective_row u))

    phase_rate : ℚ
    phase_rate = change (phase_row u) /ℚ whole (lead_at u (phase_row u))

    step_back : (i : ℕ) → i < length q.rows → step i *ℚ whole (entry_at u i (basic i)) ≡ change i
    unfolding step
    step_back i l = /ℚ-*ℚ (change i) (whole (entry_at u i (basic i))) (lead_some_of (entry_at u i (basic i)) (basic_positive i l))

    delta_row : (i : ℕ) → i < length q.rows → rat_dot (wholes (row_at u.rows i)) delta ≡ change i +ℚ whole (negsuc 0) *ℚ change i
    unfolding delta change
    delta_row i l =
        dot_less q (row_at u.rows i) step basic h (first q)
        ∙ ap (λ z. z +ℚ whole (negsuc 0) *ℚ rat_sum_below (length q.rows) (λ k. h k *ℚ whole (entry_at u i (first q k)))) (at_basic i step l ∙ step_back i l)

    delta_cost : (i : ℕ) → length q.rows ≤ i → i < length u.rows → rat_dot (wholes (row_at u.rows i)) delta ≡ whole (pos 0) +ℚ whole (negsuc 0) *ℚ change i
    unfolding delta change
    delta_cost i l b =
        dot_less q (row_at u.rows i) step basic h (first q)
        ∙ ap (λ z. z +ℚ whole (negsuc 0) *ℚ rat_sum_below (length q.rows) (λ k. h k *ℚ whole (entry_at u i (first q k)))) (at_costs i step l b)

    delta_last : SolvesRational u.rows (full delta rate phase_rate (whole (pos 0)))
    unfolding rate phase_rate
    delta_last =
        let r = rows_are q u end in
        let c = columns_are q u end in
        let l = delta_length in
        solves_last (first_tableau q).rows (first_tableau q) start u end delta rate phase_rate (whole (pos 0)) (l ∙ sym c)
        (λ i b. ap (λ d. d +ℚ whole (entry_at u i (u.columns + 2)) *ℚ whole (pos 0)) (delta_row i (omega (arith, r, b))) ∙ none_left (change i) (whole (entry_at u i (u.columns + 2))))
        (ap (λ d. (d +ℚ whole (lead_at u (objective_row u)) *ℚ rate) +ℚ whole (entry_at u (objective_row u) (u.columns + 2)) *ℚ whole (pos 0))
        (delta_cost (objective_row u) (omega (arith, r)) objective_low)
        ∙ cost_left (change (objective_row u)) (whole (lead_at u (objective_row u))) rate (whole (entry_at u (objective_row u) (u.columns + 2)))
        (over_lead (change (objective_row u)) (lead_at u (objective_row u)) is_readable.lead))
        (ap (λ d. (d +ℚ whole (lead_at u (phase_row u)) *ℚ phase_rate) +ℚ whole (entry_at u (phase_row u) (u.columns + 2)) *ℚ whole (pos 0)) (delta_cost (phase_row u) phase_high phase_low)
        ∙ cost_left (change (phase_row u)) (whole (lead_at u (phase_row u))) phase_rate (whole (entry_at u (phase_row u) (u.columns + 2)))
        (over_lead (change (phase_row u)) (lead_at u (phase_row u)) is_readable.phase_lead))

    delta_first : SolvesRational (first_tableau q).rows (full delta rate phase_rate (whole (pos 0)))
    delta_first = solves_rational u.rows (first_tableau q).rows end.tableau.only _ delta_last

    -- ---- along the direction row i changes by h i, and the cost by the rate
    pub row_moves : (i : ℕ) → i < length q.rows → row_at_columns q i direction ≡ h i
    unfolding delta direction
    row_moves i l =
        let sum = rat_sum_below (length q.rows) (λ k. step k *ℚ whole (entry (entries_at q.rows i) (basic k))) in
        let right = whole (right_side_at q.rows i) in
        dot_put q (entries_at q.rows i) step basic
        ∙ solved_row sum (h i) right
        (ap (λ d. d +ℚ right *ℚ whole (pos 0)) (ap (λ z. sum +ℚ whole (negsuc 0) *ℚ z) (sym (at_first q i h l)) ∙ sym (dot_less q (entries_at q.rows i) step basic h (first q)))
        ∙ first_solved q delta rate phase_rate (whole (pos 0)) delta_length delta_first i l)

    pub cost_moves : rat_dot (wholes q.objective.entries) direction ≡ neg_ℚ (whole q.objective.lead *ℚ rate)
    unfolding delta direction
    cost_moves =
        let sum = rat_sum_below (length q.rows) (λ k. step k *ℚ whole (entry q.objective.entries (basic k))) in
        let none = rat_sum_below (length q.rows) (λ k. h k *ℚ whole (entry q.objective.entries (first q k))) in
        let lead = whole q.objective.lead in
        let right = whole q.objective.right in
        dot_put q q.objective.entries step basic
        ∙ solved_cost sum none lead rate right (no_sum (length q.rows) (λ k. h k *ℚ whole (entry q.objective.entries (first q k))) (λ k l. zero_right (h k) _ (ap whole (placing.first_cost q k l))))
        (ap (λ d. (d +ℚ lead *ℚ rate) +ℚ right *ℚ whole (pos 0)) (sym (dot_less q q.objective.entries step basic h (first q)))
        ∙ first_cost q delta rate phase_rate (whole (pos 0)) delta_length delta_first)
