-- The rate at which the cost changes, by the multipliers of the rows.
use Rattle.std.proofs.Common.{◌≡◌, ℕ, ◌<◌, Bool, true, false, not, List, [], ◌∷◌, length, map, get_or, refl, sym, ap, ap₂, ◌∙◌, subst, ℤ, pos, negsuc, ◌⊎◌, inl, inr}
use Rattle.std.specs.Prelude.{◌&&◌, if◌then◌else◌}
use Rattle.dcx_math.specs.Rational.{ℚ, whole, ◌+ℚ◌, ◌-ℚ◌, ◌*ℚ◌, ◌/ℚ◌, neg_ℚ, inverse}
use Rattle.dcx_math.specs.Sums.{rat_dot, rat_at, rat_sum_below}
use Rattle.dcx_math.proofs.Orders.{linear_eq}
use Rattle.dcx_math.proofs.Points.{wholes}
use Rattle.dcx_math.proofs.Ring.{ring, reads, /ℚ-is}
use Rattle.dcx_math.proofs.Sums.{rat_sum_below-one, rat_sum_below-same, rat_sum_below-*ℚ_right}
use Rattle.dcx_tab.specs.declared.rows.ColumnKind.TheVariants.{Slack, Artificial}
use Rattle.dcx_tab.specs.declared.program.Program.{Program}
use Rattle.dcx_tab.specs.First.{first_tableau}
use Rattle.dcx_tab.specs.Rows.{entry, row_at}
use Rattle.dcx_tab.specs.Table.{Table, entry_at}
use Rattle.dcx_tab.specs.Program.{kind_at, entries_at, right_side_at, is_negated_at}
use Rattle.dcx_tab.proofs.RationalRows.{SolvesRational, solves_rational, full}
use Rattle.dcx_lp_answer.specs.declared.answer.LpAnswer.{LpAnswer}
use Rattle.dcx_lp_answer.specs.declared.answer.LpStatus.TheVariants as status
use Rattle.dcx_lp_answer.specs.Notes.{reduced_cost_of, factor_of, row_factor}
use Rattle.dcx_lp_answer.specs.Right.{is_inequality, turned_if, multiplier_at}
use Rattle.dcx_simplex.specs.Run.{right_at}
use Rattle.dcx_simplex.specs.Whole.{objective_row}
use Rattle.dcx_simplex.specs.Basis.{lead_at}
use Rattle.dcx_simplex.specs.Reading.{IsReading, IsOwnColumn}
use Rattle.dcx_simplex.proofs.EndFacts.{IsEnded}
use Rattle.dcx_simplex.proofs.OwnColumns.{own_column, own_column_is, own_column_low, sign_square, other_zero, own_cost_zero}
use Rattle.dcx_simplex.proofs.Slacks.{Own, sign_slack, sign_artificial}
use Rattle.dcx_simplex.proofs.Bounds.{zero_right, twice, solves_first}
use Rattle.dcx_simplex.proofs.Last.{at_cost_of}
use Rattle.dcx_simplex.proofs.Rights.{optimal_offset, columns_are}
use Rattle.dcx_range.proofs.Placing.{no_sum, less, less_length, dot_less, first, first_low, at_first}
use Rattle.dcx_range.proofs.Placing as placing
use Rattle.dcx_range.proofs.Directions.{start, objective_low, change, rate, none_left}

costs_nothing : (l r : ℚ) → ((whole (pos 0) +ℚ whole (negsuc 0) *ℚ whole (pos 0)) +ℚ l *ℚ whole (pos 0)) +ℚ r *ℚ whole (pos 0) ≡ whole (pos 0)
costs_nothing l r = ring (l ∷ r ∷ []) (search reads depth 30) tt

made_up : (d r : ℚ) (l : ℤ) → l ≡ pos 1 → (d +ℚ whole l *ℚ neg_ℚ d) +ℚ r *ℚ whole (pos 0) ≡ whole (pos 0)
made_up d r l e = ap (λ z. (d +ℚ whole z *ℚ neg_ℚ d) +ℚ r *ℚ whole (pos 0)) e ∙ ring (d ∷ r ∷ []) (search reads depth 30) tt

same_sums : (a b l r : ℚ) → ((a +ℚ whole (negsuc 0) *ℚ b) +ℚ l *ℚ whole (pos 0)) +ℚ r *ℚ whole (pos 0) ≡ whole (pos 0) → a ≡ b
same_sums a b l r e = linear_eq (a ∷ b ∷ l ∷ r ∷ []) e (search reads depth 30) tt

-- a multiplier times the change of its row, with q for the rate of the row's own column
product_by : (negated inequality : Bool) (q f c : ℚ) (s : ℤ) → (inequality ≡ true → s ≡ (if negated then negsuc 0 else pos 1)) → (inequality ≡ false → s ≡ pos 1)
    → turned_if (not inequality && negated) ((neg_ℚ q -ℚ whole (pos 0)) *ℚ f) *ℚ c ≡ (whole s *ℚ turned_if negated (f *ℚ neg_ℚ c)) *ℚ q
product_by true true q f c s hs ha = rw (hs refl) (ring (q ∷ f ∷ c ∷ []) (search reads depth 30) tt)
product_by false true q f c s hs ha = rw (hs refl) (ring (q ∷ f ∷ c ∷ []) (search reads depth 30) tt)
product_by true false q f c s hs ha = rw (ha refl) (ring (q ∷ f ∷ c ∷ []) (search reads depth 30) tt)
product_by false false q f c s hs ha = rw (ha refl) (ring (q ∷ f ∷ c ∷ []) (search reads depth 30) tt)

module _ (q : Program) where
  -- what row k has at its own column: 1 or -1
  sign : ℕ → ℤ
  sign k = entry (entries_at q.rows k) (own_column q k)

  Kind : (k : ℕ) → Own q.columns k → Type 0
  Kind k o = ((kind_at q.columns o.column ≡ Slack k) × (is_inequality q.columns k ≡ true)) ⊎ ((kind_at q.columns o.column ≡ Artificial k) × (is_inequality q.columns k ≡ false))

  kind_of : (k : ℕ) (o : Own q.columns k) → Kind k o
  unfolding Kind
  kind_of k o = o.kind

  slack_sign : (k : ℕ) → k < length q.rows → (o : Own q.columns k) → Kind k o → is_inequality q.columns k ≡ true
      → entry (entries_at q.rows k) o.column ≡ (if is_negated_at q.rows k then negsuc 0 else pos 1)
  unfolding Kind
  slack_sign k h o (inl e) t = sign_slack q k h o e.0
  slack_sign k h o (inr e) t = let f = sym t ∙ e.1 in cc

  artificial_sign : (k : ℕ) → k < length q.rows → (o : Own q.columns k) → Kind k o → is_inequality q.columns k ≡ false → entry (entries_at q.rows k) o.column ≡ pos 1
  unfolding Kind
  artificial_sign k h o (inl e) t = let f = sym t ∙ e.1 in cc
  artificial_sign k h o (inr e) t = sign_artificial q k h o e.0

  -- what is put at own columns, turned by their signs, less the same at the first basic columns, solves the rows
  module _ (h : ℕ → ℚ) where
    pub signed : ℕ → ℚ
    signed k = whole (sign k) *ℚ h k

    excess : List ℚ
    excess = less q signed (own_column q) h (first q)

    excess_length : length excess ≡ length q.columns
    unfolding excess
    excess_length = less_length q signed (own_column q) h (first q) (own_column_low q) (first_low q)

    at_own : (i : ℕ) → i < length q.rows → rat_sum_below (length q.rows) (λ k. signed k *ℚ whole (entry (entries_at q.rows i) (own_column q k))) ≡ h i
    unfolding signed sign
    at_own i l =
        rat_sum_below-one (length q.rows) i (λ k. signed k *ℚ whole (entry (entries_at q.rows i) (own_column q k))) l (λ k b n. zero_right (signed k) _ (ap whole (other_zero q i k l b n)))
        ∙ twice (sign i) (h i) (sign_square q i l)

    rest : ℚ
    rest = neg_ℚ (rat_dot (wholes q.phase.entries) excess)

    excess_solves : SolvesRational (first_tableau q).rows (full excess (whole (pos 0)) rest (whole (pos 0)))
    unfolding excess rest
    excess_solves =
        solves_first q excess (whole (pos 0)) rest (whole (pos 0)) excess_length
        (λ i l. ap (λ d. d +ℚ whole (right_side_at q.rows i) *ℚ whole (pos 0))
        (dot_less q (entries_at q.rows i) signed (own_column q) h (first q) ∙ ap₂ (λ a b. a +ℚ whole (negsuc 0) *ℚ b) (at_own i l) (at_first q i h l))
        ∙ none_left (h i) (whole (right_side_at q.rows i)))
        (ap (λ d. (d +ℚ whole q.objective.lead *ℚ whole (pos 0)) +ℚ whole q.objective.right *ℚ whole (pos 0))
        (dot_less q q.objective.entries signed (own_column q) h (first q)
        ∙ ap₂ (λ a b. a +ℚ whole (negsuc 0) *ℚ b) (no_sum (length q.rows) _ (λ k l. zero_right (signed k) _ (ap whole (own_cost_zero q k l))))
        (no_sum (length q.rows) _ (λ k l. zero_right (h k) _ (ap whole (placing.first_cost q k l)))))
        ∙ costs_nothing (whole q.objective.lead) (whole q.objective.right))
        (made_up (rat_dot (wholes q.phase.entries) excess) (whole q.phase.right) q.phase.lead q.form.sum.lead)

    -- so the objective row of the last tableau has the same sum at both
    module _ (u : Table) (end : IsEnded (first_tableau q).rows (first_tableau q) u) where
      pub own_sum : rat_sum_below (length q.rows) (λ k. signed k *ℚ whole (entry_at u (objective_row u) (own_column q k))) ≡ change q u end h (objective_row u)
      unfolding excess change
      own_sum =
          let c = columns_are q u end in
          let l = excess_length in
          same_sums _ _ (whole (lead_at u (objective_row u))) (whole (right_at u (objective_row u)))
          (ap (λ d. (d +ℚ whole (lead_at u (objective_row u)) *ℚ whole (pos 0)) +ℚ whole (right_at u (objective_row u)) *ℚ whole (pos 0))
          (sym (dot_less q (row_at u.rows (objective_row u)) signed (own_column q) h (first q)))
          ∙ sym (at_cost_of (first_tableau q).rows (first_tableau q) (start q u end) u end excess (whole (pos 0)) rest (whole (pos 0)) (l ∙ sym c))
          ∙ solves_rational (first_tableau q).rows u.rows end.tableau.holds _ excess_solves (objective_row u) (objective_low q u end))

  -- ---- the multipliers of an optimal answer
  module _ (u : Table) (end : IsEnded (first_tableau q).rows (first_tableau q) u) (a : LpAnswer) (reading : IsReading q.rows q.columns u status.Optimal a) (c : ℕ → ℚ) where
    -- how the right side of integer row k changes where the constant of its row changes by c k
    unfoldable pub right_change : ℕ → ℚ
    right_change k = turned_if (is_negated_at q.rows k) (rat_at (map row_factor q.rows) k *ℚ neg_ℚ (c k))

    product_is : (k : ℕ) → k < length q.rows → multiplier_at q.columns a k *ℚ c k
        ≡ signed right_change k *ℚ (whole (entry_at u (objective_row u) (own_column q k)) /ℚ whole (lead_at u (objective_row u)))
    unfolding signed sign right_change
    product_is k h =
        let o = own_column_is q k h in
        let inequality = is_inequality q.columns k in
        let rated = whole (entry_at u (objective_row u) (own_column q k)) /ℚ whole (lead_at u (objective_row u)) in
        let f = rat_at (map row_factor q.rows) k in
        let negated = ap (λ (bs : List Bool). get_or bs k false) reading.negated in
        let factors = ap (λ xs. rat_at xs k) reading.factors in
        let reduced = reading.reduced_costs k (own_column q k) h (subst (IsOwnColumn q.columns k) (sym o.1) o.0.own) in
        ap (λ m. m *ℚ c k)
        (ap₂ (λ b x. turned_if (not inequality && b) ((rat_at (map reduced_cost_of a.rows) k -ℚ x) *ℚ rat_at (map factor_of a.rows) k)) negated (optimal_offset a.status reading.status inequality)
        ∙ ap₂ (λ r g. turned_if (not inequality && is_negated_at q.rows k) ((r -ℚ whole (pos 0)) *ℚ g)) reduced factors)
        ∙ product_by (is_negated_at q.rows k) inequality rated f (c k) (entry (entries_at q.rows k) (own_column q k))
        (λ t. ap (entry (entries_at q.rows k)) o.1 ∙ slack_sign k h o.0 (kind_of k o.0) t)
        (λ t. ap (entry (entries_at q.rows k)) o.1 ∙ artificial_sign k h o.0 (kind_of k o.0) t)

    over_both : (x y z : ℚ) → x *ℚ (y /ℚ z) ≡ (x *ℚ y) *ℚ inverse z
    over_both x y z = ap (λ w. x *ℚ w) (/ℚ-is y z) ∙ ring (x ∷ y ∷ inverse z ∷ []) (search reads depth 30) tt

    -- the multipliers times the changes of the constants are the rate of the cost
    pub rate_is : rat_sum_below (length q.rows) (λ k. multiplier_at q.columns a k *ℚ c k) ≡ rate q u end right_change
    unfolding rate
    rate_is =
        let lead = whole (lead_at u (objective_row u)) in
        rat_sum_below-same (length q.rows) _ (λ k. (signed right_change k *ℚ whole (entry_at u (objective_row u) (own_column q k))) *ℚ inverse lead)
        (λ k h. product_is k h ∙ over_both (signed right_change k) (whole (entry_at u (objective_row u) (own_column q k))) lead)
        ∙ rat_sum_below-*ℚ_right (length q.rows) (inverse lead) (λ k. signed right_change k *ℚ whole (entry_at u (objective_row u) (own_column q k)))
        ∙ ap (λ z. z *ℚ inverse lead) (own_sum right_change u end) ∙ sym (/ℚ-is (change q u end right_change (objective_row u)) lead)
