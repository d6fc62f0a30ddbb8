-- The last basis stays feasible where its right sides, moved, are at least 0, and 0 where an artificial is basic; and there alone.
use Rattle.std.proofs.Common.{◌≡◌, ◌≢◌, ℕ, ◌<◌, ◌≤◌, List, [], ◌∷◌, length, arith, sym, ap, ap₂, ◌∙◌, subst, ℤ, pos, negsuc, ◌<ℤ◌, ◌⊎◌, inl, inr}
use Rattle.std.proofs.lemmas.Bool.{cases_lt}
use Rattle.dcx_math.specs.Rational.{ℚ, whole, ◌+ℚ◌, ◌-ℚ◌, ◌*ℚ◌, ◌/ℚ◌, neg_ℚ, inverse, ◌≤ℚ◌}
use Rattle.dcx_math.specs.Sums.{rat_dot, rat_at, rat_scaled, along}
use Rattle.dcx_math.proofs.Orders.{zero-*ℚ, *ℚ-zero, ≤ℚ-from_≡, linear_eq, <ℚ-≤ℚ}
use Rattle.dcx_math.proofs.Points.{wholes}
use Rattle.dcx_math.proofs.Products.{*ℚ-nonnegative, ≤ℚ-/ℚ, whole-<ℤ}
use Rattle.dcx_math.proofs.Ring.{ring, reads, /ℚ-is}
use Rattle.dcx_math.proofs.Vectors.{rat_dot-along, length-rat_scaled}
use Rattle.dcx_tab.specs.declared.program.Program.{Program}
use Rattle.dcx_tab.specs.First.{first_tableau}
use Rattle.dcx_tab.specs.Rows.{row_at, basic_at}
use Rattle.dcx_tab.specs.Table.{Table, entry_at}
use Rattle.dcx_tab.specs.Program.{entries_at, right_side_at, plain_count}
use Rattle.dcx_tab.proofs.RationalRows.{SolvesRational, solves_rational, full, length_added}
use Rattle.dcx_lp_answer.specs.declared.answer.LpAnswer.{LpAnswer}
use Rattle.dcx_lp_answer.specs.declared.answer.LpStatus.TheVariants as status
use Rattle.dcx_lp_answer.specs.Right.{row_at_columns}
use Rattle.dcx_simplex.specs.Run.{right_at}
use Rattle.dcx_simplex.specs.Basis.{IsBasic}
use Rattle.dcx_simplex.specs.Reading.{IsReading}
use Rattle.dcx_simplex.proofs.Cycle.{is_basic}
use Rattle.dcx_simplex.proofs.EndFacts.{IsEnded}
use Rattle.dcx_simplex.proofs.Bounds.{lead_some_of, cost_holds, phase_holds, solves_first}
use Rattle.dcx_simplex.proofs.Last.{rat_at-past, dot_one, at_row_of}
use Rattle.dcx_simplex.proofs.Rights.{columns_are, rows_are}
use Rattle.dcx_range.proofs.Placing.{put, put_length, dot_put, first, first_low, at_first}
use Rattle.dcx_range.proofs.Directions.{start, basic, basic_low, basic_zero, basic_positive, change, step}
use Rattle.dcx_range.proofs.Along.{moved, moved_other, moved_basic}

row_left : (r t h : ℚ) → ((r +ℚ t *ℚ h) +ℚ neg_ℚ t *ℚ h) +ℚ r *ℚ whole (negsuc 0) ≡ whole (pos 0)
row_left r t h = ring (r ∷ t ∷ h ∷ []) (search reads depth 30) tt

back_to : (a t c r : ℚ) → (a +ℚ neg_ℚ t *ℚ c) +ℚ r *ℚ whole (negsuc 0) ≡ whole (pos 0) → a ≡ r +ℚ t *ℚ c
back_to a t c r e = linear_eq (a ∷ t ∷ c ∷ r ∷ []) e (search reads depth 30) tt

over_both : (a t c e : ℚ) → a /ℚ e +ℚ t *ℚ (c /ℚ e) ≡ (a +ℚ t *ℚ c) /ℚ e
over_both a t c e = ap₂ (λ x y. x +ℚ t *ℚ y) (/ℚ-is a e) (/ℚ-is c e) ∙ ring (a ∷ t ∷ c ∷ inverse e ∷ []) (search reads depth 30) tt ∙ sym (/ℚ-is (a +ℚ t *ℚ c) e)

module _ (q : Program) (u : Table) (end : IsEnded (first_tableau q).rows (first_tableau q) u) (h : ℕ → ℚ) (t : ℚ) where
  -- the right side of row i, moved
  unfoldable pub right : ℕ → ℚ
  right i = whole (right_at u i) +ℚ t *ℚ change q u end h i

  -- the right sides are at least 0, and 0 where an artificial is basic
  pub record IsKept : Type 0 where
    pub low : (i : ℕ) → i < length q.rows → whole (pos 0) ≤ℚ right i
    pub artificial : (i : ℕ) → i < length q.rows → u.plain ≤ basic_at u.basis i → right i ≡ whole (pos 0)

  -- ---- from columns that solve the moved rows, 0 outside the basis
  module _ (zs : List ℚ) (count : length zs ≡ length q.columns) (rows : (i : ℕ) → i < length q.rows → row_at_columns q i zs ≡ whole (right_side_at q.rows i) +ℚ t *ℚ h i)
      (outside : (j : ℕ) → j < length q.columns → ¬ (IsBasic u j) → rat_at zs j ≡ whole (pos 0)) where
    back : List ℚ
    back = along zs (neg_ℚ t) (put q h (first q))

    back_length : length back ≡ length q.columns
    unfolding back
    back_length =
        let p = put_length q h (first q) (first_low q) in
        let s = length-rat_scaled (neg_ℚ t) (put q h (first q)) in
        length_added zs (rat_scaled (neg_ℚ t) (put q h (first q))) (omega (arith, count, p, s)) ∙ count

    cost : ℚ
    cost = (whole q.objective.right -ℚ rat_dot (wholes q.objective.entries) back) /ℚ whole q.objective.lead

    rest : ℚ
    rest = whole q.phase.right -ℚ rat_dot (wholes q.phase.entries) back

    back_first : SolvesRational (first_tableau q).rows (full back cost rest (whole (negsuc 0)))
    unfolding back cost rest
    back_first =
        solves_first q back cost rest (whole (negsuc 0)) back_length
        (λ i l. ap (λ d. d +ℚ whole (right_side_at q.rows i) *ℚ whole (negsuc 0))
        (rat_dot-along (wholes (entries_at q.rows i)) zs (neg_ℚ t) (put q h (first q)) ∙ ap₂ (λ a b. a +ℚ neg_ℚ t *ℚ b) (rows i l) (dot_put q (entries_at q.rows i) h (first q) ∙ at_first q i h l))
        ∙ row_left (whole (right_side_at q.rows i)) t (h i))
        (cost_holds (rat_dot (wholes q.objective.entries) back) (whole q.objective.lead) (whole q.objective.right) (lead_some_of q.objective.lead q.form.cost.lead))
        (phase_holds (rat_dot (wholes q.phase.entries) back) (whole q.phase.right) q.phase.lead q.form.sum.lead)

    back_last : SolvesRational u.rows (full back cost rest (whole (negsuc 0)))
    back_last = solves_rational (first_tableau q).rows u.rows end.tableau.holds _ back_first

    other_by : (i j : ℕ) → i < length q.rows → j ≢ basic q u end i → (j < length q.columns) ⊎ (length q.columns ≤ j) → IsBasic u j ⊎ ¬ (IsBasic u j)
        → (entry_at u i j ≡ pos 0) ⊎ (rat_at zs j ≡ whole (pos 0))
    unfolding basic
    other_by i j l n c (inl b) =
        let r = rows_are q u end in
        let g = b.1 in
        inl (ap (entry_at u i) (sym b.2) ∙ basic_zero q u end i b.0 (omega (arith, r, l)) (omega (arith, r, g)) (λ e. n (sym b.2 ∙ ap (basic_at u.basis) e)))
    other_by i j l n (inl k) (inr m) = inr (outside j k m)
    other_by i j l n (inr k) (inr m) = inr (rat_at-past zs j (omega (arith, count, k)))

    at_basic : (i : ℕ) → i < length q.rows → rat_dot (wholes (row_at u.rows i)) zs ≡ whole (entry_at u i (basic q u end i)) *ℚ rat_at zs (basic q u end i)
    at_basic i l =
        let r = rows_are q u end in
        let w = end.tableau.form.widths i (omega (arith, r, l)) in
        let c = columns_are q u end in
        let b = basic_low q u end i l in
        dot_one (row_at u.rows i) zs (basic q u end i) (omega (arith, w, c, b)) (λ j k n. other_by i j l n (cases_lt j (length q.columns)) (is_basic u j))

    -- a basic column times its row's entry is the moved right side
    pub basic_is : (i : ℕ) → i < length q.rows → whole (entry_at u i (basic q u end i)) *ℚ rat_at zs (basic q u end i) ≡ right i
    unfolding right back change
    basic_is i l =
        let r = rows_are q u end in
        let c = columns_are q u end in
        let b = back_length in
        sym (at_basic i l)
        ∙ back_to (rat_dot (wholes (row_at u.rows i)) zs) t _ (whole (right_at u i))
        (ap (λ d. d +ℚ whole (right_at u i) *ℚ whole (negsuc 0)) (ap (λ d. rat_dot (wholes (row_at u.rows i)) zs +ℚ neg_ℚ t *ℚ d) (sym (dot_put q (row_at u.rows i) h (first q)))
        ∙ sym (rat_dot-along (wholes (row_at u.rows i)) zs (neg_ℚ t) (put q h (first q))))
        ∙ sym (at_row_of (first_tableau q).rows (first_tableau q) (start q u end) u end back cost rest (whole (negsuc 0)) (b ∙ sym c) i (omega (arith, r, l)))
        ∙ back_last i (omega (arith, r, l)))

    pub kept : ((j : ℕ) → j < length q.columns → whole (pos 0) ≤ℚ rat_at zs j) → ((j : ℕ) → plain_count q.columns ≤ j → j < length q.columns → rat_at zs j ≡ whole (pos 0)) → IsKept
    unfolding basic
    kept low none = record {
      low = λ i l. subst (λ x. whole (pos 0) ≤ℚ x) (basic_is i l) (*ℚ-nonnegative (<ℚ-≤ℚ (whole-<ℤ (pos 0) _ (basic_positive q u end i l))) (low (basic q u end i) (basic_low q u end i l)));
      artificial = λ i l p. let k = end.kin.plain in sym (basic_is i l)
          ∙ ap (λ x. whole (entry_at u i (basic q u end i)) *ℚ x) (none (basic q u end i) (omega (arith, k, p)) (basic_low q u end i l)) ∙ *ℚ-zero _;
    }

  -- ---- to the columns of an answer, moved
  module _ (a : LpAnswer) (reading : IsReading q.rows q.columns u status.Optimal a) (keeps : IsKept) where
    moved_right : (i : ℕ) → i < length q.rows → rat_at (moved q u end h a reading t) (basic q u end i) ≡ right i /ℚ whole (entry_at u i (basic q u end i))
    unfolding right step
    moved_right i l =
        moved_basic q u end h a reading t i l (basic_low q u end i l)
        ∙ over_both (whole (right_at u i)) t (change q u end h i) (whole (entry_at u i (basic q u end i)))

    quotient_low : (x : ℚ) (e : ℤ) → whole (pos 0) ≤ℚ x → pos 0 <ℤ e → whole (pos 0) ≤ℚ (x /ℚ whole e)
    quotient_low x e l p = ≤ℚ-/ℚ (whole-<ℤ (pos 0) e p) (subst (λ y. y ≤ℚ x) (sym (zero-*ℚ (whole e))) l)

    no_quotient : (x e : ℚ) → x ≡ whole (pos 0) → x /ℚ e ≡ whole (pos 0)
    no_quotient x e z = ap (λ y. y /ℚ e) z ∙ /ℚ-is (whole (pos 0)) e ∙ zero-*ℚ (inverse e)

    low_by : (j : ℕ) → j < length q.columns → IsBasic u j ⊎ ¬ (IsBasic u j) → whole (pos 0) ≤ℚ rat_at (moved q u end h a reading t) j
    unfolding basic
    low_by j l (inl b) =
        let r = rows_are q u end in
        let g = b.1 in
        let k : b.0 < length q.rows = omega (arith, r, g) in
        subst (λ i. whole (pos 0) ≤ℚ rat_at (moved q u end h a reading t) i) b.2
        (subst (λ x. whole (pos 0) ≤ℚ x) (sym (moved_right b.0 k)) (quotient_low (right b.0) _ (keeps.low b.0 k) (basic_positive q u end b.0 k)))
    low_by j l (inr n) = ≤ℚ-from_≡ (sym (moved_other q u end h a reading t j l n))

    pub moved_low : (j : ℕ) → j < length q.columns → whole (pos 0) ≤ℚ rat_at (moved q u end h a reading t) j
    moved_low j l = low_by j l (is_basic u j)

    none_by : (j : ℕ) → plain_count q.columns ≤ j → j < length q.columns → IsBasic u j ⊎ ¬ (IsBasic u j) → rat_at (moved q u end h a reading t) j ≡ whole (pos 0)
    unfolding basic
    none_by j p l (inl b) =
        let r = rows_are q u end in
        let g = b.1 in
        let f = end.kin.plain in
        let e = b.2 in
        let k : b.0 < length q.rows = omega (arith, r, g) in
        ap (rat_at (moved q u end h a reading t)) (sym e) ∙ moved_right b.0 k ∙ no_quotient (right b.0) _ (keeps.artificial b.0 k (omega (arith, f, e, p)))
    none_by j p l (inr n) = moved_other q u end h a reading t j l n

    pub moved_none : (j : ℕ) → plain_count q.columns ≤ j → j < length q.columns → rat_at (moved q u end h a reading t) j ≡ whole (pos 0)
    moved_none j p l = none_by j p l (is_basic u j)
