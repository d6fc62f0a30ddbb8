-- Where the constants of rows move along a line, an answer that is optimal stays so as long as its basis stays feasible: with its
-- multipliers, and with a value on a line.
use Rattle.std.proofs.Common.{◌≡◌, ℕ, Bool, true, false, [], ◌∷◌, map, sym, ap, ap₂, ◌∙◌, subst, pos}
use Rattle.std.proofs.lemmas.List.{length-map}
use Rattle.std.proofs.lemmas.Option.{slice_get_within}
use Rattle.dcx_math.specs.Rational.{ℚ, whole, ◌+ℚ◌, ◌-ℚ◌, ◌*ℚ◌, neg_ℚ}
use Rattle.dcx_math.specs.Sums.{rat_dot, rat_sum_below}
use Rattle.dcx_math.proofs.Points.{wholes}
use Rattle.dcx_math.proofs.Products.{/ℚ-*ℚ}
use Rattle.dcx_math.proofs.Ring.{ring, reads}
use Rattle.dcx_math.proofs.Sums.{rat_at-get_or}
use Rattle.dcx_math.proofs.Lists.{mapped}
use Rattle.dcx_frac.specs.Frac.{value}
use Rattle.dcx_linear.specs.declared.row.RowKind.{RowKind}
use Rattle.dcx_linear.specs.Rows as rows_of
use Rattle.dcx_linear.specs.Rows.{RowAt, LinearProgram, AreOfKinds, StandsTo}
use Rattle.dcx_tab.specs.declared.program.Program.{Program}
use Rattle.dcx_tab.specs.First.{first_tableau}
use Rattle.dcx_tab.specs.Table.{Table}
use Rattle.dcx_tab.specs.Program.{right_of, is_negated}
use Rattle.dcx_lp_answer.specs.declared.answer.LpAnswer.{LpAnswer}
use Rattle.dcx_lp_answer.specs.declared.answer.LpStatus.TheVariants as status
use Rattle.dcx_lp_answer.specs.Notes.{numbers, row_factor}
use Rattle.dcx_lp_answer.specs.Right.{turned_if, row_at_columns, multiplier_at, IsOptimalAnswer, IsRightAs}
use Rattle.dcx_simplex.specs.Whole.{objective_row, RunEnds}
use Rattle.dcx_simplex.specs.declared.run.LpEnd.TheVariants as lp
use Rattle.dcx_simplex.specs.Reading.{IsReading}
use Rattle.dcx_simplex.proofs.Starts.{starts}
use Rattle.dcx_simplex.proofs.EndFacts.{IsEnded}
use Rattle.dcx_simplex.proofs.Limits.{begun}
use Rattle.dcx_simplex.proofs.PhaseLaws.{stays_ready, stays_kin}
use Rattle.dcx_simplex.proofs.EndLaws.{kin_both}
use Rattle.dcx_simplex.proofs.Ended.{right_optimal}
use Rattle.dcx_simplex.proofs.Bounds.{lead_some_of}
use Rattle.dcx_std.specs.GivenRows.{GivenRows}
use Rattle.dcx_std.specs.IntegerRows.{IsMade}
use Rattle.dcx_std.specs.ScaledProgram.{IsScaledProgram}
use Rattle.dcx_std.specs.Solutions.{form_number, row_at, linear_program, unknowns_at, HasKinds}
use Rattle.dcx_std.specs.Answers.{IsRightForRowsAs}
use Rattle.dcx_std.proofs.ScaledProgram.{scaled_program}
use Rattle.dcx_std.proofs.Solutions.{RowFacts, mapped_at, facts_of, moved_holds, kinds_hold, cost_is}
use Rattle.dcx_std.proofs.RightAnswers.{shown_of}
use Rattle.dcx_range.proofs.Directions.{rate}
use Rattle.dcx_range.proofs.OwnSums.{right_change, rate_is}
use Rattle.dcx_range.proofs.Along.{moved, moved_row, moved_cost}
use Rattle.dcx_range.proofs.Stays.{IsKept, moved_low, moved_none}
use Rattle.dcx_range.proofs.Shifted.{IsMoved, source, moved_optimal}

pub both_turned : (t : Bool) (f k c d : ℚ) → turned_if t (f *ℚ neg_ℚ k) +ℚ d *ℚ turned_if t (f *ℚ neg_ℚ c) ≡ turned_if t (f *ℚ neg_ℚ (k +ℚ c *ℚ d))
both_turned true f k c d = ring (f ∷ k ∷ c ∷ d ∷ []) (search reads depth 30 fits 4000) tt
both_turned false f k c d = ring (f ∷ k ∷ c ∷ d ∷ []) (search reads depth 30 fits 4000) tt

on_line : (v d r b : ℚ) → (v +ℚ d *ℚ r) +ℚ b *ℚ d ≡ v +ℚ (r +ℚ b) *ℚ d
on_line v d r b = ring (v ∷ d ∷ r ∷ b ∷ []) (search reads depth 30) tt

module _ (rows : GivenRows) (q : Program) (known : HasKinds rows) (made : IsMade rows q) (limit n : ℕ) (u : Table) (run : RunEnds limit (first_tableau q) u (lp.Optimal n)) where
  pub ended : IsEnded (first_tableau q).rows (first_tableau q) u
  ended =
      let equations = (first_tableau q).rows in
      let b = begun equations (first_tableau q) (starts q.rows q.columns q.objective q.phase q.form) limit run.1 run.0 run.2 in
      let r = stays_ready equations (objective_row run.0) run.0.plain limit run.0 run.1 u n b.ready run.3 in
      let k = stays_kin equations (objective_row run.0) run.0.plain limit run.0 run.1 u n b.ready run.3 in
      record { tableau = r.tableau; feasible = r.feasible; kin = kin_both (first_tableau q) run.0 u b.kin k; basics = r.basics }

  pub scaled : IsScaledProgram rows q
  scaled = scaled_program rows q made

  module _ (a : LpAnswer) (reading : IsReading q.rows q.columns u status.Optimal a) where
    pub answer : IsOptimalAnswer q a
    answer = right_optimal q u limit n run a reading

    pub shown : rows_of.IsOptimal (linear_program rows) (value a.number) (unknowns_at q.columns (numbers a.columns)) (multiplier_at q.columns a)
    shown = subst (λ s. IsRightForRowsAs s rows q a) reading.status (shown_of rows q known scaled a (subst (λ s. IsRightAs s q a) (sym reading.status) answer))

    module _ (c : ℕ → ℚ) (b d : ℚ) (other : LinearProgram) (is : IsMoved (linear_program rows) other c b d) (keeps : IsKept q u ended (right_change q u ended a reading c) d) where
      row_is : (i : ℕ) (f : RowFacts rows q known scaled i) → row_at_columns q i (moved q u ended (right_change q u ended a reading c) a reading d)
          ≡ turned_if f.ints.negated (value f.ints.factor *ℚ neg_ℚ (value f.row.form.constant +ℚ c i *ℚ d))
      unfolding right_change
      row_is i f =
          moved_row q u ended (right_change q u ended a reading c) a reading d answer.solution i (slice_get_within q.rows i f.ints f.ints_is)
          ∙ ap₂ (λ r k. r +ℚ d *ℚ k) (ap whole (mapped_at right_of q.rows i f.ints (pos 0) f.ints_is) ∙ f.scaled.right)
          (ap₂ (λ t k. turned_if t (k *ℚ neg_ℚ (c i))) (mapped_at is_negated q.rows i f.ints false f.ints_is)
          (sym (rat_at-get_or (map row_factor q.rows) i) ∙ mapped_at row_factor q.rows i f.ints (whole (pos 0)) f.ints_is))
          ∙ both_turned f.ints.negated (value f.ints.factor) (value f.row.form.constant) (c i) d

      stands : (i : ℕ) (f : RowFacts rows q known scaled i) → StandsTo f.row.kind
          (form_number f.row.form (unknowns_at q.columns (moved q u ended (right_change q u ended a reading c) a reading d)) +ℚ c i *ℚ d)
      stands i f =
          moved_holds rows q known scaled (moved q u ended (right_change q u ended a reading c) a reading d) (moved_low q u ended (right_change q u ended a reading c) d a reading keeps)
          (moved_none q u ended (right_change q u ended a reading c) d a reading keeps)
          i f (c i *ℚ d) (row_is i f)

      solves : rows_of.IsSolution other (unknowns_at q.columns (moved q u ended (right_change q u ended a reading c) a reading d))
      solves = record {
        kinds = subst (λ ks. AreOfKinds ks (unknowns_at q.columns (moved q u ended (right_change q u ended a reading c) a reading d))) (sym is.kinds)
            (kinds_hold rows q known scaled (moved q u ended (right_change q u ended a reading c) a reading d) (moved_low q u ended (right_change q u ended a reading c) d a reading keeps));
        rows = λ i s e.
            let r = source (linear_program rows) other c b d is i s e in
            let o = mapped row_at rows.rows i r.0 r.1 in
            let f = facts_of rows q known scaled i o.0 o.1 in
            let m = is.rows i r.0 s r.1 e in
            by s.kind (s.number (unknowns_at q.columns (moved q u ended (right_change q u ended a reading c) a reading d)))
            (o.0).kind (form_number (o.0).form (unknowns_at q.columns (moved q u ended (right_change q u ended a reading c) a reading d))) i (m.0 ∙ ap (λ (z : RowAt). z.kind) (sym o.2))
            (m.1 (unknowns_at q.columns (moved q u ended (right_change q u ended a reading c) a reading d))
            ∙ ap (λ (z : RowAt). z.number (unknowns_at q.columns (moved q u ended (right_change q u ended a reading c) a reading d)) +ℚ c i *ℚ d) (sym o.2)) (stands i f);
      }
        where
          by : (k : RowKind) (y : ℚ) (l : RowKind) (z : ℚ) (i : ℕ) → k ≡ l → y ≡ z +ℚ c i *ℚ d → StandsTo l (z +ℚ c i *ℚ d) → StandsTo k y
          by k y l z i e g w = subst (λ v. StandsTo k v) (sym g) (subst (λ v. StandsTo v (z +ℚ c i *ℚ d)) (sym e) w)

      attained : other.objective (unknowns_at q.columns (moved q u ended (right_change q u ended a reading c) a reading d))
          ≡ value a.number +ℚ (rate q u ended (right_change q u ended a reading c) +ℚ b) *ℚ d
      attained =
          is.objective _
          ∙ ap (λ y. y +ℚ b *ℚ d)
          (sym (cost_is rows q known scaled (moved q u ended (right_change q u ended a reading c) a reading d))
          ∙ moved_cost q u ended (right_change q u ended a reading c) a reading d answer.solution (value a.number)
          (ap (λ y. y *ℚ whole q.objective.lead) (sym answer.attained)
          ∙ /ℚ-*ℚ (whole q.objective.right -ℚ rat_dot (wholes q.objective.entries) (numbers a.columns)) (whole q.objective.lead) (lead_some_of q.objective.lead q.form.cost.lead)))
          ∙ on_line (value a.number) d (rate q u ended (right_change q u ended a reading c)) b

      -- the moved program is optimal at the moved columns, with the same multipliers
      pub stays_optimal : rows_of.IsOptimal other (value a.number +ℚ (rate q u ended (right_change q u ended a reading c) +ℚ b) *ℚ d)
          (unknowns_at q.columns (moved q u ended (right_change q u ended a reading c) a reading d)) (multiplier_at q.columns a)
      stays_optimal =
          moved_optimal (linear_program rows) other c b d is (value a.number) (rate q u ended (right_change q u ended a reading c))
          (unknowns_at q.columns (numbers a.columns)) _ (multiplier_at q.columns a) shown
          (ap (λ k. rat_sum_below k (λ i. multiplier_at q.columns a i *ℚ c i)) (length-map rows.rows row_at ∙ sym scaled.count) ∙ rate_is q u ended a reading c)
          solves attained
