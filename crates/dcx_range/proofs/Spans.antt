-- What the last basis of an optimal run shows of a parameter: the interval of its values, and the value of the problem along it.
use Rattle.std.proofs.Common.{◌≡◌, ◌≢◌, ℕ, ◌+◌, ◌<◌, ◌^◌, false, List, [], ◌∷◌, length, map, Some, option_map, Ok, slice_get, refl, sym, ap, ap₂, ◌∙◌, subst, arith, pos, unsigned_abs, eq-eqb}
use Rattle.std.specs.Prelude.{◌↔◌, if◌then◌else◌}
use Rattle.std.proofs.lemmas.Bool.{ne_eqb}
use Rattle.std.proofs.lemmas.Option.{slice_get-map, get_or_from_slice_get, slice_get_within}
use Rattle.dcx_math.specs.Rational.{ℚ, whole, ◌+ℚ◌, ◌-ℚ◌, ◌*ℚ◌, ◌/ℚ◌, neg_ℚ, ◌≤ℚ◌}
use Rattle.dcx_math.specs.Sums.{rat_sum_below}
use Rattle.dcx_math.proofs.Orders.{zero-*ℚ, whole-≤ℤ}
use Rattle.dcx_math.proofs.Products.{/ℚ-*ℚ}
use Rattle.dcx_math.proofs.Ring.{ring, reads}
use Rattle.dcx_math.proofs.Sums.{rat_at-get_or}
use Rattle.dcx_math.proofs.Lists.{element_at, holds_at}
use Rattle.dcx_frac.specs.declared.fraction.Frac.{Frac}
use Rattle.dcx_frac.specs.Frac.{value}
use Rattle.dcx_shape.specs.declared.shape.Sides.{Sides}
use Rattle.dcx_shape.specs.Shape.{sides_of}
use Rattle.dcx_shape.specs.Sides.{entries_of}
use Rattle.dcx_point.specs.Pairs.{Pairs}
use Rattle.dcx_call.specs.declared.attribute.Attribute.{Attribute}
use Rattle.dcx_call.specs.declared.attribute.Attribute.TheVariants as attributes
use Rattle.dcx_call.specs.declared.attribute.Parameter.{Parameter}
use Rattle.dcx_call.specs.Attributes.{IsWithin}
use Rattle.dcx_call.specs.Values.{given_by}
use Rattle.dcx_fit.specs.Fit.{IsMet}
use Rattle.dcx_fit.proofs.Fitting.{fitting_holds}
use Rattle.dcx_tree.specs.declared.problem.Problem.{Problem}
use Rattle.dcx_tree.specs.Meaning.{IsDpp, IsFitting, Fits, names_in, convex_problem, setting_of}
use Rattle.dcx_linear.specs.declared.row.Row.{Row}
use Rattle.dcx_linear.specs.declared.param_form.ParamForm.{ParamForm}
use Rattle.dcx_linear.specs.Parameters.{Parameters, entry_of}
use Rattle.dcx_linear.specs.ParamForms.{form_value}
use Rattle.dcx_tab.specs.declared.rows.IntRow.{IntRow}
use Rattle.dcx_tab.specs.declared.program.Program as tab
use Rattle.dcx_tab.specs.First.{first_tableau}
use Rattle.dcx_tab.specs.Rows.{basic_at}
use Rattle.dcx_tab.specs.Table.{Table, entry_at}
use Rattle.dcx_tab.specs.Program.{right_side_at, right_of, is_negated, first_basic_of}
use Rattle.dcx_lp_answer.specs.declared.answer.LpAnswer.{LpAnswer}
use Rattle.dcx_lp_answer.specs.declared.answer.LpStatus.TheVariants as status
use Rattle.dcx_lp_answer.specs.Notes.{row_factor}
use Rattle.dcx_lp_answer.specs.Right.{turned_if, multiplier_at}
use Rattle.dcx_simplex.specs.Run.{right_at}
use Rattle.dcx_simplex.specs.Whole.{objective_row, RunEnds}
use Rattle.dcx_simplex.specs.declared.run.LpEnd.TheVariants as lp
use Rattle.dcx_simplex.specs.Reading.{IsReading}
use Rattle.dcx_simplex.proofs.EndFacts.{IsEnded}
use Rattle.dcx_simplex.proofs.Bounds.{lead_some_of}
use Rattle.dcx_simplex.proofs.Rights.{rows_are}
use Rattle.dcx_std.specs.IntegerRows.{IsMade}
use Rattle.dcx_std.specs.ScaledProgram.{IsScaledProgram}
use Rattle.dcx_std.specs.Solutions.{unknowns_at, HasKinds}
use Rattle.dcx_std.proofs.Solutions.{mapped_at}
use Rattle.dcx_unknowns.specs.Unknowns.{point_at}
use Rattle.dcx_graph.specs.Programs.{multipliers_of}
use Rattle.dcx_graph.specs.Program.{Program}
use Rattle.dcx_graph.specs.Answers.{rows_of}
use Rattle.dcx_graph.specs.AsLinear.{linear_at}
use Rattle.dcx_graph.specs.Fixed.{IsKnownProgram}
use Rattle.dcx_graph.specs.Fixing.{FixGives}
use Rattle.dcx_graph.specs.Correct.{ReducesAffine}
use Rattle.dcx_graph.proofs.AtSetting.{stands_for}
use Rattle.dcx_graph.proofs.Correct.{affine_are_known}
use Rattle.dcx_range.specs.declared.rates.Rate.{Rate}
use Rattle.dcx_range.specs.declared.ends.Ends.{Ends}
use Rattle.dcx_range.specs.Coefficients.{coefficient_of, HasConstants}
use Rattle.dcx_range.specs.Parameters.{scales}
use Rattle.dcx_right.specs.Ranges.{IsNumber, DifferAt, HasValue}
use Rattle.dcx_range.specs.Operations.{rates_of, change_at, ends_from, no_ends, sign_ends, slope_of, constant_of}
use Rattle.dcx_range.specs.Interval.{with_value, HasSign, IsInInterval}
use Rattle.dcx_range.proofs.Exact.{rate_value, rates_length, rate_at, sum_below, change_value, slope_value, constant_value}
use Rattle.dcx_range.proofs.Between.{Within, sign_in, sign_out, IsSettled, allowed_here, all_in, all_out}
use Rattle.dcx_range.proofs.Named.{name_is}
use Rattle.dcx_range.proofs.Placing.{first}
use Rattle.dcx_range.proofs.Directions.{is_readable, basic_low, objective_is, change, rate}
use Rattle.dcx_range.proofs.OwnSums.{right_change}
use Rattle.dcx_range.proofs.Along.{moved_length, moved_other, moved_row}
use Rattle.dcx_range.proofs.Along as along
use Rattle.dcx_range.proofs.Stays.{right, IsKept, kept, moved_low, moved_none}
use Rattle.dcx_range.proofs.Moves.{moved}
use Rattle.dcx_range.proofs.Optimal.{both_turned, ended, scaled, answer, stays_optimal}
use Rattle.dcx_range.proofs.Law.{coefficient_at, coefficient_is, rows_count, constant_same, constant_moves, is_moved, carried}

-- ---- numbers
on_line : (n s t v a : ℚ) → s ≡ t → n +ℚ t *ℚ (v -ℚ a) ≡ (n -ℚ s *ℚ a) +ℚ s *ℚ v
on_line n s t v a e = ap (λ z. n +ℚ z *ℚ (v -ℚ a)) (sym e) ∙ ring (n ∷ s ∷ v ∷ a ∷ []) (search reads depth 30 fits 4000) tt

from_quotient : (x e : ℚ) → e ≢ whole (pos 0) → x /ℚ e ≡ whole (pos 0) → x ≡ whole (pos 0)
from_quotient x e n z = sym (/ℚ-*ℚ x e n) ∙ ap (λ y. y *ℚ e) z ∙ zero-*ℚ e

-- what the attribute demands of an array with one entry is the sign of its entry
sign_of : (a : Attribute) (sides : Sides) (x : ℕ → ℚ) (v : ℚ) → IsWithin a sides x → 0 < entries_of sides → x 0 ≡ v → HasSign a v
sign_of attributes.Free sides x v h l e = tt
sign_of attributes.Nonneg sides x v h l e = subst (λ z. whole (pos 0) ≤ℚ z) e (h 0 l)
sign_of attributes.Nonpos sides x v h l e = subst (λ z. z ≤ℚ whole (pos 0)) e (h 0 l)
sign_of attributes.Symmetric sides x v h l e = tt
sign_of attributes.Diag sides x v h l e = tt

module _ (p : Problem) (setting : Pairs) (name : List ℕ) (m : Program ParamForm) (unread : Pairs) (dpp : IsDpp p) (reduces : ReducesAffine p unread (Ok m)) (fits : IsFitting p setting)
    (r : Program Frac) (put : FixGives setting m (Ok r))
    (n : IsNumber p name) (free : scales n.at m ≡ false) (constants : HasConstants m) (at : Frac) (at_is : entry_of setting name 0 ≡ Some at) where
  abbrev s : Parameters
  s = setting_of p setting

  known_program : IsKnownProgram p m
  known_program = affine_are_known p unread m reduces

  -- ---- the parameter's value at the setting
  named_so : n.parameter.name ≡ name
  named_so = name_is p.parameters name n.at n.parameter n.named.place n.named.there

  named : slice_get (names_in p).parameters n.at ≡ Some name
  named =
      slice_get-map (λ (q : Parameter). q.name) p.parameters n.at ∙ ap (option_map (λ (q : Parameter). q.name)) n.named.there ∙ ap Some named_so

  pub at_value : s n.at 0 ≡ value at
  at_value = stands_for p setting n.at name 0 at named at_is

  given_value : given_by setting n.parameter.name 0 ≡ value at
  given_value = ap (λ z. given_by setting z 0) (named_so ∙ sym (get_or_from_slice_get (names_in p).parameters n.at name [] named)) ∙ at_value

  has_sign : HasSign n.parameter.attribute (value at)
  has_sign =
      let met = holds_at (IsMet setting) p.parameters n.at n.parameter ((fitting_holds p setting).0 fits).0.met n.named.there in
      let one = ap entries_of n.scalar in
      sign_of n.parameter.attribute (sides_of n.parameter.shape) (given_by setting n.parameter.name) (value at) met.within (omega (arith, one)) given_value

  -- ---- settings that differ by it
  differs_with : (v : ℚ) → DifferAt n.at s (with_value n.at v s)
  differs_with v j e ne = ap (λ b. if b then v else s j e) (ne_eqb j n.at ne)

  value_with : (v : ℚ) → with_value n.at v s n.at 0 ≡ v
  value_with v = ap (λ b. if b then v else s n.at 0) (eq-eqb n.at n.at refl)

  moved_is : (t : Parameters) (d : DifferAt n.at s t) → moved s t n.at d ≡ t n.at 0 -ℚ value at
  unfolding moved
  moved_is t d = ap (λ z. t n.at 0 -ℚ z) at_value

  -- ---- the last basis
  module _ (q : tab.Program) (made : IsMade (rows_of r) q) (known : HasKinds (rows_of r)) (limit pivots : ℕ) (u : Table) (run : RunEnds limit (first_tableau q) u (lp.Optimal pivots)) (a : LpAnswer)
      (reading : IsReading q.rows q.columns u status.Optimal a)
      (small : (i j : ℕ) → i < length u.rows → unsigned_abs (entry_at u i j) < 2 ^ 127) where
    abbrev end : IsEnded (first_tableau q).rows (first_tableau q) u
    end = ended (rows_of r) q known made limit pivots u run

    abbrev scales_so : IsScaledProgram (rows_of r) q
    scales_so = scaled (rows_of r) q known made limit pivots u run

    abbrev changes : ℕ → ℚ
    changes = right_change q u end a reading (coefficient_at n.at m.rows)

    ints_count : length q.rows ≡ length m.rows
    ints_count = scales_so.count ∙ rows_count p setting fits.shaped m known_program r put

    settled : (i : ℕ) → i < length q.rows → IsSettled u i
    settled i l =
        let rows = rows_are q u end in
        let b = basic_low q u end i l in
        let plain = end.kin.plain in
        let high : i + 2 < length u.rows = omega (arith, rows, l) in
        let column = basic_at u.basis i in
        let in_columns : column < length q.columns = let c = end.kin.columns in let e = end.basics i high in omega (arith, c, e) in
        record {
          low = whole-≤ℤ (pos 0) (right_at u i) (end.feasible i high);
          artificial = λ h.
              from_quotient (whole (right_at u i)) (whole (entry_at u i column)) (lead_some_of (entry_at u i column) ((is_readable q u end).positive i high))
              (sym ((reading.column column in_columns).basic i high refl)
              ∙ (answer (rows_of r) q known made limit pivots u run a reading).solution.artificial column (omega (arith, plain, h)) in_columns);
          small = small i (u.columns + 2) (omega (arith, high));
        }

    -- how the right side of a row changes
    change_is : (i : ℕ) (row : Row ParamForm) (int : IntRow) → slice_get m.rows i ≡ Some row → slice_get q.rows i ≡ Some int
        → changes i ≡ turned_if int.negated (value int.factor *ℚ neg_ℚ (value (coefficient_of n.at row.form.constant)))
    unfolding right_change
    change_is i row int e f =
        ap₂ (λ t k. turned_if t (k *ℚ neg_ℚ (coefficient_at n.at m.rows i))) (mapped_at is_negated q.rows i int false f)
        (sym (rat_at-get_or (map row_factor q.rows) i) ∙ mapped_at row_factor q.rows i int (whole (pos 0)) f)
        ∙ ap (λ z. turned_if int.negated (value int.factor *ℚ neg_ℚ z)) (coefficient_is n.at m.rows i row e)

    -- the right side of a row at another setting
    right_is : (t : Parameters) → DifferAt n.at s t → (i : ℕ) (row : Row ParamForm) (int : IntRow) → slice_get m.rows i ≡ Some row → slice_get q.rows i ≡ Some int
        → turned_if int.negated (value int.factor *ℚ neg_ℚ (form_value row.form.constant t)) ≡ whole (right_side_at q.rows i) +ℚ (t n.at 0 -ℚ value at) *ℚ changes i
    right_is t d i row int e f =
        let l = slice_get_within m.rows i row e in
        let count = rows_count p setting fits.shaped m known_program r put in
        let fixed = element_at r.rows i (omega (arith, l, count)) in
        let c = value (coefficient_of n.at row.form.constant) in
        ap (λ z. turned_if int.negated (value int.factor *ℚ neg_ℚ z))
        (constant_moves p setting fits.shaped m known_program r put n.at n.parameter n.named.there n.scalar free constants.rows constants.objective t d i row e
        ∙ ap₂ (λ x y. x +ℚ y *ℚ moved s t n.at d) (sym (constant_same p setting fits.shaped m known_program r put i row fixed.0 e fixed.1)) (coefficient_is n.at m.rows i row e)
        ∙ ap (λ z. value (fixed.0).form.constant +ℚ c *ℚ z) (moved_is t d))
        ∙ sym (both_turned int.negated (value int.factor) (value (fixed.0).form.constant) c (t n.at 0 -ℚ value at))
        ∙ ap₂ (λ x y. x +ℚ (t n.at 0 -ℚ value at) *ℚ y) (sym (ap whole (mapped_at right_of q.rows i int (pos 0) f) ∙ (scales_so.each_row i fixed.0 int fixed.1 f).right))
        (sym (change_is i row int e f))

    -- ---- the numbers that are formed
    module _ (hs : List Rate) (rates : rates_of n.at m.rows q.rows ≡ Ok hs) where
      hs_count : length hs ≡ length q.rows
      hs_count = let c = ints_count in rates_length n.at m.rows q.rows hs rates (omega (arith, c)) ∙ sym c

      exact_at : (j i : ℕ) (h : Rate) → slice_get hs i ≡ Some h → value h.change *ℚ whole (entry_at u j h.column) ≡ changes i *ℚ whole (entry_at u j (first q i))
      exact_at j i h e =
          let l = slice_get_within hs i h e in
          let c = hs_count in
          let k = ints_count in
          let row = element_at m.rows i (omega (arith, l, c, k)) in
          let int = element_at q.rows i (omega (arith, l, c)) in
          let v = rate_value n.at (row.0).form.constant int.0 h (rate_at n.at m.rows q.rows hs rates i row.0 int.0 h row.1 int.1 e) in
          ap₂ (λ x column. x *ℚ whole (entry_at u j column)) (v.1 ∙ sym (change_is i row.0 int.0 row.1 int.1)) (v.0 ∙ sym (mapped_at first_basic_of q.rows i int.0 0 int.1))

      exact : (j : ℕ) (d : Frac) → j < length u.rows → change_at u j hs ≡ Ok d → value d ≡ change q u end changes j
      unfolding change
      exact j d l e =
          change_value u j (λ c. small j c l) hs d e
          ∙ sum_below (λ (h : Rate). value h.change *ℚ whole (entry_at u j h.column)) (λ i. changes i *ℚ whole (entry_at u j (first q i))) hs (λ i h f. exact_at j i h f)
          ∙ ap (λ len. rat_sum_below len (λ i. changes i *ℚ whole (entry_at u j (first q i)))) hs_count

      exact_row : (j : ℕ) (d : Frac) → j < length q.rows → change_at u j hs ≡ Ok d → value d ≡ change q u end changes j
      exact_row j d l = let rows = rows_are q u end in exact j d (omega (arith, rows, l))

      module _ (e : Ends) (ends : ends_from u hs at 0 (length q.rows) no_ends ≡ Ok e) where
        -- ---- the basis stays feasible between the ends
        kept_from : (v : ℚ) → Within e v → IsKept q u end changes (v -ℚ value at)
        unfolding right
        kept_from v b =
            let h = all_in u hs at (length q.rows) settled (change q u end changes) exact_row v e ends b in
            record { low = λ i l. (h i l).low; artificial = λ i l k. (h i l).artificial k }

        within_of : (v : ℚ) → IsKept q u end changes (v -ℚ value at) → Within e v
        unfolding right
        within_of v k = all_out u hs at (length q.rows) settled (change q u end changes) exact_row v e ends (λ j l. record { low = k.low j l; artificial = k.artificial j l })

        -- the value at the setting is there
        pub here : Within (sign_ends n.parameter.attribute e) (value at)
        here =
            sign_out n.parameter.attribute e (value at) has_sign
            (all_out u hs at (length q.rows) settled (change q u end changes) exact_row (value at) e ends (λ j l. allowed_here u j (settled j l) (value at) (change q u end changes j)))

        -- ---- the interval
        into : (v : ℚ) → Within (sign_ends n.parameter.attribute e) v → IsInInterval q u m.rows s n.at n.parameter.attribute v
        into v b =
            let w = sign_in n.parameter.attribute e v b in
            let keeps = kept_from v w.1 in
            let d = v -ℚ value at in
            record {
              sign = w.0;
              feasible = record {
                columns = along.moved q u end changes a reading d;
                solves = record {
                  count = moved_length q u end changes a reading d;
                  each_row = λ i row int f g.
                      moved_row q u end changes a reading d (answer (rows_of r) q known made limit pivots u run a reading).solution i (slice_get_within q.rows i int g)
                      ∙ ap (λ z. whole (right_side_at q.rows i) +ℚ (z -ℚ value at) *ℚ changes i) (sym (value_with v)) ∙ sym (right_is (with_value n.at v s) (differs_with v) i row int f g);
                };
                outside = λ j l f. moved_other q u end changes a reading d j l f;
                nonnegative = moved_low q u end changes d a reading keeps;
                artificial = moved_none q u end changes d a reading keeps;
              };
            }

        out_of : (v : ℚ) → IsInInterval q u m.rows s n.at n.parameter.attribute v → Within (sign_ends n.parameter.attribute e) v
        out_of v h =
            let f = h.feasible in
            let c = ints_count in
            sign_out n.parameter.attribute e v h.sign
            (within_of v
            (kept q u end changes (v -ℚ value at) f.columns f.solves.count
            (λ i l.
            let row = element_at m.rows i (omega (arith, l, c)) in
            let int = element_at q.rows i l in
            f.solves.each_row i row.0 int.0 row.1 int.1 ∙ right_is (with_value n.at v s) (differs_with v) i row.0 int.0 row.1 int.1
            ∙ ap (λ z. whole (right_side_at q.rows i) +ℚ (z -ℚ value at) *ℚ changes i) (value_with v)) f.outside f.nonnegative f.artificial))

        pub interval : (v : ℚ) → Within (sign_ends n.parameter.attribute e) v ↔ IsInInterval q u m.rows s n.at n.parameter.attribute v
        interval v = (into v, out_of v)

        -- ---- the value along it
        module _ (slope constant : Frac) (slope_is : slope_of u hs (length q.rows) (coefficient_of n.at m.objective.constant) ≡ Ok slope)
            (constant_is : constant_of a.number slope at ≡ Ok constant) where
          slope_rate : value slope ≡ rate q u end changes +ℚ value (coefficient_of n.at m.objective.constant)
          unfolding rate
          slope_rate =
              let rows = rows_are q u end in
              let b = coefficient_of n.at m.objective.constant in
              let low : length q.rows < length u.rows = omega (arith, rows) in
              let v = slope_value u hs (length q.rows) b slope (small (length q.rows) u.columns low) slope_is in
              let o = objective_is q u end in
              v.2
              ∙ ap (λ z. z +ℚ value b)
              (ap (λ z. z /ℚ whole (entry_at u (length q.rows) u.columns)) (exact (length q.rows) v.0 low v.1)
              ∙ ap (λ i. change q u end changes i /ℚ whole (entry_at u i u.columns)) (sym o)
              ∙ ap (λ j. change q u end changes (objective_row u) /ℚ whole (entry_at u (objective_row u) j)) (sym (is_readable q u end).objective))

          pub holds_along : (t : Parameters) → Fits p t → DifferAt n.at s t → Within (sign_ends n.parameter.attribute e) (t n.at 0) → HasValue p t (value constant +ℚ value slope *ℚ t n.at 0)
          holds_along t fit d b =
              let c = coefficient_at n.at m.rows in
              let k = value (coefficient_of n.at m.objective.constant) in
              let by = moved s t n.at d in
              let is = is_moved p setting fits.shaped m known_program r put n.at n.parameter n.named.there n.scalar free constants.rows constants.objective t d in
              let keeps : IsKept q u end changes by = subst (IsKept q u end changes) (sym (moved_is t d)) (kept_from (t n.at 0) (sign_in n.parameter.attribute e (t n.at 0) b).1) in
              let optimal = stays_optimal (rows_of r) q known made limit pivots u run a reading c k by (linear_at form_value t m) is keeps in
              let x = unknowns_at q.columns (along.moved q u end changes a reading by) in
              let y = multiplier_at q.columns a in
              let line : value a.number +ℚ (rate q u end changes +ℚ k) *ℚ by ≡ value constant +ℚ value slope *ℚ t n.at 0 =
              ap (λ z. value a.number +ℚ (rate q u end changes +ℚ k) *ℚ z) (moved_is t d)
              ∙ on_line (value a.number) (value slope) (rate q u end changes +ℚ k) (t n.at 0) (value at) slope_rate
              ∙ ap (λ z. z +ℚ value slope *ℚ t n.at 0) (sym (constant_value a.number slope at constant constant_is)) in
              subst (HasValue p t) line
              (record {
                point = point_at p.variables x;
                multipliers = multipliers_of (convex_problem p) y;
                optimal = carried p setting fits.shaped m known_program r put n.at n.parameter n.named.there n.scalar free constants.rows constants.objective t d dpp unread reduces fit
                    (value a.number +ℚ (rate q u end changes +ℚ k) *ℚ by) x y optimal;
              })
