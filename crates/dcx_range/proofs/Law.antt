-- Where a parameter moves and the last basis stays feasible, the problem is optimal, with a value on a line.
use Rattle.std.proofs.Common.{◌≡◌, ℕ, ◌<◌, false, List, [], ◌∷◌, length, map, get_or, Some, option_map, Ok, slice_get, refl, sym, ap, ap₂, ◌∙◌, subst, arith, pos}
use Rattle.std.specs.List.{All}
use Rattle.std.proofs.lemmas.Bool.{or_parts}
use Rattle.std.proofs.lemmas.List.{length-map}
use Rattle.std.proofs.lemmas.Option.{same_Some, slice_get-map, get_or_from_slice_get, slice_get_within}
use Rattle.dcx_math.specs.Rational.{ℚ, whole, ◌+ℚ◌, ◌*ℚ◌}
use Rattle.dcx_math.specs.Sums.{rat_sum_by}
use Rattle.dcx_math.proofs.Orders.{+ℚ_idr, *ℚ-zero}
use Rattle.dcx_math.proofs.Lists.{mapped, map-map}
use Rattle.dcx_frac.specs.declared.fraction.Frac.{Frac}
use Rattle.dcx_frac.specs.Frac.{value}
use Rattle.dcx_shape.specs.declared.shape.Sides.TheVariants.{Scalar}
use Rattle.dcx_shape.specs.Shape.{sides_of}
use Rattle.dcx_shape.specs.Sides.{entries_of}
use Rattle.dcx_point.specs.Pairs.{Pairs}
use Rattle.dcx_call.specs.declared.attribute.Parameter.{Parameter}
use Rattle.dcx_convex.specs.Rules.{Parametrized}
use Rattle.dcx_tree.specs.declared.problem.Problem.{Problem}
use Rattle.dcx_tree.specs.Meaning as meaning
use Rattle.dcx_tree.specs.Meaning.{IsDpp, Fits, convex_problem, setting_of}
use Rattle.dcx_linear.specs.declared.form.FormTerm.{FormTerm}
use Rattle.dcx_linear.specs.declared.row.Row.{Row}
use Rattle.dcx_linear.specs.declared.param_form.ParamForm.{ParamForm}
use Rattle.dcx_linear.specs.declared.param_term.ParamTerm.{ParamTerm}
use Rattle.dcx_linear.specs.Parameters.{Parameters}
use Rattle.dcx_linear.specs.ParamTerms.{HoldsTerms}
use Rattle.dcx_linear.specs.ParamForms.{form_value}
use Rattle.dcx_linear.specs.FormTerms.{Unknowns}
use Rattle.dcx_linear.specs.Forms.{linear_value}
use Rattle.dcx_linear.specs.FormsAt.{form_at}
use Rattle.dcx_linear.specs.Rows as rows
use Rattle.dcx_linear.specs.Rows.{RowAt}
use Rattle.dcx_linear.proofs.SettingRows.{on_row}
use Rattle.dcx_graph.specs.Within.{IsKnownNumber, IsKnownTerm}
use Rattle.dcx_std.specs.Solutions as solutions
use Rattle.dcx_std.specs.Solutions.{linear_program}
use Rattle.dcx_unknowns.specs.Unknowns.{point_at}
use Rattle.dcx_graph.specs.Programs.{multipliers_of}
use Rattle.dcx_graph.specs.Program.{Program}
use Rattle.dcx_graph.specs.Answers.{rows_of}
use Rattle.dcx_graph.specs.AsLinear.{row_at, linear_at}
use Rattle.dcx_graph.specs.Fixed.{IsKnownProgram, HaveArrays}
use Rattle.dcx_graph.specs.Fixing.{FixGives}
use Rattle.dcx_graph.specs.Correct.{ReducesAffine}
use Rattle.dcx_graph.proofs.AtSetting.{form_same, rows_same}
use Rattle.dcx_graph.proofs.Correct.{affine_are_reductions}
use Rattle.dcx_graph.proofs.Backward.{answers_carry_over}
use Rattle.dcx_range.specs.Standing.{scales_unknown, scales_row}
use Rattle.dcx_range.specs.Coefficients.{coefficient_of}
use Rattle.dcx_range.specs.Parameters.{scales}
use Rattle.dcx_right.specs.Ranges.{DifferAt}
use Rattle.dcx_range.proofs.Moves.{none_at, IsScalarAt, moved, number_moves, form_moves}
use Rattle.dcx_range.proofs.Shifted.{IsMoved}

-- ---- the coefficients of the parameter at position k in the constants of rows
abbrev pub coefficient_at : ℕ → List (Row ParamForm) → ℕ → ℚ
coefficient_at k rows i = get_or (map (λ (row : Row ParamForm). value (coefficient_of k row.form.constant)) rows) i (whole (pos 0))

pub coefficient_is : (k : ℕ) (rows : List (Row ParamForm)) (i : ℕ) (row : Row ParamForm) → slice_get rows i ≡ Some row → coefficient_at k rows i ≡ value (coefficient_of k row.form.constant)
coefficient_is k rows i row e =
    let f = λ (z : Row ParamForm). value (coefficient_of k z.form.constant) in
    get_or_from_slice_get (map f rows) i (f row) (whole (pos 0)) (slice_get-map f rows i ∙ ap (option_map f) e)

-- a form where every unknown is 0
nothing : {A : Type 0} (f : A → ℚ) (xs : List A) → rat_sum_by (λ x. f x *ℚ whole (pos 0)) xs ≡ whole (pos 0)
nothing f [] = refl
nothing f (y ∷ ys) = ap₂ ◌+ℚ◌ (*ℚ-zero (f y)) (nothing f ys) ∙ +ℚ_idr (whole (pos 0))

at_zeros : {A : Type 0} (c : ℚ) (f : A → ℚ) (xs : List A) → c +ℚ rat_sum_by (λ x. f x *ℚ whole (pos 0)) xs ≡ c
at_zeros c f xs = ap (λ z. c +ℚ z) (nothing f xs) ∙ +ℚ_idr c

module _ (p : Problem) (setting : Pairs) (arrays : HaveArrays p setting) where
  -- ---- the program at the setting
  module _ (q : Program ParamForm) (known : IsKnownProgram p q) (r : Program Frac) (put : FixGives setting q (Ok r)) where
    pub rows_are : (linear_program (rows_of r)).rows ≡ map (row_at form_value (setting_of p setting)) q.rows
    rows_are = rows_same p setting arrays (setting_of p setting) 0 q.rows r.rows known.rows put.0.0

    pub rows_count : length r.rows ≡ length q.rows
    rows_count = sym (length-map r.rows solutions.row_at) ∙ ap length rows_are ∙ length-map q.rows (row_at form_value (setting_of p setting))

    pub row_kinds : map (λ (x : Row Frac). x.kind) r.rows ≡ map (λ (x : Row ParamForm). x.kind) q.rows
    row_kinds = sym (map-map solutions.row_at (λ (x : RowAt). x.kind) r.rows) ∙ ap (map (λ (x : RowAt). x.kind)) rows_are
        ∙ map-map (row_at form_value (setting_of p setting)) (λ (x : RowAt). x.kind) q.rows

    -- the constant of a row is its number there
    pub constant_same : (i : ℕ) (row : Row ParamForm) (fixed : Row Frac) → slice_get q.rows i ≡ Some row → slice_get r.rows i ≡ Some fixed
        → value fixed.form.constant ≡ form_value row.form.constant (setting_of p setting)
    constant_same i row fixed e f =
        let same : solutions.row_at fixed ≡ row_at form_value (setting_of p setting) row =
        same_Some (solutions.row_at fixed) (row_at form_value (setting_of p setting) row)
        (sym (slice_get-map solutions.row_at r.rows i ∙ ap (option_map solutions.row_at) f) ∙ ap (λ rs. slice_get rs i) rows_are
        ∙ slice_get-map (row_at form_value (setting_of p setting)) q.rows i ∙ ap (option_map (row_at form_value (setting_of p setting))) e) in
        sym (at_zeros (value fixed.form.constant) (λ (t : FormTerm Frac). value t.coefficient) fixed.form.terms)
        ∙ ap (λ (z : RowAt). z.number (λ u. whole (pos 0))) same
        ∙ at_zeros (form_value row.form.constant (setting_of p setting)) (λ (t : FormTerm ParamForm). form_value t.coefficient (setting_of p setting)) row.form.terms

  -- ---- and at another that differs by one number
  module _ (q : Program ParamForm) (known : IsKnownProgram p q) (r : Program Frac) (put : FixGives setting q (Ok r)) (k : ℕ) (parameter : Parameter)
      (there : slice_get p.parameters k ≡ Some parameter) (scalar : sides_of parameter.shape ≡ Scalar)
      (free : scales k q ≡ false) (sparse : All (λ row. HoldsTerms row.form.constant.terms) q.rows) (sparse_cost : HoldsTerms q.objective.constant.terms)
      (t : Parameters) (differ : DifferAt k (setting_of p setting) t) where
    scalar_term : (x : ParamTerm) → IsKnownTerm p x → x.position ≡ k → x.entry ≡ 0
    scalar_term x h e =
        let f = λ (z : Parameter). entries_of (sides_of z.shape) in
        let size = get_or_from_slice_get (map f p.parameters) k (f parameter) 0 (slice_get-map f p.parameters k ∙ ap (option_map f) there) in
        let one = ap entries_of scalar in
        let below = subst (λ i. x.entry < get_or (map f p.parameters) i 0) e h.entry in
        omega (arith, below, size, one)

    scalar_at : (c : ParamForm) → IsKnownNumber p c → IsScalarAt k c.terms
    scalar_at c h = λ i d b e. scalar_term (get_or c.terms i d) (h i d b) e

    row_moves : (i : ℕ) (row : Row ParamForm) → slice_get q.rows i ≡ Some row → (x : Unknowns)
        → linear_value form_value row.form x t ≡ linear_value form_value row.form x (setting_of p setting) +ℚ coefficient_at k q.rows i *ℚ moved (setting_of p setting) t k differ
    row_moves i row e x =
        let b = slice_get_within q.rows i row e in
        let at = get_or_from_slice_get q.rows i row row e in
        let holds = subst (λ (z : Row ParamForm). HoldsTerms z.form.constant.terms) at (sparse i row b) in
        let none = subst (λ (z : Row ParamForm). scales_unknown k z.form
        ≡ false) at (none_at (λ (z : Row ParamForm). scales_unknown k z.form) q.rows (or_parts (scales_row k q.rows) (scales_unknown k q.objective) free).0 i row b) in
        form_moves (setting_of p setting) t k differ row.form x holds (scalar_at row.form.constant (known.rows i row e).0) none
        ∙ ap (λ c. linear_value form_value row.form x (setting_of p setting) +ℚ c *ℚ moved (setting_of p setting) t k differ) (sym (coefficient_is k q.rows i row e))

    objective_moves : (x : Unknowns) → linear_value form_value q.objective x t
        ≡ linear_value form_value q.objective x (setting_of p setting) +ℚ value (coefficient_of k q.objective.constant) *ℚ moved (setting_of p setting) t k differ
    objective_moves x =
        form_moves (setting_of p setting) t k differ q.objective x sparse_cost (scalar_at q.objective.constant known.objective.0)
        (or_parts (scales_row k q.rows) (scales_unknown k q.objective) free).1

    -- the constant of row i moves with it
    pub constant_moves : (i : ℕ) (row : Row ParamForm) → slice_get q.rows i ≡ Some row
        → form_value row.form.constant t ≡ form_value row.form.constant (setting_of p setting) +ℚ coefficient_at k q.rows i *ℚ moved (setting_of p setting) t k differ
    constant_moves i row e =
        let holds = subst (λ (z : Row ParamForm). HoldsTerms z.form.constant.terms) (get_or_from_slice_get q.rows i row row e) (sparse i row (slice_get_within q.rows i row e)) in
        number_moves (setting_of p setting) t k differ row.form.constant holds (scalar_at row.form.constant (known.rows i row e).0)
        ∙ ap (λ c. form_value row.form.constant (setting_of p setting) +ℚ c *ℚ moved (setting_of p setting) t k differ) (sym (coefficient_is k q.rows i row e))

    -- the program at t is that at the setting, moved
    pub is_moved : IsMoved (linear_program (rows_of r)) (linear_at form_value t q) (coefficient_at k q.rows) (value (coefficient_of k q.objective.constant)) (moved (setting_of p setting) t k differ)
    is_moved = record {
      kinds = sym put.0.2;
      count = length-map q.rows (row_at form_value t) ∙ sym (ap length (rows_are q known r put) ∙ length-map q.rows (row_at form_value (setting_of p setting)));
      rows = λ i a b e f.
          let o = mapped (row_at form_value (setting_of p setting)) q.rows i a (ap (λ rs. slice_get rs i) (sym (rows_are q known r put)) ∙ e) in
          let n = mapped (row_at form_value t) q.rows i b f in
          let same = same_Some n.0 o.0 (sym n.1 ∙ o.1) in (
            ap (λ (z : RowAt). z.kind) (sym n.2) ∙ ap (λ (z : Row ParamForm). z.kind) same ∙ ap (λ (z : RowAt). z.kind) o.2,
            λ x.
                ap (λ (z : RowAt). z.number x) (sym n.2) ∙ row_moves i n.0 n.1 x ∙ ap (λ y. y +ℚ coefficient_at k q.rows i *ℚ moved (setting_of p setting) t k differ)
                (ap (λ (z : Row ParamForm). linear_value form_value z.form x (setting_of p setting)) same ∙ ap (λ (z : RowAt). z.number x) o.2),
          );
      objective = λ x. objective_moves x ∙ ap (λ y. y +ℚ value (coefficient_of k q.objective.constant) *ℚ moved (setting_of p setting) t k differ)
          (sym (form_same p setting arrays (setting_of p setting) q.objective r.objective x known.objective (on_row _ (form_at setting q.objective) r.objective put.0.1)));
    }

    -- an optimal answer of the moved program is one of the problem
    pub carried : (dpp : IsDpp p) (unread : Pairs) → ReducesAffine p unread (Ok q) → Fits p t → (v : ℚ) (x : Unknowns) (m : ℕ → ℚ) → rows.IsOptimal (linear_at form_value t q) v x m →
        meaning.IsOptimal p t v (point_at p.variables x) (multipliers_of (convex_problem p) m)
    carried dpp unread reduces fits v x m o = (answers_carry_over Parametrized p t (linear_at form_value t q) dpp.1 fits (affine_are_reductions p unread q dpp reduces t)).optimal v x m o
