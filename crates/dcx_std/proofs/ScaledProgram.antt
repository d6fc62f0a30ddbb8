-- The program that is made has the rows of fractions times their factors.
use Rattle.std.proofs.Common.{◌≡◌, ℕ, suc, ◌+◌, ◌<◌, Bool, true, false, List, [], ◌∷◌, length, map, get_or, Some, Ok, refl, sym, ap, ap₂, ◌∙◌, subst, arith, ℤ, pos, lit<}
use Rattle.std.specs.Prelude.{slice_get}
use Rattle.std.proofs.lemmas.List.{get_or_append_left, get_or_at, get_or-map}
use Rattle.std.proofs.lemmas.List.FromFn.{get_or-map-range_with_len}
use Rattle.std.proofs.lemmas.Option.{slice_get_within, get_or_from_slice_get}
use Rattle.dcx_math.specs.Rational.{ℚ, whole, ◌*ℚ◌, neg_ℚ}
use Rattle.dcx_math.specs.Sums.{rat_scaled}
use Rattle.dcx_math.proofs.FieldLaws.{whole-neg_ℤ}
use Rattle.dcx_math.proofs.Orders.{*ℚ_idr, *ℚ-neg_ℚ, neg_ℚ-neg_ℚ}
use Rattle.dcx_frac.specs.declared.fraction.Frac.{Frac}
use Rattle.dcx_frac.specs.Frac.{value}
use Rattle.dcx_atom.specs.Formed.{zero_frac, one_frac}
use Rattle.dcx_atom.proofs.Fractions.{value-negative}
use Rattle.dcx_linear.specs.declared.form.Form.{Form}
use Rattle.dcx_linear.specs.declared.row.Row.{Row}
use Rattle.dcx_linear.specs.declared.row.RowKind.TheVariants.{Equal}
use Rattle.dcx_tab.specs.declared.rows.ColumnKind.TheVariants.{Unknown}
use Rattle.dcx_tab.specs.declared.rows.IntRow.{IntRow}
use Rattle.dcx_tab.specs.declared.program.Program.{Program}
use Rattle.dcx_tab.specs.Rows.{entry}
use Rattle.dcx_tab.specs.Program.{kind_at}
use Rattle.dcx_lp_answer.specs.Right.{turned_if}
use Rattle.dcx_std.specs.declared.whole.WholeRow.{WholeRow}
use Rattle.dcx_std.specs.GivenRows.{GivenRows}
use Rattle.dcx_std.specs.WholeRows.{coefficient_at, coefficients, opposite, row_numbers, cost_numbers, row_made, IsSparseForm}
use Rattle.dcx_std.specs.Columns.{turned, number_in, cost_in}
use Rattle.dcx_std.specs.IntegerRows.{start_of, IsMadeOf, IsMade}
use Rattle.dcx_std.specs.ScaledProgram.{IsScaledRow, IsScaledCost, IsScaledProgram}
use Rattle.dcx_lp_answer.proofs.Fractions.{value-whole}
use Rattle.dcx_std.proofs.WholeRows.{IsFormedBy, formed_by, whole_kind, multiple_facts}
use Rattle.dcx_std.proofs.Scaled.{scaled_numbers, scaled_at, whole_row_numbers, whole_cost_numbers}
use Rattle.dcx_std.proofs.ColumnKinds.{unknown_below}
use Rattle.dcx_std.proofs.RowForm.{mapped_entry, made_at, made_count}
use Rattle.dcx_std.proofs.ProgramForm.{whole_of, wholes_count, coefficients_count, opposites_count, cost_lead}

-- a turned integer is the turned number
whole-turned : (t : Bool) (z : ℤ) → whole (turned t z) ≡ turned_if t (whole z)
whole-turned true z = whole-neg_ℤ z
whole-turned false z = refl

turned-times : (t : Bool) (f c : ℚ) → turned_if t (f *ℚ c) ≡ f *ℚ turned_if t c
turned-times true f c = sym (*ℚ-neg_ℚ f c)
turned-times false f c = refl

turned-cost : (t : Bool) (f c : ℚ) → turned_if t (f *ℚ neg_ℚ c) ≡ neg_ℚ (f *ℚ turned_if t c)
turned-cost true f c = ap neg_ℚ (*ℚ-neg_ℚ f c) ∙ neg_ℚ-neg_ℚ (f *ℚ c) ∙ sym (ap neg_ℚ (*ℚ-neg_ℚ f c) ∙ neg_ℚ-neg_ℚ (f *ℚ c))
turned-cost false f c = *ℚ-neg_ℚ f c

-- the rows keep their kinds
kinds_kept : (n : ℕ) (rows : List (Row Frac)) (ws : List WholeRow) → map (row_made n) rows ≡ map Ok ws → map (λ s. s.kind) (map (start_of n) ws) ≡ map (λ r. r.kind) rows
kinds_kept n [] [] e = refl
kinds_kept n [] (w ∷ ws) e = cc
kinds_kept n (r ∷ rows) [] e = cc
kinds_kept n (r ∷ rows) (w ∷ ws) e =
    let m : row_made n r ≡ Ok w = cc in
    let rest : map (row_made n) rows ≡ map Ok ws = cc in
    ap₂ ◌∷◌ (whole_kind r.kind r.form (row_numbers n r.form) w (formed_by r.kind r.form (row_numbers n r.form) w m)) (kinds_kept n rows ws rest)

-- ---- the numbers of a row
module _ (n : ℕ) (f : Form Frac) where
  coefficient_there : (u : ℕ) → u < n → get_or (coefficients n f) u zero_frac ≡ coefficient_at f.terms u
  coefficient_there u l = get_or-map-range_with_len (coefficient_at f.terms) 0 n u u zero_frac l (omega arith)

  row_coefficient : (u : ℕ) → u < n → get_or (row_numbers n f) u zero_frac ≡ coefficient_at f.terms u
  row_coefficient u l = get_or_append_left (coefficients n f) (opposite f.constant ∷ []) zero_frac u (omega (arith, l, coefficients_count n f)) ∙ coefficient_there u l

  row_right : get_or (row_numbers n f) n zero_frac ≡ opposite f.constant
  row_right = get_or_at (coefficients n f) (opposite f.constant) [] zero_frac n (coefficients_count n f)

  cost_coefficient : (u : ℕ) → u < n → get_or (cost_numbers n f) u zero_frac ≡ opposite (coefficient_at f.terms u)
  cost_coefficient u l =
      get_or_append_left (map opposite (coefficients n f)) (f.constant ∷ one_frac ∷ []) zero_frac u (omega (arith, l, opposites_count n f))
      ∙ get_or-map opposite (coefficients n f) u zero_frac zero_frac (omega (arith, l, coefficients_count n f)) ∙ ap opposite (coefficient_there u l)

  cost_right : get_or (cost_numbers n f) n zero_frac ≡ f.constant
  cost_right = get_or_at (map opposite (coefficients n f)) f.constant (one_frac ∷ []) zero_frac n (opposites_count n f)

module _ (rows : GivenRows) (q : Program) (m : IsMade rows q) where
  abbrev n : ℕ
  n = length rows.kinds

  unknown_is : (j u : ℕ) (minus : Bool) → j < length q.columns → kind_at q.columns j ≡ Unknown u minus → u < length rows.kinds
  unknown_is j u minus l e =
      unknown_below rows.kinds (map (start_of n) m.integer.made) j u minus (subst (λ ks. j < length ks) m.integer.has_columns l) (sym (ap (λ ks. kind_at ks j) m.integer.has_columns) ∙ e)

  -- ---- a row
  module _ (i : ℕ) (row : Row Frac) (w : WholeRow) (r : IntRow) (sparse : IsSparseForm row.form) (made : row_made n row ≡ Ok w) (is : IsMadeOf q.columns n i w r) where
    formed : IsFormedBy row.kind row.form (row_numbers n row.form) w
    formed = formed_by row.kind row.form (row_numbers n row.form) w made

    numbers_are : map whole w.numbers ≡ rat_scaled (value w.factor) (map value (row_numbers n row.form))
    numbers_are = scaled_numbers row.kind row.form (row_numbers n row.form) w formed
        (whole_row_numbers formed.multiple row.form (multiple_facts row.kind row.form (row_numbers n row.form) w formed).others n)

    number_at : (j : ℕ) → whole (entry w.numbers j) ≡ value w.factor *ℚ value (get_or (row_numbers n row.form) j zero_frac)
    number_at j = scaled_at (value w.factor) w.numbers (row_numbers n row.form) j numbers_are

    unknown_entry : (j u : ℕ) (minus : Bool) → j < length q.columns → kind_at q.columns j ≡ Unknown u minus
        → whole (entry r.entries j) ≡ turned_if r.negated (value r.factor *ℚ turned_if minus (value (coefficient_at row.form.terms u)))
    unknown_entry j u minus l e =
        let negated = (start_of n w).negated in
        ap whole (mapped_entry (number_in i negated w.numbers) q.columns r.entries j is.entries l ∙ ap (number_in i negated w.numbers) e)
        ∙ whole-turned negated (turned minus (entry w.numbers u)) ∙ ap (turned_if negated) (whole-turned minus (entry w.numbers u))
        ∙ ap (λ y. turned_if negated (turned_if minus y)) (number_at u ∙ ap (λ c. value w.factor *ℚ value c) (row_coefficient n row.form u (unknown_is j u minus l e)))
        ∙ ap (turned_if negated) (turned-times minus (value w.factor) (value (coefficient_at row.form.terms u)))
        ∙ ap₂ (λ b f. turned_if b (value f *ℚ turned_if minus (value (coefficient_at row.form.terms u)))) (sym is.negated) (sym is.factor)

    right_side : whole r.right ≡ turned_if r.negated (value r.factor *ℚ neg_ℚ (value row.form.constant))
    right_side =
        let negated = (start_of n w).negated in
        ap whole is.right ∙ whole-turned negated (entry w.numbers n)
        ∙ ap (turned_if negated) (number_at n ∙ ap (λ c. value w.factor *ℚ value c) (row_right n row.form) ∙ ap (λ y. value w.factor *ℚ y) (value-negative row.form.constant))
        ∙ ap₂ (λ b f. turned_if b (value f *ℚ neg_ℚ (value row.form.constant))) (sym is.negated) (sym is.factor)

    scaled_row : IsScaledRow q.columns row r
    scaled_row = record { sparse = sparse; unknown = unknown_entry; right = right_side }

  row_of : (i : ℕ) (row : Row Frac) (r : IntRow) → slice_get rows.rows i ≡ Some row → slice_get q.rows i ≡ Some r → IsScaledRow q.columns row r
  row_of i row r e d =
      let at = made_at q.columns n 0 m.integer.made q.rows i r m.integer.ints_are d in
      let whole_at = whole_of n rows.rows m.integer.made i at.row m.integer.are at.here in
      let same : whole_at.0 ≡ row = (let f = whole_at.1 in cc) in
      let z : 0 + i ≡ i = omega arith in
      let sparse : IsSparseForm row.form = subst (λ (s : Row Frac). IsSparseForm s.form) (get_or_from_slice_get rows.rows i row row e) (m.sparse i row (slice_get_within rows.rows i row e)) in
      scaled_row i row at.row r sparse (subst (λ s. row_made n s ≡ Ok at.row) same whole_at.2) (subst (λ k. IsMadeOf q.columns n k at.row r) z at.made)

  -- ---- the cost
  cost_formed : IsFormedBy Equal rows.objective (cost_numbers n rows.objective) m.cost
  cost_formed = formed_by Equal rows.objective (cost_numbers n rows.objective) m.cost m.cost_is

  cost_at : (j : ℕ) → whole (entry m.cost.numbers j) ≡ value m.cost.factor *ℚ value (get_or (cost_numbers n rows.objective) j zero_frac)
  cost_at j =
      scaled_at (value m.cost.factor) m.cost.numbers (cost_numbers n rows.objective) j
      (scaled_numbers Equal rows.objective (cost_numbers n rows.objective) m.cost cost_formed
      (whole_cost_numbers cost_formed.multiple rows.objective (multiple_facts Equal rows.objective (cost_numbers n rows.objective) m.cost cost_formed).others n))

  lead_is : whole q.objective.lead ≡ value m.cost.factor
  lead_is = ap whole m.objective.lead ∙ cost_at (suc n) ∙ ap (λ c. value m.cost.factor *ℚ value c) (cost_lead n rows.objective) ∙ ap (λ y. value m.cost.factor *ℚ y) (value-whole (pos 1) (lit< tt))
      ∙ *ℚ_idr (value m.cost.factor)

  cost_of : IsScaledCost q.columns rows.objective q.objective
  cost_of = record {
    sparse = m.sparse_cost;
    unknown = λ j u minus l e.
        ap whole (mapped_entry (cost_in m.cost.numbers) q.columns q.objective.entries j m.objective.entries l ∙ ap (cost_in m.cost.numbers) e)
        ∙ whole-turned minus (entry m.cost.numbers u)
        ∙ ap (turned_if minus) (cost_at u ∙ ap (λ c. value m.cost.factor *ℚ value c) (cost_coefficient n rows.objective u (unknown_is j u minus l e))
        ∙ ap (λ y. value m.cost.factor *ℚ y) (value-negative (coefficient_at rows.objective.terms u)))
        ∙ turned-cost minus (value m.cost.factor) (value (coefficient_at rows.objective.terms u))
        ∙ ap (λ f. neg_ℚ (f *ℚ turned_if minus (value (coefficient_at rows.objective.terms u)))) (sym lead_is);
    right = ap whole m.objective.right ∙ cost_at n ∙ ap (λ c. value m.cost.factor *ℚ value c) (cost_right n rows.objective) ∙ ap (λ f. f *ℚ value rows.objective.constant) (sym lead_is);
  }

  -- the program that is made is one of scaled rows
  pub scaled_program : IsScaledProgram rows q
  scaled_program = record {
    starts = map (start_of n) m.integer.made;
    columns = m.integer.has_columns;
    kinds = kinds_kept n rows.rows m.integer.made m.integer.are;
    count = made_count q.columns n 0 m.integer.made q.rows m.integer.ints_are ∙ wholes_count n rows.rows m.integer.made m.integer.are;
    each_row = row_of;
    cost = cost_of;
  }
