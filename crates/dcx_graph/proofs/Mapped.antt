-- What is read from an answer of the rows is right for the problem.
use Rattle.std.proofs.Common.{◌≡◌, ◌≤◌, arith, List, length, map, sym, ap, ◌∙◌, subst}
use Rattle.std.specs.Prelude.{sum_by}
use Rattle.std.proofs.lemmas.List.{length-map}
use Rattle.dcx_math.specs.Sums.{rat_at}
use Rattle.dcx_frac.specs.declared.fraction.Frac.{Frac}
use Rattle.dcx_frac.specs.Frac.{value}
use Rattle.dcx_point.specs.Pairs.{Pairs}
use Rattle.dcx_convex.specs.Nodes.{Setting}
use Rattle.dcx_tree.specs.declared.problem.Problem.{Problem}
use Rattle.dcx_tree.specs.Meaning.{convex_problem, point_of}
use Rattle.dcx_linear.specs.declared.form.Form.{Form}
use Rattle.dcx_linear.specs.declared.row.Row.{Row}
use Rattle.dcx_linear.specs.declared.row.UnknownKind.{UnknownKind}
use Rattle.dcx_linear.specs.FormTerms.{Unknowns}
use Rattle.dcx_linear.specs.Widths.{form_width, rows_width}
use Rattle.dcx_tab.specs.declared.program.Program as tab
use Rattle.dcx_lp_answer.specs.declared.answer.LpStatus.{LpStatus}
use Rattle.dcx_lp_answer.specs.declared.answer.LpStatus.TheVariants as status
use Rattle.dcx_lp_answer.specs.declared.answer.LpAnswer.{LpAnswer}
use Rattle.dcx_lp_answer.specs.Right.{multiplier_at, IsOneSided, IsRightAs}
use Rattle.dcx_answer.specs.declared.answer.Answer.{Answer}
use Rattle.dcx_answer.specs.declared.answer.Answer.TheVariants as answers
use Rattle.dcx_std.specs.GivenRows.{GivenRows, given}
use Rattle.dcx_std.specs.Answers.{IsRightForRowsAs}
use Rattle.dcx_std.specs.Solutions.{HasKinds, linear_program, unknowns_at}
use Rattle.dcx_std.proofs.ScaledProgram.{scaled_program}
use Rattle.dcx_std.proofs.RightAnswers.{one_sided, rows_right_as}
use Rattle.dcx_unknowns.specs.Layout.{constraint_rows}
use Rattle.dcx_unknowns.specs.Unknowns.{point_at}
use Rattle.dcx_unknowns.specs.Laws.{AreAlike}
use Rattle.dcx_postsolve.specs.Programs.{multipliers_of, bound_row}
use Rattle.dcx_postsolve.specs.Points.{numbered}
use Rattle.dcx_postsolve.specs.Duals.{AreDuals}
use Rattle.dcx_postsolve.specs.Answers.{multipliers_in, IsRightFor}
use Rattle.dcx_postsolve.specs.Laws.{ColumnsTellUnknowns, AreSameMultipliers}
use Rattle.dcx_postsolve.proofs.ColumnParts.{columns_tell}
use Rattle.dcx_postsolve.proofs.DualLaws.{right_multiplier}
use Rattle.dcx_postsolve.proofs.Alike.{arrays_are_points}
use Rattle.dcx_postsolve.proofs.Carrying.{answers_stay}
use Rattle.dcx_graph.specs.Program.{Program}
use Rattle.dcx_graph.specs.Answers.{rows_of, IsAnswered, TellUnknowns, CanBeRead, IsPointRead, IsRead}
use Rattle.dcx_graph.specs.Backward.{CarriesOver}
use Rattle.dcx_graph.proofs.Backward.{answers_carry_over}
use Rattle.dcx_graph.proofs.Slacks.{rows_enough, have_slacks, multiplier_is}

-- the rows that a program lends are its own
pub given_rows : (q : Program Frac) (kinds : List UnknownKind) (rows : List (Row Frac)) (objective : Form Frac) → kinds ≡ q.kinds → rows ≡ q.rows → objective ≡ q.objective
    → given kinds rows objective ≡ rows_of q
given_rows q kinds rows objective e f g = λ i. given (e i) (f i) (g i)

-- rows and an objective that name known unknowns alone are those of the program
pub known_of : (q : Program Frac) (kinds : List UnknownKind) (rows : List (Row Frac)) (objective : Form Frac) → kinds ≡ q.kinds → rows ≡ q.rows → objective ≡ q.objective →
    rows_width rows ≤ length kinds → form_width objective ≤ length kinds → HasKinds (rows_of q)
known_of q kinds rows objective same_kinds same_rows same_objective rows_known objective_known =
    let count = ap length same_kinds in
    record {
      rows_known = subst (λ rs. rows_width rs ≤ length q.kinds) same_rows (omega (arith, count, rows_known));
      objective_known = subst (λ f. form_width f ≤ length q.kinds) same_objective (omega (arith, count, objective_known));
    }

-- the unknowns of a point that is read are those of the columns
pub numbered_same : (p : Problem) (rows : GivenRows) (program : tab.Program) (xs : List Frac) (point : Pairs) → ColumnsTellUnknowns rows program (map value xs)
    → (at : IsPointRead p rows.kinds xs point)
    → numbered at.unknowns ≡ unknowns_at program.columns (map value xs)
numbered_same p rows program xs point tells at = λ i u. (ap (λ zs. rat_at zs u) at.are ∙ tells.same u) i

module _ (p : Problem) (s : Setting) (q : Program Frac) (a : LpAnswer) (known : HasKinds (rows_of q)) (is : IsAnswered p s q a) where
  -- ---- rows
  rows_noted : sum_by constraint_rows p.constraints ≤ length a.rows
  rows_noted =
      let enough = rows_enough (rows_of q) is.integer known is.made is.reduced.reduction.reduced.forms p.constraints
      (map bound_row is.reduced.reduction.reduced.rows) is.reduced.reduction.program.rows in
      let count = is.parts.notes in
      omega (arith, enough, count)

  rows_few : length a.rows ≤ 600
  rows_few =
      let fits = is.made.fits.0 in
      let count = (scaled_program (rows_of q) is.integer is.made).count in
      let notes = is.parts.notes in
      omega (arith, fits, count, notes)

  -- ---- columns
  tells : (xs : List Frac) → length xs ≡ length is.integer.columns → ColumnsTellUnknowns (rows_of q) is.integer (map value xs)
  tells xs full = columns_tell (rows_of q) is.integer (map value xs) is.made (length-map xs value ∙ full)

  told : (xs : List Frac) → length xs ≡ length is.integer.columns → IsOneSided is.integer.columns (map value xs) → TellUnknowns q.kinds xs
  told xs full sides = let t = tells xs full in record { there = t.there; one_sided = t.one_sided sides }

  columns_told : TellUnknowns q.kinds a.columns
  columns_told = told a.columns is.parts.columns (one_sided a.status is.integer a is.right)

  ray_told : a.status ≡ status.Unbounded → TellUnknowns q.kinds a.ray
  ray_told e = told a.ray (is.parts.ray e) (subst (λ t. IsRightAs t is.integer a) e is.right).one_sided_ray

  pub can_be_read : CanBeRead p q.kinds a
  can_be_read = let few = rows_few in record { rows = rows_noted; few = omega (arith, few); columns = columns_told; ray = ray_told }

  -- ---- points and multipliers
  point_read : (xs : List Frac) (given : Pairs) → length xs ≡ length is.integer.columns → IsPointRead p q.kinds xs given →
      AreAlike p.variables (point_at p.variables (unknowns_at is.integer.columns (map value xs))) (point_of p given)
  point_read xs given full h =
      subst (λ (x : Unknowns). AreAlike p.variables (point_at p.variables x) (point_of p given)) (numbered_same p (rows_of q) is.integer xs given (tells xs full) h)
      (arrays_are_points p h.unknowns given h.of_variables)

  duals_read : (d : _) → AreDuals a.status p.constraints a.rows d → AreSameMultipliers p.constraints (multipliers_of (convex_problem p) (multiplier_at is.integer.columns a)) (multipliers_in d)
  duals_read d are k c at j b =
      multiplier_is 0 p.constraints (multiplier_at is.integer.columns a) k c at j
      ∙ ap (multiplier_at is.integer.columns a) (omega arith)
      ∙ sym (right_multiplier is.integer.columns a p.constraints d
      (have_slacks (rows_of q) is.integer known is.made is.reduced.reduction.reduced.forms p.constraints (map bound_row is.reduced.reduction.reduced.rows) is.reduced.reduction.program.rows)
      are k c at j b)

  -- ---- the answer
  carries : CarriesOver p s (linear_program (rows_of q))
  carries = answers_carry_over is.reduced.rules p s (linear_program (rows_of q)) is.reduced.accepted is.reduced.fits is.reduced.reduction

  -- the answer is right for the rows
  pub right_rows : (t : LpStatus) → a.status ≡ t → IsRightForRowsAs t (rows_of q) is.integer a
  right_rows t e = rows_right_as (rows_of q) is.integer known is.made a is.right t e

  -- what is read is right
  pub read_right : (x : Answer) → IsRead p q.kinds a x → IsRightFor p s x
  read_right (answers.Optimal number point duals) (e, same, at, are) =
      let rows = right_rows status.Optimal e in
      let h = carries.optimal (value a.number) (unknowns_at is.integer.columns (map value a.columns)) (multiplier_at is.integer.columns a) rows in
      subst (λ n. IsRightFor p s (answers.Optimal n point duals)) (sym same)
      ((answers_stay p s).optimal (value a.number) (point_at p.variables (unknowns_at is.integer.columns (map value a.columns))) (point_of p point)
      (multipliers_of (convex_problem p) (multiplier_at is.integer.columns a)) (multipliers_in duals) (point_read a.columns point is.parts.columns at) (duals_read duals are) h)
  read_right (answers.Infeasible duals gap) (e, same, are) =
      let rows = right_rows status.Infeasible e in
      let h = carries.infeasible (value a.number) (multiplier_at is.integer.columns a) rows in
      subst (λ n. IsRightFor p s (answers.Infeasible duals n)) (sym same)
      ((answers_stay p s).infeasible (multipliers_of (convex_problem p) (multiplier_at is.integer.columns a)) (multipliers_in duals) (value a.number) (duals_read duals are) h)
  read_right (answers.Unbounded point ray bound slope) (e, same_bound, same_slope, at, along) =
      let rows = right_rows status.Unbounded e in
      let h = carries.unbounded (unknowns_at is.integer.columns (map value a.columns)) (unknowns_at is.integer.columns (map value a.ray)) (value a.number) (value a.slope) rows in
      subst (λ n. IsRightFor p s (answers.Unbounded point ray n slope)) (sym same_bound)
      (subst (λ n. IsRightFor p s (answers.Unbounded point ray a.number n)) (sym same_slope)
      ((answers_stay p s).unbounded (point_at p.variables (unknowns_at is.integer.columns (map value a.columns))) (point_of p point)
      (point_at p.variables (unknowns_at is.integer.columns (map value a.ray))) (point_of p ray) (value a.number) (value a.slope)
      (point_read a.columns point is.parts.columns at) (point_read a.ray ray (is.parts.ray e) along) h))
