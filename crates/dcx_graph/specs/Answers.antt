-- From an answer of the rows back to the problem: when there is one, what it is, and the first multiplier that passes.
use Rattle.std.specs.Prelude.{◌≡◌, ⊤, ℕ, ◌<◌, ◌≤◌, ◌^◌, IsTrue, List, length, map, sum_by, Some}
use Rattle.dcx_frac.specs.declared.fraction.Frac.{Frac}
use Rattle.dcx_frac.specs.declared.fraction.Passes.{Passes}
use Rattle.dcx_frac.specs.Frac.{value}
use Rattle.dcx_atom.specs.declared.array.Array.{Array}
use Rattle.dcx_point.specs.Pairs.{Pairs, names_of}
use Rattle.dcx_call.specs.declared.attribute.Variable.{Variable}
use Rattle.dcx_call.specs.Values.{given_by}
use Rattle.dcx_convex.specs.Nodes.{Setting}
use Rattle.dcx_convex.specs.Rules.{Rules}
use Rattle.dcx_convex.specs.Problems.{accepted_by}
use Rattle.dcx_tree.specs.declared.problem.Problem.{Problem}
use Rattle.dcx_tree.specs.Meaning.{convex_problem, Fits}
use Rattle.dcx_linear.specs.declared.row.UnknownKind.{UnknownKind}
use Rattle.dcx_tab.specs.declared.program.Program as tab
use Rattle.dcx_lp_answer.specs.declared.answer.LpStatus.TheVariants as status
use Rattle.dcx_lp_answer.specs.declared.answer.LpAnswer.{LpAnswer}
use Rattle.dcx_lp_answer.specs.declared.stop.MultiplierStop.{MultiplierStop}
use Rattle.dcx_lp_answer.specs.declared.stop.MultiplierStop.TheVariants as multipliers
use Rattle.dcx_lp_answer.specs.Multipliers.{passing_from}
use Rattle.dcx_lp_answer.specs.Right.{IsRight}
use Rattle.dcx_answer.specs.declared.answer.Answer.{Answer}
use Rattle.dcx_answer.specs.declared.answer.Answer.TheVariants as answers
use Rattle.dcx_answer.specs.declared.site.Site.{Site}
use Rattle.dcx_answer.specs.declared.site.Site.TheVariants as sites
use Rattle.dcx_std.specs.GivenRows.{GivenRows, given}
use Rattle.dcx_std.specs.IntegerRows.{IsMade}
use Rattle.dcx_std.specs.Solutions.{linear_program}
use Rattle.dcx_unknowns.specs.Layout.{constraint_rows}
use Rattle.dcx_unknowns.specs.Laws.{IsVariable}
use Rattle.dcx_postsolve.specs.Numbers.{unknown_numbers, HasColumns, AreOneSided}
use Rattle.dcx_postsolve.specs.Points.{IsPointOf}
use Rattle.dcx_postsolve.specs.Duals.{all_multipliers, AreDuals}
use Rattle.dcx_graph.specs.declared.reading.AnswerStop.{AnswerStop}
use Rattle.dcx_graph.specs.declared.reading.AnswerStop.TheVariants as stops
use Rattle.dcx_graph.specs.Program.{Program}
use Rattle.dcx_graph.specs.AsLinear.{IsReductionAt}

-- ---- the answer that is given
-- the rows of a program, as a scaled program is made of them
abbrev pub rows_of : Program Frac → GivenRows
rows_of q = given q.kinds q.rows q.objective

-- there is a number for each column, and of each row the notes are kept
pub record HasParts (q : tab.Program) (a : LpAnswer) : Type 0 where
  pub columns : length a.columns ≡ length q.columns
  pub ray : a.status ≡ status.Unbounded → length a.ray ≡ length q.columns
  pub notes : length a.rows ≡ length q.rows

-- the program is a reduced program of the problem, by rules that accept it, at a setting that fits
pub record IsReducedAt (p : Problem) (s : Setting) (q : Program Frac) : Type 0 where
  pub rules : Rules
  pub accepted : IsTrue (accepted_by rules (convex_problem p))
  pub fits : Fits p s
  pub reduction : IsReductionAt rules p s (linear_program (rows_of q))

-- the program is a reduced program of the problem at a setting that fits, and the answer is right for its integer rows
pub record IsAnswered (p : Problem) (s : Setting) (q : Program Frac) (a : LpAnswer) : Type 0 where
  pub reduced : IsReducedAt p s q
  pub integer : tab.Program
  pub made : IsMade (rows_of q) integer
  pub parts : HasParts integer a
  pub right : IsRight integer a

-- ---- what is read from it
-- numbers of columns that tell those of the unknowns
pub record TellUnknowns (kinds : List UnknownKind) (columns : List Frac) : Type 0 where
  pub there : HasColumns kinds (map value columns)
  pub one_sided : AreOneSided kinds (map value columns)

-- the answer has what is read of it: the notes of the constraints' rows, and the numbers of the unknowns' columns
pub record CanBeRead (p : Problem) (kinds : List UnknownKind) (a : LpAnswer) : Type 0 where
  pub rows : sum_by constraint_rows p.constraints ≤ length a.rows
  pub few : length a.rows < 2 ^ 32
  pub columns : TellUnknowns kinds a.columns
  pub ray : a.status ≡ status.Unbounded → TellUnknowns kinds a.ray

-- the point of the unknowns whose columns have these numbers
pub record IsPointRead (p : Problem) (kinds : List UnknownKind) (columns : List Frac) (point : Pairs) : Type 0 where
  pub unknowns : List Frac
  pub are : map value unknowns ≡ unknown_numbers kinds (map value columns)
  pub of_variables : IsPointOf p.variables unknowns point

-- the answer has the numbers of the answer of the rows, the points of its unknowns, and the multipliers of the constraints' rows
abbrev pub IsRead : Problem → List UnknownKind → LpAnswer → Answer → Type 0
IsRead p kinds a (answers.Optimal number point duals) = (a.status ≡ status.Optimal) × (number ≡ a.number) × IsPointRead p kinds a.columns point × AreDuals a.status p.constraints a.rows duals
IsRead p kinds a (answers.Infeasible duals gap) = (a.status ≡ status.Infeasible) × (gap ≡ a.number) × AreDuals a.status p.constraints a.rows duals
IsRead p kinds a (answers.Unbounded point ray bound slope) =
    (a.status ≡ status.Unbounded) × (bound ≡ a.number) × (slope ≡ a.slope) × IsPointRead p kinds a.columns point × IsPointRead p kinds a.ray ray

-- ---- what stops it
-- the first multiplier of a row of a constraint that passes, where multipliers are formed
pub record PassesAt (p : Problem) (a : LpAnswer) (site : Site) : Type 0 where
  pub formed : ¬ (a.status ≡ status.Unbounded)
  pub row : ℕ
  pub passes : Passes
  pub first : passing_from 0 (all_multipliers a.status p.constraints a.rows) ≡ Some (row, passes)
  pub here : site ≡ sites.Answer row passes

-- the stop at a multiplier
abbrev pub answer_stop : MultiplierStop → AnswerStop
answer_stop (multipliers.Wide row passes) = stops.Wide (sites.Answer row passes)
answer_stop multipliers.Memory = stops.Memory

abbrev pub StopsReading : Problem → LpAnswer → AnswerStop → Type 0
StopsReading p a (stops.Wide site) = PassesAt p a site
StopsReading p a stops.Memory = ⊤

-- ---- one answer
-- the points have the same names, and the same numbers for each variable, past its entries too
pub record IsSamePoint (p : Problem) (x y : Pairs) : Type 0 where
  pub names : names_of x ≡ names_of y
  pub numbers : (k : ℕ) (v : Variable) → IsVariable p.variables k v → (j : ℕ) → given_by x v.name j ≡ given_by y v.name j

-- the multipliers have the same numbers
abbrev pub AreSameDuals : List Array → List Array → Type 0
AreSameDuals ds es = map (λ x. x.entries) ds ≡ map (λ x. x.entries) es

-- the answers are of one kind, and have the same numbers
abbrev pub IsSameAnswer : Problem → Answer → Answer → Type 0
IsSameAnswer p (answers.Optimal n x ds) (answers.Optimal m y es) = (n ≡ m) × IsSamePoint p x y × AreSameDuals ds es
IsSameAnswer p (answers.Optimal n x ds) (answers.Infeasible es g) = ⊥
IsSameAnswer p (answers.Optimal n x ds) (answers.Unbounded y q b t) = ⊥
IsSameAnswer p (answers.Infeasible ds g) (answers.Optimal m y es) = ⊥
IsSameAnswer p (answers.Infeasible ds g) (answers.Infeasible es h) = (g ≡ h) × AreSameDuals ds es
IsSameAnswer p (answers.Infeasible ds g) (answers.Unbounded y q b t) = ⊥
IsSameAnswer p (answers.Unbounded x r b t) (answers.Optimal m y es) = ⊥
IsSameAnswer p (answers.Unbounded x r b t) (answers.Infeasible es g) = ⊥
IsSameAnswer p (answers.Unbounded x r b t) (answers.Unbounded y q c u) = (b ≡ c) × (t ≡ u) × IsSamePoint p x y × IsSamePoint p r q

-- what is told of what is read from an answer
pub record IsOneReading (p : Problem) (kinds : List UnknownKind) (a : LpAnswer) : Type 0 where
  pub same : (x y : Answer) → IsRead p kinds a x → IsRead p kinds a y → IsSameAnswer p x y
  pub never_both : (x : Answer) (site : Site) → IsRead p kinds a x → PassesAt p a site → ⊥
  pub one_stop : (s t : Site) → PassesAt p a s → PassesAt p a t → s ≡ t

abbrev pub ReadingsAreOne : Type 0
ReadingsAreOne = (p : Problem) (kinds : List UnknownKind) (a : LpAnswer) → IsOneReading p kinds a
