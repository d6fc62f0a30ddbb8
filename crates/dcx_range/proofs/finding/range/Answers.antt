-- What is answered is what is told of the run at the setting.
use Rattle.std.proofs.Common.{◌≡◌, ℕ, ◌≤◌, List, length, Ok, subst}
use Rattle.dcx_frac.specs.declared.fraction.Frac.{Frac}
use Rattle.dcx_point.specs.Pairs.{Pairs}
use Rattle.dcx_tree.specs.declared.problem.Problem.{Problem}
use Rattle.dcx_tree.specs.Meaning.{IsFitting}
use Rattle.dcx_linear.specs.declared.param_form.ParamForm.{ParamForm}
use Rattle.dcx_linear.specs.declared.form.Form.{Form}
use Rattle.dcx_linear.specs.declared.row.Row.{Row}
use Rattle.dcx_linear.specs.declared.row.UnknownKind.{UnknownKind}
use Rattle.dcx_linear.specs.Widths.{form_width, rows_width}
use Rattle.dcx_chained.specs.Tables.{table_of}
use Rattle.dcx_lp_answer.specs.declared.answer.LpStatus.TheVariants as status
use Rattle.dcx_simplex.proofs.Ended.{Shown}
use Rattle.dcx_std.specs.GivenRows.{given}
use Rattle.dcx_lp_solve.specs.declared.solving.Solved.{Solved}
use Rattle.dcx_lp_solve.specs.Solved.{IsSolved, Stops}
use Rattle.dcx_graph.specs.Program.{Program}
use Rattle.dcx_graph.specs.Answers.{rows_of}
use Rattle.dcx_graph.specs.Fixing.{FixGives}
use Rattle.dcx_graph.proofs.Mapped.{given_rows, known_of}
use Rattle.dcx_answer.specs.declared.ranged.Ranged.TheVariants.{Infeasible, Unbounded}
use Rattle.dcx_range.specs.declared.asked.Asked.{Asked}
use Rattle.dcx_range.specs.Parameters.{IsRanged}
use Rattle.dcx_range.specs.Range.{IsMapOf, IsAsked}
use Rattle.dcx_range.proofs.Ranges.{of_run, has_few, rows_enough, shown, solved_as, told_result}
use Rattle.dcx_range.proofs.Right.{ranges_are_right}
use Rattle.dcx_range.proofs.finding.range.Goals as goal

-- where the run of the rows that the program lends is optimal, its tableau can be read
end_shown : (p : Problem) (s : Pairs) (name : List ℕ) (m : Program ParamForm) → IsMapOf p m → IsFitting p s → (r : Program Frac) → FixGives s m (Ok r) → IsRanged p m name →
    (limit : ℕ) (kinds : List UnknownKind) (rows : List (Row Frac)) (objective : Form Frac) → kinds ≡ r.kinds → rows ≡ r.rows → objective ≡ r.objective → rows_width rows ≤ length kinds
    → form_width objective ≤ length kinds
    → (x : Solved) → IsSolved limit (given kinds rows objective) x → x.answer.status ≡ status.Optimal → (asked : Asked) → IsAsked p s name asked → Shown x.program (table_of x.tableau)
end_shown p s name m map fits r put ranged limit kinds rows objective same_kinds same_rows same_objective rows_known objective_known x solved optimal asked of =
    shown p s name m map fits r put limit x (subst (λ g. IsSolved limit g x) (given_rows r kinds rows objective same_kinds same_rows same_objective) solved)
    (known_of r kinds rows objective same_kinds same_rows same_objective rows_known objective_known) ranged optimal asked of

pub run_stop-requires : goal.run_stop-requires
run_stop-requires c =
    let p = c.args.problem.now in
    let m = c.args.map.now.program in
    let r = c.args.program.now.program in
    let s = c.args.setting.now in
    let name = c.args.name.now in
    let limit = c.args.limit in
    let lent = c.rows.result.now in
    let same = given_rows r lent.kinds lent.rows lent.objective c.rows.ensures.kinds c.rows.ensures.rows c.rows.ensures.objective in
    of_run limit (rows_of r) (has_few p s name m c.requires.map c.requires.fits r c.requires.program) c.in-Err.stop (subst (λ g. Stops limit g c.in-Err.stop) same c.in-Err.ensures.stops)

pub span-told-requires-clause-rows : goal.span-told-requires-clause-rows
span-told-requires-clause-rows c =
    let p = c.args.problem.now in
    let m = c.args.map.now.program in
    let r = c.args.program.now.program in
    let s = c.args.setting.now in
    let name = c.args.name.now in
    let limit = c.args.limit in
    let lent = c.rows.result.now in
    let same = given_rows r lent.kinds lent.rows lent.objective c.rows.ensures.kinds c.rows.ensures.rows c.rows.ensures.objective in
    let is = subst (λ g. IsSolved limit g c.in-Ok.solved) same c.in-Ok.ensures.solved in
    let known = known_of r lent.kinds lent.rows lent.objective c.rows.ensures.kinds c.rows.ensures.rows c.rows.ensures.objective lent.rows_known lent.objective_known in
    rows_enough p s name m c.requires.map c.requires.fits r c.requires.program limit c.in-Ok.solved is known c.requires.ranged c.in-Optimal.is c.asked.result c.asked.ensures

pub span-told-requires-clause-count : goal.span-told-requires-clause-count
span-told-requires-clause-count c =
    let lent = c.rows.result.now in
    (end_shown c.args.problem.now c.args.setting.now c.args.name.now c.args.map.now.program c.requires.map c.requires.fits c.args.program.now.program c.requires.program c.requires.ranged
    c.args.limit lent.kinds lent.rows lent.objective c.rows.ensures.kinds c.rows.ensures.rows c.rows.ensures.objective lent.rows_known lent.objective_known
    c.in-Ok.solved c.in-Ok.ensures.solved c.in-Optimal.is c.asked.result c.asked.ensures).rows

pub span-told-requires-clause-columns : goal.span-told-requires-clause-columns
span-told-requires-clause-columns c =
    let lent = c.rows.result.now in
    (end_shown c.args.problem.now c.args.setting.now c.args.name.now c.args.map.now.program c.requires.map c.requires.fits c.args.program.now.program c.requires.program c.requires.ranged
    c.args.limit lent.kinds lent.rows lent.objective c.rows.ensures.kinds c.rows.ensures.rows c.rows.ensures.objective lent.rows_known lent.objective_known
    c.in-Ok.solved c.in-Ok.ensures.solved c.in-Optimal.is c.asked.result c.asked.ensures).columns

pub span-told-requires-clause-readable : goal.span-told-requires-clause-readable
span-told-requires-clause-readable c =
    let lent = c.rows.result.now in
    (end_shown c.args.problem.now c.args.setting.now c.args.name.now c.args.map.now.program c.requires.map c.requires.fits c.args.program.now.program c.requires.program c.requires.ranged
    c.args.limit lent.kinds lent.rows lent.objective c.rows.ensures.kinds c.rows.ensures.rows c.rows.ensures.objective lent.rows_known lent.objective_known
    c.in-Ok.solved c.in-Ok.ensures.solved c.in-Optimal.is c.asked.result c.asked.ensures).readable

pub returns-in-Optimal-clause-given : goal.returns-in-Optimal-clause-given
returns-in-Optimal-clause-given c =
    let p = c.args.problem.now in
    let m = c.args.map.now.program in
    let r = c.args.program.now.program in
    let s = c.args.setting.now in
    let name = c.args.name.now in
    let limit = c.args.limit in
    let lent = c.rows.result.now in
    let same = given_rows r lent.kinds lent.rows lent.objective c.rows.ensures.kinds c.rows.ensures.rows c.rows.ensures.objective in
    let is = subst (λ g. IsSolved limit g c.in-Ok.solved) same c.in-Ok.ensures.solved in
    let known = known_of r lent.kinds lent.rows lent.objective c.rows.ensures.kinds c.rows.ensures.rows c.rows.ensures.objective lent.rows_known lent.objective_known in
    told_result p s name m c.requires.map c.requires.fits r c.requires.program limit c.in-Ok.solved is known c.requires.ranged c.in-Optimal.is c.asked.result c.asked.ensures c.span-told.result
    c.span-told.ensures.formed c.span-told.ensures.rising c.span-told.ensures.stops

pub returns-in-Optimal-clause-optimal : goal.returns-in-Optimal-clause-optimal
returns-in-Optimal-clause-optimal c =
    let p = c.args.problem.now in
    let m = c.args.map.now.program in
    let r = c.args.program.now.program in
    let s = c.args.setting.now in
    let name = c.args.name.now in
    let limit = c.args.limit in
    let lent = c.rows.result.now in
    let same = given_rows r lent.kinds lent.rows lent.objective c.rows.ensures.kinds c.rows.ensures.rows c.rows.ensures.objective in
    let is = subst (λ g. IsSolved limit g c.in-Ok.solved) same c.in-Ok.ensures.solved in
    let known = known_of r lent.kinds lent.rows lent.objective c.rows.ensures.kinds c.rows.ensures.rows c.rows.ensures.objective lent.rows_known lent.objective_known in
    ranges_are_right p m r s name limit c.span-told.result c.requires.map c.requires.fits c.requires.program c.requires.ranged
    (told_result p s name m c.requires.map c.requires.fits r c.requires.program limit c.in-Ok.solved is known c.requires.ranged c.in-Optimal.is c.asked.result c.asked.ensures
    c.span-told.result c.span-told.ensures.formed c.span-told.ensures.rising c.span-told.ensures.stops)

pub returns-in-Infeasible-clause-given : goal.returns-in-Infeasible-clause-given
returns-in-Infeasible-clause-given c =
    let p = c.args.problem.now in
    let m = c.args.map.now.program in
    let r = c.args.program.now.program in
    let s = c.args.setting.now in
    let name = c.args.name.now in
    let limit = c.args.limit in
    let lent = c.rows.result.now in
    let same = given_rows r lent.kinds lent.rows lent.objective c.rows.ensures.kinds c.rows.ensures.rows c.rows.ensures.objective in
    let is = subst (λ g. IsSolved limit g c.in-Ok.solved) same c.in-Ok.ensures.solved in
    let known = known_of r lent.kinds lent.rows lent.objective c.rows.ensures.kinds c.rows.ensures.rows c.rows.ensures.objective lent.rows_known lent.objective_known in
    solved_as p s name m c.requires.map c.requires.fits r c.requires.program limit c.in-Ok.solved is known status.Infeasible c.in-Infeasible.is

pub returns-in-Unbounded-clause-given : goal.returns-in-Unbounded-clause-given
returns-in-Unbounded-clause-given c =
    let p = c.args.problem.now in
    let m = c.args.map.now.program in
    let r = c.args.program.now.program in
    let s = c.args.setting.now in
    let name = c.args.name.now in
    let limit = c.args.limit in
    let lent = c.rows.result.now in
    let same = given_rows r lent.kinds lent.rows lent.objective c.rows.ensures.kinds c.rows.ensures.rows c.rows.ensures.objective in
    let is = subst (λ g. IsSolved limit g c.in-Ok.solved) same c.in-Ok.ensures.solved in
    let known = known_of r lent.kinds lent.rows lent.objective c.rows.ensures.kinds c.rows.ensures.rows c.rows.ensures.objective lent.rows_known lent.objective_known in
    solved_as p s name m c.requires.map c.requires.fits r c.requires.program limit c.in-Ok.solved is known status.Unbounded c.in-Unbounded.is

pub returns-in-Infeasible-clause-optimal : goal.returns-in-Infeasible-clause-optimal
returns-in-Infeasible-clause-optimal c =
    let p = c.args.problem.now in
    let m = c.args.map.now.program in
    let r = c.args.program.now.program in
    let s = c.args.setting.now in
    let name = c.args.name.now in
    let limit = c.args.limit in
    let lent = c.rows.result.now in
    let same = given_rows r lent.kinds lent.rows lent.objective c.rows.ensures.kinds c.rows.ensures.rows c.rows.ensures.objective in
    let is = subst (λ g. IsSolved limit g c.in-Ok.solved) same c.in-Ok.ensures.solved in
    let known = known_of r lent.kinds lent.rows lent.objective c.rows.ensures.kinds c.rows.ensures.rows c.rows.ensures.objective lent.rows_known lent.objective_known in
    ranges_are_right p m r s name limit (Ok Infeasible) c.requires.map c.requires.fits c.requires.program c.requires.ranged
    (solved_as p s name m c.requires.map c.requires.fits r c.requires.program limit c.in-Ok.solved is known status.Infeasible c.in-Infeasible.is)

pub returns-in-Unbounded-clause-optimal : goal.returns-in-Unbounded-clause-optimal
returns-in-Unbounded-clause-optimal c =
    let p = c.args.problem.now in
    let m = c.args.map.now.program in
    let r = c.args.program.now.program in
    let s = c.args.setting.now in
    let name = c.args.name.now in
    let limit = c.args.limit in
    let lent = c.rows.result.now in
    let same = given_rows r lent.kinds lent.rows lent.objective c.rows.ensures.kinds c.rows.ensures.rows c.rows.ensures.objective in
    let is = subst (λ g. IsSolved limit g c.in-Ok.solved) same c.in-Ok.ensures.solved in
    let known = known_of r lent.kinds lent.rows lent.objective c.rows.ensures.kinds c.rows.ensures.rows c.rows.ensures.objective lent.rows_known lent.objective_known in
    ranges_are_right p m r s name limit (Ok Unbounded) c.requires.map c.requires.fits c.requires.program c.requires.ranged
    (solved_as p s name m c.requires.map c.requires.fits r c.requires.program limit c.in-Ok.solved is known status.Unbounded c.in-Unbounded.is)
