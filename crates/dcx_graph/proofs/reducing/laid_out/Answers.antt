-- The setting gives the numbers of the nodes that are formed; the rows that are kept are few and within the kinds.
use Rattle.std.proofs.Common.{Err, length, arith, sym, ap, ◌∙◌, subst}
use Rattle.std.specs.List.{All}
use Rattle.dcx_linear.specs.Widths.{form_width}
use Rattle.dcx_tree.specs.Problems.{roots_of}
use Rattle.std.specs.Prelude.{slice_index_or, ◌≤◌, []}
use Rattle.dcx_unknowns.specs.Layout.{marked, kinds_with, rows_with, columns_with, unknown_kinds, AreFew}
use Rattle.dcx_unknowns.proofs.Layouts.{marks_are}
use Rattle.dcx_entries.specs.Standing.{all_forms}
use Rattle.dcx_formed.specs.Within.{IsNarrow}
use Rattle.dcx_formed.proofs.NarrowHold.{forms_are_narrow}
use Rattle.dcx_graph.proofs.Given.{numbers_given, parameters_readable}
use Rattle.dcx_graph.proofs.Counted.{graph-counted}
use Rattle.dcx_graph.proofs.Widths.{roots_kept, rows_kept}
use Rattle.dcx_graph.proofs.Stages.{Answers, unknowns_few, form_answers, program_answers}
use Rattle.dcx_graph.proofs.reducing.laid_out.Goals as goal

pub form_nodes-requires-clause-few : goal.form_nodes-requires-clause-few
form_nodes-requires-clause-few g c = unknowns_few c.args.problem.now (marked c.args.reduced.now) c.requires.few

pub form_nodes-requires-clause-numbers : goal.form_nodes-requires-clause-numbers
form_nodes-requires-clause-numbers g c = numbers_given g.C.Reducible.rules g.C.Coef.can_read c.args.problem.now c.args.setting.now c.requires.given c.args.reduced.now c.requires.reduces

pub form_nodes-requires-clause-readable : goal.form_nodes-requires-clause-readable
form_nodes-requires-clause-readable g c = parameters_readable g.C.Reducible.rules g.C.Coef.can_read c.args.problem.now c.args.setting.now c.requires.given c.args.reduced.now c.requires.reduces

pub program-requires-clause-few : goal.program-requires-clause-few
program-requires-clause-few g c =
    let t = g.C.Coef in
    let rules = g.C.Reducible.rules in
    let p = c.args.problem.now in
    let kept = (c.in-Ok.ensures {u = tt}).formed rules c.requires.reduces c.requires.fixes in
    let few = subst (λ m. AreFew (rows_with p m) (columns_with p m)) (marks_are rules p c.args.reduced.now c.requires.counted c.requires.reduces) c.requires.few in
    let rows = few.few_rows in
    let count = ap length kept.rows ∙ graph-counted t.of_number t.number_of t.sum_gives t.change_gives t.parameter_gives rules p c.args.setting.now kept.table kept.formed in
    omega (arith, rows, count)

pub program-requires-clause-roots : goal.program-requires-clause-roots
program-requires-clause-roots g c =
    let t = g.C.Coef in
    let rules = g.C.Reducible.rules in
    let p = c.args.problem.now in
    let kept = (c.in-Ok.ensures {u = tt}).formed rules c.requires.reduces c.requires.fixes in
    let size = ap length (c.requires.kinds ∙ ap (kinds_with p) (marks_are rules p c.args.reduced.now c.requires.counted c.requires.reduces)) in
    subst (λ n. All (λ a. All (λ f. form_width f ≤ n) (slice_index_or (all_forms t.of_number c.in-Ok.formed.standing) a [])) (roots_of p.objective p.constraints)) (sym size)
    (roots_kept t.of_number t.number_of t.sum_gives t.change_gives t.parameter_gives rules p c.args.setting.now c.in-Ok.formed kept (IsNarrow (length (unknown_kinds rules p)))
    (forms_are_narrow t.of_number t.number_of t.sum_gives t.change_gives t.parameter_gives rules p c.args.setting.now kept.table kept.formed))

pub program-requires-clause-rows : goal.program-requires-clause-rows
program-requires-clause-rows g c =
    let t = g.C.Coef in
    let rules = g.C.Reducible.rules in
    let p = c.args.problem.now in
    let kept = (c.in-Ok.ensures {u = tt}).formed rules c.requires.reduces c.requires.fixes in
    let size = ap length (c.requires.kinds ∙ ap (kinds_with p) (marks_are rules p c.args.reduced.now c.requires.counted c.requires.reduces)) in
    subst (λ n. All (λ r. form_width r.form ≤ n) c.in-Ok.formed.rows) (sym size)
    (rows_kept t.of_number t.number_of t.sum_gives t.change_gives t.parameter_gives rules p c.args.setting.now c.in-Ok.formed kept (IsNarrow (length (unknown_kinds rules p)))
    (forms_are_narrow t.of_number t.number_of t.sum_gives t.change_gives t.parameter_gives rules p c.args.setting.now kept.table kept.formed))

pub returns-in-Ok-clause-program : goal.returns-in-Ok-clause-program
returns-in-Ok-clause-program g c =
    let t = g.C.Coef in
    let rules = g.C.Reducible.rules in
    let p = c.args.problem.now in
    let kept = (c.in-Ok.ensures {u = tt}).formed rules c.requires.reduces c.requires.fixes in
    let few = subst (λ m. AreFew (rows_with p m) (columns_with p m)) (marks_are rules p c.args.reduced.now c.requires.counted c.requires.reduces) c.requires.few in
    program_answers t.of_number t.number_of t.sum_gives t.change_gives t.parameter_gives rules p c.args.setting.now few kept.table kept.formed c.program.result
    (c.program.ensures.program rules c.args.setting.now kept (c.requires.kinds ∙ ap (kinds_with p) (marks_are rules p c.args.reduced.now c.requires.counted c.requires.reduces)))

pub returns-in-Err-clause-program : goal.returns-in-Err-clause-program
returns-in-Err-clause-program g c =
    let t = g.C.Coef in
    let rules = g.C.Reducible.rules in
    let p = c.args.problem.now in
    let few = subst (λ m. AreFew (rows_with p m) (columns_with p m)) (marks_are rules p c.args.reduced.now c.requires.counted c.requires.reduces) c.requires.few in
    subst (λ e. Answers t.of_number t.number_of t.sum_gives t.change_gives t.parameter_gives rules p c.args.setting.now (Err e)) (sym c.form_stop.ensures)
    (form_answers t.of_number t.number_of t.sum_gives t.change_gives t.parameter_gives rules p c.args.setting.now few c.in-Err.stop
    ((c.in-Err.ensures {u = tt}).stop rules c.requires.reduces c.requires.fixes))
