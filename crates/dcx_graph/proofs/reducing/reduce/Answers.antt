-- The marks are those of the rules, and so the layout and each stop are those of the problem.
use Rattle.std.proofs.Common.{Err, length, sym, ap, ◌∙◌, subst}
use Rattle.dcx_unknowns.specs.Layout.{AreReduced, kinds_with, rows_with, columns_with, AreFew}
use Rattle.dcx_unknowns.proofs.Layouts.{marks_are}
use Rattle.dcx_graph.proofs.Stages.{Answers, layout_answers}
use Rattle.dcx_graph.proofs.reducing.reduce.Goals as goal

pub laid_out-requires-clause-reduces : goal.laid_out-requires-clause-reduces
laid_out-requires-clause-reduces g c =
    let rules = g.C.Reducible.rules in
    subst (AreReduced rules c.args.problem.now) (sym c.deref-in-Ok.ensures.value) (c.in_ok-reduced.ensures.marks rules c.are_parameters_affine.ensures)

pub laid_out-requires-clause-kinds : goal.laid_out-requires-clause-kinds
laid_out-requires-clause-kinds g c =
    let rules = g.C.Reducible.rules in
    let p = c.args.problem.now in
    let marks = c.in_ok-reduced.ensures.marks rules c.are_parameters_affine.ensures in
    let layout = (c.in-Ok.ensures {u = tt}).ok rules (subst (AreReduced rules p) (sym c.deref.ensures.value) marks) in
    layout.kinds
    ∙ ap (kinds_with p) (sym (marks_are rules p c.deref-in-Ok.result.now (ap length c.deref-in-Ok.ensures.value ∙ c.in_ok-reduced.ensures.count)
    (subst (AreReduced rules p) (sym c.deref-in-Ok.ensures.value) marks)))

pub laid_out-requires-clause-few : goal.laid_out-requires-clause-few
laid_out-requires-clause-few g c =
    let rules = g.C.Reducible.rules in
    let p = c.args.problem.now in
    let marks = c.in_ok-reduced.ensures.marks rules c.are_parameters_affine.ensures in
    let layout = (c.in-Ok.ensures {u = tt}).ok rules (subst (AreReduced rules p) (sym c.deref.ensures.value) marks) in
    subst (λ m. AreFew (rows_with p m) (columns_with p m))
    (sym (marks_are rules p c.deref-in-Ok.result.now (ap length c.deref-in-Ok.ensures.value ∙ c.in_ok-reduced.ensures.count) (subst (AreReduced rules p) (sym c.deref-in-Ok.ensures.value) marks)))
    layout.few

pub returns-clause-program : goal.returns-clause-program
returns-clause-program g c =
    let t = g.C.Coef in
    let rules = g.C.Reducible.rules in
    let p = c.args.problem.now in
    let marks = c.in_ok-reduced.ensures.marks rules c.are_parameters_affine.ensures in
    subst (λ e. Answers t.of_number t.number_of t.sum_gives t.change_gives t.parameter_gives rules p c.args.setting.now (Err e)) (sym c.layout_stop.ensures)
    (layout_answers t.of_number t.number_of t.sum_gives t.change_gives t.parameter_gives rules p c.args.setting.now c.in-Err.stop
    ((c.in-Err.ensures {u = tt}).stop rules (subst (AreReduced rules p) (sym c.deref.ensures.value) marks)))
