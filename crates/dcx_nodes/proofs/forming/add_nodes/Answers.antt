-- The first node that isn't formed stops all.
use Rattle.std.proofs.Common.{sym, subst}
use Rattle.dcx_nodes.specs.SoFar.{IsMarkedStop}
use Rattle.dcx_nodes.proofs.OneMore.{marked_stop}
use Rattle.dcx_nodes.proofs.forming.add_nodes.Goals as goal

pub returns-in-Err-clause-stop : goal.returns-in-Err-clause-stop
returns-in-Err-clause-stop g c =
    let t = g.C.Coef in
    subst (IsMarkedStop t.of_number t.number_of t.sum_gives t.change_gives t.parameter_gives c.args.given.now.problem.now c.args.given.now.setting.now c.args.given.now.reduced.now
    c.args.given.now.fixed.now) (sym c.stop_of.ensures)
    (marked_stop t.of_number t.number_of t.sum_gives t.change_gives t.parameter_gives c.args.given.now.problem.now c.args.given.now.setting.now c.args.given.now.reduced.now
    c.args.given.now.fixed.now (record { 0 = c.nodes.i }) c.in-Err.stop c.in-Err.ensures.stop)
