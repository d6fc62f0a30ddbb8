-- What stops the node stops the run there.
use Rattle.std.proofs.Common.{sym, subst}
use Rattle.dcx_branch.specs.declared.node.NodeStop.TheVariants as stops
use Rattle.dcx_branch.specs.Searches.{StopsNext}
use Rattle.dcx_branch.proofs.Advance.{stopped}
use Rattle.dcx_branch.proofs.search.Search.next_taken.Goals as goal

pub returns-in-Err-Unbounded-clause-stops : goal.returns-in-Err-Unbounded-clause-stops
returns-in-Err-Unbounded-clause-stops c = λ s given at.
    let p = c.args.problem.now in
    let q = c.args.reduced.now.program in
    let h = rw c.in-Err-Unbounded.field-0-is at c.in-Err-Unbounded.ensures.stops in
    stopped p q c.args.limit s given c.args.self.now at c.args.places.now c.deref.result.now _ c.requires.places c.deref.ensures.value c.best_value-best.ensures stops.Unbounded h

pub returns-in-Err-Stop-clause-stops : goal.returns-in-Err-Stop-clause-stops
returns-in-Err-Stop-clause-stops c = λ s given at.
    let p = c.args.problem.now in
    let q = c.args.reduced.now.program in
    let h = rw c.in-Err-Stop.field-0-is at c.in-Err-Stop.ensures.stops in
    subst (StopsNext p q c.args.limit c.args.self.now.taken) (sym c.node_stop.ensures)
    (stopped p q c.args.limit s given c.args.self.now at c.args.places.now c.deref.result.now _ c.requires.places c.deref.ensures.value c.best_value-best.ensures (stops.Stop c.in-Err-Stop.stop) h)
