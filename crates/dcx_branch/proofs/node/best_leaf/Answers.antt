-- A leaf with a point: a multiplier of it may pass; the point has an array of each variable.
use Rattle.std.proofs.Common.{subst}
use Rattle.std.proofs.Math.Path.{fun_ext}
use Rattle.dcx_linear.specs.FormTerms.{Unknowns}
use Rattle.dcx_branch.specs.Places.{places}
use Rattle.dcx_branch.specs.Run.{Found, AreWhole}
use Rattle.dcx_branch.proofs.Taking.{leaf_stops}
use Rattle.dcx_branch.proofs.node.best_leaf.Goals as goal

pub returns-in-Err-clause-stops : goal.returns-in-Err-clause-stops
returns-in-Err-clause-stops c = λ best better.
    let p = c.args.problem.now in
    let node = c.args.node.now in
    let whole = subst (λ (x : Unknowns). AreWhole (places p.variables) x) (fun_ext c.requires.numbers) c.requires.whole in
    leaf_stops p c.args.first node.bounds.items best node.solved Found (c.requires.optimal, better, whole) tt c.in-Err.stop c.in-Err.ensures.stops
