-- A multiplier of a bound passes behind those of constraints, of which none passes.
use Rattle.std.proofs.Common.{subst}
use Rattle.std.proofs.lemmas.Result.{err_from_is_err_and}
use Rattle.dcx_postsolve.specs.Duals.{AreDuals}
use Rattle.dcx_branch.proofs.Formed.{stops_bounds}
use Rattle.dcx_branch.proofs.leaf.multiplied.Goals as goal

pub returns-in_err-bounds-clause-stops : goal.returns-in_err-bounds-clause-stops
returns-in_err-bounds-clause-stops c =
    let p = err_from_is_err_and c.from_residual-in_err-bounds.result c.from_residual-in_err-bounds.ensures.1 in
    let problem = c.args.problem.now in
    let a = c.args.answer.now in
    let made = subst (λ cs. AreDuals a.status cs a.rows c.in_ok-duals.duals) c.as_slice.ensures c.in_ok-duals.ensures.made in
    rw (p.1, p.2) (stops_bounds problem a c.args.first c.args.bounds.now c.in_ok-duals.duals _ made c.in_err-bounds.ensures.stops)
