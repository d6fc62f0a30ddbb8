-- When the loop ends, all constraints are tried.
use Rattle.std.proofs.Common.{◌≡◌, length, ap, subst, arith, rules}
use Rattle.std.proofs.lemmas.Result.{err_from_is_err_and}
use Rattle.dcx_iis.specs.Runs.{IsLeft}
use Rattle.dcx_iis.proofs.filtering.try_each.Goals as goal

pub constraints-init : goal.constraints-init
constraints-init c = c.requires.left

pub constraints-smaller : goal.constraints-smaller
constraints-smaller c = search rules

pub try_without-requires-clause-rows : goal.try_without-requires-clause-rows
try_without-requires-clause-rows c = c.requires.rows

pub try_without-requires-clause-left : goal.try_without-requires-clause-left
try_without-requires-clause-left c = c.constraints.invariant

pub constraints-preserved : goal.constraints-preserved
constraints-preserved c = c.in_ok-try_without.ensures.left

pub returns-in_err-try_without-clause-stops : goal.returns-in_err-try_without-clause-stops
returns-in_err-try_without-clause-stops c =
    let p = err_from_is_err_and c.from_residual.result c.from_residual.ensures.1 in
    rw (p.1, p.2) c.in_err-try_without.ensures.stops

pub returns-clause-left : goal.returns-clause-left
returns-clause-left c =
    let all = ap length c.as_slice.ensures in
    let end : c.constraints.constraint ≡ length c.args.problem.now.constraints = omega (arith, c.constraints-test.false, c.constraints.auto.constraint-end, all) in
    subst (λ n. IsLeft c.args.problem.now c.args.reduced.now.program c.args.limit n c.constraints.left) end c.constraints.invariant
