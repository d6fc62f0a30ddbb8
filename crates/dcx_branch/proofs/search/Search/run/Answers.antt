-- The run stops at the limit, or at the node that is next.
use Rattle.std.proofs.Common.{◌≡◌, ◌+◌, ◌≤◌, Bool, subst, arith}
use Rattle.std.proofs.lemmas.Result.{err_from_is_err_and}
use Rattle.dcx_branch.specs.Searches.{IsAtOrDone}
use Rattle.dcx_branch.proofs.Advance.{next_ends, limit_ends}
use Rattle.dcx_branch.proofs.search.Search.run.Goals as goal

pub returns-then-self-nodes-clause-stops : goal.returns-then-self-nodes-clause-stops
returns-then-self-nodes-clause-stops c = λ s given at.
    let p = c.args.problem.now in
    let q = c.args.reduced.now.program in
    let few = c.nodes.invariant.few in
    let same : c.nodes.self.taken ≡ c.args.nodes = omega arith in
    limit_ends p q c.args.limit c.nodes.self c.args.nodes same (subst (λ (b : Bool). IsAtOrDone p q c.args.limit b c.nodes.self) c.nodes-test.true (c.nodes.invariant.under_way at))

pub returns-in_err-open-clause-stops : goal.returns-in_err-open-clause-stops
returns-in_err-open-clause-stops c = λ s given at.
    let p = c.args.problem.now in
    let q = c.args.reduced.now.program in
    let few : c.nodes.self.taken + 1 ≤ c.args.nodes = omega arith in
    let here = subst (λ (b : Bool). IsAtOrDone p q c.args.limit b c.nodes.self) c.nodes-test.true (c.nodes.invariant.under_way at) in
    let e = err_from_is_err_and c.from_residual.result c.from_residual.ensures.1 in
    rw (e.1, e.2) (next_ends p q c.args.limit c.nodes.self.taken c.args.nodes _ few (c.in_err-open.ensures.stops s given here))
