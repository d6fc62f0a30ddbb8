-- The index tells the weights of each node.
use Rattle.std.proofs.Common.{◌<◌, sym, ap, ◌∙◌, subst}
use Rattle.dcx_cert_bound.specs.Weights.{indexed_at, weights_at}
use Rattle.dcx_cert_bound.proofs.OtherWeights.{collected_same, fault_told}
use Rattle.dcx_cert_bound.proofs.collecting.collect_all.Goals as goal

pub returns-in-Ok-clause-ok : goal.returns-in-Ok-clause-ok
returns-in-Ok-clause-ok c =
    let weights = c.args.weights.now in
    let p = c.args.problem.now in
    sym (collected_same p c.args.values.now c.args.duals.now (indexed_at c.deref.result.now weights) (weights_at weights) c.args.with_objective
    (λ i b. ap (λ xs. indexed_at xs weights i) c.deref.ensures.value ∙ c.in_ok-index.ensures i (subst (λ n. i < n) (sym c.nodes.ensures.count) b))) ∙ c.in-Ok.ensures.ok

pub returns-clause-fault : goal.returns-clause-fault
returns-clause-fault c =
    let weights = c.args.weights.now in
    let p = c.args.problem.now in
    fault_told _ _ c.in-Err.stop c.fault_of.result
    (collected_same p c.args.values.now c.args.duals.now (indexed_at c.deref.result.now weights) (weights_at weights) c.args.with_objective
    (λ i b. ap (λ xs. indexed_at xs weights i) c.deref.ensures.value ∙ c.in_ok-index.ensures i (subst (λ n. i < n) (sym c.nodes.ensures.count) b)))
    c.in-Err.ensures.stop c.fault_of.ensures
