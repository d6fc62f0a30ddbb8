-- A multiplier of a leaf may pass.
use Rattle.std.proofs.Common.{inl, inr, option_map, subst, MatchBool}
use Rattle.dcx_frac.specs.Frac.{value}
use Rattle.dcx_branch.specs.Run.{Cut, IsPruned, IsBetter}
use Rattle.dcx_branch.proofs.Taking.{made_stops}
use Rattle.dcx_branch.proofs.node.judge.Goals as goal

pub returns-in-Infeasible-clause-stops : goal.returns-in-Infeasible-clause-stops
returns-in-Infeasible-clause-stops c =
    let node = c.args.node.now in
    made_stops c.args.problem.now c.args.first node.bounds.items (option_map value c.args.best.now) node.solved Cut
    (inl c.in-Infeasible.is) tt c.empty_leaf.result c.without_point.result c.without_point.ensures c.empty_leaf.ensures.stops

pub returns-then-is_pruned-clause-stops : goal.returns-then-is_pruned-clause-stops
returns-then-is_pruned-clause-stops c =
    let node = c.args.node.now in
    let best = option_map value c.args.best.now in
    let pruned = subst (λ b. MatchBool b (IsPruned best (value node.solved.answer.number)) (IsBetter best (value node.solved.answer.number))) c.if-is_pruned.true c.is_pruned.ensures in
    made_stops c.args.problem.now c.args.first node.bounds.items best node.solved Cut
    (inr (c.in-Optimal.is, pruned)) tt c.bound_leaf.result c.without_point-then-is_pruned.result c.without_point-then-is_pruned.ensures c.bound_leaf.ensures.stops
