-- Each constraint is tested.
use Rattle.std.proofs.Common.{subst}
use Rattle.std.proofs.lemmas.List.Elements.{All-more}
use Rattle.dcx_tree.specs.Problems.{IsConstraint}
use Rattle.dcx_tree.proofs.tree.Tree.are_constraints.Goals as goal

pub loop-constraint-preserved : goal.loop-constraint-preserved
loop-constraint-preserved c =
    let x = c.constraint-item.result in
    All-more (IsConstraint c.args.self.now) c.args.constraints.now c.loop-constraint.constraint-index x c.loop-constraint-test.true c.loop-constraint.invariant
    (subst (IsConstraint c.args.self.now) c.constraint-item.is (c.is_constraint.ensures.0 c.if-not-is_constraint.false))
