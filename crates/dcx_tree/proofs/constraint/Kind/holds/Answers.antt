-- The comparison is exact.
use Rattle.std.proofs.Common.{MatchBool, sym, subst}
use Rattle.dcx_math.specs.Rational.{◌-ℚ◌}
use Rattle.dcx_frac.specs.Frac.{value}
use Rattle.dcx_convex.specs.Problems.{Holds}
use Rattle.dcx_tree.specs.declared.constraint.Kind.{Kind}
use Rattle.dcx_tree.specs.Meaning.{relation_of}
use Rattle.dcx_tree.proofs.Comparing.{at_most, equal}
use Rattle.dcx_tree.proofs.constraint.Kind.holds.Goals as goal

pub returns-in-AtMost : goal.returns-in-AtMost
returns-in-AtMost c =
    let x = value c.args.left.now in
    let y = value c.args.right.now in
    subst (λ (k : Kind). MatchBool c.is_at_most.result (Holds (relation_of k) (x -ℚ y)) (¬ Holds (relation_of k) (x -ℚ y))) (sym c.in-AtMost.is) (at_most x y c.is_at_most.result c.is_at_most.ensures)

pub returns-in-Equal : goal.returns-in-Equal
returns-in-Equal c =
    let x = value c.args.left.now in
    let y = value c.args.right.now in
    subst (λ (k : Kind). MatchBool c.is_equal.result (Holds (relation_of k) (x -ℚ y)) (¬ Holds (relation_of k) (x -ℚ y))) (sym c.in-Equal.is) (equal x y c.is_equal.result c.is_equal.ensures)
