-- The comparison is exact.
use Rattle.std.proofs.Common.{◌∙◌}
use Rattle.dcx_frac.specs.Frac.{value}
use Rattle.dcx_fold.proofs.FallingLists.{answer_is, turned_lt}
use Rattle.dcx_fold.proofs.largest.farther_first.Goals as goal

pub returns-in-Convex : goal.returns-in-Convex
returns-in-Convex c = rw c.in-Convex.is (answer_is c.cmp_exact.result (value c.args.y.now) (value c.args.x.now) c.cmp_exact.ensures.less)

pub returns-in-Concave : goal.returns-in-Concave
returns-in-Concave c =
    rw c.in-Concave.is (answer_is c.cmp_exact-in-Concave.result (value c.args.x.now) (value c.args.y.now) c.cmp_exact-in-Concave.ensures.less ∙ turned_lt (value c.args.x.now) (value c.args.y.now))
