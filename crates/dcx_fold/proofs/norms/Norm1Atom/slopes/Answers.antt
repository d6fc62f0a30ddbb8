-- The slopes are those of the call that is shared.
use Rattle.std.proofs.Common.{subst, IfOk, IfErr, IfSome}
use Rattle.dcx_shape.specs.Sides.{entries_of}
use Rattle.dcx_atom.specs.Arrays.{sides_list}
use Rattle.dcx_atom.specs.Steps.{AreSlopesOf, IsSlopeStop}
use Rattle.dcx_fold.specs.declared.folding.Folding.{Folding}
use Rattle.dcx_fold.specs.Groups.{fold_sides}
use Rattle.dcx_fold.specs.Folds.{fold_meaning}
use Rattle.dcx_fold.proofs.norms.Norm1Atom.slopes.Goals as goal

pub returns-clause-ok : goal.returns-clause-ok
returns-clause-ok c =
    let args = sides_list c.args.args.now in
    subst (λ (x : Folding). IfOk c.slopes.result
    (λ g. IfSome (fold_sides x.axis args) (λ s. AreSlopesOf (fold_meaning x.fold x.axis) args (entries_of s) c.args.coefficients.now c.args.weights.now g)))
    c.folding.ensures c.slopes.ensures.ok

pub returns-clause-stop : goal.returns-clause-stop
returns-clause-stop c =
    let args = sides_list c.args.args.now in
    subst (λ (x : Folding). IfErr c.slopes.result
    (λ e. IfSome (fold_sides x.axis args) (λ s. IsSlopeStop (fold_meaning x.fold x.axis) args (entries_of s) c.args.coefficients.now c.args.weights.now e)))
    c.folding.ensures c.slopes.ensures.stop
