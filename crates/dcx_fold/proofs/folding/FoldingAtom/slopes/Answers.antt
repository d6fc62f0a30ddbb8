-- The slopes are those of the only argument.
use Rattle.dcx_atom.specs.Steps.{AreSlopesOf, IsSlopeStop}
use Rattle.dcx_fold.specs.Folds.{fold_meaning}
use Rattle.dcx_fold.proofs.FoldShapes.{ok_at_fold, err_at_fold}
use Rattle.dcx_fold.proofs.folding.FoldingAtom.slopes.Goals as goal

pub returns-clause-ok : goal.returns-clause-ok
returns-clause-ok c =
    let m = fold_meaning c.args.self.now.fold c.args.self.now.axis in
    ok_at_fold c.args.self.now.axis c.args.args.now c.index-args-0.result c.unwrap.result c.folded.result c.size-size.result
    (λ args size. AreSlopesOf m args size c.args.coefficients.now c.args.weights.now)
    c.fold_slopes.result c.requires.shape c.index-args-0.is c.unwrap.ensures c.folded.ensures c.size-size.ensures.value c.fold_slopes.ensures.ok

pub returns-clause-stop : goal.returns-clause-stop
returns-clause-stop c =
    let m = fold_meaning c.args.self.now.fold c.args.self.now.axis in
    err_at_fold c.args.self.now.axis c.args.args.now c.index-args-0.result c.unwrap.result c.folded.result c.size-size.result
    (λ args size. IsSlopeStop m args size c.args.coefficients.now c.args.weights.now)
    c.fold_slopes.result c.requires.shape c.index-args-0.is c.unwrap.ensures c.folded.ensures c.size-size.ensures.value c.fold_slopes.ensures.stop
