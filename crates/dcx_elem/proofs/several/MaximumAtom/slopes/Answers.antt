-- The slopes are those of the call that is shared.
use Rattle.std.proofs.Common.{subst, IfOk, IfErr, IfSome}
use Rattle.dcx_shape.specs.Sides.{entries_of}
use Rattle.dcx_atom.specs.Arrays.{sides_list}
use Rattle.dcx_atom.specs.Steps.{AreSlopesOf, IsSlopeStop}
use Rattle.dcx_elem.specs.declared.extremes.Extreme.{Extreme}
use Rattle.dcx_elem.specs.Extremes.{alike, extreme_meaning}
use Rattle.dcx_elem.proofs.several.MaximumAtom.slopes.Goals as goal

pub returns-clause-ok : goal.returns-clause-ok
returns-clause-ok c =
    let args = sides_list c.args.args.now in
    subst (λ (x : Extreme). IfOk c.slopes.result
    (λ g. IfSome (alike x.count args) (λ s. AreSlopesOf (extreme_meaning x.bend x.count) args (entries_of s) c.args.coefficients.now c.args.weights.now g)))
    c.extreme.ensures c.slopes.ensures.ok

pub returns-clause-stop : goal.returns-clause-stop
returns-clause-stop c =
    let args = sides_list c.args.args.now in
    subst (λ (x : Extreme). IfErr c.slopes.result
    (λ e. IfSome (alike x.count args) (λ s. IsSlopeStop (extreme_meaning x.bend x.count) args (entries_of s) c.args.coefficients.now c.args.weights.now e)))
    c.extreme.ensures c.slopes.ensures.stop
