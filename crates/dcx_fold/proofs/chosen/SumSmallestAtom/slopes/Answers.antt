-- The slopes are those of the call that is shared.
use Rattle.std.proofs.Common.{subst, IfOk, IfErr, IfSome}
use Rattle.dcx_shape.specs.Sides.{entries_of}
use Rattle.dcx_atom.specs.Arrays.{sides_list}
use Rattle.dcx_atom.specs.Steps.{AreSlopesOf, IsSlopeStop}
use Rattle.dcx_fold.specs.declared.chosen.Largest.{Largest}
use Rattle.dcx_fold.specs.Largest.{chosen_sides, largest_meaning}
use Rattle.dcx_fold.proofs.chosen.SumSmallestAtom.slopes.Goals as goal

pub returns-clause-ok : goal.returns-clause-ok
returns-clause-ok c =
    let args = sides_list c.args.args.now in
    subst (λ (x : Largest). IfOk c.slopes.result (λ g. IfSome (chosen_sides x.k args) (λ s. AreSlopesOf (largest_meaning x.bend x.k) args (entries_of s) c.args.coefficients.now c.args.weights.now g)))
    c.largest.ensures c.slopes.ensures.ok

pub returns-clause-stop : goal.returns-clause-stop
returns-clause-stop c =
    let args = sides_list c.args.args.now in
    subst (λ (x : Largest). IfErr c.slopes.result
    (λ e. IfSome (chosen_sides x.k args) (λ s. IsSlopeStop (largest_meaning x.bend x.k) args (entries_of s) c.args.coefficients.now c.args.weights.now e)))
    c.largest.ensures c.slopes.ensures.stop
