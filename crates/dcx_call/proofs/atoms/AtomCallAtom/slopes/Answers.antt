-- What is asked and told of the rows of a call is that of the call that it is.
use Rattle.std.proofs.Common.{◌≡◌, List, length, IfSome, IfOk, IfErr, Result, sym, subst}
use Rattle.dcx_frac.specs.declared.fraction.Frac.{Frac}
use Rattle.dcx_shape.specs.declared.shape.Shape.{Shape}
use Rattle.dcx_shape.specs.Sides.{entries_of}
use Rattle.dcx_atom.specs.declared.stops.SlopeStop.{SlopeStop}
use Rattle.dcx_atom.specs.Arrays.{sides_list}
use Rattle.dcx_atom.specs.Steps.{rows_before, AreSlopesOf, IsSlopeStop}
use Rattle.dcx_call.specs.declared.atoms.AtomCall.{AtomCall}
use Rattle.dcx_call.specs.Atoms.{atom_meaning}
use Rattle.dcx_call.proofs.atoms.AtomCallAtom.slopes.Goals as goal

abbrev HasWeights : List Shape → List Frac → AtomCall → Type 0
HasWeights args weights m =
    IfSome ((atom_meaning m).shape (sides_list args)) (λ s. length weights ≡ rows_before (atom_meaning m) (sides_list args) (entries_of s))

abbrev HasSlopes : List Shape → List Frac → List Frac → Result (List Frac) SlopeStop → AtomCall → Type 0
HasSlopes args coefficients weights result m =
    IfOk result (λ g. IfSome ((atom_meaning m).shape (sides_list args)) (λ s. AreSlopesOf (atom_meaning m) (sides_list args) (entries_of s) coefficients weights g))

abbrev HasStop : List Shape → List Frac → List Frac → Result (List Frac) SlopeStop → AtomCall → Type 0
HasStop args coefficients weights result m =
    IfErr result (λ e. IfSome ((atom_meaning m).shape (sides_list args)) (λ s. IsSlopeStop (atom_meaning m) (sides_list args) (entries_of s) coefficients weights e))

pub slopes-requires-in-Maximum-clause-weights : goal.slopes-requires-in-Maximum-clause-weights
slopes-requires-in-Maximum-clause-weights c = subst (HasWeights c.args.args.now c.args.weights.now) c.in-Maximum.is c.requires.weights

pub slopes-requires-in-Minimum-clause-weights : goal.slopes-requires-in-Minimum-clause-weights
slopes-requires-in-Minimum-clause-weights c = subst (HasWeights c.args.args.now c.args.weights.now) c.in-Minimum.is c.requires.weights

pub slopes-requires-in-MaxOf-clause-weights : goal.slopes-requires-in-MaxOf-clause-weights
slopes-requires-in-MaxOf-clause-weights c = subst (HasWeights c.args.args.now c.args.weights.now) c.in-MaxOf.is c.requires.weights

pub slopes-requires-in-MinOf-clause-weights : goal.slopes-requires-in-MinOf-clause-weights
slopes-requires-in-MinOf-clause-weights c = subst (HasWeights c.args.args.now c.args.weights.now) c.in-MinOf.is c.requires.weights

pub slopes-requires-in-Norm1-clause-weights : goal.slopes-requires-in-Norm1-clause-weights
slopes-requires-in-Norm1-clause-weights c = subst (HasWeights c.args.args.now c.args.weights.now) c.in-Norm1.is c.requires.weights

pub slopes-requires-in-NormInf-clause-weights : goal.slopes-requires-in-NormInf-clause-weights
slopes-requires-in-NormInf-clause-weights c = subst (HasWeights c.args.args.now c.args.weights.now) c.in-NormInf.is c.requires.weights

pub slopes-requires-in-SumLargest-clause-weights : goal.slopes-requires-in-SumLargest-clause-weights
slopes-requires-in-SumLargest-clause-weights c = subst (HasWeights c.args.args.now c.args.weights.now) c.in-SumLargest.is c.requires.weights

pub slopes-requires-in-SumSmallest-clause-weights : goal.slopes-requires-in-SumSmallest-clause-weights
slopes-requires-in-SumSmallest-clause-weights c = subst (HasWeights c.args.args.now c.args.weights.now) c.in-SumSmallest.is c.requires.weights

pub slopes-requires-in-CumMax-clause-weights : goal.slopes-requires-in-CumMax-clause-weights
slopes-requires-in-CumMax-clause-weights c = subst (HasWeights c.args.args.now c.args.weights.now) c.in-CumMax.is c.requires.weights

pub returns-in-MaxOf-clause-ok : goal.returns-in-MaxOf-clause-ok
returns-in-MaxOf-clause-ok c =
    subst (HasSlopes c.args.args.now c.args.coefficients.now c.args.weights.now c.slopes-in-MaxOf.result) (sym c.in-MaxOf.is) c.slopes-in-MaxOf.ensures.ok

pub returns-in-MinOf-clause-ok : goal.returns-in-MinOf-clause-ok
returns-in-MinOf-clause-ok c =
    subst (HasSlopes c.args.args.now c.args.coefficients.now c.args.weights.now c.slopes-in-MinOf.result) (sym c.in-MinOf.is) c.slopes-in-MinOf.ensures.ok

pub returns-in-Norm1-clause-ok : goal.returns-in-Norm1-clause-ok
returns-in-Norm1-clause-ok c =
    subst (HasSlopes c.args.args.now c.args.coefficients.now c.args.weights.now c.slopes-in-Norm1.result) (sym c.in-Norm1.is) c.slopes-in-Norm1.ensures.ok

pub returns-in-NormInf-clause-ok : goal.returns-in-NormInf-clause-ok
returns-in-NormInf-clause-ok c =
    subst (HasSlopes c.args.args.now c.args.coefficients.now c.args.weights.now c.slopes-in-NormInf.result) (sym c.in-NormInf.is) c.slopes-in-NormInf.ensures.ok

pub returns-in-SumLargest-clause-ok : goal.returns-in-SumLargest-clause-ok
returns-in-SumLargest-clause-ok c =
    subst (HasSlopes c.args.args.now c.args.coefficients.now c.args.weights.now c.slopes-in-SumLargest.result) (sym c.in-SumLargest.is) c.slopes-in-SumLargest.ensures.ok

pub returns-in-SumSmallest-clause-ok : goal.returns-in-SumSmallest-clause-ok
returns-in-SumSmallest-clause-ok c =
    subst (HasSlopes c.args.args.now c.args.coefficients.now c.args.weights.now c.slopes-in-SumSmallest.result) (sym c.in-SumSmallest.is) c.slopes-in-SumSmallest.ensures.ok

pub returns-in-CumMax-clause-ok : goal.returns-in-CumMax-clause-ok
returns-in-CumMax-clause-ok c =
    subst (HasSlopes c.args.args.now c.args.coefficients.now c.args.weights.now c.slopes-in-CumMax.result) (sym c.in-CumMax.is) c.slopes-in-CumMax.ensures.ok

pub returns-in-Maximum-clause-stop : goal.returns-in-Maximum-clause-stop
returns-in-Maximum-clause-stop c =
    subst (HasStop c.args.args.now c.args.coefficients.now c.args.weights.now c.slopes-in-Maximum.result) (sym c.in-Maximum.is) c.slopes-in-Maximum.ensures.stop

pub returns-in-Minimum-clause-stop : goal.returns-in-Minimum-clause-stop
returns-in-Minimum-clause-stop c =
    subst (HasStop c.args.args.now c.args.coefficients.now c.args.weights.now c.slopes-in-Minimum.result) (sym c.in-Minimum.is) c.slopes-in-Minimum.ensures.stop

pub returns-in-MaxOf-clause-stop : goal.returns-in-MaxOf-clause-stop
returns-in-MaxOf-clause-stop c =
    subst (HasStop c.args.args.now c.args.coefficients.now c.args.weights.now c.slopes-in-MaxOf.result) (sym c.in-MaxOf.is) c.slopes-in-MaxOf.ensures.stop

pub returns-in-MinOf-clause-stop : goal.returns-in-MinOf-clause-stop
returns-in-MinOf-clause-stop c =
    subst (HasStop c.args.args.now c.args.coefficients.now c.args.weights.now c.slopes-in-MinOf.result) (sym c.in-MinOf.is) c.slopes-in-MinOf.ensures.stop

pub returns-in-Norm1-clause-stop : goal.returns-in-Norm1-clause-stop
returns-in-Norm1-clause-stop c =
    subst (HasStop c.args.args.now c.args.coefficients.now c.args.weights.now c.slopes-in-Norm1.result) (sym c.in-Norm1.is) c.slopes-in-Norm1.ensures.stop

pub returns-in-NormInf-clause-stop : goal.returns-in-NormInf-clause-stop
returns-in-NormInf-clause-stop c =
    subst (HasStop c.args.args.now c.args.coefficients.now c.args.weights.now c.slopes-in-NormInf.result) (sym c.in-NormInf.is) c.slopes-in-NormInf.ensures.stop

pub returns-in-SumLargest-clause-stop : goal.returns-in-SumLargest-clause-stop
returns-in-SumLargest-clause-stop c =
    subst (HasStop c.args.args.now c.args.coefficients.now c.args.weights.now c.slopes-in-SumLargest.result) (sym c.in-SumLargest.is) c.slopes-in-SumLargest.ensures.stop

pub returns-in-SumSmallest-clause-stop : goal.returns-in-SumSmallest-clause-stop
returns-in-SumSmallest-clause-stop c =
    subst (HasStop c.args.args.now c.args.coefficients.now c.args.weights.now c.slopes-in-SumSmallest.result) (sym c.in-SumSmallest.is) c.slopes-in-SumSmallest.ensures.stop

pub returns-in-CumMax-clause-stop : goal.returns-in-CumMax-clause-stop
returns-in-CumMax-clause-stop c =
    subst (HasStop c.args.args.now c.args.coefficients.now c.args.weights.now c.slopes-in-CumMax.result) (sym c.in-CumMax.is) c.slopes-in-CumMax.ensures.stop
