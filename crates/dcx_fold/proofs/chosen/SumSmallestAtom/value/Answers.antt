-- The value is that of the call that is shared.
use Rattle.std.proofs.Common.{subst, IfOk, IfErr, IfSome}
use Rattle.dcx_shape.specs.Sides.{entries_of}
use Rattle.dcx_atom.specs.Arrays.{array_sides}
use Rattle.dcx_atom.specs.Value.{IsValueOf, IsValueStop}
use Rattle.dcx_fold.specs.declared.chosen.Largest.{Largest}
use Rattle.dcx_fold.specs.Largest.{chosen_sides, largest_meaning}
use Rattle.dcx_fold.proofs.chosen.SumSmallestAtom.value.Goals as goal

pub returns-clause-ok : goal.returns-clause-ok
returns-clause-ok c = subst (λ (x : Largest). IfOk c.value.result (IsValueOf (largest_meaning x.bend x.k) c.args.args.now)) c.largest.ensures c.value.ensures.ok

pub returns-clause-stop : goal.returns-clause-stop
returns-clause-stop c =
    let args = c.args.args.now in
    subst (λ (x : Largest). IfErr c.value.result (λ e. IfSome (chosen_sides x.k (array_sides args)) (λ s. IsValueStop (largest_meaning x.bend x.k) args (entries_of s) e)))
    c.largest.ensures c.value.ensures.stop
