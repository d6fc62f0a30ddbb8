-- The entries of the pairing that it is.
use Rattle.std.proofs.Common.{IfOk, IfErr, sym, subst}
use Rattle.dcx_shape.specs.Shape.{sides_of}
use Rattle.dcx_atom.specs.Arrays.{number_at}
use Rattle.dcx_affine.specs.Pairing.{pairs_at}
use Rattle.dcx_call.specs.Forming.{AreFormed, IsStop}
use Rattle.dcx_call.specs.Values.{pairing_formed}
use Rattle.dcx_call.proofs.value.paired.Goals as goal

pub returns-in-MatTimes-clause-ok : goal.returns-in-MatTimes-clause-ok
returns-in-MatTimes-clause-ok c =
    let l = c.args.left.now in
    let r = c.args.right.now in
    subst (λ p. IfOk c.multiply_all-in-MatTimes.result
    (AreFormed (λ j. pairing_formed p (pairs_at p (sides_of l.shape) (sides_of r.shape) j) (number_at l.entries) (number_at r.entries) j) c.args.size))
    (sym c.in-MatTimes.is) c.multiply_all-in-MatTimes.ensures.ok

pub returns-in-MatTimes-clause-stop : goal.returns-in-MatTimes-clause-stop
returns-in-MatTimes-clause-stop c =
    let l = c.args.left.now in
    let r = c.args.right.now in
    subst (λ p. IfErr c.multiply_all-in-MatTimes.result (IsStop (λ j. pairing_formed p (pairs_at p (sides_of l.shape) (sides_of r.shape) j) (number_at l.entries) (number_at r.entries) j) c.args.size))
    (sym c.in-MatTimes.is) c.multiply_all-in-MatTimes.ensures.stop
