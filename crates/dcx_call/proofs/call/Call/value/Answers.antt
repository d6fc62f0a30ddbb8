-- The value of the call that it is.
use Rattle.std.proofs.Common.{IfOk, IfErr, IfSome, sym, subst}
use Rattle.std.proofs.lemmas.Result.{IfOk-weaker, IfErr-weaker}
use Rattle.dcx_shape.specs.Sides.{entries_of}
use Rattle.dcx_atom.specs.Arrays.{array_sides}
use Rattle.dcx_call.specs.Atoms.{atom_meaning}
use Rattle.dcx_call.specs.Calls.{shape_of}
use Rattle.dcx_call.specs.Values.{IsValue, IsValueStop}
use Rattle.dcx_call.proofs.Entries.{some_weaker}
use Rattle.dcx_call.proofs.CallValues.{atom_stops}
use Rattle.dcx_call.proofs.call.Call.value.Goals as goal

pub returns-in-Atom-clause-stop : goal.returns-in-Atom-clause-stop
returns-in-Atom-clause-stop c =
    let s = c.args.setting.now in
    let p = c.args.point.now in
    let args = c.args.args.now in
    subst (λ call. IfErr c.value.result (λ e. IfSome (shape_of call (array_sides args)) (λ sides. IsValueStop call s p args (entries_of sides) e))) (sym c.in-Atom.is)
    (IfErr-weaker c.value.result _ _
    (λ e h. some_weaker ((atom_meaning c.in-Atom.atom).shape (array_sides args)) (λ sides k. atom_stops c.in-Atom.atom args (entries_of sides) e k s p) h) c.value.ensures.stop)

pub returns-in-Linear-clause-ok : goal.returns-in-Linear-clause-ok
returns-in-Linear-clause-ok c =
    let s = c.args.setting.now in
    let p = c.args.point.now in
    subst (λ call. IfOk c.linear_value.result (IsValue call s p c.args.args.now)) (sym c.in-Linear.is) (IfOk-weaker c.linear_value.result _ _ (λ v h. h s p) c.linear_value.ensures.ok)

pub returns-in-Pairing-clause-ok : goal.returns-in-Pairing-clause-ok
returns-in-Pairing-clause-ok c =
    let s = c.args.setting.now in
    let p = c.args.point.now in
    subst (λ call. IfOk c.pairing_value.result (IsValue call s p c.args.args.now)) (sym c.in-Pairing.is) (IfOk-weaker c.pairing_value.result _ _ (λ v h. h s p) c.pairing_value.ensures.ok)
