-- The entries are those of the two arguments.
use Rattle.std.proofs.Common.{◌≡◌, ◌∙◌, Some, option_map, sym, ap, subst}
use Rattle.std.proofs.lemmas.Result.{err_from_is_err_and}
use Rattle.dcx_shape.specs.Shape.{sides_of}
use Rattle.dcx_shape.specs.Sides.{entries_of}
use Rattle.dcx_atom.specs.Arrays.{number_at, array_sides}
use Rattle.dcx_affine.specs.Pairing.{pairs_at}
use Rattle.dcx_point.specs.Pairs.{Pairs}
use Rattle.dcx_call.specs.declared.call.Call.TheVariants as calls
use Rattle.dcx_call.specs.Calls.{sides_of_two}
use Rattle.dcx_call.specs.Forming.{AreFormed, IsStop}
use Rattle.dcx_call.specs.Values.{pairing_formed, IsValueStop}
use Rattle.dcx_call.proofs.Entries.{Forming, formed_count, fact_some}
use Rattle.dcx_call.proofs.CallValues.{two_sides, pairing_is, pairing_stops}
use Rattle.dcx_call.proofs.value.pairing_value.Goals as goal

pub invariant_of-result : goal.invariant_of-result
invariant_of-result c =
    let l = c.index-args-0.result in
    let r = c.index-args-1.result in
    let p = c.args.pairing in
    let told : Forming = λ j. pairing_formed p (pairs_at p (sides_of l.shape) (sides_of r.shape) j) (number_at l.entries) (number_at r.entries) j in
    record { full = formed_count told c.size.result c.in_ok-entries.entries c.in_ok-entries.ensures.ok ∙ c.size.ensures.value }

pub returns-in_err-entries-clause-stop : goal.returns-in_err-entries-clause-stop
returns-in_err-entries-clause-stop c =
    let e = err_from_is_err_and c.from_residual.result c.from_residual.ensures.1 in
    let l = c.index-args-0.result in
    let r = c.index-args-1.result in
    let p = c.args.pairing in
    let args = c.args.args.now in
    let told : Forming = λ j. pairing_formed p (pairs_at p (sides_of l.shape) (sides_of r.shape) j) (number_at l.entries) (number_at r.entries) j in
    let shape : sides_of_two p (array_sides args) ≡ Some (sides_of c.unwrap-shape.result) =
    two_sides p args l r c.requires c.index-args-0.is c.index-args-1.is ∙ sym c.shape.ensures ∙ ap (option_map sides_of) c.unwrap-shape.ensures in
    rw (e.1, e.2) (fact_some (λ s. (setting point : Pairs) → IsValueStop (calls.Pairing p) setting point args (entries_of s) c.in_err-entries.field-0.0)
    (sides_of_two p (array_sides args)) (sides_of c.unwrap-shape.result) shape
    (pairing_stops p args l r c.requires c.index-args-0.is c.index-args-1.is (entries_of (sides_of c.unwrap-shape.result)) c.in_err-entries.field-0.0
    (subst (λ n. IsStop told n c.in_err-entries.field-0.0) c.size.ensures.value c.in_err-entries.ensures.stop)))

pub returns-clause-ok : goal.returns-clause-ok
returns-clause-ok c =
    let l = c.index-args-0.result in
    let r = c.index-args-1.result in
    let p = c.args.pairing in
    let told : Forming = λ j. pairing_formed p (pairs_at p (sides_of l.shape) (sides_of r.shape) j) (number_at l.entries) (number_at r.entries) j in
    pairing_is p c.args.args.now l r c.requires c.index-args-0.is c.index-args-1.is _ (sym c.shape.ensures ∙ ap (option_map sides_of) c.unwrap-shape.ensures)
    (subst (λ n. AreFormed told n c.in_ok-entries.entries) c.size.ensures.value c.in_ok-entries.ensures.ok)
