-- The entries are the sums of the terms that the call lists.
use Rattle.std.proofs.Common.{◌∙◌, subst}
use Rattle.std.proofs.lemmas.Result.{err_from_is_err_and}
use Rattle.dcx_shape.specs.Shape.{sides_of}
use Rattle.dcx_shape.specs.Sides.{entries_of}
use Rattle.dcx_atom.specs.Arrays.{array_sides}
use Rattle.dcx_point.specs.Pairs.{Pairs}
use Rattle.dcx_call.specs.declared.call.Call.TheVariants as calls
use Rattle.dcx_call.specs.Linears.{linear_meaning}
use Rattle.dcx_call.specs.Forming.{AreFormed, IsStop}
use Rattle.dcx_call.specs.Values.{IsValueStop}
use Rattle.dcx_call.proofs.Entries.{formed_count, fact_some}
use Rattle.dcx_call.proofs.CallValues.{listed, shape_found, shape_there, terms_found, linear_is, linear_stops}
use Rattle.dcx_call.proofs.value.linear_value.Goals as goal

pub unwrap-shape-requires : goal.unwrap-shape-requires
unwrap-shape-requires c =
    shape_there c.args.op.now c.args.args.now c.in-Ok.shapes.items c.deref.result.now c.shape.result c.in-Ok.ensures c.deref.ensures.value c.shape.ensures c.requires

pub invariant_of-result : goal.invariant_of-result
invariant_of-result c = record {
  full = formed_count (listed c.args.op.now c.args.args.now c.as_slice.result.now) c.size.result c.in_ok-entries.entries c.in_ok-entries.ensures.ok ∙ c.size.ensures.value;
}

pub returns-in_err-entries-clause-stop : goal.returns-in_err-entries-clause-stop
returns-in_err-entries-clause-stop c =
    let r = err_from_is_err_and c.from_residual.result c.from_residual.ensures.1 in
    let l = c.args.op.now in
    let args = c.args.args.now in
    let shape = shape_found l args c.in-Ok.shapes.items c.deref.result.now c.shape.result c.unwrap-shape.result c.in-Ok.ensures c.deref.ensures.value c.shape.ensures c.unwrap-shape.ensures in
    let terms = terms_found l args c.in-Ok.shapes.items c.deref-2.result.now c.unwrap-shape.result c.in-Ok-map.terms c.in-Ok.ensures c.deref-2.ensures.value shape c.in-Ok-map.ensures in
    let stop = subst (λ ts. IsStop (listed l args ts) c.size.result c.in_err-entries.field-0.0) c.as_slice.ensures c.in_err-entries.ensures.stop in
    rw (r.1, r.2) (fact_some (λ s. (setting point : Pairs) → IsValueStop (calls.Linear l) setting point args (entries_of s) c.in_err-entries.field-0.0)
    ((linear_meaning l).shape (array_sides args)) (sides_of c.unwrap-shape.result) shape
    (linear_stops l args (entries_of (sides_of c.unwrap-shape.result)) c.in-Ok-map.terms c.in_err-entries.field-0.0 terms
    (subst (λ n. IsStop (listed l args c.in-Ok-map.terms) n c.in_err-entries.field-0.0) c.size.ensures.value stop)))

pub returns-clause-ok : goal.returns-clause-ok
returns-clause-ok c =
    let l = c.args.op.now in
    let args = c.args.args.now in
    let shape = shape_found l args c.in-Ok.shapes.items c.deref.result.now c.shape.result c.unwrap-shape.result c.in-Ok.ensures c.deref.ensures.value c.shape.ensures c.unwrap-shape.ensures in
    let terms = terms_found l args c.in-Ok.shapes.items c.deref-2.result.now c.unwrap-shape.result c.in-Ok-map.terms c.in-Ok.ensures c.deref-2.ensures.value shape c.in-Ok-map.ensures in
    let formed = subst (λ ts. AreFormed (listed l args ts) c.size.result c.in_ok-entries.entries) c.as_slice.ensures c.in_ok-entries.ensures.ok in
    linear_is l args _ c.in-Ok-map.terms shape terms
    (subst (λ n. AreFormed (listed l args c.in-Ok-map.terms) n c.in_ok-entries.entries) c.size.ensures.value formed)
