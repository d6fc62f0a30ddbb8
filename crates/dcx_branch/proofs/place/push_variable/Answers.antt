-- A variable has few entries.
use Rattle.std.proofs.Common.{length, ap, ◌∙◌, arith}
use Rattle.std.proofs.lemmas.List.FromFn.{length-map-range_with_len}
use Rattle.dcx_shape.specs.Sides.{entries_of}
use Rattle.dcx_unknowns.specs.Unknowns.{sides_in, unknown_from}
use Rattle.dcx_branch.proofs.place.push_variable.Goals as goal

pub push_entries-requires : goal.push_entries-requires
push_entries-requires c =
    let v = c.args.variable.now in
    let most = v.shape.few.most in
    let count = ap length (c.deref.ensures.value ∙ c.in_ok-unknowns-in-Integer.ensures) ∙ length-map-range_with_len (unknown_from c.args.first v) 0 (entries_of (sides_in v)) in
    omega (arith, most, count)
