-- The value is made place by place.
use Rattle.std.proofs.Common.{◌∙◌, sym, ap, length}
use Rattle.std.proofs.lemmas.List.{length-map}
use Rattle.dcx_frac.specs.Frac.{value}
use Rattle.dcx_shape.specs.Shape.{sides_of}
use Rattle.dcx_shape.specs.Sides.{entries_of}
use Rattle.dcx_atom.specs.declared.array.Array.{Array}
use Rattle.dcx_atom.proofs.BoundRows.{length-list_below}
use Rattle.dcx_elem.proofs.ExtremeSteps.{sizes_at, value_at}
use Rattle.dcx_elem.proofs.extremes.ExtremeAtom.value.Goals as goal

pub extreme_entries-requires-clause-sizes : goal.extreme_entries-requires-clause-sizes
extreme_entries-requires-clause-sizes c =
    sizes_at c.args.self.now.count c.args.args.now c.index-args-0.result c.size.result c.requires c.index-args-0.is
    (c.size.ensures.value ∙ ap (λ (z : Array). entries_of (sides_of z.shape)) (sym c.index-args-0.is))

pub invariant_of-result : goal.invariant_of-result
invariant_of-result c = record { full = sym (length-map c.in-Ok.entries value) ∙ ap length c.in-Ok.ensures ∙ length-list_below c.size.result _ ∙ c.size.ensures.value }

pub returns-in-Ok-clause-ok : goal.returns-in-Ok-clause-ok
returns-in-Ok-clause-ok c =
    value_at c.args.self.now.bend c.args.self.now.count c.args.args.now c.index-args-0.result _ c.size.result c.requires c.index-args-0.is
    (c.size.ensures.value ∙ ap (λ (z : Array). entries_of (sides_of z.shape)) (sym c.index-args-0.is)) (ap (λ (z : Array). z.shape) (sym c.index-args-0.is)) c.in-Ok.ensures
