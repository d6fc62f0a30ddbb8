-- The value is made of the only argument.
use Rattle.std.proofs.Common.{◌∙◌, sym, ap, refl, length}
use Rattle.std.proofs.lemmas.List.{length-map}
use Rattle.dcx_frac.specs.Frac.{value}
use Rattle.dcx_atom.proofs.BoundRows.{length-list_below}
use Rattle.dcx_fold.proofs.RunningCalls.{running_value_is}
use Rattle.dcx_fold.proofs.cummax.CumMaxAtom.value.Goals as goal

pub invariant_of-result : goal.invariant_of-result
invariant_of-result c = record {
  full = sym (length-map c.in-Ok.entries value) ∙ ap length c.in-Ok.ensures ∙ length-list_below (length c.as_slice.result.now) _ ∙ ap length c.as_slice.ensures ∙ c.index-args-0.result.full;
}

pub returns-in-Ok-clause-ok : goal.returns-in-Ok-clause-ok
returns-in-Ok-clause-ok c = running_value_is c.args.args.now c.index-args-0.result _ c.as_slice.result.now c.requires c.index-args-0.is c.as_slice.ensures refl c.in-Ok.ensures
