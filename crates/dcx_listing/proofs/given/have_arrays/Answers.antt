-- Each parameter is tested.
use Rattle.std.proofs.Common.{refl, subst}
use Rattle.std.proofs.lemmas.List.Elements.{All-more}
use Rattle.dcx_shape.specs.Shape.{sides_of}
use Rattle.dcx_call.specs.declared.attribute.Parameter.{Parameter}
use Rattle.dcx_call.specs.Values.{HasArray}
use Rattle.dcx_domain.proofs.Variables.{all_taken}
use Rattle.dcx_listing.proofs.given.have_arrays.Goals as goal

pub parameters-preserved : goal.parameters-preserved
parameters-preserved c =
    All-more (λ (q : Parameter). HasArray c.args.setting.now q.name (sides_of q.shape)) c.args.parameters.now c.parameters.parameter-index c.parameter-item.result c.parameters-test.true
    c.parameters.invariant
    (subst (λ (q : Parameter). HasArray c.args.setting.now q.name (sides_of q.shape)) c.parameter-item.is (c.has_array.ensures.0 c.if-not-has_array.false))

pub returns : goal.returns
returns c = (
  (λ e. all_taken (λ (q : Parameter). HasArray c.args.setting.now q.name
      (sides_of q.shape)) c.args.parameters.now c.parameters.parameter-index c.parameters-test.false c.parameters.invariant),
  (λ h. refl),
)
