-- The name is found, or passed.
use Rattle.std.proofs.Common.{refl, sym, zero-add}
use Rattle.std.proofs.lemmas.Bool.{false≢true}
use Rattle.dcx_nodes.proofs.Positions.{found, passed_more, not_found}
use Rattle.dcx_nodes.proofs.leaf.parameter_position.Goals as goal

pub returns-then-same_name : goal.returns-then-same_name
returns-then-same_name c =
    found (λ x. x.name) c.args.parameters.now c.args.name.now c.parameters.position c.index-parameters-position.result c.parameters-test.true c.index-parameters-position.is c.parameters.invariant
    (c.if-same_name.ensures.0 refl)

pub parameters-init : goal.parameters-init
parameters-init c = sym (zero-add _)

pub parameters-preserved : goal.parameters-preserved
parameters-preserved c =
    passed_more (λ x. x.name) c.args.parameters.now c.args.name.now c.parameters.position c.index-parameters-position.result c.parameters-test.true c.index-parameters-position.is
    c.parameters.invariant (λ e. false≢true (c.if-same_name.ensures.1 e))

pub returns : goal.returns
returns c = not_found (λ x. x.name) c.args.parameters.now c.args.name.now c.parameters.position c.parameters-test.false c.parameters.auto.position-end c.parameters.invariant
