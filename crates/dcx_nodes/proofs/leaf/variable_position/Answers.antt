-- The name is found, or passed.
use Rattle.std.proofs.Common.{refl, sym, zero-add}
use Rattle.std.proofs.lemmas.Bool.{false≢true}
use Rattle.dcx_nodes.proofs.Positions.{found, passed_more, not_found}
use Rattle.dcx_nodes.proofs.leaf.variable_position.Goals as goal

pub returns-then-same_name : goal.returns-then-same_name
returns-then-same_name c =
    found (λ x. x.name) c.args.variables.now c.args.name.now c.variables.position c.index-variables-position.result c.variables-test.true c.index-variables-position.is c.variables.invariant
    (c.if-same_name.ensures.0 refl)

pub variables-init : goal.variables-init
variables-init c = sym (zero-add _)

pub variables-preserved : goal.variables-preserved
variables-preserved c =
    passed_more (λ x. x.name) c.args.variables.now c.args.name.now c.variables.position c.index-variables-position.result c.variables-test.true c.index-variables-position.is c.variables.invariant
    (λ e. false≢true (c.if-same_name.ensures.1 e))

pub returns : goal.returns
returns c = not_found (λ x. x.name) c.args.variables.now c.args.name.now c.variables.position c.variables-test.false c.variables.auto.position-end c.variables.invariant
