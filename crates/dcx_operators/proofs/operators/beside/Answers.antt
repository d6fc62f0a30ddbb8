-- The choice between two values is that of the definition.
use Rattle.std.proofs.Common.{◌≡◌, Bool, IfOk, if◌then◌else◌, subst, sym, ◌∙◌}
use Rattle.dcx_script_values.specs.Kinds.{reading}
use Rattle.dcx_script_values.specs.Meant.{meant}
use Rattle.dcx_operators.specs.Operators.{with_expression, alike}
use Rattle.dcx_operators.specs.View.{pair_meant}
use Rattle.dcx_operators.proofs.operators.beside.Goals as goal

pub returns-then-has_expression : goal.returns-then-has_expression
returns-then-has_expression c =
    let v = meant c.args.left in
    let w = meant c.args.right in
    subst (λ (b : Bool). IfOk c.beside_expression.result (λ p. pair_meant p ≡ (if b then with_expression (reading v) (reading w) else alike v w)))
    (sym c.if-has_expression.true ∙ c.has_expression.ensures) c.beside_expression.ensures

pub returns : goal.returns
returns c =
    let v = meant c.args.left in
    let w = meant c.args.right in
    subst (λ (b : Bool). pair_meant c.alike.result ≡ (if b then with_expression (reading v) (reading w) else alike v w))
    (sym c.if-has_expression.false ∙ c.has_expression.ensures) c.alike.ensures
