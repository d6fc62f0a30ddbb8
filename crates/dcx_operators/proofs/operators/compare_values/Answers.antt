-- The comparison is offered, and the pair is that of the definition.
use Rattle.std.proofs.Common.{Bool, subst, sym, ◌∙◌}
use Rattle.dcx_script_values.specs.Meant.{meant}
use Rattle.dcx_script_values.specs.View.{Gives}
use Rattle.dcx_script_values.specs.Values.{◌>>◌, unless}
use Rattle.dcx_script_values.specs.declared.fault.ElabFault.TheVariants.{NotOffered}
use Rattle.dcx_operators.specs.Operators.{Pair, compared_pair, beside}
use Rattle.dcx_operators.proofs.operators.compare_values.Goals as goal

pub returns : goal.returns
returns c =
    let same = subst (λ (p : Pair). Gives meant c.pair_compared.result c.pair_compared.new.state (compared_pair c.args.comparison c.args.place p c.args.state.now))
    c.in_ok-pair.ensures c.pair_compared.ensures in
    subst (λ (b : Bool). Gives meant c.pair_compared.result c.pair_compared.new.state
    ((unless (NotOffered c.args.place) b >> compared_pair c.args.comparison c.args.place (beside (meant c.args.left) (meant c.args.right))) c.args.state.now))
    (sym c.if-not-is_offered.false ∙ c.is_offered.ensures) same
