-- The pair is that of the definition.
use Rattle.std.proofs.Common.{subst}
use Rattle.dcx_script_values.specs.Meant.{meant}
use Rattle.dcx_script_values.specs.View.{Gives}
use Rattle.dcx_operators.specs.Operators.{Pair, added_pair}
use Rattle.dcx_operators.proofs.operators.add_values.Goals as goal

pub returns : goal.returns
returns c =
    subst (λ (p : Pair). Gives meant c.pair_added.result c.pair_added.new.state (added_pair c.args.sign c.args.place p c.args.state.now)) c.in_ok-pair.ensures c.pair_added.ensures
