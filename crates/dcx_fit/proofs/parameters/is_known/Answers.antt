-- A name that the parameter at this position has is one that some parameter has.
use Rattle.std.proofs.Common.{sym, ◌∙◌}
use Rattle.dcx_fit.proofs.Names.{found_at}
use Rattle.dcx_fit.proofs.parameters.is_known.Goals as goal

pub returns-then-eq : goal.returns-then-eq
returns-then-eq c = found_at c.args.parameters.now c.args.name.now c.args.k c.index-parameters-k.result c.if-k-parameters.true (sym c.eq.ensures ∙ c.if-eq.true)
