-- The laws of expressions.
use Rattle.dcx_script_laws.proofs.Bound.{expressions_hold}
use Rattle.dcx_script_laws.proofs.bindings.expressions.Goals as goal

pub returns : goal.returns
returns c = expressions_hold
