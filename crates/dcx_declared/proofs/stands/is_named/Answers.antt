-- A node declares the name where its call does.
use Rattle.dcx_declared.proofs.Standing.{call_named}
use Rattle.dcx_declared.proofs.stands.is_named.Goals as goal

pub returns : goal.returns
returns c = call_named c.args.tree.now c.args.name.now c.args.i c.call.result.now c.declares.result c.call.ensures c.declares.ensures
