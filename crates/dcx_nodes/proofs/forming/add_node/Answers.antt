-- The node is formed with its own arguments.
use Rattle.std.proofs.Common.{ap, ◌∙◌}
use Rattle.dcx_arena.specs.Nodes.{positions}
use Rattle.dcx_nodes.proofs.forming.add_node.Goals as goal

pub add_formed-requires-clause-ids : goal.add_formed-requires-clause-ids
add_formed-requires-clause-ids g c = ap positions c.deref.ensures.value ∙ c.in-Ok.ensures

pub returns-in-Ok : goal.returns-in-Ok
returns-in-Ok g c =
    let made = c.add_formed.ensures in
    record { formed = made.formed; stop = made.stop }
