-- A name that the problem has is declared by some node.
use Rattle.dcx_declared.proofs.Standing.{reached}
use Rattle.dcx_declared.proofs.stands.place_of.Goals as goal

pub unreachable-requires : goal.unreachable-requires
unreachable-requires c = reached c.args.problem.now c.args.name.now c.requires (c.in_default.ensures {u = tt})
