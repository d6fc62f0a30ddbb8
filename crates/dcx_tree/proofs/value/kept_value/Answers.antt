-- What is kept is there.
use Rattle.std.proofs.Common.{◌∙◌, sym, arith}
use Rattle.dcx_tree.proofs.Forming.{kept_at, some_within}
use Rattle.dcx_tree.proofs.value.kept_value.Goals as goal

pub bounds-arrays-node : goal.bounds-arrays-node
bounds-arrays-node c = some_within c.args.arrays.now c.args.node.0 c.requires

pub offset_bounds-arrays-node : goal.offset_bounds-arrays-node
offset_bounds-arrays-node c = let b = some_within c.args.arrays.now c.args.node.0 c.requires in omega (arith, b)

pub returns : goal.returns
returns c = sym (kept_at c.args.arrays.now c.args.node.0 c.index-arrays-node.result c.requires c.index-arrays-node.is) ∙ c.in-Some.is
