-- One more node is known.
use Rattle.std.proofs.Common.{◌<◌, length, get_or, below_more}
use Rattle.dcx_tree.proofs.Forming.{each_id}
use Rattle.dcx_cert_rays.specs.Steepness.{IsKnown}
use Rattle.dcx_cert_rays.proofs.Tables.{all_known}
use Rattle.dcx_cert_rays.proofs.table.are_known.Goals as goal

pub is_known-requires-clause-there : goal.is_known-requires-clause-there
is_known-requires-clause-there c = each_id (λ a. a < length c.args.along.now.problem.now.tree) c.args.nodes.now c.loop-node.node-index c.requires.there c.loop-node-test.true

pub loop-node-preserved : goal.loop-node-preserved
loop-node-preserved c =
    below_more (λ k. k < length c.args.nodes.now → IsKnown c.args.along.now.problem.now c.args.arrays.now (get_or c.args.nodes.now k (record { 0 = 0 })).0) c.loop-node.node-index c.loop-node.invariant
    (λ b. c.is_known.ensures c.if-not-is_known.false)

pub returns : goal.returns
returns c = λ t. all_known c.args.along.now.problem.now c.args.along.now.setting.now c.args.along.now.ray.now c.args.arrays.now c.args.nodes.now c.loop-node.node-index c.loop-node-test.false
    c.loop-node.invariant
