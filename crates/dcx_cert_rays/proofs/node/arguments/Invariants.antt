-- The arrays of the arguments so far.
use Rattle.std.proofs.Common.{◌≡◌, ℕ, length, Some, slice_get}
use Rattle.dcx_atom.specs.declared.array.Array.{Array}
use Rattle.dcx_arena.specs.Nodes.{positions}
use Rattle.dcx_cert_rays.specs.Steepness.{is_side, IsArgument}
use Rattle.dcx_cert_rays.proofs.node.arguments.Given as goal

abbrev pub invariant-loop-k : goal.invariant-loop-k
invariant-loop-k l = record {
  count : length l.args.items ≡ l.k;
  each : (k a : ℕ) (v : Array) → slice_get (positions l.ids) k ≡ Some a → slice_get l.args.items k ≡ Some v → IsArgument l.along.problem.now l.along.setting.now l.along.ray.now (is_side l.side k) a v;
}
