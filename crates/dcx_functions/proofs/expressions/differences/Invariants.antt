-- The differences that are left, taken of the node so far, are all of them, taken of the first node.
use Rattle.std.proofs.Common.{◌≡◌, ◌-◌}
use Rattle.dcx_functions.specs.Calls.{differences}
use Rattle.dcx_functions.proofs.expressions.differences.Given as goal

abbrev pub invariant-loop-done : goal.invariant-loop-done
invariant-loop-done l = differences l.place (l.count - l._done) l.node.0 l.state ≡ differences l.place l.count l.initial.node.0 l.initial.state
