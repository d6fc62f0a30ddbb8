-- The signs that are left.
use Rattle.std.proofs.Common.{◌≡◌, ◌≤◌, take, length}
use Rattle.dcx_script_values.specs.Meant.{meant}
use Rattle.dcx_elab.specs.Expressions.{signed}
use Rattle.dcx_elab.proofs.leaves.signed.Given as goal

abbrev pub invariant-loop-left : goal.invariant-loop-left
invariant-loop-left l = (signed l.signs (meant l.initial.value) l.initial.state ≡ signed (take l.left l.signs) (meant l.value) l.state) × (l.left ≤ length l.signs)

abbrev pub decreases-loop-left : goal.decreases-loop-left
decreases-loop-left l = l.left
