-- The lines so far are appended.
use Rattle.std.proofs.Common.{◌≡◌, ◌++◌}
use Rattle.dcx_atom.specs.Arrays.{list_below}
use Rattle.dcx_affine.proofs.slots.push_slots.Given as goal

abbrev pub invariant-loop-place : goal.invariant-loop-place
invariant-loop-place l = l.slots.items ≡ l.fn.slots.items ++ list_below l.place (λ e. record { argument = l.argument; place = e })
