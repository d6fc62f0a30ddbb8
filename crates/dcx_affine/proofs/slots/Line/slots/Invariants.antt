-- The lines of the arguments so far stand in the list.
use Rattle.std.proofs.Common.{◌≡◌, take}
use Rattle.dcx_atom.specs.Arrays.{sides_list}
use Rattle.dcx_affine.specs.Joined.{lined_up}
use Rattle.dcx_affine.proofs.slots.Line.slots.Given as goal

abbrev pub invariant-loop-i : goal.invariant-loop-i
invariant-loop-i l = l.slots.items ≡ lined_up l.self 0 (sides_list (take l.i l.args))
