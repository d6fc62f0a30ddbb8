-- The lines so far are summed.
use Rattle.std.proofs.Common.{◌≡◌, ◌≤◌, take}
use Rattle.dcx_atom.specs.Arrays.{sides_list}
use Rattle.dcx_affine.specs.Joined.{all_lines}
use Rattle.dcx_affine.proofs.slots.Line.total.Given as goal

abbrev pub invariant-loop-shape : goal.invariant-loop-shape
invariant-loop-shape l = record {
  sum : l.total ≡ all_lines l.self (sides_list (take l.shape-index l.args));
  most : l.total ≤ 20000;
}
