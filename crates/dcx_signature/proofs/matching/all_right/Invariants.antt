-- What was passed over is right.
use Rattle.std.proofs.Common.{◌≡◌, map, drop}
use Rattle.std.specs.Prelude.{option_map}
use Rattle.dcx_shape.specs.Shape.{sides_of}
use Rattle.dcx_script_values.specs.Values.{State}
use Rattle.dcx_signature.specs.Arguments.{all_right}
use Rattle.dcx_signature.specs.View.{assignment_seen}
use Rattle.dcx_signature.proofs.matching.all_right.Given as goal

abbrev pub invariant-loop-argument : goal.invariant-loop-argument
invariant-loop-argument l = (s : State)
    → all_right (option_map sides_of l.x) (map assignment_seen (drop l.argument-index l.matches)) s ≡ all_right (option_map sides_of l.x) (map assignment_seen l.matches) s
