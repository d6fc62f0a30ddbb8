-- The parameters so far are shown by their names and shapes.
use Rattle.std.proofs.Common.{◌≡◌, map, take}
use Rattle.dcx_cert_sections.specs.Outlines.{shown}
use Rattle.dcx_cert_outline.proofs.drawing.parameters_of.Given as goal

abbrev pub invariant-loop-parameter : goal.invariant-loop-parameter
invariant-loop-parameter l = map shown l.list.items ≡ map (λ x. (x.name, x.shape)) (take l.parameter-index l.parameters)
