-- The variables so far are shown by their names and shapes.
use Rattle.std.proofs.Common.{◌≡◌, map, take}
use Rattle.dcx_cert_sections.specs.Outlines.{shown}
use Rattle.dcx_cert_outline.proofs.drawing.variables_of.Given as goal

abbrev pub invariant-loop-variable : goal.invariant-loop-variable
invariant-loop-variable l = map shown l.list.items ≡ map (λ x. (x.name, x.shape)) (take l.variable-index l.variables)
