-- The parts of an outline, as lists of pairs.
use Rattle.std.specs.Prelude.{ℕ, List, map}
use Rattle.dcx_shape.specs.declared.shape.Shape.{Shape}
use Rattle.dcx_cert_sections.specs.declared.outline.Shown.{Shown}
use Rattle.dcx_cert_sections.specs.declared.outline.AtomRows.{AtomRows}
use Rattle.dcx_cert_sections.specs.Shown.{Outline}

-- a name and a shape
abbrev pub shown : Shown → List ℕ × Shape
shown s = (s.name, s.shape)

-- a node and a number of rows
abbrev pub rows_shown : AtomRows → ℕ × ℕ
rows_shown a = (a.node.0, a.rows)

-- the outline of these parts
abbrev pub outline_of : List Shown → List Shown → List Shape → List AtomRows → Outline
outline_of parameters variables constraints atoms = record {
  parameters = map shown parameters;
  variables = map shown variables;
  constraints = constraints;
  atoms = map rows_shown atoms;
}
