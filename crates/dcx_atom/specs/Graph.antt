-- The graph of a nonlinear call as the code has it.
use Rattle.std.specs.Prelude.{◌≡◌, ℕ, List, map}
use Rattle.dcx_frac.specs.Frac.{value}
use Rattle.dcx_shape.specs.declared.shape.Sides.{Sides}
use Rattle.dcx_atom.specs.declared.graph.Graph.{Graph}
use Rattle.dcx_atom.specs.declared.graph.GraphRow.{GraphRow}
use Rattle.dcx_atom.specs.declared.graph.GraphTerm.{GraphTerm}
use Rattle.dcx_atom.specs.declared.graph.AuxTerm.{AuxTerm}
use Rattle.dcx_atom.specs.Arrays.{list_below, joined_below}
use Rattle.dcx_atom.specs.Rows.{RowTerm, Row, FormTerm}
use Rattle.dcx_atom.specs.Meaning.{Meaning}

-- the term with its coefficient as a number
abbrev pub row_term : GraphTerm → RowTerm
row_term x = record { operand = x.operand; coefficient = value x.coefficient }

-- the same of a term of a result
abbrev pub form_term : AuxTerm → FormTerm
form_term x = record { aux = x.aux; coefficient = value x.coefficient }

-- a row and the result entry that it belongs to
pub record PlacedRow : Type 0 where
  pub entry : ℕ
  pub row : Row

abbrev pub placed_row : GraphRow → PlacedRow
placed_row r = record { entry = r.entry; row = map row_term r.terms }

-- the rows of the first n result entries, in order
abbrev pub rows_below : ℕ → (ℕ → List Row) → List PlacedRow
rows_below n rows = joined_below n (λ j. map (λ row. record { entry = j; row = row }) (rows j))

-- the graph has the unknowns, rows and results of the call, in order
pub record IsGraphOf (m : Meaning) (args : List Sides) (size : ℕ) (g : Graph) : Type 0 where
  pub kinds : g.aux ≡ m.kinds args
  pub rows : map placed_row g.rows ≡ rows_below size (m.rows args)
  pub results : map (map form_term) g.results ≡ list_below size (m.result args)
