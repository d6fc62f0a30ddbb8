-- The weights of atoms: the multipliers of the rows of their graphs, formed in the order of the rows, up to the first that passes
-- 128 bits.
use Rattle.std.specs.Prelude.{◌≡◌, ℕ, Bool, nat_eq, if◌then◌else◌, List, map, Option, Some, None, Result, Ok}
use Rattle.std.specs.List.{list_any, filter_map, zip}
use Rattle.dcx_frac.specs.declared.fraction.Frac.{Frac}
use Rattle.dcx_frac.specs.declared.fraction.Passes.{Passes}
use Rattle.dcx_atom.specs.Formed.{and_then}
use Rattle.dcx_arena.specs.declared.node.NodeId.{NodeId}
use Rattle.dcx_linear.specs.declared.row.RowKind.TheVariants.{AtMost}
use Rattle.dcx_lp_answer.specs.declared.answer.LpStatus.{LpStatus}
use Rattle.dcx_lp_answer.specs.declared.answer.RowNote.{RowNote}
use Rattle.dcx_lp_answer.specs.Multipliers.{multiplier_of}
use Rattle.dcx_cert_sections.specs.declared.weights.NodeWeights.{NodeWeights}
use Rattle.dcx_cert_sections.specs.declared.outline.AtomRows.{AtomRows}
use Rattle.dcx_graph.specs.declared.origin.Origin.{Origin}
use Rattle.dcx_graph.specs.declared.origin.Origin.TheVariants as origins
use Rattle.dcx_cert_build.specs.declared.forming.RowWeight.{RowWeight}

-- the multiplier of a row of a graph, which says that its form is at most 0
abbrev pub graph_multiplier : LpStatus → RowNote → Result Frac Passes
graph_multiplier status note = multiplier_of status AtMost note

-- ---- row after row
-- node i is that of one of these atoms
abbrev pub is_listed : List (ℕ × ℕ) → ℕ → Bool
is_listed atoms i = list_any (λ a. nat_eq a.0 i) atoms

-- the weight of a row of node i, whose multiplier is formed
abbrev pub weight_of : NodeId → Result Frac Passes → Result (Option RowWeight) Passes
weight_of node multiplier = and_then multiplier (λ x. Ok (Some (record { node = node; number = x })))

-- what forming the weight of a row answers: a row of the graph of one of these atoms has its multiplier, and no other row has any
abbrev pub row_weight : List (ℕ × ℕ) → LpStatus → Origin → RowNote → Result (Option RowWeight) Passes
row_weight atoms status (origins.Constraint k e) note = Ok None
row_weight atoms status (origins.Graph node e k) note =
    if is_listed atoms node.0 then weight_of node (graph_multiplier status note) else Ok None

-- the same of rows that come from here, of which this is kept, in order
abbrev pub row_weights : List (ℕ × ℕ) → LpStatus → List Origin → List RowNote → List (Result (Option RowWeight) Passes)
row_weights atoms status from notes = map (λ r. row_weight atoms status r.0 r.1) (zip from notes)

-- ---- atom after atom
-- the number of a weight, where it is that of a row of the graph of node i
abbrev pub number_for : ℕ → Option RowWeight → Option Frac
number_for i None = None
number_for i (Some w) = if nat_eq w.node.0 i then Some w.number else None

-- those of some rows
abbrev pub numbers_for : List (Option RowWeight) → ℕ → List Frac
numbers_for rows i = filter_map (number_for i) rows

-- the numbers of a node, told and among those of some rows
abbrev pub node_numbers : NodeWeights → ℕ × List Frac
node_numbers w = (w.node.0, w.numbers)

abbrev pub atom_numbers : List (Option RowWeight) → AtomRows → ℕ × List Frac
atom_numbers rows a = (a.node.0, numbers_for rows a.node.0)

-- what is kept of a row, where the row is one of the graph of node i
abbrev pub note_of : ℕ → Origin × RowNote → Option RowNote
note_of i (origins.Constraint k e, note) = None
note_of i (origins.Graph node e k, note) = if nat_eq node.0 i then Some note else None

-- the multipliers of the rows of the graph of node i, in order
abbrev pub node_multipliers : LpStatus → List Origin → List RowNote → ℕ → List (Result Frac Passes)
node_multipliers status from notes i = map (graph_multiplier status) (filter_map (note_of i) (zip from notes))

-- the weights of a node, and the multipliers that they have to be
abbrev pub formed_weights : NodeWeights → ℕ × List (Result Frac Passes)
formed_weights w = (w.node.0, map Ok w.numbers)

abbrev pub atom_multipliers : LpStatus → List Origin → List RowNote → ℕ × ℕ → ℕ × List (Result Frac Passes)
atom_multipliers status from notes a = (a.0, node_multipliers status from notes a.0)

-- the weights are those of these atoms, in order: the numbers of each are the multipliers of the rows of its graph, in order
abbrev pub AreWeights : List (ℕ × ℕ) → LpStatus → List Origin → List RowNote → List NodeWeights → Type 0
AreWeights atoms status from notes weights = map formed_weights weights ≡ map (atom_multipliers status from notes) atoms
