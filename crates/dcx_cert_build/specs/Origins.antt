-- Where the rows of a problem's program come from: first the entries of the constraints, then the graphs of the nodes that are
-- reduced, by node, result entry and row.
use Rattle.std.specs.Prelude.{◌≡◌, ℕ, Bool, if◌then◌else◌, List, [], ◌++◌, length, map, Option, Some, None, slice_get}
use Rattle.dcx_shape.specs.Sides.{entries_of}
use Rattle.dcx_atom.specs.Arrays.{list_below, joined_below}
use Rattle.dcx_call.specs.declared.call.Call.{Call}
use Rattle.dcx_call.specs.declared.call.Call.TheVariants as calls
use Rattle.dcx_call.specs.Atoms.{atom_meaning}
use Rattle.dcx_convex.specs.Rules.{Rules}
use Rattle.dcx_tree.specs.declared.problem.Problem.{Problem}
use Rattle.dcx_tree.specs.Nodes.{Node, arg_sides}
use Rattle.dcx_unknowns.specs.Layout.{is_reduced}
use Rattle.dcx_graph.specs.declared.origin.Origin.{Origin}
use Rattle.dcx_graph.specs.declared.origin.Origin.TheVariants as origins
use Rattle.dcx_graph.specs.Program.{Program, constraint_entries, entry_origin}

-- how many rows entry j of a node with this call has
abbrev pub entry_count : List Node → Node → Call → ℕ → ℕ
entry_count nodes n (calls.Variable v) j = 0
entry_count nodes n (calls.Parameter q) j = 0
entry_count nodes n (calls.Constant x) j = 0
entry_count nodes n (calls.Atom m) j = length ((atom_meaning m).rows (arg_sides nodes n) j)
entry_count nodes n (calls.Linear l) j = 0
entry_count nodes n (calls.Pairing q) j = 0

-- the rows of entry j of node i, and those of node i, by entry
abbrev pub entry_rows : List Node → ℕ → Node → ℕ → List Origin
entry_rows nodes i n j = list_below (entry_count nodes n n.call j) (λ k. origins.Graph (record { 0 = i }) j k)

abbrev pub node_rows : List Node → ℕ → Bool → Option Node → List Origin
node_rows nodes i reduced None = []
node_rows nodes i reduced (Some n) = if reduced then joined_below (entries_of n.sides) (entry_rows nodes i n) else []

-- those of all nodes, by node
abbrev pub graph_origins : Rules → Problem → List Origin
graph_origins rules p = joined_below (length p.tree) (λ i. node_rows p.tree i (is_reduced rules p i) (slice_get p.tree i))

-- the program has the rows of the constraints, and then those of the graphs of the nodes that are reduced, by the rules where parameters
-- are numbers or by those where they are affine
pub record IsLaidOut {C : Type 0} (p : Problem) (q : Program C) : Type 0 where
  pub rules : Rules
  pub origins_are : q.origins ≡ map entry_origin (constraint_entries p) ++ graph_origins rules p
  pub one_each : length q.origins ≡ length q.rows
