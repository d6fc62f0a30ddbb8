-- The unknowns and the rows of a reduced program: those of the variables, then the auxiliary unknowns of the atoms that are
-- reduced, by node; the rows of the constraints, then those of the graphs, by node and result entry.
use Rattle.std.specs.Prelude.{◌≡◌, ℕ, ◌+◌, ◌<◌, ◌≤◌, Bool, false, not, if◌then◌else◌, List, [], ◌++◌, length, map, Option, Some, None, slice_get, slice_index_or, sum_by, flat_map}
use Rattle.std.specs.List.{range_with_len}
use Rattle.dcx_shape.specs.Shape.{sides_of}
use Rattle.dcx_shape.specs.Sides.{entries_of}
use Rattle.dcx_atom.specs.declared.graph.AuxKind.{AuxKind}
use Rattle.dcx_atom.specs.declared.graph.AuxKind.TheVariants as aux
use Rattle.dcx_atom.specs.declared.graph.Graph.{Graph}
use Rattle.dcx_atom.specs.Graph.{PlacedRow, rows_below, IsGraphOf}
use Rattle.dcx_arena.specs.Nodes.{IsNode}
use Rattle.dcx_call.specs.declared.call.Call.{Call}
use Rattle.dcx_call.specs.declared.call.Call.TheVariants as calls
use Rattle.dcx_call.specs.Atoms.{atom_meaning}
use Rattle.dcx_convex.specs.Rules.{Rules, is_constant, judgement_at}
use Rattle.dcx_tree.specs.declared.constraint.Constraint.{Constraint}
use Rattle.dcx_tree.specs.declared.constraint.Kind.{Kind}
use Rattle.dcx_tree.specs.declared.constraint.Kind.TheVariants as relations
use Rattle.dcx_tree.specs.declared.problem.Problem.{Problem}
use Rattle.dcx_tree.specs.Nodes.{Node, arg_sides}
use Rattle.dcx_tree.specs.Meaning.{convex_problem}
use Rattle.dcx_linear.specs.declared.row.UnknownKind.{UnknownKind}
use Rattle.dcx_linear.specs.declared.row.UnknownKind.TheVariants as kinds
use Rattle.dcx_linear.specs.Size.{columns_for, capped}
use Rattle.dcx_unknowns.specs.declared.layout.Layout.{Layout}
use Rattle.dcx_unknowns.specs.declared.stop.LayoutStop.{LayoutStop}
use Rattle.dcx_unknowns.specs.declared.stop.LayoutStop.TheVariants as stops
use Rattle.dcx_unknowns.specs.Unknowns.{variable_unknowns, variable_kinds}

-- ---- which nodes are reduced
-- node i isn't a number by the rules: it reaches a variable, or, where parameters are affine, a parameter
abbrev pub is_reduced : Rules → Problem → ℕ → Bool
is_reduced rules p i = not (is_constant rules (judgement_at rules (convex_problem p).nodes i))

-- what a list marks, and nothing past its end
abbrev pub marked : List Bool → ℕ → Bool
marked marks i = slice_index_or marks i false

-- the marks are those of the nodes that are reduced
abbrev pub AreReduced : Rules → Problem → List Bool → Type 0
AreReduced rules p marks = (i : ℕ) → i < length p.tree → marked marks i ≡ is_reduced rules p i

-- ---- auxiliary unknowns and rows of graphs
-- the auxiliary unknowns of a call
abbrev pub call_aux : List Node → Node → Call → List AuxKind
call_aux nodes n (calls.Variable v) = []
call_aux nodes n (calls.Parameter q) = []
call_aux nodes n (calls.Constant x) = []
call_aux nodes n (calls.Atom m) = (atom_meaning m).kinds (arg_sides nodes n)
call_aux nodes n (calls.Linear l) = []
call_aux nodes n (calls.Pairing q) = []

abbrev pub aux_if : List Node → Bool → Option Node → List AuxKind
aux_if nodes reduced None = []
aux_if nodes reduced (Some n) = if reduced then call_aux nodes n n.call else []

-- the rows of a call, by result entry
abbrev pub call_rows : List Node → Node → Call → List PlacedRow
call_rows nodes n (calls.Variable v) = []
call_rows nodes n (calls.Parameter q) = []
call_rows nodes n (calls.Constant x) = []
call_rows nodes n (calls.Atom m) = rows_below (entries_of n.sides) ((atom_meaning m).rows (arg_sides nodes n))
call_rows nodes n (calls.Linear l) = []
call_rows nodes n (calls.Pairing q) = []

abbrev pub rows_if : List Node → Bool → Option Node → List PlacedRow
rows_if nodes reduced None = []
rows_if nodes reduced (Some n) = if reduced then call_rows nodes n n.call else []

-- the graph of a call: that of an atom, and none of any other
abbrev pub IsCallGraph : List Node → Node → Call → Option Graph → Type 0
IsCallGraph nodes n (calls.Variable v) g = g ≡ None
IsCallGraph nodes n (calls.Parameter q) g = g ≡ None
IsCallGraph nodes n (calls.Constant x) g = g ≡ None
IsCallGraph nodes n (calls.Atom m) None = ⊥
IsCallGraph nodes n (calls.Atom m) (Some g) = IsGraphOf (atom_meaning m) (arg_sides nodes n) (entries_of n.sides) g
IsCallGraph nodes n (calls.Linear l) g = g ≡ None
IsCallGraph nodes n (calls.Pairing q) g = g ≡ None

-- that of node i
abbrev pub IsNodeGraph : List Node → ℕ → Option Graph → Type 0
IsNodeGraph nodes i g = (n : Node) → IsNode nodes i n → IsCallGraph nodes n n.call g

abbrev pub aux_kind : AuxKind → UnknownKind
aux_kind aux.Free = kinds.Free
aux_kind aux.Nonneg = kinds.Nonneg

-- where it is told which nodes are reduced
module _ (nodes : List Node) (reduced : ℕ → Bool) where
  -- the auxiliary unknowns of node i, and those of the nodes before node i, in order
  abbrev pub aux_of : ℕ → List AuxKind
  aux_of i = aux_if nodes (reduced i) (slice_get nodes i)

  abbrev pub aux_below : ℕ → List AuxKind
  aux_below i = flat_map aux_of (range_with_len 0 i)

  -- the rows of node i, by result entry, and how many the nodes before node i have
  abbrev pub rows_of_node : ℕ → List PlacedRow
  rows_of_node i = rows_if nodes (reduced i) (slice_get nodes i)

  abbrev pub rows_counted : ℕ → ℕ
  rows_counted i = sum_by (λ k. length (rows_of_node k)) (range_with_len 0 i)

-- ---- rows of constraints
abbrev pub constraint_rows : Constraint → ℕ
constraint_rows c = entries_of (sides_of c.shape)

-- those that are inequalities, each of which has a slack
abbrev pub slacks_by : Kind → ℕ → ℕ
slacks_by relations.AtMost n = n
slacks_by relations.Equal n = 0

abbrev pub constraint_slacks : Constraint → ℕ
constraint_slacks c = slacks_by c.kind (constraint_rows c)

-- ---- the program
-- where it is told which nodes are reduced: the kinds of all unknowns, in order, and how many rows and columns there are
module _ (p : Problem) (reduced : ℕ → Bool) where
  abbrev pub kinds_with : List UnknownKind
  kinds_with = variable_kinds p.variables ++ map aux_kind (aux_below p.tree reduced (length p.tree))

  abbrev pub rows_with : ℕ
  rows_with = sum_by constraint_rows p.constraints + rows_counted p.tree reduced (length p.tree)

  abbrev pub columns_with : ℕ
  columns_with = sum_by columns_for kinds_with + (sum_by constraint_slacks p.constraints + rows_counted p.tree reduced (length p.tree))

-- by the rules: the auxiliary unknowns of node i, and those of the nodes before node i, in order
abbrev pub aux_at : Rules → Problem → ℕ → List AuxKind
aux_at rules p i = aux_of p.tree (is_reduced rules p) i

abbrev pub aux_before : Rules → Problem → ℕ → List AuxKind
aux_before rules p i = aux_below p.tree (is_reduced rules p) i

-- the first one of node i, counted with the unknowns of the variables
abbrev pub first_aux : Rules → Problem → ℕ → ℕ
first_aux rules p i = variable_unknowns p.variables + length (aux_before rules p i)

-- the rows of node i, by result entry
abbrev pub rows_at : Rules → Problem → ℕ → List PlacedRow
rows_at rules p i = rows_of_node p.tree (is_reduced rules p) i

-- the kinds of all unknowns, in order
abbrev pub unknown_kinds : Rules → Problem → List UnknownKind
unknown_kinds rules p = kinds_with p (is_reduced rules p)

abbrev pub row_count : Rules → Problem → ℕ
row_count rules p = rows_with p (is_reduced rules p)

abbrev pub column_count : Rules → Problem → ℕ
column_count rules p = columns_with p (is_reduced rules p)

-- ---- what is answered
-- so many rows and columns may be
pub record AreFew (rows columns : ℕ) : Type 0 where
  pub few_rows : rows ≤ 600
  pub few_columns : columns ≤ 2400

-- the layout of the program where it is told which nodes are reduced
pub record IsLayoutWith (p : Problem) (reduced : ℕ → Bool) (l : Layout) : Type 0 where
  pub kinds : l.kinds ≡ kinds_with p reduced
  pub rows : l.rows ≡ rows_with p reduced
  pub columns : l.columns ≡ columns_with p reduced
  pub few : AreFew (rows_with p reduced) (columns_with p reduced)

-- why there is none: it would have more than 600 rows or 2,400 columns, or there is no memory
pub record IsTooLarge (p : Problem) (reduced : ℕ → Bool) (rows columns : ℕ) : Type 0 where
  pub many : ¬ AreFew (rows_with p reduced) (columns_with p reduced)
  pub rows_told : rows ≡ capped (rows_with p reduced)
  pub columns_told : columns ≡ capped (columns_with p reduced)

abbrev pub IsStopWith : Problem → (ℕ → Bool) → LayoutStop → Type 0
IsStopWith p reduced (stops.TooLarge rows columns) = IsTooLarge p reduced rows columns
IsStopWith p reduced stops.Memory = Unit {0}

-- the same by the rules
abbrev pub IsLayout : Rules → Problem → Layout → Type 0
IsLayout rules p l = IsLayoutWith p (is_reduced rules p) l

abbrev pub IsLayoutStop : Rules → Problem → LayoutStop → Type 0
IsLayoutStop rules p stop = IsStopWith p (is_reduced rules p) stop
