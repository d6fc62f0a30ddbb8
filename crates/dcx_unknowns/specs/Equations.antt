-- What makes forms and rows over unknowns a reduced program of a problem: the equation of each node, over exact numbers.
use Rattle.std.specs.Prelude.{◌≡◌, ℕ, ◌+◌, Bool, true, false, List, [], map, length, Option, Some, None, slice_get}
use Rattle.std.specs.List.{flat_map, range_with_len}
use Rattle.dcx_math.specs.Rational.{ℚ}
use Rattle.dcx_shape.specs.declared.shape.Sides.{Sides}
use Rattle.dcx_shape.specs.Sides.{entries_of}
use Rattle.dcx_atom.specs.Arrays.{Entries, sides_at, number_at}
use Rattle.dcx_atom.specs.Rows.{Filling, form_at, row_at}
use Rattle.dcx_atom.specs.Graph.{PlacedRow}
use Rattle.dcx_atom.specs.Linear.{terms_at}
use Rattle.dcx_call.specs.AffinePairing.{pairs_at}
use Rattle.dcx_arena.specs.Nodes.{IsNode}
use Rattle.dcx_call.specs.declared.call.Call.{Call}
use Rattle.dcx_call.specs.declared.call.Call.TheVariants as calls
use Rattle.dcx_call.specs.Atoms.{atom_meaning}
use Rattle.dcx_call.specs.Linears.{linear_meaning}
use Rattle.dcx_call.specs.Values.{pairing_value}
use Rattle.dcx_convex.specs.Nodes.{Numbers, Point, Setting, first_of, arguments}
use Rattle.dcx_convex.specs.Rules.{Rules}
use Rattle.dcx_convex.specs.Reductions.{Unknowns, Reduced}
use Rattle.dcx_tree.specs.declared.problem.Problem.{Problem}
use Rattle.dcx_tree.specs.Nodes.{Names, Node, arg_sides, number_in}
use Rattle.dcx_tree.specs.Meaning.{names_in, value_at}
use Rattle.dcx_linear.specs.declared.row.UnknownKind.{UnknownKind}
use Rattle.dcx_linear.specs.declared.row.UnknownKind.TheVariants as kinds
use Rattle.dcx_unknowns.specs.Unknowns.{point_at}
use Rattle.dcx_unknowns.specs.Layout.{is_reduced, first_aux, rows_at, unknown_kinds}

-- the numbers that stand for the nodes, at unknowns
abbrev pub Forms : Type 0
Forms = Unknowns → ℕ → Numbers

-- entry j of a call that is reduced, at a setting and a point, where these numbers stand for its arguments, which have these
-- sides, and these are its auxiliary unknowns
abbrev pub call_entry : Names → Setting → Point → Call → List Sides → Entries → Filling → ℕ → ℚ
call_entry names s x (calls.Variable v) args a t j = x (number_in names.variables v.name) j
call_entry names s x (calls.Parameter q) args a t j = s (number_in names.parameters q.name) j
call_entry names s x (calls.Constant c) args a t j = number_at c.entries j
call_entry names s x (calls.Atom m) args a t j = form_at ((atom_meaning m).result args j) t
call_entry names s x (calls.Linear l) args a t j = terms_at ((linear_meaning l).terms args j) a
call_entry names s x (calls.Pairing q) args a t j = pairing_value q (pairs_at q (sides_at args 0) (sides_at args 1) j) (a 0) (a 1)

-- the auxiliary unknowns of node i
abbrev pub filling_of : Rules → Problem → ℕ → Unknowns → Filling
filling_of rules p i u k = u (first_aux rules p i + k)

module _ (rules : Rules) (p : Problem) (s : Setting) (forms : Forms) where
  -- what stands for the arguments of a node
  abbrev pub args_of : Node → Unknowns → Entries
  args_of n u = arguments (map (forms u) n.args)

  -- entry j of node i, where it is reduced
  abbrev pub entry_by : ℕ → Node → Unknowns → ℕ → ℚ
  entry_by i n u j = call_entry (names_in p) s (point_at p.variables u) n.call (arg_sides p.tree n) (args_of n u) (filling_of rules p i u) j

  -- what stands for a node: its value, where it is a number by the rules, and else what its call makes of what stands for
  -- its arguments
  abbrev pub Stands : ℕ → Node → Bool → Type 0
  Stands i n false = (u : Unknowns) (x : Point) (j : ℕ) → forms u i j ≡ value_at p s x i j
  Stands i n true = (u : Unknowns) (j : ℕ) → forms u i j ≡ first_of (entries_of n.sides) (entry_by i n u) j

  abbrev pub AllStand : Type 0
  AllStand = (i : ℕ) (n : Node) → IsNode p.tree i n → Stands i n (is_reduced rules p i)

  -- ---- rows
  -- a row of the graph of node i, at unknowns
  abbrev pub row_number : ℕ → Node → PlacedRow → Unknowns → ℚ
  row_number i n r u = row_at r.row (args_of n u) (filling_of rules p i u)

  abbrev pub numbers_if : ℕ → Option Node → List PlacedRow → List (Unknowns → ℚ)
  numbers_if i None rows = []
  numbers_if i (Some n) rows = map (row_number i n) rows

  -- the rows of all graphs, by node and result entry
  abbrev pub graph_numbers : List (Unknowns → ℚ)
  graph_numbers = flat_map (λ i. numbers_if i (slice_get p.tree i) (rows_at rules p i)) (range_with_len 0 (length p.tree))

-- an unknown is of this kind
abbrev pub is_nonneg : Option UnknownKind → Bool
is_nonneg None = false
is_nonneg (Some kinds.Free) = false
is_nonneg (Some kinds.Nonneg) = true
is_nonneg (Some kinds.Nonpos) = false

abbrev pub is_nonpos : Option UnknownKind → Bool
is_nonpos None = false
is_nonpos (Some kinds.Free) = false
is_nonpos (Some kinds.Nonneg) = false
is_nonpos (Some kinds.Nonpos) = true

-- the reduced program with these forms
abbrev pub reduced_with : Rules → Problem → Setting → Forms → Reduced
reduced_with rules p s forms = record {
  nonneg = λ n. is_nonneg (slice_get (unknown_kinds rules p) n);
  nonpos = λ n. is_nonpos (slice_get (unknown_kinds rules p) n);
  point = point_at p.variables;
  forms = forms;
  rows = graph_numbers rules p s forms;
}
