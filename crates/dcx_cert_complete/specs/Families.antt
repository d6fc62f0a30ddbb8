-- Arrays of the nodes at a point of the variables and at unknowns of the graphs, and what the weighted rows of the graphs are there.
use Rattle.std.specs.Prelude.{◌≡◌, ℕ, ◌<◌, List, length, map, Option, Some, None, slice_get, pos}
use Rattle.dcx_math.specs.Rational.{ℚ, whole}
use Rattle.dcx_math.specs.Sums.{IsNonnegative, rat_sum_below}
use Rattle.dcx_frac.specs.declared.fraction.Frac.{Frac}
use Rattle.dcx_shape.specs.declared.shape.Sides.{Sides}
use Rattle.dcx_shape.specs.Shape.{sides_of}
use Rattle.dcx_shape.specs.Sides.{entries_of}
use Rattle.dcx_atom.specs.declared.array.Array.{Array}
use Rattle.dcx_atom.specs.Arrays.{Entries}
use Rattle.dcx_atom.specs.Rows.{Filling, KindsHold, weighted}
use Rattle.dcx_atom.specs.Meaning.{Meaning}
use Rattle.dcx_atom.specs.Steps.{weights_of}
use Rattle.dcx_arena.specs.Nodes.{IsNode, call_at}
use Rattle.dcx_call.specs.declared.atoms.AtomCall.{AtomCall}
use Rattle.dcx_call.specs.declared.call.Call.{Call}
use Rattle.dcx_call.specs.declared.call.Call.TheVariants as calls
use Rattle.dcx_call.specs.Atoms.{atom_meaning}
use Rattle.dcx_convex.specs.Nodes.{Numbers, Point, Setting, first_of, arguments, zeros, value_at}
use Rattle.dcx_tree.specs.Nodes.{Names, Node, arg_sides, convex_nodes, number_in}
use Rattle.dcx_tree.specs.Values.{array_at}
use Rattle.dcx_unknowns.specs.Equations.{call_entry}

module _ (names : Names) (nodes : List Node) (s : Setting) (values : List (Option Array)) where
  -- the arrays g stand for the nodes at a point x and at unknowns t of the graph of each node: where a value is known it is that, and
  -- else the call makes it of those of its arguments and of its own unknowns
  pub record IsFamily (x : Point) (t : ℕ → Filling) (g : ℕ → Numbers) : Type 0 where
    pub known : (i : ℕ) → i < length nodes → (y : Array) → array_at values i ≡ Some y → (j : ℕ) → g i j ≡ value_at (convex_nodes names nodes) s x i j
    pub others : (i : ℕ) (n : Node) → IsNode nodes i n → array_at values i ≡ None → (j : ℕ) →
        g i j ≡ first_of (entries_of n.sides) (call_entry names s x n.call (arg_sides nodes n) (arguments (map g n.args)) (t i)) j

-- a statement about each nonlinear call whose value isn't known
abbrev pub EachAtom : List Node → List (Option Array) → (ℕ → Node → Meaning → Type 0) → Type 0
EachAtom nodes values P = (i : ℕ) (n : Node) → IsNode nodes i n → array_at values i ≡ None → (m : AtomCall) → n.call ≡ calls.Atom m → P i n (atom_meaning m)

-- the unknowns of each graph are of their kinds
abbrev pub AreFilled : List Node → List (Option Array) → (ℕ → Filling) → Type 0
AreFilled nodes values t = EachAtom nodes values (λ i n m. KindsHold (m.kinds (arg_sides nodes n)) (t i))

-- the weights of the rows of each graph are at least 0
abbrev pub AreWeighed : List Node → List (Option Array) → (ℕ → List Frac) → Type 0
AreWeighed nodes values weights =
    EachAtom nodes values (λ i n m. (j r : ℕ) → j < entries_of n.sides → r < length (m.rows (arg_sides nodes n) j) → IsNonnegative (weights_of m (arg_sides nodes n) (weights i) j r))

-- ---- weighted rows
abbrev pub atom_rows : Meaning → List Sides → ℕ → List Frac → Entries → Filling → ℚ
atom_rows m ss size ws a t = rat_sum_below size (λ j. weighted (m.rows ss j) (weights_of m ss ws j) a t)

abbrev pub call_rows : Call → List Sides → ℕ → List Frac → Entries → Filling → ℚ
call_rows (calls.Variable v) ss size ws a t = whole (pos 0)
call_rows (calls.Parameter p) ss size ws a t = whole (pos 0)
call_rows (calls.Constant x) ss size ws a t = whole (pos 0)
call_rows (calls.Atom m) ss size ws a t = atom_rows (atom_meaning m) ss size ws a t
call_rows (calls.Linear l) ss size ws a t = whole (pos 0)
call_rows (calls.Pairing p) ss size ws a t = whole (pos 0)

abbrev pub rows_if : List Node → Option Array → Option Node → List Frac → (ℕ → Numbers) → Filling → ℚ
rows_if nodes (Some y) o ws g t = whole (pos 0)
rows_if nodes None None ws g t = whole (pos 0)
rows_if nodes None (Some n) ws g t = call_rows n.call (arg_sides nodes n) (entries_of n.sides) ws (arguments (map g n.args)) t

-- those of node i, where its value isn't known
abbrev pub node_rows : List Node → List (Option Array) → (ℕ → List Frac) → (ℕ → Numbers) → (ℕ → Filling) → ℕ → ℚ
node_rows nodes values weights g t i = rows_if nodes (array_at values i) (slice_get nodes i) (weights i) g (t i)

-- those of the first n nodes
abbrev pub rows_below : List Node → List (Option Array) → (ℕ → List Frac) → ℕ → (ℕ → Numbers) → (ℕ → Filling) → ℚ
rows_below nodes values weights n g t = rat_sum_below n (node_rows nodes values weights g t)

-- ---- variables
abbrev pub variable_by : Names → Point → Call → Numbers
variable_by names x (calls.Variable v) = first_of (entries_of (sides_of v.shape)) (x (number_in names.variables v.name))
variable_by names x (calls.Parameter p) = zeros
variable_by names x (calls.Constant c) = zeros
variable_by names x (calls.Atom m) = zeros
variable_by names x (calls.Linear l) = zeros
variable_by names x (calls.Pairing p) = zeros

abbrev pub variable_if : Names → Point → Option Call → Numbers
variable_if names x None = zeros
variable_if names x (Some call) = variable_by names x call

-- the array that a point gives node i, where it is a variable
abbrev pub variable_numbers : Names → List Node → Point → ℕ → Numbers
variable_numbers names nodes x i = variable_if names x (call_at nodes i)
