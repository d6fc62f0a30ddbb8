-- The value of a node where arrays are given by name, and the first operation at which forming it stops.
use Rattle.std.specs.Prelude.{◌≡◌, ℕ, ◌<◌, Bool, true, false, List, [], ◌∷◌, map, Option, Some, None, Result, IsOk, slice_get, slice_index_or}
use Rattle.std.specs.List.{AllZip}
use Rattle.dcx_frac.specs.declared.fraction.Frac.{Frac}
use Rattle.dcx_shape.specs.Shape.{sides_of}
use Rattle.dcx_shape.specs.Sides.{entries_of}
use Rattle.dcx_atom.specs.declared.array.Array.{Array}
use Rattle.dcx_atom.specs.declared.stops.ValueStop.{ValueStop}
use Rattle.dcx_atom.specs.declared.stops.ValueStop.TheVariants as stops
use Rattle.dcx_atom.specs.Arrays.{number_at}
use Rattle.dcx_point.specs.Pairs.{Pairs}
use Rattle.dcx_arena.specs.Nodes.{IsNode, sides_at}
use Rattle.dcx_arena.specs.Unfold.{IsReached}
use Rattle.dcx_convex.specs.Nodes.{arguments}
use Rattle.dcx_call.specs.declared.call.Call.{Call}
use Rattle.dcx_call.specs.declared.call.Call.TheVariants as calls
use Rattle.dcx_call.specs.Forming.{IsFirst, IsStop}
use Rattle.dcx_call.specs.Values.{given_by, entry_formed, IsGiven}
use Rattle.dcx_tree.specs.Nodes.{Names, Node, arg_sides, source_value}

-- a variable or a parameter is among the names
abbrev pub IsNamed : Names → Call → Type 0
IsNamed names (calls.Variable v) = (k : ℕ) × (slice_get names.variables k ≡ Some v.name)
IsNamed names (calls.Parameter p) = (k : ℕ) × (slice_get names.parameters k ≡ Some p.name)
IsNamed names (calls.Constant x) = Unit {0}
IsNamed names (calls.Atom m) = Unit {0}
IsNamed names (calls.Linear l) = Unit {0}
IsNamed names (calls.Pairing p) = Unit {0}

-- P holds of each node that node i reaches, itself among them
abbrev pub EachReached : List Node → ℕ → (Node → Type 0) → Type 0
EachReached nodes i P = (j : ℕ) (n : Node) → IsReached nodes (i ∷ []) j → IsNode nodes j n → P n

-- setting and point give each leaf that node i reaches an array of its shape
abbrev pub AreGiven : List Node → (setting point : Pairs) → ℕ → Type 0
AreGiven nodes setting point i = EachReached nodes i (λ n. IsGiven n.call setting point)

-- each leaf that node i reaches is among the names
abbrev pub AreNamed : List Node → Names → ℕ → Type 0
AreNamed nodes names i = EachReached nodes i (λ n. IsNamed names n.call)

-- entry j of a node as it is formed in 128 bits from the values of its arguments
abbrev pub node_formed : List Node → Names → (setting point : Pairs) → Node → ℕ → Result Frac ValueStop
node_formed nodes names setting point n j =
    entry_formed n.call (given_by setting) (given_by point) (arg_sides nodes n) (arguments (map (source_value nodes names setting point) n.args)) j

-- each entry of the node is formed
abbrev pub IsFormed : List Node → Names → (setting point : Pairs) → Node → Type 0
IsFormed nodes names setting point n = (j : ℕ) → j < entries_of n.sides → IsOk (node_formed nodes names setting point n j)

-- the array is the value of node i, by whichever names, and each node that it reaches is formed
pub record IsValueOf (nodes : List Node) (setting point : Pairs) (i : ℕ) (v : Array) : Type 0 where
  pub shape : sides_of v.shape ≡ sides_at nodes i
  pub numbers : (names : Names) → AreNamed nodes names i → (j : ℕ) → number_at v.entries j ≡ source_value nodes names setting point i j
  pub formed : (names : Names) → AreNamed nodes names i → EachReached nodes i (IsFormed nodes names setting point)

-- of the nodes that node i reaches, the first that isn't formed; the stop is that of its first entry that isn't
pub record IsFirstStop (nodes : List Node) (names : Names) (setting point : Pairs) (i : ℕ) (stop : ValueStop) : Type 0 where
  pub position : ℕ
  pub node : Node
  pub there : IsNode nodes position node
  pub reached : IsReached nodes (i ∷ []) position
  pub before : (k : ℕ) (n : Node) → k < position → IsReached nodes (i ∷ []) k → IsNode nodes k n → IsFormed nodes names setting point n
  pub here : IsFirst (node_formed nodes names setting point node) (entries_of node.sides) stop

-- why the value of node i isn't formed: the first stop, or want of memory
abbrev pub IsValueStop : List Node → (setting point : Pairs) → ℕ → ValueStop → Type 0
IsValueStop nodes setting point i (stops.Passes entry passes) = (names : Names) → AreNamed nodes names i → IsFirstStop nodes names setting point i (stops.Passes entry passes)
IsValueStop nodes setting point i (stops.ZeroDivisor entry) = (names : Names) → AreNamed nodes names i → IsFirstStop nodes names setting point i (stops.ZeroDivisor entry)
IsValueStop nodes setting point i stops.Memory = Unit {0}

-- ---- while nodes are formed one by one
-- what is marked at a place
abbrev pub IsMarked : List Bool → ℕ → Type 0
IsMarked marks i = slice_index_or marks i false ≡ true

-- the array that is kept for node i
abbrev pub array_at : List (Option Array) → ℕ → Option Array
array_at arrays i = slice_index_or arrays i None

-- each array that is kept is the value of its node
abbrev pub AreValues : List Node → (setting point : Pairs) → List (Option Array) → Type 0
AreValues nodes setting point arrays = (i : ℕ) (v : Array) → array_at arrays i ≡ Some v → IsValueOf nodes setting point i v

-- these arrays are the values of these nodes
abbrev pub AreArguments : List Node → (setting point : Pairs) → List ℕ → List Array → Type 0
AreArguments nodes setting point ids args = AllZip (IsValueOf nodes setting point) ids args

-- why node i alone isn't formed
abbrev pub IsNodeStop : List Node → (setting point : Pairs) → ℕ → ValueStop → Type 0
IsNodeStop nodes setting point i stop = (names : Names) → AreNamed nodes names i → (n : Node) → IsNode nodes i n → IsStop (node_formed nodes names setting point n) (entries_of n.sides) stop
