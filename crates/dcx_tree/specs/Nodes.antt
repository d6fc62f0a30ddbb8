-- The nodes of a tree as nodes of disciplined convex programming, where variables and parameters go by numbers.
use Rattle.std.specs.Prelude.{ℕ, suc, if◌then◌else◌, List, [], ◌∷◌, map, slice_index_or}
use Rattle.dcx_math.specs.Rational.{ℚ}
use Rattle.dcx_frac.specs.Frac.{value}
use Rattle.dcx_shape.specs.declared.shape.Sides.{Sides}
use Rattle.dcx_shape.specs.Shape.{sides_of}
use Rattle.dcx_shape.specs.Sides.{entries_of}
use Rattle.dcx_atom.specs.Arrays.{Entries, sides_at}
use Rattle.dcx_call.specs.pairing.Pairing.{Pairing}
use Rattle.dcx_call.specs.pairing.Pairing.TheVariants.{Times, MatTimes, Over}
use Rattle.dcx_call.specs.AffinePairing.{pairs_at}
use Rattle.dcx_point.specs.Pairs.{Pairs, same_name}
use Rattle.dcx_arena.specs.Nodes as arena
use Rattle.dcx_convex.specs.Atoms.{atom_call, linear_call}
use Rattle.dcx_convex.specs.Pairs.{Pair, product_call, quotient_call}
use Rattle.dcx_convex.specs.Calls as convex_calls
use Rattle.dcx_convex.specs.Nodes as convex
use Rattle.dcx_call.specs.declared.attribute.Attribute.{Attribute}
use Rattle.dcx_call.specs.declared.attribute.Attribute.TheVariants as attributes
use Rattle.dcx_call.specs.declared.attribute.Whole.{Whole}
use Rattle.dcx_call.specs.declared.attribute.Whole.TheVariants.{Not, Integer, Boolean}
use Rattle.dcx_call.specs.declared.call.Call.{Call}
use Rattle.dcx_call.specs.declared.call.Call.TheVariants as calls
use Rattle.dcx_call.specs.Atoms.{atom_meaning}
use Rattle.dcx_call.specs.Linears.{linear_meaning}
use Rattle.dcx_call.specs.Values.{given_by}

-- a node of a tree
abbrev pub Node : Type 0
Node = arena.Node Call

-- the names of the variables and those of the parameters, in order of declaration; each goes by its position
pub record Names : Type 0 where
  pub variables : List (List ℕ)
  pub parameters : List (List ℕ)

-- the position of a name, and the number of names where it isn't among them
abbrev pub number_in : List (List ℕ) → List ℕ → ℕ
number_in [] name = 0
number_in (n ∷ names) name = if same_name n name then 0 else suc (number_in names name)

-- what is demanded of entries
abbrev pub attribute_of : Attribute → convex.Attribute
attribute_of attributes.Free = convex.Free
attribute_of attributes.Nonneg = convex.Nonneg
attribute_of attributes.Nonpos = convex.Nonpos
attribute_of attributes.Symmetric = convex.Symmetric
attribute_of attributes.Diag = convex.Diag

-- the same of a variable: one whose entries are to be 0 or 1 counts as nonneg, and that entries are whole isn't demanded
abbrev pub variable_attribute : Whole → Attribute → convex.Attribute
variable_attribute Not attribute = attribute_of attribute
variable_attribute Integer attribute = attribute_of attribute
variable_attribute Boolean attribute = convex.Nonneg

-- the pairs of entry j
abbrev pub pairs_of : Pairing → List Sides → ℕ → List Pair
pairs_of pairing args j = map (λ x. record { left = x.left; right = x.right }) (pairs_at pairing (sides_at args 0) (sides_at args 1) j)

-- a product or a quotient of arguments of these sides
abbrev pub pairing_call : Pairing → List Sides → Sides → convex_calls.Call
pairing_call Times args sides = product_call (entries_of sides) (pairs_of Times args)
pairing_call MatTimes args sides = product_call (entries_of sides) (pairs_of MatTimes args)
pairing_call Over args sides = quotient_call (entries_of sides) (pairs_of Over args)

-- a call of arguments of these sides, whose value has the sides that are given last
abbrev pub head_of : Names → Call → List Sides → Sides → convex.Head
head_of names (calls.Variable v) args sides =
    convex.Variable (record { number = number_in names.variables v.name; sides = sides_of v.shape; attribute = variable_attribute v.whole v.attribute })
head_of names (calls.Parameter p) args sides =
    convex.Parameter (record { number = number_in names.parameters p.name; sides = sides_of p.shape; attribute = attribute_of p.attribute })
head_of names (calls.Constant x) args sides = convex.Constant (map value x.entries)
head_of names (calls.Atom m) args sides = convex.Apply (atom_call (atom_meaning m) args sides)
head_of names (calls.Linear l) args sides = convex.Apply (linear_call (linear_meaning l) args sides)
head_of names (calls.Pairing p) args sides = convex.Apply (pairing_call p args sides)

-- the sides of the arguments of a node
abbrev pub arg_sides : List Node → Node → List Sides
arg_sides nodes n = map (arena.sides_at nodes) n.args

abbrev pub convex_node : Names → List Node → Node → convex.Node
convex_node names nodes n = record { head = head_of names n.call (arg_sides nodes n) n.sides; args = n.args }

-- the nodes of a tree
abbrev pub convex_nodes : Names → List Node → List convex.Node
convex_nodes names nodes = map (convex_node names nodes) nodes

-- the numbers of each of these names
abbrev pub numbers_by : List (List ℕ) → Pairs → Entries
numbers_by names pairs k j = given_by pairs (slice_index_or names k []) j

-- entry j of the value of node i, where arrays are given by name
abbrev pub source_value : List Node → Names → (setting point : Pairs) → ℕ → ℕ → ℚ
source_value nodes names setting point i j =
    convex.value_at (convex_nodes names nodes) (numbers_by names.parameters setting) (numbers_by names.variables point) i j
