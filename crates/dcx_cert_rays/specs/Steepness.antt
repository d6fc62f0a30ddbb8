-- The steepness of the nodes of a problem along a ray of arrays, and the first operation at which forming it stops.
use Rattle.std.specs.Prelude.{◌≡◌, ℕ, ◌<◌, ◌⊎◌, nat_eq, Bool, false, if◌then◌else◌, IsTrue, List, length, map, All, Option, Some, None, IsSome, slice_get, Result, Ok, IsOk, true}
use Rattle.dcx_frac.specs.declared.fraction.Frac.{Frac}
use Rattle.dcx_frac.specs.declared.fraction.Passes.{Passes}
use Rattle.dcx_shape.specs.Shape.{sides_of}
use Rattle.dcx_shape.specs.Sides.{entries_of}
use Rattle.dcx_atom.specs.declared.array.Array.{Array}
use Rattle.dcx_atom.specs.declared.stops.ValueStop.{ValueStop}
use Rattle.dcx_atom.specs.declared.stops.ValueStop.TheVariants as stops
use Rattle.dcx_atom.specs.Arrays.{Entries, number_at}
use Rattle.dcx_atom.specs.Formed.{zero_frac}
use Rattle.dcx_affine.specs.declared.pairing.Pairing.TheVariants.{Times, MatTimes, Over}
use Rattle.dcx_point.specs.Pairs.{Pairs}
use Rattle.dcx_arena.specs.Nodes.{IsNode, args_at, sides_at}
use Rattle.dcx_arena.specs.Gather.{has}
use Rattle.dcx_arena.specs.Unfold.{IsReached}
use Rattle.dcx_convex.specs.Nodes.{Numbers, arguments}
use Rattle.dcx_convex.specs.Rules.{Plain, argument, judgement_at}
use Rattle.dcx_convex.specs.Certificates as certificates
use Rattle.dcx_call.specs.declared.call.Call.{Call}
use Rattle.dcx_call.specs.declared.call.Call.TheVariants as calls
use Rattle.dcx_call.specs.Forming.{IsFirst}
use Rattle.dcx_call.specs.Values.{given_by, HasArray, entry_formed}
use Rattle.dcx_tree.specs.declared.problem.Problem.{Problem}
use Rattle.dcx_tree.specs.Nodes.{Node, arg_sides}
use Rattle.dcx_tree.specs.Values.{AreValues, array_at}
use Rattle.dcx_tree.specs.Meaning.{convex_problem, setting_of, point_of, IsAccepted, IsFitting}
use Rattle.dcx_cert_outline.specs.Drawn.{AreFixed}
use Rattle.dcx_right.specs.Fixed.{is_fixed}
use Rattle.dcx_right.specs.Steepness.{steep_at}
use Rattle.dcx_answer.specs.declared.cert_fault.CertFault.{CertFault}
use Rattle.dcx_answer.specs.declared.cert_fault.CertFault.TheVariants.{Wide}
use Rattle.dcx_cert_sections.specs.Checks.{Check, each_below}

-- ---- exact numbers of any size
-- the value of a node that has no variable below it
abbrev pub fixed_value : Problem → (setting : Pairs) → ℕ → Numbers
fixed_value p setting i = certificates.given_at (convex_problem p).nodes (setting_of p setting) i

-- the steepness of node i
abbrev pub steepness_at : Problem → (setting ray : Pairs) → ℕ → Numbers
steepness_at p setting ray i = steep_at (convex_problem p).nodes (setting_of p setting) (point_of p ray) i

-- the side of a product or a quotient that counts with its value: the divisor of a quotient, and of a product the side that has no
-- variable below it; none of another call
abbrev pub value_side : Call → (first_fixed : Bool) → Option ℕ
value_side (calls.Variable v) first_fixed = None
value_side (calls.Parameter q) first_fixed = None
value_side (calls.Constant x) first_fixed = None
value_side (calls.Atom m) first_fixed = None
value_side (calls.Linear l) first_fixed = None
value_side (calls.Pairing Times) first_fixed = Some (if first_fixed then 0 else 1)
value_side (calls.Pairing MatTimes) first_fixed = Some (if first_fixed then 0 else 1)
value_side (calls.Pairing Over) first_fixed = Some 1

-- whether argument i is that side
abbrev pub is_side : Option ℕ → ℕ → Bool
is_side None i = false
is_side (Some side) i = nat_eq i side

-- the numbers at which a call is taken: the steepness of its arguments, with the value of that side
abbrev pub taken_numbers : Option ℕ → (values steepness : Entries) → Entries
taken_numbers side values steepness i = if is_side side i then values i else steepness i

-- whether the first argument of a node has no variable below it
abbrev pub is_first_fixed : Problem → Node → Bool
is_first_fixed p n = (argument (map (judgement_at Plain (convex_problem p).nodes) n.args) 0).fixed

-- the numbers at which the call of a node is taken
abbrev pub node_numbers : Problem → (setting ray : Pairs) → Node → Entries
node_numbers p setting ray n =
    taken_numbers (value_side n.call (is_first_fixed p n)) (arguments (map (fixed_value p setting) n.args)) (arguments (map (steepness_at p setting ray) n.args))

-- ---- forming in 128 bits
-- entry j of the steepness of node i as it is formed; nothing is formed where it has no variable below it
abbrev pub steepness_formed : Problem → (setting ray : Pairs) → ℕ → Node → ℕ → Result Frac ValueStop
steepness_formed p setting ray i n j =
    if is_fixed p i then Ok zero_frac else entry_formed n.call (given_by setting) (given_by ray) (arg_sides p.tree n) (node_numbers p setting ray n) j

-- each entry of node i is formed
abbrev pub IsFormed : Problem → (setting ray : Pairs) → ℕ → Type 0
IsFormed p setting ray i = (n : Node) → IsNode p.tree i n → (j : ℕ) → j < entries_of n.sides → IsOk (steepness_formed p setting ray i n j)

-- node i isn't formed, and the fault is that of its first operation that passes
pub record IsUnformed (p : Problem) (setting ray : Pairs) (i : ℕ) (fault : CertFault) : Type 0 where
  pub node : Node
  pub there : IsNode p.tree i node
  pub entry : ℕ
  pub passes : Passes
  pub here : IsFirst (steepness_formed p setting ray i node) (entries_of node.sides) (stops.Passes entry passes)
  pub told : fault ≡ Wide passes

-- node i is formed, if the roots reach it
abbrev pub forming_at : Problem → (setting ray : Pairs) → (roots : List ℕ) → ℕ → Check
forming_at p setting ray roots i = record {
  passes = IsReached p.tree roots i → IsFormed p setting ray i;
  fails = λ fault. IsReached p.tree roots i × IsUnformed p setting ray i fault;
}

-- the nodes that the roots reach are formed, one after the other
abbrev pub forming : Problem → (setting ray : Pairs) → (roots : List ℕ) → Check
forming p setting ray roots = each_below (length p.tree) (forming_at p setting ray roots)

-- ---- while nodes are formed one by one
-- arrays are the values of their nodes, as at some point, and each node that has no variable below it has one
pub record AreFixedValues (p : Problem) (setting : Pairs) (arrays : List (Option Array)) : Type 0 where
  pub point : Pairs
  pub values : AreValues p.tree setting point arrays
  pub kept : (i : ℕ) → i < length p.tree → IsTrue (is_fixed p i) → IsSome (array_at arrays i)

-- what a ray is checked with: the marks and the values of the nodes that have no variable below them
pub record IsGiven (p : Problem) (setting : Pairs) (marks : List Bool) (arrays : List (Option Array)) (ray : Pairs) : Type 0 where
  pub accepted : IsAccepted p
  pub fitting : IsFitting p setting
  pub shaped : All (λ v. HasArray ray v.name (sides_of v.shape)) p.variables
  pub fixed : AreFixed p marks (length p.tree)
  pub values : AreFixedValues p setting arrays

-- the array is the steepness of node i, which is formed
pub record IsSteepness (p : Problem) (setting ray : Pairs) (i : ℕ) (v : Array) : Type 0 where
  pub shape : sides_of v.shape ≡ sides_at p.tree i
  pub numbers : (j : ℕ) → number_at v.entries j ≡ steepness_at p setting ray i j
  pub formed : IsFormed p setting ray i

-- the steepness of node i is known: it has no variable below it, or its array is kept
abbrev pub IsKnown : Problem → List (Option Array) → ℕ → Type 0
IsKnown p arrays i = IsTrue (is_fixed p i) ⊎ IsSome (array_at arrays i)

-- there is a place for each node, each array that is kept is the steepness of its node, and that of its arguments is known
pub record AreKept (p : Problem) (setting ray : Pairs) (arrays : List (Option Array)) : Type 0 where
  pub sized : length arrays ≡ length p.tree
  pub steep : (i : ℕ) (v : Array) → array_at arrays i ≡ Some v → IsSteepness p setting ray i v
  pub closed : (i a : ℕ) → IsSome (array_at arrays i) → has (args_at p.tree i) a ≡ true → IsKnown p arrays a

-- what is known before is known after
abbrev pub StaysKnown : Problem → (before after : List (Option Array)) → Type 0
StaysKnown p before after = (i : ℕ) → IsKnown p before i → IsKnown p after i

-- the array is the value or the steepness of node i
pub record IsArgument (p : Problem) (setting ray : Pairs) (counts : Bool) (i : ℕ) (v : Array) : Type 0 where
  pub shape : sides_of v.shape ≡ sides_at p.tree i
  pub numbers : (j : ℕ) → number_at v.entries j ≡ (if counts then fixed_value p setting i else steepness_at p setting ray i) j

-- the arrays are those of these arguments, one with its value where it is the side that counts so
pub record AreArguments (p : Problem) (setting ray : Pairs) (side : Option ℕ) (ids : List ℕ) (args : List Array) : Type 0 where
  pub count : length args ≡ length ids
  pub each : (k a : ℕ) (v : Array) → slice_get ids k ≡ Some a → slice_get args k ≡ Some v → IsArgument p setting ray (is_side side k) a v

-- what the array of argument k needs: a value where it counts with its value
pub record AreReady (p : Problem) (side : Option ℕ) (ids : List ℕ) (arrays : List (Option Array)) : Type 0 where
  pub there : (k a : ℕ) → slice_get ids k ≡ Some a → a < length p.tree
  pub known : (k a : ℕ) → slice_get ids k ≡ Some a → IsKnown p arrays a
  pub fixed : (k a : ℕ) → slice_get ids k ≡ Some a → IsTrue (is_side side k) → IsTrue (is_fixed p a)

-- the arrays are those at which node i takes its call
abbrev pub TakesArguments : Problem → (setting ray : Pairs) → ℕ → List Array → Type 0
TakesArguments p setting ray i args = (n : Node) → IsNode p.tree i n → AreArguments p setting ray (value_side n.call (is_first_fixed p n)) n.args args
