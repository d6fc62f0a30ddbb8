-- Steepness: how fast the nodes go along a ray far out.
use Rattle.std.specs.Prelude.{◌≡◌, ℕ, zero, suc, Bool, if◌then◌else◌, IsTrue, nat_eq, List, map, Option, Some, None, slice_get}
use Rattle.dcx_shape.specs.Sides.{entries_of}
use Rattle.dcx_atom.specs.Arrays.{Entries}
use Rattle.dcx_convex.specs.Calls.{Kind, Nonlinear, Linear, Product, Quotient}
use Rattle.dcx_convex.specs.Nodes.{Head, Variable, Parameter, Constant, Apply, Node, IsNode, Numbers, Point, Setting, zeros, first_of, arguments}
use Rattle.dcx_convex.specs.Rules.{Plain, Judgement, argument, judgement_at}
use Rattle.dcx_convex.specs.Certificates.{is_fixed, given_at}

-- the steepness of the arguments, with the value of one side
abbrev pub with_value : (side : ℕ) → (values steepness : Entries) → Entries
with_value side values steepness i = if nat_eq i side then values i else steepness i

-- what a call is taken at: the steepness of its arguments; a product has the value of a side that reaches no variable, which is
-- its first where that does, and a quotient that of its divisor
abbrev pub taken_at : Kind → (first_fixed : Bool) → (values steepness : Entries) → Entries
taken_at (Nonlinear bend) first_fixed values steepness = steepness
taken_at Linear first_fixed values steepness = steepness
taken_at Product first_fixed values steepness = with_value (if first_fixed then 0 else 1) values steepness
taken_at Quotient first_fixed values steepness = with_value 1 values steepness

-- the side whose value counts reaches no variable, where the arguments are judged so
abbrev pub IsValueFixed : Kind → List Judgement → Type 0
IsValueFixed (Nonlinear bend) args = Unit {0}
IsValueFixed Linear args = Unit {0}
IsValueFixed Product args = IsTrue (argument args (if (argument args 0).fixed then 0 else 1)).fixed
IsValueFixed Quotient args = IsTrue (argument args 1).fixed

-- the steepness along the ray d of a node that reaches a variable, where the nodes have the steepness f: that of a variable is
-- the ray's array, and that of a call its value at the steepness of its arguments
abbrev pub steep_by : List Node → Setting → (d : Point) → Head → List ℕ → (ℕ → Numbers) → Numbers
steep_by nodes s d (Variable v) args f = first_of (entries_of v.sides) (d v.number)
steep_by nodes s d (Parameter q) args f = zeros
steep_by nodes s d (Constant xs) args f = zeros
steep_by nodes s d (Apply c) args f =
    first_of c.size (c.value (taken_at c.kind (argument (map (judgement_at Plain nodes) args) 0).fixed (arguments (map (given_at nodes s) args)) (arguments (map f args))))

abbrev pub steep_if : List Node → Setting → (d : Point) → Option Node → (ℕ → Numbers) → Numbers
steep_if nodes s d None f = zeros
steep_if nodes s d (Some n) f = steep_by nodes s d n.head n.args f

-- a node that reaches no variable is level
abbrev pub steep_from : List Node → Setting → (d : Point) → (ℕ → Numbers) → ℕ → Numbers
steep_from nodes s d f i = if is_fixed nodes i then zeros else steep_if nodes s d (slice_get nodes i) f

-- followed through so many calls of calls
abbrev pub steep_within : List Node → Setting → (d : Point) → ℕ → ℕ → Numbers
steep_within nodes s d zero i = zeros
steep_within nodes s d (suc depth) i = steep_from nodes s d (steep_within nodes s d depth) i

-- the steepness of node i along the ray d, at the setting s and any point
unfoldable pub steep_at : List Node → Setting → (d : Point) → ℕ → Numbers
steep_at nodes s d i = steep_within nodes s d (suc i) i

-- f is the steepness of each node, from that of its arguments
abbrev pub AreSteep : List Node → Setting → (d : Point) → (ℕ → Numbers) → Type 0
AreSteep nodes s d f = (i : ℕ) (n : Node) → IsNode nodes i n → f i ≡ (if is_fixed nodes i then zeros else steep_by nodes s d n.head n.args f)
