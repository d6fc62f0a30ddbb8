-- Certificates: coefficients of the nodes, and slopes that hand them on to the arguments, which bound the Lagrangian from
-- below at every point of the domain. Nothing of the rules enters but which nodes reach no variable.
use Rattle.std.specs.Prelude.{◌≡◌, ℕ, ◌<◌, Bool, if◌then◌else◌, IsTrue, IsFalse, List, length, map, Option, Some, None, slice_get, slice_index_or, pos}
use Rattle.dcx_math.specs.Rational.{ℚ, whole, ◌+ℚ◌, ◌*ℚ◌, ◌≤ℚ◌}
use Rattle.dcx_math.specs.Sums.{IsNonnegative, rat_sum_below}
use Rattle.dcx_shape.specs.declared.shape.Sides.{Sides}
use Rattle.dcx_shape.specs.Sides.{rows_of, cols_of, entries_of}
use Rattle.dcx_shape.specs.Places.{HasEntry}
use Rattle.dcx_atom.specs.Arrays.{Entries, entry_at}
use Rattle.dcx_convex.specs.Calls.{Call}
use Rattle.dcx_convex.specs.Nodes.{Attribute, Free, Nonneg, Nonpos, Symmetric, Diag, Head, Variable, Parameter, Constant, Apply, Node, IsNode, Numbers, Setting, zeros, arguments, value_at, Keeps}
use Rattle.dcx_convex.specs.Rules.{Plain, argument, judgement_at}

-- how many entries a node has
abbrev pub size_of : Head → ℕ
size_of (Variable d) = entries_of d.sides
size_of (Parameter d) = entries_of d.sides
size_of (Constant xs) = length xs
size_of (Apply c) = c.size

abbrev pub size_if : Option Node → ℕ
size_if None = 0
size_if (Some n) = size_of n.head

abbrev pub size_at : List Node → ℕ → ℕ
size_at nodes i = size_if (slice_get nodes i)

-- a coefficient for each entry of each node
abbrev pub Coefficients : Type 0
Coefficients = ℕ → Numbers

-- a slope for each entry of each argument of each node
abbrev pub Slopes : Type 0
Slopes = ℕ → ℕ → Numbers

-- the sum of so many coefficients times numbers
abbrev pub times : ℕ → Numbers → Numbers → ℚ
times n c v = rat_sum_below n (λ e. c e *ℚ v e)

-- the sum of slopes times arguments
abbrev pub slopes_times : List Node → List ℕ → (ℕ → Numbers) → Entries → ℚ
slopes_times nodes args g a = rat_sum_below (length args) (λ k. times (size_at nodes (slice_index_or args k 0)) (g k) (a k))

-- it reaches no variable, as the rules say
abbrev pub is_fixed : List Node → ℕ → Bool
is_fixed nodes i = (judgement_at Plain nodes i).fixed

-- ---- what the coefficients are collected from
-- what a node hands on to its arguments, where the nodes have the arrays f: its slopes times them
abbrev pub handed_by : List Node → Head → List ℕ → (ℕ → Numbers) → (ℕ → Numbers) → ℚ
handed_by nodes (Variable d) args g f = whole (pos 0)
handed_by nodes (Parameter d) args g f = whole (pos 0)
handed_by nodes (Constant xs) args g f = whole (pos 0)
handed_by nodes (Apply c) args g f = slopes_times nodes args g (arguments (map f args))

abbrev pub handed_if : List Node → Option Node → (ℕ → Numbers) → (ℕ → Numbers) → ℚ
handed_if nodes None g f = whole (pos 0)
handed_if nodes (Some n) g f = handed_by nodes n.head n.args g f

-- only a call that reaches a variable hands on anything
abbrev pub handed_at : List Node → Slopes → (ℕ → Numbers) → ℕ → ℚ
handed_at nodes g f i = if is_fixed nodes i then whole (pos 0) else handed_if nodes (slice_get nodes i) (g i) f

-- the coefficients collect `start` and all that is handed on: over any arrays f of the nodes, coefficients times arrays are the start and what the nodes hand on
abbrev pub AreCollected : List Node → ((ℕ → Numbers) → ℚ) → Coefficients → Slopes → Type 0
AreCollected nodes start c g = (f : ℕ → Numbers) →
    rat_sum_below (length nodes) (λ i. times (size_at nodes i) (c i) (f i)) ≡ start f +ℚ rat_sum_below (length nodes) (handed_at nodes g f)

-- ---- when coefficients may be handed on
-- coefficients are in the dual cone of an attribute: their sum with all arrays that keep it is at least 0
abbrev pub IsInDualCone : Attribute → Sides → Numbers → Type 0
IsInDualCone attribute sides c = (x : Numbers) → Keeps attribute sides x → IsNonnegative (times (entries_of sides) c x)

-- a symmetric matrix has as many rows as columns
abbrev pub HasSides : Attribute → Sides → Type 0
HasSides Free sides = Unit {0}
HasSides Nonneg sides = Unit {0}
HasSides Nonpos sides = Unit {0}
HasSides Symmetric sides = rows_of sides ≡ cols_of sides
HasSides Diag sides = Unit {0}

-- the test for the dual cone: a coefficient is 0 where its entry is free, at least 0 where it is nonneg, and at most 0 where it is
-- nonpos; of a symmetric matrix the coefficients of (i, j) and (j, i) sum to 0, and of a diagonal one those on the diagonal are 0
abbrev pub MayReach : Attribute → Sides → Numbers → Type 0
MayReach Free sides c = (j : ℕ) → j < entries_of sides → c j ≡ whole (pos 0)
MayReach Nonneg sides c = (j : ℕ) → j < entries_of sides → IsNonnegative (c j)
MayReach Nonpos sides c = (j : ℕ) → j < entries_of sides → c j ≤ℚ whole (pos 0)
MayReach Symmetric sides c = (i j : ℕ) → HasEntry sides i j → entry_at sides c i j +ℚ entry_at sides c j i ≡ whole (pos 0)
MayReach Diag sides c = (i : ℕ) → HasEntry sides i i → entry_at sides c i i ≡ whole (pos 0)

-- at all arguments that are as given where they reach no variable, slopes times arguments are at most coefficients times the value
abbrev pub AreSlopes : List Node → Call → List ℕ → (given : ℕ → Numbers) → Numbers → (ℕ → Numbers) → Type 0
AreSlopes nodes call args given c g = (a : Entries) →
    ((k : ℕ) → IsTrue (argument (map (judgement_at Plain nodes) args) k).fixed → a k ≡ arguments (map given args) k) →
    slopes_times nodes args g a ≤ℚ times call.size c (call.value a)

-- the coefficients of a node may be handed on with these slopes; `given` are the values of the nodes that reach no variable
abbrev pub MayHandOn : List Node → (given : ℕ → Numbers) → Head → List ℕ → Numbers → (ℕ → Numbers) → Type 0
MayHandOn nodes given (Variable d) args c g = IsInDualCone d.attribute d.sides c
MayHandOn nodes given (Parameter d) args c g = Unit {0}
MayHandOn nodes given (Constant xs) args c g = Unit {0}
MayHandOn nodes given (Apply call) args c g = AreSlopes nodes call args given c g

-- the values of the nodes that reach no variable, as at any point
abbrev pub given_at : List Node → Setting → ℕ → Numbers
given_at nodes s = value_at nodes s (λ number. zeros)

pub record IsCertificate (nodes : List Node) (s : Setting) (start : (ℕ → Numbers) → ℚ) (c : Coefficients) (g : Slopes) : Type 0 where
  pub collected : AreCollected nodes start c g
  pub handed : (i : ℕ) (n : Node) → IsNode nodes i n → IsFalse (is_fixed nodes i) → MayHandOn nodes (given_at nodes s) n.head n.args (c i) (g i)

-- ---- the bound
-- coefficients times values of the nodes that reach no variable
abbrev pub total : List Node → Setting → Coefficients → ℚ
total nodes s c = rat_sum_below (length nodes) (λ i. if is_fixed nodes i then times (size_at nodes i) (c i) (given_at nodes s i) else whole (pos 0))
