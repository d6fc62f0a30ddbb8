-- Nodes: variables, parameters, constants, and calls of earlier nodes. What they stand for at a point and a setting.
use Rattle.std.specs.Prelude.{◌≡◌, ◌≢◌, ℕ, zero, suc, ◌<◌, List, length, map, Option, Some, None, nat_lt, if◌then◌else◌, slice_get, slice_index_or, pos}
use Rattle.std.specs.List.{All}
use Rattle.dcx_math.specs.Rational.{ℚ, whole, ◌≤ℚ◌}
use Rattle.dcx_math.specs.Sums.{IsNonnegative, rat_at}
use Rattle.dcx_shape.specs.declared.shape.Sides.{Sides}
use Rattle.dcx_shape.specs.Sides.{entries_of}
use Rattle.dcx_shape.specs.Places.{HasEntry}
use Rattle.dcx_atom.specs.Arrays.{Entries, entry_at}
use Rattle.dcx_convex.specs.Calls.{Kind, Nonlinear, Linear, Product, Quotient, Call, IsLawful}

-- what is demanded of the entries of a variable or parameter
pub data Attribute : Type 0 where
  Free : Attribute
  Nonneg : Attribute
  Nonpos : Attribute
  Symmetric : Attribute
  Diag : Attribute

-- a declared variable or parameter; the variables are numbered in order of declaration, and so are the parameters
pub record Declared : Type 0 where
  pub number : ℕ
  pub sides : Sides
  pub attribute : Attribute

-- what a node is
pub data Head : Type 0 where
  Variable : Declared → Head
  Parameter : Declared → Head
  Constant : List ℚ → Head
  Apply : Call → Head

-- a node, and the positions of its arguments
pub record Node : Type 0 where
  pub head : Head
  pub args : List ℕ

-- the numbers of an array by their places, and 0 past its end
abbrev pub Numbers : Type 0
Numbers = ℕ → ℚ

-- an array for each variable, by its number
abbrev pub Point : Type 0
Point = Entries

-- an array for each parameter, by its number
abbrev pub Setting : Type 0
Setting = Entries

-- n is node i
abbrev pub IsNode : List Node → ℕ → Node → Type 0
IsNode nodes i n = slice_get nodes i ≡ Some n

-- P holds of each node
abbrev pub EachNode : List Node → (Node → Type 0) → Type 0
EachNode nodes P = (i : ℕ) (n : Node) → IsNode nodes i n → P n

-- each argument stands before its node
abbrev pub IsOrdered : List Node → Type 0
IsOrdered nodes = (i : ℕ) (n : Node) → IsNode nodes i n → All (λ a. a < i) n.args

-- ---- what is told of a node from what is told of its arguments, and so of the finite tree that its positions unfold to
-- what a rule tells of a node, where f is told of the positions, and none where there is no node
abbrev pub told : {A : Type 0} → A → (Head → List A → A) → (ℕ → A) → Option Node → A
told none rule f None = none
told none rule f (Some n) = rule n.head (map f n.args)

-- what a rule tells of node i, followed through so many calls of calls
abbrev pub told_within : {A : Type 0} → A → (Head → List A → A) → List Node → ℕ → ℕ → A
told_within none rule nodes zero i = none
told_within none rule nodes (suc depth) i = told none rule (told_within none rule nodes depth) (slice_get nodes i)

-- what a rule tells of node i: since arguments are earlier, its calls are at most i + 1 deep
abbrev pub told_of : {A : Type 0} → A → (Head → List A → A) → List Node → ℕ → A
told_of none rule nodes i = told_within none rule nodes (suc i) i

-- f is what the rule tells of each node
abbrev pub Tells : {A : Type 0} → (Head → List A → A) → List Node → (ℕ → A) → Type 0
Tells rule nodes f = (i : ℕ) (n : Node) → IsNode nodes i n → f i ≡ rule n.head (map f n.args)

-- the nodes `after` are those of `before` under new positions: node i stood at `old i`
abbrev pub AreRenumbered : List Node → (ℕ → ℕ) → List Node → Type 0
AreRenumbered before old after = (i : ℕ) (n : Node) → IsNode after i n → IsNode before (old i) (record { head = n.head; args = map old n.args })

-- ---- values
abbrev pub zeros : Numbers
zeros j = whole (pos 0)

-- the first n numbers
abbrev pub first_of : ℕ → Numbers → Numbers
first_of n f j = if nat_lt j n then f j else whole (pos 0)

-- arrays as arguments
abbrev pub arguments : List Numbers → Entries
arguments arrays i = slice_index_or arrays i zeros

-- the value of a node at a setting and a point, from those of its arguments
abbrev pub value_by : Setting → Point → Head → List Numbers → Numbers
value_by s x (Variable d) args = first_of (entries_of d.sides) (x d.number)
value_by s x (Parameter d) args = first_of (entries_of d.sides) (s d.number)
value_by s x (Constant xs) args = rat_at xs
value_by s x (Apply c) args = first_of c.size (c.value (arguments args))

-- the value of node i
unfoldable pub value_at : List Node → Setting → Point → ℕ → Numbers
value_at nodes s x i = told_of zeros (value_by s x) nodes i

-- ---- the domain, and settings that fit
-- the entries are as the attribute says
abbrev pub Keeps : Attribute → Sides → Numbers → Type 0
Keeps Free sides x = Unit {0}
Keeps Nonneg sides x = (j : ℕ) → j < entries_of sides → IsNonnegative (x j)
Keeps Nonpos sides x = (j : ℕ) → j < entries_of sides → x j ≤ℚ whole (pos 0)
Keeps Symmetric sides x = (i j : ℕ) → HasEntry sides i j → entry_at sides x i j ≡ entry_at sides x j i
Keeps Diag sides x = (i j : ℕ) → HasEntry sides i j → i ≢ j → entry_at sides x i j ≡ whole (pos 0)

abbrev pub VariableKeeps : Point → Head → Type 0
VariableKeeps x (Variable d) = Keeps d.attribute d.sides (x d.number)
VariableKeeps x (Parameter d) = Unit {0}
VariableKeeps x (Constant xs) = Unit {0}
VariableKeeps x (Apply c) = Unit {0}

abbrev pub ParameterKeeps : Setting → Head → Type 0
ParameterKeeps s (Variable d) = Unit {0}
ParameterKeeps s (Parameter d) = Keeps d.attribute d.sides (s d.number)
ParameterKeeps s (Constant xs) = Unit {0}
ParameterKeeps s (Apply c) = Unit {0}

-- x is in the domain: each variable is as its attribute says
abbrev pub IsInDomain : List Node → Point → Type 0
IsInDomain nodes x = EachNode nodes (λ n. VariableKeeps x n.head)

-- where the call is a quotient, no entry of its divisor is 0
abbrev pub DividesByNoZero : Kind → ℕ → Numbers → Type 0
DividesByNoZero (Nonlinear bend) size divisor = Unit {0}
DividesByNoZero Linear size divisor = Unit {0}
DividesByNoZero Product size divisor = Unit {0}
DividesByNoZero Quotient size divisor = (j : ℕ) → j < size → divisor j ≢ whole (pos 0)

abbrev pub HasNoZeroDivisor : Head → List Numbers → Type 0
HasNoZeroDivisor (Variable d) args = Unit {0}
HasNoZeroDivisor (Parameter d) args = Unit {0}
HasNoZeroDivisor (Constant xs) args = Unit {0}
HasNoZeroDivisor (Apply c) args = DividesByNoZero c.kind c.size (arguments args 1)

-- s fits: each parameter is as its attribute says, and nothing is divided by 0, at any point. In an accepted problem a
-- divisor reaches no variable, so that it has one value at all points
pub record Fits (nodes : List Node) (s : Setting) : Type 0 where
  pub parameters : EachNode nodes (λ n. ParameterKeeps s n.head)
  pub divisors : (x : Point) → EachNode nodes (λ n. HasNoZeroDivisor n.head (map (value_at nodes s x) n.args))

-- ---- the calls are lawful
abbrev pub IsLawfulHead : Head → ℕ → Type 0
IsLawfulHead (Variable d) count = Unit {0}
IsLawfulHead (Parameter d) count = Unit {0}
IsLawfulHead (Constant xs) count = Unit {0}
IsLawfulHead (Apply c) count = IsLawful c count

-- each call keeps the laws of calls
abbrev pub AreLawful : List Node → Type 0
AreLawful nodes = EachNode nodes (λ n. IsLawfulHead n.head (length n.args))
