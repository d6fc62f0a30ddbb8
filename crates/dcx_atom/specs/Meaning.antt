-- All that a nonlinear call is: its shape, value, sign and trend, the rows that stand for it, and what weights of these
-- rows show. It speaks of exact numbers of any size; arguments are lists of sides and functions of their places.
use Rattle.std.specs.Prelude.{◌≡◌, ℕ, List, Option}
use Rattle.dcx_math.specs.Rational.{ℚ, ◌≤ℚ◌}
use Rattle.dcx_shape.specs.declared.shape.Sides.{Sides}
use Rattle.dcx_atom.specs.declared.flags.Sign.{Sign}
use Rattle.dcx_atom.specs.declared.flags.Trend.{Trend}
use Rattle.dcx_atom.specs.declared.flags.Bend.{Bend}
use Rattle.dcx_atom.specs.declared.graph.AuxKind.{AuxKind}
use Rattle.dcx_atom.specs.Arrays.{Entries}
use Rattle.dcx_atom.specs.Formed.{Formula, exact}
use Rattle.dcx_atom.specs.Rows.{Filling, Row, Form}

-- the coefficient of each result entry
abbrev pub Coefficients : Type 0
Coefficients = ℕ → ℚ

-- the weight of each row, by result entry and by row of that entry
abbrev pub Weights : Type 0
Weights = ℕ → ℕ → ℚ

-- how the two sides of a condition stand to each other
pub data Relation : Type 0 where
  at_most : Relation
  equal : Relation
  at_least : Relation

-- a condition on the weights, with its sides as they are formed
pub record Condition : Type 0 where
  pub left : Formula
  pub relation : Relation
  pub right : Formula

-- two numbers stand in this relation
abbrev pub Relates : Relation → ℚ → ℚ → Type 0
Relates at_most x y = x ≤ℚ y
Relates equal x y = x ≡ y
Relates at_least x y = y ≤ℚ x

-- the exact sides of a condition meet it
abbrev pub IsMet : Condition → Type 0
IsMet k = Relates k.relation (exact k.left) (exact k.right)

-- an entry of an argument
pub record ArgumentEntry : Type 0 where
  pub argument : ℕ
  pub entry : ℕ

pub record Meaning : Type 0 where
  -- the sides of the value; None where the call has no value
  pub shape : List Sides → Option Sides
  pub bend : Bend
  -- how the value moves with argument i, where that has this sign
  pub trend : ℕ → Sign → Trend
  -- the sign of the value, from those of the arguments
  pub sign : List Sign → Sign
  -- entry j of the value
  pub value : List Sides → Entries → ℕ → ℚ
  -- the numbers as whose sum, in this order, entry j is formed; each is an entry of an argument up to its sign, or 0
  pub summands : List Sides → Entries → ℕ → List ℚ
  -- the auxiliary unknowns of the graph
  pub kinds : List Sides → List AuxKind
  -- its rows that belong to result entry j
  pub rows : List Sides → ℕ → List Row
  -- its result entry j
  pub result : List Sides → ℕ → Form
  -- auxiliary unknowns under which each result is the value
  pub filling : List Sides → Entries → Filling
  -- the conditions on the weights of result entry j, beside that each is at least 0
  pub conditions : List Sides → Coefficients → Weights → ℕ → List Condition
  -- the slope of an entry of an argument
  pub slope : List Sides → Weights → ℕ → ℕ → Formula
  -- the entries whose slopes are formed at result entry j, in this order
  pub slope_entries : List Sides → ℕ → List ArgumentEntry
