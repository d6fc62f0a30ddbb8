-- The laws of a nonlinear call, over exact numbers of any size and all arguments.
use Rattle.std.specs.Prelude.{◌≡◌, ℕ, ◌<◌, List, Some, length, pos}
use Rattle.std.specs.List.{All}
use Rattle.dcx_math.specs.Rational.{ℚ, whole, ◌+ℚ◌, ◌*ℚ◌, ◌≤ℚ◌}
use Rattle.dcx_math.specs.Sums.{IsNonnegative, rat_sum, rat_sum_below}
use Rattle.dcx_shape.specs.declared.shape.Sides.{Sides}
use Rattle.dcx_shape.specs.Sides.{entries_of}
use Rattle.dcx_atom.specs.declared.flags.Sign.{Sign}
use Rattle.dcx_atom.specs.Arrays.{Entries, sides_at}
use Rattle.dcx_atom.specs.Formed.{exact}
use Rattle.dcx_atom.specs.Signs.{HasSign, sign_at, HaveSigns, IsBeyond, Follows, combination, shifted}
use Rattle.dcx_atom.specs.Rows.{Filling, RowsHold, KindsHold, form_at}
use Rattle.dcx_atom.specs.Meaning.{Meaning, Coefficients, Weights, IsMet}

-- a statement about each entry j of each value that the call has
abbrev pub ForEachEntry : Meaning → (List Sides → ℕ → Type 0) → Type 0
ForEachEntry m P = (args : List Sides) (sides : Sides) → m.shape args ≡ Some sides → (j : ℕ) → j < entries_of sides → P args j

-- each entry is the sum of its summands
abbrev pub SumsUp : Meaning → Type 0
SumsUp m = ForEachEntry m (λ args j. (a : Entries) → m.value args a j ≡ rat_sum (m.summands args a j))

-- the value has the sign that is told
abbrev pub KeepsSign : Meaning → Type 0
KeepsSign m = ForEachEntry m (λ args j. (signs : List Sign) (a : Entries) → length signs ≡ length args → HaveSigns signs a →
    HasSign (m.sign signs) (m.value args a j))

-- where `a` has the signs, and each entry of b is that of a or has gone from there as the trend allows, the value at b is beyond that at a
abbrev pub KeepsTrend : Meaning → Type 0
KeepsTrend m = ForEachEntry m (λ args j. (signs : List Sign) (a b : Entries) → HaveSigns signs a →
    ((i k : ℕ) → Follows m.bend (m.trend i (sign_at signs i)) (a i k) (b i k)) → IsBeyond m.bend (m.value args a j) (m.value args b j))

-- the value between two arguments isn't beyond the line between its values there
abbrev pub IsBent : Meaning → Type 0
IsBent m = ForEachEntry m (λ args j. (p q : ℚ) (a b : Entries) → IsNonnegative p → IsNonnegative q → p +ℚ q ≡ whole (pos 1) →
    IsBeyond m.bend (m.value args (combination p q a b) j) (p *ℚ m.value args a j +ℚ q *ℚ m.value args b j))

-- the kinds and rows of a graph hold for a value of so many entries
pub record GraphHolds (m : Meaning) (args : List Sides) (size : ℕ) (a : Entries) (t : Filling) : Type 0 where
  pub kinds : KindsHold (m.kinds args) t
  pub rows : (j : ℕ) → j < size → RowsHold (m.rows args j) a t

-- where the graph holds, each result is beyond the value
abbrev pub IsSoundGraph : Meaning → Type 0
IsSoundGraph m = (args : List Sides) (sides : Sides) → m.shape args ≡ Some sides → (a : Entries) (t : Filling) → GraphHolds m args (entries_of sides) a t →
    (j : ℕ) → j < entries_of sides → IsBeyond m.bend (m.value args a j) (form_at (m.result args j) t)

-- the graph holds for the filling, and each result is the value
pub record IsTightAt (m : Meaning) (args : List Sides) (size : ℕ) (a : Entries) (t : Filling) : Type 0 where
  pub holds : GraphHolds m args size a t
  pub reaches : (j : ℕ) → j < size → form_at (m.result args j) t ≡ m.value args a j

abbrev pub IsTightGraph : Meaning → Type 0
IsTightGraph m = (args : List Sides) (sides : Sides) → m.shape args ≡ Some sides → (a : Entries) → IsTightAt m args (entries_of sides) a (m.filling args a)

-- each weight of a row is at least 0, and each condition is met
pub record AreAccepted (m : Meaning) (args : List Sides) (size : ℕ) (c : Coefficients) (w : Weights) : Type 0 where
  pub weights : (j r : ℕ) → j < size → r < length (m.rows args j) → IsNonnegative (w j r)
  pub conditions : (j : ℕ) → j < size → All IsMet (m.conditions args c w j)

-- the sum of slopes times entries of the arguments
abbrev pub slopes_times : Meaning → List Sides → Weights → Entries → ℚ
slopes_times m args w a = rat_sum_below (length args) (λ i. rat_sum_below (entries_of (sides_at args i)) (λ e. exact (m.slope args w i e) *ℚ a i e))

-- where the weights are accepted, the slopes bound the sum of coefficients times values from below, at all arguments
abbrev pub HasSubgradients : Meaning → Type 0
HasSubgradients m = (args : List Sides) (sides : Sides) → m.shape args ≡ Some sides → (c : Coefficients) (w : Weights) → AreAccepted m args (entries_of sides) c w →
    (a : Entries) → slopes_times m args w a ≤ℚ rat_sum_below (entries_of sides) (λ j. c j *ℚ m.value args a j)

-- the value along a ray isn't beyond its value at the start and so many times that of the ray
abbrev pub Recedes : Meaning → Type 0
Recedes m = ForEachEntry m (λ args j. (a b : Entries) (k : ℚ) → IsNonnegative k →
    IsBeyond m.bend (m.value args (shifted a k b) j) (m.value args a j +ℚ k *ℚ m.value args b j))
