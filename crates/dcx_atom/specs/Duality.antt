-- The dual of a graph: slopes are those of the weighted rows, and weights are accepted exactly where they let no auxiliary unknown
-- lower the sum of coefficients times results.
use Rattle.std.specs.Prelude.{◌≡◌, ℕ, ◌<◌, List, Some, pos}
use Rattle.std.specs.List.{All}
use Rattle.dcx_math.specs.Rational.{ℚ, whole, ◌+ℚ◌, ◌*ℚ◌}
use Rattle.dcx_math.specs.Sums.{IsNonnegative, rat_sum_below}
use Rattle.dcx_shape.specs.declared.shape.Sides.{Sides}
use Rattle.dcx_shape.specs.Sides.{entries_of}
use Rattle.dcx_atom.specs.Arrays.{Entries}
use Rattle.dcx_atom.specs.Rows.{Filling, form_at, KindsHold, weighted}
use Rattle.dcx_atom.specs.Meaning.{Meaning, Coefficients, Weights, IsMet}
use Rattle.dcx_atom.specs.Laws.{AreAccepted, slopes_times}

-- no argument entry, and no unknown
abbrev pub no_entries : Entries
no_entries i j = whole (pos 0)

abbrev pub no_filling : Filling
no_filling k = whole (pos 0)

-- the weighted rows of so many result entries, as a sum over the arguments
abbrev pub weighted_arguments : Meaning → List Sides → ℕ → Weights → Entries → ℚ
weighted_arguments m args size w a = rat_sum_below size (λ j. weighted (m.rows args j) (w j) a no_filling)

-- the slopes are those of the weighted rows
abbrev pub AreRowSlopes : Meaning → Type 0
AreRowSlopes m = (args : List Sides) (sides : Sides) → m.shape args ≡ Some sides → (w : Weights) (a : Entries) →
    slopes_times m args w a ≡ weighted_arguments m args (entries_of sides) w a

-- coefficients times results with the weighted rows, of the unknowns alone
abbrev pub balance : Meaning → List Sides → ℕ → Coefficients → Weights → Filling → ℚ
balance m args size c w t = rat_sum_below size (λ j. c j *ℚ form_at (m.result args j) t +ℚ weighted (m.rows args j) (w j) no_entries t)

-- unknowns of their kinds don't lower it
abbrev pub LetNothingLower : Meaning → List Sides → ℕ → Coefficients → Weights → Type 0
LetNothingLower m args size c w = (t : Filling) → KindsHold (m.kinds args) t → IsNonnegative (balance m args size c w t)

-- accepted weights let no unknown lower it
abbrev pub AreBalanced : Meaning → Type 0
AreBalanced m = (args : List Sides) (sides : Sides) → m.shape args ≡ Some sides → (c : Coefficients) (w : Weights) → AreAccepted m args (entries_of sides) c w →
    LetNothingLower m args (entries_of sides) c w

-- weights that do meet the conditions of slopes
abbrev pub AreDemanded : Meaning → Type 0
AreDemanded m = (args : List Sides) (sides : Sides) → m.shape args ≡ Some sides → (c : Coefficients) (w : Weights) → LetNothingLower m args (entries_of sides) c w →
    (j : ℕ) → j < entries_of sides → All IsMet (m.conditions args c w j)

-- the slopes of a call are those of its weighted rows, and weights that let no unknown lower the sum meet its conditions
pub record HasDualGraph (m : Meaning) : Type 0 where
  pub slopes : AreRowSlopes m
  pub demanded : AreDemanded m
