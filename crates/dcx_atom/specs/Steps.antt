-- The steps by which slopes come from weights, in order, and the first that stops.
use Rattle.std.specs.Prelude.{◌≡◌, ℕ, zero, suc, ◌+◌, ◌<◌, Bool, if◌then◌else◌, List, [], ◌∷◌, ◌++◌, length, map, Option, Some, None, Result, Ok, Err, pos, ⊤}
use Rattle.dcx_math.specs.Rational.{ℚ, whole, rat_le, rat_eq}
use Rattle.dcx_frac.specs.declared.fraction.Frac.{Frac}
use Rattle.dcx_frac.specs.declared.fraction.Passes.{Passes}
use Rattle.dcx_shape.specs.declared.shape.Sides.{Sides}
use Rattle.dcx_shape.specs.Sides.{entries_of}
use Rattle.dcx_atom.specs.declared.stops.SlopeStop.{SlopeStop}
use Rattle.dcx_atom.specs.declared.stops.SlopeStop.TheVariants as stops
use Rattle.dcx_atom.specs.Arrays.{number_at, list_below, sides_at, entries_before, all_entries}
use Rattle.dcx_atom.specs.Formed.{Formula, number, exact, formed}
use Rattle.dcx_atom.specs.Meaning.{Meaning, Coefficients, Weights, Relation, at_most, equal, at_least, Condition}

-- a step: a condition is formed and tested, or a slope is formed
pub data Step : Type 0 where
  test : Condition → Step
  form : Formula → Step

-- the test of a relation
abbrev pub relates : Relation → ℚ → ℚ → Bool
relates at_most x y = rat_le x y
relates equal x y = rat_eq x y
relates at_least x y = rat_le y x

-- the test that a condition is met, by the exact numbers
abbrev pub is_met : Condition → Bool
is_met k = relates k.relation (exact k.left) (exact k.right)

-- a weight is at least 0
abbrev pub is_weight : ℚ → Condition
is_weight w = record { left = number w; relation = at_least; right = number (whole (pos 0)) }

-- the stop at a condition whose sides are formed: both sides, where it isn't met
abbrev pub broken_at : ℕ → Bool → Frac → Frac → Option SlopeStop
broken_at j met x y = if met then None else Some (stops.Refused j x y)

-- the stop at a condition: its first operation that passes, the left side first, or that it isn't met
abbrev pub condition_stop : ℕ → Bool → Result Frac Passes → Result Frac Passes → Option SlopeStop
condition_stop j met (Err passes) right = Some (stops.Passes passes)
condition_stop j met (Ok x) (Err passes) = Some (stops.Passes passes)
condition_stop j met (Ok x) (Ok y) = broken_at j met x y

-- the stop at a slope: its first operation that passes
abbrev pub slope_stop : Result Frac Passes → Option SlopeStop
slope_stop (Ok x) = None
slope_stop (Err passes) = Some (stops.Passes passes)

-- the stop at a step of result entry j
abbrev pub step_stop : ℕ → Step → Option SlopeStop
step_stop j (test k) = condition_stop j (is_met k) (formed k.left) (formed k.right)
step_stop j (form f) = slope_stop (formed f)

-- the first of two stops
abbrev pub earlier : Option SlopeStop → Option SlopeStop → Option SlopeStop
earlier (Some stop) later = Some stop
earlier None later = later

-- the first stop of the steps of result entry j
abbrev pub first_stop : ℕ → List Step → Option SlopeStop
first_stop j [] = None
first_stop j (step ∷ steps) = earlier (step_stop j step) (first_stop j steps)

-- the first stop where each weight is tested
abbrev pub weights_stop : ℕ → List ℚ → Option SlopeStop
weights_stop j ws = first_stop j (map (λ w. test (is_weight w)) ws)

-- the steps of result entry j: each weight of its rows is tested, then each condition, then each slope is formed
abbrev pub entry_steps : Meaning → List Sides → Coefficients → Weights → ℕ → List Step
entry_steps m args c w j =
    map (λ x. test (is_weight x)) (list_below (length (m.rows args j)) (w j))
    ++ map test (m.conditions args c w j)
    ++ map (λ x. form (m.slope args w x.argument x.entry)) (m.slope_entries args j)

-- the first stop of result entry j
abbrev pub entry_stop : Meaning → List Sides → Coefficients → Weights → ℕ → Option SlopeStop
entry_stop m args c w j = first_stop j (entry_steps m args c w j)

-- the rows of the result entries before entry j
abbrev pub rows_before : Meaning → List Sides → ℕ → ℕ
rows_before m args zero = 0
rows_before m args (suc j) = rows_before m args j + length (m.rows args j)

-- a list of weights, one for each row in order, by result entry and row
abbrev pub weights_of : Meaning → List Sides → List Frac → Weights
weights_of m args ws j r = number_at ws (rows_before m args j + r)

-- the slope that the list has for an entry of an argument: the arguments stand one after another
abbrev pub slope_at : List Sides → List Frac → ℕ → ℕ → ℚ
slope_at args gs i e = number_at gs (entries_before args i + e)

-- the slopes that these weights give for these coefficients: no step stops, and each entry of each argument has its slope
pub record AreSlopesOf (m : Meaning) (args : List Sides) (size : ℕ) (cs ws gs : List Frac) : Type 0 where
  pub no_stop : (j : ℕ) → j < size → entry_stop m args (number_at cs) (weights_of m args ws) j ≡ None
  pub count : length gs ≡ all_entries args
  pub slopes : (i e : ℕ) → i < length args → e < entries_of (sides_at args i) → slope_at args gs i e ≡ exact (m.slope args (weights_of m args ws) i e)

-- the stop is the first one: no earlier result entry has one, and it is the first of this entry
pub record IsFirstStop (m : Meaning) (args : List Sides) (size : ℕ) (cs ws : List Frac) (stop : SlopeStop) : Type 0 where
  pub entry : ℕ
  pub is_entry : entry < size
  pub before : (j : ℕ) → j < entry → entry_stop m args (number_at cs) (weights_of m args ws) j ≡ None
  pub here : entry_stop m args (number_at cs) (weights_of m args ws) entry ≡ Some stop

-- why there are no slopes: the first stop, or want of memory
abbrev pub IsSlopeStop : Meaning → List Sides → ℕ → List Frac → List Frac → SlopeStop → Type 0
IsSlopeStop m args size cs ws (stops.Refused entry stated found) = IsFirstStop m args size cs ws (stops.Refused entry stated found)
IsSlopeStop m args size cs ws (stops.Passes passes) = IsFirstStop m args size cs ws (stops.Passes passes)
IsSlopeStop m args size cs ws stops.Memory = ⊤
