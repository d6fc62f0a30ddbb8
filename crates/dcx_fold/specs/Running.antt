-- The running maximum of a vector.
use Rattle.std.specs.Prelude.{ℕ, zero, suc, ◌+◌, ◌*◌, nat_lt, if◌then◌else◌, List, [], ◌∷◌, ◌++◌, map, replicate, Option, Some, None, pos}
use Rattle.dcx_math.specs.Rational.{ℚ, whole}
use Rattle.dcx_shape.specs.declared.shape.Sides.{Sides}
use Rattle.dcx_shape.specs.declared.shape.Sides.TheVariants.{Scalar, Vector, Matrix}
use Rattle.dcx_shape.specs.Sides.{entries_of}
use Rattle.dcx_atom.specs.declared.flags.Bend.TheVariants.{Convex}
use Rattle.dcx_atom.specs.declared.graph.AuxKind.TheVariants.{Free}
use Rattle.dcx_frac.specs.declared.fraction.Frac.{Frac}
use Rattle.dcx_atom.specs.Arrays.{list_below, sides_at, number_at}
use Rattle.dcx_atom.specs.Signs.{sign_at, rises}
use Rattle.dcx_atom.specs.Rows.{Row}
use Rattle.dcx_atom.specs.Formed.{number, total}
use Rattle.dcx_atom.specs.Meaning.{Meaning, Condition, equal}
use Rattle.dcx_atom.specs.Steps.{Step, test, is_weight}
use Rattle.dcx_atom.specs.Bounding.{argument_term, unknown_term, bound_row, unknown_form}
use Rattle.dcx_atom.specs.Farthest.{extreme}

-- the sides of the only argument, a vector
abbrev pub only_vector : List Sides → Option Sides
only_vector [] = None
only_vector (Scalar ∷ []) = None
only_vector (Vector n ∷ []) = Some (Vector n)
only_vector (Matrix m n ∷ []) = None
only_vector (s ∷ r ∷ rs) = None

-- the greatest of the numbers so far
abbrev pub greatest_so_far : (ℕ → ℚ) → ℕ → ℚ
greatest_so_far x j = extreme Convex (list_below (suc j) x)

-- unknown j is at least entry j, and at least the unknown before it
abbrev pub running_rows : ℕ → List Row
running_rows zero = bound_row Convex 0 (argument_term 0 0 (whole (pos 1))) ∷ []
running_rows (suc i) = bound_row Convex (suc i) (argument_term 0 (suc i) (whole (pos 1))) ∷ bound_row Convex (suc i) (unknown_term i (whole (pos 1))) ∷ []

-- the weights of entry j's rows
abbrev pub own_weights : ℕ → (ℕ → ℚ) → List ℚ
own_weights zero w = w 0 ∷ []
own_weights (suc i) w = w 0 ∷ w 1 ∷ []

-- the weight of the row by which the next of n unknowns is at least unknown j, where there is one
abbrev pub next_weights : ℕ → (ℕ → ℕ → ℚ) → ℕ → List ℚ
next_weights n w j = if nat_lt (suc j) n then w (suc j) 1 ∷ [] else []

-- the weights of entry j sum to its coefficient and the weight that carries it on
abbrev pub running_condition : ℕ → ℚ → (ℕ → ℕ → ℚ) → ℕ → Condition
running_condition n c w j = record { left = total (own_weights j (w j)); relation = equal; right = total (c ∷ next_weights n w j) }

abbrev pub running_meaning : Meaning
running_meaning = record {
  shape = only_vector;
  bend = Convex;
  trend = λ i sign. rises;
  sign = λ signs. sign_at signs 0;
  value = λ args a j. greatest_so_far (a 0) j;
  summands = λ args a j. greatest_so_far (a 0) j ∷ [];
  kinds = λ args. replicate (entries_of (sides_at args 0)) Free;
  rows = λ args j. running_rows j;
  result = λ args j. unknown_form j;
  filling = λ args a k. greatest_so_far (a 0) k;
  conditions = λ args c w j. running_condition (entries_of (sides_at args 0)) (c j) w j ∷ [];
  slope = λ args w i e. number (w e 0);
  slope_entries = λ args j. record { argument = 0; entry = j } ∷ [];
}

-- how many rows stand before those of entry j: one for the first entry, and two for each other one
abbrev pub rows_until : ℕ → ℕ
rows_until zero = 0
rows_until (suc i) = suc (i * 2)

-- a list of weights, by entry and row
abbrev pub running_weights : List Frac → ℕ → ℕ → ℚ
running_weights ws j r = number_at ws (rows_until j + r)

-- the tests of entry j: each weight, and the condition
abbrev pub running_tests : ℕ → ℚ → (ℕ → ℕ → ℚ) → ℕ → List Step
running_tests n c w j = map (λ x. test (is_weight x)) (own_weights j (w j)) ++ test (running_condition n c w j) ∷ []
