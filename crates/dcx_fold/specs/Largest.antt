-- The sum of the k largest entries, and of the k smallest: one is the other turned round.
use Rattle.std.specs.Prelude.{ℕ, zero, suc, ◌-◌, nat_le, ◌&&◌, if◌then◌else◌, List, [], ◌∷◌, ◌++◌, map, take, replicate, Option, Some, None, pos, negsuc}
use Rattle.dcx_math.specs.Rational.{ℚ, whole}
use Rattle.dcx_math.specs.Sums.{rat_sum, rat_at}
use Rattle.dcx_shape.specs.declared.shape.Sides.{Sides}
use Rattle.dcx_shape.specs.declared.shape.Sides.TheVariants.{Scalar}
use Rattle.dcx_shape.specs.Sides.{entries_of}
use Rattle.dcx_atom.specs.declared.flags.Bend.{Bend}
use Rattle.dcx_atom.specs.declared.flags.Bend.TheVariants.{Convex, Concave}
use Rattle.dcx_atom.specs.declared.graph.AuxKind.TheVariants.{Free, Nonneg}
use Rattle.dcx_atom.specs.Arrays.{list_below, sides_at}
use Rattle.dcx_atom.specs.Signs.{sign_at, rises}
use Rattle.dcx_atom.specs.Rows.{Row, Form}
use Rattle.dcx_atom.specs.Formed.{number, total, product}
use Rattle.dcx_atom.specs.Meaning.{Meaning, Condition, at_most, equal}
use Rattle.dcx_atom.specs.Bounding.{argument_term, unknown_term, outward}
use Rattle.dcx_fold.specs.Sorted.{falling, above}

-- one number, where the only argument has k entries or more, and k is at least 1
abbrev pub chosen_sides : ℕ → List Sides → Option Sides
chosen_sides k [] = None
chosen_sides k (s ∷ []) = if nat_le 1 k && nat_le k (entries_of s) then Some Scalar else None
chosen_sides k (s ∷ r ∷ rs) = None

-- n numbers in falling order, as the call counts them: those of a concave call are turned
abbrev pub ordered : Bend → ℕ → (ℕ → ℚ) → List ℚ
ordered bend n x = falling (list_below n (λ i. outward bend (x i)))

-- the k largest of n numbers from the greatest down, or the k smallest from the least up
abbrev pub chosen : Bend → ℕ → ℕ → (ℕ → ℚ) → List ℚ
chosen bend k n x = map (outward bend) (take k (ordered bend n x))

-- the last of them, as the call counts it
abbrev pub chosen_level : Bend → ℕ → ℕ → (ℕ → ℚ) → ℚ
chosen_level bend k n x = rat_at (ordered bend n x) (k - 1)

-- the entry is at most q and its own unknown, or at least q without it: q is unknown 0, that of entry i unknown i + 1
abbrev pub level_row : Bend → ℕ → Row
level_row Convex i = argument_term 0 i (whole (pos 1)) ∷ unknown_term 0 (whole (negsuc 0)) ∷ unknown_term (suc i) (whole (negsuc 0)) ∷ []
level_row Concave i = unknown_term 0 (whole (pos 1)) ∷ unknown_term (suc i) (whole (negsuc 0)) ∷ argument_term 0 i (whole (negsuc 0)) ∷ []

-- k q and all the others, or k q without them
abbrev pub level_form : Bend → ℕ → ℕ → Form
level_form bend k n = record { aux = 0; coefficient = whole (pos k) } ∷ list_below n (λ i. record { aux = suc i; coefficient = outward bend (whole (pos 1)) })

-- q is the last of the chosen entries, and each other unknown what stands above it
abbrev pub level_filling : Bend → ℕ → ℕ → (ℕ → ℚ) → ℕ → ℚ
level_filling bend k n x zero = outward bend (chosen_level bend k n x)
level_filling bend k n x (suc i) = above (chosen_level bend k n x) (outward bend (x i))

-- each weight is at most c, and they sum to k c; of a concave call to -k c, and each is at most -c
abbrev pub each_condition : Bend → ℚ → ℚ → Condition
each_condition bend c w = record { left = number w; relation = at_most; right = number (outward bend c) }

abbrev pub sum_condition : Bend → ℕ → ℚ → List ℚ → Condition
sum_condition bend k c ws = record { left = total ws; relation = equal; right = product (outward bend (whole (pos k))) c }

abbrev pub level_conditions : Bend → ℕ → ℚ → List ℚ → List Condition
level_conditions bend k c ws = map (each_condition bend c) ws ++ sum_condition bend k c ws ∷ []

-- the sum of the k largest entries, or of the k smallest
abbrev pub largest_meaning : Bend → ℕ → Meaning
largest_meaning bend k = record {
  shape = chosen_sides k;
  bend = bend;
  trend = λ i sign. rises;
  sign = λ signs. sign_at signs 0;
  value = λ args a j. rat_sum (chosen bend k (entries_of (sides_at args 0)) (a 0));
  summands = λ args a j. chosen bend k (entries_of (sides_at args 0)) (a 0);
  kinds = λ args. Free ∷ replicate (entries_of (sides_at args 0)) Nonneg;
  rows = λ args j. list_below (entries_of (sides_at args 0)) (level_row bend);
  result = λ args j. level_form bend k (entries_of (sides_at args 0));
  filling = λ args a u. level_filling bend k (entries_of (sides_at args 0)) (a 0) u;
  conditions = λ args c w j. level_conditions bend k (c j) (list_below (entries_of (sides_at args 0)) (w j));
  slope = λ args w i e. number (outward bend (w 0 e));
  slope_entries = λ args j. list_below (entries_of (sides_at args 0)) (λ i. record { argument = 0; entry = i });
}
