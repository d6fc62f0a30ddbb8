-- The greatest and the least of several arrays, entry by entry: one is the other turned round.
use Rattle.std.specs.Prelude.{ℕ, ◌==◌, ◌&&◌, if◌then◌else◌, List, [], ◌∷◌, length, replicate, Option, Some, None, pos}
use Rattle.std.specs.List.{list_any, list_all}
use Rattle.dcx_math.specs.Rational.{whole}
use Rattle.dcx_shape.specs.declared.shape.Sides.{Sides}
use Rattle.dcx_shape.specs.Sides.{entries_of}
use Rattle.dcx_atom.specs.declared.flags.Sign.{Sign}
use Rattle.dcx_atom.specs.declared.flags.Bend.{Bend}
use Rattle.dcx_atom.specs.declared.flags.Bend.TheVariants.{Convex, Concave}
use Rattle.dcx_atom.specs.declared.graph.AuxKind.TheVariants.{Free}
use Rattle.dcx_atom.specs.Arrays.{list_below, sides_at, same_sides}
use Rattle.dcx_atom.specs.Signs.{rises}
use Rattle.dcx_atom.specs.Formed.{number}
use Rattle.dcx_atom.specs.Meaning.{Meaning}
use Rattle.dcx_atom.specs.Bounding.{argument_term, bound_row, outward, unknown_form, total_condition}
use Rattle.dcx_atom.specs.Farthest.{extreme}

-- the sides that as many arguments as the call takes, two or more, all have
abbrev pub alike : ℕ → List Sides → Option Sides
alike count [] = None
alike count (s ∷ []) = None
alike count (s ∷ r ∷ rs) = if count == length (s ∷ r ∷ rs) && list_all (same_sides s) (s ∷ r ∷ rs) then Some s else None

-- the greatest is nonneg if some is and nonpos if all are; the least is nonneg if all are and nonpos if some is
abbrev pub extreme_sign : Bend → List Sign → Sign
extreme_sign Convex signs = record { nonneg = list_any (λ s. s.nonneg) signs; nonpos = list_all (λ s. s.nonpos) signs }
extreme_sign Concave signs = record { nonneg = list_all (λ s. s.nonneg) signs; nonpos = list_any (λ s. s.nonpos) signs }

-- the greatest of `count` arrays, or the least, entry by entry: t is beyond each of them
abbrev pub extreme_meaning : Bend → ℕ → Meaning
extreme_meaning bend count = record {
  shape = alike count;
  bend = bend;
  trend = λ i sign. rises;
  sign = extreme_sign bend;
  value = λ args a j. extreme bend (list_below count (λ i. a i j));
  summands = λ args a j. extreme bend (list_below count (λ i. a i j)) ∷ [];
  kinds = λ args. replicate (entries_of (sides_at args 0)) Free;
  rows = λ args j. list_below count (λ i. bound_row bend j (argument_term i j (whole (pos 1))));
  result = λ args j. unknown_form j;
  filling = λ args a k. extreme bend (list_below count (λ i. a i k));
  conditions = λ args c w j. total_condition Free (outward bend (c j)) (list_below count (w j)) ∷ [];
  slope = λ args w i e. number (outward bend (w e i));
  slope_entries = λ args j. list_below count (λ i. record { argument = i; entry = j });
}
