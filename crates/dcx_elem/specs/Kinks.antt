-- The magnitude of a number, its part above 0 and the size of its part below 0, entry by entry.
use Rattle.std.specs.Prelude.{ℕ, List, [], ◌∷◌, map, ◌++◌, length, replicate, true, false, pos, negsuc}
use Rattle.dcx_math.specs.Rational.{ℚ, whole, neg_ℚ, rat_abs, rat_max}
use Rattle.dcx_shape.specs.Sides.{entries_of}
use Rattle.dcx_atom.specs.declared.flags.Sign.{Sign}
use Rattle.dcx_atom.specs.declared.flags.Trend.{Trend}
use Rattle.dcx_atom.specs.declared.flags.Bend.TheVariants.{Convex}
use Rattle.dcx_atom.specs.declared.graph.AuxKind.TheVariants.{Nonneg}
use Rattle.dcx_atom.specs.Arrays.{list_below, sides_at}
use Rattle.dcx_atom.specs.Formed.{Formula, number, difference}
use Rattle.dcx_atom.specs.Meaning.{Meaning}
use Rattle.dcx_atom.specs.Steps.{Step, form}
use Rattle.dcx_elem.specs.declared.kinks.Kink.{Kink}
use Rattle.dcx_elem.specs.declared.kinks.Kink.TheVariants.{Abs, Pos, Neg}
use Rattle.dcx_atom.specs.Bounding.{argument_term, bound_row, unknown_form, total_condition, total_steps, only}

-- |x|, max(x, 0) and max(-x, 0)
abbrev pub kink_at : Kink → ℚ → ℚ
kink_at Abs x = rat_abs x
kink_at Pos x = rat_max x (whole (pos 0))
kink_at Neg x = rat_max (neg_ℚ x) (whole (pos 0))

-- |x| rises where x is at least 0 and falls where it is at most 0; max(x, 0) rises and max(-x, 0) falls everywhere
abbrev pub kink_trend : Kink → Sign → Trend
kink_trend Abs sign = record { rising = sign.nonneg; falling = sign.nonpos }
kink_trend Pos sign = record { rising = true; falling = false }
kink_trend Neg sign = record { rising = false; falling = true }

-- the numbers q for which there is a row `q x - t`, in order
abbrev pub kink_factors : Kink → List ℚ
kink_factors Abs = whole (pos 1) ∷ whole (negsuc 0) ∷ []
kink_factors Pos = whole (pos 1) ∷ []
kink_factors Neg = whole (negsuc 0) ∷ []

-- how many rows an entry has
abbrev pub kink_rows : Kink → ℕ
kink_rows p = length (kink_factors p)

-- the slope that the weights of an entry's rows give
abbrev pub kink_slope : Kink → (ℕ → ℚ) → Formula
kink_slope Abs w = difference (w 0) (w 1)
kink_slope Pos w = number (w 0)
kink_slope Neg w = number (neg_ℚ (w 0))

-- the steps of an entry with coefficient c: its weights sum to at most c, and the slope is formed
abbrev pub kink_steps : Kink → ℚ → (ℕ → ℚ) → List Step
kink_steps p c w = total_steps Nonneg c (list_below (kink_rows p) w) ++ form (kink_slope p w) ∷ []

-- one of the three, entry by entry: t is at least 0 and at least each q x
abbrev pub kink_meaning : Kink → Meaning
kink_meaning p = record {
  shape = only;
  bend = Convex;
  trend = λ i sign. kink_trend p sign;
  sign = λ signs. record { nonneg = true; nonpos = false };
  value = λ args a j. kink_at p (a 0 j);
  summands = λ args a j. kink_at p (a 0 j) ∷ [];
  kinds = λ args. replicate (entries_of (sides_at args 0)) Nonneg;
  rows = λ args j. map (λ q. bound_row Convex j (argument_term 0 j q)) (kink_factors p);
  result = λ args j. unknown_form j;
  filling = λ args a k. kink_at p (a 0 k);
  conditions = λ args c w j. total_condition Nonneg (c j) (list_below (kink_rows p) (w j)) ∷ [];
  slope = λ args w i e. kink_slope p (w e);
  slope_entries = λ args j. record { argument = 0; entry = j } ∷ [];
}
