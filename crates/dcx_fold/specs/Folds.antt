-- The greatest and the least entry of each group, the sum of its magnitudes, and the greatest of them.
use Rattle.std.specs.Prelude.{ℕ, ◌+◌, ◌*◌, ◌/◌, ◌%◌, List, [], ◌∷◌, ◌++◌, map, length, replicate, true, false, pos, negsuc}
use Rattle.dcx_math.specs.Rational.{ℚ, whole, neg_ℚ, rat_abs}
use Rattle.dcx_math.specs.Sums.{rat_sum}
use Rattle.dcx_shape.specs.declared.shape.Sides.{Sides}
use Rattle.dcx_shape.specs.Sides.{entries_of}
use Rattle.dcx_atom.specs.declared.axis.Axis.{Axis}
use Rattle.dcx_atom.specs.declared.flags.Sign.{Sign}
use Rattle.dcx_atom.specs.declared.flags.Trend.{Trend}
use Rattle.dcx_atom.specs.declared.flags.Bend.{Bend}
use Rattle.dcx_atom.specs.declared.flags.Bend.TheVariants.{Convex, Concave}
use Rattle.dcx_atom.specs.declared.graph.AuxKind.{AuxKind}
use Rattle.dcx_atom.specs.declared.graph.AuxKind.TheVariants.{Free, Nonneg}
use Rattle.dcx_atom.specs.Axis.{folded_count}
use Rattle.dcx_atom.specs.Arrays.{list_below, joined_below, sides_at}
use Rattle.dcx_atom.specs.Signs.{sign_at, rises}
use Rattle.dcx_atom.specs.Rows.{Row, Form}
use Rattle.dcx_atom.specs.Formed.{Formula, number, difference}
use Rattle.dcx_atom.specs.Meaning.{Meaning, Condition}
use Rattle.dcx_atom.specs.Steps.{Step, test, form, is_weight}
use Rattle.dcx_atom.specs.Bounding.{argument_term, bound_row, unknown_form, total_condition}
use Rattle.dcx_atom.specs.Farthest.{extreme}
use Rattle.dcx_fold.specs.declared.folding.Fold.{Fold}
use Rattle.dcx_fold.specs.declared.folding.Fold.TheVariants.{Max, Min, Norm1, NormInf}
use Rattle.dcx_fold.specs.Groups.{groups, member, group_of, member_of, fold_sides}

abbrev pub fold_bend : Fold → Bend
fold_bend Max = Convex
fold_bend Min = Concave
fold_bend Norm1 = Convex
fold_bend NormInf = Convex

-- the sign of the auxiliary unknowns
abbrev pub fold_kind : Fold → AuxKind
fold_kind Max = Free
fold_kind Min = Free
fold_kind Norm1 = Nonneg
fold_kind NormInf = Nonneg

-- an extreme rises everywhere; a magnitude rises where the entry is at least 0 and falls where it is at most 0
abbrev pub fold_trend : Fold → Sign → Trend
fold_trend Max sign = rises
fold_trend Min sign = rises
fold_trend Norm1 sign = record { rising = sign.nonneg; falling = sign.nonpos }
fold_trend NormInf sign = record { rising = sign.nonneg; falling = sign.nonpos }

-- an extreme has the sign of the entries; a norm is at least 0
abbrev pub fold_sign : Fold → Sign → Sign
fold_sign Max sign = sign
fold_sign Min sign = sign
fold_sign Norm1 sign = record { nonneg = true; nonpos = false }
fold_sign NormInf sign = record { nonneg = true; nonpos = false }

-- what an entry goes in as: itself, or its magnitude
abbrev pub part : Fold → ℚ → ℚ
part Max x = x
part Min x = x
part Norm1 x = rat_abs x
part NormInf x = rat_abs x

-- what the parts of a group become: the greatest, the least or the sum
abbrev pub fold_of : Fold → List ℚ → ℚ
fold_of Max xs = extreme Convex xs
fold_of Min xs = extreme Concave xs
fold_of Norm1 xs = rat_sum xs
fold_of NormInf xs = extreme Convex xs

-- the numbers as whose sum that is formed
abbrev pub fold_summands : Fold → List ℚ → List ℚ
fold_summands Max xs = extreme Convex xs ∷ []
fold_summands Min xs = extreme Concave xs ∷ []
fold_summands Norm1 xs = xs
fold_summands NormInf xs = extreme Convex xs ∷ []

-- the parts of group k
abbrev pub parts : Fold → Axis → Sides → (ℕ → ℚ) → ℕ → List ℚ
parts p axis s x k = list_below (folded_count axis s) (λ i. part p (x (member axis s k i)))

-- the numbers q for which each member has a row `q x - t`, or `t - q x` for the least
abbrev pub factors : Fold → List ℚ
factors Max = whole (pos 1) ∷ []
factors Min = whole (pos 1) ∷ []
factors Norm1 = whole (pos 1) ∷ whole (negsuc 0) ∷ []
factors NormInf = whole (pos 1) ∷ whole (negsuc 0) ∷ []

-- how many rows a member has
abbrev pub member_rows : Fold → ℕ
member_rows p = length (factors p)

-- the unknown beyond member i of group k of n members: each its own for the sum, and one for a group else
abbrev pub unknown_of : Fold → ℕ → ℕ → ℕ → ℕ
unknown_of Max n k i = k
unknown_of Min n k i = k
unknown_of Norm1 n k i = k * n + i
unknown_of NormInf n k i = k

abbrev pub unknowns : Fold → Axis → Sides → ℕ
unknowns Max axis s = groups axis s
unknowns Min axis s = groups axis s
unknowns Norm1 axis s = entries_of s
unknowns NormInf axis s = groups axis s

-- the rows of one member, which stands at place e
abbrev pub rows_of_member : Fold → ℕ → ℕ → List Row
rows_of_member p u e = map (λ q. bound_row (fold_bend p) u (argument_term 0 e q)) (factors p)

-- the rows of group k
abbrev pub group_rows : Fold → Axis → Sides → ℕ → List Row
group_rows p axis s k = joined_below (folded_count axis s) (λ i. rows_of_member p (unknown_of p (folded_count axis s) k i) (member axis s k i))

-- the sum of n unknowns from unknown u on
abbrev pub unknowns_form : ℕ → ℕ → Form
unknowns_form n u = list_below n (λ i. record { aux = u + i; coefficient = whole (pos 1) })

abbrev pub group_form : Fold → ℕ → ℕ → Form
group_form Max n k = unknown_form k
group_form Min n k = unknown_form k
group_form Norm1 n k = unknowns_form n (k * n)
group_form NormInf n k = unknown_form k

abbrev pub fold_filling : Fold → Axis → Sides → (ℕ → ℚ) → ℕ → ℚ
fold_filling Max axis s x u = extreme Convex (parts Max axis s x u)
fold_filling Min axis s x u = extreme Concave (parts Min axis s x u)
fold_filling Norm1 axis s x u = rat_abs (x (member axis s (u / folded_count axis s) (u % folded_count axis s)))
fold_filling NormInf axis s x u = extreme Convex (parts NormInf axis s x u)

-- the weights of member i's rows
abbrev pub member_weights : Fold → (ℕ → ℚ) → ℕ → ℕ → ℚ
member_weights p w i f = w (i * member_rows p + f)

-- the weights of all rows of a group sum to c, to -c or to at most c; for the sum those of each member do
abbrev pub group_conditions : Fold → ℕ → ℚ → (ℕ → ℚ) → List Condition
group_conditions Max n c w = total_condition Free c (list_below (n * 1) w) ∷ []
group_conditions Min n c w = total_condition Free (neg_ℚ c) (list_below (n * 1) w) ∷ []
group_conditions Norm1 n c w = list_below n (λ i. total_condition Nonneg c (list_below 2 (member_weights Norm1 w i)))
group_conditions NormInf n c w = total_condition Nonneg c (list_below (n * 2) w) ∷ []

-- the slope of a member, from the weights of its rows
abbrev pub member_slope : Fold → (ℕ → ℚ) → Formula
member_slope Max w = number (w 0)
member_slope Min w = number (neg_ℚ (w 0))
member_slope Norm1 w = difference (w 0) (w 1)
member_slope NormInf w = difference (w 0) (w 1)

-- the steps of a group of n members: each weight, each condition, and each member's slope
abbrev pub group_tests : Fold → ℕ → ℚ → (ℕ → ℚ) → List Step
group_tests p n c w = map (λ x. test (is_weight x)) (list_below (n * member_rows p) w) ++ map test (group_conditions p n c w)

abbrev pub group_slopes : Fold → ℕ → (ℕ → ℚ) → List Step
group_slopes p n w = list_below n (λ i. form (member_slope p (member_weights p w i)))

abbrev pub group_steps : Fold → ℕ → ℚ → (ℕ → ℚ) → List Step
group_steps p n c w = group_tests p n c w ++ group_slopes p n w

-- each entry of the value is one of the four of a group of entries
abbrev pub fold_meaning : Fold → Axis → Meaning
fold_meaning p axis = record {
  shape = fold_sides axis;
  bend = fold_bend p;
  trend = λ i sign. fold_trend p sign;
  sign = λ signs. fold_sign p (sign_at signs 0);
  value = λ args a k. fold_of p (parts p axis (sides_at args 0) (a 0) k);
  summands = λ args a k. fold_summands p (parts p axis (sides_at args 0) (a 0) k);
  kinds = λ args. replicate (unknowns p axis (sides_at args 0)) (fold_kind p);
  rows = λ args k. group_rows p axis (sides_at args 0) k;
  result = λ args k. group_form p (folded_count axis (sides_at args 0)) k;
  filling = λ args a u. fold_filling p axis (sides_at args 0) (a 0) u;
  conditions = λ args c w k. group_conditions p (folded_count axis (sides_at args 0)) (c k) (w k);
  slope = λ args w i e. member_slope p (member_weights p (w (group_of axis (sides_at args 0) e)) (member_of axis (sides_at args 0) e));
  slope_entries = λ args k. list_below (folded_count axis (sides_at args 0)) (λ i. record { argument = 0; entry = member axis (sides_at args 0) k i });
}
