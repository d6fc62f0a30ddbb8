-- What trees show.
use Rattle.std.proofs.Common.{Bool, true, false, if◌then◌else◌, inl, inr, ℤ, pos, ◌+ℤ◌, List, [], ◌∷◌, All, Option, Some, None}
use Rattle.std.proofs.lemmas.List.Elements.{All-head, All-tail}
use Rattle.dcx_math.specs.Rational.{ℚ, whole, ◌+ℚ◌, ◌-ℚ◌, ◌*ℚ◌, ◌≤ℚ◌}
use Rattle.dcx_math.specs.Sums.{IsNonnegative}
use Rattle.dcx_math.proofs.Ring.{reads}
use Rattle.dcx_math.proofs.Orders.{≤ℚ_refl, ≤ℚ_trans, ≤ℚ_antisym, ≤ℚ-from_≡, linear, +ℚ-nonpositive, <ℚ-not, -ℚ-nonpositive}
use Rattle.dcx_math.proofs.Products.{*ℚ-nonpositive}
use Rattle.dcx_convex.specs.Nodes.{Setting, Point}
use Rattle.dcx_convex.specs.Problems.{gap_at}
use Rattle.dcx_convex.specs.Answers as answers
use Rattle.dcx_convex.specs.Answers.{Multipliers}
use Rattle.dcx_convex.proofs.OneAnswer.{weighed_nonpositive, without}
use Rattle.dcx_tree.specs.declared.problem.Problem.{Problem}
use Rattle.dcx_tree.specs.Meaning.{convex_problem, IsFeasible, objective_at}
use Rattle.dcx_right.specs.Points.{IsWholePoint}
use Rattle.dcx_right.specs.Boxes.{Box, IsAtLeast, IsAtMost, IsInBox, root_box, at_most, at_least}
use Rattle.dcx_right.specs.Trees.{Weight, over, exceeded, all_exceeded, Shown, MayShow, penalty, BoundsBelow, ShowsEmpty, Tree, Bound, Empty, Split, IsTreeOf}
use Rattle.dcx_right.specs.Laws.{TreesShow, TreesWeaken, RootHasAll, TreesShowOptima, TreesShowNone, WholeAnswersAgree}
use Rattle.dcx_right.proofs.Boxes as boxes

-- ---- leaves
over_upper : (o : Option ℤ) (w x : ℚ) → IsNonnegative w → IsAtMost o x → over (λ n. w *ℚ (x -ℚ whole n)) o ≤ℚ whole (pos 0)
over_upper None w x h k = ≤ℚ_refl _
over_upper (Some n) w x h k = *ℚ-nonpositive h (-ℚ-nonpositive x (whole n) k)

over_lower : (o : Option ℤ) (w x : ℚ) → IsNonnegative w → IsAtLeast o x → over (λ n. w *ℚ (whole n -ℚ x)) o ≤ℚ whole (pos 0)
over_lower None w x h k = ≤ℚ_refl _
over_lower (Some n) w x h k = *ℚ-nonpositive h (-ℚ-nonpositive (whole n) x k)

chosen : (c : Bool) (a b : ℚ) → a ≤ℚ whole (pos 0) → b ≤ℚ whole (pos 0) → (if c then a else b) ≤ℚ whole (pos 0)
chosen true a b h k = h
chosen false a b h k = k

-- a multiplier times a bound that a point keeps is at most 0
one_exceeded : (box : Box) (x : Point) (w : Weight) → IsInBox box x → IsNonnegative w.weight → exceeded box x w ≤ℚ whole (pos 0)
one_exceeded box x w h k =
    chosen w.upper _ _
    (over_upper (box w.variable w.entry).upper w.weight (x w.variable w.entry) k (h w.variable w.entry).upper)
    (over_lower (box w.variable w.entry).lower w.weight (x w.variable w.entry) k (h w.variable w.entry).lower)

none_exceeded : (box : Box) (x : Point) (ws : List Weight) → IsInBox box x → All (λ w. IsNonnegative w.weight) ws → all_exceeded box ws x ≤ℚ whole (pos 0)
none_exceeded box x [] h k = ≤ℚ_refl _
none_exceeded box x (w ∷ ws) h k = +ℚ-nonpositive (one_exceeded box x w h (All-head (λ (w : Weight). IsNonnegative w.weight) w ws k))
    (none_exceeded box x ws h (All-tail (λ (w : Weight). IsNonnegative w.weight) w ws k))

module _ (p : Problem) (s : Setting) where
  -- the multipliers times constraints that a point keeps are at most 0
  none_broken : (x : Point) (m : Multipliers) → answers.AreMultipliers (convex_problem p) m → IsFeasible p s x → penalty p s x m ≤ℚ whole (pos 0)
  none_broken x m h f = weighed_nonpositive (gap_at (convex_problem p) s x) (convex_problem p).constraints m h f.holds

  shown_nonpositive : (box : Box) (x : Point) (m : Shown) → MayShow p m → IsFeasible p s x → IsInBox box x → penalty p s x m.duals +ℚ all_exceeded box m.bounds x ≤ℚ whole (pos 0)
  shown_nonpositive box x m h f b = +ℚ-nonpositive (none_broken x m.duals h.duals f) (none_exceeded box x m.bounds b h.bounds)

  regrouped : (v o a b : ℚ) → v ≤ℚ (o +ℚ a) +ℚ b → v ≤ℚ o +ℚ (a +ℚ b)
  regrouped v o a b h = linear (v ∷ o ∷ a ∷ b ∷ []) h (search reads depth 30) tt

  bound_below : (box : Box) (v : ℚ) (m : Shown) (x : Point) → BoundsBelow p s box v m → IsFeasible p s x → IsInBox box x → v ≤ℚ objective_at p s x
  bound_below box v m x h f b =
      without v (objective_at p s x) (penalty p s x m.duals +ℚ all_exceeded box m.bounds x)
      (regrouped v (objective_at p s x) (penalty p s x m.duals) (all_exceeded box m.bounds x) (h.bound x f.domain)) (shown_nonpositive box x m h.multipliers f b)

  none_there : (box : Box) (m : Shown) (g : ℚ) (x : Point) → ShowsEmpty p s box m g → IsFeasible p s x → IsInBox box x → ⊥
  none_there box m g x h f b = <ℚ-not h.positive (≤ℚ_trans (h.bound x f.domain) (shown_nonpositive box x m h.multipliers f b))

  -- ---- trees
  pub trees_bound : (v : ℚ) (box : Box) (t : Tree) → IsTreeOf p s (Some v) box t → (x : Point) → IsWholePoint p s x → IsInBox box x → v ≤ℚ objective_at p s x
  trees_bound v box (Bound m) h x w b = bound_below box v m x h w.feasible b
  trees_bound v box (Empty m g) h x w b = absurd (none_there box m g x h w.feasible b)
  trees_bound v box (Split k j n below above) h x w b =
      elim (boxes.whole_sides (x k j) n (boxes.marked_whole p x k j w.marks h.0)) [
        | inl l ↦ trees_bound v (at_most box k j n) below h.1 x w (boxes.in_at_most box x k j n b l)
        | inr l ↦ trees_bound v (at_least box k j (n +ℤ pos 1)) above h.2 x w (boxes.in_at_least box x k j (n +ℤ pos 1) b l)
      ]

  pub trees_none : (box : Box) (t : Tree) → IsTreeOf p s None box t → (x : Point) → IsWholePoint p s x → IsInBox box x → ⊥
  trees_none box (Bound m) h x w b = h
  trees_none box (Empty m g) h x w b = none_there box m g x h w.feasible b
  trees_none box (Split k j n below above) h x w b =
      elim (boxes.whole_sides (x k j) n (boxes.marked_whole p x k j w.marks h.0)) [
        | inl l ↦ trees_none (at_most box k j n) below h.1 x w (boxes.in_at_most box x k j n b l)
        | inr l ↦ trees_none (at_least box k j (n +ℤ pos 1)) above h.2 x w (boxes.in_at_least box x k j (n +ℤ pos 1) b l)
      ]

  -- ---- trees that show less
  pub smaller : (v w : ℚ) (box : Box) (t : Tree) → w ≤ℚ v → IsTreeOf p s (Some v) box t → IsTreeOf p s (Some w) box t
  smaller v w box (Bound m) le h = record { multipliers = h.multipliers; bound = λ y dom. ≤ℚ_trans le (h.bound y dom) }
  smaller v w box (Empty m g) le h = h
  smaller v w box (Split k j n below above) le h = (h.0, smaller v w (at_most box k j n) below le h.1, smaller v w (at_least box k j (n +ℤ pos 1)) above le h.2)

  pub any : (w : ℚ) (box : Box) (t : Tree) → IsTreeOf p s None box t → IsTreeOf p s (Some w) box t
  any w box (Bound m) h = absurd h
  any w box (Empty m g) h = h
  any w box (Split k j n below above) h = (h.0, any w (at_most box k j n) below h.1, any w (at_least box k j (n +ℤ pos 1)) above h.2)

-- ---- the laws
pub trees_weaken : TreesWeaken
trees_weaken = record { smaller = smaller; any = any }

pub trees_show : TreesShow
trees_show = record { bound = trees_bound; none = trees_none }

pub root_has_all : RootHasAll
root_has_all p s x w = boxes.root_has_all p x w.marks

pub trees_show_optima : TreesShowOptima
trees_show_optima p s v x t w e h =
    record { point = w; value = e; least = λ y k. trees_bound p s v (root_box p) t h y k (boxes.root_has_all p y k.marks) }

pub trees_show_none : TreesShowNone
trees_show_none p s t h x w = trees_none p s (root_box p) t h x w (boxes.root_has_all p x w.marks)

pub whole_answers_agree : (p : Problem) (s : Setting) → WholeAnswersAgree p s
whole_answers_agree p s = record {
  one_value = λ v w x y h k. ≤ℚ_antisym (≤ℚ_trans (h.least y k.point) (≤ℚ-from_≡ k.value)) (≤ℚ_trans (k.least x h.point) (≤ℚ-from_≡ h.value));
  not_both = λ v x h k. k x h.point;
}
