-- The nodes that are listed so far are those of a tree once each open box has its own.
use Rattle.std.proofs.Common.{◌≡◌, ℕ, List, [], ◌∷◌, ◌++◌, Option, Some, None, refl, sym, ap, ◌∙◌, subst, append_assoc}
use Rattle.std.specs.Prelude.{ℤ, ◌+ℤ◌, pos}
use Rattle.std.proofs.lemmas.List.{append-nil}
use Rattle.dcx_math.specs.Rational.{ℚ, ◌≤ℚ◌}
use Rattle.dcx_math.proofs.Orders.{≤ℚ_trans, ≤ℚ_refl}
use Rattle.dcx_convex.specs.Nodes.{Setting}
use Rattle.dcx_tree.specs.declared.problem.Problem.{Problem}
use Rattle.dcx_right.specs.Points.{IsMarked}
use Rattle.dcx_right.specs.Boxes.{Box, root_box, at_most, at_least}
use Rattle.dcx_right.specs.Trees as trees
use Rattle.dcx_right.specs.Trees.{Tree, IsTreeOf}
use Rattle.dcx_answer.specs.declared.branch_tree.BranchNode.{BranchNode}
use Rattle.dcx_answer.specs.declared.branch_tree.BranchNode.TheVariants.{Split}
use Rattle.dcx_right.specs.WholeAnswers.{split}
use Rattle.dcx_right.specs.WholeAnswers.{Lists, Shows}
use Rattle.dcx_branch.proofs.Known.{IsBelow, Fills, no_boxes, one_box, Completes}

pub below_itself : (b : Option ℚ) → IsBelow b b
below_itself None = tt
below_itself (Some b) = ≤ℚ_refl b

-- what is at most a better value is at most the one before
pub below_worse : (w best : Option ℚ) (v : ℚ) → ((b : ℚ) → best ≡ Some b → v ≤ℚ b) → IsBelow w (Some v) → IsBelow w best
below_worse w None v k e = tt
below_worse None (Some b) v k e = absurd e
below_worse (Some c) (Some b) v k e = ≤ℚ_trans e (k b refl)

module _ (p : Problem) (s : Setting) where
  pub begun : Completes p s [] (root_box p ∷ []) None
  begun w low items f = one items f
    where
      one : (xs : List BranchNode) → Fills p s w (root_box p ∷ []) xs → Shows p s w xs
      one xs (one_box _ _ nodes _ t lists is no_boxes) = subst (Shows p s w) (sym (append-nil nodes)) (record { tree = t; lists = lists; shows = is })

  -- where no box is open, the nodes show the best value
  pub ended : (listed : List BranchNode) (best : Option ℚ) → Completes p s listed [] best → Shows p s best listed
  ended listed best h = subst (Shows p s best) (append-nil listed) (h best (below_itself best) [] no_boxes)

  -- a leaf
  pub leaf : (listed : List BranchNode) (box : Box) (rest : List Box) (best after : Option ℚ) (node : BranchNode) (t : Tree) → Lists (node ∷ []) t →
      ((w : Option ℚ) → IsBelow w after → IsBelow w best × IsTreeOf p s w box t) → Completes p s listed (box ∷ rest) best → Completes p s (listed ++ node ∷ []) rest after
  leaf listed box rest best after node t lists is h w low items f =
      let own = is w low in
      subst (Shows p s w) (sym (append_assoc listed (node ∷ []) items)) (h w own.0 (node ∷ items) (one_box box rest (node ∷ []) items t lists own.1 f))

  -- two sides
  pub sides : (listed : List BranchNode) (box : Box) (rest : List Box) (best : Option ℚ) (k j : ℕ) (n : ℤ) → IsMarked p k j → Completes p s listed (box ∷ rest) best →
      Completes p s (listed ++ Split k j n ∷ []) (at_most box k j n ∷ at_least box k j (n +ℤ pos 1) ∷ rest) best
  sides listed box rest best k j n marked h w low items f = both items f
    where
      both : (xs : List BranchNode) → Fills p s w (at_most box k j n ∷ at_least box k j (n +ℤ pos 1) ∷ rest) xs → Shows p s w ((listed ++ Split k j n ∷ []) ++ xs)
      both xs (one_box _ _ lower _ below low_lists low_is (one_box _ _ upper others above up_lists up_is g)) =
          let all = h w low ((Split k j n ∷ (lower ++ upper)) ++ others)
          (one_box box rest (Split k j n ∷ (lower ++ upper)) others (trees.Split k j n below above) (split k j n lower upper below above low_lists up_lists) (marked, low_is, up_is) g) in
          subst (Shows p s w) (ap (λ ys. listed ++ Split k j n ∷ ys) (append_assoc lower upper others) ∙ sym (append_assoc listed (Split k j n ∷ []) (lower ++ (upper ++ others)))) all
