-- Each constraint puts both its sides.
use Rattle.std.proofs.Common.{◌≡◌, ◌++◌, ℕ, ◌+◌, ◌<◌, List, [], ◌∷◌, length, take, get_or, append_assoc, refl, sym, ap, ◌∙◌}
use Rattle.std.proofs.lemmas.List.{map_push, take_more}
use Rattle.dcx_arena.specs.declared.node.NodeId.{NodeId}
use Rattle.dcx_arena.specs.Nodes.{positions}
use Rattle.dcx_tree.specs.declared.constraint.Constraint.{Constraint}
use Rattle.dcx_tree.specs.Problems.{sides_in, roots_of}
use Rattle.dcx_tree.proofs.gathering.root_ids.Goals as goal

sides_push : (cs : List Constraint) (c : Constraint) → sides_in (cs ++ (c ∷ [])) ≡ sides_in cs ++ (c.left.0 ∷ c.right.0 ∷ [])
sides_push [] c = refl
sides_push (x ∷ cs) c = ap (λ (ys : List ℕ). x.left.0 ∷ x.right.0 ∷ ys) (sides_push cs c)

roots_more : (o : NodeId) (cs : List Constraint) (k : ℕ) (c : Constraint) (xs ys zs : List NodeId) → k < length cs → c ≡ get_or cs k c → positions xs ≡ roots_of o (take k cs) →
    ys ≡ xs ++ (c.left ∷ []) → zs ≡ ys ++ (c.right ∷ []) → positions zs ≡ roots_of o (take (k + 1) cs)
roots_more o cs k c xs ys zs lt at before left right =
    let e : positions ys ≡ positions xs ++ (c.left.0 ∷ []) = ap positions left ∙ map_push (λ (a : NodeId). a.0) xs c.left in
    let f : positions zs ≡ positions ys ++ (c.right.0 ∷ []) = ap positions right ∙ map_push (λ (a : NodeId). a.0) ys c.right in
    let g : take (k + 1) cs ≡ take k cs ++ (c ∷ []) = take_more cs k c lt ∙ ap (λ (y : Constraint). take k cs ++ (y ∷ [])) (sym at) in
    let h : (sides_in (take k cs) ++ (c.left.0 ∷ [])) ++ (c.right.0 ∷ []) ≡ sides_in (take k cs) ++ (c.left.0 ∷ c.right.0 ∷ []) = simp append_assoc in
    f ∙ ap (λ (y : List ℕ). y ++ (c.right.0 ∷ [])) (e ∙ ap (λ (y : List ℕ). y ++ (c.left.0 ∷ [])) before) ∙ ap (λ (y : List ℕ). o.0 ∷ y) (h ∙ sym (ap sides_in g ∙ sides_push (take k cs) c))

pub loop-constraint-init : goal.loop-constraint-init
loop-constraint-init c = ap positions c.in_ok-ids.ensures.items

pub loop-constraint-preserved : goal.loop-constraint-preserved
loop-constraint-preserved c =
    roots_more c.args.objective c.args.constraints.now c.loop-constraint.constraint-index c.constraint-item.result c.loop-constraint.ids.items c.push.new.self.items
    c.push-in-loop-constraint.new.self.items
    c.loop-constraint-test.true c.constraint-item.is c.loop-constraint.invariant c.in_ok-push.ensures.items c.in_ok-push-2.ensures.items
