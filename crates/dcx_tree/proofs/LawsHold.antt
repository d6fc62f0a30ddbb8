-- The main statements hold: lawful nodes, signs, convexity, answers, and what gathering keeps.
use Rattle.std.proofs.Common.{◌≡◌, ℕ, List, map, Some, option_map, sym, ap, subst, ◌∙◌}
use Rattle.std.specs.Prelude.{filter}
use Rattle.std.specs.List.{slice_get}
use Rattle.std.proofs.lemmas.Option.{slice_get-map, same_Some}
use Rattle.dcx_arena.specs.Nodes.{IsNode}
use Rattle.dcx_arena.specs.Gather.{order_of, StandFor}
use Rattle.dcx_call.specs.declared.attribute.Variable.{Variable}
use Rattle.dcx_convex.specs.Nodes.{Setting}
use Rattle.dcx_convex.specs.Rules.{Plain}
use Rattle.dcx_convex.proofs.LawsHold as convex
use Rattle.dcx_tree.specs.declared.problem.Problem.{Problem}
use Rattle.dcx_tree.specs.Nodes.{Node}
use Rattle.dcx_tree.specs.Problems.{IsListed, roots_of}
use Rattle.dcx_tree.specs.Gather.{positions_of, declared_in, has_variable}
use Rattle.dcx_tree.specs.Meaning.{names_in, convex_problem}
use Rattle.dcx_tree.specs.Laws.{TreesAreLawful, SignsAreTrue, AcceptedIsConvex, AnswersAgree, GatheringKeepsValues}
use Rattle.dcx_tree.proofs.Lawful.{tree_lawful, problem_lawful}
use Rattle.dcx_tree.proofs.Parts.{listed_whole, declared_kept}
use Rattle.dcx_tree.specs.Values.{IsNamed}
use Rattle.dcx_tree.proofs.Values.{listed_named, part_value}

pub trees_are_lawful : TreesAreLawful
trees_are_lawful names nodes are = tree_lawful names nodes are

pub signs_are_true : SignsAreTrue
signs_are_true p s x fit dom = convex.signs_are_true Plain (convex_problem p).nodes (problem_lawful p).lawful s fit x dom

pub accepted_is_convex : AcceptedIsConvex
accepted_is_convex p ok s fit = convex.accepted_is_convex (convex_problem p) (problem_lawful p).lawful ok s fit

pub answers_agree : (p : Problem) (s : Setting) → AnswersAgree p s
answers_agree p s =
    let a = convex.answers_agree (convex_problem p) s in
    record { one_value = a.one_value; not_infeasible = a.not_infeasible; not_unbounded = a.not_unbounded; not_both = a.not_both }

-- ---- gathering
-- positions that stand for each other
stand_at : (order xs' xs : List ℕ) (k i h : ℕ) → StandFor order xs' xs → slice_get xs k ≡ Some i → slice_get xs' k ≡ Some h → slice_get order h ≡ Some i
stand_at order xs' xs k i h e at at' =
    let here : slice_get (map (slice_get order) xs') k ≡ Some (slice_get order h) = slice_get-map (slice_get order) xs' k ∙ ap (option_map (slice_get order)) at' in
    let whole : slice_get (map Some xs) k ≡ Some (Some i) = slice_get-map Some xs k ∙ ap (option_map Some) at in
    same_Some (slice_get order h) (Some i) (sym here ∙ ap (λ zs. slice_get zs k) e ∙ whole)

pub gathering_keeps_values : GatheringKeepsValues
gathering_keeps_values source roots p are decl of setting point k i h at at' j =
    let g = of.nodes in
    let kept = declared_kept source (positions_of roots) p.tree (roots_of p.objective p.constraints) g roots.variables roots.parameters decl.reached decl.distinct in
    let both : (t : ℕ) (n : Node) → IsNode p.tree t n → IsNamed (declared_in roots) n.call × IsNamed (names_in p) n.call =
    λ t n in_part.
    let l = listed_whole source (positions_of roots) p.tree (roots_of p.objective p.constraints) g roots.variables roots.parameters decl.reached decl.distinct t n in_part in
    let l' : IsListed p.variables p.parameters n.call =
    subst (λ vs. IsListed vs p.parameters n.call) (sym of.variables)
    (subst (λ ps. IsListed (filter (λ (v : Variable). has_variable p.tree v.name) roots.variables) ps n.call) (sym of.parameters) (kept.listed t n in_part)) in
    (listed_named roots.variables roots.parameters n.call l, listed_named p.variables p.parameters n.call l') in
    ap (λ f. f j) (part_value source (positions_of roots) p.tree (roots_of p.objective p.constraints) are p.nodes g (declared_in roots) (names_in p) both setting point h i
    (stand_at (order_of source (positions_of roots)) (roots_of p.objective p.constraints) (positions_of roots) k i h g.roots_stand at at'))
