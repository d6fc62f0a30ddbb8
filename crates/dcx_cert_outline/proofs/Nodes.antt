-- A node has no variable below it where its call is no variable and its arguments have none.
use Rattle.std.proofs.Common.{◌≡◌, ℕ, ◌+◌, ◌<◌, ◌≤◌, Bool, true, false, List, [], ◌∷◌, ◌++◌, map, length, take, get_or, Some, option_map, refl, sym, ap, ap₂, ◌∙◌, subst, arith, length-append}
use Rattle.std.specs.Prelude.{slice_get, ◌&&◌, nat_lt}
use Rattle.std.specs.Option.{unwrap_or}
use Rattle.std.proofs.Math.Seq.{get_or-append_seam}
use Rattle.std.proofs.lemmas.Bool.Decides.{nat_tests}
use Rattle.std.proofs.lemmas.List.{get_or_append_left, take_more, map-append}
use Rattle.std.specs.List.{AllByRecursion, list_all}
use Rattle.std.proofs.lemmas.List.Elements.{recursion_from_All}
use Rattle.std.proofs.lemmas.Option.{slice_get-map}
use Rattle.dcx_arena.specs.declared.node.NodeId.{NodeId}
use Rattle.dcx_arena.specs.Nodes.{positions, call_at, args_at}
use Rattle.dcx_call.specs.declared.call.Call.{Call}
use Rattle.dcx_call.specs.declared.call.Call.TheVariants as calls
use Rattle.dcx_convex.specs.Certificates.{is_fixed}
use Rattle.dcx_convex.specs.Rules.{Plain, Judgement, fixed_by, judgement_at}
use Rattle.dcx_convex.proofs.Told.{judgement_tells}
use Rattle.dcx_shape.specs.declared.shape.Sides.{Sides}
use Rattle.dcx_tree.specs.declared.problem.Problem.{Problem}
use Rattle.dcx_tree.specs.Nodes.{Names, Node, arg_sides, head_of, convex_node}
use Rattle.dcx_tree.specs.Meaning.{names_in, convex_problem}
use Rattle.dcx_tree.proofs.Lawful.{problem_lawful}
use Rattle.dcx_tree.proofs.Names.{found_in}
use Rattle.dcx_cert_outline.specs.Drawn.{fixed_call, AreFixed}

-- what the rules say of a call is what is told of its arguments
by_call : (names : Names) (call : Call) (args : List Sides) (sides : Sides) (gs : List Judgement) → fixed_by (head_of names call args sides) gs ≡ fixed_call call (list_all (λ g. g.fixed) gs)
by_call names (calls.Variable v) args sides gs = refl
by_call names (calls.Parameter q) args sides gs = refl
by_call names (calls.Constant x) args sides gs = refl
by_call names (calls.Atom m) args sides gs = refl
by_call names (calls.Linear l) args sides gs = refl
by_call names (calls.Pairing q) args sides gs = refl

-- the marks of nodes that are marked are what the rules say
args_fixed : (p : Problem) (marks : List Bool) (count : ℕ) → AreFixed p marks count → (ids : List NodeId) → AllByRecursion (λ a. a < count) (positions ids)
    → list_all (λ (a : NodeId). get_or marks a.0 false) ids ≡ list_all (λ g. g.fixed) (map (judgement_at Plain (convex_problem p).nodes) (positions ids))
args_fixed p marks count h [] below = refl
args_fixed p marks count h (a ∷ ids) below = ap₂ (◌&&◌) (h.each a.0 below.0) (args_fixed p marks count h ids below.1)

-- the next node
pub next_fixed : (p : Problem) (marks : List Bool) (i : ℕ) → AreFixed p marks i → (call : Call) → call_at p.tree i ≡ Some call → (ids : List NodeId) → positions ids ≡ args_at p.tree i
    → fixed_call call (list_all (λ (a : NodeId). get_or marks a.0 false) ids) ≡ is_fixed (convex_problem p).nodes i
next_fixed p marks i h call at ids args =
    let (n, there, same) = found_in (slice_get p.tree i) call at in
    let node = convex_node (names_in p) p.tree n in
    let f = judgement_at Plain (convex_problem p).nodes in
    let here : slice_get (convex_problem p).nodes i ≡ Some node = slice_get-map (convex_node (names_in p) p.tree) p.tree i ∙ ap (option_map (convex_node (names_in p) p.tree)) there in
    let its : args_at p.tree i ≡ n.args = ap (λ o. unwrap_or (option_map (λ (x : Node). x.args) o) []) there in
    let below : AllByRecursion (λ a. a < i) (positions ids) = subst (AllByRecursion (λ a. a < i)) (sym (args ∙ its)) (recursion_from_All (λ a. a < i) n.args (p.nodes.earlier i n there)) in
    let told = ap (λ g. g.fixed) (judgement_tells Plain (convex_problem p).nodes (problem_lawful p).ordered i node here) in
    ap (fixed_call call) (args_fixed p marks i h ids below ∙ ap (λ xs. list_all (λ g. g.fixed) (map f xs)) (args ∙ its))
    ∙ ap (λ c. fixed_call c (list_all (λ g. g.fixed) (map f n.args))) (sym same)
    ∙ sym (by_call (names_in p) n.call (arg_sides p.tree n) n.sides (map f n.args)) ∙ sym told

-- one more mark
pub more_fixed : (p : Problem) (marks new : List Bool) (i : ℕ) (mark : Bool) → AreFixed p marks i → mark ≡ is_fixed (convex_problem p).nodes i → new ≡ marks ++ mark ∷ [] → AreFixed p new (i + 1)
more_fixed p marks new i mark h e put = subst (λ l. AreFixed p l (i + 1)) (sym put) (record {
  counted = omega (arith, length-append marks (mark ∷ []), h.counted);
  each = λ k below. at k below (nat_lt k i) refl;
})
  where
    at : (k : ℕ) → k < i + 1 → (b : Bool) → nat_lt k i ≡ b → get_or (marks ++ mark ∷ []) k false ≡ is_fixed (convex_problem p).nodes k
    at k below true t = let inside : k < i = grind (arith, nat_tests) in get_or_append_left marks (mark ∷ []) false k (omega (arith, inside, h.counted)) ∙ h.each k inside
    at k below false t =
        let above : i ≤ k = grind (arith, nat_tests) in
        let last : k ≡ length marks = omega (arith, below, h.counted, above) in
        ap (λ n. get_or (marks ++ mark ∷ []) n false) last ∙ get_or-append_seam marks mark [] false ∙ e
        ∙ ap (λ n. is_fixed (convex_problem p).nodes n) (let same : i ≡ k = omega (arith, last, h.counted) in same)

-- nothing is marked at first
pub none_fixed : (p : Problem) (marks : List Bool) → marks ≡ [] → AreFixed p marks 0
none_fixed p marks e = record { counted = ap length e; each = λ i l. absurd (omega (arith, l)) }

-- one more item, in the words of another list
pub mapped_more : {A B C : Type 0} (f : A → C) (g : B → C) (old new : List A) (a : A) (xs : List B) (i : ℕ) (x : B) → i < length xs → x ≡ get_or xs i x → map f old ≡ map g (take i xs) → f a ≡ g x
    → new ≡ old ++ a ∷ [] → map f new ≡ map g (take (i + 1) xs)
mapped_more f g old new a xs i x l at e same put =
    ap (map f) put ∙ map-append f old (a ∷ []) ∙ ap₂ (λ t y. t ++ y ∷ []) e (same ∙ ap g at)
    ∙ sym (ap (map g) (take_more xs i x l) ∙ map-append g (take i xs) (get_or xs i x ∷ []))
