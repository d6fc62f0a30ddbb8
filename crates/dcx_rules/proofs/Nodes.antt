-- The judgement of a node, from those of the nodes before it.
use Rattle.std.proofs.Common.{◌≡◌, ℕ, ◌<◌, List, [], ◌∷◌, ◌++◌, map, length, Option, Some, None, option_map, refl, sym, ap, ap₂, subst, ◌∙◌, ◌+◌, take, get_or, arith}
use Rattle.std.specs.Option.{unwrap_or}
use Rattle.std.specs.List.{slice_get, All}
use Rattle.std.proofs.lemmas.List.Elements.{All-nil}
use Rattle.std.proofs.lemmas.List.{length-map, get_or-map, map-append, map_more}
use Rattle.std.proofs.lemmas.Option.{slice_get-map, slice_get-get_or}
use Rattle.dcx_arena.specs.declared.node.NodeId.{NodeId}
use Rattle.dcx_arena.specs.Nodes.{positions, call_at, args_at}
use Rattle.dcx_arena.proofs.Nodes.{push_each}
use Rattle.dcx_call.specs.declared.call.Call.{Call}
use Rattle.dcx_convex.specs.Rules as convex
use Rattle.dcx_convex.specs.Rules.{Rules, judgement_at}
use Rattle.dcx_convex.proofs.Told.{judgement_tells}
use Rattle.dcx_tree.specs.declared.problem.Problem.{Problem}
use Rattle.dcx_tree.specs.Nodes.{Node, arg_sides, convex_node}
use Rattle.dcx_tree.specs.Meaning.{names_in, convex_problem}
use Rattle.dcx_tree.proofs.Lawful.{problem_lawful}
use Rattle.dcx_tree.proofs.Names.{found_in}
use Rattle.dcx_rules.specs.declared.judgement.Judgement.{Judgement}
use Rattle.dcx_rules.specs.Judgements.{judgement_of, judged}
use Rattle.dcx_rules.proofs.Heads.{judged_head}

pub args_below : (p : Problem) (i count : ℕ) → count ≡ i → All (λ a. a < count) (args_at p.tree i)
args_below p i count e = subst (λ k. All (λ a. a < k) (args_at p.tree i)) (sym e) (by (slice_get p.tree i) refl)
  where
    by : (o : Option Node) → slice_get p.tree i ≡ o → All (λ a. a < i) (unwrap_or (option_map (λ (n : Node). n.args) o) [])
    by None h = All-nil (λ a. a < i)
    by (Some n) h = p.nodes.earlier i n h

-- a node that is named
pub id_below : (ids : List NodeId) (n k : ℕ) (d : NodeId) → All (λ a. a < n) (positions ids) → k < length ids → (get_or ids k d).0 < n
id_below ids n k d all lt =
    subst (λ a. a < n) (get_or-map (λ (a : NodeId). a.0) ids k d 0 lt) (all k 0 (omega (arith, lt, length-map ids (λ (a : NodeId). a.0))))

-- one more judgement is read
pub chosen_more : (gs : List Judgement) (ids : List NodeId) (k : ℕ) (d : NodeId) (e : Judgement) (chosen after : List Judgement) → k < length ids → (get_or ids k d).0 < length gs →
    map Some chosen ≡ map (slice_get gs) (positions (take k ids)) → after ≡ chosen ++ get_or gs (get_or ids k d).0 e ∷ [] →
    map Some after ≡ map (slice_get gs) (positions (take (k + 1) ids))
chosen_more gs ids k d e chosen after lt below was is =
    let g = get_or gs (get_or ids k d).0 e in
    ap (map Some) is ∙ map-append Some chosen (g ∷ [])
    ∙ ap₂ (λ (xs : List (Option Judgement)) (x : Option Judgement). xs ++ x ∷ []) was (sym (slice_get-get_or gs (get_or ids k d).0 e below))
    ∙ sym (ap (map (slice_get gs)) (map_more (λ (a : NodeId). a.0) ids k d lt) ∙ map-append (slice_get gs) (positions (take k ids)) ((get_or ids k d).0 ∷ []))

-- what is told of arguments that were read from the judgements
told_args : (f : ℕ → convex.Judgement) (gs read : List Judgement) (args : List ℕ) → ((i : ℕ) (g : Judgement) → slice_get gs i ≡ Some g → judgement_of g ≡ f i) →
    map Some read ≡ map (slice_get gs) args → map judgement_of read ≡ map f args
told_args f gs [] [] each e = refl
told_args f gs [] (i ∷ args) each e = absurd (cc)
told_args f gs (g ∷ read) [] each e = absurd (cc)
told_args f gs (g ∷ read) (i ∷ args) each e =
    let at : Some g ≡ slice_get gs i = cc in
    let rest : map Some read ≡ map (slice_get gs) args = cc in
    ap₂ (λ x xs. x ∷ xs) (each i g (sym at)) (told_args f gs read args each rest)

-- node i, whose arguments were read from the judgements of the nodes before it
pub judged_next : (rules : Rules) (p : Problem) (gs read : List Judgement) (i : ℕ) (call : Call) (g : Judgement) →
    ((j : ℕ) (h : Judgement) → slice_get gs j ≡ Some h → judgement_of h ≡ judgement_at rules (convex_problem p).nodes j) →
    map Some read ≡ map (slice_get gs) (args_at p.tree i) → call_at p.tree i ≡ Some call → judgement_of g ≡ judged rules call (map judgement_of read) →
    judgement_of g ≡ judgement_at rules (convex_problem p).nodes i
judged_next rules p gs read i call g each args at is =
    let (n, there, same) = found_in (slice_get p.tree i) call at in
    let node = convex_node (names_in p) p.tree n in
    let f = judgement_at rules (convex_problem p).nodes in
    let here : slice_get (convex_problem p).nodes i ≡ Some node = slice_get-map (convex_node (names_in p) p.tree) p.tree i ∙ ap (option_map (convex_node (names_in p) p.tree)) there in
    let its : args_at p.tree i ≡ n.args = ap (λ o. unwrap_or (option_map (λ (x : Node). x.args) o) []) there in
    let read_is : map judgement_of read ≡ map f n.args = told_args f gs read n.args each (args ∙ ap (map (slice_get gs)) its) in
    is ∙ ap (judged rules call) read_is ∙ ap (λ c. judged rules c (map f n.args)) (sym same)
    ∙ sym (judged_head rules (names_in p) n.call (arg_sides p.tree n) n.sides (map f n.args))
    ∙ sym (judgement_tells rules (convex_problem p).nodes (problem_lawful p).ordered i node here)

-- the judgements with one more, that of the next node
pub judged_more : (rules : Rules) (p : Problem) (gs read after : List Judgement) (i : ℕ) (call : Call) (g : Judgement) → length gs ≡ i →
    ((j : ℕ) (h : Judgement) → slice_get gs j ≡ Some h → judgement_of h ≡ judgement_at rules (convex_problem p).nodes j) →
    map Some read ≡ map (slice_get gs) (args_at p.tree i) → call_at p.tree i ≡ Some call → judgement_of g ≡ judged rules call (map judgement_of read) → after ≡ gs ++ g ∷ [] →
    (j : ℕ) (h : Judgement) → slice_get after j ≡ Some h → judgement_of h ≡ judgement_at rules (convex_problem p).nodes j
judged_more rules p gs read after i call g count each args at is pushed j h there =
    let f = judgement_at rules (convex_problem p).nodes in
    push_each (λ k x. judgement_of x ≡ f k) gs g each (subst (λ n. judgement_of g ≡ f n) (sym count) (judged_next rules p gs read i call g each args at is)) j h
    (ap (λ xs. slice_get xs j) (sym pushed) ∙ there)
