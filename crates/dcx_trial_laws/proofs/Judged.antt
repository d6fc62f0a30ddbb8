-- What the rules say of nodes, where parameters are affine, by the expressions for which the nodes stand.
use Rattle.std.proofs.Common.{◌≡◌, ℕ, List, [], ◌∷◌, ◌++◌, map, Ok, option_map, refl, sym, ap, ap₂, subst, ◌∙◌}
use Rattle.std.specs.List.{slice_get}
use Rattle.std.proofs.lemmas.Option.{slice_get-map}
use Rattle.dcx_shape.specs.declared.shape.Sides.{Sides}
use Rattle.dcx_shape.specs.declared.shape.Sides.TheVariants.{Scalar}
use Rattle.dcx_shape.specs.declared.place.Place.{Place}
use Rattle.dcx_affine.specs.declared.pairing.Pairing.TheVariants.{Times, MatTimes, Over}
use Rattle.dcx_arena.specs.Nodes.{Node, AreNodes}
use Rattle.dcx_arena.specs.Unfold.{Expressions, none, one, Unfold}
use Rattle.dcx_arena.proofs.Nodes.{at_end}
use Rattle.dcx_call.specs.declared.call.Call.{Call}
use Rattle.dcx_call.specs.declared.call.Call.TheVariants as calls
use Rattle.dcx_call.specs.Calls.{shape_of}
use Rattle.dcx_convex.specs.Rules.{Parametrized, Judgement, judgement_by, judgement_at}
use Rattle.dcx_convex.proofs.Told.{judgement_tells}
use Rattle.dcx_tree.specs.Nodes.{Names, head_of, arg_sides, convex_node, convex_nodes}
use Rattle.dcx_tree.proofs.Lawful.{tree_lawful}
use Rattle.dcx_script_values.specs.Values.{State}
use Rattle.dcx_script_values.specs.Nodes.{push}
use Rattle.dcx_script_laws.proofs.Pushed.{Pushed, found, added, node, pushed, Grows}
use Rattle.dcx_script_laws.proofs.Standing.{unfold-more}

-- ---- of an expression
abbrev no_names : Names
no_names = record { variables = []; parameters = [] }

-- what is said of a call of arguments of which this is said: neither names nor sides matter
abbrev pub judged : Call → List Judgement → Judgement
judged call gs = judgement_by Parametrized (head_of no_names call [] Scalar) gs

judged-same : (names : Names) (call : Call) (args : List Sides) (sides : Sides) (gs : List Judgement) → judgement_by Parametrized (head_of names call args sides) gs ≡ judged call gs
judged-same names (calls.Variable v) args sides gs = refl
judged-same names (calls.Parameter p) args sides gs = refl
judged-same names (calls.Constant x) args sides gs = refl
judged-same names (calls.Atom m) args sides gs = refl
judged-same names (calls.Linear l) args sides gs = refl
judged-same names (calls.Pairing Times) args sides gs = refl
judged-same names (calls.Pairing MatTimes) args sides gs = refl
judged-same names (calls.Pairing Over) args sides gs = refl

abbrev pub judgements : Expressions Call → List Judgement
judgements none = []
judgements (one call args others) = judged call (judgements args) ∷ judgements others

-- the rules say of a node what they say of its expression
pub told : (names : Names) (nodes : List (Node Call)) → AreNodes shape_of nodes → (is : List ℕ) (t : Expressions Call) → Unfold nodes is t
    → map (judgement_at Parametrized (convex_nodes names nodes)) is ≡ judgements t
told names nodes are [] none h = refl
told names nodes are [] (one call args others) h = absurd h
told names nodes are (i ∷ is) none h = absurd h
told names nodes are (i ∷ is) (one call args others) (n, at, same, a, o) =
    let f = judgement_at Parametrized (convex_nodes names nodes) in
    let here : f i ≡ judged call (judgements args) =
    judgement_tells Parametrized (convex_nodes names nodes) (tree_lawful names nodes are).ordered i (convex_node names nodes n)
    (slice_get-map (convex_node names nodes) nodes i ∙ ap (option_map (convex_node names nodes)) at)
    ∙ judged-same names n.call (arg_sides nodes n) n.sides (map f n.args)
    ∙ ap₂ judged same (told names nodes are n.args args a) in
    ap₂ (λ g gs. g ∷ gs) here (told names nodes are is others o)

-- ---- of nodes in a list that grows
-- these nodes stand for expressions of which this is said
pub record Stand (nodes : List (Node Call)) (is : List ℕ) (gs : List Judgement) : Type 0 where
  pub tree : Expressions Call
  pub unfolds : Unfold nodes is tree
  pub judged : judgements tree ≡ gs

pub stand-none : (nodes : List (Node Call)) → Stand nodes [] []
stand-none nodes = record { tree = none; unfolds = tt; judged = refl }

pub stand-more : (s t : State) (is : List ℕ) (gs : List Judgement) → Grows s t → Stand s.nodes is gs → Stand t.nodes is gs
stand-more s t is gs grown h =
    record { tree = h.tree; unfolds = subst (λ (ns : List (Node Call)). Unfold ns is h.tree) (sym grown.1) (unfold-more s.nodes grown.0 is h.tree h.unfolds); judged = h.judged }

pub stand-both : (nodes : List (Node Call)) (i : ℕ) (is : List ℕ) (g : Judgement) (gs : List Judgement) → Stand nodes (i ∷ []) (g ∷ [])
    → Stand nodes is gs → Stand nodes (i ∷ is) (g ∷ gs)
stand-both nodes i is g gs h k = by h.tree h.unfolds h.judged
  where
    by : (t : Expressions Call) → Unfold nodes (i ∷ []) t → judgements t ≡ g ∷ [] → Stand nodes (i ∷ is) (g ∷ gs)
    by none u e = absurd u
    by (one call args others) (n, at, same, a, o) e =
        let first : judged call (judgements args) ≡ g = cc in
        record { tree = one call args k.tree; unfolds = (n, at, same, a, k.unfolds); judged = ap₂ (λ x xs. x ∷ xs) first k.judged }

-- a call of what stands there
pub stand-push : (s t : State) (place : Place) (call : Call) (args : List ℕ) (i : ℕ) (gs : List Judgement) → Stand s.nodes args gs → push place call args s ≡ Ok (i, t)
    → Stand t.nodes (i ∷ []) (judged call gs ∷ [])
stand-push s t place call args i gs h e = by (pushed s place call args i t e)
  where
    said : judgements (one call h.tree none) ≡ judged call gs ∷ []
    said = ap (λ ws. judged call ws ∷ []) h.judged

    by : Pushed s place call args i t → Stand t.nodes (i ∷ []) (judged call gs ∷ [])
    by (found (n, at, of) same) =
        subst (λ (u : State). Stand u.nodes (i ∷ []) (judged call gs ∷ [])) same
        (record { tree = one call h.tree none; unfolds = (n, at, of.same_call, subst (λ xs. Unfold s.nodes xs h.tree) (sym of.same_args) h.unfolds, tt); judged = said })
    by (added sides there shaped new room last same) =
        let n = node s place call args sides in
        subst (λ (u : State). Stand u.nodes (i ∷ []) (judged call gs ∷ [])) same
        (record {
          tree = one call h.tree none;
          unfolds = (n, ap (slice_get (s.nodes ++ n ∷ [])) (sym last) ∙ at_end s.nodes n, refl, unfold-more s.nodes (n ∷ []) args h.tree h.unfolds, tt);
          judged = said;
        })
