-- What is so of nodes stays so when nodes come behind them.
use Rattle.std.proofs.Common.{◌≡◌, ℕ, ◌<◌, false, List, [], ◌∷◌, ◌++◌, length, map, Option, Some, None, Result, Ok, Err, refl, sym, ap, ◌∙◌, subst, arith, length-append, option_map, inl, inr}
use Rattle.std.specs.List.{Contains}
use Rattle.std.specs.Option.{unwrap_or}
use Rattle.std.specs.Result.{OnErr}
use Rattle.std.proofs.lemmas.Option.{slice_get_within}
use Rattle.dcx_shape.specs.declared.place.Place.{Place}
use Rattle.dcx_shape.specs.declared.shape.Sides.{Sides}
use Rattle.dcx_shape.specs.declared.shape.Sides.TheVariants.{Scalar}
use Rattle.dcx_shape.specs.Sides.{entries_of}
use Rattle.dcx_arena.specs.declared.node.NodeId.{NodeId}
use Rattle.dcx_arena.specs.declared.fault.TreeFault.{TreeFault}
use Rattle.dcx_arena.specs.Nodes.{Node, IsNode, AreNodes, IsPushed, EndsAt, sides_at}
use Rattle.dcx_arena.proofs.Nodes.{push_each, in_front, at_end}
use Rattle.dcx_call.specs.declared.attribute.Variable.{Variable}
use Rattle.dcx_call.specs.declared.attribute.Parameter.{Parameter}
use Rattle.dcx_call.specs.declared.call.Call.{Call}
use Rattle.dcx_call.specs.declared.call.Call.TheVariants as calls
use Rattle.dcx_call.specs.Calls.{shape_of}
use Rattle.dcx_tree.specs.Problems.{HasSides, IsListed}
use Rattle.dcx_tree.proofs.Gathered.{roots_below}
use Rattle.dcx_tree.proofs.Sublists.{contains_at, at_contains}
use Rattle.dcx_script_state.specs.declared.state.Asked as code_asked
use Rattle.dcx_script_state.specs.Declarations.{is_parameter, is_declaration, roots_of}
use Rattle.dcx_script_state.specs.Kept.{asked_of, IsAsked, IsKept}
use Rattle.dcx_script_state.proofs.Behind.{reached_same}

-- ---- a problem that is asked
module _ (nodes more : List (Node Call)) where
  sides_same : (id : NodeId) → id.0 < length nodes → sides_at (nodes ++ more) id.0 ≡ sides_at nodes id.0
  sides_same id lt = ap (λ (o : Option (Node Call)). unwrap_or (option_map (λ n. n.sides) o) Scalar) (in_front nodes more id.0 lt)

  there_same : (id : NodeId) → id.0 < length nodes → id.0 < length (nodes ++ more)
  there_same id lt = omega (arith, length-append nodes more)

  has_same : (id : NodeId) (sides : Sides) → HasSides nodes id sides → HasSides (nodes ++ more) id sides
  has_same id sides h = record { there = there_same id h.there; same = sides_same id h.there ∙ h.same }

  pub asked_more : (q : code_asked.Asked) → AreNodes shape_of nodes → IsAsked nodes q → IsAsked (nodes ++ more) q
  asked_more q are h = record {
    objective = record { there = there_same q.objective.node h.objective.there; one_entry = ap entries_of (sides_same q.objective.node h.objective.there) ∙ h.objective.one_entry };
    constraints = record {
      left = λ k c at. has_same c.left _ (h.constraints.left k c at);
      right = λ k c at. has_same c.right _ (h.constraints.right k c at);
      few = h.constraints.few;
    };
    reached = λ name. h.reached name ∙ sym (reached_same shape_of nodes are more (is_parameter name) (roots_of (asked_of q))
        (roots_below nodes q.objective.node q.constraints.items h.objective h.constraints));
  }

-- ---- what is listed
module _ (vs : List Variable) (ps : List Parameter) where
  -- a call that no declaration makes
  pub plain_listed : (call : Call) → is_declaration call ≡ false → IsListed vs ps call
  plain_listed (calls.Variable v) e = absurd (cc)
  plain_listed (calls.Parameter p) e = absurd (cc)
  plain_listed (calls.Constant a) e = tt
  plain_listed (calls.Atom a) e = tt
  plain_listed (calls.Linear l) e = tt
  plain_listed (calls.Pairing p) e = tt

  abbrev pub AreListed : List (Node Call) → Type 0
  AreListed nodes = (i : ℕ) (n : Node Call) → IsNode nodes i n → IsListed vs ps n.call

contains_front : {X : Type 0} (xs more : List X) (x : X) → Contains xs x → Contains (xs ++ more) x
contains_front xs more x h = let (k, at) = contains_at xs x h in at_contains (xs ++ more) k x (in_front xs more k (slice_get_within xs k x at) ∙ at)

-- one more variable, and one more parameter
pub listed_variable : (vs : List Variable) (ps : List Parameter) (v : Variable) (call : Call) → IsListed vs ps call → IsListed (vs ++ v ∷ []) ps call
listed_variable vs ps v (calls.Variable w) h = contains_front vs (v ∷ []) w h
listed_variable vs ps v (calls.Parameter p) h = h
listed_variable vs ps v (calls.Constant a) h = tt
listed_variable vs ps v (calls.Atom a) h = tt
listed_variable vs ps v (calls.Linear l) h = tt
listed_variable vs ps v (calls.Pairing p) h = tt

pub listed_parameter : (vs : List Variable) (ps : List Parameter) (p : Parameter) (call : Call) → IsListed vs ps call → IsListed vs (ps ++ p ∷ []) call
listed_parameter vs ps p (calls.Variable w) h = h
listed_parameter vs ps p (calls.Parameter q) h = contains_front ps (p ∷ []) q h
listed_parameter vs ps p (calls.Constant a) h = tt
listed_parameter vs ps p (calls.Atom a) h = tt
listed_parameter vs ps p (calls.Linear l) h = tt
listed_parameter vs ps p (calls.Pairing q) h = tt

pub contains_last : {X : Type 0} (xs : List X) (x : X) → Contains (xs ++ x ∷ []) x
contains_last xs x = at_contains (xs ++ x ∷ []) (length xs) x (at_end xs x)

-- ---- a push
-- the nodes are as they were, or one more came behind, of this call
pub data Comes (before : List (Node Call)) (call : Call) (after : List (Node Call)) : Type 0 where
  stays : after ≡ before → Comes before call after
  comes : (n : Node Call) → n.call ≡ call → after ≡ before ++ n ∷ [] → Comes before call after

pub push_comes : (before : List (Node Call)) (call : Call) (args : List ℕ) (place : Place) (r : Result NodeId TreeFault) (after : List (Node Call)) →
    IsPushed shape_of before call args place r after → OnErr r (after ≡ before) → Comes before call after
push_comes before call args place (Err f) after h same = stays same
push_comes before call args place (Ok id) after h same = by (shape_of call (map (sides_at before) args)) h
  where
    by : (o : Option Sides) → EndsAt before call args place (Ok id) after o → Comes before call after
    by None h = absurd h
    by (Some sides) (inl found) = stays found.same
    by (Some sides) (inr added) = comes (record { call = call; args = args; sides = sides; place = place }) refl added.added

pub listed_after : (vs : List Variable) (ps : List Parameter) (before after : List (Node Call)) (call : Call) → Comes before call after → IsListed vs ps call
    → AreListed vs ps before → AreListed vs ps after
listed_after vs ps before after call (stays e) h all = subst (AreListed vs ps) (sym e) all
listed_after vs ps before after call (comes n is e) h all =
    subst (AreListed vs ps) (sym e) (push_each (λ i m. IsListed vs ps m.call) before n all (subst (IsListed vs ps) (sym is) h))

pub asked_after : (before after : List (Node Call)) (call : Call) → Comes before call after → AreNodes shape_of before → (q : code_asked.Asked) → IsAsked before q → IsAsked after q
asked_after before after call (stays e) are q h = subst (λ ns. IsAsked ns q) (sym e) h
asked_after before after call (comes n is e) are q h = subst (λ ns. IsAsked ns q) (sym e) (asked_more before (n ∷ []) q are h)

-- ---- a state
-- what is kept of a state stays so after a push, and when something is declared
pub kept_after : (before after : List (Node Call)) (vs : List Variable) (ps : List Parameter) (asked : Option code_asked.Asked) (call : Call) → Comes before call after → IsListed vs ps call →
    AreNodes shape_of before → IsKept before vs ps asked → IsKept after vs ps asked
kept_after before after vs ps asked call come h are k = record {
  listed = listed_after vs ps before after call come h k.listed;
  begins = λ q e. asked_after before after call come are q (k.begins q e);
}

pub kept_variable : (nodes : List (Node Call)) (vs : List Variable) (ps : List Parameter) (asked : Option code_asked.Asked) (v : Variable)
    → IsKept nodes vs ps asked → IsKept nodes (vs ++ v ∷ []) ps asked
kept_variable nodes vs ps asked v k = record { listed = λ i n at. listed_variable vs ps v n.call (k.listed i n at); begins = k.begins }

pub kept_parameter : (nodes : List (Node Call)) (vs : List Variable) (ps : List Parameter) (asked : Option code_asked.Asked) (p : Parameter)
    → IsKept nodes vs ps asked → IsKept nodes vs (ps ++ p ∷ []) asked
kept_parameter nodes vs ps asked p k = record { listed = λ i n at. listed_parameter vs ps p n.call (k.listed i n at); begins = k.begins }
