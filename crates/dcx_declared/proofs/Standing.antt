-- Where a declared name stands among the nodes of a tree.
use Rattle.std.proofs.Common.{◌≡◌, ◌↔◌, inl, inr, IsTrue, ℕ, ◌<◌, List, Bool, true, false, Option, Some, sym, ap, subst, ◌∙◌, arith}
use Rattle.std.proofs.lemmas.Option.{same_Some}
use Rattle.std.proofs.Math.Logic.{∥∥₁_elim}
use Rattle.dcx_math.proofs.Lists.{holds_at}
use Rattle.dcx_point.specs.Pairs.{same_name}
use Rattle.dcx_point.proofs.Puts.{same_name-refl, same_name-true}
use Rattle.dcx_arena.specs.Nodes.{call_at, place_at}
use Rattle.dcx_shape.specs.declared.place.Place.{Place}
use Rattle.dcx_call.specs.declared.attribute.Parameter.{Parameter}
use Rattle.dcx_call.specs.declared.attribute.Variable.{Variable}
use Rattle.dcx_call.specs.declared.call.Call.{Call}
use Rattle.dcx_call.specs.declared.call.Call.TheVariants as calls
use Rattle.dcx_tree.specs.Nodes.{Node}
use Rattle.dcx_tree.specs.declared.problem.Problem.{Problem}
use Rattle.dcx_tree.specs.Problems.{HasCall}
use Rattle.dcx_declared.specs.Stands.{name_of, IsNamedAt, LacksName, IsFirstNamed, StandsAt, HasName}

-- a call declares a name where its own is the one
pub named_is : (name other : List ℕ) (b : Bool) (own : Option (List ℕ)) → own ≡ Some other → b ≡ same_name name other → IsTrue b ↔ (own ≡ Some name)
named_is name other b own is h = (
  λ t. is ∙ ap Some (sym (same_name-true name other (sym h ∙ t))),
  λ k. h ∙ subst (λ n. same_name n other ≡ true) (same_Some other name (sym is ∙ k)) (same_name-refl other),
)

-- a node does where its call does
pub call_named : (nodes : List Node) (name : List ℕ) (i : ℕ) (call : Call) (b : Bool) → call_at nodes i ≡ Some call → IsTrue b ↔ (name_of call ≡ Some name) → IsTrue b ↔ IsNamedAt nodes name i
call_named nodes name i call b there h = (
  λ t. record { call = call; there = there; named = h.0 t },
  λ k. h.1 (subst (λ (x : Call). name_of x ≡ Some name) (same_Some k.call call (sym k.there ∙ there)) k.named),
)

pub not_named_at : (nodes : List Node) (name : List ℕ) (i : ℕ) (b : Bool) → IsTrue b ↔ IsNamedAt nodes name i → b ≡ false → ¬ IsNamedAt nodes name i
not_named_at nodes name i b h e k = let t : b ≡ true = h.1 k in absurd (cc)

-- the first node is one, and so is its place
one_first_named : (nodes : List Node) (name : List ℕ) (i j : ℕ) → IsFirstNamed nodes name i → IsFirstNamed nodes name j → i ≡ j
one_first_named nodes name i j h k =
    let low : i < j → ⊥ = (λ l. k.before i l h.is) in
    let high : j < i → ⊥ = (λ l. h.before j l k.is) in
    omega (arith, low, high)

pub stands_once : (p : Problem) (name : List ℕ) (a b : Place) → StandsAt p name a → StandsAt p name b → a ≡ b
stands_once p name a b h k = same_Some a b (sym h.stands ∙ ap (place_at p.tree) (one_first_named p.tree name h.node k.node h.first k.first) ∙ k.stands)

-- what is declared has a node
call_reached : (p : Problem) (name : List ℕ) (call : Call) → name_of call ≡ Some name → HasCall p.tree call → LacksName p.tree name → ⊥
call_reached p name call named (i, there) none = none i (record { call = call; there = there; named = named })

pub reached : (p : Problem) (name : List ℕ) → HasName p name → LacksName p.tree name → ⊥
reached p name (inl (k, v, at, is)) none =
    ∥∥₁_elim p.declared (λ x. absurd x) (λ d. call_reached p name (calls.Variable v) (ap Some is)
    (holds_at (λ (x : Variable). HasCall p.tree (calls.Variable x)) p.variables k v d.variables_stand at) none)
reached p name (inr (k, q, at, is)) none =
    ∥∥₁_elim p.declared (λ x. absurd x) (λ d. call_reached p name (calls.Parameter q) (ap Some is)
    (holds_at (λ (x : Parameter). HasCall p.tree (calls.Parameter x)) p.parameters k q d.parameters_stand at) none)
