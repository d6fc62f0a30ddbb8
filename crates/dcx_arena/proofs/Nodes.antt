-- One more node at the end of a list of nodes.
use Rattle.std.proofs.Common.{◌≡◌, ℕ, zero, suc, ◌+◌, ◌<◌, List, [], ◌∷◌, ◌++◌, length, map, Option, Some, option_map, refl, sym, ap, ap₂, subst, ◌∙◌, length-append, arith, All}
use Rattle.std.specs.List.{slice_get, AllByRecursion}
use Rattle.std.specs.Option.{unwrap_or}
use Rattle.std.proofs.lemmas.Option.{slice_get_within, none-some, same_Some}
use Rattle.std.proofs.lemmas.List.Sums.{sum_by-append, sum_by-cons}
use Rattle.std.proofs.lemmas.List.Elements.{recursion_from_All}
use Rattle.dcx_shape.specs.declared.shape.Sides.{Sides}
use Rattle.dcx_shape.specs.declared.shape.Sides.TheVariants.{Scalar}
use Rattle.dcx_shape.specs.Sides.{entries_of}
use Rattle.dcx_arena.specs.Nodes.{Node, IsNode, IsOf, IsNew, AreNodes, IsWithin, sides_at, entries_in}

-- what is so of each, and of one more
pub push_each : {X : Type 0} (P : ℕ → X → Type 0) (xs : List X) (x : X) → ((i : ℕ) (y : X) → slice_get xs i ≡ Some y → P i y) → P (length xs) x
    → (i : ℕ) (y : X) → slice_get (xs ++ x ∷ []) i ≡ Some y → P i y
push_each P [] x each last zero y e = subst (P 0) (same_Some x y e) last
push_each P [] x each last (suc i) y e = absurd (none-some y e)
push_each P (z ∷ xs) x each last zero y e = each zero y e
push_each P (z ∷ xs) x each last (suc i) y e = push_each (λ j. P (suc j)) xs x (λ j. each (suc j)) last i y e

pub in_front : {X : Type 0} (xs more : List X) (i : ℕ) → i < length xs → slice_get (xs ++ more) i ≡ slice_get xs i
in_front [] more i lt = absurd (omega arith)
in_front (x ∷ xs) more zero lt = refl
in_front (x ∷ xs) more (suc i) lt = in_front xs more i (omega arith)

pub at_end : {X : Type 0} (xs : List X) (x : X) → slice_get (xs ++ x ∷ []) (length xs) ≡ Some x
at_end [] x = refl
at_end (y ∷ xs) x = at_end xs x

module _ {C : Type 0} where
  sides_same : (nodes more : List (Node C)) (args : List ℕ) → AllByRecursion (λ a. a < length nodes) args → map (sides_at (nodes ++ more)) args ≡ map (sides_at nodes) args
  sides_same nodes more [] h = refl
  sides_same nodes more (a ∷ args) h = ap₂ (λ x xs. x ∷ xs) (ap (λ (o : Option (Node C)). unwrap_or (option_map (λ n. n.sides) o) Scalar) (in_front nodes more a h.0)) (sides_same nodes more args h.1)

  -- nodes at the end change no sides before them
  pub sides_more : (nodes more : List (Node C)) (args : List ℕ) → All (λ a. a < length nodes) args → map (sides_at (nodes ++ more)) args ≡ map (sides_at nodes) args
  sides_more nodes more args h = sides_same nodes more args (recursion_from_All (λ (a : ℕ). a < length nodes) args h)

  pub entries_more : (nodes : List (Node C)) (n : Node C) → entries_in (nodes ++ n ∷ []) ≡ entries_in nodes + entries_of n.sides
  entries_more nodes n =
      let e = sum_by-append (λ (x : Node C). entries_of x.sides) nodes (n ∷ []) in
      let f = sum_by-cons (λ (x : Node C). entries_of x.sides) n [] in
      omega (arith, e, f)

  swapped : (m n : Node C) → IsOf m n.call n.args → IsOf n m.call m.args
  swapped m n h = record { same_call = sym h.same_call; same_args = sym h.same_args }

  pub node_added : (gives : C → List Sides → Option Sides) (nodes : List (Node C)) (n : Node C) → AreNodes gives nodes → All (λ a. a < length nodes) n.args → IsNew nodes n.call n.args
      → gives n.call (map (sides_at nodes) n.args) ≡ Some n.sides → IsWithin (length nodes + 1) (entries_in nodes + entries_of n.sides) → AreNodes gives (nodes ++ n ∷ [])
  node_added gives nodes n h args new shaped room = record {
    earlier = push_each (λ i m. All (λ a. a < i) m.args) nodes n h.earlier args;
    distinct = λ i j m k at there. push_each (λ i' m'. (j' : ℕ) (k' : Node C) → IsNode (nodes ++ n ∷ []) j' k' → IsOf m' k'.call k'.args → i' ≡ j') nodes n
        (λ i' m' at'. push_each (λ j' k'. IsOf m' k'.call k'.args → i' ≡ j') nodes n (λ j' k' there' of. h.distinct i' j' m' k' at' there' of) (λ of. absurd (new i' (m', at', of))))
        (push_each (λ j' k'. IsOf n k'.call k'.args → length nodes ≡ j') nodes n (λ j' k' there' of. absurd (new j' (k', there', swapped n k' of))) (λ of. refl))
        i m at j k there;
    shaped = push_each (λ i m. gives m.call (map (sides_at (nodes ++ n ∷ [])) m.args) ≡ Some m.sides) nodes n
        (λ i m at. let lt = slice_get_within nodes i m at in
        ap (gives m.call) (sides_more nodes (n ∷ []) m.args (λ k d below. let b = h.earlier i m at k d below in omega (arith, b, lt))) ∙ h.shaped i m at)
        (ap (gives n.call) (sides_more nodes (n ∷ []) n.args args) ∙ shaped);
    room = record { few_nodes = let e = length-append nodes (n ∷ []) in omega (arith, e, room.few_nodes); few_entries = let e = entries_more nodes n in omega (arith, e, room.few_entries) };
  }
