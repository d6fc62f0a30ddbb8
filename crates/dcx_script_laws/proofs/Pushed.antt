-- What a push leaves: the node that was there, or one more.
use Rattle.std.proofs.Common.{◌≡◌, ℕ, zero, suc, ◌+◌, ◌<◌, Bool, true, false, cond, nat_le, nat_lt, nat_eq, List, [], ◌∷◌, ◌++◌, length}
use Rattle.std.proofs.Common.{map, Option, Some, None, Result, Ok, Err, refl, sym, ap, subst, ◌∙◌, arith, true≢false, All, append-nil, append_assoc}
use Rattle.std.specs.Bool.{Decides}
use Rattle.std.specs.List.{AllByRecursion, list_all, position_from, slice_get}
use Rattle.std.specs.Cmp.Lexicographic.{pointwise, bytes_decides}
use Rattle.std.proofs.lemmas.Bool.{and_parts, leb-true}
use Rattle.std.proofs.lemmas.Bool.Decides.{Decides-ltb}
use Rattle.std.proofs.lemmas.List.Elements.{All-from_recursion}
use Rattle.std.proofs.lemmas.Option.{none-some, same_Some}
use Rattle.dcx_shape.specs.declared.shape.Sides.{Sides}
use Rattle.dcx_shape.specs.declared.place.Place.{Place}
use Rattle.dcx_shape.specs.Sides.{entries_of}
use Rattle.dcx_arena.specs.declared.fault.Count.TheVariants.{Nodes, Entries}
use Rattle.dcx_arena.specs.Nodes.{Node, IsOf, AreNodes, IsWithin, Holds, IsNew, most, sides_at, entries_in}
use Rattle.dcx_arena.proofs.Nodes.{node_added}
use Rattle.dcx_call.specs.declared.call.Call.{Call}
use Rattle.dcx_call.specs.Calls.{shape_of}
use Rattle.dcx_script_values.specs.declared.fault.ElabFault.{ElabFault}
use Rattle.dcx_script_values.specs.declared.fault.ElabFault.TheVariants.{BadArgument, ShapeClash}
use Rattle.dcx_script_values.specs.Values.{State, and_then, unless, or_fault, too_many}
use Rattle.dcx_script_values.specs.Nodes.{is_of, are_there, found_or_added, push}
use Rattle.dcx_script_values.specs.Same.{same_call}
use Rattle.dcx_script_state.proofs.SameCalls.{two, calls_decide}

-- ---- where a test first passes
module _ {X : Type 0} (p : X → Bool) where
  position-none : (k : ℕ) (xs : List X) → position_from p k xs ≡ None → (i : ℕ) (x : X) → slice_get xs i ≡ Some x → p x ≡ false
  position-none k [] e i x at = absurd (none-some x at)
  position-none k (y ∷ xs) e i x at = by (p y) refl e (position-none (k + 1) xs) i at
    where
      by : (b : Bool) → p y ≡ b → cond b (Some k) (position_from p (k + 1) xs) ≡ None
          → (position_from p (k + 1) xs ≡ None → (j : ℕ) (z : X) → slice_get xs j ≡ Some z → p z ≡ false) → (j : ℕ) → slice_get (y ∷ xs) j ≡ Some x → p x ≡ false
      by true t none rest j there = absurd cc
      by false t none rest zero there = ap p (sym (same_Some y x there)) ∙ t
      by false t none rest (suc j) there = rest none j x there

  position-some : (k : ℕ) (xs : List X) (i : ℕ) → position_from p k xs ≡ Some i → (j : ℕ) × (x : X) × (k + j ≡ i) × (slice_get xs j ≡ Some x) × (p x ≡ true)
  position-some k [] i e = absurd cc
  position-some k (y ∷ xs) i e = by (p y) refl e (position-some (k + 1) xs i)
    where
      by : (b : Bool) → p y ≡ b → cond b (Some k) (position_from p (k + 1) xs) ≡ Some i
          → (position_from p (k + 1) xs ≡ Some i → (j : ℕ) × (x : X) × (k + 1 + j ≡ i) × (slice_get xs j ≡ Some x) × (p x ≡ true))
          → (j : ℕ) × (x : X) × (k + j ≡ i) × (slice_get (y ∷ xs) j ≡ Some x) × (p x ≡ true)
      by true t some rest = let same : k ≡ i = cc in (0, y, omega (arith, same), refl, t)
      by false t some rest = let r = rest some in (suc r.0, r.1, omega (arith, r.2), r.3, r.4)

-- arguments that are there
below_all : (n : ℕ) (args : List ℕ) → list_all (λ a. nat_lt a n) args ≡ true → All (λ a. a < n) args
below_all n args e = All-from_recursion (λ a. a < n) args (by args e)
  where
    by : (xs : List ℕ) → list_all (λ a. nat_lt a n) xs ≡ true → AllByRecursion (λ a. a < n) xs
    by [] t = tt
    by (x ∷ xs) t = let q = and_parts (nat_lt x n) (list_all (λ a. nat_lt a n) xs) t in ((Decides-ltb x n).0 q.0, by xs q.1)

is_of-decides : (call : Call) (args : List ℕ) (n : Node Call) → Decides (is_of call args n) (IsOf n call args)
is_of-decides call args n =
    two (same_call n.call call) (pointwise nat_eq n.args args) (calls_decide n.call call) (bytes_decides n.args args)
    (λ e f. record { same_call = e; same_args = f }) (λ r. r.same_call) (λ r. r.same_args)

module _ (s : State) (place : Place) (call : Call) (args : List ℕ) where
  abbrev pub node : Sides → Node Call
  node sides = record { call = call; args = args; sides = sides; place = place }

  -- the node has this number, and this is the state then
  pub data Pushed (i : ℕ) (t : State) : Type 0 where
    found : Holds s.nodes call args i → s ≡ t → Pushed i t
    added : (sides : Sides) → All (λ a. a < length s.nodes) args → shape_of call (map (sides_at s.nodes) args) ≡ Some sides → IsNew s.nodes call args
        → IsWithin (length s.nodes + 1) (entries_in s.nodes + entries_of sides) → length s.nodes ≡ i → record s { nodes = s.nodes ++ node sides ∷ [] } ≡ t → Pushed i t

  holds_at : (k : ℕ) → position_from (is_of call args) 0 s.nodes ≡ Some k → Holds s.nodes call args k
  holds_at k e =
      let r = position-some (is_of call args) 0 s.nodes k e in
      let here : r.0 ≡ k = omega (arith, r.2) in
      (r.1, ap (slice_get s.nodes) (sym here) ∙ r.3, (is_of-decides call args r.1).0 r.4)

  is_new : position_from (is_of call args) 0 s.nodes ≡ None → IsNew s.nodes call args
  is_new e k (n, at, of) = true≢false (sym ((is_of-decides call args n).1 of) ∙ position-none (is_of call args) 0 s.nodes e k n at)

  -- the steps of a push, by what is asked of the nodes
  abbrev guarded : Bool → Option Sides → Option ℕ → Result (ℕ × State) ElabFault
  guarded b o f = and_then (unless (BadArgument place) b s) (λ _ t. and_then (or_fault (ShapeClash place) o t) (λ sides. found_or_added place (node sides) f))

  abbrev limited : Sides → Bool → Bool → Result (ℕ × State) ElabFault
  limited sides b c =
      and_then (unless (too_many place Nodes (length s.nodes + 1)) b s) (λ _ t. and_then (unless (too_many place Entries (entries_in s.nodes + entries_of sides)) c t)
      (λ _ u. Ok (length s.nodes, record u { nodes = s.nodes ++ node sides ∷ [] })))

  module _ (i : ℕ) (t : State) where
    number_of : Result (ℕ × State) ElabFault → ℕ
    number_of (Ok x) = x.0
    number_of (Err e) = i

    state_of : Result (ℕ × State) ElabFault → State
    state_of (Ok x) = x.1
    state_of (Err e) = t

    by_limits : (sides : Sides) → All (λ a. a < length s.nodes) args → shape_of call (map (sides_at s.nodes) args) ≡ Some sides → IsNew s.nodes call args
        → (b c : Bool) → nat_le (length s.nodes + 1) most ≡ b
        → nat_le (entries_in s.nodes + entries_of sides) most ≡ c → limited sides b c ≡ Ok (i, t) → Pushed i t
    unfolding number_of state_of
    by_limits sides there shaped new true true few_nodes few_entries e =
        added sides there shaped new (record { few_nodes = leb-true (length s.nodes + 1) most few_nodes; few_entries = leb-true (entries_in s.nodes + entries_of sides) most few_entries })
        (ap number_of e) (ap state_of e)
    by_limits sides there shaped new true false few_nodes few_entries e = absurd cc
    by_limits sides there shaped new false c few_nodes few_entries e = absurd cc

    by_parts : (b : Bool) (o : Option Sides) (f : Option ℕ) → are_there s.nodes args ≡ b → shape_of call (map (sides_at s.nodes) args) ≡ o → position_from (is_of call args) 0 s.nodes ≡ f
        → guarded b o f ≡ Ok (i, t) → Pushed i t
    unfolding number_of state_of
    by_parts true (Some sides) (Some k) there shaped at e = found (subst (Holds s.nodes call args) (ap number_of e) (holds_at k at)) (ap state_of e)
    by_parts true (Some sides) None there shaped at e =
        by_limits sides (below_all (length s.nodes) args there) shaped (is_new at) (nat_le (length s.nodes + 1) most) (nat_le (entries_in s.nodes + entries_of sides) most) refl refl e
    by_parts true None f there shaped at e = absurd cc
    by_parts false o f there shaped at e = absurd cc

    pub pushed : push place call args s ≡ Ok (i, t) → Pushed i t
    pushed e = by_parts (are_there s.nodes args) (shape_of call (map (sides_at s.nodes) args)) (position_from (is_of call args) 0 s.nodes) refl refl refl e

-- ---- what that makes of the nodes
-- they are a tree, as they were
pub push-tree : (s t : State) (place : Place) (call : Call) (args : List ℕ) (i : ℕ) → push place call args s ≡ Ok (i, t) → AreNodes shape_of s.nodes → AreNodes shape_of t.nodes
push-tree s t place call args i e are = by (pushed s place call args i t e)
  where
    by : Pushed s place call args i t → AreNodes shape_of t.nodes
    by (found holds same) = subst (λ (u : State). AreNodes shape_of u.nodes) same are
    by (added sides there shaped new room last same) =
        subst (λ (u : State). AreNodes shape_of u.nodes) same (node_added shape_of s.nodes (node s place call args sides) are there new shaped room)

-- they begin with those that were there
abbrev pub Grows : State → State → Type 0
Grows s t = (more : List (Node Call)) × (t.nodes ≡ s.nodes ++ more)

pub push-grows : (s t : State) (place : Place) (call : Call) (args : List ℕ) (i : ℕ) → push place call args s ≡ Ok (i, t) → Grows s t
push-grows s t place call args i e = by (pushed s place call args i t e)
  where
    by : Pushed s place call args i t → Grows s t
    by (found holds same) = ([], ap (λ (u : State). u.nodes) (sym same) ∙ sym (append-nil s.nodes))
    by (added sides there shaped new room last same) = (node s place call args sides ∷ [], ap (λ (u : State). u.nodes) (sym same))

pub grows-from : (s : State) → Grows s s
grows-from s = ([], sym (append-nil s.nodes))

pub grows-on : (s t u : State) → Grows s t → Grows t u → Grows s u
grows-on s t u h k = (h.0 ++ k.0, k.1 ∙ ap (λ ns. ns ++ k.0) h.1 ∙ append_assoc s.nodes h.0 k.0)
