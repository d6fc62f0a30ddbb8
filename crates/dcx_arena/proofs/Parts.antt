-- The part of a list of nodes that is finished.
use Rattle.std.proofs.Common.{◌≡◌, Result, Ok, Err, ℕ, suc, ◌+◌, ◌<◌, ◌≤◌, true, List, [], ◌∷◌, ◌++◌, length, take, get_or}
use Rattle.std.proofs.Common.{map, Option, Some, None, option_map, refl, sym, ap, ap₂, subst, ◌∙◌, arith, All, length-append}
use Rattle.std.specs.List.{slice_get, sum_by, AllByRecursion}
use Rattle.std.specs.Option.{unwrap_or}
use Rattle.std.proofs.lemmas.List.{take_more, map-append}
use Rattle.std.proofs.lemmas.List.Elements.{All-from_recursion}
use Rattle.std.proofs.lemmas.List.Sums.{sum_by-cons}
use Rattle.std.proofs.lemmas.Option.{slice_get_within, slice_get-get_or, none-some, same_Some}
use Rattle.dcx_shape.specs.declared.shape.Sides.{Sides}
use Rattle.dcx_shape.specs.declared.shape.Sides.TheVariants.{Scalar}
use Rattle.dcx_shape.specs.Sides.{entries_of}
use Rattle.dcx_arena.specs.Nodes.{Node, IsNode, IsNew, AreNodes, IsWithin, IsOver, PushEnds, EndsAt, IsPushed, sides_at, args_at, entries_in}
use Rattle.dcx_arena.specs.declared.node.NodeId.{NodeId}
use Rattle.dcx_arena.specs.declared.fault.Count.{Count}
use Rattle.dcx_arena.specs.declared.fault.Count.TheVariants.{Nodes, Entries, Items, Steps, Events}
use Rattle.dcx_arena.specs.declared.fault.TreeFault.{TreeFault}
use Rattle.dcx_arena.specs.declared.fault.TreeFault.TheVariants.{Clash, TooMany, Memory}
use mathlib.Core.Logic.{inl, inr}
use Rattle.dcx_arena.specs.Gather.{has, StandFor, IsRenamed, AreRenamed}
use Rattle.dcx_arena.specs.Walk.{weigh, IsNumbering, IsClosed}
use Rattle.dcx_arena.specs.declared.store.Cell.{Cell}
use Rattle.dcx_arena.specs.declared.store.Stored.{Stored}
use Rattle.dcx_arena.specs.Chains.{nodes_of}
use Rattle.dcx_arena.proofs.Kept.{count_nodes}
use Rattle.dcx_arena.proofs.Nodes.{push_each, entries_more}
use Rattle.dcx_arena.proofs.Orders.{has_one, tail_has}
use Rattle.dcx_arena.proofs.Numbers.{listed_below, few_numbered}

-- one more name
pub stand_more : (order names here : List ℕ) (i k : ℕ) → i < length here → StandFor order names (take i here) → slice_get order k ≡ Some (get_or here i 0)
    → StandFor order (names ++ k ∷ []) (take (i + 1) here)
stand_more order names here i k lt so_far e =
    rw (map-append (slice_get order) names (k ∷ []), so_far, e, take_more here i 0 lt, map-append Some (take i here) (get_or here i 0 ∷ [])) refl

-- names that stand for positions, one by one
stand_each : (order names here : List ℕ) (P : ℕ → Type 0) → StandFor order names here → ((h a : ℕ) → has here a ≡ true → slice_get order h ≡ Some a → P h) → AllByRecursion P names
stand_each order [] here P e f = tt
stand_each order (h ∷ hs) [] P e f = absurd (cc)
stand_each order (h ∷ hs) (a ∷ others) P e f =
    let at : slice_get order h ≡ Some a = cc in
    let rest : StandFor order hs others = cc in
    (f h a (has_one a others) at, stand_each order hs others P rest (λ h' a' k. f h' a' (tail_has a a' others k)))

map_each : {X : Type 0} (order names here : List ℕ) (f g : ℕ → X) → StandFor order names here → ((h a : ℕ) → has here a ≡ true → slice_get order h ≡ Some a → f h ≡ g a) → map f names ≡ map g here
map_each order [] [] f g e k = refl
map_each order [] (a ∷ others) f g e k = absurd (cc)
map_each order (h ∷ hs) [] f g e k = absurd (cc)
map_each order (h ∷ hs) (a ∷ others) f g e k =
    let at : slice_get order h ≡ Some a = cc in
    let rest : StandFor order hs others = cc in
    ap₂ (λ x xs. x ∷ xs) (k h a (has_one a others) at) (map_each order hs others f g rest (λ h' a' t. k h' a' (tail_has a a' others t)))

same_here : (xs ys : List ℕ) → map Some xs ≡ map Some ys → xs ≡ ys
same_here [] [] e = refl
same_here [] (y ∷ ys) e = absurd (cc)
same_here (x ∷ xs) [] e = absurd (cc)
same_here (x ∷ xs) (y ∷ ys) e =
    let at : Some x ≡ Some y = cc in
    let rest : map Some xs ≡ map Some ys = cc in
    ap₂ (λ z zs. z ∷ zs) (same_Some x y at) (same_here xs ys rest)

weigh_nodes : {X : Type 0} (g : X → ℕ) (f : ℕ → ℕ) (i : ℕ) (numbers : List (Option ℕ)) (xs : List X) → length numbers ≡ length xs
    → ((k : ℕ) (x : X) → slice_get xs k ≡ Some x → f (i + k) ≡ g x) → weigh f i numbers ≤ sum_by g xs
weigh_nodes g f i [] xs n h = omega arith
weigh_nodes g f i (o ∷ numbers) [] n h = absurd (omega arith)
weigh_nodes g f i (None ∷ numbers) (x ∷ xs) n h =
    let s = sum_by-cons g x xs in
    let r = weigh_nodes g f (suc i) numbers xs (omega arith) (λ k y e. let z : suc i + k ≡ i + suc k = omega arith in rw z (h (suc k) y e)) in
    omega (arith, s, r)
weigh_nodes g f i (Some j ∷ numbers) (x ∷ xs) n h =
    let s = sum_by-cons g x xs in
    let here : f i ≡ g x = let z : i + 0 ≡ i = omega arith in rw z at (h 0 x refl) in
    let r = weigh_nodes g f (suc i) numbers xs (omega arith) (λ k y e. let z : suc i + k ≡ i + suc k = omega arith in rw z (h (suc k) y e)) in
    omega (arith, s, r, here)

sum_part : {X : Type 0} (g : X → ℕ) (f : ℕ → ℕ) (part : List X) (order : List ℕ)
    → ((k : ℕ) (x : X) → slice_get part k ≡ Some x → (i : ℕ) × (slice_get order k ≡ Some i) × (f i ≡ g x)) → sum_by g part ≤ sum_by f order
sum_part g f [] order h = omega arith
sum_part g f (x ∷ part) [] h = let (i, at, e) = h 0 x refl in absurd (none-some i at)
sum_part g f (x ∷ part) (o ∷ order) h =
    let (i, at, e) = h 0 x refl in
    let same : f o ≡ g x = rw (same_Some o i at) e in
    let a = sum_by-cons g x part in
    let b = sum_by-cons f o order in
    let r = sum_part g f part order (λ k y t. h (suc k) y t) in
    omega (arith, a, b, r, same)

not_over : (nodes entries : ℕ) (what : Count) (count : ℕ) → IsWithin nodes entries → ¬ IsOver nodes entries what count
not_over nodes entries Nodes count h o = omega (arith, h.few_nodes, o.0)
not_over nodes entries Entries count h o = omega (arith, h.few_entries, o.1)
not_over nodes entries Items count h o = o
not_over nodes entries Steps count h o = o
not_over nodes entries Events count h o = o

-- a node of the order is there
pub stored_below : {C : Type 0} (cells : List Cell) (stored : List (Stored C)) (order : List ℕ) (numbers : List (Option ℕ)) (k i : ℕ)
    → length numbers ≡ length (nodes_of cells stored) → IsNumbering order numbers → slice_get order k ≡ Some i → i < length stored
stored_below cells stored order numbers k i long numbering e = let lt = listed_below order numbers k i numbering e in let n = count_nodes cells stored in omega (arith, lt, n, long)

module _ {C : Type 0} (gives : C → List Sides → Option Sides) (nodes : List (Node C)) (are : AreNodes gives nodes) (order : List ℕ) (numbers : List (Option ℕ))
    (long : length numbers ≡ length nodes) (numbering : IsNumbering order numbers) where
  same_place_in : (j k i : ℕ) → slice_get order j ≡ Some i → slice_get order k ≡ Some i → j ≡ k
  same_place_in j k i a b = same_Some j k (sym (numbering.listed j i a) ∙ numbering.listed k i b)

  entries_at : ℕ → ℕ
  entries_at i = entries_of (sides_at nodes i)

  sides_of_node : (i : ℕ) (m : Node C) → IsNode nodes i m → sides_at nodes i ≡ m.sides
  sides_of_node i m e = ap (λ (o : Option (Node C)). unwrap_or (option_map (λ n. n.sides) o) Scalar) e

  -- a part has no more nodes and entries than the whole
  part_room : (part : List (Node C)) → AreRenamed nodes order part → length part ≤ length order → IsWithin (length part) (entries_in part)
  unfolding entries_at
  part_room part renamed le =
      let few = few_numbered order numbers numbering in
      let a = sum_part (λ (n : Node C). entries_of n.sides) entries_at part order (λ k n at.
      let (i, m, at_k, at_i, same) = renamed k n at in
      (i, at_k, ap entries_of (sides_of_node i m at_i ∙ sym same.same_sides))) in
      let b = numbering.weighs entries_at in
      let d = weigh_nodes (λ (n : Node C). entries_of n.sides) entries_at 0 numbers nodes long (λ k n at. let z : 0 + k ≡ k = omega arith in rw z (ap entries_of (sides_of_node k n at))) in
      record { few_nodes = omega (arith, few, le, long, are.room.few_nodes); few_entries = omega (arith, a, b, d, are.room.few_entries) }

  module _ (closed : IsClosed nodes order) (part : List (Node C)) (renamed : AreRenamed nodes order part) (i : ℕ) (m : Node C) (at_i : IsNode nodes i m)
      (next : slice_get order (length part) ≡ Some i) (names : List ℕ) (stand : StandFor order names m.args) where
    args_is : args_at nodes i ≡ m.args
    args_is = ap (λ (o : Option (Node C)). unwrap_or (option_map (λ n. n.args) o) []) at_i

    name_below : (h a : ℕ) → has m.args a ≡ true → slice_get order h ≡ Some a → h < length part
    name_below h a of at =
        let (h', lt, at') = closed (length part) i a next (rw (← args_is) at of) in
        rw (same_place_in h h' a at at') lt

    pub names_below : All (λ h. h < length part) names
    names_below = All-from_recursion (λ (h : ℕ). h < length part) names (stand_each order names m.args (λ h. h < length part) stand name_below)

    name_sides : (h a : ℕ) → has m.args a ≡ true → slice_get order h ≡ Some a → sides_at part h ≡ sides_at nodes a
    name_sides h a of at =
        let lt = name_below h a of at in
        let d : Node C = record { call = m.call; args = []; sides = m.sides; place = m.place } in
        let there = slice_get-get_or part h d lt in
        let (i', m', at_h, at_i', same) = renamed h (get_or part h d) there in
        let e : i' ≡ a = same_Some i' a (sym at_h ∙ at) in
        ap (λ (o : Option (Node C)). unwrap_or (option_map (λ n. n.sides) o) Scalar) there ∙ same.same_sides ∙ sym (sides_of_node i' m' at_i') ∙ ap (sides_at nodes) e

    pub names_give : gives m.call (map (sides_at part) names) ≡ Some m.sides
    names_give = ap (gives m.call) (map_each order names m.args (sides_at part) (sides_at nodes) stand name_sides) ∙ are.shaped i m at_i

    pub next_new : IsNew part m.call names
    next_new k (n, at, of) =
        let (i', m', at_k, at_i', same) = renamed k n at in
        let args : m'.args ≡ m.args = same_here m'.args m.args (sym same.same_args ∙ ap (map (slice_get order)) of.same_args ∙ stand) in
        let e : i' ≡ i = are.distinct i' i m' m at_i' at_i (record { same_call = sym same.same_call ∙ of.same_call; same_args = args }) in
        let lt = slice_get_within part k n at in
        let z : k ≡ length part = same_place_in k (length part) i (at_k ∙ ap Some e) next in
        absurd (omega (arith, lt, z))

    abbrev pub next_node : Node C
    next_node = record { call = m.call; args = names; sides = m.sides; place = m.place }

    pub next_renamed : AreRenamed nodes order (part ++ next_node ∷ [])
    next_renamed = push_each (λ k n. (i' : ℕ) × (m' : Node C) × (slice_get order k ≡ Some i') × IsNode nodes i' m' × IsRenamed order m' n) part next_node renamed
        (i, m, next, at_i, record { same_call = refl; same_sides = refl; same_place = refl; same_args = stand })

    pub next_room : IsWithin (length part + 1) (entries_in part + entries_of m.sides)
    next_room =
        let lt = slice_get_within order (length part) i next in
        let n = length-append part (next_node ∷ []) in
        let e = entries_more part next_node in
        let r = part_room (part ++ next_node ∷ []) next_renamed (omega (arith, n, lt)) in
        record { few_nodes = omega (arith, n, r.few_nodes); few_entries = omega (arith, e, r.few_entries) }

    -- how a push of the next node ends
    abbrev pub Adds : Result NodeId TreeFault → List (Node C) → Type 0
    Adds (Ok id) after = after ≡ part ++ next_node ∷ []
    Adds (Err fault) after = fault ≡ Memory

    ends_adds : (result : Result NodeId TreeFault) (after : List (Node C)) → PushEnds part next_node result after → Adds result after
    ends_adds (Ok id) after (inl f) = absurd (next_new id.0 f.there)
    ends_adds (Ok id) after (inr a) = a.added
    ends_adds (Err Clash) after h = absurd h
    ends_adds (Err (TooMany what count)) after h = absurd (not_over (length part + 1) (entries_in part + entries_of m.sides) what count next_room h.over)
    ends_adds (Err Memory) after h = refl

    pub next_adds : (result : Result NodeId TreeFault) (after : List (Node C)) → IsPushed gives part m.call names m.place result after → Adds result after
    next_adds result after h = ends_adds result after (subst (EndsAt part m.call names m.place result after) names_give h)
