-- What nodes stand for, in a tree and in a part of it.
use Rattle.std.proofs.Common.{◌≡◌, ℕ, zero, suc, ◌<◌, true, false, List, [], ◌∷◌, ◌++◌, length, Option, Some, refl, sym, ap, ap₂, subst, ◌∙◌, arith, append_assoc}
use Rattle.std.specs.List.{slice_get, flat_map}
use Rattle.std.proofs.lemmas.Bool.{cases_Bool}
use Rattle.std.proofs.lemmas.Option.{slice_get_within, same_Some}
use mathlib.Core.Logic.{inl, inr}
use Rattle.dcx_shape.specs.declared.shape.Sides.{Sides}
use Rattle.dcx_arena.specs.Nodes.{Node, IsNode, AreNodes, args_at}
use Rattle.dcx_arena.specs.Gather.{has, with_new, with_all, postorder, order_of, StandFor, IsRenamed, AreRenamed}
use Rattle.dcx_arena.specs.Unfold.{Expressions, none, one, Unfold, Leads, IsReached}
use Rattle.dcx_arena.proofs.Nodes.{push_each}
use Rattle.dcx_arena.proofs.Orders.{has_left, has_split, has_more, has_one, tail_has, one_is, has_from, has_flat, flat_has}
use Rattle.dcx_arena.proofs.Orders.{with_there, with_added, with_all_has, not_true, all_has, arg_below, postorder_is, postorder_has}

new_from : (xs : List ℕ) (y x : ℕ) → has (with_new xs y) x ≡ true → has (xs ++ y ∷ []) x ≡ true
new_from xs y x h = elim (cases_Bool (has xs y)) [
  | inl e ↦ has_left xs (y ∷ []) x (subst (λ zs. has zs x ≡ true) (with_there xs y e) h)
  | inr e ↦ subst (λ zs. has zs x ≡ true) (with_added xs y e) h
]

-- nothing else comes to the numbers
all_from : (xs ys : List ℕ) (x : ℕ) → has (with_all xs ys) x ≡ true → has (xs ++ ys) x ≡ true
all_from xs [] x h = has_left xs [] x h
all_from xs (y ∷ ys) x h =
    let k = all_from (with_new xs y) ys x h in
    subst (λ zs. has zs x ≡ true) (append_assoc xs (y ∷ []) ys) (has_more (with_new xs y) (xs ++ y ∷ []) ys (new_from xs y) x k)

-- each number of the list stands there once
abbrev pub IsOnce : List ℕ → Type 0
IsOnce xs = (h k i : ℕ) → slice_get xs h ≡ Some i → slice_get xs k ≡ Some i → h ≡ k

once_push : (xs : List ℕ) (y : ℕ) → has xs y ≡ false → IsOnce xs → IsOnce (xs ++ y ∷ [])
once_push xs y new once h k i a b =
    push_each (λ h' i'. (k' : ℕ) → slice_get (xs ++ y ∷ []) k' ≡ Some i' → h' ≡ k') xs y
    (λ h' i' a' k' b'. push_each (λ k'' j''. j'' ≡ i' → h' ≡ k'') xs y (λ k'' j'' b'' e. once h' k'' i' a' (b'' ∙ ap Some e))
    (λ e. absurd (not_true (has xs y) new (subst (λ z. has xs z ≡ true) (sym e) (has_from xs h' i' a')))) k' i' b' refl)
    (λ k' b'. push_each (λ k'' j''. j'' ≡ y → length xs ≡ k'') xs y
    (λ k'' j'' b'' e. absurd (not_true (has xs y) new (subst (λ z. has xs z ≡ true) e (has_from xs k'' j'' b'')))) (λ e. refl) k' y b' refl)
    h i a k b

once_new : (xs : List ℕ) (y : ℕ) → IsOnce xs → IsOnce (with_new xs y)
once_new xs y once = elim (cases_Bool (has xs y)) [
  | inl e ↦ subst IsOnce (sym (with_there xs y e)) once
  | inr e ↦ subst IsOnce (sym (with_added xs y e)) (once_push xs y e once)
]

pub once_all : (xs ys : List ℕ) → IsOnce xs → IsOnce (with_all xs ys)
once_all xs [] once = once
once_all xs (y ∷ ys) once = once_all (with_new xs y) ys (once_new xs y once)

module _ {C : Type 0} where
  pub node_there : (nodes : List (Node C)) (i : ℕ) → i < length nodes → (m : Node C) × IsNode nodes i m
  node_there [] i lt = absurd (omega arith)
  node_there (n ∷ nodes) zero lt = (n, refl)
  node_there (n ∷ nodes) (suc i) lt = node_there nodes i (omega arith)

  -- a node stands for one expression
  pub one_unfolding : (nodes : List (Node C)) (is : List ℕ) (t u : Expressions C) → Unfold nodes is t → Unfold nodes is u → t ≡ u
  one_unfolding nodes [] none none h k = refl
  one_unfolding nodes [] none (one call args others) h k = absurd k
  one_unfolding nodes [] (one call args others) u h k = absurd h
  one_unfolding nodes (i ∷ is) none u h k = absurd h
  one_unfolding nodes (i ∷ is) (one call args others) none h k = absurd k
  one_unfolding nodes (i ∷ is) (one call args others) (one call' args' others') (n, at, c, a, o) (m, at', c', a', o') =
      let same : m ≡ n = same_Some m n (sym at' ∙ at) in
      let e : call ≡ call' = sym c ∙ ap (λ (x : Node C). x.call) (sym same) ∙ c' in
      let f = one_unfolding nodes n.args args args' a (subst (λ (x : Node C). Unfold nodes x.args args') same a') in
      let g = one_unfolding nodes is others others' o o' in
      cc

  module _ (gives : C → List Sides → Option Sides) (nodes : List (Node C)) (are : AreNodes gives nodes) where
    -- nodes that stand for the same expressions are the same
    pub shared_all : (t : Expressions C) (is js : List ℕ) → Unfold nodes is t → Unfold nodes js t → is ≡ js
    shared_all none [] [] h k = refl
    shared_all none [] (j ∷ js) h k = absurd k
    shared_all none (i ∷ is) js h k = absurd h
    shared_all (one call args others) [] js h k = absurd h
    shared_all (one call args others) (i ∷ is) [] h k = absurd k
    shared_all (one call args others) (i ∷ is) (j ∷ js) (n, at, c, a, o) (m, at', c', a', o') =
        let e : i ≡ j = are.distinct i j n m at at' (record { same_call = c ∙ sym c'; same_args = shared_all args n.args m.args a a' }) in
        ap₂ (λ x xs. x ∷ xs) e (shared_all others is js o o')

    pub shared_one : (t : Expressions C) (i j : ℕ) → Unfold nodes (i ∷ []) t → Unfold nodes (j ∷ []) t → i ≡ j
    shared_one t i j h k = let e = shared_all t (i ∷ []) (j ∷ []) h k in cc

    unfold_each : (n : ℕ) → ((is : List ℕ) → ((a : ℕ) → has is a ≡ true → (a < n) × (a < length nodes)) → (t : Expressions C) × Unfold nodes is t)
        → (is : List ℕ) → ((a : ℕ) → has is a ≡ true → (a < suc n) × (a < length nodes)) → (t : Expressions C) × Unfold nodes is t
    unfold_each n below [] h = (none, tt)
    unfold_each n below (i ∷ is) h =
        let lt = h i (has_one i is) in
        let (m, at) = node_there nodes i lt.1 in
        let (args, a) = below m.args (λ b of. let less = all_has (λ c. c < i) m.args b (are.earlier i m at) of in (omega (arith, less, lt.0), omega (arith, less, lt.1))) in
        let (others, o) = unfold_each n below is (λ b of. h b (tail_has i b is of)) in
        (one m.call args others, (m, at, refl, a, o))

    unfold_below : (n : ℕ) (is : List ℕ) → ((a : ℕ) → has is a ≡ true → (a < n) × (a < length nodes)) → (t : Expressions C) × Unfold nodes is t
    unfold_below zero [] h = (none, tt)
    unfold_below zero (i ∷ is) h = let lt = h i (has_one i is) in absurd (omega (arith, lt.0))
    unfold_below (suc n) is h = unfold_each n (unfold_below n) is h

    -- each node stands for an expression
    pub unfold_one : (i : ℕ) → i < length nodes → (t : Expressions C) × Unfold nodes (i ∷ []) t
    unfold_one i lt = unfold_below (suc i) (i ∷ []) (λ a h. let e = one_is i a h in (omega (arith, e), omega (arith, e, lt)))

    lead_in : (n i : ℕ) → i < n → (j : ℕ) → has (postorder nodes i) j ≡ true → (path : List ℕ) × Leads nodes i path j
    lead_in zero i lt j h = absurd (omega arith)
    lead_in (suc n) i lt j h =
        elim (has_split (flat_map (postorder nodes) (args_at nodes i)) (i ∷ []) j (rw (postorder_is gives nodes are i) at h)) [
          | inl p ↦
              let (a, of, there) = has_flat (postorder nodes) (args_at nodes i) j p in
              let less = arg_below gives nodes are i a of in
              let (path, l) = lead_in n a (omega arith) j there in
              (a ∷ path, (of, l))
          | inr q ↦ ([], one_is i j q)
        ]

    leads_in : (i : ℕ) (path : List ℕ) (j : ℕ) → Leads nodes i path j → has (postorder nodes i) j ≡ true
    leads_in i [] j e = subst (λ z. has (postorder nodes i) z ≡ true) e (postorder_has gives nodes are i)
    leads_in i (a ∷ path) j l =
        rw (postorder_is gives nodes are i) (has_left (flat_map (postorder nodes) (args_at nodes i)) (i ∷ []) j (flat_has (postorder nodes) (args_at nodes i) a j l.0 (leads_in a path j l.1)))

    -- the order has what the roots reach
    pub reached_there : (roots : List ℕ) (j : ℕ) → IsReached nodes roots j → has (order_of nodes roots) j ≡ true
    reached_there roots j r = with_all_has [] (flat_map (postorder nodes) roots) j (flat_has (postorder nodes) roots r.root j r.is_root (leads_in r.root r.path j r.leads))

    pub there_reached : (roots : List ℕ) (j : ℕ) → has (order_of nodes roots) j ≡ true → IsReached nodes roots j
    there_reached roots j h =
        let k : has (flat_map (postorder nodes) roots) j ≡ true = all_from [] (flat_map (postorder nodes) roots) j h in
        let (r, of, there) = has_flat (postorder nodes) roots j k in
        let (path, l) = lead_in (suc r) r (omega arith) j there in
        record { root = r; path = path; is_root = of; leads = l }

  -- a part of the nodes
  module _ (nodes part : List (Node C)) (order : List ℕ) (count : length part ≡ length order) (renamed : AreRenamed nodes order part) where
    stands : (h a : ℕ) (n : Node C) → slice_get order h ≡ Some a → IsNode part h n → (m : Node C) × IsNode nodes a m × IsRenamed order m n
    stands h a n e at =
        let (i, m, at_h, at_i, same) = renamed h n at in
        let z : i ≡ a = same_Some i a (sym at_h ∙ e) in
        (m, subst (λ y. IsNode nodes y m) z at_i, same)

    pub unfolds_there : (t : Expressions C) (there here : List ℕ) → StandFor order there here → Unfold part there t → Unfold nodes here t
    unfolds_there none [] [] e h = tt
    unfolds_there none [] (a ∷ here) e h = absurd (cc)
    unfolds_there none (b ∷ there) here e h = absurd h
    unfolds_there (one call args others) [] here e h = absurd h
    unfolds_there (one call args others) (b ∷ there) [] e h = absurd (cc)
    unfolds_there (one call args others) (b ∷ there) (a ∷ here) e (n, at, c, us, o) =
        let first : slice_get order b ≡ Some a = cc in
        let rest : StandFor order there here = cc in
        let (m, at_a, same) = stands b a n first at in
        (m, at_a, sym same.same_call ∙ c, unfolds_there args n.args m.args same.same_args us, unfolds_there others there here rest o)

    pub unfolds_here : (t : Expressions C) (there here : List ℕ) → StandFor order there here → Unfold nodes here t → Unfold part there t
    unfolds_here none [] [] e h = tt
    unfolds_here none [] (a ∷ here) e h = absurd h
    unfolds_here none (b ∷ there) [] e h = absurd (cc)
    unfolds_here none (b ∷ there) (a ∷ here) e h = absurd h
    unfolds_here (one call args others) there [] e h = absurd h
    unfolds_here (one call args others) [] (a ∷ here) e h = absurd (cc)
    unfolds_here (one call args others) (b ∷ there) (a ∷ here) e (m, at, c, us, o) =
        let first : slice_get order b ≡ Some a = cc in
        let rest : StandFor order there here = cc in
        let lt = slice_get_within order b a first in
        let (n, at_b) = node_there part b (omega (arith, lt, count)) in
        let (m', at_a, same) = stands b a n first at_b in
        let z : m' ≡ m = same_Some m' m (sym at_a ∙ at) in
        let args' : StandFor order n.args m.args = subst (λ (y : Node C). StandFor order n.args y.args) z same.same_args in
        (n, at_b, same.same_call ∙ ap (λ (y : Node C). y.call) z ∙ c, unfolds_here args n.args m.args args' us, unfolds_here others there here rest o)
