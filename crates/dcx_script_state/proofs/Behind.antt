-- Nodes that come behind others change nothing of what those reach.
use Rattle.std.proofs.Common.{◌≡◌, ℕ, zero, suc, ◌<◌, ◌⊎◌, Bool, true, List, [], ◌∷◌, ◌++◌, length, Option, option_map, refl, ap, subst, ◌∙◌, arith, All, inl, inr}
use Rattle.std.specs.List.{flat_map, list_any}
use Rattle.std.specs.Option.{unwrap_or}
use Rattle.std.proofs.lemmas.Bool.{cases_Bool}
use Rattle.dcx_shape.specs.declared.shape.Sides.{Sides}
use Rattle.dcx_arena.specs.Nodes.{Node, AreNodes, args_at, call_at}
use Rattle.dcx_arena.specs.Gather.{has, with_new, with_all, postorder_below, postorder, order_of}
use Rattle.dcx_arena.proofs.Nodes.{in_front}
use Rattle.dcx_arena.proofs.Orders.{has_split, has_one, one_is, tail_has, all_has, with_there, with_added, has_flat, arg_below, flat_same}

any_same : (f g : ℕ → Bool) (xs : List ℕ) → ((a : ℕ) → has xs a ≡ true → f a ≡ g a) → list_any f xs ≡ list_any g xs
any_same f g [] h = refl
any_same f g (x ∷ xs) h =
    let e = h x (has_one x xs) in
    let r = any_same f g xs (λ a k. h a (tail_has x a xs k)) in
    rw (e, r) refl

new_split : (xs : List ℕ) (y x : ℕ) → has (with_new xs y) x ≡ true → (has xs x ≡ true) ⊎ (y ≡ x)
new_split xs y x h = elim (cases_Bool (has xs y)) [
  | inl e ↦ inl (subst (λ zs. has zs x ≡ true) (with_there xs y e) h)
  | inr e ↦ elim (has_split xs (y ∷ []) x (subst (λ zs. has zs x ≡ true) (with_added xs y e) h)) [ inl p ↦ inl p | inr q ↦ inr (one_is y x q) ]
]

all_split : (xs ys : List ℕ) (x : ℕ) → has (with_all xs ys) x ≡ true → (has xs x ≡ true) ⊎ (has ys x ≡ true)
all_split xs [] x h = inl h
all_split xs (y ∷ ys) x h = elim (all_split (with_new xs y) ys x h) [
  | inl p ↦ elim (new_split xs y x p) [ inl q ↦ inl q | inr e ↦ inr (subst (λ z. has (y ∷ ys) z ≡ true) e (has_one y ys)) ]
  | inr q ↦ inr (tail_has y x ys q)
]

module _ {C : Type 0} (gives : C → List Sides → Option Sides) (nodes : List (Node C)) (are : AreNodes gives nodes) where
  below_inside : (n i x : ℕ) → i < length nodes → has (postorder_below n nodes i) x ≡ true → x < length nodes
  below_inside zero i x lt h = absurd (cc)
  below_inside (suc n) i x lt h = elim (has_split (flat_map (postorder_below n nodes) (args_at nodes i)) (i ∷ []) x h) [
    | inl p ↦
        let (a, of, in_a) = has_flat (postorder_below n nodes) (args_at nodes i) x p in
        let less = arg_below gives nodes are i a of in
        below_inside n a x (omega arith) in_a
    | inr q ↦ subst (λ z. z < length nodes) (one_is i x q) lt
  ]

  postorder_inside : (i x : ℕ) → i < length nodes → has (postorder nodes i) x ≡ true → x < length nodes
  unfolding postorder
  postorder_inside i x lt h = below_inside (suc i) i x lt h

  -- what roots reach is there
  pub order_inside : (roots : List ℕ) (x : ℕ) → All (λ r. r < length nodes) roots → has (order_of nodes roots) x ≡ true → x < length nodes
  order_inside roots x below h = elim (all_split [] (flat_map (postorder nodes) roots) x h) [
    | inl p ↦ absurd (cc)
    | inr q ↦
        let (r, of, in_r) = has_flat (postorder nodes) roots x q in
        postorder_inside r x (all_has (λ z. z < length nodes) roots r below of) in_r
  ]

  module _ (more : List (Node C)) where
    args_same : (i : ℕ) → i < length nodes → args_at (nodes ++ more) i ≡ args_at nodes i
    args_same i lt = ap (λ (o : Option (Node C)). unwrap_or (option_map (λ n. n.args) o) []) (in_front nodes more i lt)

    below_same : (n i : ℕ) → i < length nodes → postorder_below n (nodes ++ more) i ≡ postorder_below n nodes i
    below_same zero i lt = refl
    below_same (suc n) i lt =
        ap (λ xs. xs ++ i ∷ [])
        (ap (flat_map (postorder_below n (nodes ++ more))) (args_same i lt)
        ∙ flat_same (postorder_below n (nodes ++ more)) (postorder_below n nodes) (args_at nodes i) (λ a h. let less = arg_below gives nodes are i a h in below_same n a (omega arith)))

    postorder_same : (i : ℕ) → i < length nodes → postorder (nodes ++ more) i ≡ postorder nodes i
    unfolding postorder
    postorder_same i lt = below_same (suc i) i lt

    -- roots reach the same nodes in the same order
    pub order_same : (roots : List ℕ) → All (λ r. r < length nodes) roots → order_of (nodes ++ more) roots ≡ order_of nodes roots
    order_same roots below =
        ap (with_all []) (flat_same (postorder (nodes ++ more)) (postorder nodes) roots (λ r h. postorder_same r (all_has (λ z. z < length nodes) roots r below h)))

    -- and a call is among them or not as before
    pub reached_same : (p : Option C → Bool) (roots : List ℕ) → All (λ r. r < length nodes) roots →
        list_any (λ i. p (call_at (nodes ++ more) i)) (order_of (nodes ++ more) roots) ≡ list_any (λ i. p (call_at nodes i)) (order_of nodes roots)
    reached_same p roots below =
        ap (list_any (λ i. p (call_at (nodes ++ more) i))) (order_same roots below)
        ∙ any_same (λ i. p (call_at (nodes ++ more) i)) (λ i. p (call_at nodes i)) (order_of nodes roots)
        (λ a h. ap (λ (o : Option (Node C)). p (option_map (λ n. n.call) o)) (in_front nodes more a (order_inside roots a below h)))
