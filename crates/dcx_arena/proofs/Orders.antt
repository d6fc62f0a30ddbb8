-- Numbers in the order in which they first stand, and postorders.
use Rattle.std.proofs.Common.{◌≡◌, ℕ, zero, suc, ◌<◌, ◌==◌, ◌⊎◌, Bool, true, false, if◌then◌else◌, List, [], ◌∷◌, ◌++◌, Option}
use Rattle.std.proofs.Common.{Some, None, option_map, refl, sym, ap, ap₂, subst, ◌∙◌, arith, All, append_assoc, append-nil}
use Rattle.std.specs.List.{slice_get, flat_map}
use Rattle.std.specs.Option.{unwrap_or}
use Rattle.std.proofs.lemmas.Bool.{cases_Bool}
use Rattle.std.proofs.lemmas.Bool.Decides.{Decides-eqb}
use Rattle.std.proofs.lemmas.Option.{slice_get_within, none-some, same_Some, get_or_from_slice_get}
use mathlib.Core.Logic.{inl, inr}
use Rattle.dcx_shape.specs.declared.shape.Sides.{Sides}
use Rattle.dcx_arena.specs.Nodes.{Node, AreNodes, args_at}
use Rattle.dcx_arena.specs.Gather.{has, with_new, with_all, postorder_below, postorder, order_of}
use Rattle.dcx_arena.specs.Walk.{IsClosed}
use Rattle.dcx_arena.proofs.Nodes.{push_each, in_front}

step_cases : (b c : Bool) → (if b then true else c) ≡ true → (b ≡ true) ⊎ (c ≡ true)
step_cases true c h = inl refl
step_cases false c h = inr h

step_left : (b c : Bool) → b ≡ true → (if b then true else c) ≡ true
step_left b c e = rw e refl

step_right : (b c : Bool) → c ≡ true → (if b then true else c) ≡ true
step_right true c e = refl
step_right false c e = e

pub has_left : (xs ys : List ℕ) (x : ℕ) → has xs x ≡ true → has (xs ++ ys) x ≡ true
has_left [] ys x h = absurd (cc)
has_left (y ∷ xs) ys x h = elim (step_cases (y == x) (has xs x) h) [
  | inl e ↦ step_left (y == x) (has (xs ++ ys) x) e
  | inr k ↦ step_right (y == x) (has (xs ++ ys) x) (has_left xs ys x k)
]

pub has_right : (xs ys : List ℕ) (x : ℕ) → has ys x ≡ true → has (xs ++ ys) x ≡ true
has_right [] ys x h = h
has_right (y ∷ xs) ys x h = step_right (y == x) (has (xs ++ ys) x) (has_right xs ys x h)

pub has_split : (xs ys : List ℕ) (x : ℕ) → has (xs ++ ys) x ≡ true → (has xs x ≡ true) ⊎ (has ys x ≡ true)
has_split [] ys x h = inr h
has_split (y ∷ xs) ys x h = elim (step_cases (y == x) (has (xs ++ ys) x) h) [
  | inl e ↦ inl (step_left (y == x) (has xs x) e)
  | inr k ↦ elim (has_split xs ys x k) [ inl p ↦ inl (step_right (y == x) (has xs x) p) | inr q ↦ inr q ]
]

pub has_more : (xs now ys : List ℕ) → ((x : ℕ) → has xs x ≡ true → has now x ≡ true) → (x : ℕ) → has (xs ++ ys) x ≡ true → has (now ++ ys) x ≡ true
has_more xs now ys more x h = elim (has_split xs ys x h) [ inl p ↦ has_left now ys x (more x p) | inr q ↦ has_right now ys x q ]

pub has_one : (x : ℕ) (xs : List ℕ) → has (x ∷ xs) x ≡ true
has_one x xs = step_left (x == x) (has xs x) ((Decides-eqb x x).1 refl)

pub one_is : (y x : ℕ) → has (y ∷ []) x ≡ true → y ≡ x
one_is y x h = elim (step_cases (y == x) false h) [ inl e ↦ (Decides-eqb y x).0 e | inr k ↦ absurd (cc) ]

pub head_or : (y x : ℕ) (ys : List ℕ) → has (y ∷ ys) x ≡ true → (y ≡ x) ⊎ (has ys x ≡ true)
head_or y x ys h = elim (step_cases (y == x) (has ys x) h) [ inl e ↦ inl ((Decides-eqb y x).0 e) | inr k ↦ inr k ]

pub tail_has : (y x : ℕ) (ys : List ℕ) → has ys x ≡ true → has (y ∷ ys) x ≡ true
tail_has y x ys h = step_right (y == x) (has ys x) h

pub has_at : (xs : List ℕ) (x : ℕ) → has xs x ≡ true → (k : ℕ) × (slice_get xs k ≡ Some x)
has_at [] x h = absurd (cc)
has_at (y ∷ xs) x h = elim (head_or y x xs h) [ inl e ↦ (0, ap Some e) | inr k ↦ let r = has_at xs x k in (suc r.0, r.1) ]

pub has_from : (xs : List ℕ) (k x : ℕ) → slice_get xs k ≡ Some x → has xs x ≡ true
has_from [] k x e = absurd (none-some x e)
has_from (y ∷ xs) zero x e = rw (same_Some y x e) (has_one x xs)
has_from (y ∷ xs) (suc k) x e = tail_has y x xs (has_from xs k x e)

pub all_has : (P : ℕ → Type 0) (xs : List ℕ) (x : ℕ) → All P xs → has xs x ≡ true → P x
all_has P xs x h there =
    let r = has_at xs x there in
    subst P (get_or_from_slice_get xs r.0 x x r.1) (h r.0 x (slice_get_within xs r.0 x r.1))

pub not_true : (b : Bool) → b ≡ false → ¬ (b ≡ true)
not_true b e h = cc

-- a number more
pub with_there : (xs : List ℕ) (y : ℕ) → has xs y ≡ true → with_new xs y ≡ xs
with_there xs y e = rw e refl

pub with_added : (xs : List ℕ) (y : ℕ) → has xs y ≡ false → with_new xs y ≡ xs ++ y ∷ []
with_added xs y e = rw e refl

pub with_has : (xs : List ℕ) (y x : ℕ) → has (xs ++ y ∷ []) x ≡ true → has (with_new xs y) x ≡ true
with_has xs y x h = elim (cases_Bool (has xs y)) [
  | inl e ↦ elim (has_split xs (y ∷ []) x h) [ inl p ↦ rw (with_there xs y e) p | inr q ↦ rw (with_there xs y e, ← one_is y x q) e ]
  | inr e ↦ rw (with_added xs y e) h
]

pub with_all-append : (xs ys zs : List ℕ) → with_all xs (ys ++ zs) ≡ with_all (with_all xs ys) zs
with_all-append xs [] zs = refl
with_all-append xs (y ∷ ys) zs = with_all-append (with_new xs y) ys zs

pub with_all_there : (xs ys : List ℕ) → ((y : ℕ) → has ys y ≡ true → has xs y ≡ true) → with_all xs ys ≡ xs
with_all_there xs [] h = refl
with_all_there xs (y ∷ ys) h =
    let e = with_there xs y (h y (has_one y ys)) in
    ap (λ zs. with_all zs ys) e ∙ with_all_there xs ys (λ z k. h z (tail_has y z ys k))

pub with_all_has : (xs ys : List ℕ) (x : ℕ) → has (xs ++ ys) x ≡ true → has (with_all xs ys) x ≡ true
with_all_has xs [] x h = rw append-nil at h
with_all_has xs (y ∷ ys) x h =
    with_all_has (with_new xs y) ys x (has_more (xs ++ y ∷ []) (with_new xs y) ys (with_has xs y) x (subst (λ zs. has zs x ≡ true) (sym (append_assoc xs (y ∷ []) ys)) h))

-- joined lists
pub flat_has : (f : ℕ → List ℕ) (xs : List ℕ) (a x : ℕ) → has xs a ≡ true → has (f a) x ≡ true → has (flat_map f xs) x ≡ true
flat_has f [] a x h k = absurd (cc)
flat_has f (y ∷ xs) a x h k = elim (head_or y a xs h) [
  | inl e ↦ has_left (f y) (flat_map f xs) x (subst (λ z. has (f z) x ≡ true) (sym e) k)
  | inr t ↦ has_right (f y) (flat_map f xs) x (flat_has f xs a x t k)
]

pub has_flat : (f : ℕ → List ℕ) (xs : List ℕ) (x : ℕ) → has (flat_map f xs) x ≡ true → (a : ℕ) × (has xs a ≡ true) × (has (f a) x ≡ true)
has_flat f [] x h = absurd (cc)
has_flat f (y ∷ xs) x h = elim (has_split (f y) (flat_map f xs) x h) [
  | inl p ↦ (y, has_one y xs, p)
  | inr q ↦ let r = has_flat f xs x q in (r.0, tail_has y r.0 xs r.1, r.2)
]

pub flat_same : (f g : ℕ → List ℕ) (xs : List ℕ) → ((a : ℕ) → has xs a ≡ true → f a ≡ g a) → flat_map f xs ≡ flat_map g xs
flat_same f g [] h = refl
flat_same f g (x ∷ xs) h = ap₂ (λ a b. a ++ b) (h x (has_one x xs)) (flat_same f g xs (λ a k. h a (tail_has x a xs k)))

module _ {C : Type 0} (gives : C → List Sides → Option Sides) (nodes : List (Node C)) (are : AreNodes gives nodes) where
  below_by : (i a : ℕ) (o : Option (Node C)) → slice_get nodes i ≡ o → has (unwrap_or (option_map (λ n. n.args) o) []) a ≡ true → a < i
  below_by i a None e h = absurd (cc)
  below_by i a (Some n) e h = all_has (λ b. b < i) n.args a (are.earlier i n e) h

  -- an argument stands before its node
  pub arg_below : (i a : ℕ) → has (args_at nodes i) a ≡ true → a < i
  arg_below i a h = below_by i a (slice_get nodes i) refl h

  post_same : (n m i : ℕ) → i < n → i < m → postorder_below n nodes i ≡ postorder_below m nodes i
  post_same zero m i a b = absurd (omega arith)
  post_same (suc n) zero i a b = absurd (omega arith)
  post_same (suc n) (suc m) i a b = ap (λ xs. xs ++ i ∷ [])
      (flat_same (postorder_below n nodes) (postorder_below m nodes) (args_at nodes i) (λ k h. let lt = arg_below i k h in post_same n m k (omega arith) (omega arith)))

  -- the arguments' postorders, and then the node
  pub postorder_is : (i : ℕ) → postorder nodes i ≡ flat_map (postorder nodes) (args_at nodes i) ++ i ∷ []
  unfolding postorder
  postorder_is i = ap (λ xs. xs ++ i ∷ []) (flat_same (postorder_below i nodes) (postorder nodes) (args_at nodes i) (λ k h. let lt = arg_below i k h in post_same i (suc k) k lt (omega arith)))

  pub postorder_has : (i : ℕ) → has (postorder nodes i) i ≡ true
  postorder_has i = rw (postorder_is i) (has_right (flat_map (postorder nodes) (args_at nodes i)) (i ∷ []) i (has_one i []))

  closed_below : (order : List ℕ) → IsClosed nodes order → (n i x : ℕ) → i < n → has order i ≡ true → has (postorder nodes i) x ≡ true → has order x ≡ true
  closed_below order closed zero i x lt here h = absurd (omega arith)
  closed_below order closed (suc n) i x lt here h =
      elim (has_split (flat_map (postorder nodes) (args_at nodes i)) (i ∷ []) x (rw (postorder_is i) at h)) [
        | inl p ↦
            let (a, of, in_a) = has_flat (postorder nodes) (args_at nodes i) x p in
            let (k, at_k) = has_at order i here in
            let (h', lt', at_h) = closed k i a at_k of in
            let less = arg_below i a of in
            closed_below order closed n a x (omega arith) (has_from order h' a at_h) in_a
        | inr q ↦ subst (λ z. has order z ≡ true) (one_is i x q) here
      ]

  -- with a node all that it reaches is there
  pub closed_has : (order : List ℕ) → IsClosed nodes order → (i x : ℕ) → has order i ≡ true → has (postorder nodes i) x ≡ true → has order x ≡ true
  closed_has order closed i x here h = closed_below order closed (suc i) i x (omega arith) here h

  closed_push : (order : List ℕ) (i : ℕ) → IsClosed nodes order → ((a : ℕ) → has (args_at nodes i) a ≡ true → has order a ≡ true) → IsClosed nodes (order ++ i ∷ [])
  closed_push order i closed args k j a at of =
      push_each (λ k' j'. (b : ℕ) → has (args_at nodes j') b ≡ true → (h : ℕ) × (h < k') × (slice_get (order ++ i ∷ []) h ≡ Some b)) order i
      (λ k' j' at' b of'. let (h, lt, e) = closed k' j' b at' of' in (h, lt, in_front order (i ∷ []) h (slice_get_within order h b e) ∙ e))
      (λ b of'. let (h, e) = has_at order b (args b of') in let lt = slice_get_within order h b e in (h, lt, in_front order (i ∷ []) h lt ∙ e))
      k j at a of

  -- a node whose arguments are there
  pub closed_with : (order : List ℕ) (i : ℕ) → IsClosed nodes order → ((a : ℕ) → has (args_at nodes i) a ≡ true → has order a ≡ true) → IsClosed nodes (with_new order i)
  closed_with order i closed args = elim (cases_Bool (has order i)) [
    | inl e ↦ rw (with_there order i e) closed
    | inr e ↦ rw (with_added order i e) (closed_push order i closed args)
  ]

  -- the roots are reached
  pub roots_there : (roots : List ℕ) (r : ℕ) → has roots r ≡ true → has (order_of nodes roots) r ≡ true
  roots_there roots r h = with_all_has [] (flat_map (postorder nodes) roots) r (flat_has (postorder nodes) roots r r h (postorder_has r))
