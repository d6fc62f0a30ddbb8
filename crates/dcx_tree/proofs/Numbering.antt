-- A part that is gathered is numbered in the order in which its own nodes are first finished.
use Rattle.std.proofs.Common.{◌≡◌, ℕ, zero, suc, ◌+◌, ◌<◌, ◌==◌, true, if◌then◌else◌, List, [], ◌∷◌, ◌++◌, length, Some, option_map, refl, sym, ap, ap₂, subst, ◌∙◌, arith}
use Rattle.std.specs.Option.{unwrap_or}
use Rattle.std.specs.List.{slice_get, flat_map, range_with_len}
use Rattle.std.proofs.lemmas.List.{map-append}
use Rattle.std.proofs.lemmas.Bool.{cases_Bool}
use Rattle.std.proofs.lemmas.Bool.Decides.{Decides-eqb}
use Rattle.std.proofs.lemmas.Option.{same_Some}
use mathlib.Core.Logic.{inl, inr}
use Rattle.dcx_arena.specs.Nodes.{AreNodes, args_at}
use Rattle.dcx_arena.specs.Gather.{has, with_new, with_all, postorder, order_of, StandFor, IsGathered}
use Rattle.dcx_arena.proofs.Orders.{not_true, has_from, with_there, with_added, arg_below, postorder_is}
use Rattle.dcx_arena.proofs.Unfolds.{IsOnce}
use Rattle.dcx_arena.proofs.OneGathering.{order_once}
use Rattle.dcx_call.specs.Calls.{shape_of}
use Rattle.dcx_tree.specs.Nodes.{Node}
use Rattle.dcx_tree.proofs.Parts.{part_node}

-- ---- renamed lists
module _ (order : List ℕ) where
  stand_append : (xs' ys' xs ys : List ℕ) → StandFor order xs' xs → StandFor order ys' ys → StandFor order (xs' ++ ys') (xs ++ ys)
  stand_append xs' ys' xs ys e f = map-append (slice_get order) xs' ys' ∙ ap₂ (λ a b. a ++ b) e f ∙ sym (map-append Some xs ys)

  stand_flat : (xs' xs : List ℕ) (f g : ℕ → List ℕ) → StandFor order xs' xs → ((a' a k : ℕ) → slice_get xs k ≡ Some a → slice_get order a' ≡ Some a → StandFor order (f a') (g a)) →
      StandFor order (flat_map f xs') (flat_map g xs)
  stand_flat [] [] f g e h = refl
  stand_flat [] (x ∷ xs) f g e h = absurd (cc)
  stand_flat (x' ∷ xs') [] f g e h = absurd (cc)
  stand_flat (x' ∷ xs') (x ∷ xs) f g e h =
      let at : slice_get order x' ≡ Some x = cc in
      let rest : StandFor order xs' xs = cc in
      stand_append (f x') (flat_map f xs') (g x) (flat_map g xs) (h x' x 0 refl at) (stand_flat xs' xs f g rest (λ a' a k. h a' a (suc k)))

  module _ (once : IsOnce order) where
    test_same : (x' y' x y : ℕ) → slice_get order x' ≡ Some x → slice_get order y' ≡ Some y → (x' == y') ≡ (x == y)
    test_same x' y' x y e f = elim (cases_Bool (x' == y')) [
      | inl t ↦
          let s : x' ≡ y' = (Decides-eqb x' y').0 t in
          let r : x ≡ y = same_Some x y (sym e ∙ ap (slice_get order) s ∙ f) in
          t ∙ sym ((Decides-eqb x y).1 r)
      | inr n ↦ elim (cases_Bool (x == y)) [
        | inl t ↦ let s : x ≡ y = (Decides-eqb x y).0 t in absurd (not_true (x' == y') n ((Decides-eqb x' y').1 (once x' y' y (e ∙ ap Some s) f)))
        | inr m ↦ n ∙ sym m
      ]
    ]

    has_same : (xs' xs : List ℕ) (y' y : ℕ) → StandFor order xs' xs → slice_get order y' ≡ Some y → has xs' y' ≡ has xs y
    has_same [] [] y' y e f = refl
    has_same [] (x ∷ xs) y' y e f = absurd (cc)
    has_same (x' ∷ xs') [] y' y e f = absurd (cc)
    has_same (x' ∷ xs') (x ∷ xs) y' y e f =
        let at : slice_get order x' ≡ Some x = cc in
        let rest : StandFor order xs' xs = cc in
        ap₂ (λ a b. if a then true else b) (test_same x' y' x y at f) (has_same xs' xs y' y rest f)

    stand_new : (xs' xs : List ℕ) (y' y : ℕ) → StandFor order xs' xs → slice_get order y' ≡ Some y → StandFor order (with_new xs' y') (with_new xs y)
    stand_new xs' xs y' y e f =
        let same = has_same xs' xs y' y e f in
        elim (cases_Bool (has xs y)) [
          | inl t ↦ subst (λ z. StandFor order (with_new xs' y') z) (sym (with_there xs y t)) (subst (λ z. StandFor order z xs) (sym (with_there xs' y' (same ∙ t))) e)
          | inr n ↦
              subst (λ z. StandFor order (with_new xs' y') z) (sym (with_added xs y n)) (subst (λ z. StandFor order z (xs ++ y ∷ [])) (sym (with_added xs' y' (same ∙ n)))
              (stand_append xs' (y' ∷ []) xs (y ∷ []) e (ap (λ z. z ∷ []) f)))
        ]

    stand_all : (ys' ys xs' xs : List ℕ) → StandFor order ys' ys → StandFor order xs' xs → StandFor order (with_all xs' ys') (with_all xs ys)
    stand_all [] [] xs' xs e f = f
    stand_all [] (y ∷ ys) xs' xs e f = absurd (cc)
    stand_all (y' ∷ ys') [] xs' xs e f = absurd (cc)
    stand_all (y' ∷ ys') (y ∷ ys) xs' xs e f =
        let at : slice_get order y' ≡ Some y = cc in
        let rest : StandFor order ys' ys = cc in
        stand_all ys' ys (with_new xs' y') (with_new xs y) rest (stand_new xs' xs y' y f at)

    -- what stands for the order itself, one by one, counts up
    counts_up : (a : ℕ) (xs rest : List ℕ) → ((t x : ℕ) → slice_get rest t ≡ Some x → slice_get order (a + t) ≡ Some x) → StandFor order xs rest → xs ≡ range_with_len a (length rest)
    counts_up a [] [] h e = refl
    counts_up a [] (y ∷ rest) h e = absurd (cc)
    counts_up a (x ∷ xs) [] h e = absurd (cc)
    counts_up a (x ∷ xs) (y ∷ rest) h e =
        let at : slice_get order x ≡ Some y = cc in
        let others : StandFor order xs rest = cc in
        let z : a + 0 ≡ a = omega arith in
        let first : x ≡ a = once x a y at (subst (λ k. slice_get order k ≡ Some y) z (h 0 y refl)) in
        let next : (t w : ℕ) → slice_get rest t ≡ Some w → slice_get order (a + 1 + t) ≡ Some w =
        λ t w f. let q : a + suc t ≡ a + 1 + t = omega arith in subst (λ k. slice_get order k ≡ Some w) q (h (suc t) w f) in
        ap₂ (λ k ks. k ∷ ks) first (counts_up (a + 1) xs rest next others)

-- ---- a part
module _ (nodes : List Node) (roots : List ℕ) (part : List Node) (ends : List ℕ) (are : AreNodes shape_of nodes) (are' : AreNodes shape_of part) (g : IsGathered nodes roots part ends) where
  args_stand : (k i : ℕ) → slice_get (order_of nodes roots) k ≡ Some i → StandFor (order_of nodes roots) (args_at part k) (args_at nodes i)
  args_stand k i e =
      let (n, m, at, at', ren) = part_node nodes roots part ends g k i e in
      let here : args_at part k ≡ n.args = ap (λ o. unwrap_or (option_map (λ (x : Node). x.args) o) []) at in
      let whole : args_at nodes i ≡ m.args = ap (λ o. unwrap_or (option_map (λ (x : Node). x.args) o) []) at' in
      subst (λ z. StandFor (order_of nodes roots) (args_at part k) z) (sym whole) (subst (λ z. StandFor (order_of nodes roots) z m.args) (sym here) ren.same_args)

  post_stands : (b k i : ℕ) → i < b → slice_get (order_of nodes roots) k ≡ Some i → StandFor (order_of nodes roots) (postorder part k) (postorder nodes i)
  post_stands zero k i lt e = absurd (omega arith)
  post_stands (suc b) k i lt e =
      let inner = stand_flat (order_of nodes roots) (args_at part k) (args_at nodes i) (postorder part) (postorder nodes) (args_stand k i e)
      (λ a' a h at e'. let below = arg_below shape_of nodes are i a (has_from (args_at nodes i) h a at) in post_stands b a' a (omega (arith, below, lt)) e') in
      let both = stand_append (order_of nodes roots) (flat_map (postorder part) (args_at part k)) (k ∷ []) (flat_map (postorder nodes) (args_at nodes i)) (i ∷ []) inner (ap (λ z. z ∷ []) e) in
      subst (λ z. StandFor (order_of nodes roots) (postorder part k) z) (sym (postorder_is shape_of nodes are i))
      (subst (λ z. StandFor (order_of nodes roots) z (flat_map (postorder nodes) (args_at nodes i) ++ i ∷ [])) (sym (postorder_is shape_of part are' k)) both)

  once : IsOnce (order_of nodes roots)
  once = order_once nodes roots

  pub numbered : order_of part ends ≡ range_with_len 0 (length part)
  numbered =
      let all = stand_flat (order_of nodes roots) ends roots (postorder part) (postorder nodes) g.roots_stand (λ a' a k at e. post_stands (suc a) a' a (omega arith) e) in
      let stands = stand_all (order_of nodes roots) once (flat_map (postorder part) ends) (flat_map (postorder nodes) roots) [] [] all refl in
      let counted = counts_up (order_of nodes roots) once 0 (order_of part ends) (order_of nodes roots)
      (λ t x e. let z : 0 + t ≡ t = omega arith in subst (λ k. slice_get (order_of nodes roots) k ≡ Some x) (sym z) e) stands in
      counted ∙ ap (range_with_len 0) (sym g.count)
