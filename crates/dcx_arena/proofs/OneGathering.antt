-- Roots reach one part of a list of nodes, and stand in it at one place each.
use Rattle.std.proofs.Common.{◌≡◌, ℕ, suc, List, [], ◌∷◌, length, Some, refl, sym, ap₂, ◌∙◌, arith}
use Rattle.std.specs.List.{slice_get, flat_map}
use Rattle.std.proofs.lemmas.Option.{none-some, same_Some}
use Rattle.dcx_arena.specs.Nodes.{Node, IsNode}
use Rattle.dcx_arena.specs.Gather.{postorder, order_of, StandFor, IsRenamed, IsGathered}
use Rattle.dcx_arena.proofs.Unfolds.{IsOnce, once_all}

-- no two positions of the order hold one number, so numbers are named one way
pub one_name : (order : List ℕ) → IsOnce order → (xs ys here : List ℕ) → StandFor order xs here → StandFor order ys here → xs ≡ ys
one_name order once [] [] here h k = refl
one_name order once [] (y ∷ ys) [] h k = absurd (cc)
one_name order once [] (y ∷ ys) (i ∷ here) h k = absurd (cc)
one_name order once (x ∷ xs) [] [] h k = absurd (cc)
one_name order once (x ∷ xs) [] (i ∷ here) h k = absurd (cc)
one_name order once (x ∷ xs) (y ∷ ys) [] h k = absurd (cc)
one_name order once (x ∷ xs) (y ∷ ys) (i ∷ here) h k =
    let at_x : slice_get order x ≡ Some i = cc in
    let at_y : slice_get order y ≡ Some i = cc in
    let more_x : StandFor order xs here = cc in
    let more_y : StandFor order ys here = cc in
    ap₂ (λ z zs. z ∷ zs) (once x y i at_x at_y) (one_name order once xs ys here more_x more_y)

-- lists that agree at each position are one
pub one_list : {A : Type 0} (xs ys : List A) → length xs ≡ length ys → ((k : ℕ) (x y : A) → slice_get xs k ≡ Some x → slice_get ys k ≡ Some y → x ≡ y) → xs ≡ ys
one_list [] [] e h = refl
one_list [] (y ∷ ys) e h = absurd (omega arith)
one_list (x ∷ xs) [] e h = absurd (omega arith)
one_list (x ∷ xs) (y ∷ ys) e h = ap₂ (λ z zs. z ∷ zs) (h 0 x y refl refl) (one_list xs ys (omega arith) (λ k. h (suc k)))

module _ {C : Type 0} where
  -- nothing is finished twice
  pub order_once : (nodes : List (Node C)) (roots : List ℕ) → IsOnce (order_of nodes roots)
  order_once nodes roots = once_all [] (flat_map (postorder nodes) roots) (λ h k i e d. absurd (none-some i e))

  one_renaming : (order : List ℕ) → IsOnce order → (m x y : Node C) → IsRenamed order m x → IsRenamed order m y → x ≡ y
  one_renaming order once m x y h k = λ i. record {
    call = (h.same_call ∙ sym k.same_call) i;
    args = one_name order once x.args y.args m.args h.same_args k.same_args i;
    sides = (h.same_sides ∙ sym k.same_sides) i;
    place = (h.same_place ∙ sym k.same_place) i;
  }

  pub one_gathering : (nodes : List (Node C)) (roots : List ℕ) (part other : List (Node C)) (ends others : List ℕ) → IsGathered nodes roots part ends
      → IsGathered nodes roots other others → (part ≡ other) × (ends ≡ others)
  one_gathering nodes roots part other ends others g h =
      (one_list part other (g.count ∙ sym h.count) same_node, one_name order once ends others roots g.roots_stand h.roots_stand)
    where
      order : List ℕ
      order = order_of nodes roots

      once : IsOnce order
      once = order_once nodes roots

      same_node : (k : ℕ) (x y : Node C) → IsNode part k x → IsNode other k y → x ≡ y
      same_node k x y at_x at_y =
          let (i, m, at_i, is_m, m_x) = g.renamed k x at_x in
          let (j, n, at_j, is_n, n_y) = h.renamed k y at_y in
          let same : j ≡ i = same_Some j i (sym at_j ∙ at_i) in
          let node : n ≡ m = same_Some n m (sym is_n ∙ rw same is_m) in
          one_renaming order once m x y m_x (rw node at n_y)
