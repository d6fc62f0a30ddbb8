-- What stands for nodes is given back behind their last use.
use Rattle.std.proofs.Common.{◌≡◌, ℕ, zero, suc, ◌+◌, ◌<◌, arith, List, [], ◌∷◌, length, get_or, take, Some, refl, sym, ap, ◌∙◌, subst, inl, inr}
use Rattle.std.specs.List.{All, slice_get}
use Rattle.std.proofs.Math.ListN.{set}
use Rattle.std.proofs.lemmas.Bool.{cases_eq}
use Rattle.std.proofs.lemmas.List.{length-set}
use Rattle.std.proofs.lemmas.List.Elements.{All-push, All-weaker}
use Rattle.dcx_arena.specs.declared.node.NodeId.{NodeId}
use Rattle.dcx_arena.specs.Nodes.{positions}
use Rattle.dcx_entries.specs.declared.standing.Standing.{Standing}
use Rattle.dcx_entries.specs.declared.standing.Standing.TheVariants.{Forms}
use Rattle.dcx_nodes.specs.Uses.{IsGivenBack}
use Rattle.dcx_nodes.proofs.LastUses.{positions_more}

get-set_same : {A : Type 0} (xs : List A) (i : ℕ) (y : A) → i < length xs → slice_get (set xs i y) i ≡ Some y
get-set_same [] i y lt = absurd (omega (arith, lt))
get-set_same (x ∷ xs) zero y lt = refl
get-set_same (x ∷ xs) (suc i) y lt = get-set_same xs i y (omega (arith, lt))

get-set_other : {A : Type 0} (xs : List A) (i j : ℕ) (y : A) → (i ≡ j → ⊥) → slice_get (set xs i y) j ≡ slice_get xs j
get-set_other [] i j y ne = refl
get-set_other (x ∷ xs) zero zero y ne = absurd (ne refl)
get-set_other (x ∷ xs) zero (suc j) y ne = refl
get-set_other (x ∷ xs) (suc i) zero y ne = refl
get-set_other (x ∷ xs) (suc i) (suc j) y ne = get-set_other xs i j y (λ e. ne (ap suc e))

module _ {C : Type 0} (uses : List ℕ) (node : ℕ) where
  -- it is given back where this is its last use
  abbrev IsEmptied : List (Standing C) → ℕ → Type 0
  IsEmptied standing a = get_or uses a 0 ≡ node → slice_get standing a ≡ Some (Forms [])

  -- of one node more
  module _ (ids : List NodeId) (k : ℕ) (lt : k < length ids) (xs ys : List (Standing C)) (h : IsGivenBack uses node (positions (take k ids)) xs ys) where
    pub back_here : get_or uses (get_or ids k (record { 0 = 0 })).0 0 ≡ node → (get_or ids k (record { 0 = 0 })).0 < length ys →
        IsGivenBack uses node (positions (take (k + 1) ids)) xs (set ys (get_or ids k (record { 0 = 0 })).0 (Forms []))
    back_here last below =
        let b = (get_or ids k (record { 0 = 0 })).0 in
        let zs = set ys b (Forms []) in
        record {
          counted = length-set ys b (Forms []) ∙ h.counted;
          emptied = subst (All (IsEmptied zs)) (sym (positions_more ids k lt))
              (All-push (IsEmptied zs) (positions (take k ids)) b
              (All-weaker (IsEmptied ys) (IsEmptied zs) (λ a old e. elim (cases_eq b a) [
                | inl same ↦ subst (λ i. slice_get zs i ≡ Some (Forms [])) same (get-set_same ys b (Forms []) below)
                | inr ne ↦ get-set_other ys b a (Forms []) ne ∙ old e
              ]) (positions (take k ids)) h.emptied)
              (λ e. get-set_same ys b (Forms []) below));
          others = λ a ne. get-set_other ys b a (Forms []) (λ same. ne (ap (λ i. get_or uses i 0) (sym same) ∙ last)) ∙ h.others a ne;
        }

    pub back_later : (get_or uses (get_or ids k (record { 0 = 0 })).0 0 ≡ node → ⊥) → IsGivenBack uses node (positions (take (k + 1) ids)) xs ys
    back_later ne = record {
      counted = h.counted;
      emptied = subst (All (IsEmptied ys)) (sym (positions_more ids k lt)) (All-push (IsEmptied ys) (positions (take k ids)) (get_or ids k (record { 0 = 0 })).0 h.emptied (λ e. absurd (ne e)));
      others = h.others;
    }
