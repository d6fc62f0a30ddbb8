-- The numbers of the nodes that are finished.
use Rattle.std.proofs.Common.{◌≡◌, ◌≢◌, ℕ, zero, suc, ◌+◌, ◌-◌, ◌<◌, ◌≤◌, true, false, List, [], ◌∷◌, ◌++◌, length, get_or, Option, Some, None, is_some, replicate, refl, sym, ap, subst, ◌∙◌, arith}
use Rattle.std.specs.List.{slice_get, sum_by}
use Rattle.std.proofs.Math.ListN.{set}
use Rattle.std.proofs.lemmas.Bool.{cases_Bool}
use Rattle.std.proofs.lemmas.List.{get_or-set_same, get_or-set_other, get_or_past, get_or-replicate, length-replicate}
use Rattle.std.proofs.lemmas.List.Sums.{sum_by-append, sum_by-cons}
use Rattle.std.proofs.lemmas.Option.{slice_get_within, slice_get_read, get_or_from_slice_get, none-some, same_Some}
use native.Mathlib.Decide.{ℕ_discrete}
use Rattle.dcx_arena.specs.Gather.{has}
use Rattle.dcx_arena.specs.Walk.{weigh, IsNumbering}
use Rattle.dcx_arena.proofs.Nodes.{push_each, at_end, in_front}
use Rattle.dcx_arena.proofs.Orders.{has_at, has_from}
use mathlib.Core.Logic.{inl, inr}

weigh_set : (f : ℕ → ℕ) (i j k : ℕ) (numbers : List (Option ℕ)) → j < length numbers → get_or numbers j None ≡ None → weigh f i (set numbers j (Some k)) ≡ weigh f i numbers + f (i + j)
weigh_set f i j k [] lt e = absurd (omega arith)
weigh_set f i zero k (None ∷ numbers) lt e = let z : i + 0 ≡ i = omega arith in rw z (omega arith)
weigh_set f i zero k (Some h ∷ numbers) lt e = absurd (none-some h (sym e))
weigh_set f i (suc j) k (None ∷ numbers) lt e = let z : i + suc j ≡ suc i + j = omega arith in rw z (weigh_set f (suc i) j k numbers (omega arith) e)
weigh_set f i (suc j) k (Some h ∷ numbers) lt e =
    let z : i + suc j ≡ suc i + j = omega arith in
    let r = weigh_set f (suc i) j k numbers (omega arith) e in
    rw z (omega (arith, r))

-- of so many nodes no more are numbered
pub weigh_one : (i : ℕ) (numbers : List (Option ℕ)) → weigh (λ _. 1) i numbers ≤ length numbers
weigh_one i [] = omega arith
weigh_one i (None ∷ numbers) = let r = weigh_one (suc i) numbers in omega (arith, r)
weigh_one i (Some k ∷ numbers) = let r = weigh_one (suc i) numbers in omega (arith, r)

sum_ones : (xs : List ℕ) → sum_by (λ _. 1) xs ≡ length xs
sum_ones [] = refl
sum_ones (x ∷ xs) = let e = sum_by-cons (λ (_ : ℕ). 1) x xs in let r = sum_ones xs in omega (arith, e, r)

pub few_numbered : (order : List ℕ) (numbers : List (Option ℕ)) → IsNumbering order numbers → length order ≤ length numbers
few_numbered order numbers h = let a = sum_ones order in let b = h.weighs (λ _. 1) in let d = weigh_one 0 numbers in omega (arith, a, b, d)

pub numbered_has : (order : List ℕ) (numbers : List (Option ℕ)) (i k : ℕ) → IsNumbering order numbers → get_or numbers i None ≡ Some k → has order i ≡ true
numbered_has order numbers i k h e = has_from order k i (h.numbered i k e)

pub unnumbered_has : (order : List ℕ) (numbers : List (Option ℕ)) (i : ℕ) → IsNumbering order numbers → get_or numbers i None ≡ None → has order i ≡ false
unnumbered_has order numbers i h e = elim (cases_Bool (has order i)) [
  | inl t ↦ let (k, at) = has_at order i t in absurd (none-some k (sym e ∙ h.listed k i at))
  | inr f ↦ f
]

pub listed_below : (order : List ℕ) (numbers : List (Option ℕ)) (k i : ℕ) → IsNumbering order numbers → slice_get order k ≡ Some i → i < length numbers
listed_below order numbers k i h e = elim (ℕ_discrete 0 (length numbers - i)) [
  | yes z ↦ absurd (none-some k (sym (get_or_past numbers i None (omega arith)) ∙ h.listed k i e))
  | no z ↦ omega arith
]

-- one more node is numbered
module _ (order : List ℕ) (numbers : List (Option ℕ)) (i : ℕ) (h : IsNumbering order numbers) (lt : i < length numbers) (e : get_or numbers i None ≡ None) where
  numbered_push : (j k : ℕ) → get_or (set numbers i (Some (length order))) j None ≡ Some k → slice_get (order ++ i ∷ []) k ≡ Some j
  numbered_push j k g = elim (ℕ_discrete j i) [
    | yes same ↦
        let s : Some (length order) ≡ Some k = sym (get_or-set_same numbers i (Some (length order)) None lt) ∙ subst (λ z. get_or (set numbers i (Some (length order))) z None ≡ Some k) same g in
        let l = same_Some (length order) k s in
        subst (λ z. slice_get (order ++ i ∷ []) z ≡ Some j) l (at_end order i ∙ ap Some (sym same))
    | no other ↦
        let at = h.numbered j k (sym (get_or-set_other numbers i j (Some (length order)) None other) ∙ g) in
        in_front order (i ∷ []) k (slice_get_within order k j at) ∙ at
  ]

  listed_push : (k j : ℕ) → slice_get (order ++ i ∷ []) k ≡ Some j → get_or (set numbers i (Some (length order))) j None ≡ Some k
  listed_push = push_each (λ k j. get_or (set numbers i (Some (length order))) j None ≡ Some k) order i
      (λ k j at. let other : j ≢ i = λ same. none-some k (sym e ∙ ap (λ z. get_or numbers z None) (sym same) ∙ h.listed k j at) in
      get_or-set_other numbers i j (Some (length order)) None other ∙ h.listed k j at)
      (get_or-set_same numbers i (Some (length order)) None lt)

  pub numbering_push : IsNumbering (order ++ i ∷ []) (set numbers i (Some (length order)))
  numbering_push = record {
    numbered = numbered_push;
    listed = listed_push;
    weighs = λ f.
        let a = sum_by-append f order (i ∷ []) in
        let b = sum_by-cons f i [] in
        let d = weigh_set f 0 i (length order) numbers lt e in
        let g = h.weighs f in
        let z : 0 + i ≡ i = omega arith in
        let d' : weigh f 0 (set numbers i (Some (length order))) ≡ weigh f 0 numbers + f i = rw z at d in
        omega (arith, a, b, d', g);
  }

-- what was read of a node's number
pub read_none : (numbers : List (Option ℕ)) (i : ℕ) (o : Option ℕ) → o ≡ get_or numbers i o → is_some o ≡ false → get_or numbers i None ≡ None
read_none numbers i None e h = sym e
read_none numbers i (Some k) e h = absurd (cc)

pub read_some : (numbers : List (Option ℕ)) (i : ℕ) (o : Option ℕ) → i < length numbers → o ≡ get_or numbers i o → is_some o ≡ true → (k : ℕ) × (get_or numbers i None ≡ Some k)
read_some numbers i None lt e h = absurd (cc)
read_some numbers i (Some k) lt e h = (k, get_or_from_slice_get numbers i (Some k) None (slice_get_read numbers (length numbers) i (Some k) refl lt e))

abbrev no_number : Option ℕ
no_number = None

none_numbered : (n i : ℕ) → get_or (replicate n None) i None ≡ no_number
none_numbered n i = elim (ℕ_discrete 0 (n - i)) [
  | yes z ↦ get_or_past (replicate n None) i None (let e = length-replicate n no_number in omega (arith, e))
  | no z ↦ get_or-replicate n i None None (omega arith)
]

weigh_none : (f : ℕ → ℕ) (i n : ℕ) → weigh f i (replicate n None) ≡ 0
weigh_none f i zero = refl
weigh_none f i (suc n) = weigh_none f (suc i) n

-- no node is numbered yet
pub numbering_none : (n : ℕ) → IsNumbering [] (replicate n None)
numbering_none n = record {
  numbered = λ i k e. absurd (none-some k (sym (none_numbered n i) ∙ e));
  listed = λ k i e. absurd (none-some i e);
  weighs = λ f. sym (weigh_none f 0 n);
}

pub read_is : (numbers : List (Option ℕ)) (i k : ℕ) (o : Option ℕ) → i < length numbers → o ≡ get_or numbers i o → o ≡ Some k → get_or numbers i None ≡ Some k
read_is numbers i k o lt e h = get_or_from_slice_get numbers i o None (slice_get_read numbers (length numbers) i o refl lt e) ∙ h
