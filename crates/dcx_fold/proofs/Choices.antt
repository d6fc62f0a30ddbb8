-- The sum of the k largest is the greatest of all choices of k entries: any level bounds each choice, and the last of the k largest bounds it by their sum.
use Rattle.std.proofs.Common.{◌≡◌, ◌⊎◌, inl, inr, ℕ, zero, suc, ◌≤◌, arith, Bool, true, false, if◌then◌else◌, List, [], ◌∷◌, length, take, refl, sym, ap, ap₂, ◌∙◌, subst, pos}
use Rattle.dcx_math.specs.Rational.{ℚ, whole, neg_ℚ, ◌+ℚ◌, ◌*ℚ◌, ◌≤ℚ◌, rat_le}
use Rattle.dcx_math.specs.Sums.{rat_sum, rat_sum_below}
use Rattle.dcx_math.proofs.Orders.{≤ℚ_trans, ≤ℚ-from_≡, +ℚ-≤ℚ, +ℚ_idl, +ℚ_left_comm, neg_ℚ-≤ℚ, neg_ℚ-neg_ℚ, neg_ℚ-+ℚ, neg_ℚ-zero}
use Rattle.dcx_math.proofs.Sums.{rat_sum_below-first}
use Rattle.dcx_atom.specs.declared.flags.Bend.{Bend}
use Rattle.dcx_atom.specs.declared.flags.Bend.TheVariants.{Convex, Concave}
use Rattle.dcx_atom.specs.Arrays.{list_below}
use Rattle.dcx_atom.specs.Bounding.{outward}
use Rattle.dcx_atom.proofs.BoundRows.{list_below-first, length-list_below}
use Rattle.dcx_fold.specs.Sorted.{insert, falling, above, length-falling, above-nonneg, within_level, suc_times, no_times, four}
use Rattle.dcx_fold.specs.Largest.{ordered, chosen_level}
use Rattle.dcx_fold.specs.LargestLaws.{excess, at_level, value_is}
use Rattle.dcx_fold.specs.Choices.{Choice, count_picked, sum_picked, HoldsForChoices}

-- ---- no choice is beyond the k largest
-- any level bounds the sum of those that are picked
picked-≤ : (n : ℕ) (q : ℚ) (x : ℕ → ℚ) (picks : Choice) → sum_picked n picks x ≤ℚ whole (pos (count_picked n picks)) *ℚ q +ℚ rat_sum_below n (λ i. above q (x i))
picked-≤ zero q x picks = ≤ℚ-from_≡ (no_times q (whole (pos 0)))
picked-≤ (suc n) q x picks =
    let s = sum_picked n (λ i. picks (suc i)) (λ i. x (suc i)) in
    let p = count_picked n (λ i. picks (suc i)) in
    let e = rat_sum_below n (λ i. above q (x (suc i))) in
    let rest : s ≤ℚ whole (pos p) *ℚ q +ℚ e = picked-≤ n q (λ i. x (suc i)) (λ i. picks (suc i)) in
    let by : (b : Bool) → (if b then x 0 else whole (pos 0)) +ℚ s ≤ℚ whole (pos (if b then suc p else p)) *ℚ q +ℚ (above q (x 0) +ℚ e) = elim [
      | true ↦ ≤ℚ_trans (+ℚ-≤ℚ (within_level q (x 0)) rest) (≤ℚ-from_≡ (four q (above q (x 0)) (whole (pos p) *ℚ q) e ∙ ap (λ z. z +ℚ (above q (x 0) +ℚ e)) (sym (suc_times p q))))
      | false ↦ ≤ℚ_trans (+ℚ-≤ℚ (above-nonneg q (x 0)) rest) (≤ℚ-from_≡ (+ℚ_left_comm (above q (x 0)) (whole (pos p) *ℚ q) e))
    ] in
    subst (λ z. z ≤ℚ whole (pos (count_picked (suc n) picks)) *ℚ q +ℚ rat_sum_below (suc n) (λ i. above q (x i))) (sym (rat_sum_below-first n (λ i. if picks i then x i else whole (pos 0))))
    (subst (λ z. (if picks 0 then x 0 else whole (pos 0)) +ℚ s ≤ℚ whole (pos (count_picked (suc n) picks)) *ℚ q +ℚ z) (sym (rat_sum_below-first n (λ i. above q (x i)))) (by (picks 0)))

few_picked : (n : ℕ) (picks : Choice) → count_picked n picks ≤ n
few_picked zero picks = omega arith
few_picked (suc n) picks =
    let rest = few_picked n (λ i. picks (suc i)) in
    let p = count_picked n (λ i. picks (suc i)) in
    let by : (b : Bool) → (if b then suc p else p) ≤ suc n = elim [ true ↦ omega (arith, rest) | false ↦ omega (arith, rest) ] in
    by (picks 0)

-- where none is picked, the sum is 0
none_picked : (n : ℕ) (x : ℕ → ℚ) (picks : Choice) → count_picked n picks ≡ 0 → sum_picked n picks x ≡ whole (pos 0)
none_picked zero x picks e = refl
none_picked (suc n) x picks e =
    let s = sum_picked n (λ i. picks (suc i)) (λ i. x (suc i)) in
    let p = count_picked n (λ i. picks (suc i)) in
    let rest : p ≡ 0 → s ≡ whole (pos 0) = none_picked n (λ i. x (suc i)) (λ i. picks (suc i)) in
    let by : (b : Bool) → (if b then suc p else p) ≡ 0 → (if b then x 0 else whole (pos 0)) +ℚ s ≡ whole (pos 0) = elim [ true ↦ λ h. absurd (omega (arith, h)) | false ↦ λ h. +ℚ_idl s ∙ rest h ] in
    rat_sum_below-first n (λ i. if picks i then x i else whole (pos 0)) ∙ by (picks 0) e

-- as the call counts
bounded : (bend : Bend) (k n : ℕ) (x : ℕ → ℚ) (picks : Choice) → count_picked n picks ≡ k → sum_picked n picks (λ i. outward bend (x i)) ≤ℚ rat_sum (take k (ordered bend n x))
unfolding excess
bounded bend zero n x picks e = ≤ℚ-from_≡ (none_picked n (λ i. outward bend (x i)) picks e)
bounded bend (suc m) n x picks e =
    let k : ℕ = suc m in
    let some : 1 ≤ k = omega arith in
    let few = few_picked n picks in
    let q = chosen_level bend k n x in
    subst (λ z. sum_picked n picks (λ i. outward bend (x i)) ≤ℚ z) (at_level bend k n x some (omega (arith, few, e)))
    (subst (λ c. sum_picked n picks (λ i. outward bend (x i)) ≤ℚ whole (pos c) *ℚ q +ℚ rat_sum_below n (λ i. above q (outward bend (x i)))) e (picked-≤ n q (λ i. outward bend (x i)) picks))

-- ---- the k largest are a choice
-- among the first k, where a number is put in order, it is there or not
put_in : (x : ℚ) (ys : List ℚ) (k : ℕ) →
    ((k ≤ length ys) × (rat_sum (take k (insert x ys)) ≡ rat_sum (take k ys))) ⊎ ((m : ℕ) × (k ≡ suc m) × (rat_sum (take k (insert x ys)) ≡ x +ℚ rat_sum (take m ys)))
put_in x [] zero = inl (omega arith, refl)
put_in x [] (suc m) = inr (m, refl, refl)
put_in x (y ∷ ys) zero = inl (omega arith, refl)
put_in x (y ∷ ys) (suc m) = by (rat_le y x) (put_in x ys m)
  where
    by : (b : Bool) → ((m ≤ length ys) × (rat_sum (take m (insert x ys)) ≡ rat_sum (take m ys))) ⊎ ((h : ℕ) × (m ≡ suc h) × (rat_sum (take m (insert x ys)) ≡ x +ℚ rat_sum (take h ys))) →
        ((suc m ≤ length (y ∷ ys)) × (rat_sum (take (suc m) (if b then x ∷ y ∷ ys else y ∷ insert x ys)) ≡ rat_sum (take (suc m) (y ∷ ys))))
        ⊎ ((h : ℕ) × (suc m ≡ suc h) × (rat_sum (take (suc m) (if b then x ∷ y ∷ ys else y ∷ insert x ys)) ≡ x +ℚ rat_sum (take h (y ∷ ys))))
    by true rest = inr (m, refl, refl)
    by false (inl w) = inl (omega (arith, w.0), ap (λ z. y +ℚ z) w.1)
    by false (inr w) = inr (m, refl, ap (λ z. y +ℚ z) w.2 ∙ +ℚ_left_comm y x (rat_sum (take w.0 ys)) ∙ ap (λ j. x +ℚ rat_sum (take j (y ∷ ys))) (sym w.1))

-- one more entry in front of a choice
with_first : Bool → Choice → Choice
with_first b picks zero = b
with_first b picks (suc i) = picks i

-- some choice of k numbers has the sum of the first k in falling order
taken_by : (n k : ℕ) (x : ℕ → ℚ) → k ≤ n → (picks : Choice) × (count_picked n picks ≡ k) × (sum_picked n picks x ≡ rat_sum (take k (falling (list_below n x))))
unfolding with_first
taken_by zero zero x h = ((λ i. false), refl, refl)
taken_by zero (suc k) x h = absurd (omega arith)
taken_by (suc n) k x h =
    let ys = falling (list_below n (λ i. x (suc i))) in
    let l : length ys ≡ n = length-falling (list_below n (λ i. x (suc i))) ∙ length-list_below n (λ i. x (suc i)) in
    let whole_is : rat_sum (take k (insert (x 0) ys)) ≡ rat_sum (take k (falling (list_below (suc n) x))) = ap (λ zs. rat_sum (take k (falling zs))) (sym (list_below-first n x)) in
    elim (put_in (x 0) ys k) [
      | inl w ↦
          let (picks, count, is) = taken_by n k (λ i. x (suc i)) (omega (arith, w.0, l)) in
          (with_first false picks, count, rat_sum_below-first n (λ i. if with_first false picks i then x i else whole (pos 0)) ∙ +ℚ_idl (sum_picked n picks (λ i. x (suc i))) ∙ is ∙ sym w.1 ∙ whole_is)
      | inr w ↦
          let (picks, count, is) = taken_by n w.0 (λ i. x (suc i)) (omega (arith, w.1, h)) in
          (with_first true picks, ap suc count ∙ sym w.1, rat_sum_below-first n (λ i. if with_first true picks i then x i else whole (pos 0)) ∙ ap (λ z. x 0 +ℚ z) is ∙ sym w.2 ∙ whole_is)
    ]

-- ---- turned round
turned_pick : (b : Bool) (x : ℚ) → (if b then neg_ℚ x else whole (pos 0)) ≡ neg_ℚ (if b then x else whole (pos 0))
turned_pick true x = refl
turned_pick false x = sym neg_ℚ-zero

sum_turned : (n : ℕ) (x : ℕ → ℚ) (picks : Choice) → sum_picked n picks (λ i. neg_ℚ (x i)) ≡ neg_ℚ (sum_picked n picks x)
sum_turned zero x picks = sym neg_ℚ-zero
sum_turned (suc n) x picks =
    ap₂ ◌+ℚ◌ (sum_turned n x picks) (turned_pick (picks n) (x n)) ∙ sym (neg_ℚ-+ℚ (sum_picked n picks x) (if picks n then x n else whole (pos 0)))

pub choices_hold : HoldsForChoices
choices_hold = record {
  greatest = λ k n x picks e. subst (λ z. sum_picked n picks x ≤ℚ z) (sym (value_is Convex k n x)) (bounded Convex k n x picks e);
  largest = λ k n x h. let (picks, count, is) = taken_by n k x h in (picks, count, is ∙ sym (value_is Convex k n x));
  least = λ k n x picks e.
      let h : sum_picked n picks (λ i. neg_ℚ (x i)) ≤ℚ rat_sum (take k (ordered Concave n x)) = bounded Concave k n x picks e in
      let g : neg_ℚ (rat_sum (take k (ordered Concave n x))) ≤ℚ neg_ℚ (sum_picked n picks (λ i. neg_ℚ (x i))) = neg_ℚ-≤ℚ h in
      subst (λ z. z ≤ℚ sum_picked n picks x) (sym (value_is Concave k n x))
      (subst (λ z. neg_ℚ (rat_sum (take k (ordered Concave n x))) ≤ℚ z) (ap neg_ℚ (sum_turned n x picks) ∙ neg_ℚ-neg_ℚ (sum_picked n picks x)) g);
  smallest = λ k n x h.
      let (picks, count, is) = taken_by n k (λ i. neg_ℚ (x i)) h in
      (picks, count, sym (neg_ℚ-neg_ℚ (sum_picked n picks x)) ∙ ap neg_ℚ (sym (sum_turned n x picks) ∙ is) ∙ sym (value_is Concave k n x));
}
