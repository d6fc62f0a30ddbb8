-- Sets of constraints: what is left beside a constraint, and that the filter's set is minimal and one.
use Rattle.std.proofs.Common.{◌≡◌, ◌↔◌, ◌⊎◌, ℕ, zero, suc, ◌<◌, ◌≤◌, arith, Bool, true, false, if◌then◌else◌, IsTrue, length, map, inl, inr, refl, sym, ap, ◌∙◌, subst, ⊎_elim}
use Rattle.std.specs.Prelude.{nat_lt, nat_eq, not}
use Rattle.std.proofs.Math.Path.{fun_ext}
use Rattle.std.proofs.lemmas.Bool.{lt-ltb, le-ltb, cases_lt, cases_order, cases_Bool, and_parts, false≢true, eq-eqb}
use Rattle.std.proofs.lemmas.List.{length-map}
use Rattle.std.proofs.lemmas.Option.{slice_get_within}
use Rattle.dcx_convex.specs.Nodes.{Setting}
use Rattle.dcx_convex.specs.Problems.{Constraint, IsConstraint}
use Rattle.dcx_tree.specs.declared.problem.Problem.{Problem}
use Rattle.dcx_tree.specs.Meaning.{convex_problem, convex_constraint}
use Rattle.dcx_right.specs.ConstraintSets.{ConstraintSet, every_constraint, without, KeepsSet, IsImpossible, IsMinimal, left_beside, StayBelow, IsFilterSet}
use Rattle.dcx_right.specs.Laws.{FilterSetsAreMinimal, FilterSetsAreOne}

-- ---- what is left beside a constraint
module _ (set : ConstraintSet) (k i : ℕ) where
  pub beside_before : i < k → left_beside set k i ≡ set i
  beside_before h = ap (λ (b : Bool). if b then set i else nat_lt k i) (lt-ltb i k h)

  beside_from : k ≤ i → left_beside set k i ≡ nat_lt k i
  beside_from h = ap (λ (b : Bool). if b then set i else nat_lt k i) (le-ltb i k h)

  pub beside_behind : k < i → left_beside set k i ≡ true
  beside_behind h = beside_from (omega (arith, h)) ∙ lt-ltb k i h

pub beside_itself : (set : ConstraintSet) (k : ℕ) → left_beside set k k ≡ false
beside_itself set k = beside_from set k k (omega arith) ∙ le-ltb k k (omega arith)

-- only the constraints before it matter
pub beside_same : (a b : ConstraintSet) (k : ℕ) → ((i : ℕ) → i < k → a i ≡ b i) → left_beside a k ≡ left_beside b k
beside_same a b k h = fun_ext (λ i. ⊎_elim (λ l. beside_before a k i l ∙ h i l ∙ sym (beside_before b k i l)) (λ l. beside_from a k i l ∙ sym (beside_from b k i l)) (cases_lt i k))

-- a set that has those of another before a constraint, that one not, and all behind it, is what is left beside it
pub beside_is : (a b : ConstraintSet) (k : ℕ) → ((i : ℕ) → i < k → b i ≡ a i) → b k ≡ false → ((i : ℕ) → k < i → b i ≡ true) → b ≡ left_beside a k
beside_is a b k before here behind = fun_ext (λ i. by i (cases_order i k))
  where
    by : (i : ℕ) → (i ≡ k) ⊎ ((i < k) ⊎ (k < i)) → b i ≡ left_beside a k i
    by i (inl e) = subst (λ n. b n ≡ left_beside a k n) (sym e) (here ∙ sym (beside_itself a k))
    by i (inr (inl l)) = before i l ∙ sym (beside_before a k i l)
    by i (inr (inr l)) = behind i l ∙ sym (beside_behind a k i l)

-- ---- impossible sets
module _ (p : Problem) (s : Setting) where
  constraint_within : (k : ℕ) (c : Constraint) → IsConstraint (convex_problem p) k c → k < length p.constraints
  constraint_within k c at = let b = slice_get_within (map convex_constraint p.constraints) k c at in let n = length-map p.constraints convex_constraint in omega (arith, b, n)

  -- a point that keeps a set keeps each one within it
  pub keeps_fewer : (a b : ConstraintSet) → ((k : ℕ) → k < length p.constraints → IsTrue (a k) → IsTrue (b k)) → (x : _) → KeepsSet p s b x → KeepsSet p s a x
  keeps_fewer a b h x keeps = record { domain = keeps.domain; keeps = λ k t c at j l. keeps.keeps k (h k (constraint_within k c at) t) c at j l }

  pub impossible_more : (a b : ConstraintSet) → ((k : ℕ) → k < length p.constraints → IsTrue (a k) → IsTrue (b k)) → IsImpossible p s a → IsImpossible p s b
  impossible_more a b h impossible x keeps = impossible x (keeps_fewer a b h x keeps)

  -- ---- the filter's set is impossible
  -- once the first n constraints are tried: those that stayed, and all that follow
  abbrev so_far : ConstraintSet → ℕ → ConstraintSet
  so_far set n i = if nat_lt i n then set i else true

  so_far_in : (set : ConstraintSet) (n i : ℕ) → i < n → so_far set n i ≡ set i
  so_far_in set n i h = ap (λ (b : Bool). if b then set i else true) (lt-ltb i n h)

  so_far_out : (set : ConstraintSet) (n i : ℕ) → n ≤ i → so_far set n i ≡ true
  so_far_out set n i h = ap (λ (b : Bool). if b then set i else true) (le-ltb i n h)

  module _ (set : ConstraintSet) (n : ℕ) where
    -- where constraint n stays nothing is left out
    stays_more : IsTrue (set n) → (i : ℕ) → IsTrue (so_far set n i) → IsTrue (so_far set (suc n) i)
    stays_more t i h = by (cases_order i n)
      where
        by : (i ≡ n) ⊎ ((i < n) ⊎ (n < i)) → IsTrue (so_far set (suc n) i)
        by (inl e) = so_far_in set (suc n) i (omega (arith, e)) ∙ ap set e ∙ t
        by (inr (inl l)) = so_far_in set (suc n) i (omega (arith, l)) ∙ sym (so_far_in set n i l) ∙ h
        by (inr (inr l)) = so_far_out set (suc n) i (omega (arith, l))

    -- what is left beside constraint n is there
    beside_more : (i : ℕ) → IsTrue (left_beside set n i) → IsTrue (so_far set (suc n) i)
    beside_more i h = by (cases_order i n)
      where
        by : (i ≡ n) ⊎ ((i < n) ⊎ (n < i)) → IsTrue (so_far set (suc n) i)
        by (inl e) = absurd (false≢true (sym (beside_itself set n) ∙ ap (left_beside set n) (sym e) ∙ h))
        by (inr (inl l)) = so_far_in set (suc n) i (omega (arith, l)) ∙ sym (beside_before set n i l) ∙ h
        by (inr (inr l)) = so_far_out set (suc n) i (omega (arith, l))

  -- a constraint that is left out leaves the others impossible
  left_out : (set : ConstraintSet) (k : ℕ) → (IsTrue (set k) ↔ ¬ IsImpossible p s (left_beside set k)) → set k ≡ false → IsImpossible p s (left_beside set k)
  left_out set k stays e x keeps = false≢true (sym e ∙ stays.1 (λ impossible. impossible x keeps))

  stage : (set : ConstraintSet) → IsFilterSet p s set → (n : ℕ) → n ≤ length p.constraints → IsImpossible p s (so_far set n)
  stage set f zero h = impossible_more every_constraint (so_far set 0) (λ k l t. so_far_out set 0 k (omega arith)) f.impossible
  stage set f (suc n) h =
      ⊎_elim
      (λ t. impossible_more (so_far set n) (so_far set (suc n)) (λ k l. stays_more set n t k) (stage set f n (omega (arith, h))))
      (λ e. impossible_more (left_beside set n) (so_far set (suc n)) (λ k l. beside_more set n k) (left_out set n (f.stay n (omega (arith, h))) e))
      (cases_Bool (set n))

  -- ---- and none of its constraints can go
  pub within_beside : (set : ConstraintSet) (k i : ℕ) → IsTrue (without set k i) → IsTrue (left_beside set k i)
  within_beside set k i t = by (cases_order i k)
    where
      parts : IsTrue (set i) × IsTrue (not (nat_eq i k))
      parts = and_parts (set i) (not (nat_eq i k)) t

      by : (i ≡ k) ⊎ ((i < k) ⊎ (k < i)) → IsTrue (left_beside set k i)
      by (inl e) = absurd (false≢true (ap not (sym (eq-eqb i k e)) ∙ parts.1))
      by (inr (inl l)) = beside_before set k i l ∙ parts.0
      by (inr (inr l)) = beside_behind set k i l

  pub filter_set_is_minimal : (set : ConstraintSet) → IsFilterSet p s set → IsMinimal p s set
  filter_set_is_minimal set f = record {
    impossible = impossible_more (so_far set (length p.constraints)) set (λ k l t. sym (so_far_in set (length p.constraints) k l) ∙ t) (stage set f (length p.constraints) (omega arith));
    needed = λ k l t impossible. (f.stay k l).0 t (impossible_more (without set k) (left_beside set k) (λ i b. within_beside set k i) impossible);
  }

  -- ---- there is one
  same_flags : (a b : Bool) (P : Type 0) → (IsTrue a ↔ P) → (IsTrue b ↔ P) → a ≡ b
  same_flags true true P h k = refl
  same_flags false false P h k = refl
  same_flags true false P h k = absurd (false≢true (k.1 (h.0 refl)))
  same_flags false true P h k = absurd (false≢true (h.1 (k.0 refl)))

  same_at : (a b : ConstraintSet) (k : ℕ) → (IsTrue (a k) ↔ ¬ IsImpossible p s (left_beside a k)) → (IsTrue (b k) ↔ ¬ IsImpossible p s (left_beside b k)) → ((i : ℕ) → i < k → a i ≡ b i) → a k ≡ b k
  same_at a b k h g before =
      same_flags (a k) (b k) (¬ IsImpossible p s (left_beside a k)) h (subst (λ (set : ConstraintSet). IsTrue (b k) ↔ ¬ IsImpossible p s set) (sym (beside_same a b k before)) g)

  -- of the first n constraints the same stay
  pub same_below : (a b : ConstraintSet) (n : ℕ) → StayBelow p s n a → StayBelow p s n b → (k : ℕ) → k < n → a k ≡ b k
  same_below a b zero h g k l = absurd (omega (arith, l))
  same_below a b (suc n) h g k l =
      let before = same_below a b n (λ i m. h i (omega (arith, m))) (λ i m. g i (omega (arith, m))) in
      ⊎_elim (λ m. before k m) (λ m. subst (λ i. a i ≡ b i) (let e : n ≡ k = omega (arith, l, m) in e) (same_at a b n (h n (omega arith)) (g n (omega arith)) before)) (cases_lt k n)

  pub one_filter_set : (a b : ConstraintSet) → IsFilterSet p s a → IsFilterSet p s b → (k : ℕ) → k < length p.constraints → a k ≡ b k
  one_filter_set a b f g = same_below a b (length p.constraints) f.stay g.stay

-- ---- the laws
pub filter_sets_are_minimal : FilterSetsAreMinimal
filter_sets_are_minimal p s set f = filter_set_is_minimal p s set f

pub filter_sets_are_one : FilterSetsAreOne
filter_sets_are_one p s a b f g k l = one_filter_set p s a b f g k l
