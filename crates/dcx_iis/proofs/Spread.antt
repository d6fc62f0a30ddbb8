-- Multipliers that are 0 outside a set of constraints: what they show of all constraints is what those of the set show of the set.
use Rattle.std.proofs.Common.{◌≡◌, ℕ, zero, suc, ◌+◌, ◌<◌, arith, Bool, true, false, IsTrue, List, [], ◌∷◌, length, map, Some, slice_get, refl, sym, ap, ap₂, ◌∙◌, subst, pos, add-zero}
use Rattle.std.specs.Prelude.{⊤}
use Rattle.std.proofs.lemmas.Bool.{true≢false}
use Rattle.std.proofs.lemmas.Option.{none-some, same_Some}
use Rattle.dcx_math.specs.Rational.{ℚ, whole, ◌+ℚ◌, ◌*ℚ◌, ◌≤ℚ◌}
use Rattle.dcx_math.specs.Sums.{rat_sum_below}
use Rattle.dcx_math.proofs.Orders.{≤ℚ_refl, +ℚ_idl, zero-*ℚ}
use Rattle.dcx_math.proofs.Sums.{rat_sum_below-same, rat_sum_below-zero}
use Rattle.dcx_atom.specs.declared.array.Array.{Array}
use Rattle.dcx_convex.specs.Nodes.{Setting}
use Rattle.dcx_convex.specs.Problems as convex
use Rattle.dcx_convex.specs.Problems.{Relation, AtMost, Equal, gap_at}
use Rattle.dcx_convex.specs.Answers as answers
use Rattle.dcx_convex.specs.Answers.{Multipliers, MayMultiply, weighed}
use Rattle.dcx_tree.specs.declared.constraint.Constraint.{Constraint}
use Rattle.dcx_tree.specs.declared.problem.Problem.{Problem}
use Rattle.dcx_tree.specs.Meaning.{convex_problem, convex_constraint, IsInfeasible}
use Rattle.dcx_unknowns.specs.Layout.{constraint_rows}
use Rattle.dcx_right.specs.Answers.{multipliers_in}
use Rattle.dcx_right.specs.ConstraintSets.{ConstraintSet}
use Rattle.dcx_iis.specs.Steps.{kept_of, kept_from}
use Rattle.dcx_iis.proofs.Kept.{one_if}
use Rattle.dcx_iis.proofs.Telling.{only}

-- ---- multipliers of all constraints and of those of the set
-- the first constraint's, where it is of the set, and 0 elsewhere; and those of the rest
abbrev head_if : Bool → Multipliers → ℕ → ℚ
head_if true m j = m 0 j
head_if false m j = whole (pos 0)

abbrev rest_if : Bool → Multipliers → Multipliers
rest_if true m k = m (suc k)
rest_if false m k = m k

-- of constraints, the first of which has the number i, all have the multipliers n, and those of the set have the multipliers m in order
abbrev Spreads : ConstraintSet → ℕ → List Constraint → Multipliers → Multipliers → Type 0
Spreads set i [] n m = ⊤
Spreads set i (c ∷ cs) n m = ((j : ℕ) → j < constraint_rows c → n 0 j ≡ head_if (set i) m j) × Spreads set (suc i) cs (λ k. n (suc k)) (rest_if (set i) m)

module _ (set : ConstraintSet) where
  -- the sum over all constraints is that over the set's
  module _ (gap : convex.Constraint → ℕ → ℚ) where
    zero_sum : (n : ℕ) (f : ℕ → ℚ) → rat_sum_below n (λ j. whole (pos 0) *ℚ f j) ≡ whole (pos 0)
    zero_sum n f = rat_sum_below-same n (λ j. whole (pos 0) *ℚ f j) (λ j. whole (pos 0)) (λ j l. zero-*ℚ (f j)) ∙ rat_sum_below-zero n

    one_more : (b : Bool) (c : Constraint) (cs : List Constraint) (m : Multipliers) →
        rat_sum_below (constraint_rows c) (λ j. head_if b m j *ℚ gap (convex_constraint c) j) +ℚ weighed gap (map convex_constraint cs) (rest_if b m)
        ≡ weighed gap (map convex_constraint (one_if b c cs)) m
    one_more true c cs m = refl
    one_more false c cs m = ap (λ x. x +ℚ weighed gap (map convex_constraint cs) m) (zero_sum (constraint_rows c) (gap (convex_constraint c))) ∙ +ℚ_idl (weighed gap (map convex_constraint cs) m)

    weighed_spread : (i : ℕ) (cs : List Constraint) (n m : Multipliers) → Spreads set i cs n m → weighed gap (map convex_constraint cs) n ≡ weighed gap (map convex_constraint (kept_from set i cs)) m
    weighed_spread i [] n m h = refl
    weighed_spread i (c ∷ cs) n m h =
        ap₂ ◌+ℚ◌
        (rat_sum_below-same (constraint_rows c) (λ j. n 0 j *ℚ gap (convex_constraint c) j) (λ j. head_if (set i) m j *ℚ gap (convex_constraint c) j)
        (λ j l. ap (λ x. x *ℚ gap (convex_constraint c) j) (h.0 j l)))
        (weighed_spread (suc i) cs (λ k. n (suc k)) (rest_if (set i) m) h.1)
        ∙ one_more (set i) c (kept_from set (suc i) cs) m

  -- they are multipliers where the set's are
  zero_multiplies : (relation : Relation) → MayMultiply relation (whole (pos 0))
  zero_multiplies AtMost = ≤ℚ_refl (whole (pos 0))
  zero_multiplies Equal = tt

  abbrev AreSigned : List Constraint → Multipliers → Type 0
  AreSigned cs m = (k : ℕ) (c : convex.Constraint) → slice_get (map convex_constraint cs) k ≡ Some c → (j : ℕ) → j < c.size → MayMultiply c.relation (m k j)

  head_signed : (b : Bool) (c : Constraint) (cs : List Constraint) (m : Multipliers) → AreSigned (one_if b c cs) m → (j : ℕ) → j < constraint_rows c
      → MayMultiply (convex_constraint c).relation (head_if b m j)
  head_signed true c cs m h j l = h 0 (convex_constraint c) refl j l
  head_signed false c cs m h j l = zero_multiplies (convex_constraint c).relation

  rest_signed : (b : Bool) (c : Constraint) (cs : List Constraint) (m : Multipliers) → AreSigned (one_if b c cs) m → AreSigned cs (rest_if b m)
  rest_signed true c cs m h = λ k d at. h (suc k) d at
  rest_signed false c cs m h = h

  spread_signed : (i : ℕ) (cs : List Constraint) (n m : Multipliers) → Spreads set i cs n m → AreSigned (kept_from set i cs) m → AreSigned cs n
  spread_signed i [] n m h signed k c e = absurd (none-some c e)
  spread_signed i (d ∷ cs) n m h signed zero c e =
      subst (λ (x : convex.Constraint). (j : ℕ) → j < x.size → MayMultiply x.relation (n 0 j)) (same_Some (convex_constraint d) c e)
      (λ j l. subst (MayMultiply (convex_constraint d).relation) (sym (h.0 j l)) (head_signed (set i) d (kept_from set (suc i) cs) m signed j l))
  spread_signed i (d ∷ cs) n m h signed (suc k) c e =
      spread_signed (suc i) cs (λ k. n (suc k)) (rest_if (set i) m) h.1 (rest_signed (set i) d (kept_from set (suc i) cs) m signed) k c e

  -- ---- lists of arrays
  -- arrays for all constraints, zeros outside the set, and the multipliers that are theirs in the set
  abbrev Agree : ℕ → List Constraint → List Array → Multipliers → Type 0
  Agree i cs ys m = (k : ℕ) (c : Constraint) → slice_get (kept_from set i cs) k ≡ Some c → (j : ℕ) → j < constraint_rows c → m k j ≡ multipliers_in (kept_from set i ys) k j

  head_agrees : (b : Bool) (c : Constraint) (cs : List Constraint) (y : Array) (ys : List Array) (m : Multipliers) →
      ((k : ℕ) (d : Constraint) → slice_get (one_if b c cs) k ≡ Some d → (j : ℕ) → j < constraint_rows d → m k j ≡ multipliers_in (one_if b y ys) k j) →
      ((b ≡ false) → (j : ℕ) → multipliers_in (y ∷ ys) 0 j ≡ whole (pos 0)) → (j : ℕ) → j < constraint_rows c → multipliers_in (y ∷ ys) 0 j ≡ head_if b m j
  head_agrees true c cs y ys m h z j l = sym (h 0 c refl j l)
  head_agrees false c cs y ys m h z j l = z refl j

  rest_agrees : (b : Bool) (c : Constraint) (cs : List Constraint) (y : Array) (ys : List Array) (m : Multipliers) →
      ((k : ℕ) (d : Constraint) → slice_get (one_if b c cs) k ≡ Some d → (j : ℕ) → j < constraint_rows d → m k j ≡ multipliers_in (one_if b y ys) k j) →
      (k : ℕ) (d : Constraint) → slice_get cs k ≡ Some d → (j : ℕ) → j < constraint_rows d → rest_if b m k j ≡ multipliers_in ys k j
  rest_agrees true c cs y ys m h k d e = h (suc k) d e
  rest_agrees false c cs y ys m h k d e = h k d e

  not_in : (k : ℕ) → set k ≡ false → ¬ IsTrue (set k)
  not_in k e t = true≢false (sym t ∙ e)

  arrays_spread : (i : ℕ) (cs : List Constraint) (ys : List Array) (m : Multipliers) → length ys ≡ length cs → Agree i cs ys m →
      ((k : ℕ) → ¬ IsTrue (set (i + k)) → (j : ℕ) → multipliers_in ys k j ≡ whole (pos 0)) → Spreads set i cs (multipliers_in ys) m
  arrays_spread i [] ys m n h z = tt
  arrays_spread i (c ∷ cs) [] m n h z = absurd (omega (arith, n))
  arrays_spread i (c ∷ cs) (y ∷ ys) m n h z = (
    head_agrees (set i) c (kept_from set (suc i) cs) y (kept_from set (suc i) ys) m h
        (λ e. z 0 (λ t. not_in i e (ap set (sym (add-zero i)) ∙ t))),
    arrays_spread (suc i) cs ys (rest_if (set i) m) (omega (arith, n)) (rest_agrees (set i) c (kept_from set (suc i) cs) y (kept_from set (suc i) ys) m h)
        (λ k t. let q : i + suc k ≡ suc i + k = omega arith in z (suc k) (λ u. t (ap set (sym q) ∙ u))),
  )

-- ---- what they show
-- arrays for all constraints that are 0 outside the set show that no point is feasible where those of the set show it of the set
pub spread_infeasible : (p : Problem) (s : Setting) (set : ConstraintSet) (ys : List Array) (m : Multipliers) (gap : ℚ) → length ys ≡ length p.constraints →
    ((k : ℕ) (c : Constraint) → slice_get (kept_of set p.constraints) k ≡ Some c → (j : ℕ) → j < constraint_rows c → m k j ≡ multipliers_in (kept_of set ys) k j) →
    ((k : ℕ) → ¬ IsTrue (set k) → (j : ℕ) → multipliers_in ys k j ≡ whole (pos 0)) → answers.IsInfeasible (only p set) s m gap → IsInfeasible p s (multipliers_in ys) gap
spread_infeasible p s set ys m gap count agree zeros h =
    let spreads = arrays_spread set 0 p.constraints ys m count agree (λ k t. let q : 0 + k ≡ k = omega arith in zeros k (λ u. t (ap set q ∙ u))) in
    record {
      positive = h.positive;
      multipliers = spread_signed set 0 p.constraints (multipliers_in ys) m spreads h.multipliers;
      bound = λ y dom. subst (λ x. gap ≤ℚ x) (sym (weighed_spread set (gap_at (convex_problem p) s y) 0 p.constraints (multipliers_in ys) m spreads)) (h.bound y dom);
    }
