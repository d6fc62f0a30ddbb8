-- The reduced program of the least abs(x), and its answer.
use Rattle.std.proofs.Common.{◌≡◌, inl, inr, ℕ, zero, suc, ◌<◌, arith, IsFalse, [], ◌∷◌, length, map, if◌then◌else◌, refl, sym, ap, ◌∙◌, subst, pos, All}
use Rattle.std.proofs.lemmas.Bool.{false≢true, eqb-true}
use Rattle.std.proofs.lemmas.Option.{none-some, same_Some}
use Rattle.std.proofs.lemmas.List.Elements.{All-nil, All-cons}
use Rattle.dcx_math.specs.Rational.{ℚ, whole, ◌+ℚ◌, ◌-ℚ◌, ◌*ℚ◌, neg_ℚ, rat_abs, ◌≤ℚ◌}
use Rattle.dcx_math.specs.Sums.{IsNonnegative}
use Rattle.dcx_math.proofs.Ring.{ring, reads}
use Rattle.dcx_math.proofs.Orders.{≤ℚ_refl, ≤ℚ_trans, ≤ℚ-from_≡, linear, +ℚ_idl, zero-*ℚ, neg_ℚ-≤ℚ, -ℚ-nonpositive}
use Rattle.dcx_math.proofs.Bounds.{rat_abs-≤ℚ, ≤ℚ-rat_abs, neg_ℚ-≤ℚ-rat_abs, rat_abs-nonnegative, rat_abs-convex}
use Rattle.dcx_atom.specs.declared.flags.Sign.{Sign}
use Rattle.dcx_atom.specs.declared.flags.Bend.{Bend}
use Rattle.dcx_atom.specs.declared.flags.Bend.TheVariants.{Convex}
use Rattle.dcx_atom.specs.Signs.{HasSign, IsBeyond, Follows, sign_at, by_other}
use Rattle.dcx_convex.specs.Calls.{IsLawful}
use Rattle.dcx_convex.specs.Nodes.{Node, Numbers, Point, Setting, IsNode, first_of, IsLawfulHead, AreLawful, ParameterKeeps, VariableKeeps, HasNoZeroDivisor, Fits, IsInDomain, value_at}
use Rattle.dcx_convex.specs.Rules.{Plain, judgement_at}
use Rattle.dcx_convex.specs.Reductions.{StandsFor, StandForNodes, Unknowns, RowsHold, IsReduction, IsWellFormed, IsRightOptimal}
use Rattle.dcx_convex.specs.Examples.{absolute, variable, call, least_abs, least_abs_reduced, least_abs_coefficients, no_slopes, no_multipliers, LeastAbs}
use Rattle.dcx_convex.specs.Answers.{lagrangian_of}
use Rattle.dcx_convex.specs.Certificates.{AreCollected, is_fixed, MayHandOn, given_at}
use Rattle.dcx_convex.proofs.Signs.{at_test}
use Rattle.dcx_atom.specs.Farthest.{beyond_refl}
use Rattle.dcx_convex.proofs.Convexity.{same_bend_is}
use Rattle.dcx_convex.proofs.MapBack.{optimal}

-- ---- the call
-- away from 0 the size grows
abs_follows : (s : Sign) (x y : ℚ) → HasSign s x → Follows Convex (by_other s) x y → rat_abs x ≤ℚ rat_abs y
abs_follows s x y h (inl e) = ≤ℚ-from_≡ (ap rat_abs e)
abs_follows s x y h (inr (inl p)) =
    rat_abs-≤ℚ (≤ℚ_trans p.1 (≤ℚ-rat_abs y)) (≤ℚ_trans (linear (x ∷ []) (h.nonneg p.0) (search reads depth 30) tt) (rat_abs-nonnegative y))
abs_follows s x y h (inr (inr p)) = rat_abs-≤ℚ (≤ℚ_trans (h.nonpos p.0) (rat_abs-nonnegative y)) (≤ℚ_trans (neg_ℚ-≤ℚ p.1) (neg_ℚ-≤ℚ-rat_abs y))

absolute_lawful : IsLawful absolute 1
absolute_lawful = record {
  sign_law = λ signs a n h j b. record { nonneg = λ _. rat_abs-nonnegative (a 0 0); nonpos = λ t. absurd (false≢true t) };
  monotonicity = λ bend signs a b e h f j l.
      subst (λ c. IsBeyond c (rat_abs (a 0 0)) (rat_abs (b 0 0))) e
      (abs_follows (sign_at signs 0) (a 0 0) (b 0 0) (h 0 0) (subst (λ c. Follows c (by_other (sign_at signs 0)) (a 0 0) (b 0 0)) (sym e) (f 0 0)));
  curvature = λ bend t r a b e p q one j l.
      subst (λ c. IsBeyond c (rat_abs (t *ℚ a 0 0 +ℚ r *ℚ b 0 0)) (t *ℚ rat_abs (a 0 0) +ℚ r *ℚ rat_abs (b 0 0))) e (rat_abs-convex (a 0 0) (b 0 0) p q);
}

-- ---- the problem
-- what holds of both nodes holds of each
each : (P : ℕ → Node → Type 0) → P 0 variable → P 1 (call absolute (0 ∷ [])) → (i : ℕ) (n : Node) → IsNode least_abs.nodes i n → P i n
each P first second zero n e = subst (P 0) (same_Some variable n e) first
each P first second (suc zero) n e = subst (P 1) (same_Some (call absolute (0 ∷ [])) n e) second
each P first second (suc (suc i)) n e = absurd (none-some n e)

lawful : AreLawful least_abs.nodes
lawful = each (λ i n. IsLawfulHead n.head (length n.args)) tt absolute_lawful

fits : (s : Setting) → Fits least_abs.nodes s
fits s = record { parameters = each (λ i n. ParameterKeeps s n.head) tt tt; divisors = λ x. each (λ i n. HasNoZeroDivisor n.head (map (value_at least_abs.nodes s x) n.args)) tt tt }

formed : IsWellFormed least_abs
formed = record {
  ordered = each (λ i n. All (λ a. a < i) n.args) (All-nil (λ a. a < 0)) (All-cons (λ a. a < 1) 0 [] (omega arith) (All-nil (λ a. a < 1)));
  objective = omega arith;
  sides = λ k c e. absurd (none-some c e);
}

domain : (x : Point) → IsInDomain least_abs.nodes x
domain x = each (λ i n. VariableKeeps x n.head) tt tt

-- ---- the reduced program
-- one number is an array by itself
first_one : (f g : Numbers) → f 0 ≡ g 0 → first_of 1 f ≡ first_of 1 g
first_one f g e = λ t j. at j t
  where
    at : (j : ℕ) → first_of 1 f j ≡ first_of 1 g j
    at j =
        at_test 1 j (λ b. (if b then f j else whole (pos 0)) ≡ (if b then g j else whole (pos 0))) (λ l. let z : j ≡ 0 = omega arith in subst (λ k. f k ≡ g k) (sym z) e) refl

row_holds : (u : Unknowns) → RowsHold least_abs_reduced u → rat_abs (u 0) ≤ℚ u 1
row_holds u h =
    rat_abs-≤ℚ (linear (u 0 ∷ u 1 ∷ []) (h 0 (λ u. u 0 -ℚ u 1) refl) (search reads depth 30) tt) (linear (u 0 ∷ u 1 ∷ []) (h 1 (λ u. neg_ℚ (u 0) -ℚ u 1) refl) (search reads depth 30) tt)

at_size_one : (bend : Bend) (x y : ℚ) → IsBeyond bend x y → (j : ℕ) → IsBeyond bend (first_of 1 (λ _. x) j) (first_of 1 (λ _. y) j)
at_size_one bend x y h j = at_test 1 j (λ b. IsBeyond bend (if b then x else whole (pos 0)) (if b then y else whole (pos 0))) (λ _. h) (beyond_refl bend (whole (pos 0)))

sound : (s : Setting) (u : Unknowns) → RowsHold least_abs_reduced u → StandForNodes Plain least_abs.nodes s (least_abs_reduced.point u) (least_abs_reduced.forms u)
unfolding judgement_at
sound s u h =
    each (λ i n. StandsFor Plain s (least_abs_reduced.point u) n.head (map (judgement_at Plain least_abs.nodes) n.args) (map (least_abs_reduced.forms u) n.args) (least_abs_reduced.forms u i))
    refl
    (record {
      beyond = λ bend t. at_size_one bend (rat_abs (u 0)) (u 1) (subst (λ b. IsBeyond b (rat_abs (u 0)) (u 1)) (same_bend_is Convex bend t) (row_holds u h));
      same = λ t. absurd (false≢true t);
    })

abbrev lift : Point → Unknowns
lift y zero = y 0 0
lift y (suc n) = rat_abs (y 0 0)

lift_rows : (y : Point) → RowsHold least_abs_reduced (lift y)
lift_rows y zero row e = subst (λ f. f (lift y) ≤ℚ whole (pos 0)) (same_Some (λ (u : Unknowns). u 0 -ℚ u 1) row e) (-ℚ-nonpositive (y 0 0) (rat_abs (y 0 0)) (≤ℚ-rat_abs (y 0 0)))
lift_rows y (suc zero) row e = subst (λ f. f (lift y) ≤ℚ whole (pos 0)) (same_Some (λ (u : Unknowns). neg_ℚ (u 0) -ℚ u 1) row e)
    (-ℚ-nonpositive (neg_ℚ (y 0 0)) (rat_abs (y 0 0)) (neg_ℚ-≤ℚ-rat_abs (y 0 0)))
lift_rows y (suc (suc k)) row e = absurd (none-some row e)

lift_same : (s : Setting) (y : Point) (i : ℕ) → i < 2 → least_abs_reduced.forms (lift y) i ≡ value_at least_abs.nodes s y i
unfolding value_at
lift_same s y zero b = first_one (λ _. y 0 0) (y 0) refl
lift_same s y (suc zero) b = refl
lift_same s y (suc (suc i)) b = absurd (omega arith)

reduction : (s : Setting) → IsReduction Plain least_abs s least_abs_reduced
reduction s = record {
  domain = λ u h. domain (least_abs_reduced.point u);
  ray = λ u d k. refl;
  sound = λ u a h. sound s u h;
  lift = lift;
  lifts = λ y dom. record {
    assignment = record { nonneg = λ n t. subst (λ m. IsNonnegative (lift y m)) (sym (eqb-true n 1 t)) (rat_abs-nonnegative (y 0 0)); nonpos = λ n t. absurd (false≢true t) };
    rows = lift_rows y;
    same = lift_same s y;
  };
}

-- ---- the answer
right : IsRightOptimal least_abs least_abs_reduced (whole (pos 0)) (λ n. whole (pos 0)) no_multipliers (λ k. whole (pos 0))
right = record {
  solves = record {
    assignment = record { nonneg = λ n t. ≤ℚ_refl _; nonpos = λ n t. ≤ℚ_refl _ };
    rows = rows;
    holds = λ k c e. absurd (none-some c e);
  };
  value = refl;
  multipliers = record { constraints = λ k c e. absurd (none-some c e); rows = λ k. ≤ℚ_refl _ };
  bound = λ t h. above (t 0) (t 1) (h.nonneg 1 refl);
}
  where
    rows : RowsHold least_abs_reduced (λ n. whole (pos 0))
    rows zero row e = subst (λ f. f (λ n. whole (pos 0)) ≤ℚ whole (pos 0)) (same_Some (λ (u : Unknowns). u 0 -ℚ u 1) row e) (≤ℚ-from_≡ (ring [] (search reads depth 30) tt))
    rows (suc zero) row e = subst (λ f. f (λ n. whole (pos 0)) ≤ℚ whole (pos 0)) (same_Some (λ (u : Unknowns). neg_ℚ (u 0) -ℚ u 1) row e) (≤ℚ-from_≡ (ring [] (search reads depth 30) tt))
    rows (suc (suc k)) row e = absurd (none-some row e)

    above : (x t : ℚ) → whole (pos 0) ≤ℚ t → whole (pos 0) ≤ℚ t +ℚ (whole (pos 0) +ℚ (whole (pos 0) *ℚ (x -ℚ t) +ℚ (whole (pos 0) *ℚ (neg_ℚ x -ℚ t) +ℚ whole (pos 0))))
    above x t h = linear (x ∷ t ∷ []) h (search reads depth 30) tt

-- ---- the certificate
collected : AreCollected least_abs.nodes (lagrangian_of least_abs no_multipliers) least_abs_coefficients no_slopes
unfolding judgement_at
collected f = one (f 0 0) (f 1 0)
  where
    one : (x t : ℚ) → (whole (pos 0) +ℚ (whole (pos 0) +ℚ whole (pos 0) *ℚ x)) +ℚ (whole (pos 0) +ℚ whole (pos 1) *ℚ t)
        ≡ (t +ℚ whole (pos 0)) +ℚ ((whole (pos 0) +ℚ whole (pos 0)) +ℚ (whole (pos 0) +ℚ (whole (pos 0) +ℚ whole (pos 0) *ℚ x)))
    one x t = ring (x ∷ t ∷ []) (search reads depth 30) tt

flat : (x t : ℚ) → whole (pos 0) ≤ℚ t → whole (pos 0) +ℚ (whole (pos 0) +ℚ whole (pos 0) *ℚ x) ≤ℚ whole (pos 0) +ℚ whole (pos 1) *ℚ t
flat x t h = linear (x ∷ t ∷ []) h (search reads depth 30) tt

handed : (s : Setting) (i : ℕ) (n : Node) → IsNode least_abs.nodes i n → IsFalse (is_fixed least_abs.nodes i)
    → MayHandOn least_abs.nodes (given_at least_abs.nodes s) n.head n.args (least_abs_coefficients i) (no_slopes i)
handed s i n e loose =
    each (λ i n. MayHandOn least_abs.nodes (given_at least_abs.nodes s) n.head n.args (least_abs_coefficients i) (no_slopes i)) (λ x _. ≤ℚ-from_≡ (sym (+ℚ_idl (whole (pos 0) *ℚ x 0) ∙ zero-*ℚ (x 0))))
    (λ a _. flat (a 0 0) (rat_abs (a 0 0)) (rat_abs-nonnegative (a 0 0))) i n e

reaches : whole (pos 0) ≤ℚ (whole (pos 0) +ℚ whole (pos 0)) +ℚ whole (pos 0)
reaches = ≤ℚ-from_≡ (ring [] (search reads depth 30) tt)

pub least : (s : Setting) → LeastAbs s
unfolding judgement_at
least s = record {
  lawful = lawful;
  fits = fits s;
  accepted = refl;
  formed = formed;
  reduction = reduction s;
  right = right;
  optimal = optimal Plain least_abs lawful formed refl s (fits s) least_abs_reduced (reduction s) (whole (pos 0)) (λ n. whole (pos 0)) no_multipliers (λ k. whole (pos 0)) right;
  certificate = record { collected = collected; handed = handed s };
  reaches = reaches;
}
