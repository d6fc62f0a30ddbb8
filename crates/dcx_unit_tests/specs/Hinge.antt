-- A small convex call and a small linear one, by which the tests call the traits: the part of a number above 0, and the
-- number turned round.
use Rattle.std.specs.Prelude.{◌≡◌, ℕ, ◌<◌, List, [], ◌∷◌, Option, Some, None, true, false, pos, negsuc}
use Rattle.std.proofs.Common.{inl, inr, refl, sym, ap, subst, arith}
use Rattle.std.proofs.lemmas.List.Elements.{All-head, All-cons, All-nil}
use Rattle.dcx_math.specs.Rational.{ℚ, whole, ◌+ℚ◌, ◌*ℚ◌, ◌≤ℚ◌, neg_ℚ, rat_max}
use Rattle.dcx_math.specs.Sums.{IsNonnegative, rat_sum_below}
use Rattle.dcx_math.proofs.Ring.{ring, reads}
use Rattle.dcx_math.proofs.Orders.{≤ℚ_refl, ≤ℚ-from_≡, +ℚ-≤ℚ, *ℚ-≤ℚ, neg_ℚ-≤ℚ, neg_ℚ-nonnegative, neg_ℚ-nonpositive, +ℚ-nonnegative, linear}
use Rattle.dcx_math.proofs.Products.{*ℚ-nonnegative}
use Rattle.dcx_math.proofs.Bounds.{≤ℚ-rat_max_left, ≤ℚ-rat_max_right, rat_max-≤ℚ, rat_max-monotone}
use Rattle.dcx_frac.specs.Fits.{IsRepresentable}
use Rattle.dcx_shape.specs.declared.shape.Sides.{Sides}
use Rattle.dcx_shape.specs.declared.shape.Sides.TheVariants.{Scalar, Vector, Matrix}
use Rattle.dcx_shape.specs.Sides.{entries_of}
use Rattle.dcx_atom.specs.declared.flags.Bend.TheVariants.{Convex, Concave}
use Rattle.dcx_atom.specs.declared.graph.AuxKind.TheVariants.{Nonneg}
use Rattle.dcx_atom.specs.declared.graph.Operand.TheVariants.{Argument, Aux}
use Rattle.dcx_atom.specs.Formed.{number}
use Rattle.dcx_atom.specs.Signs.{sign_at, Follows}
use Rattle.dcx_atom.specs.Meaning.{Meaning, at_most, IsMet}
use Rattle.dcx_atom.specs.Laws.{SumsUp, KeepsSign, KeepsTrend, IsBent, IsSoundGraph, IsTightGraph, HasSubgradients, Recedes, slopes_times}
use Rattle.dcx_atom.specs.OwnUnknowns.{HasOwnUnknowns}
use Rattle.dcx_atom.specs.Duality.{weighted_arguments, AreRowSlopes, balance, AreDemanded, HasDualGraph}
use Rattle.dcx_atom.specs.Fractions.{HasFractionSummands, HasFractionCoefficients, HasFractionSlopes}
use Rattle.dcx_atom.specs.Linear as linear_call
use Rattle.dcx_atom.specs.Linear.{LinearMeaning, IsLinear}
use Rattle.dcx_atom.proofs.Units.{one_nonnegative}
use Rattle.dcx_atom.proofs.Fractions.{zero_fits, one_fits, minus_one_fits, number_fits, greater_fits}

-- the sides of the only argument, a scalar
abbrev pub one_scalar : List Sides → Option Sides
one_scalar [] = None
one_scalar (Scalar ∷ []) = Some Scalar
one_scalar (Vector n ∷ []) = None
one_scalar (Matrix m n ∷ []) = None
one_scalar (s ∷ r ∷ rs) = None

abbrev pub hinge_meaning : Meaning
hinge_meaning = record {
  shape = one_scalar;
  bend = Convex;
  trend = λ i sign. record { rising = true; falling = false };
  sign = λ signs. record { nonneg = true; nonpos = false };
  value = λ args a j. rat_max (a 0 0) (whole (pos 0));
  summands = λ args a j. rat_max (a 0 0) (whole (pos 0)) ∷ [];
  kinds = λ args. Nonneg ∷ [];
  rows = λ args j. (record { operand = Argument 0 0; coefficient = whole (pos 1) } ∷ record { operand = Aux 0; coefficient = whole (negsuc 0) } ∷ []) ∷ [];
  result = λ args j. record { aux = 0; coefficient = whole (pos 1) } ∷ [];
  filling = λ args a k. rat_max (a 0 0) (whole (pos 0));
  conditions = λ args c w j. record { left = number (w j 0); relation = at_most; right = number (c j) } ∷ [];
  slope = λ args w i e. number (w 0 0);
  slope_entries = λ args j. record { argument = 0; entry = 0 } ∷ [];
}

abbrev pub turned_meaning : LinearMeaning
turned_meaning = record {
  shape = one_scalar;
  trend = λ i. record { rising = false; falling = true };
  sign = λ signs. record { nonneg = (sign_at signs 0).nonpos; nonpos = (sign_at signs 0).nonneg };
  value = λ args a j. neg_ℚ (a 0 0);
  terms = λ args j. record { argument = 0; entry = 0; coefficient = whole (negsuc 0) } ∷ [];
}

first_entry : (args : List Sides) (sides : Sides) → one_scalar args ≡ Some sides → (j : ℕ) → j < entries_of sides → j ≡ 0
first_entry [] sides e j b = cc
first_entry (Scalar ∷ []) sides e j b = let f : Scalar ≡ sides = cc in let g : j < 1 = subst (λ s. j < entries_of s) (sym f) b in omega arith
first_entry (Vector n ∷ []) sides e j b = cc
first_entry (Matrix m n ∷ []) sides e j b = cc
first_entry (s ∷ r ∷ rs) sides e j b = cc

alone : (x : ℚ) → x ≡ x +ℚ whole (pos 0)
alone x = ring (x ∷ []) (search reads depth 30) tt

pub hinge_sums : SumsUp hinge_meaning
hinge_sums args sides is j b a = alone (rat_max (a 0 0) (whole (pos 0)))

pub hinge_sign : KeepsSign hinge_meaning
hinge_sign args sides is j b signs a n h = record { nonneg = λ t. ≤ℚ-rat_max_right (a 0 0) (whole (pos 0)); nonpos = λ f. cc }

rises : (x y : ℚ) → Follows Convex (record { rising = true; falling = false }) x y → x ≤ℚ y
rises x y (inl e) = ≤ℚ-from_≡ e
rises x y (inr (inl h)) = h.1
rises x y (inr (inr h)) = let f = h.0 in cc

pub hinge_trend : KeepsTrend hinge_meaning
hinge_trend args sides is j below signs a b h f = rat_max-monotone (rises (a 0 0) (b 0 0) (f 0 0)) (≤ℚ_refl (whole (pos 0)))

row_below : (x t : ℚ) → whole (pos 1) *ℚ x +ℚ (whole (negsuc 0) *ℚ t +ℚ whole (pos 0)) ≤ℚ whole (pos 0) → x ≤ℚ t
row_below x t h = linear (x ∷ t ∷ []) h (search reads depth 30) tt

below_row : (x t : ℚ) → x ≤ℚ t → whole (pos 1) *ℚ x +ℚ (whole (negsuc 0) *ℚ t +ℚ whole (pos 0)) ≤ℚ whole (pos 0)
below_row x t h = linear (x ∷ t ∷ []) h (search reads depth 30) tt

result_is : (t : ℚ) → t ≡ whole (pos 1) *ℚ t +ℚ whole (pos 0)
result_is t = ring (t ∷ []) (search reads depth 30) tt

pub hinge_sound : IsSoundGraph hinge_meaning
hinge_sound args sides is a t holds j below = subst (λ x. rat_max (a 0 0) (whole (pos 0)) ≤ℚ x) (result_is (t 0))
    (rat_max-≤ℚ (row_below (a 0 0) (t 0) (holds.rows j below).0) (holds.kinds 0 refl))

pub hinge_tight : IsTightGraph hinge_meaning
hinge_tight args sides is a = record {
  holds = record {
    kinds = λ k e. ≤ℚ-rat_max_right (a 0 0) (whole (pos 0));
    rows = λ j b. (below_row (a 0 0) (rat_max (a 0 0) (whole (pos 0))) (≤ℚ-rat_max_left (a 0 0) (whole (pos 0))), tt);
  };
  reaches = λ j b. sym (result_is (rat_max (a 0 0) (whole (pos 0))));
}

bent : {p q : ℚ} (x y : ℚ) → whole (pos 0) ≤ℚ p → whole (pos 0) ≤ℚ q →
    rat_max (p *ℚ x +ℚ q *ℚ y) (whole (pos 0)) ≤ℚ p *ℚ rat_max x (whole (pos 0)) +ℚ q *ℚ rat_max y (whole (pos 0))
bent {p} {q} x y hp hq = rat_max-≤ℚ
    (+ℚ-≤ℚ (*ℚ-≤ℚ hp (≤ℚ-rat_max_left x (whole (pos 0)))) (*ℚ-≤ℚ hq (≤ℚ-rat_max_left y (whole (pos 0)))))
    (+ℚ-nonnegative (*ℚ-nonnegative hp (≤ℚ-rat_max_right x (whole (pos 0)))) (*ℚ-nonnegative hq (≤ℚ-rat_max_right y (whole (pos 0)))))

pub hinge_bent : IsBent hinge_meaning
hinge_bent args sides is j below p q a b hp hq one = bent (a 0 0) (b 0 0) hp hq

recedes : {k : ℚ} (x y : ℚ) → whole (pos 0) ≤ℚ k → rat_max (x +ℚ k *ℚ y) (whole (pos 0)) ≤ℚ rat_max x (whole (pos 0)) +ℚ k *ℚ rat_max y (whole (pos 0))
recedes {k} x y h = rat_max-≤ℚ
    (+ℚ-≤ℚ (≤ℚ-rat_max_left x (whole (pos 0))) (*ℚ-≤ℚ h (≤ℚ-rat_max_left y (whole (pos 0)))))
    (+ℚ-nonnegative (≤ℚ-rat_max_right x (whole (pos 0))) (*ℚ-nonnegative h (≤ℚ-rat_max_right y (whole (pos 0)))))

pub hinge_recedes : Recedes hinge_meaning
hinge_recedes args sides is j below a b k h = recedes (a 0 0) (b 0 0) h

-- w x is at most c m, where w is at least 0 and at most c, and m at least 0 and x
scaled_below : (c w x m : ℚ) → whole (pos 0) ≤ℚ w → w ≤ℚ c → whole (pos 0) ≤ℚ m → x ≤ℚ m →
    whole (pos 0) +ℚ (whole (pos 0) +ℚ w *ℚ x) ≤ℚ whole (pos 0) +ℚ c *ℚ m
scaled_below c w x m hw hc hm hx = linear (c ∷ w ∷ x ∷ m ∷ []) (+ℚ-≤ℚ (*ℚ-≤ℚ hw hx) (*ℚ-≤ℚ hm hc)) (search reads depth 30) tt

pub hinge_subgradient : HasSubgradients hinge_meaning
hinge_subgradient [] sides is c w accepted a = cc
hinge_subgradient (Scalar ∷ []) sides is c w accepted a =
    let e : Scalar ≡ sides = cc in
    let b : 0 < entries_of sides = subst (λ s. 0 < entries_of s) e (omega arith) in
    subst (λ s. slopes_times hinge_meaning (Scalar ∷ []) w a ≤ℚ rat_sum_below (entries_of s) (λ j. c j *ℚ rat_max (a 0 0) (whole (pos 0)))) e
    (scaled_below (c 0) (w 0 0) (a 0 0) (rat_max (a 0 0) (whole (pos 0))) (accepted.weights 0 0 b (omega arith)) (All-head IsMet _ [] (accepted.conditions 0 b))
    (≤ℚ-rat_max_right (a 0 0) (whole (pos 0))) (≤ℚ-rat_max_left (a 0 0) (whole (pos 0))))
hinge_subgradient (Vector n ∷ []) sides is c w accepted a = cc
hinge_subgradient (Matrix m n ∷ []) sides is c w accepted a = cc
hinge_subgradient (s ∷ r ∷ rs) sides is c w accepted a = cc

pub hinge_own : HasOwnUnknowns hinge_meaning
hinge_own args sides is = let own : 0 < 1 = omega arith in record { rows = λ j b. ((tt, (own, tt)), tt); results = λ j b. (own, tt) }

-- the weighted row, over the argument alone
row_slope : (w x : ℚ) → whole (pos 0) +ℚ (whole (pos 0) +ℚ w *ℚ x) ≡
    whole (pos 0) +ℚ (w *ℚ (whole (pos 1) *ℚ x +ℚ (whole (negsuc 0) *ℚ whole (pos 0) +ℚ whole (pos 0))) +ℚ whole (pos 0))
row_slope w x = ring (w ∷ x ∷ []) (search reads depth 30) tt

row_slopes : AreRowSlopes hinge_meaning
row_slopes [] sides is w a = cc
row_slopes (Scalar ∷ []) sides is w a =
    let e : Scalar ≡ sides = cc in
    subst (λ s. slopes_times hinge_meaning (Scalar ∷ []) w a ≡ weighted_arguments hinge_meaning (Scalar ∷ []) (entries_of s) w a) e (row_slope (w 0 0) (a 0 0))
row_slopes (Vector n ∷ []) sides is w a = cc
row_slopes (Matrix m n ∷ []) sides is w a = cc
row_slopes (s ∷ r ∷ rs) sides is w a = cc

-- where the unknown is 1
at_one : (c w : ℚ) → IsNonnegative (whole (pos 0) +ℚ (c *ℚ (whole (pos 1) *ℚ whole (pos 1) +ℚ whole (pos 0))
    +ℚ (w *ℚ (whole (pos 1) *ℚ whole (pos 0) +ℚ (whole (negsuc 0) *ℚ whole (pos 1) +ℚ whole (pos 0))) +ℚ whole (pos 0)))) → w ≤ℚ c
at_one c w h = linear (c ∷ w ∷ []) h (search reads depth 30) tt

demanded : AreDemanded hinge_meaning
demanded [] sides is c w left j b = cc
demanded (Scalar ∷ []) sides is c w left j b =
    let e : Scalar ≡ sides = cc in
    let first = first_entry (Scalar ∷ []) sides is j b in
    All-cons IsMet (record { left = number (w j 0); relation = at_most; right = number (c j) }) []
    (subst (λ i. w i 0 ≤ℚ c i) (sym first) (at_one (c 0) (w 0 0)
    (subst (λ s. IsNonnegative (balance hinge_meaning (Scalar ∷ []) (entries_of s) c w (λ k. whole (pos 1)))) (sym e) (left (λ k. whole (pos 1)) (λ k z. one_nonnegative))))) (All-nil IsMet)
demanded (Vector n ∷ []) sides is c w left j b = cc
demanded (Matrix m n ∷ []) sides is c w left j b = cc
demanded (s ∷ r ∷ rs) sides is c w left j b = cc

pub hinge_duality : HasDualGraph hinge_meaning
hinge_duality = record { slopes = row_slopes; demanded = demanded }

pub hinge_fraction_summands : HasFractionSummands hinge_meaning
hinge_fraction_summands args a j h = All-cons IsRepresentable _ [] (greater_fits (a 0 0) (whole (pos 0)) (h 0 0) zero_fits) (All-nil IsRepresentable)

pub hinge_fraction_coefficients : HasFractionCoefficients hinge_meaning
hinge_fraction_coefficients = record { rows = λ args j. ((one_fits, (minus_one_fits, tt)), tt); results = λ args sides j is few. (one_fits, tt) }

pub hinge_fraction_slopes : HasFractionSlopes hinge_meaning
hinge_fraction_slopes args sides is c ws none i e b l = number_fits ws _

turned_is : (x : ℚ) → neg_ℚ x ≡ whole (negsuc 0) *ℚ x +ℚ whole (pos 0)
turned_is x = ring (x ∷ []) (search reads depth 30) tt

pub turned_linear : IsLinear turned_meaning
turned_linear args sides is j b a = turned_is (a 0 0)

pub turned_sign : linear_call.KeepsSign turned_meaning
turned_sign args sides is j b signs a n h = record { nonneg = λ t. neg_ℚ-nonnegative (a 0 0) ((h 0 0).nonpos t); nonpos = λ t. neg_ℚ-nonpositive (a 0 0) ((h 0 0).nonneg t) }

pub turned_trend : linear_call.KeepsTrend turned_meaning
turned_trend args sides is j below Convex a b f = by (f 0 0)
  where
    by : Follows Convex (record { rising = false; falling = true }) (a 0 0) (b 0 0) → neg_ℚ (a 0 0) ≤ℚ neg_ℚ (b 0 0)
    by (inl e) = ≤ℚ-from_≡ (ap neg_ℚ e)
    by (inr (inl h)) = let t = h.0 in cc
    by (inr (inr h)) = neg_ℚ-≤ℚ h.1
turned_trend args sides is j below Concave a b f = by (f 0 0)
  where
    by : Follows Concave (record { rising = false; falling = true }) (a 0 0) (b 0 0) → neg_ℚ (b 0 0) ≤ℚ neg_ℚ (a 0 0)
    by (inl e) = ≤ℚ-from_≡ (ap neg_ℚ (sym e))
    by (inr (inl h)) = let t = h.0 in cc
    by (inr (inr h)) = neg_ℚ-≤ℚ h.1
