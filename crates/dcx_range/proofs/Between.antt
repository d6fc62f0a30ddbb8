-- Between the ends that the rows give stand the values that each row allows, and no others.
use Rattle.std.proofs.Common.{◌≡◌, ◌≢◌, ℕ, zero, suc, ◌+◌, ◌<◌, ◌≤◌, ◌^◌, Bool, true, false, T, List, [], ◌∷◌, Option, Some}
use Rattle.std.proofs.Common.{None, Ok, refl, sym, ap, ◌∙◌, subst, arith, pos, unsigned_abs, ◌⊎◌, inl, inr}
use Rattle.std.specs.Prelude.{nat_le, if◌then◌else◌}
use Rattle.std.proofs.lemmas.Bool.{cases_eq, leb-false, leb-true}
use Rattle.dcx_math.specs.Rational.{ℚ, whole, ◌+ℚ◌, ◌-ℚ◌, ◌*ℚ◌, ◌/ℚ◌, neg_ℚ, rat_le, rat_eq, ◌≤ℚ◌, ◌<ℚ◌}
use Rattle.dcx_math.proofs.Orders.{≡-from_difference, ≤ℚ_trans, ≤ℚ_antisym, ≤ℚ_total, ≤ℚ-from_≡, ≤ℚ-≢, <ℚ-≤ℚ, <ℚ-from_not, neg_ℚ-<ℚ, neg_ℚ-zero, *ℚ-≤ℚ, linear, linear_eq}
use Rattle.dcx_math.proofs.Products.{*ℚ-≤ℚ_turned, *ℚ-≤ℚ_cancel, *ℚ-zero_factor, /ℚ-*ℚ}
use Rattle.dcx_math.proofs.Ratios.{IsTrue-rat_le, IsTrue-rat_eq, rat_eq-false}
use Rattle.dcx_math.proofs.Ring.{ring, reads}
use Rattle.dcx_frac.specs.declared.fraction.Frac.{Frac}
use Rattle.dcx_frac.specs.Frac.{value}
use Rattle.dcx_atom.specs.Formed.{zero_frac, frac_at}
use Rattle.dcx_atom.proofs.FormedSums.{value-zero_frac}
use Rattle.dcx_call.specs.declared.attribute.Attribute.{Attribute}
use Rattle.dcx_call.specs.declared.attribute.Attribute.TheVariants.{Free, Nonneg, Nonpos, Symmetric, Diag}
use Rattle.dcx_tab.specs.Rows.{basic_at}
use Rattle.dcx_tab.specs.Table.{Table, entry_at}
use Rattle.dcx_lp_answer.proofs.Fractions.{value-whole}
use Rattle.dcx_simplex.specs.Run.{right_at}
use Rattle.dcx_range.specs.declared.rates.Rate.{Rate}
use Rattle.dcx_range.specs.declared.ends.Ends.{Ends}
use Rattle.dcx_range.specs.Operations.{change_at, greater, lesser, from_on, up_to, with_end, zero_of, ends_by, row_ends, next_ends, ends_from, no_ends, sign_ends}
use Rattle.dcx_range.specs.Interval.{HasSign}
use Rattle.dcx_right.specs.Ranges.{IsFrom, IsUpTo, IsBetween}
use Rattle.dcx_range.proofs.Exact.{both_formed, end_value}

-- ---- tests
above : (a b : ℚ) → rat_le a b ≡ false → ¬ (a ≤ℚ b)
above a b e h = subst T e h.le

least : (a b : ℚ) → rat_le a b ≡ false → b ≤ℚ a
least a b e = by (≤ℚ_total a b)
  where
    by : (a ≤ℚ b) ⊎ (b ≤ℚ a) → b ≤ℚ a
    by (inl h) = absurd (above a b e h)
    by (inr h) = h

is_zero : (a : ℚ) → rat_eq a (whole (pos 0)) ≡ true → a ≡ whole (pos 0)
is_zero a e = (IsTrue-rat_eq a (whole (pos 0))).0 e

-- ---- one end more
greater_in : (end : Option Frac) (x : Frac) (v : ℚ) → IsFrom (Some (greater end x)) v → IsFrom end v × (value x ≤ℚ v)
greater_in None x v h = (tt, h)
greater_in (Some y) x v h = by (rat_le (value x) (value y)) refl h
  where
    by : (b : Bool) → rat_le (value x) (value y) ≡ b → value (if b then y else x) ≤ℚ v → (value y ≤ℚ v) × (value x ≤ℚ v)
    by true e k = (k, ≤ℚ_trans ((IsTrue-rat_le (value x) (value y)).0 e) k)
    by false e k = (≤ℚ_trans (least (value x) (value y) e) k, k)

greater_out : (end : Option Frac) (x : Frac) (v : ℚ) → IsFrom end v → value x ≤ℚ v → IsFrom (Some (greater end x)) v
greater_out None x v f h = h
greater_out (Some y) x v f h = by (rat_le (value x) (value y))
  where
    by : (b : Bool) → value (if b then y else x) ≤ℚ v
    by true = f
    by false = h

lesser_in : (end : Option Frac) (x : Frac) (v : ℚ) → IsUpTo (Some (lesser end x)) v → IsUpTo end v × (v ≤ℚ value x)
lesser_in None x v h = (tt, h)
lesser_in (Some y) x v h = by (rat_le (value y) (value x)) refl h
  where
    by : (b : Bool) → rat_le (value y) (value x) ≡ b → v ≤ℚ value (if b then y else x) → (v ≤ℚ value y) × (v ≤ℚ value x)
    by true e k = (k, ≤ℚ_trans k ((IsTrue-rat_le (value y) (value x)).0 e))
    by false e k = (≤ℚ_trans k (least (value y) (value x) e), k)

lesser_out : (end : Option Frac) (x : Frac) (v : ℚ) → IsUpTo end v → v ≤ℚ value x → IsUpTo (Some (lesser end x)) v
lesser_out None x v f h = h
lesser_out (Some y) x v f h = by (rat_le (value y) (value x))
  where
    by : (b : Bool) → v ≤ℚ value (if b then y else x)
    by true = f
    by false = h

-- a value is between ends
abbrev pub Within : Ends → ℚ → Type 0
Within e v = IsBetween e.low e.high v

module _ (x : Frac) (e : Ends) (v : ℚ) where
  from_in : Within (from_on x e) v → Within e v × (value x ≤ℚ v)
  from_in b = let g = greater_in e.low x v b.from in (record { from = g.0; up_to = b.up_to }, g.1)

  from_out : Within e v → value x ≤ℚ v → Within (from_on x e) v
  from_out b h = record { from = greater_out e.low x v b.from h; up_to = b.up_to }

  up_in : Within (up_to x e) v → Within e v × (v ≤ℚ value x)
  up_in b = let g = lesser_in e.high x v b.up_to in (record { from = b.from; up_to = g.0 }, g.1)

  up_out : Within e v → v ≤ℚ value x → Within (up_to x e) v
  up_out b h = record { from = b.from; up_to = lesser_out e.high x v b.up_to h }

-- ---- the end that the sign gives
pub sign_in : (a : Attribute) (e : Ends) (v : ℚ) → Within (sign_ends a e) v → HasSign a v × Within e v
sign_in Free e v b = (tt, b)
sign_in Nonneg e v b = let w = from_in zero_frac e v b in (subst (λ z. z ≤ℚ v) value-zero_frac w.1, w.0)
sign_in Nonpos e v b = let w = up_in zero_frac e v b in (subst (λ z. v ≤ℚ z) value-zero_frac w.1, w.0)
sign_in Symmetric e v b = (tt, b)
sign_in Diag e v b = (tt, b)

pub sign_out : (a : Attribute) (e : Ends) (v : ℚ) → HasSign a v → Within e v → Within (sign_ends a e) v
sign_out Free e v s b = b
sign_out Nonneg e v s b = from_out zero_frac e v b (subst (λ z. z ≤ℚ v) (sym value-zero_frac) s)
sign_out Nonpos e v s b = up_out zero_frac e v b (subst (λ z. v ≤ℚ z) (sym value-zero_frac) s)
sign_out Symmetric e v s b = b
sign_out Diag e v s b = b

-- every value is between no ends
pub within_none : (v : ℚ) → Within no_ends v
within_none v = record { from = tt; up_to = tt }

-- ---- numbers
-- where y d is the right side at `at`, it is at least 0 at v exactly where v is at the side of `at` less y that d says
low_from : (at y v d : ℚ) → (d *ℚ (at -ℚ y)) ≤ℚ (d *ℚ v) → whole (pos 0) ≤ℚ (y *ℚ d +ℚ (v -ℚ at) *ℚ d)
low_from at y v d h = linear (at ∷ y ∷ v ∷ d ∷ []) h (search reads depth 30 fits 4000) tt

from_low : (at y v d : ℚ) → whole (pos 0) ≤ℚ (y *ℚ d +ℚ (v -ℚ at) *ℚ d) → (d *ℚ (at -ℚ y)) ≤ℚ (d *ℚ v)
from_low at y v d h = linear (at ∷ y ∷ v ∷ d ∷ []) h (search reads depth 30 fits 4000) tt

turned_from_low : (at y v d : ℚ) → whole (pos 0) ≤ℚ (y *ℚ d +ℚ (v -ℚ at) *ℚ d) → (neg_ℚ d *ℚ v) ≤ℚ (neg_ℚ d *ℚ (at -ℚ y))
turned_from_low at y v d h = linear (at ∷ y ∷ v ∷ d ∷ []) h (search reads depth 30 fits 4000) tt

no_change : (r u d : ℚ) → d ≡ whole (pos 0) → r +ℚ u *ℚ d ≡ r
no_change r u d e = ap (λ z. r +ℚ u *ℚ z) e ∙ ring (r ∷ u ∷ []) (search reads depth 30) tt

no_move : (r u d : ℚ) → u ≡ whole (pos 0) → r +ℚ u *ℚ d ≡ r
no_move r u d e = ap (λ z. r +ℚ z *ℚ d) e ∙ ring (r ∷ d ∷ []) (search reads depth 30) tt

apart_none : (v at : ℚ) → v ≡ at → v -ℚ at ≡ whole (pos 0)
apart_none v at e = ap (λ z. z -ℚ at) e ∙ ring (at ∷ []) (search reads depth 30) tt

moved_zero : (r u d : ℚ) → r ≡ whole (pos 0) → r +ℚ u *ℚ d ≡ whole (pos 0) → u *ℚ d ≡ whole (pos 0)
moved_zero r u d z e = linear_eq (r ∷ u ∷ d ∷ []) (ap (λ w. w +ℚ u *ℚ d) (sym z) ∙ e) (search reads depth 30) tt

either : (x y : ℚ) → (x ≡ whole (pos 0)) ⊎ (y ≡ whole (pos 0)) → y ≢ whole (pos 0) → x ≡ whole (pos 0)
either x y (inl e) n = e
either x y (inr e) n = absurd (n e)

positive_of : (d : Frac) → rat_le (value d) (value zero_frac) ≡ false → whole (pos 0) <ℚ value d
positive_of d e = <ℚ-from_not (whole (pos 0)) (value d) (λ h. above (value d) (value zero_frac) e (subst (λ z. value d ≤ℚ z) (sym value-zero_frac) h))

low_of : (d : Frac) → rat_le (value d) (value zero_frac) ≡ true → value d ≤ℚ whole (pos 0)
low_of d e = subst (λ z. value d ≤ℚ z) value-zero_frac ((IsTrue-rat_le (value d) (value zero_frac)).0 e)

negative_of : (d : Frac) → rat_le (value d) (value zero_frac) ≡ true → value d ≢ whole (pos 0) → whole (pos 0) <ℚ neg_ℚ (value d)
negative_of d e n = subst (λ z. z <ℚ neg_ℚ (value d)) neg_ℚ-zero (neg_ℚ-<ℚ (≤ℚ-≢ (low_of d e) n))

-- ---- a row
-- the right side of row i at v, where it is that of the tableau at `at` and changes by d for each unit, is at least 0, and is 0 where an
-- artificial is basic
pub record IsAllowed (t : Table) (i : ℕ) (at d v : ℚ) : Type 0 where
  pub low : whole (pos 0) ≤ℚ (whole (right_at t i) +ℚ (v -ℚ at) *ℚ d)
  pub artificial : t.plain ≤ basic_at t.basis i → whole (right_at t i) +ℚ (v -ℚ at) *ℚ d ≡ whole (pos 0)

-- it is so at `at`, and the right side fits 128 bits
pub record IsSettled (t : Table) (i : ℕ) : Type 0 where
  pub low : whole (pos 0) ≤ℚ whole (right_at t i)
  pub artificial : t.plain ≤ basic_at t.basis i → whole (right_at t i) ≡ whole (pos 0)
  pub small : unsigned_abs (right_at t i) < 2 ^ 127

module _ (t : Table) (i : ℕ) (s : IsSettled t i) (at : ℚ) where
  same_at : (d u : ℚ) → whole (right_at t i) +ℚ u *ℚ d ≡ whole (right_at t i) → whole (pos 0) ≤ℚ (whole (right_at t i) +ℚ u *ℚ d)
  same_at d u e = subst (λ z. whole (pos 0) ≤ℚ z) (sym e) s.low

  -- where the right side stays, every value is allowed
  still : (d v : ℚ) → whole (right_at t i) +ℚ (v -ℚ at) *ℚ d ≡ whole (right_at t i) → IsAllowed t i at d v
  still d v e = record { low = same_at d (v -ℚ at) e; artificial = λ h. e ∙ s.artificial h }

  -- at the value itself it stays
  pub allowed_here : (d : ℚ) → IsAllowed t i at d at
  allowed_here d = still d at (no_move (whole (right_at t i)) (at -ℚ at) d (apart_none at at refl))

module _ (t : Table) (i : ℕ) (s : IsSettled t i) (at d : Frac) (e f : Ends) (v : ℚ) where
  right : Frac
  right = frac_at (whole (entry_at t i (t.columns + 2)))

  Holds : Type 0
  Holds = Within e v × IsAllowed t i (value at) (value d) v

  right_value : value right ≡ whole (right_at t i)
  unfolding right
  right_value = value-whole (right_at t i) s.small

  -- the quotient times the change is the right side
  moved : (x : Frac) → value d ≢ whole (pos 0) → zero_of at right d ≡ Ok x → (y : ℚ) × (value x ≡ value at -ℚ y) × (y *ℚ value d ≡ whole (right_at t i))
  moved x n g = (value right /ℚ value d, end_value at right d x g, /ℚ-*ℚ (value right) (value d) n ∙ right_value)

  plain_low : (n : basic_at t.basis i < t.plain) → whole (pos 0) ≤ℚ (whole (right_at t i) +ℚ (v -ℚ value at) *ℚ value d) → IsAllowed t i (value at) (value d) v
  plain_low n h = record { low = h; artificial = λ l. absurd (omega (arith, n, l)) }

  -- ---- from the ends with those of the row
  end_in : (x : Frac) → basic_at t.basis i < t.plain → value d ≢ whole (pos 0) → zero_of at right d ≡ Ok x → (b : Bool) → rat_le (value d) (value zero_frac) ≡ b
      → Within (if b then up_to x e else from_on x e) v → Holds
  unfolding Holds
  end_in x l n g true p b =
      let w = up_in x e v b in
      let m = moved x n g in
      (w.0, plain_low l (subst (λ z. whole (pos 0) ≤ℚ (z +ℚ (v -ℚ value at) *ℚ value d)) m.2 (low_from (value at) m.0 v (value d) (*ℚ-≤ℚ_turned (low_of d p) (subst (λ z. v ≤ℚ z) m.1 w.1)))))
  end_in x l n g false p b =
      let w = from_in x e v b in
      let m = moved x n g in
      (w.0, plain_low l (subst (λ z. whole (pos 0) ≤ℚ (z +ℚ (v -ℚ value at) *ℚ value d)) m.2 (low_from (value at) m.0 v (value d) (*ℚ-≤ℚ (<ℚ-≤ℚ (positive_of d p)) (subst (λ z. z ≤ℚ v) m.1 w.1)))))

  by_in : (z a : Bool) → rat_eq (value d) (whole (pos 0)) ≡ z → nat_le t.plain (basic_at t.basis i) ≡ a → ends_by t i at d e z a ≡ Ok f → Within f v → Holds
  unfolding Holds right
  by_in true a p q g b =
      let same : e ≡ f = cc in
      (subst (λ (x : Ends). Within x v) (sym same) b, still t i s (value at) (value d) v (no_change (whole (right_at t i)) (v -ℚ value at) (value d) (is_zero (value d) p)))
  by_in false true p q g b =
      let same : up_to at (from_on at e) ≡ f = cc in
      let u = up_in at (from_on at e) v (subst (λ (x : Ends). Within x v) (sym same) b) in
      let w = from_in at e v u.0 in
      (w.0, still t i s (value at) (value d) v (no_move (whole (right_at t i)) (v -ℚ value at) (value d) (apart_none v (value at) (≤ℚ_antisym u.1 w.1))))
  by_in false false p q g b =
      let x = both_formed (zero_of at right d) (λ y. Ok (with_end d y e)) f g in
      let last = x.2 in
      let same : with_end d x.0 e ≡ f = cc in
      end_in x.0 (leb-false t.plain (basic_at t.basis i) q) (rat_eq-false (value d) (whole (pos 0)) p) x.1 (rat_le (value d) (value zero_frac)) refl (subst (λ (y : Ends). Within y v) (sym same) b)

  pub row_in : row_ends t i at d e ≡ Ok f → Within f v → Within e v × IsAllowed t i (value at) (value d) v
  unfolding Holds
  row_in g b = by_in (rat_eq (value d) (whole (pos 0))) (nat_le t.plain (basic_at t.basis i)) refl refl g b

  -- ---- and back
  end_out : (x : Frac) → value d ≢ whole (pos 0) → zero_of at right d ≡ Ok x → Within e v → IsAllowed t i (value at) (value d) v → (b : Bool) → rat_le (value d) (value zero_frac) ≡ b
      → Within (if b then up_to x e else from_on x e) v
  end_out x n g w h true p =
      let m = moved x n g in
      up_out x e v w (subst (λ z. v ≤ℚ z) (sym m.1) (*ℚ-≤ℚ_cancel (negative_of d p n)
      (turned_from_low (value at) m.0 v (value d) (subst (λ z. whole (pos 0) ≤ℚ (z +ℚ (v -ℚ value at) *ℚ value d)) (sym m.2) h.low))))
  end_out x n g w h false p =
      let m = moved x n g in
      from_out x e v w (subst (λ z. z ≤ℚ v) (sym m.1) (*ℚ-≤ℚ_cancel (positive_of d p)
      (from_low (value at) m.0 v (value d) (subst (λ z. whole (pos 0) ≤ℚ (z +ℚ (v -ℚ value at) *ℚ value d)) (sym m.2) h.low))))

  by_out : (z a : Bool) → rat_eq (value d) (whole (pos 0)) ≡ z → nat_le t.plain (basic_at t.basis i) ≡ a → ends_by t i at d e z a ≡ Ok f → Within e v → IsAllowed t i (value at) (value d) v
      → Within f v
  unfolding right
  by_out true a p q g w h = let same : e ≡ f = cc in subst (λ (x : Ends). Within x v) same w
  by_out false true p q g w h =
      let same : up_to at (from_on at e) ≡ f = cc in
      let l = leb-true t.plain (basic_at t.basis i) q in
      let here : v ≡ value at = ≡-from_difference
      (either (v -ℚ value at) (value d) (*ℚ-zero_factor (v -ℚ value at) (value d) (moved_zero (whole (right_at t i)) (v -ℚ value at) (value d) (s.artificial l) (h.artificial l)))
      (rat_eq-false (value d) (whole (pos 0)) p)) in
      subst (λ (x : Ends). Within x v) same (up_out at (from_on at e) v (from_out at e v w (≤ℚ-from_≡ (sym here))) (≤ℚ-from_≡ here))
  by_out false false p q g w h =
      let x = both_formed (zero_of at right d) (λ y. Ok (with_end d y e)) f g in
      let last = x.2 in
      let same : with_end d x.0 e ≡ f = cc in
      subst (λ (y : Ends). Within y v) same (end_out x.0 (rat_eq-false (value d) (whole (pos 0)) p) x.1 w h (rat_le (value d) (value zero_frac)) refl)

  pub row_out : row_ends t i at d e ≡ Ok f → Within e v → IsAllowed t i (value at) (value d) v → Within f v
  row_out g w h = by_out (rat_eq (value d) (whole (pos 0))) (nat_le t.plain (basic_at t.basis i)) refl refl g w h

-- ---- all rows
module _ (t : Table) (hs : List Rate) (at : Frac) (count : ℕ) (settled : (j : ℕ) → j < count → IsSettled t j) (c : ℕ → ℚ)
    (exact : (j : ℕ) (d : Frac) → j < count → change_at t j hs ≡ Ok d → value d ≡ c j) (v : ℚ) where
  -- the next row is done, and then the others
  parted : (i n : ℕ) (e f : Ends) → ends_from t hs at i (suc n) e ≡ Ok f → (d : Frac) × (change_at t i hs ≡ Ok d) × ((g : Ends) × (row_ends t i at d e ≡ Ok g) × (ends_from t hs at (suc i) n g ≡ Ok f))
  parted i n e f q =
      let a = both_formed (next_ends t hs at i e) (λ g. ends_from t hs at (suc i) n g) f q in
      let b = both_formed (change_at t i hs) (λ d. row_ends t i at d e) a.0 a.1 in
      (b.0, b.1, (a.0, b.2, a.2))

  allowed_as : (j : ℕ) (d : Frac) → j < count → change_at t j hs ≡ Ok d → IsAllowed t j (value at) (value d) v → IsAllowed t j (value at) (c j) v
  allowed_as j d l q = subst (λ z. IsAllowed t j (value at) z v) (exact j d l q)

  ends_in : (i n : ℕ) (e f : Ends) → i + n ≤ count → ends_from t hs at i n e ≡ Ok f → Within f v → Within e v × ((j : ℕ) → i ≤ j → j < i + n → IsAllowed t j (value at) (c j) v)
  ends_in i zero e f l q b = let same : e ≡ f = cc in (subst (λ (x : Ends). Within x v) (sym same) b, λ j h k. absurd (omega (arith, h, k)))
  ends_in i (suc n) e f l q b =
      let p = parted i n e f q in
      let low : i < count = omega (arith, l) in
      let rest = ends_in (suc i) n p.2.0 f (omega (arith, l)) p.2.2 b in
      let row = row_in t i (settled i low) at p.0 e p.2.0 v p.2.1 rest.0 in
      (row.0, λ j h k. by j h k (cases_eq i j) (allowed_as i p.0 low p.1 row.1) rest.1)
    where
      by : (j : ℕ) → i ≤ j → j < i + suc n → (i ≡ j) ⊎ (i ≢ j) → IsAllowed t i (value at) (c i) v → ((m : ℕ) → suc i ≤ m → m < suc i + n → IsAllowed t m (value at) (c m) v)
          → IsAllowed t j (value at) (c j) v
      by j h k (inl same) here later = subst (λ m. IsAllowed t m (value at) (c m) v) same here
      by j h k (inr other) here later = later j (omega (arith, h, other)) (omega (arith, k))

  ends_out : (i n : ℕ) (e f : Ends) → i + n ≤ count → ends_from t hs at i n e ≡ Ok f → Within e v → ((j : ℕ) → i ≤ j → j < i + n → IsAllowed t j (value at) (c j) v) → Within f v
  ends_out i zero e f l q b h = let same : e ≡ f = cc in subst (λ (x : Ends). Within x v) same b
  ends_out i (suc n) e f l q b h =
      let p = parted i n e f q in
      let low : i < count = omega (arith, l) in
      ends_out (suc i) n p.2.0 f (omega (arith, l)) p.2.2
      (row_out t i (settled i low) at p.0 e p.2.0 v p.2.1 b (subst (λ z. IsAllowed t i (value at) z v) (sym (exact i p.0 low p.1)) (h i (omega arith) (omega (arith, l)))))
      (λ j a k. h j (omega (arith, a)) (omega (arith, k)))

  -- between the ends that all rows give
  pub all_in : (f : Ends) → ends_from t hs at 0 count no_ends ≡ Ok f → Within f v → (j : ℕ) → j < count → IsAllowed t j (value at) (c j) v
  all_in f q b j l = (ends_in 0 count no_ends f (omega arith) q b).1 j (omega arith) (omega (arith, l))

  pub all_out : (f : Ends) → ends_from t hs at 0 count no_ends ≡ Ok f → ((j : ℕ) → j < count → IsAllowed t j (value at) (c j) v) → Within f v
  all_out f q h = ends_out 0 count no_ends f (omega arith) q (within_none v) (λ j a k. h j (omega (arith, k)))
