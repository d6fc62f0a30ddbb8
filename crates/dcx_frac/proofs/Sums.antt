-- The sum of two fractions over the least common denominator: only a divisor of the denominators' shared part comes out.
use Rattle.std.proofs.Common.{◌≡◌, ℕ, ◌*◌, ◌/◌, ◌<◌, ℤ, pos, negsuc, ◌+ℤ◌, ◌-ℤ◌, ◌*ℤ◌, ◌<ℤ◌, neg_ℤ, unsigned_abs, arith, sym, ap, ap₂, ◌∙◌, subst, mul_comm, mul-pos}
use Rattle.std.specs.Int.{IsGcd}
use Rattle.std.proofs.lemmas.Int.{ints, unsigned_abs-mul}
use mathlib.Core.Logic.{∥∥₁_map, ∥∥₁_elim}
use native.Mathlib.Nat.{div-mul_cancel, dvd-mul_left, dvd-mul_right, dvd-mul_left_of_dvd, ∣_prop, mul-div_assoc}
use Prim.Native.Nat.{◌∣◌}
use lib.Signed.{lt_z}
use Rattle.dcx_math.specs.Integers.{ring, +ℤ_comm, *ℤ-+ℤ_left, *ℤ-neg_ℤ_left, *ℤ_cancel}
use Rattle.dcx_math.specs.Divisors.{gcd, IsCoprime}
use Rattle.dcx_math.specs.Rational.{◌+ℚ◌}
use Rattle.dcx_math.specs.LowestTerms.{IsInLowestTerms}
use Rattle.dcx_math.proofs.Divisors.{gcd_is, gcd_unique, gcd-pos, gcd-dvd_left, gcd-dvd_right, IsCoprime-quotients, dvd_of_coprime, dvd_trans, quotient-pos}
use Rattle.dcx_math.proofs.IntegerLaws.{abs-positive}
use Rattle.dcx_math.proofs.Ratios.{ratio-+ℚ-ratio, ≡-from_products}
use Rattle.dcx_frac.specs.declared.fraction.Frac.{Frac}
use Rattle.dcx_frac.specs.Fits.{signed}
use Rattle.dcx_frac.specs.Frac.{num_of, den_of, value}
use Rattle.dcx_frac.specs.Formed.{shared_divisor, left_term, right_term}
use Rattle.dcx_frac.proofs.Signs.{is_negative, lt_zero, signed-abs, signed-times, unsigned_abs-signed, pos-abs, divided-positive}

-- a divisor of a magnitude, as a factor
factor : (e : ℕ) (z : ℤ) → e ∣ unsigned_abs z → ∥ ((k : ℤ) × (z ≡ k *ℤ pos e)) ∥₁
factor e (pos n) h = ∥∥₁_map h (λ w. (pos w.0, omega (arith, ints, w.1)))
factor e (negsuc n) h = ∥∥₁_map h (λ w. (neg_ℤ (pos w.0), sym (*ℤ-neg_ℤ_left (pos w.0) (pos e) ∙ ap (λ x. neg_ℤ (pos x)) (mul_comm w.0 e ∙ sym w.1))))

dvd_of_factor : (e : ℕ) (z k : ℤ) → z ≡ k *ℤ pos e → e ∣ unsigned_abs z
dvd_of_factor e z k h = subst (λ x. e ∣ x) (sym (ap unsigned_abs h ∙ unsigned_abs-mul k (pos e))) (dvd-mul_left e (unsigned_abs k))

-- a divisor of a sum and of its second part divides the first
dvd_first : (e : ℕ) (x y : ℤ) → e ∣ unsigned_abs (x +ℤ y) → e ∣ unsigned_abs y → e ∣ unsigned_abs x
dvd_first e x y h k =
    ∥∥₁_elim (factor e (x +ℤ y) h) (∣_prop e (unsigned_abs x)) (λ s. ∥∥₁_elim (factor e y k) (∣_prop e (unsigned_abs x)) (λ t.
    let m = *ℤ-+ℤ_left s.0 (neg_ℤ t.0) (pos e) ∙ ap (λ z. s.0 *ℤ pos e +ℤ z) (*ℤ-neg_ℤ_left t.0 (pos e)) in dvd_of_factor e x (s.0 -ℤ t.0) (omega (arith, ints, m, s.1, t.1))))

coprime_part : (a c : ℤ) (b d g : ℕ) → IsGcd b d g → IsCoprime (b / g) (d / g) → IsCoprime (unsigned_abs a) b → IsCoprime (unsigned_abs (a *ℤ pos (d / g) +ℤ c *ℤ pos (b / g))) (b / g)
coprime_part a c b d g h apart ha e es eb =
    let left = a *ℤ pos (d / g) in
    let right = c *ℤ pos (b / g) in
    let er : e ∣ unsigned_abs right = rw (unsigned_abs-mul c (pos (b / g))) (dvd-mul_left_of_dvd e eb (unsigned_abs c)) in
    let el : e ∣ unsigned_abs a * (d / g) = rw (unsigned_abs-mul a (pos (d / g))) at (dvd_first e left right es er) in
    let from_b : (f : ℕ) → f ∣ e → f ∣ b = λ f fe. dvd_trans f fe (dvd_trans e eb (subst (λ x. b / g ∣ x) (div-mul_cancel g h.0) (dvd-mul_right (b / g) g))) in
    let ed : e ∣ d / g = dvd_of_coprime e (unsigned_abs a) (d / g) (λ f fe fa. ha f fa (from_b f fe)) el in
    apart e eb ed

-- cross products, where D / k is the least common denominator p * q * g
cross : (p q g k n d a c : ℤ) → pos 0 <ℤ k → n *ℤ k ≡ a *ℤ q +ℤ c *ℤ p → d *ℤ k ≡ p *ℤ (q *ℤ g)
    → n *ℤ ((p *ℤ g) *ℤ (q *ℤ g)) ≡ (a *ℤ (q *ℤ g) +ℤ c *ℤ (p *ℤ g)) *ℤ d
cross p q g k n d a c some hn hd =
    let l : k *ℤ (n *ℤ ((p *ℤ g) *ℤ (q *ℤ g))) ≡ (n *ℤ k) *ℤ ((p *ℤ g) *ℤ (q *ℤ g)) = simp ring in
    let r : k *ℤ ((a *ℤ (q *ℤ g) +ℤ c *ℤ (p *ℤ g)) *ℤ d) ≡ (a *ℤ (q *ℤ g) +ℤ c *ℤ (p *ℤ g)) *ℤ (d *ℤ k) = simp ring in
    let m : (a *ℤ q +ℤ c *ℤ p) *ℤ ((p *ℤ g) *ℤ (q *ℤ g)) ≡ (a *ℤ (q *ℤ g) +ℤ c *ℤ (p *ℤ g)) *ℤ (p *ℤ (q *ℤ g)) = simp ring in
    *ℤ_cancel k (n *ℤ ((p *ℤ g) *ℤ (q *ℤ g))) ((a *ℤ (q *ℤ g) +ℤ c *ℤ (p *ℤ g)) *ℤ d) some
    (l ∙ ap (λ z. z *ℤ ((p *ℤ g) *ℤ (q *ℤ g))) hn ∙ m ∙ sym (r ∙ ap (λ z. (a *ℤ (q *ℤ g) +ℤ c *ℤ (p *ℤ g)) *ℤ z) hd))

replaced : (n d a c x y x' y' : ℤ) → x ≡ x' → y ≡ y' → n *ℤ (x' *ℤ y') ≡ (a *ℤ y' +ℤ c *ℤ x') *ℤ d → n *ℤ (x *ℤ y) ≡ (a *ℤ y +ℤ c *ℤ x) *ℤ d
replaced n d a c x y x' y' ex ey h = rw (ex, ey) h

-- a / b + c / d, where both are in lowest terms
module _ (a c : ℤ) (b d : ℕ) (ha : IsCoprime (unsigned_abs a) b) (hc : IsCoprime (unsigned_abs c) d) (pb : 0 < b) (pd : 0 < d) where
  -- the shared part of the denominators
  abbrev pub shared : ℕ
  shared = gcd b d

  -- the numerator over the least common denominator
  abbrev pub total : ℤ
  total = a *ℤ pos (d / shared) +ℤ c *ℤ pos (b / shared)

  -- what comes out of the sum
  abbrev pub taken : ℕ
  taken = gcd (unsigned_abs total) shared

  -- the denominator of the sum
  abbrev pub lower : ℕ
  lower = b / shared * (d / taken)

  -- the shared part is positive
  pub shared_pos : 0 < shared
  shared_pos = gcd-pos b d pd

  -- so is what comes out
  pub taken_pos : 0 < taken
  taken_pos = gcd-pos (unsigned_abs total) shared shared_pos

  apart : IsCoprime (b / shared) (d / shared)
  apart = IsCoprime-quotients b d shared_pos

  sum_left : IsCoprime (unsigned_abs total) (b / shared)
  sum_left = coprime_part a c b d shared (gcd_is b d) apart ha

  sum_right : IsCoprime (unsigned_abs total) (d / shared)
  sum_right =
      let h = gcd_is b d in
      let flip : IsGcd d b shared = (h.1, h.0, λ x xd xb. h.2 x xb xd) in
      rw (+ℤ_comm (a *ℤ pos (d / shared)) (c *ℤ pos (b / shared))) (coprime_part c a d b shared flip (λ e ed eb. apart e eb ed) hc)

  taken_divides : taken ∣ d
  taken_divides = dvd_trans taken (gcd-dvd_right (unsigned_abs total) shared) (gcd-dvd_right b d)

  -- the greatest common divisor with the least common denominator is that with the shared part
  gcd-total : gcd (unsigned_abs total) (b / shared * d) ≡ taken
  gcd-total = sym (gcd_unique (unsigned_abs total) (b / shared * d) taken (
    gcd-dvd_left (unsigned_abs total) shared,
    dvd-mul_left_of_dvd taken taken_divides (b / shared),
    λ e es ed.
        let below : (x : ℕ) → IsCoprime (unsigned_abs total) x → IsCoprime e x = λ x cx f fe fx. cx f (dvd_trans f fe es) fx in
        let e₁ : e ∣ d = dvd_of_coprime e (b / shared) d (below (b / shared) sum_left) ed in
        let e₂ : e ∣ shared = dvd_of_coprime e (d / shared) shared (below (d / shared) sum_right) (subst (λ x. e ∣ x) (sym (div-mul_cancel shared (gcd-dvd_right b d))) e₁) in
        (gcd_is (unsigned_abs total) shared).2 e es e₂,
  ))

  lower_is : b / shared * d / taken ≡ lower
  lower_is = mul-div_assoc taken (b / shared) taken_divides

  whole_lower_pos : 0 < b / shared * d
  whole_lower_pos = mul-pos (quotient-pos b shared pb (gcd-dvd_left b d)) pd

  -- the parts are coprime
  pub sum_coprime : IsCoprime (unsigned_abs total / taken) lower
  sum_coprime = rw (gcd-total, lower_is) at (IsCoprime-quotients (unsigned_abs total) (b / shared * d) (gcd-pos (unsigned_abs total) (b / shared * d) whole_lower_pos))

  -- the denominator is positive
  pub lower_pos : 0 < lower
  lower_pos = rw lower_is at (quotient-pos (b / shared * d) taken whole_lower_pos (dvd-mul_left_of_dvd taken taken_divides (b / shared)))

  -- the cross products with a / b + c / d
  pub sum_cross : signed (lt_z total (pos 0)) (unsigned_abs total / taken) *ℤ (pos b *ℤ pos d) ≡ (a *ℤ pos d +ℤ c *ℤ pos b) *ℤ pos lower
  sum_cross =
      let k = taken in
      let g = shared in
      let p = b / g in
      let q = d / g in
      let n = signed (lt_z total (pos 0)) (unsigned_abs total / k) in
      let hn : n *ℤ pos k ≡ a *ℤ pos q +ℤ c *ℤ pos p =
      ap (λ s. signed s (unsigned_abs total / k) *ℤ pos k) (lt_zero total) ∙ signed-times (is_negative total) (unsigned_abs total / k) k
      ∙ ap (signed (is_negative total)) (div-mul_cancel k (gcd-dvd_left (unsigned_abs total) g)) ∙ signed-abs total in
      let yd : q * g ≡ d = div-mul_cancel g (gcd-dvd_right b d) in
      let xd : p * g ≡ b = div-mul_cancel g (gcd-dvd_left b d) in
      let dk : d / k * k ≡ d = div-mul_cancel k taken_divides in
      let hd : pos lower *ℤ pos k ≡ pos (p * (q * g)) = ap pos (rw yd (omega (arith, ap (λ z. p * z) dk))) in
      let t = taken_pos in
      let some : pos 0 <ℤ pos k = omega (arith, ints) in
      replaced n (pos lower) a c (pos b) (pos d) (pos (p * g)) (pos (q * g)) (ap pos (sym xd)) (ap pos (sym yd)) (cross (pos p) (pos q) (pos g) (pos k) n (pos lower) a c some hn hd)

-- the same of two fractions
module _ (x y : Frac) where
  -- the numerator over the least common denominator
  abbrev pub top : ℤ
  top = left_term x y +ℤ right_term x y

  -- what comes out of it
  abbrev pub out : ℕ
  out = gcd (unsigned_abs top) (shared_divisor x y)

  -- the denominator of the sum
  abbrev pub bottom : ℕ
  bottom = unsigned_abs (den_of x) / shared_divisor x y * (unsigned_abs (den_of y) / out)

  -- the code's left and right terms
  pub left_is : num_of x *ℤ pos (unsigned_abs (den_of y) / shared_divisor x y) ≡ left_term x y
  left_is = ap (λ z. num_of x *ℤ z) (sym (divided-positive (shared_divisor x y) (den_of y) y.positive))

  pub right_is : num_of y *ℤ pos (unsigned_abs (den_of x) / shared_divisor x y) ≡ right_term x y
  right_is = ap (λ z. num_of y *ℤ z) (sym (divided-positive (shared_divisor x y) (den_of x) x.positive))

  -- the shared part is positive
  pub shared_divisor_pos : 0 < shared_divisor x y
  shared_divisor_pos = gcd-pos (unsigned_abs (den_of x)) (unsigned_abs (den_of y)) (abs-positive (den_of y) y.positive)

  -- so is what comes out
  pub out_pos : 0 < out
  out_pos = gcd-pos (unsigned_abs top) (shared_divisor x y) shared_divisor_pos

  top_is : total (num_of x) (num_of y) (unsigned_abs (den_of x)) (unsigned_abs (den_of y)) x.lowest y.lowest (abs-positive (den_of x) x.positive) (abs-positive (den_of y) y.positive) ≡ top
  top_is = ap₂ ◌+ℤ◌ left_is right_is

  -- the parts are coprime
  pub parts_coprime : IsCoprime (unsigned_abs top / out) bottom
  parts_coprime = rw top_is at (sum_coprime (num_of x) (num_of y) (unsigned_abs (den_of x)) (unsigned_abs (den_of y)) x.lowest y.lowest
      (abs-positive (den_of x) x.positive) (abs-positive (den_of y) y.positive))

  -- the denominator is positive
  pub bottom_pos : 0 < bottom
  bottom_pos = rw top_is at (lower_pos (num_of x) (num_of y) (unsigned_abs (den_of x)) (unsigned_abs (den_of y)) x.lowest y.lowest
      (abs-positive (den_of x) x.positive) (abs-positive (den_of y) y.positive))

  -- the sum in lowest terms
  pub sum_lowest : IsInLowestTerms (value x +ℚ value y) (signed (lt_z top (pos 0)) (unsigned_abs top / out)) (pos bottom)
  sum_lowest =
      let some = bottom_pos in
      let positive : pos 0 <ℤ pos bottom = omega (arith, ints) in
      let n = signed (lt_z top (pos 0)) (unsigned_abs top / out) in
      let c : n *ℤ (pos (unsigned_abs (den_of x)) *ℤ pos (unsigned_abs (den_of y))) ≡ (num_of x *ℤ pos (unsigned_abs (den_of y)) +ℤ num_of y *ℤ pos (unsigned_abs (den_of x))) *ℤ pos bottom =
      rw top_is at (sum_cross (num_of x) (num_of y) (unsigned_abs (den_of x)) (unsigned_abs (den_of y)) x.lowest y.lowest (abs-positive (den_of x) x.positive) (abs-positive (den_of y) y.positive)) in
      let c' : n *ℤ (den_of x *ℤ den_of y) ≡ (num_of x *ℤ den_of y +ℤ num_of y *ℤ den_of x) *ℤ pos bottom =
      replaced n (pos bottom) (num_of x) (num_of y) (den_of x) (den_of y) (pos (unsigned_abs (den_of x))) (pos (unsigned_abs (den_of y))) (sym (pos-abs (den_of x) x.positive))
      (sym (pos-abs (den_of y) y.positive)) c in
      record {
        positive = positive;
        coprime = subst (λ m. IsCoprime m bottom) (sym (unsigned_abs-signed (lt_z top (pos 0)) (unsigned_abs top / out))) parts_coprime;
        is = ratio-+ℚ-ratio (num_of x) (den_of x) (num_of y) (den_of y) x.positive y.positive
            ∙ sym (≡-from_products n (pos bottom) (num_of x *ℤ den_of y +ℤ num_of y *ℤ den_of x) (den_of x *ℤ den_of y) positive _ c');
      }
