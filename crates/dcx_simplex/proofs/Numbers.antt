-- Facts on integers: the objective after a pivot, quotients in order, and the terms of a ray.
use Rattle.std.proofs.Common.{◌≡◌, ℤ, pos, ◌-ℤ◌, ◌*ℤ◌, neg_ℤ, ◌<ℤ◌, ◌≤ℤ◌, arith, refl, ap, ◌∙◌}
use Rattle.std.proofs.lemmas.Int.{ints, by_lt_z}
use Rattle.dcx_math.specs.Integers.{ring, *ℤ-≤ℤ, *ℤ-≤ℤ_cancel, *ℤ-nonnegative, *ℤ-positive, *ℤ_cancel, *ℤ_comm}
use Rattle.dcx_tab.proofs.Pivots.{times_zero}

-- the objective's value after a pivot
pub value_le : (k u v nr nz er ez fr : ℤ) → pos 0 <ℤ k → pos 0 <ℤ v → pos 0 <ℤ ez → pos 0 ≤ℤ fr → k *ℤ nr ≡ u *ℤ er -ℤ v *ℤ fr → k *ℤ nz ≡ u *ℤ ez → (nr *ℤ ez) ≤ℤ (er *ℤ nz)
value_le k u v nr nz er ez fr hk hv hz hf e1 e2 =
    let h = ap (λ x. x *ℤ ez) e1 in
    let g = ap (λ x. er *ℤ x) e2 in
    let p = *ℤ-nonnegative v (fr *ℤ ez) (omega (arith, ints)) (*ℤ-nonnegative fr ez hf (omega (arith, ints))) in
    let q : (k *ℤ (nr *ℤ ez)) ≤ℤ (k *ℤ (er *ℤ nz)) = simp ring (omega (arith, ints, simp ring at h, simp ring at g, p, simp ring at p)) in
    *ℤ-≤ℤ_cancel k (nr *ℤ ez) (er *ℤ nz) hk q

pub value_lt : (k u v nr nz er ez fr : ℤ) → pos 0 <ℤ k → pos 0 <ℤ v → pos 0 <ℤ ez → pos 0 <ℤ fr → k *ℤ nr ≡ u *ℤ er -ℤ v *ℤ fr → k *ℤ nz ≡ u *ℤ ez → (nr *ℤ ez) <ℤ (er *ℤ nz)
value_lt k u v nr nz er ez fr hk hv hz hf e1 e2 =
    let h = ap (λ x. x *ℤ ez) e1 in
    let g = ap (λ x. er *ℤ x) e2 in
    let p = *ℤ-positive v (fr *ℤ ez) hv (*ℤ-positive fr ez hf hz) in
    by_lt_z (nr *ℤ ez) (er *ℤ nz) (λ l. l)
    (λ l. let q = *ℤ-≤ℤ k (er *ℤ nz) (nr *ℤ ez) (omega (arith, ints)) l in absurd (omega (arith, ints, simp ring at q, q, simp ring at h, simp ring at g, p, simp ring at p)))

pub value_same : (k u v nr nz er ez fr : ℤ) → pos 0 <ℤ k → k *ℤ nr ≡ u *ℤ er -ℤ v *ℤ fr → k *ℤ nz ≡ u *ℤ ez → fr ≡ pos 0 → nr *ℤ ez ≡ er *ℤ nz
value_same k u v nr nz er ez fr hk e1 e2 z =
    let e3 : k *ℤ nr ≡ u *ℤ er = e1 ∙ rw z (omega (arith, ints)) in
    let h = ap (λ x. x *ℤ ez) e3 in
    let g = ap (λ x. er *ℤ x) e2 in
    *ℤ_cancel k (nr *ℤ ez) (er *ℤ nz) hk (simp ring (omega (arith, ints, simp ring at h, h, simp ring at g, g)))

-- a / b ≤ c / d ≤ e / f
pub cross_trans : (a b c d e f : ℤ) → pos 0 <ℤ b → pos 0 <ℤ d → pos 0 <ℤ f → (a *ℤ d) ≤ℤ (c *ℤ b) → (c *ℤ f) ≤ℤ (e *ℤ d) → (a *ℤ f) ≤ℤ (e *ℤ b)
cross_trans a b c d e f hb hd hf p q =
    let h = *ℤ-≤ℤ f (a *ℤ d) (c *ℤ b) (omega (arith, ints)) p in
    let g = *ℤ-≤ℤ b (c *ℤ f) (e *ℤ d) (omega (arith, ints)) q in
    let w : (d *ℤ (a *ℤ f)) ≤ℤ (d *ℤ (e *ℤ b)) = simp ring (omega (arith, ints, simp ring at h, h, simp ring at g, g)) in
    *ℤ-≤ℤ_cancel d (a *ℤ f) (e *ℤ b) hd w

-- a / b ≤ c / d < e / f isn't e / f ≤ a / b
pub cross_lt : (a b c d e f : ℤ) → pos 0 <ℤ b → pos 0 <ℤ d → pos 0 <ℤ f → (a *ℤ d) ≤ℤ (c *ℤ b) → (c *ℤ f) <ℤ (e *ℤ d) → (e *ℤ b) ≤ℤ (a *ℤ f) → ⊥
cross_lt a b c d e f hb hd hf p q r =
    let w = cross_trans e f a b c d hf hb hd r p in absurd (omega (arith, ints, w, q))

pub zero_times : (s z : ℤ) → s ≡ pos 0 → s *ℤ z ≡ pos 0
zero_times s z e = rw e (omega (arith, ints))

-- ---- the terms of the ray
pub term_zero : (w o c : ℤ) → c ≡ pos 0 → (neg_ℤ (w *ℤ o) *ℤ c) ≤ℤ pos 0
term_zero w o c e = let h = times_zero (neg_ℤ (w *ℤ o)) c e in omega (arith, ints, h)

pub term_low : (w a o c : ℤ) → w ≡ pos 1 *ℤ a → a ≤ℤ pos 0 → pos 0 <ℤ o → c ≤ℤ pos 0 → (neg_ℤ (w *ℤ o) *ℤ c) ≤ℤ pos 0
term_low w a o c e ha ho hc =
    let f : w ≤ℤ pos 0 = omega (arith, ints, e) in
    let m = *ℤ-≤ℤ o w (pos 0) (omega (arith, ints)) f in
    let g : pos 0 ≤ℤ neg_ℤ (w *ℤ o) = omega (arith, ints, m, *ℤ_comm o w) in
    let n = *ℤ-≤ℤ (neg_ℤ (w *ℤ o)) c (pos 0) g hc in
    omega (arith, ints, n, times_zero (neg_ℤ (w *ℤ o)) (pos 0) refl)

pub term_negative : (w a o c : ℤ) → w ≡ pos 1 *ℤ a → pos 0 <ℤ a → pos 0 <ℤ o → pos 0 <ℤ c → (neg_ℤ (w *ℤ o) *ℤ c) <ℤ pos 0
term_negative w a o c e ha ho hc =
    let f : pos 0 <ℤ w = omega (arith, ints, e) in
    let m = *ℤ-positive (w *ℤ o) c (*ℤ-positive w o f ho) hc in
    let n : neg_ℤ (w *ℤ o) *ℤ c ≡ neg_ℤ ((w *ℤ o) *ℤ c) = simp ring in
    omega (arith, ints, m, n)
