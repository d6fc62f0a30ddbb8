-- Counting coefficients with numbers, entry by entry, and a quotient by 0.
use Rattle.std.proofs.Common.{◌≡◌, ℕ, zero, suc, ◌+◌, ◌-◌, ◌≤◌, arith, [], ◌∷◌, refl, sym, ap, ◌∙◌, subst, Result, Ok, Err, pos}
use Rattle.dcx_math.specs.Rational.{ℚ, whole, inverse, ◌*ℚ◌, ◌/ℚ◌}
use Rattle.dcx_math.proofs.Ring.{/ℚ-is}
use Rattle.dcx_math.proofs.Orders.{*ℚ-zero, inverse-zero}
use Rattle.dcx_frac.specs.declared.fraction.Frac.{Frac}
use Rattle.dcx_frac.specs.declared.fraction.Passes.{Passes}
use Rattle.dcx_frac.specs.Fits.{IsRepresentable}
use Rattle.dcx_frac.specs.Frac.{value}
use Rattle.dcx_frac.specs.Results.{quotient_of}
use Rattle.dcx_frac.proofs.Parts.{value_representable}
use Rattle.dcx_frac.proofs.Results.{is_quotient_of}
use Rattle.dcx_atom.specs.Arrays.{list_below}
use Rattle.dcx_atom.specs.Formed.{and_then}
use Rattle.dcx_atom.specs.Entrywise.{added_product, products_from}
use Rattle.dcx_atom.proofs.Entrywise.{products_from-append, products_from-stopped}

-- a number divided by 0 counts as 0
over_zero : (x y : ℚ) → y ≡ whole (pos 0) → x /ℚ y ≡ whole (pos 0)
over_zero x y e = /ℚ-is x y ∙ ap (λ z. x *ℚ inverse z) e ∙ ap (λ z. x *ℚ z) inverse-zero ∙ *ℚ-zero x

pub zero_quotient : (x y z : Frac) → value y ≡ whole (pos 0) → value z ≡ whole (pos 0) → Ok z ≡ quotient_of x y
zero_quotient x y z e h =
    let is : value z ≡ value x /ℚ value y = h ∙ sym (over_zero (value x) (value y) e) in
    is_quotient_of x y (Ok z) (record { exact = is; fits = ((λ _. subst IsRepresentable is (value_representable z)), (λ _. refl)); told = tt })

pub next : (n : ℕ) → n + 1 ≡ suc n
next n = omega arith

-- one more entry
pub counted-next : (s t : Frac) (f : ℕ → Frac × Frac) (n : ℕ) → products_from s (list_below n f) ≡ Ok t → products_from s (list_below (n + 1) f) ≡ added_product t (f n)
counted-next s t f n e = ap (λ m. products_from s (list_below m f)) (next n) ∙ products_from-append s (list_below n f) (f n) ∙ ap (λ r. and_then r (λ u. added_product u (f n))) e

counted-later : (s : Frac) (f : ℕ → Frac × Frac) (m k : ℕ) (p : Passes) → products_from s (list_below m f) ≡ Err p → products_from s (list_below (k + m) f) ≡ Err p
counted-later s f m zero p e = let same : 0 + m ≡ m = omega arith in rw same e
counted-later s f m (suc k) p e =
    let same : suc k + m ≡ suc (k + m) = omega arith in
    rw same (products_from-stopped s (list_below (k + m) f) (f (k + m) ∷ []) p (counted-later s f m k p e))

-- what has stopped stays stopped
pub counted-within : (s : Frac) (f : ℕ → Frac × Frac) (m n : ℕ) (p : Passes) → m ≤ n → products_from s (list_below m f) ≡ Err p → products_from s (list_below n f) ≡ Err p
counted-within s f m n p b e = let same : (n - m) + m ≡ n = omega (arith, b) in ap (λ k. products_from s (list_below k f)) (sym same) ∙ counted-later s f m (n - m) p e

-- one more entry, where its two operations are told
pub product_next : (s t c x : Frac) (f : ℕ → Frac × Frac) (n : ℕ) (product : Result Frac Passes) → ◌≡◌ {A = Frac × Frac} (f n) (c, x) → product ≡ added_product t (c, x)
    → products_from s (list_below n f) ≡ Ok t
    → products_from s (list_below (n + 1) f) ≡ product
product_next s t c x f n product is made e = counted-next s t f n e ∙ ap (added_product t) is ∙ sym made

pub pair_is : (a c x y : Frac) → c ≡ a → y ≡ x → ◌≡◌ {A = Frac × Frac} (a, x) (c, y)
pair_is a c x y e h = λ k. (sym e k, sym h k)
