-- Affine numbers at a setting, term by term, and the coefficient 1.
use Rattle.std.proofs.Common.{◌≡◌, ℕ, ◌+◌, ◌<◌, Bool, true, false, List, Some, Result, length, get_or, drop, unwrap_or, refl, sym, ap, ◌∙◌, pos}
use Rattle.dcx_math.specs.Rational.{whole}
use Rattle.dcx_math.proofs.Orders.{<ℚ-≢}
use Rattle.dcx_math.proofs.Products.{zero-<ℚ-one}
use Rattle.dcx_math.proofs.Ratios.{IsTrue-rat_eq}
use Rattle.dcx_frac.specs.declared.fraction.Frac.{Frac}
use Rattle.dcx_frac.specs.declared.fraction.Passes.{Passes}
use Rattle.dcx_frac.specs.Frac.{value}
use Rattle.dcx_frac.specs.Results.{sum_of, product_of}
use Rattle.dcx_atom.specs.Formed.{zero_frac, and_then}
use Rattle.dcx_point.specs.Pairs.{Pairs}
use Rattle.dcx_linear.specs.declared.param_term.ParamTerm.{ParamTerm}
use Rattle.dcx_linear.specs.Changes.{zero_test}
use Rattle.dcx_linear.specs.Parameters.{entry_of}
use Rattle.dcx_linear.specs.ParamForms.{plus_terms}
use Rattle.dcx_linear.proofs.Formed.{drop_at}

-- goes on with a product: it is added to x, and then the other terms
abbrev pub with_product : Pairs → Frac → List ParamTerm → Frac → Result Frac Passes
with_product setting x ts y = and_then (sum_of x y) (λ z. plus_terms setting z ts)

-- the term at a place is added first, and then those behind it
pub plus_next : (setting : Pairs) (x : Frac) (ts : List ParamTerm) (i : ℕ) (t : ParamTerm) (e : Frac) → i < length ts → t ≡ get_or ts i t → entry_of setting t.name t.entry ≡ Some e
    → plus_terms setting x (drop i ts) ≡ and_then (product_of t.coefficient e) (with_product setting x (drop (i + 1) ts))
plus_next setting x ts i t e lt is has =
    ap (plus_terms setting x) (drop_at ts i t lt is)
    ∙ ap (λ o. and_then (product_of t.coefficient (unwrap_or o zero_frac)) (with_product setting x (drop (i + 1) ts))) has

-- a coefficient other than 0 is kept
pub some_is_kept : (x : Frac) → (value x ≡ whole (pos 0) → ⊥) → zero_test x ≡ false
some_is_kept x h = by (zero_test x) refl
  where
    by : (b : Bool) → zero_test x ≡ b → b ≡ false
    by true is = absurd (h ((IsTrue-rat_eq (value x) (whole (pos 0))).0 is))
    by false is = refl

-- so is a coefficient of 1
pub one_is_kept : (x : Frac) → value x ≡ whole (pos 1) → zero_test x ≡ false
one_is_kept x e = some_is_kept x (λ z. <ℚ-≢ zero-<ℚ-one (sym z ∙ e))
