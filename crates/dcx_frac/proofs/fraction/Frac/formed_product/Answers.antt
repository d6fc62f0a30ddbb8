-- The common divisors across are taken out, and the products are the parts.
use Rattle.std.proofs.Common.{arith, ◌≡◌, ◌<◌, ◌*◌, ◌/◌, unsigned_abs, ℕ, ap, ap₂, ◌∙◌, IsSome, Some, None, Option}
use Rattle.dcx_math.specs.Divisors.{gcd}
use Rattle.dcx_math.specs.Rational.{◌*ℚ◌}
use Rattle.dcx_frac.specs.declared.fraction.Frac.{Frac}
use Rattle.dcx_frac.specs.Frac.{value}
use Rattle.dcx_frac.proofs.Bits.{back}
use Rattle.dcx_frac.proofs.Parts.{sizes_fit, exists_exactly, has_value}
use Rattle.dcx_frac.proofs.Products.{sign, upper, lower, left_pos, right_pos, parts_coprime, lower_pos, product_lowest}
use Rattle.dcx_frac.proofs.fraction.Frac.formed_product.Goals as goal
use Rattle.dcx_frac.proofs.fraction.Frac.formed_product.Goals.{After-gcd-k}
use Rattle.dcx_frac.proofs.Results.{none_some}

record Found (x y : Frac) (a b c d g k : ℕ) : Type 0 where
  g_pos : 0 < g
  k_pos : 0 < k
  num_is : a / g * (c / k) ≡ upper x y
  den_is : b / k * (d / g) ≡ lower x y

found : (c : After-gcd-k) → Found c.args.self c.args.other c.unsigned_abs-a.result c.unsigned_abs-b.result c.unsigned_abs-c.result c.unsigned_abs-d.result c.gcd-g.result c.gcd-k.result
found c =
    let x = c.args.self in
    let y = c.args.other in
    let a = c.unsigned_abs-a.ensures.value ∙ ap unsigned_abs (back x.num x.num_fits) in
    let b = c.unsigned_abs-b.ensures.value ∙ ap unsigned_abs (back x.den x.den_fits) in
    let d = c.unsigned_abs-d.ensures.value ∙ ap unsigned_abs (back y.den y.den_fits) in
    let e = c.unsigned_abs-c.ensures.value ∙ ap unsigned_abs (back y.num y.num_fits) in
    let g = c.gcd-g.ensures ∙ ap₂ gcd a d in
    let k = c.gcd-k.ensures ∙ ap₂ gcd e b in
    record {
      g_pos = rw g (left_pos x y);
      k_pos = rw k (right_pos x y);
      num_is = ap₂ ◌*◌ (ap₂ ◌/◌ a g) (ap₂ ◌/◌ e k);
      den_is = ap₂ ◌*◌ (ap₂ ◌/◌ b k) (ap₂ ◌/◌ d g);
    }

pub nonzero_div-a : goal.nonzero_div-a
nonzero_div-a c = (found c).g_pos

pub nonzero_div-c : goal.nonzero_div-c
nonzero_div-c c = (found c).k_pos

pub returns-in_err-num-clause-exists : goal.returns-in_err-num-clause-exists
returns-in_err-num-clause-exists c =
    let f = found (goal.at.returns-in_err-num-clause-exists c).After-gcd-k in
    let x = c.args.self in
    let y = c.args.other in (
      λ s. absurd (none_some c.from_residual.result c.from_residual.ensures s),
      λ h.
          let d = (sizes_fit (value x *ℚ value y) (sign x y) (upper x y) (lower x y) (product_lowest x y) h).0 in absurd (c.in_err-num.ensures (let q = f.num_is in omega arith)),
    )

pub nonzero_div-b : goal.nonzero_div-b
nonzero_div-b c = (found (goal.at.nonzero_div-b c).After-gcd-k).k_pos

pub nonzero_div-d : goal.nonzero_div-d
nonzero_div-d c = (found (goal.at.nonzero_div-d c).After-gcd-k).g_pos

pub returns-in_err-den-clause-exists : goal.returns-in_err-den-clause-exists
returns-in_err-den-clause-exists c =
    let f = found (goal.at.returns-in_err-den-clause-exists c).After-gcd-k in
    let x = c.args.self in
    let y = c.args.other in (
      λ s. absurd (none_some c.from_residual-in_err-den.result c.from_residual-in_err-den.ensures s),
      λ h.
          let d = (sizes_fit (value x *ℚ value y) (sign x y) (upper x y) (lower x y) (product_lowest x y) h).1 in absurd (c.in_err-den.ensures (let q = f.den_is in omega arith)),
    )

pub from_parts-requires-clause-coprime : goal.from_parts-requires-clause-coprime
from_parts-requires-clause-coprime c =
    let f = found (goal.at.from_parts-requires-clause-coprime c).After-gcd-k in
    rw (c.in_ok-num.ensures.1, f.num_is, c.in_ok-den.ensures.1, f.den_is) (parts_coprime c.args.self c.args.other)

pub from_parts-requires-clause-positive : goal.from_parts-requires-clause-positive
from_parts-requires-clause-positive c =
    let f = found (goal.at.from_parts-requires-clause-positive c).After-gcd-k in
    rw (c.in_ok-den.ensures.1, f.den_is) (lower_pos c.args.self c.args.other)

pub returns-clause-exists : goal.returns-clause-exists
returns-clause-exists c =
    let f = found (goal.at.returns-clause-exists c).After-gcd-k in
    let x = c.args.self in
    let y = c.args.other in
    let t = rw (c.in_ok-num.ensures.1, f.num_is, c.in_ok-den.ensures.1, f.den_is) at c.from_parts.ensures.exists in
    exists_exactly (value x *ℚ value y) (sign x y) (upper x y) (lower x y) (product_lowest x y) c.from_parts.result t

pub returns-clause-value : goal.returns-clause-value
returns-clause-value c =
    let f = found (goal.at.returns-clause-value c).After-gcd-k in
    let x = c.args.self in
    let y = c.args.other in
    let en = rw (c.in_ok-num.ensures.1, f.num_is, back x.num x.num_fits, back y.num y.num_fits) at c.from_parts.ensures.num in
    let ed = rw (c.in_ok-den.ensures.1, f.den_is) at c.from_parts.ensures.den in
    has_value (value x *ℚ value y) (sign x y) (upper x y) (lower x y) (product_lowest x y) c.from_parts.result en ed
