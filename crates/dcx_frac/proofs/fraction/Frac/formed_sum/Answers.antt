-- Each step forms the number that the definition lists.
use Rattle.std.proofs.Common.{arith, ◌≡◌, ◌<◌, ◌^◌, ◌*◌, ◌/◌, unsigned_abs, to_z, of_z, ℕ, ℤ, pos, ◌*ℤ◌, ◌+ℤ◌, sym, ap, ap₂, ◌∙◌, subst}
use Rattle.std.specs.Prelude.{IsSome, Some, None, Option}
use Rattle.std.specs.Int.{w128}
use lib.Signed.{lt_z}
use Rattle.dcx_math.specs.Divisors.{gcd}
use Rattle.dcx_math.specs.Rational.{◌+ℚ◌}
use Rattle.dcx_frac.specs.declared.fraction.Frac.{Frac}
use Rattle.dcx_frac.specs.Frac.{value}
use Rattle.dcx_frac.specs.Formed.{shared_divisor, left_term, right_term}
use Rattle.dcx_frac.proofs.Bits.{back}
use Rattle.dcx_frac.proofs.Parts.{sizes_fit, exists_exactly, has_value}
use Rattle.dcx_frac.proofs.Sums.{top, out, bottom, left_is, right_is, shared_divisor_pos, out_pos, parts_coprime, bottom_pos, sum_lowest}
use Rattle.dcx_frac.proofs.fraction.Frac.formed_sum.Goals as goal
use Rattle.dcx_frac.proofs.fraction.Frac.formed_sum.Goals.{After-gcd-g, After-gcd-k}
use Rattle.dcx_frac.proofs.Results.{none_some}

x_den : (c : After-gcd-g) → c.unsigned_abs-b.result ≡ unsigned_abs c.args.self.den
x_den c = c.unsigned_abs-b.ensures.value ∙ ap unsigned_abs (back c.args.self.den c.args.self.den_fits)

y_den : (c : After-gcd-g) → c.unsigned_abs-d.result ≡ unsigned_abs c.args.other.den
y_den c = c.unsigned_abs-d.ensures.value ∙ ap unsigned_abs (back c.args.other.den c.args.other.den_fits)

g_is : (c : After-gcd-g) → c.gcd-g.result ≡ shared_divisor c.args.self c.args.other
g_is c = c.gcd-g.ensures ∙ ap₂ gcd (x_den c) (y_den c)

g_pos : (c : After-gcd-g) → 0 < c.gcd-g.result
g_pos c = rw (g_is c) (shared_divisor_pos c.args.self c.args.other)

-- the terms of the code are those of the definition
left_found : (c : After-gcd-g) → to_z w128 (of_z w128 c.args.self.num) *ℤ pos (c.unsigned_abs-d.result / c.gcd-g.result) ≡ left_term c.args.self c.args.other
left_found c = ap₂ (λ z n. z *ℤ pos n) (back c.args.self.num c.args.self.num_fits) (ap₂ ◌/◌ (y_den c) (g_is c)) ∙ left_is c.args.self c.args.other

right_found : (c : After-gcd-g) → to_z w128 (of_z w128 c.args.other.num) *ℤ pos (c.unsigned_abs-b.result / c.gcd-g.result) ≡ right_term c.args.self c.args.other
right_found c = ap₂ (λ z n. z *ℤ pos n) (back c.args.other.num c.args.other.num_fits) (ap₂ ◌/◌ (x_den c) (g_is c)) ∙ right_is c.args.self c.args.other

pub nonzero_div-d : goal.nonzero_div-d
nonzero_div-d c = g_pos c

pub nonzero_div-b : goal.nonzero_div-b
nonzero_div-b c = g_pos (goal.at.nonzero_div-b c).After-gcd-g

pub nonzero_div-b-2 : goal.nonzero_div-b-2
nonzero_div-b-2 c = g_pos (goal.at.nonzero_div-b-2 c).After-gcd-g

-- what the steps before the last division hold
record Found (x y : Frac) (b d g k size : ℕ) (sum : ℤ) : Type 0 where
  left_fits : unsigned_abs (left_term x y) < 2 ^ 127
  right_fits : unsigned_abs (right_term x y) < 2 ^ 127
  sum_fits : unsigned_abs (top x y) < 2 ^ 127
  sum_is : to_z w128 (of_z w128 sum) ≡ top x y
  k_is : k ≡ out x y
  num_is : size / k ≡ unsigned_abs (top x y) / out x y
  den_is : b / g * (d / k) ≡ bottom x y

found : (c : After-gcd-k) → Found c.args.self c.args.other c.unsigned_abs-b.result c.unsigned_abs-d.result c.gcd-g.result c.gcd-k.result c.unsigned_abs-size.result c.in_ok-sum.sum
found c =
    let e = (goal.at.nonzero_div-b-2 c).After-gcd-g in
    let x = c.args.self in
    let y = c.args.other in
    let l = c.in_ok-left.ensures in
    let r = c.in_ok-right.ensures in
    let s = c.in_ok-sum.ensures in
    let li : c.in_ok-left.left ≡ left_term x y = l.1 ∙ left_found e in
    let ri : c.in_ok-right.right ≡ right_term x y = r.1 ∙ right_found e in
    let lf : unsigned_abs c.in_ok-left.left < 2 ^ 127 = rw (l.1) (l.0) in
    let rf : unsigned_abs c.in_ok-right.right < 2 ^ 127 = rw (r.1) (r.0) in
    let si : c.in_ok-sum.sum ≡ top x y = s.1 ∙ ap₂ ◌+ℤ◌ (back c.in_ok-left.left lf ∙ li) (back c.in_ok-right.right rf ∙ ri) in
    let sf : unsigned_abs c.in_ok-sum.sum < 2 ^ 127 = rw (s.1) (s.0) in
    let zi : c.unsigned_abs-size.result ≡ unsigned_abs (top x y) = c.unsigned_abs-size.ensures.value ∙ ap unsigned_abs (back c.in_ok-sum.sum sf ∙ si) in
    let ki : c.gcd-k.result ≡ out x y = c.gcd-k.ensures ∙ ap₂ gcd zi (g_is e) in
    record {
      left_fits = rw li at lf;
      right_fits = rw ri at rf;
      sum_fits = rw si at sf;
      sum_is = back c.in_ok-sum.sum sf ∙ si;
      k_is = ki;
      num_is = ap₂ ◌/◌ zi ki;
      den_is = ap₂ ◌*◌ (ap₂ ◌/◌ (x_den e) (g_is e)) (ap₂ ◌/◌ (y_den e) ki);
    }

pub nonzero_div-d-2 : goal.nonzero_div-d-2
nonzero_div-d-2 c = rw ((found c).k_is) (out_pos c.args.self c.args.other)

pub returns-in_err-den-clause-exists : goal.returns-in_err-den-clause-exists
returns-in_err-den-clause-exists c =
    let f = found (goal.at.returns-in_err-den-clause-exists c).After-gcd-k in
    let x = c.args.self in
    let y = c.args.other in
    let fits = sizes_fit (value x +ℚ value y) (lt_z (top x y) (pos 0)) (unsigned_abs (top x y) / out x y) (bottom x y) (sum_lowest x y) in
    (λ s. absurd (none_some c.from_residual-in_err-den.result c.from_residual-in_err-den.ensures s), λ h. let d = (fits h.parts).1 in absurd (c.in_err-den.ensures (let q = f.den_is in omega arith)))

pub nonzero_div-size : goal.nonzero_div-size
nonzero_div-size c = rw ((found (goal.at.nonzero_div-size c).After-gcd-k).k_is) (out_pos c.args.self c.args.other)

pub from_parts-requires-clause-coprime : goal.from_parts-requires-clause-coprime
from_parts-requires-clause-coprime c =
    let f = found (goal.at.from_parts-requires-clause-coprime c).After-gcd-k in
    rw (f.num_is, c.in_ok-den.ensures.1, f.den_is) (parts_coprime c.args.self c.args.other)

pub from_parts-requires-clause-positive : goal.from_parts-requires-clause-positive
from_parts-requires-clause-positive c =
    let f = found (goal.at.from_parts-requires-clause-positive c).After-gcd-k in
    rw (c.in_ok-den.ensures.1, f.den_is) (bottom_pos c.args.self c.args.other)

pub returns-clause-exists : goal.returns-clause-exists
returns-clause-exists c =
    let f = found (goal.at.returns-clause-exists c).After-gcd-k in
    let x = c.args.self in
    let y = c.args.other in
    let t = rw (f.num_is, c.in_ok-den.ensures.1, f.den_is) at c.from_parts.ensures.exists in
    let q = exists_exactly (value x +ℚ value y) (lt_z (top x y) (pos 0)) (unsigned_abs (top x y) / out x y) (bottom x y) (sum_lowest x y) c.from_parts.result t in
    (λ s. record { left = f.left_fits; right = f.right_fits; sum = f.sum_fits; parts = q.0 s }, λ h. q.1 h.parts)

pub returns-clause-value : goal.returns-clause-value
returns-clause-value c =
    let f = found (goal.at.returns-clause-value c).After-gcd-k in
    let x = c.args.self in
    let y = c.args.other in
    let en = rw (f.sum_is, f.num_is) at c.from_parts.ensures.num in
    let ed = rw (c.in_ok-den.ensures.1, f.den_is) at c.from_parts.ensures.den in
    has_value (value x +ℚ value y) (lt_z (top x y) (pos 0)) (unsigned_abs (top x y) / out x y) (bottom x y) (sum_lowest x y) c.from_parts.result en ed

pub returns-in_err-sum-clause-exists : goal.returns-in_err-sum-clause-exists
returns-in_err-sum-clause-exists c =
    let e = (goal.at.returns-in_err-sum-clause-exists c).After-gcd-g in
    let x = c.args.self in
    let y = c.args.other in
    let l = c.in_ok-left.ensures in
    let r = c.in_ok-right.ensures in
    let lf : unsigned_abs c.in_ok-left.left < 2 ^ 127 = rw (l.1) (l.0) in
    let rf : unsigned_abs c.in_ok-right.right < 2 ^ 127 = rw (r.1) (r.0) in
    let li = back c.in_ok-left.left lf ∙ l.1 ∙ left_found e in
    let ri = back c.in_ok-right.right rf ∙ r.1 ∙ right_found e in (
      λ s. absurd (none_some c.from_residual-in_err-sum.result c.from_residual-in_err-sum.ensures s),
      λ h. absurd
          (c.in_err-sum.ensures (subst (λ z. unsigned_abs z < 2 ^ 127) (sym (ap₂ ◌+ℤ◌ li ri)) h.sum)),
    )

pub returns-in_err-left-clause-exists : goal.returns-in_err-left-clause-exists
returns-in_err-left-clause-exists c =
    let e = (goal.at.returns-in_err-left-clause-exists c).After-gcd-g in
    (λ s. absurd (none_some c.from_residual.result c.from_residual.ensures s), λ h. absurd (c.in_err-left.ensures (subst (λ z. unsigned_abs z < 2 ^ 127) (sym (left_found e)) h.left)))

pub returns-in_err-left-clause-value : goal.returns-in_err-left-clause-value
returns-in_err-left-clause-value c = rw c.from_residual.ensures tt

pub returns-in_err-right-clause-exists : goal.returns-in_err-right-clause-exists
returns-in_err-right-clause-exists c =
    let e = (goal.at.returns-in_err-right-clause-exists c).After-gcd-g in (
      λ s. absurd (none_some c.from_residual-in_err-right.result c.from_residual-in_err-right.ensures s),
      λ h. absurd
          (c.in_err-right.ensures (subst (λ z. unsigned_abs z < 2 ^ 127) (sym (right_found e)) h.right)),
    )

pub returns-in_err-right-clause-value : goal.returns-in_err-right-clause-value
returns-in_err-right-clause-value c = rw c.from_residual-in_err-right.ensures tt

pub returns-in_err-sum-clause-value : goal.returns-in_err-sum-clause-value
returns-in_err-sum-clause-value c = rw c.from_residual-in_err-sum.ensures tt

pub returns-in_err-den-clause-value : goal.returns-in_err-den-clause-value
returns-in_err-den-clause-value c = rw c.from_residual-in_err-den.ensures tt
