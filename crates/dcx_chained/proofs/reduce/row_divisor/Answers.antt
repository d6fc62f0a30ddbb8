-- The divisor of one more number, and where it is 1.
use Rattle.std.proofs.Common.{rules, arith, ◌≡◌, ◌+◌, length, unsigned_abs, sym, ap, ◌∙◌, subst, to_z-of_z, SFits}
use Rattle.std.specs.Int.{w128}
use Rattle.dcx_math.specs.Divisors.{gcd}
use Rattle.dcx_tab.specs.Rows.{Row}
use Rattle.dcx_links.specs.Matrix.{row_of}
use Rattle.dcx_links.specs.Walks.{Walk, ComesNext, IsOver}
use Rattle.dcx_chained.proofs.Divisors.{DividesBefore, divides_first, divides_next, divides_over, divides_one}
use Rattle.dcx_chained.proofs.reduce.row_divisor.Goals as goal

pub numbers-init : goal.numbers-init
numbers-init c =
    let e = c.row-walk.ensures in
    record {
      numbers = ap (λ (w : Walk). w.numbers) e;
      found = subst (λ n. DividesBefore (row_of c.args.links.now c.args.i) n 0) (sym (ap (λ (w : Walk). w.from) e)) (divides_first (row_of c.args.links.now c.args.i));
    }

pub numbers-smaller : goal.numbers-smaller
numbers-smaller c =
    let s = c.in-Some.ensures.steps in
    let a = s.0.beyond in
    let b = s.0.within in
    let l = ap (λ (w : Walk). length w.numbers) s.1 in
    let f = ap (λ (w : Walk). w.from) s.1 in
    omega (arith, a, b, l, f)

pub returns-then-found-eq1 : goal.returns-then-found-eq1
returns-then-found-eq1 c =
    let row = row_of c.args.links.now c.args.i in
    let v = c.numbers.invariant in
    let x = c.in-Some.number in
    let fx : SFits w128 x.value = search rules in
    let a : c.unsigned_abs.result ≡ unsigned_abs x.value = simp to_z-of_z at c.unsigned_abs.ensures.value in
    let next = subst (λ (ns : Row). ComesNext (record { numbers = ns; from = c.numbers.walk.from }) x) v.numbers c.in-Some.ensures.steps.0 in
    let g : c.shared_with-found.result ≡ gcd (unsigned_abs x.value) c.numbers.found = c.shared_with-found.ensures ∙ ap (λ n. gcd n c.numbers.found) a in
    divides_one row (x.at + 1) c.shared_with-found.result (subst (DividesBefore row (x.at + 1)) (sym g) (divides_next row c.numbers.walk.from c.numbers.found v.found x next)) c.if-found-eq1.true

pub numbers-preserved : goal.numbers-preserved
numbers-preserved c =
    let row = row_of c.args.links.now c.args.i in
    let v = c.numbers.invariant in
    let s = c.in-Some.ensures.steps in
    let x = c.in-Some.number in
    let fx : SFits w128 x.value = search rules in
    let a : c.unsigned_abs.result ≡ unsigned_abs x.value = simp to_z-of_z at c.unsigned_abs.ensures.value in
    let next = subst (λ (ns : Row). ComesNext (record { numbers = ns; from = c.numbers.walk.from }) x) v.numbers s.0 in
    let g : c.shared_with-found.result ≡ gcd (unsigned_abs x.value) c.numbers.found = c.shared_with-found.ensures ∙ ap (λ n. gcd n c.numbers.found) a in
    let f : c.next.new.self.from ≡ x.at + 1 = ap (λ (w : Walk). w.from) s.1 in
    record {
      numbers = ap (λ (y : Walk). y.numbers) s.1 ∙ v.numbers;
      found = subst (λ n. DividesBefore row n c.shared_with-found.result) (sym f) (subst (DividesBefore row (x.at + 1)) (sym g) (divides_next row c.numbers.walk.from c.numbers.found v.found x next));
    }

pub returns : goal.returns
returns c =
    let v = c.numbers.invariant in
    divides_over (row_of c.args.links.now c.args.i) c.numbers.walk.from c.numbers.found v.found (subst (λ (ns : Row). IsOver (record { numbers = ns; from = c.numbers.walk.from }))
    v.numbers c.in_default.ensures.steps.0)
