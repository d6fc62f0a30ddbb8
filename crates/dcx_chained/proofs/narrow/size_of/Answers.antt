-- The walk comes to the next number.
use Rattle.std.proofs.Common.{rules, arith, ◌≡◌, ◌+◌, length, unsigned_abs, ap, ◌∙◌, subst, to_z-of_z, SFits}
use Rattle.std.specs.Int.{w128}
use Rattle.dcx_tab.specs.Rows.{Row}
use Rattle.dcx_links.specs.Matrix.{row_of}
use Rattle.dcx_links.specs.Walks.{Walk, ComesNext, IsOver}
use Rattle.dcx_chained.proofs.Sizes.{within_step, within_over}
use Rattle.dcx_chained.proofs.narrow.size_of.Goals as goal

pub numbers-init : goal.numbers-init
numbers-init c =
    let e = c.row-walk.ensures in
    let f : c.row-walk.result.from ≡ 0 = ap (λ (w : Walk). w.from) e in
    record { numbers = ap (λ (w : Walk). w.numbers) e; within = λ j lt. absurd (omega (arith, lt, f)) }

pub numbers-smaller : goal.numbers-smaller
numbers-smaller c =
    let s = c.in-Some.ensures.steps in
    let a = s.0.beyond in
    let b = s.0.within in
    let l = ap (λ (w : Walk). length w.numbers) s.1 in
    let f = ap (λ (w : Walk). w.from) s.1 in
    omega (arith, a, b, l, f)

pub numbers-preserved : goal.numbers-preserved
numbers-preserved c =
    let row = row_of c.args.links.now c.args.i in
    let v = c.numbers.invariant in
    let s = c.in-Some.ensures.steps in
    let x = c.in-Some.number in
    let fx : SFits w128 x.value = search rules in
    let a : c.unsigned_abs.result ≡ unsigned_abs x.value = simp to_z-of_z at c.unsigned_abs.ensures.value in
    let next = subst (λ (ns : Row). ComesNext (record { numbers = ns; from = c.numbers.walk.from }) x) v.numbers s.0 in
    let f : c.next.new.self.from ≡ x.at + 1 = ap (λ (w : Walk). w.from) s.1 in
    let g = c.greater-size.ensures.first in
    let h = c.greater-size.ensures.second in
    record {
      numbers = ap (λ (y : Walk). y.numbers) s.1 ∙ v.numbers;
      within = λ j lt. within_step row c.numbers.walk.from x c.numbers.size c.greater-size.result next v.within g (omega (arith, a, h)) j (omega (arith, lt, f));
    }

pub returns : goal.returns
returns c =
    let v = c.numbers.invariant in
    within_over (row_of c.args.links.now c.args.i) c.numbers.walk.from c.numbers.size (subst (λ (ns : Row). IsOver (record { numbers = ns; from = c.numbers.walk.from })) v.numbers
    c.in_default.ensures.steps.0) v.within
