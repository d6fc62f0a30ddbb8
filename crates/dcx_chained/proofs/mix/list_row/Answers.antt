-- The walk comes to the next number.
use Rattle.std.proofs.Common.{rules, arith, ◌≡◌, ◌+◌, ◌<◌, length, set, refl, sym, ap, ◌∙◌, subst, Fits}
use Rattle.std.specs.Int.{w32}
use Rattle.dcx_links.specs.Matrix.{row_of}
use Rattle.dcx_links.specs.Walks.{Walk, ComesNext, IsOver}
use Rattle.dcx_tab.specs.Rows.{Row}
use Rattle.dcx_chained.specs.NewRow.{AreListed}
use Rattle.dcx_chained.proofs.RowReads.{length-row_of}
use Rattle.dcx_chained.proofs.Listings.{listed_start, listed_step, listed_over}
use Rattle.dcx_chained.proofs.mix.list_row.Goals as goal

pub numbers-init : goal.numbers-init
numbers-init c =
    let e = c.row-walk.ensures in
    let f : c.row-walk.result.from ≡ 0 = ap (λ (w : Walk). w.from) e in
    let m = c.args.links.now in
    record {
      numbers = ap (λ (w : Walk). w.numbers) e;
      few = omega arith;
      below = omega (arith, f);
      listed = subst (λ n. AreListed (row_of m c.args.r) n c.args.to.now 0) (sym f) (listed_start (row_of m c.args.r) c.args.to.now);
    }

pub bounds-to-count : goal.bounds-to-count
bounds-to-count c =
    let m = c.args.links.now in
    let next = subst (λ (ns : Row). ComesNext (record { numbers = ns; from = c.numbers.walk.from }) c.in-Some.entry) c.numbers.invariant.numbers c.in-Some.ensures.steps.0 in
    let l = length-row_of m c.args.r in
    let w = next.within in
    let b = next.beyond in
    let few = c.numbers.invariant.few in
    let room = c.requires.room in
    let t = c.numbers.auto.to in
    omega (arith, l, w, b, few, room, t)

pub overflow_add-count : goal.overflow_add-count
overflow_add-count c =
    let b = c.in-Some.ensures.steps.0.beyond in
    let few = c.numbers.invariant.few in
    let f : Fits w32 c.in-Some.entry.at = search rules in
    let g = f.fits in
    record { fits = omega (arith, b, few, g) }

pub numbers-smaller : goal.numbers-smaller
numbers-smaller c =
    let s = c.in-Some.ensures.steps in
    let a = s.0.beyond in
    let b = s.0.within in
    let l = ap (λ (w : Walk). length w.numbers) s.1 in
    let f = ap (λ (w : Walk). w.from) s.1 in
    omega (arith, a, b, l, f)

pub numbers-preserved : goal.numbers-preserved
numbers-preserved c =
    let m = c.args.links.now in
    let v = c.numbers.invariant in
    let s = c.in-Some.ensures.steps in
    let x = c.in-Some.entry in
    let next = subst (λ (ns : Row). ComesNext (record { numbers = ns; from = c.numbers.walk.from }) x) v.numbers s.0 in
    let f : c.next.new.self.from ≡ x.at + 1 = ap (λ (w : Walk). w.from) s.1 in
    let l = length-row_of m c.args.r in
    let w = next.within in
    let b = next.beyond in
    let few = v.few in
    let room : c.numbers.count < length c.numbers.to = let r = c.requires.room in let t = c.numbers.auto.to in omega (arith, l, w, b, few, r, t) in
    record {
      numbers = ap (λ (y : Walk). y.numbers) s.1 ∙ v.numbers;
      few = omega (arith, f, b, few);
      below = omega (arith, f, l, w);
      listed = subst (λ n. AreListed (row_of m c.args.r) n (set c.numbers.to c.numbers.count x) (c.numbers.count + 1)) (sym f)
          (listed_step (row_of m c.args.r) c.numbers.walk.from c.numbers.to c.numbers.count v.listed x next x refl refl room);
    }

pub returns-clause-listed : goal.returns-clause-listed
returns-clause-listed c =
    let m = c.args.links.now in
    let v = c.numbers.invariant in
    listed_over (row_of m c.args.r) c.numbers.walk.from m.width c.numbers.to c.numbers.count v.listed v.below (sym (length-row_of m c.args.r))
    (subst (λ (ns : Row). IsOver (record { numbers = ns; from = c.numbers.walk.from })) v.numbers c.in_default.ensures.steps.0)
