-- The walk comes to the next column where one of the rows has a number.
use Rattle.std.proofs.Common.{rules, arith, ◌≡◌, ◌+◌, length, sym, ap, ◌∙◌, to_z-of_z, SFits}
use Rattle.std.specs.Int.{w128}
use Rattle.dcx_tab.specs.Pivot.{IsFormed}
use Rattle.dcx_links.specs.Matrix.{row_of}
use Rattle.dcx_links.specs.Walks.{DoubleWalk}
use Rattle.dcx_chained.proofs.RowReads.{length-row_of}
use Rattle.dcx_chained.proofs.Mixed.{next_of, over_of, formed_before, formed_here, formed_step, formed_over}
use Rattle.dcx_chained.proofs.wide.first_unformed.Goals as goal

pub columns-init : goal.columns-init
columns-init c =
    let e = c.pairs-pairs.ensures in
    let f : c.pairs-pairs.result.from ≡ 0 = ap (λ (w : DoubleWalk). w.from) e in
    record { first = ap (λ (w : DoubleWalk). w.first) e; second = ap (λ (w : DoubleWalk). w.second) e; formed = λ k lt. absurd (omega (arith, lt, f)) }

pub columns-smaller : goal.columns-smaller
columns-smaller c =
    let s = c.in-Some.ensures.steps in
    let a = s.0.beyond in
    let b = s.0.within in
    let l = ap (λ (w : DoubleWalk). length w.first) s.1 in
    let f = ap (λ (w : DoubleWalk). w.from) s.1 in
    omega (arith, a, b, l, f)

pub columns-preserved : goal.columns-preserved
columns-preserved c =
    let m = c.args.links.now in
    let v = c.columns.invariant in
    let s = c.in-Some.ensures.steps in
    let p = c.in-Some.pair in
    let next = next_of c.columns.pairs (row_of m c.args.i) (row_of m c.args.r) p v.first v.second s.0 in
    let f : c.next.new.self.from ≡ p.at + 1 = ap (λ (w : DoubleWalk). w.from) s.1 in
    let fr : SFits w128 c.args.factors.row = search rules in
    let fb : SFits w128 c.args.factors.by = search rules in
    let fx : SFits w128 p.first = search rules in
    let fy : SFits w128 p.second = search rules in
    let h : IsFormed c.args.factors.row p.first c.args.factors.by p.second = simp to_z-of_z at c.in-Some-formed.ensures.0 in
    record {
      first = ap (λ (x : DoubleWalk). x.first) s.1 ∙ v.first;
      second = ap (λ (x : DoubleWalk). x.second) s.1 ∙ v.second;
      formed = λ k lt. formed_step c.args.factors.row (row_of m c.args.i) c.args.factors.by (row_of m c.args.r) c.columns.pairs.from p next v.formed h k (omega (arith, lt, f));
    }

pub returns-in_default-formed-clause-below : goal.returns-in_default-formed-clause-below
returns-in_default-formed-clause-below c =
    let m = c.args.links.now in
    let v = c.columns.invariant in
    let next = next_of c.columns.pairs (row_of m c.args.i) (row_of m c.args.r) c.in-Some.pair v.first v.second c.in-Some.ensures.steps.0 in
    let l = length-row_of m c.args.i in
    let w = next.within in
    omega (arith, l, w)

pub returns-in_default-formed-clause-wide : goal.returns-in_default-formed-clause-wide
returns-in_default-formed-clause-wide c = λ f.
    let m = c.args.links.now in
    let v = c.columns.invariant in
    let p = c.in-Some.pair in
    let next = next_of c.columns.pairs (row_of m c.args.i) (row_of m c.args.r) p v.first v.second c.in-Some.ensures.steps.0 in
    let fr : SFits w128 c.args.factors.row = search rules in
    let fb : SFits w128 c.args.factors.by = search rules in
    let fx : SFits w128 p.first = search rules in
    let fy : SFits w128 p.second = search rules in
    c.in_default-formed.ensures (simp to_z-of_z (formed_here c.args.factors.row (row_of m c.args.i) c.args.factors.by (row_of m c.args.r) c.columns.pairs.from p next f))

pub returns-in_default-formed-clause-first : goal.returns-in_default-formed-clause-first
returns-in_default-formed-clause-first c = λ k lt.
    let m = c.args.links.now in
    let v = c.columns.invariant in
    let p = c.in-Some.pair in
    let next = next_of c.columns.pairs (row_of m c.args.i) (row_of m c.args.r) p v.first v.second c.in-Some.ensures.steps.0 in
    formed_before c.args.factors.row (row_of m c.args.i) c.args.factors.by (row_of m c.args.r) c.columns.pairs.from p next v.formed k lt

pub returns-clause-none : goal.returns-clause-none
returns-clause-none c = λ k lt.
    let m = c.args.links.now in
    let v = c.columns.invariant in
    formed_over c.args.factors.row (row_of m c.args.i) c.args.factors.by (row_of m c.args.r) c.columns.pairs.from m.width (over_of c.columns.pairs (row_of m c.args.i)
    (row_of m c.args.r) v.first v.second c.in_default.ensures.steps.0)
    (sym (length-row_of m c.args.i)) (sym (length-row_of m c.args.r)) v.formed k lt
