-- Each row's ends are those of its case.
use Rattle.std.proofs.Common.{rules, to_z-of_z, SFits, ◌≤◌, ◌<◌, ◌+◌, Ok, sym, ap, ◌∙◌, pos, arith}
use Rattle.std.specs.Int.{w128}
use Rattle.dcx_math.specs.Rational.{whole}
use Rattle.dcx_math.proofs.Ratios.{rat_eq-false}
use Rattle.dcx_atom.specs.Formed.{frac_at, and_then}
use Rattle.dcx_tab.specs.Rows.{basic_at}
use Rattle.dcx_tab.specs.Table.{entry_at}
use Rattle.dcx_range.specs.Operations.{up_to, with_end}
use Rattle.dcx_frac.specs.Frac.{value}
use Rattle.dcx_range.proofs.Changes.{ends_zero, ends_artificial, ends_plain}
use Rattle.dcx_range.proofs.ends.row_ends.Goals as goal

pub returns-then-is_zero : goal.returns-then-is_zero
returns-then-is_zero g c = sym (ends_zero (g.T.Tableau.table c.args.tableau.now) c.args.i c.args.at c.args.change c.args.ends (sym c.if-is_zero.ensures))

pub returns-then-plain-basis : goal.returns-then-plain-basis
returns-then-plain-basis g c =
    let t = g.T.Tableau.table c.args.tableau.now in
    let h : t.plain ≤ basic_at t.basis c.args.i = omega (arith, c.plain.ensures, c.basis.ensures) in
    ap Ok (c.up_to.ensures ∙ ap (up_to c.args.at) c.from_on.ensures) ∙ sym (ends_artificial t c.args.i c.args.at c.args.change c.args.ends (sym c.if-is_zero.ensures) h)

pub returns-in-Ok : goal.returns-in-Ok
returns-in-Ok g c =
    let t = g.T.Tableau.table c.args.tableau.now in
    let h : basic_at t.basis c.args.i < t.plain = omega (arith, c.plain.ensures, c.basis.ensures) in
    let f : SFits w128 c.entry.result = search rules in
    let number = simp to_z-of_z at c.integer-right.ensures in
    let right = number ∙ ap (λ z. frac_at (whole z)) c.entry.ensures.value ∙ ap (λ j. frac_at (whole (entry_at t c.args.i (j + 2)))) c.columns.ensures in
    ap Ok c.with_end.ensures
    ∙ sym (ends_plain t c.args.i c.args.at c.args.change c.args.ends c.integer-right.result c.zero_of.result (sym c.if-is_zero.ensures) h right c.zero_of.ensures
    ∙ ap (λ r. and_then r (λ x. Ok (with_end c.args.change x c.args.ends))) c.in-Ok.is)

pub returns-in-Err : goal.returns-in-Err
returns-in-Err g c =
    let t = g.T.Tableau.table c.args.tableau.now in
    let h : basic_at t.basis c.args.i < t.plain = omega (arith, c.plain.ensures, c.basis.ensures) in
    let f : SFits w128 c.entry.result = search rules in
    let number = simp to_z-of_z at c.integer-right.ensures in
    let right = number ∙ ap (λ z. frac_at (whole z)) c.entry.ensures.value ∙ ap (λ j. frac_at (whole (entry_at t c.args.i (j + 2)))) c.columns.ensures in
    sym (ends_plain t c.args.i c.args.at c.args.change c.args.ends c.integer-right.result c.zero_of.result (sym c.if-is_zero.ensures) h right c.zero_of.ensures
    ∙ ap (λ r. and_then r (λ x. Ok (with_end c.args.change x c.args.ends))) c.in-Err.is)

pub zero_of-requires : goal.zero_of-requires
zero_of-requires g c = rat_eq-false (value c.args.change) (whole (pos 0)) (sym c.if-is_zero.ensures)
