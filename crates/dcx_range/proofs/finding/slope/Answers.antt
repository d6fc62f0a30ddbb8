-- The slope is the change of the objective row over its entry of z, and the coefficient besides.
use Rattle.std.proofs.Common.{rules, to_z-of_z, SFits, ◌≡◌, sym, ap, ◌∙◌, arith}
use Rattle.std.specs.Int.{w128}
use Rattle.dcx_math.specs.Rational.{whole}
use Rattle.dcx_frac.specs.Frac.{value}
use Rattle.dcx_frac.specs.Results.{sum_of}
use Rattle.dcx_atom.specs.Formed.{frac_at, and_then}
use Rattle.dcx_lp_answer.proofs.Fractions.{value-whole}
use Rattle.dcx_tab.specs.Table.{entry_at}
use Rattle.dcx_range.specs.Operations.{slope_of}
use Rattle.dcx_range.proofs.Changes.{slope_steps, positive_lead}
use Rattle.dcx_range.proofs.finding.slope.Goals as goal

pub div-requires : goal.div-requires
div-requires g c =
    let t = g.T.Tableau.table c.args.tableau.now in
    let i = c.rows-row.result in
    let f : SFits w128 c.entry.result = search rules in
    let number = simp to_z-of_z at c.integer-lead.ensures in
    let entry = c.entry.ensures.value in
    let small = c.entry.ensures.small in
    λ z. positive_lead t c.requires.readable i c.rows-row.ensures.count c.entry.result (sym (entry ∙ ap (entry_at t i) c.columns.ensures))
    (sym (value-whole c.entry.result small) ∙ ap value (sym number) ∙ z)

pub returns-in-Ok-div : goal.returns-in-Ok-div
returns-in-Ok-div g c = λ n e.
    let t = g.T.Tableau.table c.args.tableau.now in
    let hs = c.args.rates.now in
    let b = c.args.coefficient in
    let i = c.rows-row.result in
    let f : SFits w128 c.entry.result = search rules in
    let number = simp to_z-of_z at c.integer-lead.ensures in
    let entry = c.entry.ensures.value in
    let lead = number ∙ ap (λ z. frac_at (whole z)) (entry ∙ ap (entry_at t i) c.columns.ensures) in
    let same : i ≡ n = omega (arith, e, c.rows-row.ensures.count) in
    c.add.ensures.answer ∙ sym (ap (λ r. and_then r (λ y. sum_of y b)) c.in-Ok-div.is)
    ∙ sym (slope_steps t hs i b c.change.result c.in-Ok.change c.integer-lead.result c.div.result c.change.ensures c.in-Ok.is lead c.div.ensures.answer) ∙ ap (λ j. slope_of t hs j b) same

pub returns-in-Err-div : goal.returns-in-Err-div
returns-in-Err-div g c = λ n e.
    let t = g.T.Tableau.table c.args.tableau.now in
    let hs = c.args.rates.now in
    let b = c.args.coefficient in
    let i = c.rows-row.result in
    let f : SFits w128 c.entry.result = search rules in
    let number = simp to_z-of_z at c.integer-lead.ensures in
    let entry = c.entry.ensures.value in
    let lead = number ∙ ap (λ z. frac_at (whole z)) (entry ∙ ap (entry_at t i) c.columns.ensures) in
    let same : i ≡ n = omega (arith, e, c.rows-row.ensures.count) in
    sym (ap (λ r. and_then r (λ y. sum_of y b)) c.in-Err-div.is)
    ∙ sym (slope_steps t hs i b c.change.result c.in-Ok.change c.integer-lead.result c.div.result c.change.ensures c.in-Ok.is lead c.div.ensures.answer) ∙ ap (λ j. slope_of t hs j b) same
