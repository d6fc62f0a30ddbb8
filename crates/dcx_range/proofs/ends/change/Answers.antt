-- Each product is added in turn.
use Rattle.std.proofs.Common.{rules, to_z-of_z, SFits, ◌+◌, ◌<◌, drop, map, sym, ap, ◌∙◌, subst, arith}
use Rattle.std.specs.Int.{w128}
use Rattle.dcx_math.specs.Rational.{whole}
use Rattle.dcx_atom.specs.Formed.{frac_at, and_then}
use Rattle.dcx_atom.specs.Entrywise.{products_from}
use Rattle.dcx_range.specs.declared.rates.Rate.{Rate}
use Rattle.dcx_range.specs.Operations.{factors_at}
use Rattle.dcx_range.proofs.Changes.{change_next, change_done}
use Rattle.dcx_range.proofs.ends.change.Goals as goal

pub rates-init : goal.rates-init
rates-init g c = ap (λ z. products_from z (map (factors_at (g.T.Tableau.table c.args.tableau.now) c.args.i) c.args.rates.now)) c.zero-sum.ensures

pub entry-requires-clause-column : goal.entry-requires-clause-column
entry-requires-clause-column g c =
    subst (λ (h : Rate). h.column < (g.T.Tableau.table c.args.tableau.now).columns + 3) (sym c.rate-item.is) (c.requires.columns c.rates.rate-index c.rate-item.result (omega arith))

pub rates-preserved : goal.rates-preserved
rates-preserved g c =
    let t = g.T.Tableau.table c.args.tableau.now in
    let i = c.args.i in
    let hs = c.args.rates.now in
    let n = c.rates.rate-index in
    let f : SFits w128 c.entry.result = search rules in
    let number = simp to_z-of_z at c.integer-entry.ensures in
    sym (change_next t i c.rates.sum hs n c.rate-item.result c.integer-entry.result c.add_product.result (omega arith) c.rate-item.is
    (number ∙ ap (λ z. frac_at (whole z)) c.entry.ensures.value) c.add_product.ensures
    ∙ ap (λ r. and_then r (λ x. products_from x (map (factors_at t i) (drop (n + 1) hs)))) c.in-Ok.is)
    ∙ c.rates.invariant

pub returns-in-Err : goal.returns-in-Err
returns-in-Err g c =
    let t = g.T.Tableau.table c.args.tableau.now in
    let i = c.args.i in
    let hs = c.args.rates.now in
    let n = c.rates.rate-index in
    let f : SFits w128 c.entry.result = search rules in
    let number = simp to_z-of_z at c.integer-entry.ensures in
    sym (change_next t i c.rates.sum hs n c.rate-item.result c.integer-entry.result c.add_product.result (omega arith) c.rate-item.is
    (number ∙ ap (λ z. frac_at (whole z)) c.entry.ensures.value) c.add_product.ensures
    ∙ ap (λ r. and_then r (λ x. products_from x (map (factors_at t i) (drop (n + 1) hs)))) c.in-Err.is)
    ∙ c.rates.invariant

pub returns : goal.returns
returns g c = sym (change_done (g.T.Tableau.table c.args.tableau.now) c.args.i c.rates.sum c.args.rates.now c.rates.rate-index (omega arith)) ∙ c.rates.invariant
