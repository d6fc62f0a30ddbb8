-- Each row gives its ends in turn.
use Rattle.std.proofs.Common.{◌≡◌, ◌-◌, ◌+◌, sym, ap, ap₂, ◌∙◌, arith}
use Rattle.dcx_atom.specs.Formed.{and_then}
use Rattle.dcx_range.specs.Operations.{ends_from, no_ends}
use Rattle.dcx_range.proofs.Changes.{ends_next}
use Rattle.dcx_range.proofs.ends.all_ends.Goals as goal

pub each-init : goal.each-init
each-init g c = ap₂ (ends_from (g.T.Tableau.table c.args.tableau.now) c.args.rates.now c.args.at 0) (omega arith) c.no_ends-ends.ensures

pub each-preserved : goal.each-preserved
each-preserved g c =
    let t = g.T.Tableau.table c.args.tableau.now in
    let n = c.rows-count.result in
    let i = c.each.i in
    sym (ends_next t c.args.rates.now c.args.at i (n - i) (n - (i + 1)) c.each.ends c.next_ends.result (omega arith) c.next_ends.ensures
    ∙ ap (λ r. and_then r (λ f. ends_from t c.args.rates.now c.args.at (i + 1) (n - (i + 1)) f)) c.in-Ok.is)
    ∙ c.each.invariant

pub returns-in-Err : goal.returns-in-Err
returns-in-Err g c = λ n e.
    let t = g.T.Tableau.table c.args.tableau.now in
    let k = c.rows-count.result in
    let i = c.each.i in
    let same : k ≡ n = omega (arith, e, c.rows-count.ensures.count) in
    sym (ends_next t c.args.rates.now c.args.at i (k - i) (k - (i + 1)) c.each.ends c.next_ends.result (omega arith) c.next_ends.ensures
    ∙ ap (λ r. and_then r (λ f. ends_from t c.args.rates.now c.args.at (i + 1) (k - (i + 1)) f)) c.in-Err.is)
    ∙ c.each.invariant ∙ ap (λ j. ends_from t c.args.rates.now c.args.at 0 j no_ends) same

pub returns : goal.returns
returns g c = λ n e.
    let t = g.T.Tableau.table c.args.tableau.now in
    let k = c.rows-count.result in
    let same : k ≡ n = omega (arith, e, c.rows-count.ensures.count) in
    let done : k - c.each.i ≡ 0 = omega arith in
    sym (ap (λ j. ends_from t c.args.rates.now c.args.at c.each.i j c.each.ends) done) ∙ c.each.invariant ∙ ap (λ j. ends_from t c.args.rates.now c.args.at 0 j no_ends) same
