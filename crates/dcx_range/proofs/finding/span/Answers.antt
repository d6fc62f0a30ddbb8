-- The first basic columns are columns of the tableau.
use Rattle.std.proofs.Common.{◌<◌, ◌+◌, slice_get, sym, ap, ◌∙◌, subst, arith, List}
use Rattle.std.specs.List.{All}
use Rattle.dcx_tab.specs.declared.rows.IntRow.{IntRow}
use Rattle.dcx_range.specs.declared.rates.Rate.{Rate}
use Rattle.dcx_range.proofs.Exact.{rates_low}
use Rattle.dcx_range.proofs.finding.span.Goals as goal

pub formed-requires-clause-columns : goal.formed-requires-clause-columns
formed-requires-clause-columns c =
    let k = c.args.asked.now.position in
    let program = c.args.solved.now.program in
    let rows = c.as_slice.ensures ∙ c.rows-rows.ensures.rows in
    let wide = c.requires.columns in
    let formed = c.in-Ok.ensures.formed in
    subst (All (λ (h : Rate). h.column < c.args.solved.now.tableau.columns + 3)) (sym c.deref.ensures.value)
    (rates_low k (c.args.solved.now.tableau.columns + 3) c.as_slice.result.now c.as_slice-2.result.now c.in-Ok.rates.items formed
    (λ i int e. let low = (program.form.each_row i int (ap (λ (ints : List IntRow). slice_get ints i) (sym c.as_slice-2.ensures) ∙ e)).basic in omega (arith, low, wide)))
