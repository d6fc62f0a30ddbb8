-- The basic column of the next row comes behind those so far.
use Rattle.std.proofs.Common.{◌<◌, ◌++◌, [], ◌∷◌, length, arith, ap₂, sym, ◌∙◌}
use Rattle.std.proofs.lemmas.List.{take_more}
use Rattle.dcx_chained.proofs.RowReads.{length-rows_of}
use Rattle.dcx_cache.proofs.columns.basic_columns.Goals as goal

pub rows-preserved : goal.rows-preserved
rows-preserved c =
    let basis = c.args.tableau.now.basis.items in
    let i = c.rows.row in
    let l = length-rows_of c.args.tableau.now.links in
    let height = c.args.tableau.now.height in
    let size = c.args.tableau.now.basis_size in
    let end = c.rows-row-end.ensures.count in
    let h : i < length basis = omega (arith, l, height, size, end) in
    c.in_ok-push.ensures.items ∙ ap₂ (λ xs x. xs ++ x ∷ []) c.rows.invariant c.basis.ensures ∙ sym (take_more basis i 0 h)
