-- One more row tells how it starts.
use Rattle.std.proofs.Common.{List, [], ◌∷◌, ◌++◌, map, sym, ap, ap₂, ◌∙◌, arith, rules}
use Rattle.std.proofs.lemmas.List.{map_more, take_all}
use Rattle.std.proofs.lemmas.Result.{err_from_is_err_and}
use Rattle.dcx_std.specs.declared.start.Start.{Start}
use Rattle.dcx_std.specs.IntegerRows.{start_of}
use Rattle.dcx_std.proofs.rows.all_starts.Goals as goal

pub rows-init : goal.rows-init
rows-init c = search rules

pub rows-smaller : goal.rows-smaller
rows-smaller c = search rules

pub rows-preserved : goal.rows-preserved
rows-preserved c =
    let start = start_of c.args.count in
    c.in_ok-push.ensures.items ∙ ap₂ (λ (xs : List Start) (x : Start). xs ++ x ∷ []) c.rows.invariant (c.start.ensures ∙ ap start c.row-item.is)
    ∙ sym (map_more start c.args.rows.now c.rows.row-index c.row-item.result (omega arith))

pub returns : goal.returns
returns c = c.rows.invariant ∙ ap (map (start_of c.args.count)) (take_all c.rows.row-index c.args.rows.now (omega arith))

pub returns-in_err-push : goal.returns-in_err-push
returns-in_err-push c = let p = err_from_is_err_and c.from_residual-in_err-push.result c.from_residual-in_err-push.ensures.1 in rw p.1 tt
