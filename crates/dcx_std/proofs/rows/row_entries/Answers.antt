-- One more column has the number that the row has there.
use Rattle.std.proofs.Common.{[], ◌∷◌, ◌++◌, map, sym, ap, ap₂, ◌∙◌, arith, rules, SFits, to_z-of_z}
use Rattle.std.specs.Int.{w128}
use Rattle.std.proofs.lemmas.List.{map_more, take_all}
use Rattle.std.proofs.lemmas.Result.{err_from_is_err_and}
use Rattle.dcx_std.specs.Columns.{number_in}
use Rattle.dcx_std.proofs.rows.row_entries.Goals as goal

pub columns-init : goal.columns-init
columns-init c = search rules

pub columns-smaller : goal.columns-smaller
columns-smaller c = search rules

pub columns-preserved : goal.columns-preserved
columns-preserved c =
    let columns = c.args.columns.now in
    let i = c.columns.column-index in
    let fits : SFits w128 c.row_entry.result = search rules in
    let pushed = simp to_z-of_z at c.in_ok-push.ensures.items in
    pushed ∙ ap₂ (λ ns n. ns ++ n ∷ []) c.columns.invariant c.row_entry.ensures ∙ sym (map_more (number_in c.args.row c.args.is_negated c.args.numbers.now) columns i _ (omega arith))

pub returns : goal.returns
returns c = c.columns.invariant ∙ ap (map (number_in c.args.row c.args.is_negated c.args.numbers.now)) (take_all c.columns.column-index c.args.columns.now (omega arith))

pub returns-in_err-push : goal.returns-in_err-push
returns-in_err-push c = let p = err_from_is_err_and c.from_residual-in_err-push.result c.from_residual-in_err-push.ensures.1 in rw p.1 tt
