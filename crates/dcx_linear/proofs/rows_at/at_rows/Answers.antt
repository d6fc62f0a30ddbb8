-- One more row is formed at the setting, or it is the first that stops.
use Rattle.std.proofs.Common.{◌≡◌, Err, sym, subst, arith}
use Rattle.std.proofs.lemmas.Result.{err_from_is_err_and}
use Rattle.dcx_linear.specs.FormsAt.{IsListedRow, form_on_row, rows_at}
use Rattle.dcx_linear.specs.MapStops.{OnRow-weaker}
use Rattle.dcx_linear.proofs.SettingRows.{row_goes, row_stops, rows_end}
use Rattle.dcx_linear.proofs.rows_at.at_rows.Goals as goal

pub at_row-requires : goal.at_row-requires
at_row-requires c = subst (IsListedRow c.args.setting.now) (sym c.index-rows-index.is) (c.requires c.rows.index c.index-rows-index.result (omega arith))

pub returns-in_err-form : goal.returns-in_err-form
returns-in_err-form c =
    let p = err_from_is_err_and c.from_residual.result c.from_residual.ensures.1 in
    let row = c.index-rows-index.result in
    let s = c.args.setting.now in
    rw (p.1, p.2)
    (OnRow-weaker _ (λ stop. Err stop ≡ form_on_row s c.rows.index row.form) (λ stop. Err stop ≡ rows_at s 0 c.args.rows.now)
    (λ stop h. row_stops s c.args.rows.now c.rows.index row (omega arith) c.index-rows-index.is c.rows.numbers.items stop h c.rows.invariant) c.in_err-form.ensures)

pub rows-preserved : goal.rows-preserved
rows-preserved c =
    row_goes c.args.setting.now c.args.rows.now c.rows.index c.index-rows-index.result (omega arith) c.index-rows-index.is c.rows.numbers.items
    c.push.new.self.items c.in_ok-form.form c.in_ok-form.ensures c.in_ok-push.ensures.items c.rows.invariant

pub returns : goal.returns
returns c = rows_end c.args.setting.now c.args.rows.now c.rows.index c.rows.numbers.items (omega arith) c.rows.invariant
