-- The rows so far, followed by the others at the setting, are all.
use Rattle.dcx_linear.proofs.SettingRows.{RowsLeadTo}
use Rattle.dcx_linear.proofs.rows_at.at_rows.Given as goal

abbrev pub invariant-rows : goal.invariant-rows
invariant-rows l = RowsLeadTo l.setting l.rows l.index l.numbers.items
