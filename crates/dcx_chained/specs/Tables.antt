-- The tableau that linked cells show.
use Rattle.dcx_tab.specs.Table.{Table}
use Rattle.dcx_chained.specs.declared.chained.Chained.{Chained}
use Rattle.dcx_chained.specs.Rows.{rows_of}

abbrev pub table_of : Chained → Table
table_of c = record { rows = rows_of c.links; basis = c.basis.items; columns = c.columns; plain = c.plain }
