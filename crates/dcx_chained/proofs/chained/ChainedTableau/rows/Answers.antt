-- There are two more rows than the number told.
use Rattle.std.proofs.Common.{sym, ◌∙◌}
use Rattle.dcx_chained.proofs.RowReads.{length-rows_of}
use Rattle.dcx_chained.proofs.chained.ChainedTableau.rows.Goals as goal

pub returns-clause-count : goal.returns-clause-count
returns-clause-count c = sym (length-rows_of c.args.self.now.links ∙ c.args.self.now.height)
