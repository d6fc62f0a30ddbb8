-- One more row is made of its whole row, whose numbers are small and whose start is among the columns.
use Rattle.std.proofs.Common.{length, refl, sym, subst, arith}
use Rattle.std.proofs.lemmas.Option.{slice_get_read}
use Rattle.dcx_tab.specs.Rows.{AllSmall}
use Rattle.dcx_std.specs.declared.whole.WholeRow.{WholeRow}
use Rattle.dcx_std.proofs.Making.{row_made_more}
use Rattle.dcx_std.proofs.rows.int_rows.Goals as goal

pub int_row-requires-clause-small : goal.int_row-requires-clause-small
int_row-requires-clause-small c =
    let w = c.index-rows-index.result in subst (λ (v : WholeRow). AllSmall v.numbers) (sym c.index-rows-index.is) (c.requires.small c.rows.index w (omega arith))

pub int_row-requires-clause-there : goal.int_row-requires-clause-there
int_row-requires-clause-there c =
    c.requires.there c.rows.index c.index-rows-index.result (slice_get_read c.args.rows.now (length c.args.rows.now) c.rows.index c.index-rows-index.result refl (omega arith) c.index-rows-index.is)

pub rows-preserved : goal.rows-preserved
rows-preserved c =
    row_made_more c.args.columns.now c.args.count c.args.rows.now c.rows.index c.index-rows-index.result c.rows.made.items c.push.new.self.items c.in_ok-int_row.field-0
    (omega arith) c.index-rows-index.is c.rows.invariant c.in_ok-int_row.ensures c.in_ok-push.ensures.items
