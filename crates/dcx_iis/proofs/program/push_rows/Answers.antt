-- One more row is added, until all are.
use Rattle.std.proofs.Common.{◌++◌, sym, ap, ◌∙◌, rules}
use Rattle.std.proofs.lemmas.List.{append-nil, take_all}
use Rattle.dcx_iis.proofs.Loops.{row_more}
use Rattle.dcx_iis.proofs.program.push_rows.Goals as goal

pub rows-preserved : goal.rows-preserved
rows-preserved c =
    row_more c.args.rows.now c.rows.row-index c.row-item.result c.rows-test.true c.row-item.is c.rows.copies.items c.push.new.self.items c.args.copies.now.items c.in_ok-form.form
    c.in_ok-form.ensures c.in_ok-push.ensures.items c.rows.invariant

pub rows-init : goal.rows-init
rows-init c = sym (append-nil c.args.copies.now.items)

pub rows-smaller : goal.rows-smaller
rows-smaller c = search rules

pub returns : goal.returns
returns c = c.rows.invariant ∙ ap (λ xs. c.args.copies.now.items ++ xs) (take_all c.rows.row-index c.args.rows.now c.rows-test.false)
