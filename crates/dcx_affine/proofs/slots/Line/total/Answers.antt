-- More lines than an array has entries are too many.
use Rattle.std.proofs.Common.{◌+◌, arith}
use Rattle.dcx_affine.proofs.Lines.{all_lines-take, all_lines-next}
use Rattle.dcx_affine.proofs.slots.Line.total.Goals as goal

pub returns-then-total-gt-MOST_ENTRIES-clause-many : goal.returns-then-total-gt-MOST_ENTRIES-clause-many
returns-then-total-gt-MOST_ENTRIES-clause-many c =
    let i = c.loop-shape.shape-index in
    omega (
      arith,
      c.if-total-gt-MOST_ENTRIES.true,
      c.loop-shape.invariant.sum,
      c.count-total.ensures.is,
      all_lines-next c.args.self c.args.args.now i c.shape-item.result c.loop-shape-test.true c.shape-item.is,
      all_lines-take c.args.self c.args.args.now (i + 1),
    )
