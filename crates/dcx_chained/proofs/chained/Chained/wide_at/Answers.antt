-- Narrow rows form no great number.
use Rattle.std.proofs.Common.{arith, ℕ, ◌+◌, ◌<◌}
use Rattle.dcx_tab.specs.Pivot.{turned}
use Rattle.dcx_links.specs.Matrix.{row_of}
use Rattle.dcx_chained.proofs.Pivoted.{all_rows_formed}
use Rattle.dcx_chained.specs.Narrow.{IsNarrow, size_at}
use Rattle.dcx_chained.proofs.NarrowRows.{narrow_formed}
use Rattle.dcx_chained.proofs.Sizes.{narrow-sized}
use Rattle.dcx_chained.proofs.chained.Chained.wide_at.Goals as goal

pub returns-then-self-clause-none : goal.returns-then-self-clause-none
returns-then-self-clause-none c =
    let s = c.args.self.now in
    let m = s.links in
    let h = s.height in
    let r = c.requires.row in
    let narrow : (i : ℕ) → i < s.rows + 2 → IsNarrow (row_of m i) = λ i lt. narrow-sized (size_at s.sizes.items i) (row_of m i) (s.narrow_rows c.if-self.true i lt) in
    all_rows_formed m c.args.row c.args.column (turned c.args.column (row_of m c.args.row))
    (λ i lt other. narrow_formed c.args.column (row_of m c.args.row) (row_of m i) (narrow c.args.row (omega (arith, r, h))) (narrow i (omega (arith, lt, h))))
