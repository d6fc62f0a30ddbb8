-- The mixed row is the cleared one, and its primitive part what the pivot makes of the row.
use Rattle.std.proofs.Common.{arith, ◌<◌, ◌^◌, unsigned_abs, sym, ap, ◌∙◌, subst}
use Rattle.dcx_math.proofs.Primitive.{primitive_part}
use Rattle.dcx_tab.specs.Rows.{Row}
use Rattle.dcx_tab.specs.Pivot.{turned}
use Rattle.dcx_tab.proofs.LineSteps.{eliminated_some, small_where}
use Rattle.dcx_links.specs.Matrix.{row_of}
use Rattle.dcx_chained.proofs.RowReads.{length-row_of, entry-row_of, row_same}
use Rattle.dcx_chained.proofs.Listings.{cleared_row}
use Rattle.dcx_chained.proofs.Sizes.{mixed_bounds}
use Rattle.dcx_chained.proofs.clear.clear_row.Goals as goal

pub mix_row-requires-clause-formed : goal.mix_row-requires-clause-formed
mix_row-requires-clause-formed c = λ k lt. let l = length-row_of c.args.links.now c.args.i in c.requires.factors.only k (c.requires.formed c.requires.met k (omega (arith, lt, l)))

pub reduce_row-requires-clause-small : goal.reduce_row-requires-clause-small
reduce_row-requires-clause-small c =
    let m = c.args.links.now in
    let a = c.mix_row.new.links in
    let mixed = c.mix_row.ensures in
    small_where (row_of a c.args.i)
    (λ j lt.
    let l = length-row_of a c.args.i in
    let w = mixed.width in
    let k = length-row_of m c.args.i in
    let e = entry-row_of a c.args.i j (omega (arith, lt, l)) ∙ mixed.mixed j (omega (arith, lt, l, w)) in
    subst (λ z. unsigned_abs z < 2 ^ 127) (sym e) (c.requires.factors.only j (c.requires.formed c.requires.met j (omega (arith, lt, l, w, k)))).difference)

pub returns-clause-row : goal.returns-clause-row
returns-clause-row c =
    let m = c.args.links.now in
    let a = c.mix_row.new.links in
    let by = turned c.args.column (row_of m c.args.r) in
    c.reduce_row.ensures.row ∙ ap (λ (x : Row). primitive_part x) (cleared_row m a c.args.i c.args.r c.args.column c.args.factors.row c.args.factors.by c.mix_row.ensures.width
    c.requires.some c.requires.factors c.mix_row.ensures.mixed)
    ∙ sym (eliminated_some c.args.column by (row_of m c.args.i) c.requires.met)

pub returns-clause-same : goal.returns-clause-same
returns-clause-same c = λ k other. row_same c.args.links.now c.reduce_row.new.links k (c.reduce_row.ensures.width ∙ c.mix_row.ensures.width)
    (λ j. c.reduce_row.ensures.same k j other ∙ c.mix_row.ensures.same k j other)

pub returns-clause-bounded : goal.returns-clause-bounded
returns-clause-bounded c = mixed_bounds c.args.links.now c.mix_row.new.links c.reduce_row.new.links c.args.i c.args.r c.args.factors.row c.args.factors.by c.mix_row.ensures.width
    c.reduce_row.ensures.row c.mix_row.ensures.mixed
