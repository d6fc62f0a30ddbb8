-- A negative number's row is negated.
use Rattle.std.proofs.Common.{rules, arith, ◌≡◌, ◌<◌, ◌^◌, ◌<ℤ◌, ◌≤ℤ◌, pos, unsigned_abs, sym, ◌∙◌, subst, SFits}
use Rattle.std.specs.Int.{w128}
use Rattle.std.proofs.lemmas.Int.{ints}
use Rattle.dcx_tab.specs.Rows.{entry}
use Rattle.dcx_tab.proofs.LineSteps.{turned_negative}
use Rattle.dcx_links.specs.Matrix.{number_at, row_of}
use Rattle.dcx_chained.proofs.RowReads.{entry-row_of, row_same}
use Rattle.dcx_chained.proofs.Turned.{small_negative, negated_row, turned_positive}
use Rattle.dcx_chained.proofs.clear.turn_row.Goals as goal

pub multiply-requires-clause-fits : goal.multiply-requires-clause-fits
multiply-requires-clause-fits c = λ k lt. small_negative (number_at c.args.links.now c.args.r k)
    (subst (λ z. unsigned_abs z < 2 ^ 127) (entry-row_of c.args.links.now c.args.r k lt) (c.requires.small k))

pub returns-then-get-lt0-clause-row : goal.returns-then-get-lt0-clause-row
returns-then-get-lt0-clause-row c =
    let m = c.args.links.now in
    let n = c.multiply.ensures in
    let f : SFits w128 c.get.result = search rules in
    let h = c.if-get-lt0.true in
    let negative : c.get.result <ℤ pos 0 = grind (arith, ints) in
    let e : c.get.result ≡ entry (row_of m c.args.r) c.args.column = c.get.ensures ∙ sym (entry-row_of m c.args.r c.args.column c.requires.column) in
    negated_row m c.multiply.new.self c.args.r n.width n.there ∙ sym (turned_negative c.args.column (row_of m c.args.r) (subst (λ z. z <ℤ pos 0) e negative))

pub returns-then-get-lt0-clause-same : goal.returns-then-get-lt0-clause-same
returns-then-get-lt0-clause-same c = λ k other. row_same c.args.links.now c.multiply.new.self k c.multiply.ensures.width (λ j. c.multiply.ensures.same k j other)

pub returns-else-get-lt0-clause-row : goal.returns-else-get-lt0-clause-row
returns-else-get-lt0-clause-row c =
    let m = c.args.links.now in
    let f : SFits w128 c.get.result = search rules in
    let h = c.if-get-lt0.false in
    let positive : pos 0 ≤ℤ c.get.result = grind (arith, ints) in
    let e : c.get.result ≡ entry (row_of m c.args.r) c.args.column = c.get.ensures ∙ sym (entry-row_of m c.args.r c.args.column c.requires.column) in
    turned_positive c.args.column (row_of m c.args.r) (subst (λ z. pos 0 ≤ℤ z) e positive)
