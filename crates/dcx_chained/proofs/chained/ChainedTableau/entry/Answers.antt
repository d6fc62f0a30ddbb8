-- A number is the entry of its row.
use Rattle.std.proofs.Common.{rules, arith, ◌<◌, ◌^◌, unsigned_abs, sym, ap, ◌∙◌, subst, to_z-of_z, SFits}
use Rattle.std.specs.Int.{w128}
use Rattle.dcx_tab.specs.Rows.{Row, entry}
use Rattle.dcx_chained.proofs.RowReads.{length-rows_of, row_at-rows_of, entry-row_of}
use Rattle.dcx_chained.proofs.chained.ChainedTableau.entry.Goals as goal

pub get-requires-clause-row : goal.get-requires-clause-row
get-requires-clause-row c = let l = length-rows_of c.args.self.now.links in let r = c.requires.row in omega (arith, l, r)

pub get-requires-clause-column : goal.get-requires-clause-column
get-requires-clause-column c = let w = c.args.self.now.width in let h = c.requires.column in omega (arith, w, h)

pub returns-clause-value : goal.returns-clause-value
returns-clause-value c =
    let m = c.args.self.now.links in
    let l = length-rows_of m in
    let r = c.requires.row in
    let w = c.args.self.now.width in
    let h = c.requires.column in
    let f : SFits w128 c.get.result = search rules in
    to_z-of_z f ∙ c.get.ensures ∙ sym (ap (λ (x : Row). entry x c.args.column) (row_at-rows_of m c.args.row (omega (arith, l, r))) ∙ entry-row_of m c.args.row c.args.column (omega (arith, w, h)))

pub returns-clause-small : goal.returns-clause-small
returns-clause-small c =
    let m = c.args.self.now.links in
    let l = length-rows_of m in
    let r = c.requires.row in
    let w = c.args.self.now.width in
    let h = c.requires.column in
    let k = c.args.self.now.height in
    let f : SFits w128 c.get.result = search rules in
    let e = to_z-of_z f ∙ c.get.ensures ∙ sym (entry-row_of m c.args.row c.args.column (omega (arith, w, h))) in
    subst (λ z. unsigned_abs z < 2 ^ 127) (sym e) (c.args.self.now.small c.args.row (omega (arith, l, r, k)) c.args.column)
