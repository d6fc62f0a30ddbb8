-- The row is the part of the cells that the pivot's row clears.
use Rattle.std.proofs.Common.{◌≡◌, ◌+◌, ◌-◌, ◌*◌, ℕ, ap, ◌∙◌, sym, subst, take, drop, arith, rules}
use Rattle.dcx_tab.specs.Rows.{AllSmall}
use Rattle.dcx_tab.specs.Pivot.{eliminated, IsRowFormed}
use Rattle.dcx_tab.proofs.cells.clear_row.Goals as goal

span : (start width : ℕ) → (start + width) - start ≡ width
span start width = omega arith

pub eliminate-requires-clause-formed : goal.eliminate-requires-clause-formed
eliminate-requires-clause-formed c =
    let start = c.args.i * c.args.width in
    subst (λ n. IsRowFormed c.args.column c.args.by.now (take n (drop start c.args.cells.now))) (sym (span start c.args.width)) c.requires.formed

pub eliminate-requires-clause-small : goal.eliminate-requires-clause-small
eliminate-requires-clause-small c =
    let start = c.args.i * c.args.width in
    subst (λ n. AllSmall (take n (drop start c.args.cells.now))) (sym (span start c.args.width)) c.requires.small

pub returns-clause-row : goal.returns-clause-row
returns-clause-row c = search rules

pub returns-clause-small : goal.returns-clause-small
returns-clause-small c =
    let start = c.args.i * c.args.width in
    subst AllSmall (c.eliminate.ensures.row ∙ ap (λ n. eliminated c.args.column c.args.by.now (take n (drop start c.args.cells.now))) (span start c.args.width)) c.eliminate.ensures.small
