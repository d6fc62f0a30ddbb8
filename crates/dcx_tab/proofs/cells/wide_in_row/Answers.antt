-- What is asked of the row is asked of its part of the cells.
use Rattle.std.proofs.Common.{◌<◌, ℕ, ap, ◌∙◌, sym, subst, length, Option, Some, None}
use Rattle.std.specs.Prelude.{IfSome, IfNone}
use Rattle.dcx_tab.specs.Pivot.{IsRowFormed}
use Rattle.dcx_tab.proofs.CellLaws.{length-row_of}
use Rattle.dcx_tab.proofs.cells.wide_in_row.Goals as goal

-- what holds where nothing is found holds there under a premise
none_under : (o : Option ℕ) (P Q : Type 0) → IfNone o P → IfNone o (Q → P)
none_under (Some j) P Q h = h
none_under None P Q h = λ q. h

pub wide_entry-requires-clause-same : goal.wide_entry-requires-clause-same
wide_entry-requires-clause-same c = ap length c.row_in.ensures ∙ length-row_of c.args.width c.args.cells.now c.args.i c.requires.room ∙ sym c.requires.same

pub returns-clause-below : goal.returns-clause-below
returns-clause-below c =
    let e = ap length c.row_in.ensures ∙ length-row_of c.args.width c.args.cells.now c.args.i c.requires.room in
    subst (λ n. IfSome c.wide_entry.result (λ j. j < n)) e c.wide_entry.ensures.below

pub returns-clause-none : goal.returns-clause-none
returns-clause-none c = none_under c.wide_entry.result _ _ (subst (λ row. IfNone c.wide_entry.result (IsRowFormed c.args.column c.args.by.now row)) c.row_in.ensures c.wide_entry.ensures.none)
