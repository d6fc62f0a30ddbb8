-- The link leads to the next number of the line.
use Rattle.std.proofs.Common.{rules, ◌≡◌, ◌+◌, ◌<◌, length, refl, subst, ap, to_z-of_z, SFits}
use Rattle.std.specs.Int.{w128}
use Rattle.dcx_links.specs.Cells.{cell_at}
use Rattle.dcx_links.specs.Walks.{Walk, IsOver, ComesNext}
use Rattle.dcx_links.proofs.Passes.{walk_at, shorter}
use Rattle.dcx_links.proofs.Steps.{row_over, row_comes}
use Rattle.dcx_links.proofs.Stores.{cell_read, walk_next, walk_within}
use Rattle.dcx_links.proofs.walk.RowWalkIterator.next.Goals as goal

pub returns-then-self-clause-steps : goal.returns-then-self-clause-steps
returns-then-self-clause-steps c =
    let w = c.self.inside in
    (subst (λ (x : Walk). IsOver x) c.self.view_is (row_over w.store.now c.self.invariant.0 w.row w.from w.link c.self.invariant.1 c.if-self.true), refl)

pub invariant_of-self : goal.invariant_of-self
invariant_of-self c =
    let w = c.self.inside in
    let s = w.store.now in
    let lt : w.link < length s.cells.items = walk_within s.cells.items s.row_heads.items s.column_heads.items s.free c.self.invariant.0 w.row w.from w.link c.self.invariant.1 c.if-self.false in
    let e : c.index-cell.result.now ≡ cell_at s.cells.items w.link = cell_read s.cells.items w.link c.index-cell.result.now lt c.index-cell.ensures in
    (c.self.invariant.0, rw e (walk_next s.cells.items s.row_heads.items s.column_heads.items s.free c.self.invariant.0 w.row w.from w.link c.self.invariant.1 c.if-self.false))

pub returns-clause-steps : goal.returns-clause-steps
returns-clause-steps c =
    let w = c.self.inside in
    let s = w.store.now in
    let lt : w.link < length s.cells.items = walk_within s.cells.items s.row_heads.items s.column_heads.items s.free c.self.invariant.0 w.row w.from w.link c.self.invariant.1 c.if-self.false in
    let x = c.index-cell.result.now in
    let e : x ≡ cell_at s.cells.items w.link = cell_read s.cells.items w.link x lt c.index-cell.ensures in
    let f : SFits w128 x.value = search rules in
    let comes : ComesNext c.args.self.now (record { at = x.column; value = x.value }) = subst (λ (y : Walk). ComesNext y (record { at = x.column; value = x.value })) c.self.view_is
    (rw e (row_comes s c.self.invariant.0 w.row w.from w.link c.self.invariant.1 c.if-self.false)) in
    (simp to_z-of_z comes, ap (λ (y : Walk). walk_at y.numbers (x.column + 1)) c.self.view_is)

pub returns-clause-goes : goal.returns-clause-goes
returns-clause-goes c = let steps = returns-clause-steps c in record { on = λ _. (tt, tt, shorter _ _ _ steps.0 steps.1); keeps = tt; rests = λ _. tt }
