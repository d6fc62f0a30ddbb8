-- Basic columns are written over zeros, with 1 at the column.
use Rattle.std.proofs.Common.{◌≡◌, ◌<◌, ◌++◌, length, set, take, drop, arith, sym, ◌∙◌, subst, List}
use Rattle.std.proofs.lemmas.List.{take_at}
use Rattle.dcx_math.specs.Sums.{rat_at}
use Rattle.dcx_frac.specs.declared.fraction.Frac.{Frac}
use Rattle.dcx_lp_answer.specs.Notes.{numbers}
use Rattle.dcx_simplex.specs.Reading.{IsColumnChange}
use Rattle.dcx_simplex.proofs.ReadLists.{changes_are}
use Rattle.dcx_simplex.proofs.read.column_changes.Goals as goal

pub returns-clause-changes : goal.returns-clause-changes
returns-clause-changes g c =
    let t = g.T.Tableau.table c.args.tableau.now in
    let new = c.put_basic.new.xs in
    let zeros = c.in_ok-xs.xs.items in
    let e : take c.in_ok-xs.xs.len (new ++ drop (length new) (set zeros c.args.column c.one.result)) ≡ new = take_at new _ c.in_ok-xs.xs.len (c.put_basic.auto.xs ∙ c.deref_mut.ensures.len) in
    let in_zeros : c.args.column < length zeros = omega (arith, c.requires.column, c.in_ok-xs.ensures.len, c.columns.ensures) in
    let are = changes_are t new c.args.column zeros c.one.result in_zeros c.one.ensures c.in_ok-xs.ensures.zeros c.requires.enters c.put_basic.ensures.basic
    (λ j n. subst (λ (ys : List Frac). rat_at (numbers new) j ≡ rat_at (numbers ys) j) c.deref_mut.ensures.value (c.put_basic.ensures.other j n)) in
    λ j h. subst (λ (ys : List Frac). IsColumnChange t c.args.column j (rat_at (numbers ys) j)) (sym e) (are j)
