-- The better of two columns is the best of all so far.
use Rattle.std.proofs.Common.{rules, subst, arith}
use borrow.Author.Count.{below_more}
use mir.Syntax.{w128}
use mir.Val.{SFits}
use Rattle.dcx_tab.specs.Table.{entry_at}
use Rattle.dcx_warm.specs.Dual.{MayEnter, ComesFirst, IsBestColumn}
use Rattle.dcx_warm.proofs.Entries.{negative_by, not_negative_by, never_below}
use Rattle.dcx_warm.proofs.Ratios.{first_trans, first_self, best_kept}
use Rattle.dcx_warm.proofs.dual.better_column.Goals as goal

pub returns-then-entry-ge0 : goal.returns-then-entry-ge0
returns-then-entry-ge0 g c =
    let t = g.T.Tableau.table c.args.tableau.now in
    let r = c.args.row in
    let i = c.args.c in
    let f : SFits w128 c.entry.result = search rules in
    let high = not_negative_by c.entry.result (entry_at t r i) f c.entry.ensures.value c.if-entry-ge0.true in
    best_kept t r i c.args.best (λ m. never_below (entry_at t r i) high m.negative) c.requires.best

pub returns-in-None : goal.returns-in-None
returns-in-None g c =
    let t = g.T.Tableau.table c.args.tableau.now in
    let r = c.args.row in
    let i = c.args.c in
    let f : SFits w128 c.entry.result = search rules in
    let may : MayEnter t r i = record { column = c.requires.column; negative = negative_by c.entry.result (entry_at t r i) f c.entry.ensures.value c.if-entry-ge0.false } in
    let none = subst (IsBestColumn t r i) c.in-None.is c.requires.best in (
      omega arith,
      may,
      below_more (λ j. MayEnter t r j → ComesFirst t r i j) i (λ j l m. absurd (none j l m)) (λ m. first_self t r i),
    )

pub comes_first-requires-clause-left : goal.comes_first-requires-clause-left
comes_first-requires-clause-left g c =
    let t = g.T.Tableau.table c.args.tableau.now in
    (subst (IsBestColumn t c.args.row c.args.c) c.in-Some.is c.requires.best).1

pub comes_first-requires-clause-right : goal.comes_first-requires-clause-right
comes_first-requires-clause-right g c =
    let t = g.T.Tableau.table c.args.tableau.now in
    let f : SFits w128 c.entry.result = search rules in
    record { column = c.requires.column; negative = negative_by c.entry.result (entry_at t c.args.row c.args.c) f c.entry.ensures.value c.if-entry-ge0.false }

pub returns-then-comes_first : goal.returns-then-comes_first
returns-then-comes_first g c =
    let t = g.T.Tableau.table c.args.tableau.now in
    let r = c.args.row in
    let i = c.args.c in
    let k = c.in-Some.k in
    let best = subst (IsBestColumn t r i) c.in-Some.is c.requires.best in (
      omega (arith, best.0),
      best.1,
      below_more (λ j. MayEnter t r j → ComesFirst t r k j) i best.2 (λ m. c.if-comes_first.ensures.yes),
    )

pub returns-else-comes_first : goal.returns-else-comes_first
returns-else-comes_first g c =
    let t = g.T.Tableau.table c.args.tableau.now in
    let r = c.args.row in
    let i = c.args.c in
    let k = c.in-Some.k in
    let f : SFits w128 c.entry.result = search rules in
    let may : MayEnter t r i = record { column = c.requires.column; negative = negative_by c.entry.result (entry_at t r i) f c.entry.ensures.value c.if-entry-ge0.false } in
    let best = subst (IsBestColumn t r i) c.in-Some.is c.requires.best in (
      omega arith,
      may,
      below_more (λ j. MayEnter t r j → ComesFirst t r i j) i
          (λ j l m. first_trans t r i k j best.0 best.1 m c.if-comes_first.ensures.no (best.2 j l m))
          (λ m. first_self t r i),
    )
