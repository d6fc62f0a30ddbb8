-- The ratios are compared exactly.
use Rattle.std.proofs.Common.{◌<◌, sym, subst, rules, arith, inl, inr, Less, Equal, Greater}
use mir.Syntax.{w128}
use mir.Val.{SFits}
use Rattle.dcx_tab.specs.Table.{entry_at}
use Rattle.dcx_warm.proofs.Entries.{magnitude_by, compared}
use Rattle.dcx_warm.proofs.Ratios.{some_negative}
use Rattle.dcx_warm.proofs.dual.comes_first.Goals as goal

pub compare-requires-clause-left : goal.compare-requires-clause-left
compare-requires-clause-left g c =
    let e = entry_at (g.T.Tableau.table c.args.tableau.now) c.args.row c.args.c in
    let f : SFits w128 c.entry-2.result = search rules in
    subst (λ n. 0 < n) (sym (magnitude_by c.entry-2.result e c.unsigned_abs-2.result f c.entry-2.ensures.value c.unsigned_abs-2.ensures.value)) (some_negative e c.requires.left.negative)

pub compare-requires-clause-right : goal.compare-requires-clause-right
compare-requires-clause-right g c =
    let e = entry_at (g.T.Tableau.table c.args.tableau.now) c.args.row c.args.k in
    let f : SFits w128 c.entry-4.result = search rules in
    subst (λ n. 0 < n) (sym (magnitude_by c.entry-4.result e c.unsigned_abs-4.result f c.entry-4.ensures.value c.unsigned_abs-4.ensures.value)) (some_negative e c.requires.right.negative)

pub returns-in-Less-clause-yes : goal.returns-in-Less-clause-yes
returns-in-Less-clause-yes g c =
    let t = g.T.Tableau.table c.args.tableau.now in
    let r = c.args.row in
    let o = c.rows-cost.result in
    let f : SFits w128 c.entry.result = search rules in
    let f₂ : SFits w128 c.entry-2.result = search rules in
    let f₃ : SFits w128 c.entry-3.result = search rules in
    let f₄ : SFits w128 c.entry-4.result = search rules in
    inl (compared t r c.args.c c.args.k o c.unsigned_abs.result c.unsigned_abs-2.result c.unsigned_abs-3.result c.unsigned_abs-4.result Less c.rows-cost.ensures.count
    (magnitude_by c.entry.result (entry_at t o c.args.c) c.unsigned_abs.result f c.entry.ensures.value c.unsigned_abs.ensures.value)
    (magnitude_by c.entry-2.result (entry_at t r c.args.c) c.unsigned_abs-2.result f₂ c.entry-2.ensures.value c.unsigned_abs-2.ensures.value)
    (magnitude_by c.entry-3.result (entry_at t o c.args.k) c.unsigned_abs-3.result f₃ c.entry-3.ensures.value c.unsigned_abs-3.ensures.value)
    (magnitude_by c.entry-4.result (entry_at t r c.args.k) c.unsigned_abs-4.result f₄ c.entry-4.ensures.value c.unsigned_abs-4.ensures.value)
    c.in-Less.ensures)

pub returns-in-Equal-clause-yes : goal.returns-in-Equal-clause-yes
returns-in-Equal-clause-yes g c =
    let t = g.T.Tableau.table c.args.tableau.now in
    let r = c.args.row in
    let o = c.rows-cost.result in
    let f : SFits w128 c.entry.result = search rules in
    let f₂ : SFits w128 c.entry-2.result = search rules in
    let f₃ : SFits w128 c.entry-3.result = search rules in
    let f₄ : SFits w128 c.entry-4.result = search rules in
    inr (
      compared t r c.args.c c.args.k o c.unsigned_abs.result c.unsigned_abs-2.result c.unsigned_abs-3.result c.unsigned_abs-4.result Equal c.rows-cost.ensures.count
          (magnitude_by c.entry.result (entry_at t o c.args.c) c.unsigned_abs.result f c.entry.ensures.value c.unsigned_abs.ensures.value)
          (magnitude_by c.entry-2.result (entry_at t r c.args.c) c.unsigned_abs-2.result f₂ c.entry-2.ensures.value c.unsigned_abs-2.ensures.value)
          (magnitude_by c.entry-3.result (entry_at t o c.args.k) c.unsigned_abs-3.result f₃ c.entry-3.ensures.value c.unsigned_abs-3.ensures.value)
          (magnitude_by c.entry-4.result (entry_at t r c.args.k) c.unsigned_abs-4.result f₄ c.entry-4.ensures.value c.unsigned_abs-4.ensures.value)
          c.in-Equal.ensures,
      omega (arith, c.requires.order),
    )

pub returns-in-Greater-clause-no : goal.returns-in-Greater-clause-no
returns-in-Greater-clause-no g c =
    let t = g.T.Tableau.table c.args.tableau.now in
    let r = c.args.row in
    let o = c.rows-cost.result in
    let f : SFits w128 c.entry.result = search rules in
    let f₂ : SFits w128 c.entry-2.result = search rules in
    let f₃ : SFits w128 c.entry-3.result = search rules in
    let f₄ : SFits w128 c.entry-4.result = search rules in
    inl (compared t r c.args.c c.args.k o c.unsigned_abs.result c.unsigned_abs-2.result c.unsigned_abs-3.result c.unsigned_abs-4.result Greater c.rows-cost.ensures.count
    (magnitude_by c.entry.result (entry_at t o c.args.c) c.unsigned_abs.result f c.entry.ensures.value c.unsigned_abs.ensures.value)
    (magnitude_by c.entry-2.result (entry_at t r c.args.c) c.unsigned_abs-2.result f₂ c.entry-2.ensures.value c.unsigned_abs-2.ensures.value)
    (magnitude_by c.entry-3.result (entry_at t o c.args.k) c.unsigned_abs-3.result f₃ c.entry-3.ensures.value c.unsigned_abs-3.ensures.value)
    (magnitude_by c.entry-4.result (entry_at t r c.args.k) c.unsigned_abs-4.result f₄ c.entry-4.ensures.value c.unsigned_abs-4.ensures.value)
    c.in-Greater.ensures)
