-- Without an artificial the second phase begins at once.
use Rattle.std.proofs.Common.{arith, ◌≤◌, inl, inr, refl}
use Rattle.dcx_simplex.proofs.run.run_from.Goals as goal

pub returns-then-plain-columns : goal.returns-then-plain-columns
returns-then-plain-columns g c =
    let t = g.T.Tableau.table c.args.tableau.now in
    let l : t.columns ≤ t.plain = omega (arith, c.plain.ensures, c.columns.ensures, c.if-plain-columns.true) in
    c.finish.ensures t (inl (l, refl, refl))

pub returns-in-None : goal.returns-in-None
returns-in-None g c =
    let t = g.T.Tableau.table c.args.tableau.now in
    c.finish-in-None.ensures t (inr c.in-None.ensures)
