-- Reading an end: its tableau can be read, and what is read is right.
use Rattle.std.proofs.Common.{sym, subst}
use Rattle.std.proofs.lemmas.Result.{IfOk-weaker}
use Rattle.dcx_simplex.specs.declared.run.LpEnd.TheVariants as lp
use Rattle.dcx_lp_answer.specs.declared.answer.LpStatus.TheVariants as status
use Rattle.dcx_simplex.specs.Reading.{IsReading, IsRayReading}
use Rattle.dcx_lp_answer.specs.Right.{IsRight, IsRightAs}
use Rattle.dcx_simplex.specs.Finished.{IsFinished}
use Rattle.dcx_simplex.proofs.Ended.{shown_optimal, shown_infeasible, shown_unbounded, column_unbounded, new_unbounded, right_optimal, right_infeasible, right_unbounded}
use Rattle.dcx_simplex.proofs.ReadLists.{if_ok_both}
use Rattle.dcx_simplex.proofs.read.read_end.Goals as goal

pub read_costs-requires-clause-readable : goal.read_costs-requires-clause-readable
read_costs-requires-clause-readable g c =
    let p = c.args.program.now in
    let u = g.T.Tableau.table c.args.tableau.now in
    let f : IsFinished p u (lp.Optimal c.in-Optimal.pivots) = subst (IsFinished p u) c.in-Optimal.is c.requires in
    (shown_optimal p u f.0 c.in-Optimal.pivots f.1).readable

pub read_costs-requires-clause-rows : goal.read_costs-requires-clause-rows
read_costs-requires-clause-rows g c =
    let p = c.args.program.now in
    let u = g.T.Tableau.table c.args.tableau.now in
    let f : IsFinished p u (lp.Optimal c.in-Optimal.pivots) = subst (IsFinished p u) c.in-Optimal.is c.requires in
    (shown_optimal p u f.0 c.in-Optimal.pivots f.1).rows

pub read_costs-requires-clause-columns : goal.read_costs-requires-clause-columns
read_costs-requires-clause-columns g c =
    let p = c.args.program.now in
    let u = g.T.Tableau.table c.args.tableau.now in
    let f : IsFinished p u (lp.Optimal c.in-Optimal.pivots) = subst (IsFinished p u) c.in-Optimal.is c.requires in
    (shown_optimal p u f.0 c.in-Optimal.pivots f.1).columns

pub read_costs-requires-in-Infeasible-clause-readable : goal.read_costs-requires-in-Infeasible-clause-readable
read_costs-requires-in-Infeasible-clause-readable g c =
    let p = c.args.program.now in
    let u = g.T.Tableau.table c.args.tableau.now in
    let f : IsFinished p u (lp.Infeasible c.in-Infeasible.pivots) = subst (IsFinished p u) c.in-Infeasible.is c.requires in
    (shown_infeasible p u f.0 c.in-Infeasible.pivots f.1).readable

pub read_costs-requires-in-Infeasible-clause-rows : goal.read_costs-requires-in-Infeasible-clause-rows
read_costs-requires-in-Infeasible-clause-rows g c =
    let p = c.args.program.now in
    let u = g.T.Tableau.table c.args.tableau.now in
    let f : IsFinished p u (lp.Infeasible c.in-Infeasible.pivots) = subst (IsFinished p u) c.in-Infeasible.is c.requires in
    (shown_infeasible p u f.0 c.in-Infeasible.pivots f.1).rows

pub read_costs-requires-in-Infeasible-clause-columns : goal.read_costs-requires-in-Infeasible-clause-columns
read_costs-requires-in-Infeasible-clause-columns g c =
    let p = c.args.program.now in
    let u = g.T.Tableau.table c.args.tableau.now in
    let f : IsFinished p u (lp.Infeasible c.in-Infeasible.pivots) = subst (IsFinished p u) c.in-Infeasible.is c.requires in
    (shown_infeasible p u f.0 c.in-Infeasible.pivots f.1).columns

pub read_ray-requires-clause-readable : goal.read_ray-requires-clause-readable
read_ray-requires-clause-readable g c =
    let p = c.args.program.now in
    let u = g.T.Tableau.table c.args.tableau.now in
    let f : IsFinished p u (lp.Unbounded c.in-Unbounded.pivots c.in-Unbounded.column) = subst (IsFinished p u) c.in-Unbounded.is c.requires in
    (shown_unbounded p u f.0 c.in-Unbounded.pivots c.in-Unbounded.column f.1).readable

pub read_ray-requires-clause-rows : goal.read_ray-requires-clause-rows
read_ray-requires-clause-rows g c =
    let p = c.args.program.now in
    let u = g.T.Tableau.table c.args.tableau.now in
    let f : IsFinished p u (lp.Unbounded c.in-Unbounded.pivots c.in-Unbounded.column) = subst (IsFinished p u) c.in-Unbounded.is c.requires in
    (shown_unbounded p u f.0 c.in-Unbounded.pivots c.in-Unbounded.column f.1).rows

pub read_ray-requires-clause-columns : goal.read_ray-requires-clause-columns
read_ray-requires-clause-columns g c =
    let p = c.args.program.now in
    let u = g.T.Tableau.table c.args.tableau.now in
    let f : IsFinished p u (lp.Unbounded c.in-Unbounded.pivots c.in-Unbounded.column) = subst (IsFinished p u) c.in-Unbounded.is c.requires in
    (shown_unbounded p u f.0 c.in-Unbounded.pivots c.in-Unbounded.column f.1).columns

pub read_ray-requires-clause-column : goal.read_ray-requires-clause-column
read_ray-requires-clause-column g c =
    let p = c.args.program.now in
    let u = g.T.Tableau.table c.args.tableau.now in
    let f : IsFinished p u (lp.Unbounded c.in-Unbounded.pivots c.in-Unbounded.column) = subst (IsFinished p u) c.in-Unbounded.is c.requires in
    column_unbounded p u f.0 c.in-Unbounded.pivots c.in-Unbounded.column f.1

pub read_ray-requires-clause-enters : goal.read_ray-requires-clause-enters
read_ray-requires-clause-enters g c =
    let p = c.args.program.now in
    let u = g.T.Tableau.table c.args.tableau.now in
    let f : IsFinished p u (lp.Unbounded c.in-Unbounded.pivots c.in-Unbounded.column) = subst (IsFinished p u) c.in-Unbounded.is c.requires in
    new_unbounded p u f.0 c.in-Unbounded.pivots c.in-Unbounded.column f.1

pub returns-in-Optimal-clause-right : goal.returns-in-Optimal-clause-right
returns-in-Optimal-clause-right g c =
    let p = c.args.program.now in
    let u = g.T.Tableau.table c.args.tableau.now in
    let f : IsFinished p u (lp.Optimal c.in-Optimal.pivots) = subst (IsFinished p u) c.in-Optimal.is c.requires in
    IfOk-weaker c.read_costs.result (IsReading p.rows p.columns u status.Optimal) (IsRight p)
    (λ a r. subst (λ s. IsRightAs s p a) (sym r.status) (right_optimal p u f.0 c.in-Optimal.pivots f.1 a r)) c.read_costs.ensures.reading

pub returns-in-Infeasible-clause-right : goal.returns-in-Infeasible-clause-right
returns-in-Infeasible-clause-right g c =
    let p = c.args.program.now in
    let u = g.T.Tableau.table c.args.tableau.now in
    let f : IsFinished p u (lp.Infeasible c.in-Infeasible.pivots) = subst (IsFinished p u) c.in-Infeasible.is c.requires in
    IfOk-weaker c.read_costs-in-Infeasible.result (IsReading p.rows p.columns u status.Infeasible) (IsRight p)
    (λ a r. subst (λ s. IsRightAs s p a) (sym r.status) (right_infeasible p u f.0 c.in-Infeasible.pivots f.1 a r)) c.read_costs-in-Infeasible.ensures.reading

pub returns-in-Unbounded-clause-right : goal.returns-in-Unbounded-clause-right
returns-in-Unbounded-clause-right g c =
    let p = c.args.program.now in
    let u = g.T.Tableau.table c.args.tableau.now in
    let f : IsFinished p u (lp.Unbounded c.in-Unbounded.pivots c.in-Unbounded.column) = subst (IsFinished p u) c.in-Unbounded.is c.requires in
    IfOk-weaker c.read_ray.result (λ a. IsReading p.rows p.columns u status.Unbounded a × IsRayReading p.columns u c.in-Unbounded.column a) (IsRight p)
    (λ a r. subst (λ s. IsRightAs s p a) (sym r.0.status) (right_unbounded p u f.0 c.in-Unbounded.pivots c.in-Unbounded.column f.1 a r.0 r.1))
    (if_ok_both (IsReading p.rows p.columns u status.Unbounded) (IsRayReading p.columns u c.in-Unbounded.column) c.read_ray.result c.read_ray.ensures.reading c.read_ray.ensures.ray)
