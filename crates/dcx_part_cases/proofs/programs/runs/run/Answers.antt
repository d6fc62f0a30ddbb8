-- The end is that of the run on the program.
use Rattle.std.proofs.Common.{sym, subst}
use Rattle.dcx_tab.specs.First.{first_tableau}
use Rattle.dcx_tab.specs.Views.{table_of}
use Rattle.dcx_simplex.specs.Whole.{RunEnds}
use Rattle.dcx_simplex.specs.Finished.{IsFinished}
use Rattle.dcx_simplex.specs.declared.run.LpEnd.TheVariants as lp
use Rattle.dcx_part_cases.proofs.programs.runs.run.Goals as goal

pub read_end-requires-in-Unbounded : goal.read_end-requires-in-Unbounded
read_end-requires-in-Unbounded c =
    let u = table_of c.solve-end.new.tableau in
    let e = lp.Unbounded c.in-Unbounded.pivots c.in-Unbounded.column in
    let f : RunEnds c.args.limit (first_tableau c.args.program.now) u e =
    subst (λ t. RunEnds c.args.limit t u e) c.in_ok-tableau.ensures (subst (RunEnds c.args.limit (table_of c.in_ok-tableau.tableau) u) c.in-Unbounded.is c.solve-end.ensures.run) in
    subst (IsFinished c.args.program.now u) (sym c.in-Unbounded.is) (c.args.limit, f)
