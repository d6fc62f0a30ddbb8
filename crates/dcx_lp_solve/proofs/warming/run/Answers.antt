-- The run starts from the first tableau of the program.
use Rattle.std.proofs.Common.{sym, subst}
use Rattle.dcx_tab.specs.Table.{Table}
use Rattle.dcx_tab.specs.First.{first_tableau}
use Rattle.dcx_chained.specs.declared.chained.Chained.{Chained}
use Rattle.dcx_chained.specs.Tables.{table_of}
use Rattle.dcx_lp_answer.specs.declared.answer.LpStatus.TheVariants as status
use Rattle.dcx_simplex.specs.Reading.{IsReading}
use Rattle.dcx_warm.specs.Install.{IsColumnList}
use Rattle.dcx_warm.specs.Warm.{WarmEnds}
use Rattle.dcx_lp_solve.proofs.warming.run.Goals as goal

pub warm-requires : goal.warm-requires
warm-requires c = record {
  first = (c.args.program.now, c.requires.first);
  listed = subst (λ (t : Table). IsColumnList t.plain c.args.columns.now) (sym c.requires.first) c.requires.list;
}

pub read-requires : goal.read-requires
read-requires c = c.in-Some.ensures.optimal c.args.program.now c.requires.first

pub returns-in-Ok-clause-runs : goal.returns-in-Ok-clause-runs
returns-in-Ok-clause-runs c =
    let e = c.in-Ok.end in
    let p = c.args.program.now in
    let u = c.warm.new.tableau in
    record {
      list = c.requires.list;
      pivots = c.in-Some.field-0;
      run = subst (λ (t : Chained). WarmEnds c.args.limit c.args.columns.now (first_tableau p) (table_of t) c.in-Some.field-0) (sym c.in-Ok.ensures.tableau)
          (subst (λ (t : Table). WarmEnds c.args.limit c.args.columns.now t (table_of u) c.in-Some.field-0) c.requires.first c.in-Some.ensures.some);
      numbers = subst (λ (t : Chained). IsReading p.rows p.columns (table_of t) status.Optimal e.answer) (sym c.in-Ok.ensures.tableau) c.in-Ok.ensures.numbers;
      no_ray = c.in-Ok.ensures.no_ray;
    }

pub returns-in-None-clause-runs : goal.returns-in-None-clause-runs
returns-in-None-clause-runs c = λ list t n w. c.in-None.ensures.none t n (subst (λ (x : Table). WarmEnds c.args.limit c.args.columns.now x t n) (sym c.requires.first) w)
