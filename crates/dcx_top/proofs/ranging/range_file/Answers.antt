-- A parameter is asked by the bytes of its word.
use Rattle.std.proofs.Common.{refl, inl, inr, subst}
use Rattle.dcx_host.specs.Faults.{Rose}
use Rattle.dcx_top.specs.Solving.{RangesFrom}
use Rattle.dcx_top.proofs.ranging.range_file.Goals as goal

pub returns-in-Some-clause-run : goal.returns-in-Some-clause-run
returns-in-Some-clause-run g c = inr (tt, (c.in-Some.refusal, c.in-Some.ensures, refl, refl))

pub returns-in-Ok-clause-run : goal.returns-in-Ok-clause-run
returns-in-Ok-clause-run g c =
    let told = g.L.Library.told c.args.library.now in
    let rose = Rose (g.L.Library.faults c.args.library.now) (g.L.Library.faults c.range_work.new.library) in
    inl (
      (λ refusing. c.in_default.ensures),
      subst (λ n. RangesFrom told rose c.args.accepted.work c.args.settings.now n c.args.limit c.args.steps.now c.range_work.new.steps c.range_work.result) c.in-Ok.ensures c.range_work.ensures.run,
    )
