-- What stands against a range, in its order.
use Rattle.std.proofs.Common.{refl, ap}
use Rattle.std.specs.Prelude.{option_copied}
use Rattle.dcx_range.specs.Parameters.{program_in}
use Rattle.dcx_range.proofs.Named.{scaling, free}
use Rattle.dcx_range.proofs.told.ranged.Goals as goal

pub returns-in-Err : goal.returns-in-Err
returns-in-Err c = c.in-Err.ensures.fault _

pub returns-in-None : goal.returns-in-None
returns-in-None c = (c.in-Ok.ensures.found.0, ap (λ o. program_in (option_copied o)) c.in-None.is)

pub returns-then-scales : goal.returns-then-scales
returns-then-scales c =
    let n = c.in-Ok.ensures.found in (
      c.in-Some.map.now.program,
      ap (λ o. program_in (option_copied o)) c.in-Some.is,
      scaling c.args.problem.now c.in-Some.map.now.program c.args.name.now c.in-Ok.position _ n.0 n.1 c.if-scales.ensures refl,
    )

pub returns-else-scales : goal.returns-else-scales
returns-else-scales c =
    let n = c.in-Ok.ensures.found in (
      c.in-Some.map.now.program,
      ap (λ o. program_in (option_copied o)) c.in-Some.is,
      free c.args.problem.now c.in-Some.map.now.program c.args.name.now c.in-Ok.position _ n.0 n.1 c.if-scales.ensures refl,
    )
