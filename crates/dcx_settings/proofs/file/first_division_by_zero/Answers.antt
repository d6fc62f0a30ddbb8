-- A division by 0 that is found is the first, since none stands before it.
use Rattle.dcx_settings.proofs.file.first_division_by_zero.Goals as goal
use Rattle.dcx_settings.proofs.Files.{first_at, none_at}

pub returns-then-divides_by_zero : goal.returns-then-divides_by_zero
returns-then-divides_by_zero c = first_at c.args.text.now c.args.tokens.now c.loop-i.i _ c.divides_by_zero.ensures c.if-divides_by_zero.true c.loop-i.invariant

pub loop-i-preserved : goal.loop-i-preserved
loop-i-preserved c = none_at c.args.text.now c.args.tokens.now c.loop-i.i _ c.divides_by_zero.ensures c.if-divides_by_zero.false c.loop-i.invariant
