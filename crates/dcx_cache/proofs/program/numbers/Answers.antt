-- A setting that fits has an entry for each that reducing reads.
use Rattle.std.proofs.Common.{IsSome}
use Rattle.dcx_linear.specs.Parameters.{entry_of}
use Rattle.dcx_cache.proofs.Arrays.{parameters_are_given}
use Rattle.dcx_cache.proofs.program.numbers.Goals as goal

pub reduce-requires-clause-given : goal.reduce-requires-clause-given
reduce-requires-clause-given g c = parameters_are_given c.args.problem.now c.args.setting.now c.requires.fits (λ setting name entry. IsSome (entry_of setting name entry))
