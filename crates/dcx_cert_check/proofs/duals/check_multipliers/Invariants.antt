-- The multipliers so far have their signs.
use Rattle.std.specs.Option.{option_copied}
use Rattle.dcx_cert_check.specs.Numbers.{number_if}
use Rattle.dcx_cert_check.specs.SingleChecks.{multiplier_signed}
use Rattle.dcx_cert_check.proofs.Steps.{PassBelow}
use Rattle.dcx_cert_check.proofs.duals.check_multipliers.Given as goal

abbrev pub invariant-entries : goal.invariant-entries
invariant-entries l = PassBelow (λ j. multiplier_signed l.constraint.kind l.number j (number_if (option_copied l.multipliers) j)) l.entry
