-- The entries so far are the same.
use Rattle.std.specs.Option.{option_copied}
use Rattle.dcx_cert_check.specs.Numbers.{number_if}
use Rattle.dcx_cert_check.specs.SingleChecks.{entry_is}
use Rattle.dcx_cert_check.proofs.Steps.{PassBelow}
use Rattle.dcx_cert_check.proofs.parameters.check_entries.Given as goal

abbrev pub invariant-entries : goal.invariant-entries
invariant-entries l = PassBelow (λ j. entry_is l.number j (number_if (option_copied l.told) j) (number_if (option_copied l.setting) j)) l.entry
