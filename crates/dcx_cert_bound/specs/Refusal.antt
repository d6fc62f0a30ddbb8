-- A check that fails.
use Rattle.std.specs.Prelude.{◌≡◌}
use Rattle.dcx_answer.specs.declared.cert_fault.CertFault.{CertFault}
use Rattle.dcx_cert_sections.specs.Checks.{Check}

-- it fails with this fault
abbrev pub refused : CertFault → Check
refused fault = record { passes = ⊥; fails = λ f. f ≡ fault }
