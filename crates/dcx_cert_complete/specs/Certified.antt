-- What a section that is built fails with, if it isn't accepted.
use Rattle.std.specs.Prelude.{◌≡◌, ◌⊎◌, Result, Ok, Err}
use Rattle.dcx_answer.specs.declared.cert_fault.CertFault.{CertFault}
use Rattle.dcx_answer.specs.declared.cert_fault.CertFault.TheVariants.{Memory}
use Rattle.dcx_cert_sections.specs.Checks.{Check, Checked}
use Rattle.dcx_cert_complete.specs.Bounded.{IsWide}

-- the check fails with nothing but an operation that passes 128 bits
abbrev pub FailsWide : Check → Type 0
FailsWide check = (f : CertFault) → check.fails f → IsWide f

-- the check passes, or what is told is an operation that passes, or that memory ran out
abbrev pub IsAcceptedOrWide : Check → Result (Unit {0}) CertFault → Type 0
IsAcceptedOrWide check (Ok x) = check.passes
IsAcceptedOrWide check (Err f) = (f ≡ Memory) ⊎ IsWide f

-- so it fails, and so is each answer of a checker
pub record IsCertified (check : Check) : Type 0 where
  pub fails : FailsWide check
  pub answered : (r : Result (Unit {0}) CertFault) → Checked check r → IsAcceptedOrWide check r
