-- What follows from a check's result.
use Rattle.std.proofs.Common.{◌≡◌, ◌⊎◌, Result, Ok, Err}
use Rattle.dcx_answer.specs.declared.cert_fault.CertFault.{CertFault}
use Rattle.dcx_answer.specs.declared.cert_fault.CertFault.TheVariants.{Memory}
use Rattle.dcx_cert_sections.specs.Checks.{Check, Checked}

-- what one check comes to, where it comes to the same as another
pub checked_weaker : {T : Type 0} (a b : Check) (r : Result T CertFault) → (a.passes → b.passes) → ((f : CertFault) → (f ≡ Memory) ⊎ a.fails f → (f ≡ Memory) ⊎ b.fails f) → Checked a r → Checked b r
checked_weaker a b (Ok x) passes fails h = passes h
checked_weaker a b (Err f) passes fails h = fails f h
