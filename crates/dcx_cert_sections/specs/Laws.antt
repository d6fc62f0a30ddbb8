-- Checks that tell one thing: none both passes and fails, and one that fails has one fault.
use Rattle.std.specs.Prelude.{◌≡◌, ℕ}
use Rattle.dcx_answer.specs.declared.cert_fault.CertFault.{CertFault}
use Rattle.dcx_cert_sections.specs.Checks.{Check, nothing, in_turn, each_below}

-- a check that passes doesn't fail, and one that fails has one fault
pub record IsSettled (check : Check) : Type 0 where
  pub apart : (f : CertFault) → check.passes → check.fails f → ⊥
  pub one : (f g : CertFault) → check.fails f → check.fails g → f ≡ g

-- checks of which each tells one thing tell one thing, one after the other
pub record AreSettledTogether : Type 1 where
  pub none : IsSettled nothing
  pub two : (a b : Check) → IsSettled a → IsSettled b → IsSettled (in_turn a b)
  pub many : (count : ℕ) (check : ℕ → Check) → ((k : ℕ) → IsSettled (check k)) → IsSettled (each_below count check)
