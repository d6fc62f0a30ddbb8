-- What checks in turn come to: the second counts where the first passes, and a fault of the first is theirs.
use Rattle.std.proofs.Common.{◌≡◌, ◌⊎◌, inl, inr, ℕ, ◌<◌, Result, Ok, Err}
use Rattle.dcx_answer.specs.declared.cert_fault.CertFault.{CertFault}
use Rattle.dcx_answer.specs.declared.cert_fault.CertFault.TheVariants.{Memory}
use Rattle.dcx_cert_sections.specs.Checks.{Check, in_turn, each_below, Checked}

-- the second of two checks, where the first passes
pub second_checked : {T : Type 0} (a b : Check) (r : Result T CertFault) → a.passes → Checked b r → Checked (in_turn a b) r
second_checked a b (Ok x) h k = (h, k)
second_checked a b (Err f) h (inl e) = inl e
second_checked a b (Err f) h (inr g) = inr (inr (h, g))

-- a fault of the first
pub first_failed : (a b : Check) (f : CertFault) → (f ≡ Memory) ⊎ a.fails f → (f ≡ Memory) ⊎ (in_turn a b).fails f
first_failed a b f (inl e) = inl e
first_failed a b f (inr g) = inr (inl g)

-- the first of many that fails
pub each_fails : (count : ℕ) (check : ℕ → Check) (k : ℕ) (f : CertFault) → k < count → ((i : ℕ) → i < k → (check i).passes) → (f ≡ Memory) ⊎ (check k).fails f
    → (f ≡ Memory) ⊎ (each_below count check).fails f
each_fails count check k f lt before (inl e) = inl e
each_fails count check k f lt before (inr h) = inr (record { position = k; there = lt; before = before; here = h })
