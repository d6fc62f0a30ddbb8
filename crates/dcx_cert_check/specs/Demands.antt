-- Single demands, and checks of each item of a list.
use Rattle.std.specs.Prelude.{◌≡◌, ℕ, List, length, Option, Some, None, slice_get}
use Rattle.dcx_answer.specs.declared.cert_fault.CertFault.{CertFault}
use Rattle.dcx_cert_sections.specs.Checks.{Check, nothing, each_below}

-- a demand, and the fault that tells that it isn't met
abbrev pub demand : Type 0 → CertFault → Check
demand met fault = record { passes = met; fails = λ f. (¬ met) × (f ≡ fault) }

-- a check of an item, where there is one
abbrev pub check_if : {X : Type 0} → (X → Check) → Option X → Check
check_if check None = nothing
check_if check (Some x) = check x

-- a check of each item of a list, in order, by its position
abbrev pub each_in : {X : Type 0} → List X → (ℕ → X → Check) → Check
each_in xs check = each_below (length xs) (λ k. check_if (check k) (slice_get xs k))
