-- What is formed in steps, entry by entry, up to the first that stops.
use Rattle.std.specs.Prelude.{◌≡◌, ⊤, ℕ, ◌<◌, List, length, Some, Result, Ok, Err, slice_get}
use Rattle.dcx_frac.specs.declared.fraction.Passes.{Passes}
use Rattle.dcx_atom.specs.declared.stops.ValueStop.{ValueStop}
use Rattle.dcx_atom.specs.declared.stops.ValueStop.TheVariants as stops
use Rattle.dcx_linear.specs.declared.stop.CoefStop.{CoefStop}
use Rattle.dcx_linear.specs.declared.stop.CoefStop.TheVariants as coefs

-- so many are formed, or forming stops at the first that isn't
abbrev pub FormsEach : {A E : Type 0} → (ℕ → Result A E → Type 0) → ℕ → Result (List A) E → Type 0
FormsEach F n (Ok xs) = (length xs ≡ n) × ((j : ℕ) (x : _) → slice_get xs j ≡ Some x → F j (Ok x))
FormsEach {A} F n (Err e) = (k : ℕ) × (k < n) × F k (Err e) × ((j : ℕ) → j < k → (x : A) × F j (Ok x))

-- what passes, passes at entry j
abbrev pub AtEntry : {A : Type 0} → ℕ → (Result A Passes → Type 0) → Result A ValueStop → Type 0
AtEntry j F (Ok x) = F (Ok x)
AtEntry j F (Err (stops.Passes entry passes)) = (entry ≡ j) × F (Err passes)
AtEntry j F (Err (stops.ZeroDivisor entry)) = ⊥
AtEntry j F (Err stops.Memory) = ⊥

-- the fact holds of what stops; nothing is said of want of memory
abbrev pub OnStop : ValueStop → (ValueStop → Type 0) → Type 0
OnStop (stops.Passes entry passes) P = P (stops.Passes entry passes)
OnStop (stops.ZeroDivisor entry) P = P (stops.ZeroDivisor entry)
OnStop stops.Memory P = ⊤

-- the answer is one that is formed, or memory ran out
abbrev pub IsFormed : {A : Type 0} → Result A ValueStop → (Result A ValueStop → Type 0) → Type 0
IsFormed (Ok x) P = P (Ok x)
IsFormed (Err stop) P = OnStop stop (λ e. P (Err e))

-- what stops entry j
abbrev pub stop_at : ℕ → CoefStop → ValueStop
stop_at j (coefs.Passes passes) = stops.Passes j passes
stop_at j coefs.Memory = stops.Memory
