-- The coefficients that multipliers give at the start, handed on over all nodes by the weights.
use Rattle.std.specs.Prelude.{◌≡◌, ◌⊎◌, ℕ, Bool, List, length, Option, Result, Ok, Err}
use Rattle.dcx_frac.specs.declared.fraction.Frac.{Frac}
use Rattle.dcx_frac.specs.declared.fraction.Passes.{Passes}
use Rattle.dcx_atom.specs.declared.array.Array.{Array}
use Rattle.dcx_tree.specs.declared.problem.Problem.{Problem}
use Rattle.dcx_cert_collect.specs.declared.stop.CollectStop.{CollectStop}
use Rattle.dcx_cert_collect.specs.declared.stop.CollectStop.TheVariants as stops
use Rattle.dcx_cert_collect.specs.Multipliers.{start_table}
use Rattle.dcx_cert_collect.specs.Pass.{Kept, begin, then_on, pass_down}
use Rattle.dcx_answer.specs.declared.cert_fault.CertFault.{CertFault}
use Rattle.dcx_answer.specs.declared.cert_fault.CertFault.TheVariants as faults

-- the coefficients at the start are all that is collected at first, where no addition passes
abbrev pub begun : Result (List Frac) Passes → Result Kept CollectStop
begun (Ok table) = Ok (begin table)
begun (Err passes) = Err (stops.Passes passes)

-- all that is collected, where these are the values of the nodes without a variable below them; or what stops it first
abbrev pub collected : Problem → (values : List (Option Array)) → (duals : List Array) → (weights : ℕ → List Frac) → (with_objective : Bool) → Result Kept CollectStop
collected p values duals weights with_objective =
    then_on p.tree values weights (begun (start_table with_objective p duals)) (pass_down p.tree values weights (length p.tree))

-- the fault that tells what stops it
abbrev pub fault_of : CollectStop → CertFault
fault_of (stops.Slope node entry stated found) = faults.Slope node entry stated found
fault_of (stops.Passes passes) = faults.Wide passes
fault_of stops.Memory = faults.Memory

-- the fault tells what stops it, or memory ran out
abbrev pub IsFaultOrMemory : Result Kept CollectStop → CertFault → Type 0
IsFaultOrMemory told f = (f ≡ faults.Memory) ⊎ ((stop : CollectStop) × (told ≡ Err stop) × (f ≡ fault_of stop))
