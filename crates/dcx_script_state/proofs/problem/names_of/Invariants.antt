-- The set holds a name exactly where one of the parameters that are passed has it.
use Rattle.std.proofs.Common.{◌≡◌, ℕ, List, take}
use Rattle.std.specs.HashSet.{contains}
use Rattle.std.specs.List.{list_any}
use Rattle.dcx_point.specs.Pairs.{same_name}
use Rattle.dcx_script_state.proofs.problem.names_of.Given as goal

abbrev pub invariant-loop-parameter : goal.invariant-loop-parameter
invariant-loop-parameter l = (name : List ℕ) → contains same_name l.names name ≡ list_any (λ p. same_name name p.name) (take l.parameter-index l.parameters)
