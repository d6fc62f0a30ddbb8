-- What a script asks at its end.
use Rattle.std.specs.Prelude.{◌≡◌, List, Some, None, Result, Ok, Err}
use Rattle.dcx_shape.specs.declared.place.Place.{Place}
use Rattle.dcx_tree.specs.declared.constraint.Constraint.{Constraint}
use Rattle.dcx_tree.specs.declared.roots.Roots.{Roots}
use Rattle.dcx_tree.specs.declared.problem.Problem.{Problem}
use Rattle.dcx_point.specs.Pairs.{Pairs}
use Rattle.dcx_tree.specs.Gather.{IsProblemOf}
use Rattle.dcx_script_values.specs.declared.fault.ElabFault.{ElabFault}
use Rattle.dcx_script_values.specs.declared.fault.ElabFault.TheVariants.{NoProblem, Memory}
use Rattle.dcx_script_values.specs.declared.value.Objective.{Objective}
use Rattle.dcx_script_values.specs.Values.{Asked, State}
use Rattle.dcx_script_state.specs.declared.problem.Asking.{Asking}
use Rattle.dcx_script_state.specs.Declarations.{standing_setting, events_or_end}

-- what is asked by an objective under constraints
abbrev pub asked_for : Objective → List Constraint → Asked
asked_for o cs = record { sense = o.sense; objective = o.node.0; objective_place = o.place; constraints = cs }

-- where the problem begins, over all that is declared
abbrev pub roots_in : State → Asked → Roots
roots_in s q = record {
  sense = q.sense;
  objective = record { 0 = q.objective };
  objective_place = q.objective_place;
  constraints = q.constraints;
  variables = s.variables;
  parameters = s.parameters;
}

-- the problem is what is reached of all nodes, and the settings are those of the solves, or of the end, and that of the end
pub record IsAsking (s : State) (q : Asked) (a : Asking) : Type 0 where
  pub problem : IsProblemOf s.nodes (roots_in s q) a.problem
  pub events : a.events.items ≡ events_or_end (standing_setting s) s.events
  pub last : a.last ≡ standing_setting s

-- where the fault of a script without a problem stands
abbrev pub script_start : Place
script_start = record { line = 1; column = 1 }

-- the problem that is asked for and the values that stand for it, or that there is none, unless memory ran out
abbrev pub Stands : Result (Problem × Pairs) ElabFault → State → Type 0
Stands (Ok p) s = (q : Asked) × (s.asked ≡ Some q) × (IsProblemOf s.nodes (roots_in s q) p.0) × (p.1 ≡ standing_setting s)
Stands (Err Memory) s = Unit {0}
Stands (Err e) s = (e ≡ NoProblem script_start) × (s.asked ≡ None)

-- what is asked at the end, or that there is no problem, unless memory ran out
abbrev pub Ends : Result Asking ElabFault → State → Type 0
Ends (Ok a) s = (q : Asked) × (s.asked ≡ Some q) × IsAsking s q a
Ends (Err Memory) s = Unit {0}
Ends (Err e) s = (e ≡ NoProblem script_start) × (s.asked ≡ None)
