-- The state of the code as that of the definitions, and what is always so of it.
use Rattle.std.specs.Prelude.{◌≡◌, ℕ, List, Option, Some, map, option_map}
use Rattle.std.specs.HashSet.{contains}
use Rattle.dcx_point.specs.Pairs.{same_name}
use Rattle.dcx_arena.specs.Nodes.{Node, IsNode}
use Rattle.dcx_call.specs.declared.attribute.Variable.{Variable}
use Rattle.dcx_call.specs.declared.attribute.Parameter.{Parameter}
use Rattle.dcx_call.specs.declared.call.Call.{Call}
use Rattle.dcx_tree.specs.Problems.{IsObjective, AreConstraints, IsListed}
use Rattle.dcx_script_values.specs.declared.value.Value as code_value
use Rattle.dcx_script_values.specs.Values.{Value, State, Asked}
use Rattle.dcx_script_values.specs.Meant.{meant}
use Rattle.dcx_script_state.specs.declared.state.Asked as code_asked
use Rattle.dcx_script_state.specs.declared.state.State.TheInside.{Inside}
use Rattle.dcx_script_state.specs.Declarations.{is_reached}

-- ---- the state
abbrev pub names_of : List (List ℕ × code_value.Value) → List (List ℕ × Value)
names_of es = map (λ e. (e.0, meant e.1)) es

abbrev pub asked_of : code_asked.Asked → Asked
asked_of q = record { sense = q.objective.sense; objective = q.objective.node.0; objective_place = q.objective.place; constraints = q.constraints.items }

abbrev pub state_of : Inside → State
state_of s = record {
  names = names_of s.names.entries;
  nodes = s.tree;
  variables = s.declared.variables;
  parameters = s.declared.parameters;
  setting = s.setting;
  asked = option_map asked_of s.asked;
  events = s.events.items;
  steps = s.steps;
}

-- ---- what is always so
-- the problem begins at nodes, and the set holds the names of the parameters that it reaches
pub record IsAsked (nodes : List (Node Call)) (q : code_asked.Asked) : Type 0 where
  pub objective : IsObjective nodes q.objective.node
  pub constraints : AreConstraints nodes q.constraints.items
  pub reached : (name : List ℕ) → contains same_name q.reached name ≡ is_reached nodes (asked_of q) name

-- each variable and each parameter of the tree is declared with all its fields, and a problem that is asked begins there
pub record IsKept (nodes : List (Node Call)) (vs : List Variable) (ps : List Parameter) (asked : Option code_asked.Asked) : Type 0 where
  pub listed : (i : ℕ) (n : Node Call) → IsNode nodes i n → IsListed vs ps n.call
  pub begins : (q : code_asked.Asked) → asked ≡ Some q → IsAsked nodes q
