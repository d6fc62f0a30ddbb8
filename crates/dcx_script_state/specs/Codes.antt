-- How the logic stores a state: by its fields in a row.
use Rattle.std.specs.Prelude.{refl, ℕ, List, Option}
use Rattle.std.specs.Coded.{Coded, code_by, coded_list, coded_option, coded_ℕ, coded×}
use Rattle.dcx_shape.specs.declared.place.Place.{Place}
use Rattle.dcx_shape.specs.contracts.place.Place.{the_row as place_row}
use Rattle.dcx_shape.specs.declared.shape.Sides.{Sides}
use Rattle.dcx_shape.specs.contracts.shape.Sides.{the_row as sides_row}
use Rattle.dcx_atom.specs.contracts.array.Array.{the_row as array_row}
use Rattle.dcx_point.specs.Pairs.{Pairs}
use Rattle.dcx_arena.specs.Nodes.{Node}
use Rattle.dcx_call.specs.declared.attribute.Variable.{Variable}
use Rattle.dcx_call.specs.contracts.attribute.Variable.{the_row as variable_row}
use Rattle.dcx_call.specs.declared.attribute.Parameter.{Parameter}
use Rattle.dcx_call.specs.contracts.attribute.Parameter.{the_row as parameter_row}
use Rattle.dcx_call.specs.declared.call.Call.{Call}
use Rattle.dcx_call.specs.contracts.call.Call.{the_row as call_row}
use Rattle.dcx_tree.specs.declared.constraint.Sense.{Sense}
use Rattle.dcx_tree.specs.contracts.constraint.Sense.{the_row as sense_row}
use Rattle.dcx_tree.specs.declared.constraint.Constraint.{Constraint}
use Rattle.dcx_tree.specs.contracts.constraint.Constraint.{the_row as constraint_row}
use Rattle.dcx_script_values.specs.Values.{Value, Asked, State}
use Rattle.dcx_script_values.specs.Codes.{value_code}

abbrev pub name_code : Coded (List ℕ)
name_code = coded_list coded_ℕ

abbrev pub node_code : Coded (Node Call)
node_code =
    code_by (Call × (List ℕ × (Sides × Place))) (coded× call_row.coded (coded× (coded_list coded_ℕ) (coded× sides_row.coded place_row.coded)))
    (λ n. (n.call, (n.args, (n.sides, n.place)))) (λ p. record { call = p.0; args = p.1.0; sides = p.1.1.0; place = p.1.1.1 }) (λ n. refl)

abbrev pub pairs_code : Coded Pairs
pairs_code = coded_list (coded× name_code array_row.coded)

abbrev pub asked_code : Coded Asked
asked_code =
    code_by (Sense × (ℕ × (Place × List Constraint))) (coded× sense_row.coded (coded× coded_ℕ (coded× place_row.coded (coded_list constraint_row.coded))))
    (λ q. (q.sense, (q.objective, (q.objective_place, q.constraints))))
    (λ p. record { sense = p.0; objective = p.1.0; objective_place = p.1.1.0; constraints = p.1.1.1 }) (λ q. refl)

abbrev pub Fields : Type 0
Fields =
    List (List ℕ × Value) × (List (Node Call) × (List Variable × (List Parameter × (Pairs × (Option Asked × (List Pairs × ℕ))))))

abbrev pub fields_code : Coded Fields
fields_code =
    coded× (coded_list (coded× name_code value_code)) (coded× (coded_list node_code) (coded× (coded_list variable_row.coded) (coded× (coded_list parameter_row.coded)
    (coded× pairs_code (coded× (coded_option asked_code) (coded× (coded_list pairs_code) coded_ℕ))))))

abbrev pub state_code : Coded State
state_code =
    code_by Fields fields_code
    (λ s. (s.names, (s.nodes, (s.variables, (s.parameters, (s.setting, (s.asked, (s.events, s.steps))))))))
    (λ p. record {
      names = p.0;
      nodes = p.1.0;
      variables = p.1.1.0;
      parameters = p.1.1.1.0;
      setting = p.1.1.1.1.0;
      asked = p.1.1.1.1.1.0;
      events = p.1.1.1.1.1.1.0;
      steps = p.1.1.1.1.1.1.1;
    })
    (λ s. refl)
