-- A program with affine coefficients lists entries of parameters that have arrays.
use Rattle.std.proofs.Common.{Result, Ok, Err, IfOk}
use Rattle.dcx_point.specs.Pairs.{Pairs}
use Rattle.dcx_convex.specs.Rules.{Parametrized}
use Rattle.dcx_tree.specs.declared.problem.Problem.{Problem}
use Rattle.dcx_linear.specs.declared.param_form.ParamForm.{ParamForm}
use Rattle.dcx_linear.specs.ParamForms.{form_of_number, number_of_form, sum_gives_form, change_gives_form, IsEntryForm}
use Rattle.dcx_graph.specs.declared.stop.ReduceStop.{ReduceStop}
use Rattle.dcx_graph.specs.Reduced.{Reduction}
use Rattle.dcx_graph.specs.Reducing.{Reduces, OrMemory}
use Rattle.dcx_graph.specs.Fixing.{IsListedProgram}
use Rattle.dcx_graph.specs.Fixed.{HaveArrays}
use Rattle.dcx_graph.proofs.Known.{programs_are_known}
use Rattle.dcx_graph.proofs.AtSetting.{known_are_listed}

pub listed : (p : Problem) (setting : Pairs) (r : Result (Reduction ParamForm) ReduceStop) → HaveArrays p setting →
    OrMemory r (λ q. q.program) (Reduces form_of_number number_of_form sum_gives_form change_gives_form (λ position name entry given f. IsEntryForm position name entry f) Parametrized p setting) →
    IfOk r (λ q. IsListedProgram setting q.program)
listed p setting (Ok q) arrays is = known_are_listed p setting q.program (programs_are_known Parametrized p setting is.nodes.table q.program is.nodes.formed is.program) arrays
listed p setting (Err e) arrays is = tt
