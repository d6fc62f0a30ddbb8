-- The unknowns of the variables are among those of a reduced program.
use Rattle.std.specs.Prelude.{◌≤◌, length, Ok}
use Rattle.dcx_frac.specs.declared.fraction.Frac.{Frac}
use Rattle.dcx_point.specs.Pairs.{Pairs}
use Rattle.dcx_tree.specs.declared.problem.Problem.{Problem}
use Rattle.dcx_linear.specs.declared.param_form.ParamForm.{ParamForm}
use Rattle.dcx_unknowns.specs.Unknowns.{variable_unknowns}
use Rattle.dcx_graph.specs.Program.{Program}
use Rattle.dcx_graph.specs.Fixing.{FixGives}
use Rattle.dcx_graph.specs.Correct.{ReducesNumbers, ReducesAffine}

-- of a program that a problem is reduced to at a setting, and of one with affine coefficients that is put at a setting
pub record ProgramsHaveUnknowns : Type 0 where
  pub numbers : (p : Problem) (setting : Pairs) (q : Program Frac) → ReducesNumbers p setting (Ok q) → variable_unknowns p.variables ≤ length q.kinds
  pub affine : (p : Problem) (setting other : Pairs) (m : Program ParamForm) (q : Program Frac) → ReducesAffine p setting (Ok m) → FixGives other m (Ok q)
      → variable_unknowns p.variables ≤ length q.kinds
