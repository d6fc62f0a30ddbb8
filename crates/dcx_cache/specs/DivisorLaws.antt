-- The laws of divisors and settings: where all nodes are formed none is divided by 0, and the setting is a fitting one.
use Rattle.dcx_frac.specs.declared.fraction.Frac.{Frac}
use Rattle.dcx_point.specs.Pairs.{Pairs}
use Rattle.dcx_convex.specs.Nodes.{Setting}
use Rattle.dcx_convex.specs.Rules.{Plain, Parametrized}
use Rattle.dcx_tree.specs.declared.problem.Problem.{Problem}
use Rattle.dcx_tree.specs.Meaning.{IsAccepted, IsDpp, IsFitting, setting_of}
use Rattle.dcx_linear.specs.declared.param_form.ParamForm.{ParamForm}
use Rattle.dcx_entries.specs.Nodes.{Table}
use Rattle.dcx_graph.specs.Forms.{AreFormedOfFracs, AreFormedOfParamForms}
use Rattle.dcx_fit.specs.Fit.{FitsParameters}
use Rattle.dcx_fit.specs.Laws.{DividesByNoZero}

abbrev pub FracsDivideByNoZero : Type 0
FracsDivideByNoZero = (p : Problem) (setting : Pairs) (table : Table Frac) → IsAccepted p → AreFormedOfFracs Plain p setting table → DividesByNoZero p (setting_of p setting)

abbrev pub ParamFormsDivideByNoZero : Type 0
ParamFormsDivideByNoZero = (p : Problem) (setting : Pairs) (table : Table ParamForm) → IsDpp p → AreFormedOfParamForms Parametrized p setting table → (s : Setting) → DividesByNoZero p s

-- a setting that fits the parameters is a fitting one
pub record FitWhereFormed (p : Problem) : Type 0 where
  pub fracs : IsAccepted p → (setting : Pairs) (table : Table Frac) → AreFormedOfFracs Plain p setting table → FitsParameters p.parameters setting → IsFitting p setting
  pub param_forms : IsDpp p → (setting given : Pairs) (table : Table ParamForm) → AreFormedOfParamForms Parametrized p setting table → FitsParameters p.parameters given → IsFitting p given

abbrev pub FormedAreFitting : Type 0
FormedAreFitting = (p : Problem) → FitWhereFormed p
