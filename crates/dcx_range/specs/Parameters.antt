-- Which parameters have a range: numbers that stand in no coefficient of an unknown.
use Rattle.std.specs.Prelude.{◌≡◌, ◌≢◌, ℕ, ◌||◌, Bool, true, false, List, Option, Some, None, Result, Ok, Err}
use Rattle.dcx_shape.specs.declared.shape.Sides.TheVariants.{Scalar}
use Rattle.dcx_shape.specs.Shape.{sides_of}
use Rattle.dcx_call.specs.declared.attribute.Parameter.{Parameter}
use Rattle.dcx_tree.specs.declared.problem.Problem.{Problem}
use Rattle.dcx_linear.specs.declared.param_form.ParamForm.{ParamForm}
use Rattle.dcx_graph.specs.Program.{Program}
use Rattle.dcx_graph.specs.Reduced.{Reduction}
use Rattle.dcx_right.specs.Ranges.{place_of, HasParameter, IsNumber}
use Rattle.dcx_range.specs.Standing.{scales_row, scales_unknown}
use Rattle.dcx_answer.specs.declared.not_ranged.NotRanged.{NotRanged}
use Rattle.dcx_answer.specs.declared.not_ranged.NotRanged.TheVariants as faults

-- the parameter stands in the coefficient of an unknown in a row or in what is to be small
abbrev pub scales : ℕ → Program ParamForm → Bool
scales k q = scales_row k q.rows || scales_unknown k q.objective

-- it is an array with sides
pub record HasSides (p : Problem) (name : List ℕ) : Type 0 where
  pub at : ℕ
  pub parameter : Parameter
  pub named : HasParameter p name at parameter
  pub sides : sides_of parameter.shape ≢ Scalar

-- it is a number, and stands in no coefficient of an unknown of the program
pub record IsRanged (p : Problem) (q : Program ParamForm) (name : List ℕ) : Type 0 where
  pub number : IsNumber p name
  pub free : scales number.at q ≡ false

-- it is a number, and stands in one
pub record IsScaling (p : Problem) (q : Program ParamForm) (name : List ℕ) : Type 0 where
  pub number : IsNumber p name
  pub scaled : scales number.at q ≡ true

-- the program, where there is one
abbrev pub program_in : Option (Reduction ParamForm) → Option (Program ParamForm)
program_in None = None
program_in (Some map) = Some map.program

-- why the parameter with this name has no range, where o is the program with affine coefficients, if there is one; each case has none
-- of those before it
abbrev pub IsFaultOf : Problem → Option (Program ParamForm) → List ℕ → NotRanged → Type 0
IsFaultOf p o name faults.Unknown = place_of p.parameters name ≡ None
IsFaultOf p o name faults.Shape = HasSides p name
IsFaultOf p o name faults.Map = IsNumber p name × (o ≡ None)
IsFaultOf p o name faults.Coefficient = (q : Program ParamForm) × (o ≡ Some q) × IsScaling p q name

-- it has one, or that stands against it
abbrev pub IsTold : Problem → Option (Program ParamForm) → List ℕ → Result (Unit {0}) NotRanged → Type 0
IsTold p o name (Ok u) = (q : Program ParamForm) × (o ≡ Some q) × IsRanged p q name
IsTold p o name (Err fault) = IsFaultOf p o name fault

-- one thing is told of a name
abbrev pub TellsOnce : Type 0
TellsOnce = (p : Problem) (o : Option (Program ParamForm)) (name : List ℕ) (r s : Result (Unit {0}) NotRanged) → IsTold p o name r → IsTold p o name s → r ≡ s
