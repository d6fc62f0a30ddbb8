-- The variables and parameters that are declared, and the set of their names.
use Rattle.std.specs.Prelude.{◌≡◌, ℕ, Bool, ◌||◌, List}
use Rattle.std.specs.List.{list_any, IsDistinct}
use Rattle.dcx_point.specs.Pairs.{same_name}
use Rattle.dcx_call.specs.declared.attribute.Variable.{Variable}
use Rattle.dcx_call.specs.declared.attribute.Parameter.{Parameter}
use Rattle.dcx_call.specs.Attributes.{AreSquare}
use Rattle.dcx_tree.specs.Problems.{declared_names}

-- variables and parameters in order of declaration
pub record Lists : Type 0 where
  pub variables : List Variable
  pub parameters : List Parameter

-- a variable or a parameter has this name
abbrev pub is_among : List ℕ → List Variable → List Parameter → Bool
is_among name vs ps = list_any (λ v. same_name name v.name) vs || list_any (λ p. same_name name p.name) ps

-- the set, of which this tells what it has, is that of their names, no two have the same name, and symmetric and diagonal variables are
-- square
pub record AreNamed (vs : List Variable) (ps : List Parameter) (has : List ℕ → Bool) : Type 0 where
  pub told : (name : List ℕ) → has name ≡ is_among name vs ps
  pub distinct : IsDistinct same_name (declared_names vs ps)
  pub squares : AreSquare vs
