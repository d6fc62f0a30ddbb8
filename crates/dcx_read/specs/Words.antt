-- The names that rules of the grammar spell out.
use Rattle.std.specs.Prelude.{ℕ, Bool, Option, Some, None, List, codes, bytes_eq, if◌then◌else◌}
use Rattle.dcx_shape.specs.declared.place.Place.{Place}
use Rattle.dcx_syntax.specs.declared.tree.Module.{Module}
use Rattle.dcx_syntax.specs.declared.tree.Module.TheVariants.{Cvxpy, Numpy}

-- a module's name, and its place
pub record ModuleAt : Type 0 where
  pub which : Module
  pub place : Place

abbrev pub module_named : List ℕ → Option Module
module_named bytes = if bytes_eq bytes (codes "cvxpy") then Some Cvxpy else (if bytes_eq bytes (codes "numpy") then Some Numpy else None)

abbrev pub is_value_word : List ℕ → Bool
is_value_word bytes = bytes_eq bytes (codes "value")
