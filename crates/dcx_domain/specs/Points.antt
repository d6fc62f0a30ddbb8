-- Where a point first leaves the domain of a problem: variables by position in order of declaration, then entries.
use Rattle.std.specs.Prelude.{◌≡◌, ℕ, ◌<◌, List, Some, slice_get}
use Rattle.dcx_point.specs.Pairs.{Pairs}
use Rattle.dcx_call.specs.declared.attribute.Variable.{Variable}
use Rattle.dcx_call.specs.Attributes.{IsInDomain}
use Rattle.dcx_call.specs.Values.{given_by}
use Rattle.dcx_domain.specs.declared.point.Outside.{Outside}
use Rattle.dcx_domain.specs.Entries.{LeavesDomainFirstAt}

-- the array that the point gives the variable is in the variable's domain; one that isn't given counts as 0
abbrev pub IsInside : Variable → Pairs → Type 0
IsInside v given = IsInDomain v (given_by given v.name)

-- the variables before this one are inside, and this is its first entry that leaves
pub record IsFirstOutside (variables : List Variable) (given : Pairs) (outside : Outside) : Type 0 where
  pub variable : Variable
  pub there : slice_get variables outside.variable ≡ Some variable
  pub entry : LeavesDomainFirstAt variable (given_by given variable.name) outside.entry
  pub before : (k : ℕ) (v : Variable) → k < outside.variable → slice_get variables k ≡ Some v → IsInside v given
