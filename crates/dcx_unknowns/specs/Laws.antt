-- The laws of unknowns: how they are numbered, that there are few, and that points, domains and rays are such.
use Rattle.std.specs.Prelude.{◌≡◌, ℕ, ◌+◌, ◌<◌, ◌≤◌, true, List, length, Some, slice_get}
use Rattle.dcx_math.specs.Rational.{ℚ}
use Rattle.dcx_shape.specs.Sides.{entries_of}
use Rattle.dcx_atom.specs.Signs.{shifted}
use Rattle.dcx_call.specs.declared.attribute.Variable.{Variable}
use Rattle.dcx_convex.specs.Nodes.{Numbers, Point, Keeps}
use Rattle.dcx_convex.specs.Reductions.{further}
use Rattle.dcx_tree.specs.declared.problem.Problem.{Problem}
use Rattle.dcx_tree.specs.Nodes.{variable_attribute}
use Rattle.dcx_tree.specs.Meaning.{IsInDomain}
use Rattle.dcx_linear.specs.FormTerms.{Unknowns}
use Rattle.dcx_linear.specs.Rows.{AreOfKinds}
use Rattle.dcx_unknowns.specs.Own.{is_own, own_before}
use Rattle.dcx_unknowns.specs.Unknowns.{demanded, sides_in, owners, variable_unknowns, kind_of, variable_kinds, first_unknown, point_at, unknowns_of}
use Rattle.dcx_call.specs.Attributes.{AreSquare}

-- v is variable k
abbrev pub IsVariable : List Variable → ℕ → Variable → Type 0
IsVariable vs k v = slice_get vs k ≡ Some v

-- entry e of a variable is there and has an unknown of its own
pub record HasOwn (v : Variable) (e : ℕ) : Type 0 where
  pub within : e < entries_of (sides_in v)
  pub own : is_own (demanded v) (sides_in v) e ≡ true

-- unknowns are numbered by the entries that have their own, variable by variable, and each has the kind that is demanded
pub record AreNumbered (vs : List Variable) : Type 0 where
  pub owner : (k : ℕ) (v : Variable) (e : ℕ) → IsVariable vs k v → HasOwn v e →
      slice_get (owners vs) (first_unknown vs k + own_before (demanded v) (sides_in v) e) ≡ Some (record { variable = k; entry = e })
  pub kind : (k : ℕ) (v : Variable) (e : ℕ) → IsVariable vs k v → HasOwn v e →
      slice_get (variable_kinds vs) (first_unknown vs k + own_before (demanded v) (sides_in v) e) ≡ Some (kind_of (demanded v))
  pub all : first_unknown vs (length vs) ≡ variable_unknowns vs
  pub kinds : length (variable_kinds vs) ≡ variable_unknowns vs

-- the array is as is demanded of the variable
abbrev pub KeepsDomain : Variable → Numbers → Type 0
KeepsDomain v x = Keeps (variable_attribute v.whole v.attribute) (sides_in v) x

-- the array of each variable is
abbrev pub AreKept : List Variable → Point → Type 0
AreKept vs x = (k : ℕ) (v : Variable) → IsVariable vs k v → KeepsDomain v (x k)

-- two points have the same entries of the variables
abbrev pub AreAlike : List Variable → Point → Point → Type 0
AreAlike vs x y = (k : ℕ) (v : Variable) → IsVariable vs k v → (e : ℕ) → e < entries_of (sides_in v) → x k e ≡ y k e

-- unknowns of their kinds are a point of the domain, and a point of the domain is one of unknowns of their kinds
pub record StandForPoints (vs : List Variable) : Type 0 where
  pub point : (u : Unknowns) → AreOfKinds (variable_kinds vs) u → AreKept vs (point_at vs u)
  pub kinds : (x : Point) → AreKept vs x → AreOfKinds (variable_kinds vs) (unknowns_of vs x)
  pub same : (x : Point) → AreKept vs x → AreAlike vs (point_at vs (unknowns_of vs x)) x

-- the same of a problem, which has few unknowns of variables
pub record StandForDomain (p : Problem) : Type 0 where
  pub point : (u : Unknowns) → AreOfKinds (variable_kinds p.variables) u → IsInDomain p (point_at p.variables u)
  pub kinds : (x : Point) → IsInDomain p x → AreOfKinds (variable_kinds p.variables) (unknowns_of p.variables x)
  pub same : (x : Point) → IsInDomain p x → AreAlike p.variables (point_at p.variables (unknowns_of p.variables x)) x

-- ---- the statements
abbrev pub UnknownsAreNumbered : Type 0
UnknownsAreNumbered = (vs : List Variable) → AreNumbered vs

abbrev pub PointsAreUnknowns : Type 0
PointsAreUnknowns = (vs : List Variable) → AreSquare vs → StandForPoints vs

abbrev pub DomainsAreUnknowns : Type 0
DomainsAreUnknowns = (p : Problem) → StandForDomain p

-- the point of u + k d is the point of u plus k times the point of d
abbrev pub RaysAreUnknowns : Type 0
RaysAreUnknowns = (vs : List Variable) (u d : Unknowns) (k : ℚ) → point_at vs (further u k d) ≡ shifted (point_at vs u) k (point_at vs d)

-- the unknowns of a problem's variables are few: no variable has more than 20,000 entries, and there are no more variables
abbrev pub UnknownsAreFew : Type 0
UnknownsAreFew = (p : Problem) → variable_unknowns p.variables ≤ 400000000
