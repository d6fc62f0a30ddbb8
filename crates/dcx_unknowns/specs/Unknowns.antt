-- The unknowns of variables: one for each entry that has its own, in order of declaration and row-major order. Points are
-- read from unknowns, and unknowns from points.
use Rattle.std.specs.Prelude.{◌≡◌, ℕ, suc, ◌+◌, List, [], ◌∷◌, ◌++◌, length, map, take, Option, Some, None, option_map, slice_get, slice_index_or, flat_map, sum_by, pos}
use Rattle.dcx_math.specs.Rational.{ℚ, whole}
use Rattle.dcx_shape.specs.declared.shape.Sides.{Sides}
use Rattle.dcx_shape.specs.Shape.{sides_of}
use Rattle.dcx_shape.specs.Sides.{entries_of}
use Rattle.dcx_shape.specs.Places.{places_below}
use Rattle.dcx_call.specs.declared.attribute.Attribute.{Attribute}
use Rattle.dcx_call.specs.declared.attribute.Attribute.TheVariants.{Free, Nonneg, Nonpos, Symmetric, Diag}
use Rattle.dcx_call.specs.declared.attribute.Variable.{Variable}
use Rattle.dcx_call.specs.Attributes.{counted}
use Rattle.dcx_convex.specs.Nodes.{Numbers, Point, zeros, first_of}
use Rattle.dcx_linear.specs.declared.row.UnknownKind.{UnknownKind}
use Rattle.dcx_linear.specs.declared.row.UnknownKind.TheVariants as kinds
use Rattle.dcx_linear.specs.FormTerms.{Unknowns}
use Rattle.dcx_unknowns.specs.Own.{own_entries, own_count, own_before, source_of}

-- what is demanded of a variable, and its sides
abbrev pub demanded : Variable → Attribute
demanded v = counted v.whole v.attribute

abbrev pub sides_in : Variable → Sides
sides_in v = sides_of v.shape

-- the entries of a variable that have an unknown of their own
abbrev pub own_of : Variable → List ℕ
own_of v = own_entries (demanded v) (sides_in v)

-- an entry of the variable with this number
pub record Owner : Type 0 where
  pub variable : ℕ
  pub entry : ℕ

-- the entries that have an unknown of their own, of variables the first of which has the number k
abbrev pub owners_from : ℕ → List Variable → List Owner
owners_from k [] = []
owners_from k (v ∷ vs) = map (λ e. record { variable = k; entry = e }) (own_of v) ++ owners_from (suc k) vs

-- the same of all variables: unknown n is that of owner n
abbrev pub owners : List Variable → List Owner
owners vs = owners_from 0 vs

abbrev pub variable_unknowns : List Variable → ℕ
variable_unknowns vs = length (owners vs)

-- ---- the kinds of the unknowns
abbrev pub kind_of : Attribute → UnknownKind
kind_of Free = kinds.Free
kind_of Nonneg = kinds.Nonneg
kind_of Nonpos = kinds.Nonpos
kind_of Symmetric = kinds.Free
kind_of Diag = kinds.Free

abbrev pub own_kinds : Variable → List UnknownKind
own_kinds v = map (λ e. kind_of (demanded v)) (own_of v)

abbrev pub variable_kinds : List Variable → List UnknownKind
variable_kinds vs = flat_map own_kinds vs

-- ---- the unknown of an entry
-- the unknowns of the variables before variable k
abbrev pub first_unknown : List Variable → ℕ → ℕ
first_unknown vs k = sum_by (λ v. own_count (demanded v) (sides_in v)) (take k vs)

-- for each variable where its unknowns begin
abbrev pub AreFirstsOf : List Variable → List ℕ → Type 0
AreFirstsOf vs firsts = firsts ≡ map (first_unknown vs) (places_below (length vs))

-- the unknown that stands for an entry of a variable whose unknowns begin with `first`; None where the entry is 0
abbrev pub unknown_in : ℕ → Attribute → Sides → ℕ → Option ℕ
unknown_in first attribute sides j = option_map (λ e. first + own_before attribute sides e) (source_of attribute sides j)

abbrev pub unknown_from : ℕ → Variable → ℕ → Option ℕ
unknown_from first v j = unknown_in first (demanded v) (sides_in v) j

-- ---- points
-- the number of an unknown, and 0 where there is none
abbrev pub number_at : Unknowns → Option ℕ → ℚ
number_at u None = whole (pos 0)
number_at u (Some n) = u n

-- the array of a variable whose unknowns begin with `first`
abbrev pub array_from : Unknowns → ℕ → Option Variable → Numbers
array_from u first None = zeros
array_from u first (Some v) = first_of (entries_of (sides_in v)) (λ j. number_at u (unknown_from first v j))

-- the arrays of the variables at unknowns
abbrev pub point_at : List Variable → Unknowns → Point
point_at vs u k = array_from u (first_unknown vs k) (slice_get vs k)

-- the number that a point has for an unknown of a variable
abbrev pub nobody : Owner
nobody = record { variable = 0; entry = 0 }

abbrev pub owner_at : List Variable → ℕ → Owner
owner_at vs n = slice_index_or (owners vs) n nobody

abbrev pub unknowns_of : List Variable → Point → Unknowns
unknowns_of vs x n = x (owner_at vs n).variable (owner_at vs n).entry
