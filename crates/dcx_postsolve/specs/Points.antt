-- Points of arrays from the numbers of unknowns.
use Rattle.std.specs.Prelude.{◌≡◌, ℕ, List, map, All, Some}
use Rattle.dcx_frac.specs.declared.fraction.Frac.{Frac}
use Rattle.dcx_shape.specs.Shape.{sides_of}
use Rattle.dcx_atom.specs.declared.array.Array.{Array}
use Rattle.dcx_atom.specs.Arrays as arrays
use Rattle.dcx_point.specs.Pairs.{Pairs, names_of, with_array}
use Rattle.dcx_call.specs.declared.attribute.Variable.{Variable}
use Rattle.dcx_call.specs.Values.{given_by, HasArray}
use Rattle.dcx_linear.specs.FormTerms.{Unknowns}
use Rattle.dcx_unknowns.specs.Unknowns.{sides_in, array_from, point_at}
use Rattle.dcx_unknowns.specs.Laws.{IsVariable}

-- unknowns with these numbers, and 0 past them
abbrev pub numbered : List Frac → Unknowns
numbered us n = arrays.number_at us n

-- the array of a variable whose unknowns begin with `first`: each entry is the number of the unknown that stands for it
pub record IsArrayFrom (us : List Frac) (first : ℕ) (v : Variable) (x : Array) : Type 0 where
  pub shape : sides_of x.shape ≡ sides_in v
  pub numbers : (j : ℕ) → arrays.number_at x.entries j ≡ array_from (numbered us) first (Some v) j

-- it is put under the name of the variable
pub record PutsArray (us : List Frac) (first : ℕ) (v : Variable) (before after : Pairs) : Type 0 where
  pub array : Array
  pub is : IsArrayFrom us first v array
  pub put : after ≡ with_array before v.name array

-- the point has the names of the variables, in order, and for each an array of its shape, whose entries are those of the point
-- of the unknowns, and 0 past them
pub record IsPointOf (vs : List Variable) (us : List Frac) (point : Pairs) : Type 0 where
  pub names : names_of point ≡ map (λ v. v.name) vs
  pub shaped : All (λ v. HasArray point v.name (sides_of v.shape)) vs
  pub numbers : (k : ℕ) (v : Variable) → IsVariable vs k v → (j : ℕ) → given_by point v.name j ≡ point_at vs (numbered us) k j
