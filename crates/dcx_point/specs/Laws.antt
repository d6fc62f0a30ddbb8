-- What a put does, as the clause of the law function says it.
use Rattle.std.specs.Prelude.{◌≡◌, ◌≢◌, ℕ, List, [], ◌∷◌, ◌++◌, Some, None, IsSome}
use Rattle.dcx_atom.specs.declared.array.Array.{Array}
use Rattle.dcx_point.specs.Pairs.{Pairs, names_of, array_of, with_array}

-- what is put is found, and nothing else changes; a name that is there keeps its place, and a new one goes to the end
pub record HoldsForPuts : Type 0 where
  pub found : (pairs : Pairs) (name : List ℕ) (array : Array) → array_of (with_array pairs name array) name ≡ Some array
  pub others : (pairs : Pairs) (name other : List ℕ) (array : Array) → name ≢ other →
      array_of (with_array pairs name array) other ≡ array_of pairs other
  pub present : (pairs : Pairs) (name : List ℕ) (array : Array) → IsSome (array_of pairs name) →
      names_of (with_array pairs name array) ≡ names_of pairs
  pub absent : (pairs : Pairs) (name : List ℕ) (array : Array) → array_of pairs name ≡ None →
      with_array pairs name array ≡ pairs ++ (name, array) ∷ []
