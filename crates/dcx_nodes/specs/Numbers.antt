-- Arrays of the numbers that the entries of nodes are.
use Rattle.std.specs.Prelude.{◌≡◌, ℕ, List, [], ◌∷◌, Option, Some, slice_get}
use Rattle.std.specs.List.{AllZip}
use Rattle.dcx_frac.specs.declared.fraction.Frac.{Frac}
use Rattle.dcx_frac.specs.Frac.{value}
use Rattle.dcx_shape.specs.Shape.{sides_of}
use Rattle.dcx_atom.specs.declared.array.Array.{Array}
use Rattle.dcx_atom.specs.Arrays.{number_at}
use Rattle.dcx_arena.specs.Nodes.{sides_at}
use Rattle.dcx_tree.specs.Nodes.{Node}
use Rattle.dcx_entries.specs.declared.standing.Standing.{Standing}
use Rattle.dcx_entries.specs.declared.standing.Standing.TheVariants.{Numbers}
use Rattle.dcx_entries.specs.Parts.{number_in}
use Rattle.dcx_entries.specs.Standing.{entry_of}

-- entry by entry the number that stands there, and 0 where none does
abbrev pub HasNumbersOf : {C : Type 0} → (Frac → C) → (C → Option Frac) → Standing C → Array → Type 0
HasNumbersOf of_number number_of s x = (e : ℕ) → number_at x.entries e ≡ value (number_in number_of (entry_of of_number s e))

-- the same of node a, with its sides
pub record HasNumbersAt {C : Type 0} (of_number : Frac → C) (number_of : C → Option Frac) (nodes : List Node) (standing : List (Standing C)) (a : ℕ) (x : Array) : Type 0 where
  pub at : Standing C
  pub there : slice_get standing a ≡ Some at
  pub sides : sides_of x.shape ≡ sides_at nodes a
  pub numbers : HasNumbersOf of_number number_of at x

-- node by node
abbrev pub HaveNumbersOf : {C : Type 0} → (Frac → C) → (C → Option Frac) → List Node → List (Standing C) → List ℕ → List Array → Type 0
HaveNumbersOf of_number number_of nodes standing ids xs = AllZip (HasNumbersAt of_number number_of nodes standing) ids xs

-- there is but one node, whose value is this array
pub record AreOnlyNumbers {C : Type 0} (standing : List (Standing C)) (ids : List ℕ) (x : Array) : Type 0 where
  pub only : ℕ
  pub ids_are : ids ≡ only ∷ []
  pub value_is : slice_get standing only ≡ Some (Numbers x)
