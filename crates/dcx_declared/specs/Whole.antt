-- Variables whose entries are to be whole, and where the first one stands.
use Rattle.std.specs.Prelude.{◌≡◌, ◌≢◌, ℕ, ◌<◌, List, Some, slice_get}
use Rattle.dcx_shape.specs.declared.place.Place.{Place}
use Rattle.dcx_call.specs.declared.attribute.Variable.{Variable}
use Rattle.dcx_call.specs.declared.attribute.Whole.TheVariants.{Not}
use Rattle.dcx_tree.specs.declared.problem.Problem.{Problem}
use Rattle.dcx_declared.specs.Stands.{StandsAt}

-- the entries of variable k of the problem, in order of declaration, are to be whole
pub record IsWholeAt (p : Problem) (k : ℕ) : Type 0 where
  pub variable : Variable
  pub there : slice_get p.variables k ≡ Some variable
  pub marked : variable.whole ≢ Not

-- no variable of the problem is so
abbrev pub HasNoWhole : Problem → Type 0
HasNoWhole p = (k : ℕ) → ¬ IsWholeAt p k

abbrev pub HasWhole : Problem → Type 0
HasWhole p = (k : ℕ) × IsWholeAt p k

-- it is the first one
pub record IsFirstWhole (p : Problem) (k : ℕ) : Type 0 where
  pub is : IsWholeAt p k
  pub before : (j : ℕ) → j < k → ¬ IsWholeAt p j

-- the first one stands at this place
pub record StandsFirstWhole (p : Problem) (place : Place) : Type 0 where
  pub number : ℕ
  pub first : IsFirstWhole p number
  pub stands : StandsAt p first.is.variable.name place

-- ---- one place
-- a name stands at one place, and so does the first variable that is to be whole
pub record PlacesAreOne : Type 0 where
  pub of_names : (p : Problem) (name : List ℕ) (a b : Place) → StandsAt p name a → StandsAt p name b → a ≡ b
  pub of_wholes : (p : Problem) (a b : Place) → StandsFirstWhole p a → StandsFirstWhole p b → a ≡ b
