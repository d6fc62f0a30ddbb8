-- The turns of a comprehension and of a `for`.
use Rattle.std.specs.Prelude.{ℕ, List, [], ◌∷◌, ◌++◌}
use Rattle.dcx_shape.specs.declared.place.Place.{Place}
use Rattle.dcx_script_values.specs.Values.{Value, Act, ◌>>=◌, ◌>>◌, done, bound_to, bind, restore, step, room}

-- ---- a comprehension
-- the element, with the name bound to an item meanwhile, and then again as it was; the element begins at `first`
abbrev pub turn : Place → List ℕ → Act Value → Value → Act Value
turn first name element v = do
  step first
  before ← bound_to name
  bind name v
  x ← element
  restore name before
  done x

-- the elements in order, onto those before, in a list that opens here
abbrev pub turns : Place → Place → List ℕ → Act Value → List Value → List Value → Act (List Value)
turns place first name element xs [] = done xs
turns place first name element xs (v ∷ vs) = do
  x ← turn first name element v
  room place xs x
  turns place first name element (xs ++ x ∷ []) vs

-- ---- a `for`
-- the body for each item; the name stays bound
abbrev pub each_turn : List ℕ → Act (Unit {0}) → List Value → Act (Unit {0})
each_turn name body [] = done tt
each_turn name body (v ∷ vs) = do
  bind name v
  body
  each_turn name body vs
