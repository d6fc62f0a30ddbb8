-- Which settings fit the parameters of a problem, and which stop comes first.
--
-- The names of the setting are asked first, in its order, and then the parameters in order of declaration.
use Rattle.std.specs.Prelude.{◌≡◌, ◌≢◌, ℕ, ◌<◌, List, map, Some, None, slice_get}
use Rattle.std.specs.List.{All, Contains}
use Rattle.dcx_frac.specs.declared.fraction.Frac.{Frac}
use Rattle.dcx_shape.specs.declared.shape.Shape.{Shape}
use Rattle.dcx_shape.specs.Shape.{sides_of}
use Rattle.dcx_atom.specs.declared.array.Array.{Array}
use Rattle.dcx_atom.specs.Arrays.{number_at}
use Rattle.dcx_point.specs.Pairs.{Pairs, names_of, array_of}
use Rattle.dcx_call.specs.declared.attribute.Parameter.{Parameter}
use Rattle.dcx_call.specs.Attributes.{IsWithin}
use Rattle.dcx_call.specs.Values.{given_by, HasArray}
use Rattle.dcx_domain.specs.Entries.{LeavesFirstAt}
use Rattle.dcx_answer.specs.declared.stop.Stop.{Stop}
use Rattle.dcx_answer.specs.declared.stop.Stop.TheVariants.{UnknownParam, MissingParam, ParamShape, ParamSign, TooLarge, ZeroDivisor, Wide, PivotLimit, Memory}

-- ---- settings that fit
-- some parameter has this name
abbrev pub IsNamed : List Parameter → List ℕ → Type 0
IsNamed parameters name = Contains (map (λ q. q.name) parameters) name

-- the parameter has an array of its shape, and each entry is as the attribute demands
pub record IsMet (given : Pairs) (q : Parameter) : Type 0 where
  pub shaped : HasArray given q.name (sides_of q.shape)
  pub within : IsWithin q.attribute (sides_of q.shape) (given_by given q.name)

-- the setting names these parameters alone, and meets each of them
pub record FitsParameters (parameters : List Parameter) (given : Pairs) : Type 0 where
  pub named : All (IsNamed parameters) (names_of given)
  pub met : All (IsMet given) parameters

-- ---- what is wrong with a parameter
-- the array of the parameter has another shape
pub record IsMisshaped (given : Pairs) (q : Parameter) (declared shape : Shape) : Type 0 where
  pub array : Array
  pub there : array_of given q.name ≡ Some array
  pub is_declared : declared ≡ q.shape
  pub is_given : shape ≡ array.shape
  pub differs : sides_of shape ≢ sides_of declared

-- this entry of an array of the parameter's shape is the first that isn't as the attribute demands, and this number stands there
pub record IsFirstLeft (q : Parameter) (array : Array) (entry : ℕ) (v : Frac) : Type 0 where
  pub leaves : LeavesFirstAt q.attribute (sides_of q.shape) (number_at array.entries) entry
  pub number : slice_get array.entries entry ≡ Some v

-- the array of the parameter has its shape, and this entry is the first that isn't as the attribute demands
pub record BreaksSign (given : Pairs) (q : Parameter) (entry : ℕ) (v : Frac) : Type 0 where
  pub array : Array
  pub there : array_of given q.name ≡ Some array
  pub shape : sides_of array.shape ≡ sides_of q.shape
  pub first : IsFirstLeft q array entry v

-- the stop tells what is wrong with the parameter, or memory ran out where something is
abbrev pub IsFaultOf : Pairs → Parameter → Stop → Type 0
IsFaultOf given q (UnknownParam name) = ⊥
IsFaultOf given q (MissingParam name) = (name ≡ q.name) × (array_of given q.name ≡ None)
IsFaultOf given q (ParamShape name declared shape) = (name ≡ q.name) × IsMisshaped given q declared shape
IsFaultOf given q (ParamSign name entry v) = (name ≡ q.name) × BreaksSign given q entry v
IsFaultOf given q (TooLarge rows columns) = ⊥
IsFaultOf given q (ZeroDivisor node entry) = ⊥
IsFaultOf given q (Wide site) = ⊥
IsFaultOf given q (PivotLimit count) = ⊥
IsFaultOf given q Memory = ¬ IsMet given q

-- ---- the first misfit
-- this is the first name of the setting that no parameter has
pub record IsFirstUnknown (parameters : List Parameter) (given : Pairs) (name : List ℕ) : Type 0 where
  pub position : ℕ
  pub there : slice_get (names_of given) position ≡ Some name
  pub unknown : ¬ IsNamed parameters name
  pub before : (k : ℕ) (n : List ℕ) → k < position → slice_get (names_of given) k ≡ Some n → IsNamed parameters n

-- the stop names it, or memory ran out where there is one
abbrev pub IsUnknown : List Parameter → Pairs → Stop → Type 0
IsUnknown parameters given (UnknownParam name) = IsFirstUnknown parameters given name
IsUnknown parameters given (MissingParam name) = ⊥
IsUnknown parameters given (ParamShape name declared shape) = ⊥
IsUnknown parameters given (ParamSign name entry v) = ⊥
IsUnknown parameters given (TooLarge rows columns) = ⊥
IsUnknown parameters given (ZeroDivisor node entry) = ⊥
IsUnknown parameters given (Wide site) = ⊥
IsUnknown parameters given (PivotLimit count) = ⊥
IsUnknown parameters given Memory = ¬ All (IsNamed parameters) (names_of given)

-- the stop tells what is wrong with the first parameter that isn't met
pub record IsUnmet (parameters : List Parameter) (given : Pairs) (stop : Stop) : Type 0 where
  pub position : ℕ
  pub parameter : Parameter
  pub there : slice_get parameters position ≡ Some parameter
  pub fault : IsFaultOf given parameter stop
  pub before : (k : ℕ) (q : Parameter) → k < position → slice_get parameters k ≡ Some q → IsMet given q

-- all names are those of parameters, and the stop tells what is wrong with the first parameter that isn't met
pub record IsFirstUnmet (parameters : List Parameter) (given : Pairs) (stop : Stop) : Type 0 where
  pub named : All (IsNamed parameters) (names_of given)
  pub unmet : IsUnmet parameters given stop

-- the stop tells the first misfit, or memory ran out where there is one
abbrev pub IsFirstMisfit : List Parameter → Pairs → Stop → Type 0
IsFirstMisfit parameters given (UnknownParam name) = IsFirstUnknown parameters given name
IsFirstMisfit parameters given (MissingParam name) = IsFirstUnmet parameters given (MissingParam name)
IsFirstMisfit parameters given (ParamShape name declared shape) = IsFirstUnmet parameters given (ParamShape name declared shape)
IsFirstMisfit parameters given (ParamSign name entry v) = IsFirstUnmet parameters given (ParamSign name entry v)
IsFirstMisfit parameters given (TooLarge rows columns) = ⊥
IsFirstMisfit parameters given (ZeroDivisor node entry) = ⊥
IsFirstMisfit parameters given (Wide site) = ⊥
IsFirstMisfit parameters given (PivotLimit count) = ⊥
IsFirstMisfit parameters given Memory = ¬ FitsParameters parameters given
