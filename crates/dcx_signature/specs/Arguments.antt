-- How arguments are given, by position and by name, and the order of the faults that they cause.
use Rattle.std.specs.Prelude.{
  ℕ,
  ◌+◌,
  nat_le,
  Bool,
  false,
  not,
  ◌&&◌,
  ◌||◌,
  if◌then◌else◌,
  List,
  [],
  ◌∷◌,
  ◌++◌,
  filter,
  filter_map,
  find,
  length,
  slice_get,
  Option,
  Some,
  None,
  option_and_then,
  option_map,
  is_some,
}
use Rattle.std.specs.List.{list_all, list_any}
use Rattle.std.specs.Map.{lookup}
use Rattle.dcx_shape.specs.declared.shape.Sides.{Sides}
use Rattle.dcx_shape.specs.declared.place.Place.{Place}
use Rattle.dcx_point.specs.Pairs.{same_name}
use Rattle.dcx_arena.specs.Nodes.{Node}
use Rattle.dcx_script_values.specs.call.Call.{Call}
use Rattle.dcx_signature.specs.declared.table.Takes.{Takes}
use Rattle.dcx_script_values.specs.declared.fault.ElabFault.TheVariants.{BadArgument}
use Rattle.dcx_script_values.specs.Values.{Value, nothing, Act, ◌>>◌, done, unless}
use Rattle.dcx_script_values.specs.Kinds.{reading, reading_sides}
use Rattle.dcx_signature.specs.Fits.{fits}
use Rattle.dcx_signature.specs.Table.{Param, Row, unnamed, x_word}

-- an argument that was evaluated: the name by which it is given, its first byte, and its value
pub record Given : Type 0 where
  pub word : Option (List ℕ)
  pub place : Place
  pub value : Value

-- an argument, and what it is given for; None where it is given for nothing
abbrev pub Matched : Type 0
Matched = Given × Option Param

-- ---- what an argument is given for
abbrev pub rest_param : Option Takes → Option Param
rest_param None = None
rest_param (Some t) = Some (unnamed false [] t)

abbrev pub or_rest : Option Param → Option Takes → Option Param
or_rest (Some p) rest = Some p
or_rest None rest = rest_param rest

-- the argument at this position
abbrev pub at_position : Row → ℕ → Option Param
at_position row i = or_rest (slice_get (filter (λ p. p.by_position) row.params) i) row.rest

-- the argument of this name
abbrev pub is_named : List ℕ → Param → Bool
is_named word p = p.by_name && same_name word p.word

abbrev pub of_word : Row → List ℕ → Option Param
of_word row word = find (is_named word) row.params

-- by position: the next one, unless one was given by name before; by name: the one of this name, unless it was given
abbrev pub param_for : Row → (position : ℕ) → (named : Bool) → (before : List (List ℕ)) → Option (List ℕ) → Option Param
param_for row position named before None = if named then None else at_position row position
param_for row position named before (Some word) = if list_any (same_name word) before then None else of_word row word

abbrev pub word_of : Option Param → List (List ℕ)
word_of None = []
word_of (Some p) = p.word ∷ []

abbrev pub matched_from : Row → (position : ℕ) → (named : Bool) → (before : List (List ℕ)) → List Given → List Matched
matched_from row position named before [] = []
matched_from row position named before (g ∷ gs) =
    (g, param_for row position named before g.word)
    ∷ matched_from row (position + 1) (named || is_some g.word) (before ++ word_of (param_for row position named before g.word)) gs

-- the arguments as written, each with what it is given for
abbrev pub matched : Row → List Given → List Matched
matched row gs = matched_from row 0 false [] gs

-- ---- what was given
abbrev pub Bound : Type 0
Bound = List (List ℕ × Value)

abbrev pub bound_pair : Matched → Option (List ℕ × Value)
bound_pair m = option_map (λ p. (p.word, m.0.value)) m.1

-- whether an argument is given for this word
abbrev pub is_for : List ℕ → Matched → Bool
is_for word m = list_any (same_name word) (word_of m.1)

abbrev pub bound_of : List Matched → Bound
bound_of ms = filter_map bound_pair ms

-- the value that was given for an argument
abbrev pub given_for : List ℕ → Bound → Option Value
given_for word bound = lookup (same_name word) bound

abbrev pub or_nothing : Option Value → Value
or_nothing None = nothing
or_nothing (Some v) = v

-- the same, and None where it was left out
abbrev pub value_for : List ℕ → Bound → Value
value_for word bound = or_nothing (given_for word bound)

-- ---- faults, in their order
-- an argument that is given for nothing, or is of a wrong kind, at that argument
abbrev pub is_right : Option Sides → Given → Option Param → Bool
is_right x g None = false
is_right x g (Some p) = fits x p.takes g.value

abbrev pub all_right : Option Sides → List Matched → Act (Unit {0})
all_right x [] = done tt
all_right x (m ∷ ms) = do
  unless (BadArgument m.0.place) (is_right x m.0 m.1)
  all_right x ms

-- the sides of what is given for x, where it is an operand
abbrev pub sides_of_x : List (Node Call) → Bound → Option Sides
sides_of_x nodes bound = option_and_then (λ v. reading_sides nodes (reading v)) (given_for x_word bound)

-- each argument that must be given is
abbrev pub is_given : Bound → Param → Bool
is_given bound p = not p.needed || is_some (given_for p.word bound)

abbrev pub are_given : Row → Bound → Bool
are_given row bound = list_all (is_given bound) row.params && nat_le row.least (length bound)

-- what was given for each argument, beside these nodes: faults of arguments as written, and then that of a missing one, at
-- the called expression
abbrev pub arguments : List (Node Call) → Place → Row → List Given → Act Bound
arguments nodes place row gs = do
  all_right (sides_of_x nodes (bound_of (matched row gs))) (matched row gs)
  unless (BadArgument place) (are_given row (bound_of (matched row gs)))
  done (bound_of (matched row gs))
