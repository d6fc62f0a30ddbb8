-- Indices of values of any kind.
use Rattle.std.specs.Prelude.{ℕ, pos, negsuc, ℤ, int_le, Bool, not, ◌&&◌, if◌then◌else◌, List, [], ◌∷◌, length, slice_get, Option, Some, None, option_map, unwrap_or}
use Rattle.dcx_shape.specs.declared.place.Place.{Place}
use Rattle.dcx_shape.specs.declared.index.Pick.{Pick}
use Rattle.dcx_shape.specs.declared.index.Pick.TheVariants as picks
use Rattle.dcx_shape.specs.Shape.{sides_of}
use Rattle.dcx_shape.specs.Slice.{counted}
use Rattle.dcx_atom.specs.declared.array.Array.{Array}
use Rattle.dcx_call.specs.declared.call.Call.TheVariants as calls
use Rattle.dcx_call.specs.declared.linears.LinearCall.TheVariants as linears
use Rattle.dcx_array.specs.Shapes.{shape_with}
use Rattle.dcx_array.specs.Picks.{indexed, picked_array}
use Rattle.dcx_script_values.specs.declared.fault.ElabFault.TheVariants.{BadArgument, NotOffered, ShapeClash, IndexRange}
use Rattle.dcx_script_values.specs.Values.{Value, plain, list, expression, items_of, Act, ◌>>=◌, ◌>>◌, fault, or_fault, or_array_fault, unless}
use Rattle.dcx_script_values.specs.Nodes.{sides_of_node, push}
use Rattle.dcx_script_values.specs.Kinds.{whole_number, is_scalar}
use Rattle.dcx_script_values.specs.Operands.{as_plain, as_expression}

-- an index that was evaluated: a value, or the parts of a slice, of which each may be left out
pub data Evaluated : Type 0 where
  single : Value → Evaluated
  sliced : (start stop step : Option Value) → Evaluated

-- ---- what is picked
-- a part of a slice: left out, or a whole number; None where it is neither
abbrev pub slice_part : Option Value → Option (Option ℤ)
slice_part None = Some None
slice_part (Some v) = option_map Some (whole_number v)

abbrev pub is_zero_step : ℤ → Bool
is_zero_step z = int_le z (pos 0) && int_le (pos 0) z

-- a step that is left out is 1; there is no slice with the step 0
abbrev pub slice_by : Option ℤ → Option ℤ → ℤ → Option Pick
slice_by start stop step = if is_zero_step step then None else Some (picks.Range (record { start = start; stop = stop; step = step }))

abbrev pub slice_with : Option (Option ℤ) → Option (Option ℤ) → Option (Option ℤ) → Option Pick
slice_with (Some start) (Some stop) (Some step) = slice_by start stop (unwrap_or step (pos 1))
slice_with None stop step = None
slice_with (Some start) None step = None
slice_with (Some start) (Some stop) None = None

abbrev pub slice_of : (start stop step : Option Value) → Option Pick
slice_of start stop step = slice_with (slice_part start) (slice_part stop) (slice_part step)

-- what an index picks; None where a part is no whole number, or the step is 0
abbrev pub pick_of : Evaluated → Option Pick
pick_of (single v) = option_map picks.At (whole_number v)
pick_of (sliced start stop step) = slice_of start stop step

-- the picks, if each index picks
abbrev pub cons_pick : Option Pick → Option (List Pick) → Option (List Pick)
cons_pick (Some p) (Some ps) = Some (p ∷ ps)
cons_pick (Some p) None = None
cons_pick None ps = None

abbrev pub picks_of : List Evaluated → Option (List Pick)
picks_of [] = Some []
picks_of (x ∷ xs) = cons_pick (pick_of x) (picks_of xs)

-- ---- what is indexed
-- of a node: a call with the places
abbrev pub index_node : Place → ℕ → List Pick → Act ℕ
index_node place i ps = do
  sides ← sides_of_node i
  from ← or_fault (ShapeClash place) (shape_with sides)
  call ← or_array_fault place (indexed from ps)
  push place (calls.Linear (linears.Index call)) (i ∷ [])

-- of a plain array; a plain number has no index
abbrev pub index_plain : Place → Array → List Pick → Act Value
index_plain place a ps = do
  unless (BadArgument place) (not (is_scalar (sides_of a.shape)))
  as_plain (or_array_fault place (picked_array a ps))

-- of a list: one whole number; a slice of a list is not offered
abbrev pub item_at : Place → List Value → ℤ → Act Value
item_at place vs (pos i) = or_fault (IndexRange place) (slice_get vs i)
item_at place vs (negsuc i) = fault (IndexRange place)

abbrev pub index_list : Place → List Value → List Pick → Act Value
index_list place vs (picks.At z ∷ []) = item_at place vs (counted (length vs) z)
index_list place vs (picks.Range s ∷ []) = fault (NotOffered place)
index_list place vs [] = fault (BadArgument place)
index_list place vs (p ∷ q ∷ ps) = fault (BadArgument place)

-- what is made of the picks; that an index picks nothing comes first
abbrev pub with_picks : {A : Type 0} → Place → List Evaluated → (List Pick → Act A) → Act A
with_picks place xs f = do
  ps ← or_fault (BadArgument place) (picks_of xs)
  f ps

abbrev pub index_value : Place → Value → List Evaluated → Act Value
index_value place (plain a) xs = with_picks place xs (index_plain place a)
index_value place (expression i) xs = as_expression (with_picks place xs (index_node place i))
index_value place (list vs) xs = with_picks place xs (index_list place (items_of vs))
index_value place v xs = fault (BadArgument place)
