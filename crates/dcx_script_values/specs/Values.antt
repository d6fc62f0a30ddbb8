-- The values of a script, what is carried along from statement to statement, and the first fault.
use Rattle.std.specs.Prelude.{ℕ, ◌+◌, nat_lt, nat_le, max, if◌then◌else◌, Bool, ℤ, List, [], ◌∷◌, ◌++◌, Option, Some, None, Result, Ok, Err}
use Rattle.std.specs.Map.{lookup, remove_entry}
use Rattle.indexmap.specs.IndexMap.{insert_entry}
use Rattle.dcx_shape.specs.declared.shape.Sides.{Sides}
use Rattle.dcx_shape.specs.declared.shape.Sides.TheVariants.{Scalar, Vector, Matrix}
use Rattle.dcx_shape.specs.declared.place.Place.{Place}
use Rattle.dcx_shape.specs.Shape.{sides_of}
use Rattle.dcx_shape.specs.Sides.{entries_of}
use Rattle.dcx_atom.specs.declared.array.Array.{Array}
use Rattle.dcx_point.specs.Pairs.{Pairs, same_name}
use Rattle.dcx_arena.specs.declared.fault.Count.{Count}
use Rattle.dcx_arena.specs.declared.fault.Count.TheVariants.{Items, Steps}
use Rattle.dcx_arena.specs.Nodes.{Node}
use Rattle.dcx_call.specs.declared.attribute.Variable.{Variable}
use Rattle.dcx_call.specs.declared.attribute.Parameter.{Parameter}
use Rattle.dcx_call.specs.declared.call.Call.{Call}
use Rattle.dcx_syntax.specs.declared.tree.Module.{Module}
use Rattle.dcx_script_values.specs.declared.fault.ElabFault.{ElabFault}
use Rattle.dcx_script_values.specs.declared.fault.ElabFault.TheVariants.{UnknownName, BadArgument, TooMany}
use Rattle.dcx_script_values.specs.Faults.{array_fault_at}
use Rattle.dcx_tree.specs.declared.constraint.Sense.{Sense}
use Rattle.dcx_tree.specs.declared.constraint.Constraint.{Constraint}
use Rattle.dcx_array.specs.declared.fault.ArrayFault.{ArrayFault}
use Rattle.dcx_array.specs.Shapes.{told}

-- ---- values
mutual
  pub data Value : Type 0 where
    -- a plain number, which is an array of the shape (), or a plain array
    plain : Array → Value
    -- a text, as it stands in the script, with its quotes
    text : List ℕ → Value
    truth : Bool → Value
    nothing : Value
    tuple : Values → Value
    list : Values → Value
    -- first, first + step, .., so many
    range : (first step : ℤ) (count : ℕ) → Value
    library : Module → Value
    -- a node
    expression : ℕ → Value
    constraint : Constraint → Value
    -- a node, and the place of the call that made the objective
    objective : Sense → ℕ → Place → Value
    problem : Value
    -- what a solve gives
    result : Value

  -- values in order
  pub data Values : Type 0 where
    end : Values
    item : Value → Values → Values

abbrev pub values_of : List Value → Values
values_of [] = end
values_of (v ∷ vs) = item v (values_of vs)

abbrev pub items_of : Values → List Value
items_of end = []
items_of (item v vs) = v ∷ items_of vs

-- the list of these items
abbrev pub list_of : List Value → Value
list_of vs = list (values_of vs)

-- ---- what a list holds
-- a plain number counts 1, a plain array itself and its entries
abbrev pub plain_count : Sides → ℕ
plain_count Scalar = 1
plain_count (Vector n) = 1 + entries_of (Vector n)
plain_count (Matrix m n) = 1 + entries_of (Matrix m n)

abbrev mutual
  -- what a value counts as an item: itself, and what a list, a tuple or a plain array holds
  pub counted : Value → ℕ
  counted (plain a) = plain_count (sides_of a.shape)
  counted (tuple vs) = 1 + count vs
  counted (list vs) = 1 + count vs
  counted (text t) = 1
  counted (truth b) = 1
  counted nothing = 1
  counted (range first step n) = 1
  counted (library m) = 1
  counted (expression i) = 1
  counted (constraint c) = 1
  counted (objective s i p) = 1
  counted problem = 1
  counted result = 1

  -- what a list or a tuple of these items counts
  pub count : Values → ℕ
  count end = 0
  count (item v vs) = counted v + count vs

abbrev mutual
  -- how deep lists and tuples are nested in a value
  pub depth : Value → ℕ
  depth (tuple vs) = 1 + deepest vs
  depth (list vs) = 1 + deepest vs
  depth (plain a) = 0
  depth (text t) = 0
  depth (truth b) = 0
  depth nothing = 0
  depth (range first step n) = 0
  depth (library m) = 0
  depth (expression i) = 0
  depth (constraint c) = 0
  depth (objective s i p) = 0
  depth problem = 0
  depth result = 0

  pub deepest : Values → ℕ
  deepest end = 0
  deepest (item v vs) = max (depth v) (deepest vs)

-- ---- carrying out
-- where a problem begins
pub record Asked : Type 0 where
  pub sense : Sense
  pub objective : ℕ
  pub objective_place : Place
  pub constraints : List Constraint

-- what is carried along: the bound names in order, the nodes, what was declared in order, the values of parameters, the
-- problem once it is made, the setting of each solve, and the steps so far
pub record State : Type 0 where
  pub names : List (List ℕ × Value)
  pub nodes : List (Node Call)
  pub variables : List Variable
  pub parameters : List Parameter
  pub setting : Pairs
  pub asked : Option Asked
  pub events : List Pairs
  pub steps : ℕ

-- carrying something out: a value and what is then carried along, or the first fault
abbrev pub Act : Type 0 → Type 0
Act A = State → Result (A × State) ElabFault

abbrev pub and_then : {A B : Type 0} → Result (A × State) ElabFault → (A → Act B) → Result (B × State) ElabFault
and_then (Ok x) f = f x.0 x.1
and_then (Err e) f = Err e

infixl 10 ◌>>=◌
abbrev pub ◌>>=◌ : {A B : Type 0} → Act A → (A → Act B) → Act B
m >>= f = λ s. and_then (m s) f

infixl 10 ◌>>◌
abbrev pub ◌>>◌ : {B : Type 0} → Act (Unit {0}) → Act B → Act B
m >> k = m >>= λ _. k

abbrev pub done : {A : Type 0} → A → Act A
done x s = Ok (x, s)

abbrev pub fault : {A : Type 0} → ElabFault → Act A
fault e s = Err e

-- goes on where the test holds, and ends with the fault where it doesn't
abbrev pub unless : ElabFault → Bool → Act (Unit {0})
unless e b = if b then done tt else fault e

-- what is there, and else the fault
abbrev pub or_fault : {A : Type 0} → ElabFault → Option A → Act A
or_fault e None = fault e
or_fault e (Some x) = done x

-- a plain array, or its fault
abbrev pub or_array_fault : {A : Type 0} → Place → Result A ArrayFault → Act A
or_array_fault place (Ok x) = done x
or_array_fault place (Err f) = fault (array_fault_at place f)

-- what is carried along, and what is carried along from here on
abbrev pub read : {A : Type 0} → (State → A) → Act A
read f s = Ok (f s, s)

abbrev pub write : (State → State) → Act (Unit {0})
write f s = Ok (tt, f s)

-- ---- names
-- what a name is bound to
abbrev pub bound_to : List ℕ → Act (Option Value)
bound_to name = read (λ s. lookup (same_name name) s.names)

-- the value of a name
abbrev pub look : List ℕ → Place → Act Value
look name place = do
  v ← bound_to name
  or_fault (UnknownName place) v

-- a name that is bound keeps its place among the names
abbrev pub bind : List ℕ → Value → Act (Unit {0})
bind name v = write (λ s. record s { names = insert_entry same_name s.names name v })

abbrev pub unbind : List ℕ → Act (Unit {0})
unbind name = write (λ s. record s { names = remove_entry (same_name name) s.names })

-- as a name was before it was bound for a while
abbrev pub restore : List ℕ → Option Value → Act (Unit {0})
restore name (Some v) = bind name v
restore name None = unbind name

-- ---- limits
-- so many are too many; a count that is too great for its type is told as the greatest
abbrev pub too_many : Place → Count → ℕ → ElabFault
too_many place what n = TooMany place what (told n)

abbrev pub most_steps : ℕ
most_steps = 100000

-- one step more, whose statement or element begins here
abbrev pub step : Place → Act (Unit {0})
step place = do
  n ← read (λ s. s.steps)
  unless (too_many place Steps (n + 1)) (nat_lt n most_steps)
  write (λ s. record s { steps = s.steps + 1 })

abbrev pub most_items : ℕ
most_items = 20000

abbrev pub most_depth : ℕ
most_depth = 64

-- there is room for one item more in a list or a tuple that is opened here: it isn't nested too deep, and there aren't
-- too many
abbrev pub room : Place → List Value → Value → Act (Unit {0})
room place vs v = do
  unless (BadArgument place) (nat_lt (depth v) most_depth)
  unless (too_many place Items (count (values_of vs) + counted v)) (nat_lt (count (values_of vs) + counted v) (most_items + 1))

-- one item more of a list or a tuple that is opened here
abbrev pub with_room : Place → Values → Value → Act Values
with_room place vs v = do
  room place (items_of vs) v
  done (values_of (items_of vs ++ v ∷ []))

-- one list after the other
abbrev pub joined : Place → Values → Values → Act Values
joined place xs ys = do
  unless (too_many place Items (count (values_of (items_of xs ++ items_of ys)))) (nat_le (count (values_of (items_of xs ++ items_of ys))) most_items)
  done (values_of (items_of xs ++ items_of ys))
