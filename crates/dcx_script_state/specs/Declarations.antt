-- Declarations of variables and parameters, the problem, its solves and their settings.
use Rattle.std.specs.Prelude.{ℕ, ◌+◌, nat_eq, nat_le, nat_lt, Bool, true, false, not, ◌&&◌, ◌||◌, List, [], ◌∷◌, ◌++◌, filter, length, Option, Some, None, is_none, is_some}
use Rattle.std.specs.List.{list_all, list_any, filter_map}
use Rattle.dcx_shape.specs.declared.shape.Sides.{Sides}
use Rattle.dcx_shape.specs.declared.shape.Shape.{Shape}
use Rattle.dcx_shape.specs.declared.place.Place.{Place}
use Rattle.dcx_shape.specs.Shape.{sides_of}
use Rattle.dcx_shape.specs.Sides.{entries_of}
use Rattle.dcx_atom.specs.declared.array.Array.{Array}
use Rattle.dcx_affine.specs.Places.{same_sides}
use Rattle.dcx_point.specs.Pairs.{Pairs, with_array}
use Rattle.dcx_arena.specs.declared.fault.Count.TheVariants.{Nodes, Entries, Events}
use Rattle.dcx_arena.specs.Nodes.{Node, most, call_at, sides_at}
use Rattle.dcx_arena.specs.Gather.{order_of}
use Rattle.dcx_call.specs.declared.attribute.Variable.{Variable}
use Rattle.dcx_call.specs.declared.attribute.Parameter.{Parameter}
use Rattle.dcx_call.specs.declared.call.Call.{Call}
use Rattle.dcx_call.specs.declared.call.Call.TheVariants as calls
use Rattle.dcx_tree.specs.declared.constraint.Constraint.{Constraint}
use Rattle.dcx_tree.specs.Gather as gather
use Rattle.dcx_tree.specs.Problems.{sides_in}
use Rattle.dcx_array.specs.Shapes.{shape_with}
use Rattle.dcx_script_values.specs.declared.fault.ElabFault.TheVariants.{BadArgument, NotOffered, ShapeClash, TwoProblems}
use Rattle.dcx_script_values.specs.Values.{Value, expression, constraint, objective, problem, result, Asked, State, Act, ◌>>=◌, ◌>>◌, done, or_fault, unless, read, write, too_many}
use Rattle.dcx_script_values.specs.Kinds.{Reading, is_square}
use Rattle.dcx_script_values.specs.Operands.{numbers_read}
use Rattle.dcx_script_values.specs.Nodes.{push}
use Rattle.dcx_script_state.specs.declared.flags.Flags.{Flags}
use Rattle.dcx_script_state.specs.Attributes.{may_stand, attribute_of, whole_of, sign_attribute}
use Rattle.dcx_script_state.specs.Lists.{is_among}

-- nothing is bound and nothing declared
abbrev pub start : State
start = record { names = []; nodes = []; variables = []; parameters = []; setting = []; asked = None; events = []; steps = 0 }

-- ---- declarations
-- a call that only a declaration makes
abbrev pub is_declaration : Call → Bool
is_declaration (calls.Variable v) = true
is_declaration (calls.Parameter p) = true
is_declaration (calls.Constant a) = false
is_declaration (calls.Atom a) = false
is_declaration (calls.Linear l) = false
is_declaration (calls.Pairing p) = false

abbrev pub is_declared : List ℕ → State → Bool
is_declared name s = is_among name s.variables s.parameters

-- the shape that is declared. Where it has too many entries, it is refused as the node that it would make: the nodes first,
-- and then the entries of the shape alone
abbrev pub declared_shape : Place → Sides → Act Shape
declared_shape place sides = do
  nodes ← read (λ s. s.nodes)
  unless (too_many place Nodes (length nodes + 1)) (is_some (shape_with sides) || nat_le (length nodes + 1) most)
  or_fault (too_many place Entries (entries_of sides)) (shape_with sides)

abbrev pub variable_with : List ℕ → Shape → Flags → Variable
variable_with name shape flags = record { name = name; shape = shape; attribute = attribute_of flags; whole = whole_of flags }

abbrev pub list_variable : Variable → Act (Unit {0})
list_variable v = write (λ s. record s { variables = s.variables ++ v ∷ [] })

-- a variable of this name, whose node comes to the tree at once
abbrev pub declare_variable : Place → List ℕ → Sides → Flags → Act Value
declare_variable place name sides flags = do
  again ← read (is_declared name)
  unless (BadArgument place) (may_stand flags && not again)
  unless (ShapeClash place) (not (flags.symmetric || flags.diag) || is_square sides)
  shape ← declared_shape place sides
  list_variable (variable_with name shape flags)
  i ← push place (calls.Variable (variable_with name shape flags)) []
  done (expression i)

abbrev pub set_value : List ℕ → Array → Act (Unit {0})
set_value name a = write (λ s. record s { setting = with_array s.setting name a })

-- the first value of a parameter, where one is given
abbrev pub first_value : Place → Option Reading → Act (Option Array)
first_value place None = done None
first_value place (Some r) = do
  a ← numbers_read place r
  done (Some a)

abbrev pub set_first : List ℕ → Option Array → Act (Unit {0})
set_first name None = done tt
set_first name (Some a) = set_value name a

abbrev pub parameter_with : List ℕ → Shape → (nonneg nonpos : Bool) → Parameter
parameter_with name shape nonneg nonpos = record { name = name; shape = shape; attribute = sign_attribute nonneg nonpos }

abbrev pub list_parameter : Parameter → Act (Unit {0})
list_parameter p = write (λ s. record s { parameters = s.parameters ++ p ∷ [] })

-- a parameter of this name; `unoffered` tells that an attribute is named that a parameter can't have
abbrev pub declare_parameter : Place → List ℕ → Sides → (nonneg nonpos unoffered : Bool) → Option Reading → Act Value
declare_parameter place name sides nonneg nonpos unoffered value = do
  again ← read (is_declared name)
  unless (BadArgument place) (not (nonneg && nonpos) && not again)
  unless (NotOffered place) (not unoffered)
  first ← first_value place value
  shape ← declared_shape place sides
  list_parameter (parameter_with name shape nonneg nonpos)
  i ← push place (calls.Parameter (parameter_with name shape nonneg nonpos)) []
  set_first name first
  done (expression i)

-- ---- `p.value = e`
-- the parameter whose node a value is
abbrev pub parameter_name : Option Call → Option (List ℕ)
parameter_name None = None
parameter_name (Some (calls.Variable v)) = None
parameter_name (Some (calls.Parameter p)) = Some p.name
parameter_name (Some (calls.Constant a)) = None
parameter_name (Some (calls.Atom a)) = None
parameter_name (Some (calls.Linear l)) = None
parameter_name (Some (calls.Pairing p)) = None

abbrev pub parameter_of : List (Node Call) → Value → Option (List ℕ)
parameter_of nodes (expression i) = parameter_name (call_at nodes i)
parameter_of nodes v = None

-- gives the parameter that a value stands for the numbers that are read
abbrev pub give : Place → Value → Reading → Act (Unit {0})
give place v r = do
  nodes ← read (λ s. s.nodes)
  name ← or_fault (BadArgument place) (parameter_of nodes v)
  a ← numbers_read place r
  set_value name a

-- ---- the problem
abbrev pub as_constraint : Value → Option Constraint
as_constraint (constraint c) = Some c
as_constraint v = None

-- the constraints among these values
abbrev pub constraint_list : List Value → List Constraint
constraint_list vs = filter_map as_constraint vs

abbrev pub asked_with : Value → List Value → Option Asked
asked_with (objective sense i p) vs = Some (record { sense = sense; objective = i; objective_place = p; constraints = constraint_list vs })
asked_with v vs = None

-- a node of one entry
abbrev pub is_objective : List (Node Call) → ℕ → Bool
is_objective nodes i = nat_lt i (length nodes) && nat_eq (entries_of (sides_at nodes i)) 1

-- a node with these sides
abbrev pub has_sides : List (Node Call) → Sides → ℕ → Bool
has_sides nodes sides i = nat_lt i (length nodes) && same_sides (sides_at nodes i) sides

-- both sides of a constraint are nodes, and have its shape
abbrev pub are_sides : List (Node Call) → Constraint → Bool
are_sides nodes c = has_sides nodes (sides_of c.shape) c.left.0 && has_sides nodes (sides_of c.shape) c.right.0

abbrev pub may_be_asked : List (Node Call) → Asked → Bool
may_be_asked nodes q = is_objective nodes q.objective && list_all (are_sides nodes) q.constraints

abbrev pub make_problem : Place → Value → List Value → Act Value
make_problem place v vs = do
  nodes ← read (λ s. s.nodes)
  before ← read (λ s. s.asked)
  asked ← or_fault (BadArgument place) (asked_with v vs)
  unless (BadArgument place) (may_be_asked nodes asked)
  unless (TwoProblems place) (is_none before)
  write (λ s. record s { asked = Some asked })
  done problem

-- ---- solves
-- where the problem begins: the objective, then the left and the right side of each constraint
abbrev pub roots_of : Asked → List ℕ
roots_of q = q.objective ∷ sides_in q.constraints

abbrev pub is_parameter : List ℕ → Option Call → Bool
is_parameter name None = false
is_parameter name (Some call) = gather.is_parameter name call

-- the problem reaches a parameter of this name
abbrev pub is_reached : List (Node Call) → Asked → List ℕ → Bool
is_reached nodes q name = list_any (λ i. is_parameter name (call_at nodes i)) (order_of nodes (roots_of q))

abbrev pub reached_values : List (Node Call) → Option Asked → Pairs → Pairs
reached_values nodes None setting = []
reached_values nodes (Some q) setting = filter (λ e. is_reached nodes q e.0) setting

-- the values of the parameters that the problem reaches
abbrev pub standing_setting : State → Pairs
standing_setting s = reached_values s.nodes s.asked s.setting

abbrev pub most_events : ℕ
most_events = 1000

abbrev pub solve : Place → Act Value
solve place = do
  events ← read (λ s. s.events)
  unless (too_many place Events (length events + 1)) (nat_lt (length events) most_events)
  write (λ s. record s { events = s.events ++ standing_setting s ∷ [] })
  done result

-- a script without a solve is solved once, at its end
abbrev pub events_or_end : Pairs → List Pairs → List Pairs
events_or_end last [] = last ∷ []
events_or_end last (e ∷ es) = e ∷ es
