-- What an expression means: one line for each form of the syntax tree.
use Rattle.std.specs.Prelude.{ℕ, Bool, true, false, ◌&&◌, if◌then◌else◌, codes, List, [], ◌∷◌, ◌++◌, Option, Some, None}
use Rattle.std.specs.List.{list_any}
use Rattle.dcx_shape.specs.declared.place.Place.{Place}
use Rattle.dcx_point.specs.Pairs.{same_name}
use Rattle.dcx_syntax.specs.declared.tree.Named.{Named}
use Rattle.dcx_syntax.specs.declared.tree.Module.{Module}
use Rattle.dcx_syntax.specs.declared.tree.Signed.{Signed}
use Rattle.dcx_syntax.specs.Expressions.{
  Expr,
  expr,
  Compared,
  no_comparison,
  compared,
  Sum,
  sum,
  Added,
  no_addition,
  added,
  Term,
  term,
  Scaled,
  no_scaling,
  scaled,
  Factor,
  factor,
  Power,
  power_of,
  Raised,
  no_power,
  raised,
  Exponent,
  exponent,
  Postfix,
  postfix,
  Trailers,
  no_trailer,
  attribute,
  call,
  indexed,
  Args,
  no_args,
  args,
  MoreArgs,
  args_end,
  args_comma,
  more_args,
  Arg,
  by_place,
  by_name,
  Indices,
  no_index,
  more_indices,
  Index,
  at,
  slice,
  Optional,
  absent,
  present,
  Step,
  no_step,
  step,
  Primary,
  number_at,
  text_at,
  name_at,
  truth_at,
  none_at,
  unit,
  round,
  tuple,
  empty_list,
  list,
  comprehension,
  Items,
  no_items,
  items,
  MoreItems,
  items_end,
  items_comma,
  more_items,
}
use Rattle.dcx_script_values.specs.declared.fault.ElabFault.TheVariants.{UnknownName, UnknownCall, NotOffered}
use Rattle.dcx_signature.specs.declared.table.Function.TheVariants as functions
use Rattle.dcx_script_values.specs.Values.{
  Value,
  plain,
  text,
  truth,
  nothing,
  tuple as tuple_value,
  list as list_value,
  library,
  problem,
  end,
  values_of,
  list_of,
  Act,
  ◌>>=◌,
  ◌>>◌,
  done,
  fault,
  or_fault,
  read,
  look,
  bound_to,
  room,
}
use Rattle.dcx_array.specs.Arrays.{number}
use Rattle.dcx_operators.specs.Operators.{add_values, scale_values, sign_value, compare_values}
use Rattle.dcx_operators.specs.Indices.{Evaluated, single, sliced, index_value}
use Rattle.dcx_operators.specs.Attributes.{attribute_value}
use Rattle.dcx_signature.specs.Table.{function_named, ignored_words, solve_row}
use Rattle.dcx_signature.specs.Arguments.{Given, arguments}
use Rattle.dcx_script_state.specs.Declarations.{solve}
use Rattle.dcx_functions.specs.Calls.{function_called}
use Rattle.dcx_signature.specs.Turns.{items_through}
use Rattle.dcx_elab.specs.Turns.{turns}
use Rattle.dcx_signature.specs.Firsts.{primary_place, expr_place}

-- ---- calls
-- a name that is called without a dot: `range`, where no name is bound so; a bound name is no call, and another isn't known
abbrev pub is_range_unless : Named → Option Value → Act Bool
is_range_unless n (Some v) = done false
is_range_unless n None = if same_name n.name (codes "range") then done true else fault (UnknownName n.place)

abbrev pub is_range : Named → Act Bool
is_range n = do
  v ← bound_to n.name
  is_range_unless n v

abbrev pub name_called : Named → Bool → List Given → Act Value
name_called n true gs = function_called None n.place functions.Range gs
name_called n false gs = fault (UnknownCall n.place)

-- `value`, `status` and `dual_value` are read in `print` alone
abbrev pub is_answer : List ℕ → Bool
is_answer name = list_any (same_name name) (codes "value" ∷ codes "status" ∷ codes "dual_value" ∷ [])

abbrev pub is_solve : Value → List ℕ → Bool
is_solve problem name = same_name name (codes "solve")
is_solve v name = false

abbrev pub solve_called : Place → List Given → Act Value
solve_called place gs = do
  nodes ← read (λ s. s.nodes)
  bound ← arguments nodes place solve_row gs
  solve place

abbrev pub no_method : Place → Named → Act Value
no_method place n = if is_answer n.name then fault (NotOffered n.place) else fault (UnknownCall place)

-- a name of a module
abbrev pub module_called : Option (List ℕ) → Place → Module → Named → List Given → Act Value
module_called target place m n gs = do
  f ← or_fault (UnknownCall place) (function_named m n.name)
  function_called target place f gs

-- `v.n(..)` with these arguments, which is called from `place` on: a name of a module, a solve, or none
abbrev pub method_called : Option (List ℕ) → Place → Value → Named → List Given → Act Value
method_called target place (library m) n gs = module_called target place m n gs
method_called target place v n gs = if is_solve v n.name then solve_called place gs else no_method place n

-- the target, where nothing follows the call
abbrev pub target_before : Option (List ℕ) → Trailers → Option (List ℕ)
target_before target no_trailer = target
target_before target (attribute n rest) = None
target_before target (call p xs rest) = None
target_before target (indexed p x xs rest) = None

-- a solve doesn't look at these
abbrev pub is_ignored : Bool → List ℕ → Bool
is_ignored solving name = solving && list_any (same_name name) ignored_words

abbrev pub given : Option (List ℕ) → Place → Act Value → Act Given
given word place m = do
  v ← m
  done (record { word = word; place = place; value = v })

-- ---- signs before an operand, the last one first
abbrev pub signed : List Signed → Value → Act Value
signed [] v = done v
signed (s ∷ ss) v = do
  w ← signed ss v
  sign_value s.sign s.place w

-- ---- one item more of a list or a tuple that is opened at `place`
abbrev pub with_item : Place → List Value → Act Value → Act (List Value)
with_item place vs m = do
  v ← m
  room place vs v
  done (vs ++ v ∷ [])

-- ---- the forms
abbrev mutual
  pub expr_means : Expr → Act Value
  expr_means (expr first rest) = do
    v ← sum_means first
    compared_means rest v

  -- what the first comparison makes of the value on its left
  pub compared_means : Compared → Value → Act Value
  compared_means no_comparison v = done v
  compared_means (compared c place x rest) v = do
    w ← sum_means x
    u ← compare_values c place v w
    chained_means rest u

  -- a second comparison is not offered
  pub chained_means : Compared → Value → Act Value
  chained_means no_comparison v = done v
  chained_means (compared c place x rest) v = do
    w ← sum_means x
    fault (NotOffered place)

  pub sum_means : Sum → Act Value
  sum_means (sum first rest) = do
    v ← term_means first
    added_means rest v

  pub added_means : Added → Value → Act Value
  added_means no_addition v = done v
  added_means (added sign place x rest) v = do
    w ← term_means x
    u ← add_values sign place v w
    added_means rest u

  pub term_means : Term → Act Value
  term_means (term first rest) = do
    v ← factor_means first
    scaled_means rest v

  pub scaled_means : Scaled → Value → Act Value
  scaled_means no_scaling v = done v
  scaled_means (scaled scaling place x rest) v = do
    w ← factor_means x
    u ← scale_values scaling place v w
    scaled_means rest u

  pub factor_means : Factor → Act Value
  factor_means (factor signs x) = do
    v ← power_means x
    signed signs v

  pub power_means : Power → Act Value
  power_means (power_of first rest) = do
    v ← postfix_means None first
    raised_means rest v

  -- a power is not offered
  pub raised_means : Raised → Value → Act Value
  raised_means no_power v = done v
  raised_means (raised place x rest) v = do
    w ← exponent_means x
    fault (NotOffered place)

  pub exponent_means : Exponent → Act Value
  exponent_means (exponent signs x) = do
    v ← postfix_means None x
    signed signs v

  -- the target is the name to which the whole is assigned
  pub postfix_means : Option (List ℕ) → Postfix → Act Value
  postfix_means target (postfix (name_at n) (call p xs rest)) = do
    ranged ← is_range n
    gs ← args_mean false xs
    v ← name_called n ranged gs
    trailers_mean target n.place rest v
  postfix_means target (postfix x trailers) = do
    v ← primary_means x
    trailers_mean target (primary_place x) trailers v

  -- what trailers make of a value, whose first token stands at `place`
  pub trailers_mean : Option (List ℕ) → Place → Trailers → Value → Act Value
  trailers_mean target place no_trailer v = done v
  trailers_mean target place (attribute n (call p xs rest)) v = do
    gs ← args_mean (is_solve v n.name) xs
    w ← method_called (target_before target rest) place v n gs
    trailers_mean target place rest w
  trailers_mean target place (attribute n rest) v = do
    w ← attribute_value n.place n.name v
    trailers_mean target place rest w
  trailers_mean target place (call p xs rest) v = do
    gs ← args_mean false xs
    fault (UnknownCall place)
  trailers_mean target place (indexed p x xs rest) v = do
    i ← index_means x
    is ← indices_mean xs
    w ← index_value p v (i ∷ is)
    trailers_mean target place rest w

  pub args_mean : (solving : Bool) → Args → Act (List Given)
  args_mean solving no_args = done []
  args_mean solving (args x rest) = do
    g ← arg_means solving x
    gs ← more_args_mean solving rest
    done (g ∷ gs)

  pub more_args_mean : (solving : Bool) → MoreArgs → Act (List Given)
  more_args_mean solving args_end = done []
  more_args_mean solving args_comma = done []
  more_args_mean solving (more_args x rest) = do
    g ← arg_means solving x
    gs ← more_args_mean solving rest
    done (g ∷ gs)

  pub arg_means : (solving : Bool) → Arg → Act Given
  arg_means solving (by_place x) = given None (expr_place x) (expr_means x)
  arg_means solving (by_name n x) = given (Some n.name) n.place (if is_ignored solving n.name then done nothing else expr_means x)

  pub indices_mean : Indices → Act (List Evaluated)
  indices_mean no_index = done []
  indices_mean (more_indices x rest) = do
    i ← index_means x
    is ← indices_mean rest
    done (i ∷ is)

  pub index_means : Index → Act Evaluated
  index_means (at x) = do
    v ← expr_means x
    done (single v)
  index_means (slice start stop by) = do
    a ← optional_means start
    b ← optional_means stop
    c ← step_means by
    done (sliced a b c)

  pub optional_means : Optional → Act (Option Value)
  optional_means absent = done None
  optional_means (present x) = do
    v ← expr_means x
    done (Some v)

  pub step_means : Step → Act (Option Value)
  step_means no_step = done None
  step_means (step x) = optional_means x

  pub primary_means : Primary → Act Value
  primary_means (number_at x place) = done (plain (number x))
  primary_means (text_at t place) = done (text t)
  primary_means (name_at n) = look n.name n.place
  primary_means (truth_at b place) = done (truth b)
  primary_means (none_at place) = done nothing
  primary_means (unit place) = done (tuple_value end)
  primary_means (round place x) = expr_means x
  primary_means (tuple place x rest) = do
    vs ← with_item place [] (expr_means x)
    ws ← items_mean place rest vs
    done (tuple_value (values_of ws))
  primary_means (empty_list place) = done (list_value end)
  primary_means (list place x rest) = do
    vs ← with_item place [] (expr_means x)
    ws ← more_items_mean place rest vs
    done (list_of ws)
  primary_means (comprehension place x for_place n from) = do
    v ← expr_means from
    vs ← items_through for_place v
    ws ← turns place (expr_place x) n.name (expr_means x) [] vs
    done (list_of ws)

  -- more items, onto those before
  pub items_mean : Place → Items → List Value → Act (List Value)
  items_mean place no_items vs = done vs
  items_mean place (items x rest) vs = do
    ws ← with_item place vs (expr_means x)
    more_items_mean place rest ws

  pub more_items_mean : Place → MoreItems → List Value → Act (List Value)
  more_items_mean place items_end vs = done vs
  more_items_mean place items_comma vs = done vs
  more_items_mean place (more_items x rest) vs = do
    ws ← with_item place vs (expr_means x)
    more_items_mean place rest ws
