-- The tree of a script, and what is carried along, with other names for what is bound.
use Rattle.std.specs.Prelude.{◌≡◌, ℕ, List, map, option_map, Result, Ok, Err}
use Rattle.dcx_arena.specs.Nodes.{Node}
use Rattle.dcx_call.specs.declared.attribute.Variable.{Variable}
use Rattle.dcx_call.specs.declared.attribute.Parameter.{Parameter}
use Rattle.dcx_call.specs.declared.call.Call.{Call}
use Rattle.dcx_call.specs.declared.call.Call.TheVariants as calls
use Rattle.dcx_syntax.specs.declared.tree.Named.{Named}
use Rattle.dcx_syntax.specs.declared.tree.Import.{Import}
use Rattle.dcx_syntax.specs.Expressions.{
  Expr,
  expr,
  Compared,
  no_comparison,
  compared,
  Sum,
  sum,
  Added,
  no_addition,
  added,
  Term,
  term,
  Scaled,
  no_scaling,
  scaled,
  Factor,
  factor,
  Power,
  power_of,
  Raised,
  no_power,
  raised,
  Exponent,
  exponent,
  Postfix,
  postfix,
  Trailers,
  no_trailer,
  attribute,
  call,
  indexed,
  Args,
  no_args,
  args,
  MoreArgs,
  args_end,
  args_comma,
  more_args,
  Arg,
  by_place,
  by_name,
  Indices,
  no_index,
  more_indices,
  Index,
  at,
  slice,
  Optional,
  absent,
  present,
  Step,
  no_step,
  step,
  Primary,
  number_at,
  text_at,
  name_at,
  truth_at,
  none_at,
  unit,
  round,
  tuple,
  empty_list,
  list,
  comprehension,
  Items,
  no_items,
  items,
  MoreItems,
  items_end,
  items_comma,
  more_items,
}
use Rattle.dcx_syntax.specs.Statements.{Line, importing, assign, add_to, set_value, evaluate, prints, repeats, Lines, no_lines, lines}
use Rattle.dcx_script_values.specs.declared.fault.ElabFault.{ElabFault}
use Rattle.dcx_script_values.specs.Values.{Asked, State}
use Rattle.dcx_tree.specs.declared.problem.Problem.{Problem}
use Rattle.dcx_elab.specs.declared.work.Work.{Work}

module _ (rename : List ℕ → List ℕ) where
  -- ---- trees: places stay, and so do attributes, which stand behind a dot, and the words of arguments
  -- the name at its place
  abbrev pub named_renamed : Named → Named
  named_renamed n = record n { name = rename n.name }

  abbrev mutual
    pub expr_renamed : Expr → Expr
    expr_renamed (expr first rest) = expr (sum_renamed first) (compared_renamed rest)

    pub compared_renamed : Compared → Compared
    compared_renamed no_comparison = no_comparison
    compared_renamed (compared c p x rest) = compared c p (sum_renamed x) (compared_renamed rest)

    pub sum_renamed : Sum → Sum
    sum_renamed (sum first rest) = sum (term_renamed first) (added_renamed rest)

    pub added_renamed : Added → Added
    added_renamed no_addition = no_addition
    added_renamed (added s p x rest) = added s p (term_renamed x) (added_renamed rest)

    pub term_renamed : Term → Term
    term_renamed (term first rest) = term (factor_renamed first) (scaled_renamed rest)

    pub scaled_renamed : Scaled → Scaled
    scaled_renamed no_scaling = no_scaling
    scaled_renamed (scaled s p x rest) = scaled s p (factor_renamed x) (scaled_renamed rest)

    pub factor_renamed : Factor → Factor
    factor_renamed (factor signs x) = factor signs (power_renamed x)

    pub power_renamed : Power → Power
    power_renamed (power_of first rest) = power_of (postfix_renamed first) (raised_renamed rest)

    pub raised_renamed : Raised → Raised
    raised_renamed no_power = no_power
    raised_renamed (raised p x rest) = raised p (exponent_renamed x) (raised_renamed rest)

    pub exponent_renamed : Exponent → Exponent
    exponent_renamed (exponent signs x) = exponent signs (postfix_renamed x)

    pub postfix_renamed : Postfix → Postfix
    postfix_renamed (postfix x trailers) = postfix (primary_renamed x) (trailers_renamed trailers)

    pub trailers_renamed : Trailers → Trailers
    trailers_renamed no_trailer = no_trailer
    trailers_renamed (attribute n rest) = attribute n (trailers_renamed rest)
    trailers_renamed (call p xs rest) = call p (args_renamed xs) (trailers_renamed rest)
    trailers_renamed (indexed p x xs rest) = indexed p (index_renamed x) (indices_renamed xs) (trailers_renamed rest)

    pub args_renamed : Args → Args
    args_renamed no_args = no_args
    args_renamed (args x rest) = args (arg_renamed x) (more_args_renamed rest)

    pub more_args_renamed : MoreArgs → MoreArgs
    more_args_renamed args_end = args_end
    more_args_renamed args_comma = args_comma
    more_args_renamed (more_args x rest) = more_args (arg_renamed x) (more_args_renamed rest)

    pub arg_renamed : Arg → Arg
    arg_renamed (by_place x) = by_place (expr_renamed x)
    arg_renamed (by_name n x) = by_name n (expr_renamed x)

    pub indices_renamed : Indices → Indices
    indices_renamed no_index = no_index
    indices_renamed (more_indices x rest) = more_indices (index_renamed x) (indices_renamed rest)

    pub index_renamed : Index → Index
    index_renamed (at x) = at (expr_renamed x)
    index_renamed (slice start stop by) = slice (optional_renamed start) (optional_renamed stop) (step_renamed by)

    pub optional_renamed : Optional → Optional
    optional_renamed absent = absent
    optional_renamed (present x) = present (expr_renamed x)

    pub step_renamed : Step → Step
    step_renamed no_step = no_step
    step_renamed (step x) = step (optional_renamed x)

    pub primary_renamed : Primary → Primary
    primary_renamed (number_at x p) = number_at x p
    primary_renamed (text_at t p) = text_at t p
    primary_renamed (name_at n) = name_at (named_renamed n)
    primary_renamed (truth_at b p) = truth_at b p
    primary_renamed (none_at p) = none_at p
    primary_renamed (unit p) = unit p
    primary_renamed (round p x) = round p (expr_renamed x)
    primary_renamed (tuple p x rest) = tuple p (expr_renamed x) (items_renamed rest)
    primary_renamed (empty_list p) = empty_list p
    primary_renamed (list p x rest) = list p (expr_renamed x) (more_items_renamed rest)
    primary_renamed (comprehension p x q n from) = comprehension p (expr_renamed x) q (named_renamed n) (expr_renamed from)

    pub items_renamed : Items → Items
    items_renamed no_items = no_items
    items_renamed (items x rest) = items (expr_renamed x) (more_items_renamed rest)

    pub more_items_renamed : MoreItems → MoreItems
    more_items_renamed items_end = items_end
    more_items_renamed items_comma = items_comma
    more_items_renamed (more_items x rest) = more_items (expr_renamed x) (more_items_renamed rest)

  -- the name behind `as`; a module's own name stays
  abbrev pub import_renamed : Import → Import
  import_renamed i = record i { alias = option_map named_renamed i.alias }

  -- what stands in the brackets of `print` isn't carried out, and stays
  abbrev mutual
    pub line_renamed : Line → Line
    line_renamed (importing i) = importing (import_renamed i)
    line_renamed (assign n x) = assign (named_renamed n) (expr_renamed x)
    line_renamed (add_to n p x) = add_to (named_renamed n) p (expr_renamed x)
    line_renamed (set_value n p x) = set_value (named_renamed n) p (expr_renamed x)
    line_renamed (evaluate x) = evaluate (expr_renamed x)
    line_renamed (prints p q inner) = prints p q inner
    line_renamed (repeats p n x first rest) = repeats p (named_renamed n) (expr_renamed x) (line_renamed first) (lines_renamed rest)

    pub lines_renamed : Lines → Lines
    lines_renamed no_lines = no_lines
    lines_renamed (lines x rest) = lines (line_renamed x) (lines_renamed rest)

  -- ---- what is carried along
  -- values under names
  abbrev pub entries_renamed : {X : Type 0} → List (List ℕ × X) → List (List ℕ × X)
  entries_renamed es = map (λ e. (rename e.0, e.1)) es

  abbrev pub variable_renamed : Variable → Variable
  variable_renamed v = record v { name = rename v.name }

  abbrev pub parameter_renamed : Parameter → Parameter
  parameter_renamed p = record p { name = rename p.name }

  abbrev pub call_renamed : Call → Call
  call_renamed (calls.Variable v) = calls.Variable (variable_renamed v)
  call_renamed (calls.Parameter p) = calls.Parameter (parameter_renamed p)
  call_renamed (calls.Constant a) = calls.Constant a
  call_renamed (calls.Atom a) = calls.Atom a
  call_renamed (calls.Linear l) = calls.Linear l
  call_renamed (calls.Pairing p) = calls.Pairing p

  abbrev pub node_renamed : Node Call → Node Call
  node_renamed n = record n { call = call_renamed n.call }

  -- what is carried along: no value holds a name
  abbrev pub state_renamed : State → State
  state_renamed s = record {
    names = entries_renamed s.names;
    nodes = map node_renamed s.nodes;
    variables = map variable_renamed s.variables;
    parameters = map parameter_renamed s.parameters;
    setting = entries_renamed s.setting;
    asked = s.asked;
    events = map entries_renamed s.events;
    steps = s.steps;
  }

  -- the value, and what is then carried along; a fault has a place and no name
  abbrev pub answer_renamed : {A : Type 0} → Result (A × State) ElabFault → Result (A × State) ElabFault
  answer_renamed (Ok p) = Ok (p.0, state_renamed p.1)
  answer_renamed (Err e) = Err e

  abbrev pub meaning_renamed : Result (State × Asked) ElabFault → Result (State × Asked) ElabFault
  meaning_renamed (Ok p) = Ok (state_renamed p.0, p.1)
  meaning_renamed (Err e) = Err e

-- ---- what a script stands for
-- the second problem is the first one with these names
pub record IsRenamedProblem (rename : List ℕ → List ℕ) (p q : Problem) : Type 0 where
  pub tree : q.tree ≡ map (node_renamed rename) p.tree
  pub variables : q.variables ≡ map (variable_renamed rename) p.variables
  pub parameters : q.parameters ≡ map (parameter_renamed rename) p.parameters
  pub sense : q.sense ≡ p.sense
  pub objective : q.objective ≡ p.objective
  pub objective_place : q.objective_place ≡ p.objective_place
  pub constraints : q.constraints ≡ p.constraints

-- what is handed out of the second script is what is handed out of the first one, with these names: its problem, and the settings of
-- its solves and of its end
pub record IsRenamedWork (rename : List ℕ → List ℕ) (v w : Work) : Type 0 where
  pub problem : IsRenamedProblem rename v.problem w.problem
  pub events : w.events ≡ map (entries_renamed rename) v.events
  pub last : w.last ≡ entries_renamed rename v.last
