-- The grammar of `Expressions` and `Statements` as one that one token decides.
use Rattle.std.specs.Prelude.{Bool, true, false, Option, Some, None, List, [], ◌∷◌}
use Rattle.dcx_shape.specs.declared.place.Place.{Place}
use Rattle.dcx_syntax.specs.declared.tree.Module.{Module}
use Rattle.dcx_syntax.specs.declared.tree.Named.{Named}
use Rattle.dcx_syntax.specs.declared.tree.Signed.{Signed}
use Rattle.dcx_syntax.specs.declared.bracket.Bracket.{Bracket}
use Rattle.dcx_syntax.specs.declared.bracket.Bracket.TheVariants.{Round, Square, Curly}
use Rattle.dcx_syntax.specs.Terminal.{
  Terminal,
  opens,
  closes,
  plain,
  name,
  number,
  text,
  truth,
  none,
  compares,
  signs,
  scales,
  power,
  plus_equal,
  import,
  for,
  print,
  as_word,
  in_word,
  dot,
  comma,
  colon,
  equal,
  newline,
  indent,
  dedent,
}
use Rattle.dcx_syntax.specs.Expressions.{
  Expr,
  expr,
  Compared,
  no_comparison,
  compared,
  Sum,
  sum,
  Added,
  no_addition,
  added,
  Term,
  term,
  Scaled,
  no_scaling,
  scaled,
  Factor,
  factor,
  Power,
  power_of,
  Raised,
  no_power,
  raised,
  Exponent,
  exponent,
  Postfix,
  postfix,
  Trailers,
  no_trailer,
  attribute,
  call,
  indexed,
  Args,
  no_args,
  args,
  MoreArgs,
  args_end,
  args_comma,
  more_args,
  Arg,
  by_place,
  by_name,
  Indices,
  no_index,
  more_indices,
  Index,
  at,
  slice,
  Optional,
  absent,
  present,
  Step,
  no_step,
  step,
  Primary,
  number_at,
  text_at,
  name_at,
  truth_at,
  none_at,
  unit,
  round,
  tuple,
  empty_list,
  list,
  comprehension,
  Items,
  no_items,
  items,
  MoreItems,
  items_end,
  items_comma,
  more_items,
}
use Rattle.dcx_syntax.specs.Statements.{Balanced, nothing, beside, within, Line, importing, assign, add_to, set_value, evaluate, prints, repeats, Lines, no_lines, lines}
use Rattle.dcx_read.specs.Reading.{Trees, Forest, Move, shift, pass, Grammar, leading, otherwise}
use Rattle.dcx_read.specs.Words.{ModuleAt, module_named, is_value_word}

pub data Symbol : Type 0 where
  expr_s : Symbol
  compared_s : Symbol
  sum_s : Symbol
  added_s : Symbol
  term_s : Symbol
  scaled_s : Symbol
  factor_s : Symbol
  power_s : Symbol
  raised_s : Symbol
  exponent_s : Symbol
  postfix_s : Symbol
  trailers_s : Symbol
  args_s : Symbol
  more_args_s : Symbol
  arg_s : Symbol
  after_name_s : Symbol
  rest_s : Symbol
  indices_s : Symbol
  index_s : Symbol
  after_index_s : Symbol
  optional_s : Symbol
  step_s : Symbol
  primary_s : Symbol
  in_round_s : Symbol
  after_round_s : Symbol
  in_square_s : Symbol
  after_square_s : Symbol
  items_s : Symbol
  more_items_s : Symbol
  name_s : Symbol
  opens_s : Symbol
  closes_s : Bracket → Symbol
  colon_s : Symbol
  in_s : Symbol
  newline_s : Symbol
  indent_s : Symbol
  dedent_s : Symbol
  module_s : Symbol
  alias_s : Symbol
  balanced_s : Symbol
  after_first_s : Symbol
  after_dot_s : Symbol
  line_s : Symbol
  lines_s : Symbol

-- what may follow a primary in an expression
abbrev pub Rest : Type 0
Rest = Trailers × (Raised × (Scaled × (Added × Compared)))

-- what may follow a name at the front of an argument, where `=` follows or the name begins an expression
pub data AfterName : Type 0 where
  gets : Expr → AfterName
  goes_on : Rest → AfterName

-- what may follow a name at the front of a line
pub data AfterFirst : Type 0 where
  is_assigned : Expr → AfterFirst
  is_added_to : (place : Place) → Expr → AfterFirst
  value_is_set : (place : Place) → Expr → AfterFirst
  begins : Rest → AfterFirst

-- what may follow a name and a dot at the front of a line
pub data AfterDot : Type 0 where
  value_gets : (place : Place) → Expr → AfterDot
  attribute_of : Named → Rest → AfterDot

-- what may follow an index's first expression
pub data AfterIndex : Type 0 where
  no_slice : AfterIndex
  slices : (stop : Optional) (step : Step) → AfterIndex

-- what may follow `(` in a primary, and then its first expression
pub data AfterRound : Type 0 where
  round_closed : AfterRound
  round_goes_on : Items → AfterRound

pub data InRound : Type 0 where
  round_empty : InRound
  round_holds : Expr → AfterRound → InRound

-- what may follow `[` in a primary, and then its first expression
pub data AfterSquare : Type 0 where
  square_lists : MoreItems → AfterSquare
  square_for : (for_place : Place) (name : Named) (source : Expr) → AfterSquare

pub data InSquare : Type 0 where
  square_empty : InSquare
  square_holds : Expr → AfterSquare → InSquare

abbrev pub Tree : Symbol → Type 0
Tree expr_s = Expr
Tree compared_s = Compared
Tree sum_s = Sum
Tree added_s = Added
Tree term_s = Term
Tree scaled_s = Scaled
Tree factor_s = Factor
Tree power_s = Power
Tree raised_s = Raised
Tree exponent_s = Exponent
Tree postfix_s = Postfix
Tree trailers_s = Trailers
Tree args_s = Args
Tree more_args_s = MoreArgs
Tree arg_s = Arg
Tree after_name_s = AfterName
Tree rest_s = Rest
Tree indices_s = Indices
Tree index_s = Index
Tree after_index_s = AfterIndex
Tree optional_s = Optional
Tree step_s = Step
Tree primary_s = Primary
Tree in_round_s = InRound
Tree after_round_s = AfterRound
Tree in_square_s = InSquare
Tree after_square_s = AfterSquare
Tree items_s = Items
Tree more_items_s = MoreItems
Tree name_s = Named
Tree opens_s = Place
Tree (closes_s b) = Unit {0}
Tree colon_s = Unit {0}
Tree in_s = Unit {0}
Tree newline_s = Unit {0}
Tree indent_s = Unit {0}
Tree dedent_s = Unit {0}
Tree module_s = ModuleAt
Tree alias_s = Option Named
Tree balanced_s = Balanced
Tree after_first_s = AfterFirst
Tree after_dot_s = AfterDot
Tree line_s = Line
Tree lines_s = Lines

abbrev pub trees : Trees
trees = record { Symbol = Symbol; Token = Terminal; Tree = Tree }

-- the token is all of the tree
abbrev pub leaf : (s : Symbol) → Tree s → Move trees s
leaf s x = shift (λ ss. ss) (λ ss f. (x, f))

abbrev pub as_round : Place → InRound → Primary
as_round p round_empty = unit p
as_round p (round_holds x round_closed) = round p x
as_round p (round_holds x (round_goes_on xs)) = tuple p x xs

abbrev pub as_square : Place → InSquare → Primary
as_square p square_empty = empty_list p
as_square p (square_holds x (square_lists xs)) = list p x xs
as_square p (square_holds x (square_for q n from)) = comprehension p x q n from

-- the items behind a comma
abbrev pub items_behind : Items → MoreItems
items_behind no_items = items_comma
items_behind (items x rest) = more_items x rest

abbrev pub args_behind : Args → MoreArgs
args_behind no_args = args_comma
args_behind (args x rest) = more_args x rest

abbrev pub primary_move : Terminal → Move trees primary_s
primary_move (plain (number n p)) = leaf primary_s (number_at n p)
primary_move (plain (text bytes p)) = leaf primary_s (text_at bytes p)
primary_move (plain (name bytes p)) = leaf primary_s (name_at (record { name = bytes; place = p }))
primary_move (plain (truth b p)) = leaf primary_s (truth_at b p)
primary_move (plain (none p)) = leaf primary_s (none_at p)
primary_move (opens Round p) = shift (λ ss. in_round_s ∷ ss) (λ ss f. (as_round p f.0, f.1))
primary_move (opens Square p) = shift (λ ss. in_square_s ∷ ss) (λ ss f. (as_square p f.0, f.1))
primary_move t = pass

abbrev pub postfix_join : (ss : List Symbol) → Forest trees (primary_s ∷ trailers_s ∷ ss) → Forest trees (postfix_s ∷ ss)
postfix_join ss f = (postfix f.0 f.1.0, f.1.1)

abbrev pub postfix_move : Terminal → Move trees postfix_s
postfix_move t = leading trees primary_s postfix_s (λ ss. trailers_s ∷ ss) postfix_join (primary_move t)

abbrev pub power_join : (ss : List Symbol) → Forest trees (postfix_s ∷ raised_s ∷ ss) → Forest trees (power_s ∷ ss)
power_join ss f = (power_of f.0 f.1.0, f.1.1)

abbrev pub power_move : Terminal → Move trees power_s
power_move t = leading trees postfix_s power_s (λ ss. raised_s ∷ ss) power_join (postfix_move t)

-- a sign more
abbrev pub signed_factor : Signed → Factor → Factor
signed_factor s (factor ss x) = factor (s ∷ ss) x

abbrev pub signed_exponent : Signed → Exponent → Exponent
signed_exponent s (exponent ss x) = exponent (s ∷ ss) x

abbrev pub factor_join : (ss : List Symbol) → Forest trees (power_s ∷ ss) → Forest trees (factor_s ∷ ss)
factor_join ss f = (factor [] f.0, f.1)

abbrev pub factor_move : Terminal → Move trees factor_s
factor_move (plain (signs s p)) = shift (λ ss. factor_s ∷ ss) (λ ss f. (signed_factor (record { sign = s; place = p }) f.0, f.1))
factor_move t = leading trees power_s factor_s (λ ss. ss) factor_join (power_move t)

abbrev pub exponent_join : (ss : List Symbol) → Forest trees (postfix_s ∷ ss) → Forest trees (exponent_s ∷ ss)
exponent_join ss f = (exponent [] f.0, f.1)

abbrev pub exponent_move : Terminal → Move trees exponent_s
exponent_move (plain (signs s p)) = shift (λ ss. exponent_s ∷ ss) (λ ss f. (signed_exponent (record { sign = s; place = p }) f.0, f.1))
exponent_move t = leading trees postfix_s exponent_s (λ ss. ss) exponent_join (postfix_move t)

abbrev pub term_join : (ss : List Symbol) → Forest trees (factor_s ∷ scaled_s ∷ ss) → Forest trees (term_s ∷ ss)
term_join ss f = (term f.0 f.1.0, f.1.1)

abbrev pub term_move : Terminal → Move trees term_s
term_move t = leading trees factor_s term_s (λ ss. scaled_s ∷ ss) term_join (factor_move t)

abbrev pub sum_join : (ss : List Symbol) → Forest trees (term_s ∷ added_s ∷ ss) → Forest trees (sum_s ∷ ss)
sum_join ss f = (sum f.0 f.1.0, f.1.1)

abbrev pub sum_move : Terminal → Move trees sum_s
sum_move t = leading trees term_s sum_s (λ ss. added_s ∷ ss) sum_join (term_move t)

abbrev pub expr_join : (ss : List Symbol) → Forest trees (sum_s ∷ compared_s ∷ ss) → Forest trees (expr_s ∷ ss)
expr_join ss f = (expr f.0 f.1.0, f.1.1)

abbrev pub expr_move : Terminal → Move trees expr_s
expr_move t = leading trees sum_s expr_s (λ ss. compared_s ∷ ss) expr_join (sum_move t)

abbrev pub compared_move : Terminal → Move trees compared_s
compared_move (plain (compares c p)) = shift (λ ss. sum_s ∷ compared_s ∷ ss) (λ ss f. (compared c p f.0 f.1.0, f.1.1))
compared_move t = pass

abbrev pub added_move : Terminal → Move trees added_s
added_move (plain (signs s p)) = shift (λ ss. term_s ∷ added_s ∷ ss) (λ ss f. (added s p f.0 f.1.0, f.1.1))
added_move t = pass

abbrev pub scaled_move : Terminal → Move trees scaled_s
scaled_move (plain (scales s p)) = shift (λ ss. factor_s ∷ scaled_s ∷ ss) (λ ss f. (scaled s p f.0 f.1.0, f.1.1))
scaled_move t = pass

abbrev pub raised_move : Terminal → Move trees raised_s
raised_move (plain (power p)) = shift (λ ss. exponent_s ∷ raised_s ∷ ss) (λ ss f. (raised p f.0 f.1.0, f.1.1))
raised_move t = pass

abbrev pub trailers_move : Terminal → Move trees trailers_s
trailers_move (plain dot) = shift (λ ss. name_s ∷ trailers_s ∷ ss) (λ ss f. (attribute f.0 f.1.0, f.1.1))
trailers_move (opens Round p) = shift (λ ss. args_s ∷ closes_s Round ∷ trailers_s ∷ ss) (λ ss f. (call p f.0 f.1.1.0, f.1.1.1))
trailers_move (opens Square p) = shift (λ ss. index_s ∷ indices_s ∷ closes_s Square ∷ trailers_s ∷ ss) (λ ss f. (indexed p f.0 f.1.0 f.1.1.1.0, f.1.1.1.1))
trailers_move t = pass

-- what follows a primary: each part may be empty
abbrev pub rest_trailers : (ss : List Symbol) → Forest trees (trailers_s ∷ raised_s ∷ scaled_s ∷ added_s ∷ compared_s ∷ ss) → Forest trees (rest_s ∷ ss)
rest_trailers ss f = ((f.0, (f.1.0, (f.1.1.0, (f.1.1.1.0, f.1.1.1.1.0)))), f.1.1.1.1.1)

abbrev pub rest_raised : (ss : List Symbol) → Forest trees (raised_s ∷ scaled_s ∷ added_s ∷ compared_s ∷ ss) → Forest trees (rest_s ∷ ss)
rest_raised ss f = ((no_trailer, (f.0, (f.1.0, (f.1.1.0, f.1.1.1.0)))), f.1.1.1.1)

abbrev pub rest_scaled : (ss : List Symbol) → Forest trees (scaled_s ∷ added_s ∷ compared_s ∷ ss) → Forest trees (rest_s ∷ ss)
rest_scaled ss f = ((no_trailer, (no_power, (f.0, (f.1.0, f.1.1.0)))), f.1.1.1)

abbrev pub rest_added : (ss : List Symbol) → Forest trees (added_s ∷ compared_s ∷ ss) → Forest trees (rest_s ∷ ss)
rest_added ss f = ((no_trailer, (no_power, (no_scaling, (f.0, f.1.0)))), f.1.1)

abbrev pub rest_compared : (ss : List Symbol) → Forest trees (compared_s ∷ ss) → Forest trees (rest_s ∷ ss)
rest_compared ss f = ((no_trailer, (no_power, (no_scaling, (no_addition, f.0)))), f.1)

abbrev pub rest_move : Terminal → Move trees rest_s
rest_move t =
    otherwise trees rest_s (leading trees trailers_s rest_s (λ ss. raised_s ∷ scaled_s ∷ added_s ∷ compared_s ∷ ss) rest_trailers (trailers_move t))
    (otherwise trees rest_s (leading trees raised_s rest_s (λ ss. scaled_s ∷ added_s ∷ compared_s ∷ ss) rest_raised (raised_move t))
    (otherwise trees rest_s (leading trees scaled_s rest_s (λ ss. added_s ∷ compared_s ∷ ss) rest_scaled (scaled_move t))
    (otherwise trees rest_s (leading trees added_s rest_s (λ ss. compared_s ∷ ss) rest_added (added_move t))
    (leading trees compared_s rest_s (λ ss. ss) rest_compared (compared_move t)))))

abbrev pub no_rest : Rest
no_rest = (no_trailer, (no_power, (no_scaling, (no_addition, no_comparison))))

-- the expression that a name begins
abbrev pub from_name : Named → Rest → Expr
from_name n r = expr (sum (term (factor [] (power_of (postfix (name_at n) r.0) r.1.0)) r.1.1.0) r.1.1.1.0) r.1.1.1.1

abbrev pub after_name_join : (ss : List Symbol) → Forest trees (rest_s ∷ ss) → Forest trees (after_name_s ∷ ss)
after_name_join ss f = (goes_on f.0, f.1)

abbrev pub after_name_move : Terminal → Move trees after_name_s
after_name_move (plain equal) = shift (λ ss. expr_s ∷ ss) (λ ss f. (gets f.0, f.1))
after_name_move t = leading trees rest_s after_name_s (λ ss. ss) after_name_join (rest_move t)

abbrev pub as_arg : Named → AfterName → Arg
as_arg n (gets x) = by_name n x
as_arg n (goes_on r) = by_place (from_name n r)

abbrev pub arg_join : (ss : List Symbol) → Forest trees (expr_s ∷ ss) → Forest trees (arg_s ∷ ss)
arg_join ss f = (by_place f.0, f.1)

abbrev pub arg_move : Terminal → Move trees arg_s
arg_move (plain (name bytes p)) = shift (λ ss. after_name_s ∷ ss) (λ ss f. (as_arg (record { name = bytes; place = p }) f.0, f.1))
arg_move t = leading trees expr_s arg_s (λ ss. ss) arg_join (expr_move t)

abbrev pub args_join : (ss : List Symbol) → Forest trees (arg_s ∷ more_args_s ∷ ss) → Forest trees (args_s ∷ ss)
args_join ss f = (args f.0 f.1.0, f.1.1)

abbrev pub args_move : Terminal → Move trees args_s
args_move t = leading trees arg_s args_s (λ ss. more_args_s ∷ ss) args_join (arg_move t)

abbrev pub more_args_move : Terminal → Move trees more_args_s
more_args_move (plain comma) = shift (λ ss. args_s ∷ ss) (λ ss f. (args_behind f.0, f.1))
more_args_move t = pass

abbrev pub optional_join : (ss : List Symbol) → Forest trees (expr_s ∷ ss) → Forest trees (optional_s ∷ ss)
optional_join ss f = (present f.0, f.1)

abbrev pub optional_move : Terminal → Move trees optional_s
optional_move t = leading trees expr_s optional_s (λ ss. ss) optional_join (expr_move t)

abbrev pub step_move : Terminal → Move trees step_s
step_move (plain colon) = shift (λ ss. optional_s ∷ ss) (λ ss f. (step f.0, f.1))
step_move t = pass

abbrev pub after_index_move : Terminal → Move trees after_index_s
after_index_move (plain colon) = shift (λ ss. optional_s ∷ step_s ∷ ss) (λ ss f. (slices f.0 f.1.0, f.1.1))
after_index_move t = pass

abbrev pub as_index : Expr → AfterIndex → Index
as_index x no_slice = at x
as_index x (slices stop by) = slice (present x) stop by

abbrev pub index_join : (ss : List Symbol) → Forest trees (expr_s ∷ after_index_s ∷ ss) → Forest trees (index_s ∷ ss)
index_join ss f = (as_index f.0 f.1.0, f.1.1)

abbrev pub index_move : Terminal → Move trees index_s
index_move (plain colon) = shift (λ ss. optional_s ∷ step_s ∷ ss) (λ ss f. (slice absent f.0 f.1.0, f.1.1))
index_move t = leading trees expr_s index_s (λ ss. after_index_s ∷ ss) index_join (expr_move t)

abbrev pub indices_move : Terminal → Move trees indices_s
indices_move (plain comma) = shift (λ ss. index_s ∷ indices_s ∷ ss) (λ ss f. (more_indices f.0 f.1.0, f.1.1))
indices_move t = pass

abbrev pub items_join : (ss : List Symbol) → Forest trees (expr_s ∷ more_items_s ∷ ss) → Forest trees (items_s ∷ ss)
items_join ss f = (items f.0 f.1.0, f.1.1)

abbrev pub items_move : Terminal → Move trees items_s
items_move t = leading trees expr_s items_s (λ ss. more_items_s ∷ ss) items_join (expr_move t)

abbrev pub more_items_move : Terminal → Move trees more_items_s
more_items_move (plain comma) = shift (λ ss. items_s ∷ ss) (λ ss f. (items_behind f.0, f.1))
more_items_move t = pass

abbrev pub after_round_move : Terminal → Move trees after_round_s
after_round_move (closes Round) = leaf after_round_s round_closed
after_round_move (plain comma) = shift (λ ss. items_s ∷ closes_s Round ∷ ss) (λ ss f. (round_goes_on f.0, f.1.1))
after_round_move t = pass

abbrev pub in_round_join : (ss : List Symbol) → Forest trees (expr_s ∷ after_round_s ∷ ss) → Forest trees (in_round_s ∷ ss)
in_round_join ss f = (round_holds f.0 f.1.0, f.1.1)

abbrev pub in_round_move : Terminal → Move trees in_round_s
in_round_move (closes Round) = leaf in_round_s round_empty
in_round_move t = leading trees expr_s in_round_s (λ ss. after_round_s ∷ ss) in_round_join (expr_move t)

abbrev pub after_square_move : Terminal → Move trees after_square_s
after_square_move (closes Square) = leaf after_square_s (square_lists items_end)
after_square_move (plain comma) = shift (λ ss. items_s ∷ closes_s Square ∷ ss) (λ ss f. (square_lists (items_behind f.0), f.1.1))
after_square_move (plain (for p)) = shift (λ ss. name_s ∷ in_s ∷ expr_s ∷ closes_s Square ∷ ss) (λ ss f. (square_for p f.0 f.1.1.0, f.1.1.1.1))
after_square_move t = pass

abbrev pub in_square_join : (ss : List Symbol) → Forest trees (expr_s ∷ after_square_s ∷ ss) → Forest trees (in_square_s ∷ ss)
in_square_join ss f = (square_holds f.0 f.1.0, f.1.1)

abbrev pub in_square_move : Terminal → Move trees in_square_s
in_square_move (closes Square) = leaf in_square_s square_empty
in_square_move t = leading trees expr_s in_square_s (λ ss. after_square_s ∷ ss) in_square_join (expr_move t)

abbrev pub name_move : Terminal → Move trees name_s
name_move (plain (name bytes p)) = leaf name_s (record { name = bytes; place = p })
name_move t = pass

abbrev pub opens_move : Terminal → Move trees opens_s
opens_move (opens Round p) = leaf opens_s p
opens_move t = pass

abbrev pub closes_move : (b : Bracket) → Terminal → Move trees (closes_s b)
closes_move Round (closes Round) = leaf (closes_s Round) tt
closes_move Square (closes Square) = leaf (closes_s Square) tt
closes_move Curly (closes Curly) = leaf (closes_s Curly) tt
closes_move b t = pass

abbrev pub colon_move : Terminal → Move trees colon_s
colon_move (plain colon) = leaf colon_s tt
colon_move t = pass

abbrev pub in_move : Terminal → Move trees in_s
in_move (plain in_word) = leaf in_s tt
in_move t = pass

abbrev pub newline_move : Terminal → Move trees newline_s
newline_move (plain newline) = leaf newline_s tt
newline_move t = pass

abbrev pub indent_move : Terminal → Move trees indent_s
indent_move (plain indent) = leaf indent_s tt
indent_move t = pass

abbrev pub dedent_move : Terminal → Move trees dedent_s
dedent_move (plain dedent) = leaf dedent_s tt
dedent_move t = pass

abbrev pub module_step : (p : Place) → Option Module → Move trees module_s
module_step p None = pass
module_step p (Some m) = leaf module_s (record { which = m; place = p })

abbrev pub module_move : Terminal → Move trees module_s
module_move (plain (name bytes p)) = module_step p (module_named bytes)
module_move t = pass

abbrev pub alias_move : Terminal → Move trees alias_s
alias_move (plain as_word) = shift (λ ss. name_s ∷ ss) (λ ss f. (Some f.0, f.1))
alias_move t = pass

abbrev pub balanced_move : Terminal → Move trees balanced_s
balanced_move (plain t) = shift (λ ss. balanced_s ∷ ss) (λ ss f. (beside t f.0, f.1))
balanced_move (opens b p) = shift (λ ss. balanced_s ∷ closes_s b ∷ balanced_s ∷ ss) (λ ss f. (within b p f.0 f.1.1.0, f.1.1.1))
balanced_move t = pass

-- after a name and a dot and a second name: `=` may follow where that name is `value`
abbrev pub as_dot : Named → AfterName → AfterDot
as_dot n (gets x) = value_gets n.place x
as_dot n (goes_on r) = attribute_of n r

abbrev pub dot_step : Named → Bool → Move trees after_dot_s
dot_step n true = shift (λ ss. after_name_s ∷ ss) (λ ss f. (as_dot n f.0, f.1))
dot_step n false = shift (λ ss. rest_s ∷ ss) (λ ss f. (attribute_of n f.0, f.1))

abbrev pub after_dot_move : Terminal → Move trees after_dot_s
after_dot_move (plain (name bytes p)) = dot_step (record { name = bytes; place = p }) (is_value_word bytes)
after_dot_move t = pass

abbrev pub as_first : AfterDot → AfterFirst
as_first (value_gets p x) = value_is_set p x
as_first (attribute_of n r) = begins (attribute n r.0, r.1)

abbrev pub after_first_join : (ss : List Symbol) → Forest trees (rest_s ∷ ss) → Forest trees (after_first_s ∷ ss)
after_first_join ss f = (begins f.0, f.1)

abbrev pub after_first_move : Terminal → Move trees after_first_s
after_first_move (plain equal) = shift (λ ss. expr_s ∷ ss) (λ ss f. (is_assigned f.0, f.1))
after_first_move (plain (plus_equal p)) = shift (λ ss. expr_s ∷ ss) (λ ss f. (is_added_to p f.0, f.1))
after_first_move (plain dot) = shift (λ ss. after_dot_s ∷ ss) (λ ss f. (as_first f.0, f.1))
after_first_move t = leading trees rest_s after_first_s (λ ss. ss) after_first_join (rest_move t)

abbrev pub as_line : Named → AfterFirst → Line
as_line n (is_assigned x) = assign n x
as_line n (is_added_to p x) = add_to n p x
as_line n (value_is_set p x) = set_value n p x
as_line n (begins r) = evaluate (from_name n r)

abbrev pub line_join : (ss : List Symbol) → Forest trees (expr_s ∷ newline_s ∷ ss) → Forest trees (line_s ∷ ss)
line_join ss f = (evaluate f.0, f.1.1)

abbrev pub line_move : Terminal → Move trees line_s
line_move (plain (import p)) = shift (λ ss. module_s ∷ alias_s ∷ newline_s ∷ ss) (λ ss f. (importing (record { place = p; «module» = f.0.which; module_place = f.0.place; alias = f.1.0 }), f.1.1.1))
line_move (plain (name bytes p)) = shift (λ ss. after_first_s ∷ newline_s ∷ ss) (λ ss f. (as_line (record { name = bytes; place = p }) f.0, f.1.1))
line_move (plain (print p)) = shift (λ ss. opens_s ∷ balanced_s ∷ closes_s Round ∷ newline_s ∷ ss) (λ ss f. (prints p f.0 f.1.0, f.1.1.1.1))
line_move (plain (for p)) = shift (λ ss. name_s ∷ in_s ∷ expr_s ∷ colon_s ∷ newline_s ∷ indent_s ∷ line_s ∷ lines_s ∷ dedent_s ∷ ss)
    (λ ss f. (repeats p f.0 f.1.1.0 f.1.1.1.1.1.1.0 f.1.1.1.1.1.1.1.0, f.1.1.1.1.1.1.1.1.1))
line_move t = leading trees expr_s line_s (λ ss. newline_s ∷ ss) line_join (expr_move t)

abbrev pub lines_join : (ss : List Symbol) → Forest trees (line_s ∷ lines_s ∷ ss) → Forest trees (lines_s ∷ ss)
lines_join ss f = (lines f.0 f.1.0, f.1.1)

abbrev pub lines_move : Terminal → Move trees lines_s
lines_move t = leading trees line_s lines_s (λ ss. lines_s ∷ ss) lines_join (line_move t)

abbrev pub move : (s : Symbol) → Terminal → Move trees s
move expr_s t = expr_move t
move compared_s t = compared_move t
move sum_s t = sum_move t
move added_s t = added_move t
move term_s t = term_move t
move scaled_s t = scaled_move t
move factor_s t = factor_move t
move power_s t = power_move t
move raised_s t = raised_move t
move exponent_s t = exponent_move t
move postfix_s t = postfix_move t
move trailers_s t = trailers_move t
move args_s t = args_move t
move more_args_s t = more_args_move t
move arg_s t = arg_move t
move after_name_s t = after_name_move t
move rest_s t = rest_move t
move indices_s t = indices_move t
move index_s t = index_move t
move after_index_s t = after_index_move t
move optional_s t = optional_move t
move step_s t = step_move t
move primary_s t = primary_move t
move in_round_s t = in_round_move t
move after_round_s t = after_round_move t
move in_square_s t = in_square_move t
move after_square_s t = after_square_move t
move items_s t = items_move t
move more_items_s t = more_items_move t
move name_s t = name_move t
move opens_s t = opens_move t
move (closes_s b) t = closes_move b t
move colon_s t = colon_move t
move in_s t = in_move t
move newline_s t = newline_move t
move indent_s t = indent_move t
move dedent_s t = dedent_move t
move module_s t = module_move t
move alias_s t = alias_move t
move balanced_s t = balanced_move t
move after_first_s t = after_first_move t
move after_dot_s t = after_dot_move t
move line_s t = line_move t
move lines_s t = lines_move t

abbrev pub empty : (s : Symbol) → Option (Tree s)
empty compared_s = Some no_comparison
empty added_s = Some no_addition
empty scaled_s = Some no_scaling
empty raised_s = Some no_power
empty trailers_s = Some no_trailer
empty args_s = Some no_args
empty more_args_s = Some args_end
empty after_name_s = Some (goes_on no_rest)
empty rest_s = Some no_rest
empty indices_s = Some no_index
empty after_index_s = Some no_slice
empty optional_s = Some absent
empty step_s = Some no_step
empty items_s = Some no_items
empty more_items_s = Some items_end
empty alias_s = Some None
empty balanced_s = Some nothing
empty after_first_s = Some (begins no_rest)
empty lines_s = Some no_lines
empty s = None

abbrev pub grammar : Grammar
grammar = record { trees = trees; move = move; empty = empty }
