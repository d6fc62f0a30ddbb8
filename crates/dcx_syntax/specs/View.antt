-- The syntax trees of the code, as those of `Expressions` and `Statements`.
use Rattle.std.specs.Prelude.{Bool, true, false, List, [], ◌∷◌, map, Option, Some, None}
use Rattle.dcx_syntax.specs.declared.tree.Arg as code_arg
use Rattle.dcx_syntax.specs.declared.tree.Index as code_index
use Rattle.dcx_syntax.specs.declared.tree.Primary as code_primary
use Rattle.dcx_syntax.specs.declared.tree.Step as code_step
use Rattle.dcx_syntax.specs.declared.tree.Trailer as code_trailer
use Rattle.dcx_syntax.specs.declared.tree.Added as code_added
use Rattle.dcx_syntax.specs.declared.tree.Compared as code_compared
use Rattle.dcx_syntax.specs.declared.tree.Expr as code_expr
use Rattle.dcx_syntax.specs.declared.tree.Factor as code_factor
use Rattle.dcx_syntax.specs.declared.tree.Postfix as code_postfix
use Rattle.dcx_syntax.specs.declared.tree.Power as code_power
use Rattle.dcx_syntax.specs.declared.tree.Raised as code_raised
use Rattle.dcx_syntax.specs.declared.tree.Scaled as code_scaled
use Rattle.dcx_syntax.specs.declared.tree.Sum as code_sum
use Rattle.dcx_syntax.specs.declared.tree.Term as code_term
use Rattle.dcx_syntax.specs.declared.tree.Arg.TheOpen.{Arg-F, Index-F, Primary-F, Step-F, Trailer-F, Added-F, Compared-F, Expr-F, Factor-F, Postfix-F, Power-F, Raised-F, Scaled-F, Sum-F, Term-F}
use Rattle.dcx_syntax.specs.declared.tree.Line as code_line
use Rattle.dcx_syntax.specs.declared.tree.Line.TheOpen.{Line-F}
use Rattle.dcx_syntax.specs.declared.tree.Script.{Script}
use Rattle.dcx_syntax.specs.Expressions.{
  Expr,
  expr,
  Compared,
  no_comparison,
  compared,
  Sum,
  sum,
  Added,
  no_addition,
  added,
  Term,
  term,
  Scaled,
  no_scaling,
  scaled,
  Factor,
  factor,
  Power,
  power_of,
  Raised,
  no_power,
  raised,
  exponent,
  Postfix,
  postfix,
  Trailers,
  no_trailer,
  attribute,
  call,
  indexed,
  Args,
  no_args,
  args,
  MoreArgs,
  args_end,
  args_comma,
  more_args,
  Arg,
  by_place,
  by_name,
  Indices,
  no_index,
  more_indices,
  Index,
  at,
  slice,
  Optional,
  absent,
  present,
  Step,
  no_step,
  step,
  Primary,
  number_at,
  text_at,
  name_at,
  truth_at,
  none_at,
  unit,
  round,
  tuple,
  empty_list,
  list,
  comprehension,
  Items,
  no_items,
  items,
  MoreItems,
  items_end,
  items_comma,
  more_items,
}
use Rattle.dcx_syntax.specs.Statements.{nothing, Line, importing, assign, add_to, set_value, evaluate, prints, repeats, Lines, no_lines, lines}

-- what each item puts before the others, one after the other
abbrev pub chained : {A : Type 0} → List (A → A) → A → A
chained [] x = x
chained (f ∷ fs) x = f (chained fs x)

abbrev pub then_arg : Arg → MoreArgs → MoreArgs
then_arg x rest = more_args x rest

abbrev pub then_item : Expr → MoreItems → MoreItems
then_item x rest = more_items x rest

abbrev pub then_index : Index → Indices → Indices
then_index x rest = more_indices x rest

abbrev pub args_ending : Bool → MoreArgs
args_ending true = args_comma
args_ending false = args_end

abbrev pub args_of : List Arg → (comma : Bool) → Args
args_of [] comma = no_args
args_of (x ∷ xs) comma = args x (chained (map then_arg xs) (args_ending comma))

abbrev pub items_ending : Bool → MoreItems
items_ending true = items_comma
items_ending false = items_end

abbrev pub more_items_of : List Expr → (comma : Bool) → MoreItems
more_items_of xs comma = chained (map then_item xs) (items_ending comma)

abbrev pub items_of : List Expr → (comma : Bool) → Items
items_of [] comma = no_items
items_of (x ∷ xs) comma = items x (more_items_of xs comma)

abbrev pub indices_of : List Index → Indices
indices_of xs = chained (map then_index xs) no_index

abbrev pub optional_of : Option Expr → Optional
optional_of None = absent
optional_of (Some x) = present x

-- One level of each type, with what is inside it already seen. An item of a repetition is seen as what it puts before
-- the items behind it.
abbrev pub arg_layer : Arg-F Arg Index Primary Step (Trailers → Trailers) (Added → Added) (Compared → Compared) Expr Factor Postfix Power (Raised → Raised) (Scaled → Scaled) Sum Term → Arg
arg_layer (Arg-F.ByPlace x) = by_place x
arg_layer (Arg-F.ByName n x) = by_name n x

abbrev pub index_layer : Index-F Arg Index Primary Step (Trailers → Trailers) (Added → Added) (Compared → Compared) Expr Factor Postfix Power (Raised → Raised) (Scaled → Scaled) Sum Term → Index
index_layer (Index-F.At x) = at x
index_layer (Index-F.Slice start stop by) = slice (optional_of start) (optional_of stop) by

abbrev pub primary_layer : Primary-F Arg Index Primary Step (Trailers → Trailers) (Added → Added) (Compared → Compared) Expr Factor Postfix Power (Raised → Raised) (Scaled → Scaled) Sum Term → Primary
primary_layer (Primary-F.Number n p) = number_at n p
primary_layer (Primary-F.Text bytes p) = text_at bytes p
primary_layer (Primary-F.Name n) = name_at n
primary_layer (Primary-F.Truth b p) = truth_at b p
primary_layer (Primary-F.None p) = none_at p
primary_layer (Primary-F.Unit p) = unit p
primary_layer (Primary-F.Round p x) = round p x.value
primary_layer (Primary-F.Tuple p x xs comma) = tuple p x.value (items_of xs.items comma)
primary_layer (Primary-F.EmptyList p) = empty_list p
primary_layer (Primary-F.List p x xs comma) = list p x.value (more_items_of xs.items comma)
primary_layer (Primary-F.Comprehension p x q n from) = comprehension p x.value q n from.value

abbrev pub step_layer : Step-F Arg Index Primary Step (Trailers → Trailers) (Added → Added) (Compared → Compared) Expr Factor Postfix Power (Raised → Raised) (Scaled → Scaled) Sum Term → Step
step_layer Step-F.Absent = no_step
step_layer (Step-F.Colon x) = step (optional_of x)

abbrev pub trailer_layer : Trailer-F Arg Index Primary Step (Trailers → Trailers) (Added → Added) (Compared → Compared) Expr Factor Postfix Power (Raised → Raised)
    (Scaled → Scaled) Sum Term → (Trailers → Trailers)
trailer_layer (Trailer-F.Attribute n) = attribute n
trailer_layer (Trailer-F.Call p xs comma) = call p (args_of xs.items comma)
trailer_layer (Trailer-F.Index p x xs) = indexed p x (indices_of xs.items)

abbrev pub added_layer : Added-F Arg Index Primary Step (Trailers → Trailers) (Added → Added) (Compared → Compared) Expr Factor Postfix Power (Raised → Raised)
    (Scaled → Scaled) Sum Term → (Added → Added)
added_layer a = added a.sign a.place a.term

abbrev pub compared_layer : Compared-F Arg Index Primary Step (Trailers → Trailers) (Added → Added) (Compared → Compared) Expr Factor Postfix Power (Raised → Raised)
    (Scaled → Scaled) Sum Term → (Compared → Compared)
compared_layer a = compared a.comparison a.place a.sum

abbrev pub expr_layer : Expr-F Arg Index Primary Step (Trailers → Trailers) (Added → Added) (Compared → Compared) Expr Factor Postfix Power (Raised → Raised) (Scaled → Scaled) Sum Term → Expr
expr_layer e = expr e.first (chained e.rest.items no_comparison)

abbrev pub factor_layer : Factor-F Arg Index Primary Step (Trailers → Trailers) (Added → Added) (Compared → Compared) Expr Factor Postfix Power (Raised → Raised) (Scaled → Scaled) Sum Term → Factor
factor_layer f = factor f.signs.items f.power

abbrev pub postfix_layer : Postfix-F Arg Index Primary Step (Trailers → Trailers) (Added → Added) (Compared → Compared) Expr Factor Postfix Power (Raised → Raised) (Scaled → Scaled) Sum Term → Postfix
postfix_layer f = postfix f.primary (chained f.trailers.items no_trailer)

abbrev pub power_layer : Power-F Arg Index Primary Step (Trailers → Trailers) (Added → Added) (Compared → Compared) Expr Factor Postfix Power (Raised → Raised) (Scaled → Scaled) Sum Term → Power
power_layer f = power_of f.first (chained f.rest.items no_power)

abbrev pub raised_layer : Raised-F Arg Index Primary Step (Trailers → Trailers) (Added → Added) (Compared → Compared) Expr Factor Postfix Power (Raised → Raised)
    (Scaled → Scaled) Sum Term → (Raised → Raised)
raised_layer r = raised r.place (exponent r.signs.items r.postfix)

abbrev pub scaled_layer : Scaled-F Arg Index Primary Step (Trailers → Trailers) (Added → Added) (Compared → Compared) Expr Factor Postfix Power (Raised → Raised)
    (Scaled → Scaled) Sum Term → (Scaled → Scaled)
scaled_layer s = scaled s.scaling s.place s.factor

abbrev pub sum_layer : Sum-F Arg Index Primary Step (Trailers → Trailers) (Added → Added) (Compared → Compared) Expr Factor Postfix Power (Raised → Raised) (Scaled → Scaled) Sum Term → Sum
sum_layer s = sum s.first (chained s.rest.items no_addition)

abbrev pub term_layer : Term-F Arg Index Primary Step (Trailers → Trailers) (Added → Added) (Compared → Compared) Expr Factor Postfix Power (Raised → Raised) (Scaled → Scaled) Sum Term → Term
term_layer t = term t.first (chained t.rest.items no_scaling)

abbrev pub arg_view : code_arg.Arg → Arg
arg_view = code_arg.fold-Arg Arg Index Primary Step (Trailers → Trailers) (Added → Added) (Compared → Compared) Expr Factor Postfix Power (Raised → Raised)
    (Scaled → Scaled) Sum Term arg_layer index_layer primary_layer step_layer trailer_layer added_layer compared_layer expr_layer factor_layer postfix_layer power_layer
    raised_layer scaled_layer sum_layer term_layer

abbrev pub index_view : code_index.Index → Index
index_view = code_index.fold-Index Arg Index Primary Step (Trailers → Trailers) (Added → Added) (Compared → Compared) Expr Factor Postfix Power (Raised → Raised)
    (Scaled → Scaled) Sum Term arg_layer index_layer primary_layer step_layer trailer_layer added_layer compared_layer expr_layer factor_layer postfix_layer power_layer
    raised_layer scaled_layer sum_layer term_layer

abbrev pub primary_view : code_primary.Primary → Primary
primary_view = code_primary.fold-Primary Arg Index Primary Step (Trailers → Trailers) (Added → Added) (Compared → Compared) Expr Factor Postfix Power (Raised → Raised)
    (Scaled → Scaled) Sum Term arg_layer index_layer primary_layer step_layer trailer_layer added_layer compared_layer expr_layer factor_layer postfix_layer power_layer
    raised_layer scaled_layer sum_layer term_layer

abbrev pub step_view : code_step.Step → Step
step_view = code_step.fold-Step Arg Index Primary Step (Trailers → Trailers) (Added → Added) (Compared → Compared) Expr Factor Postfix Power (Raised → Raised)
    (Scaled → Scaled) Sum Term arg_layer index_layer primary_layer step_layer trailer_layer added_layer compared_layer expr_layer factor_layer postfix_layer power_layer
    raised_layer scaled_layer sum_layer term_layer

abbrev pub trailer_view : code_trailer.Trailer → (Trailers → Trailers)
trailer_view = code_trailer.fold-Trailer Arg Index Primary Step (Trailers → Trailers) (Added → Added) (Compared → Compared) Expr Factor Postfix Power (Raised → Raised)
    (Scaled → Scaled) Sum Term arg_layer index_layer primary_layer step_layer trailer_layer added_layer compared_layer expr_layer factor_layer postfix_layer power_layer
    raised_layer scaled_layer sum_layer term_layer

abbrev pub added_view : code_added.Added → (Added → Added)
added_view = code_added.fold-Added Arg Index Primary Step (Trailers → Trailers) (Added → Added) (Compared → Compared) Expr Factor Postfix Power (Raised → Raised)
    (Scaled → Scaled) Sum Term arg_layer index_layer primary_layer step_layer trailer_layer added_layer compared_layer expr_layer factor_layer postfix_layer power_layer
    raised_layer scaled_layer sum_layer term_layer

abbrev pub compared_view : code_compared.Compared → (Compared → Compared)
compared_view = code_compared.fold-Compared Arg Index Primary Step (Trailers → Trailers) (Added → Added) (Compared → Compared) Expr Factor Postfix Power (Raised → Raised)
    (Scaled → Scaled) Sum Term arg_layer index_layer primary_layer step_layer trailer_layer added_layer compared_layer expr_layer factor_layer postfix_layer power_layer
    raised_layer scaled_layer sum_layer term_layer

abbrev pub expr_view : code_expr.Expr → Expr
expr_view = code_expr.fold-Expr Arg Index Primary Step (Trailers → Trailers) (Added → Added) (Compared → Compared) Expr Factor Postfix Power (Raised → Raised)
    (Scaled → Scaled) Sum Term arg_layer index_layer primary_layer step_layer trailer_layer added_layer compared_layer expr_layer factor_layer postfix_layer power_layer
    raised_layer scaled_layer sum_layer term_layer

abbrev pub factor_view : code_factor.Factor → Factor
factor_view = code_factor.fold-Factor Arg Index Primary Step (Trailers → Trailers) (Added → Added) (Compared → Compared) Expr Factor Postfix Power (Raised → Raised)
    (Scaled → Scaled) Sum Term arg_layer index_layer primary_layer step_layer trailer_layer added_layer compared_layer expr_layer factor_layer postfix_layer power_layer
    raised_layer scaled_layer sum_layer term_layer

abbrev pub postfix_view : code_postfix.Postfix → Postfix
postfix_view = code_postfix.fold-Postfix Arg Index Primary Step (Trailers → Trailers) (Added → Added) (Compared → Compared) Expr Factor Postfix Power (Raised → Raised)
    (Scaled → Scaled) Sum Term arg_layer index_layer primary_layer step_layer trailer_layer added_layer compared_layer expr_layer factor_layer postfix_layer power_layer
    raised_layer scaled_layer sum_layer term_layer

abbrev pub power_view : code_power.Power → Power
power_view = code_power.fold-Power Arg Index Primary Step (Trailers → Trailers) (Added → Added) (Compared → Compared) Expr Factor Postfix Power (Raised → Raised)
    (Scaled → Scaled) Sum Term arg_layer index_layer primary_layer step_layer trailer_layer added_layer compared_layer expr_layer factor_layer postfix_layer power_layer
    raised_layer scaled_layer sum_layer term_layer

abbrev pub raised_view : code_raised.Raised → (Raised → Raised)
raised_view = code_raised.fold-Raised Arg Index Primary Step (Trailers → Trailers) (Added → Added) (Compared → Compared) Expr Factor Postfix Power (Raised → Raised)
    (Scaled → Scaled) Sum Term arg_layer index_layer primary_layer step_layer trailer_layer added_layer compared_layer expr_layer factor_layer postfix_layer power_layer
    raised_layer scaled_layer sum_layer term_layer

abbrev pub scaled_view : code_scaled.Scaled → (Scaled → Scaled)
scaled_view = code_scaled.fold-Scaled Arg Index Primary Step (Trailers → Trailers) (Added → Added) (Compared → Compared) Expr Factor Postfix Power (Raised → Raised)
    (Scaled → Scaled) Sum Term arg_layer index_layer primary_layer step_layer trailer_layer added_layer compared_layer expr_layer factor_layer postfix_layer power_layer
    raised_layer scaled_layer sum_layer term_layer

abbrev pub sum_view : code_sum.Sum → Sum
sum_view = code_sum.fold-Sum Arg Index Primary Step (Trailers → Trailers) (Added → Added) (Compared → Compared) Expr Factor Postfix Power (Raised → Raised)
    (Scaled → Scaled) Sum Term arg_layer index_layer primary_layer step_layer trailer_layer added_layer compared_layer expr_layer factor_layer postfix_layer power_layer
    raised_layer scaled_layer sum_layer term_layer

abbrev pub term_view : code_term.Term → Term
term_view = code_term.fold-Term Arg Index Primary Step (Trailers → Trailers) (Added → Added) (Compared → Compared) Expr Factor Postfix Power (Raised → Raised)
    (Scaled → Scaled) Sum Term arg_layer index_layer primary_layer step_layer trailer_layer added_layer compared_layer expr_layer factor_layer postfix_layer power_layer
    raised_layer scaled_layer sum_layer term_layer

abbrev pub optional_view : Option code_expr.Expr → Optional
optional_view None = absent
optional_view (Some x) = present (expr_view x)

abbrev pub then_line : Line → Lines → Lines
then_line l rest = lines l rest

-- lines one after the other
abbrev pub lines_of : List Line → Lines
lines_of ls = chained (map then_line ls) no_lines

-- one level of a line, with the lines inside it already seen
abbrev pub line_layer : Line-F Line → Line
line_layer (Line-F.Import i) = importing i
line_layer (Line-F.Assign n x) = assign n (expr_view x)
line_layer (Line-F.AddTo n p x) = add_to n p (expr_view x)
line_layer (Line-F.SetValue n p x) = set_value n p (expr_view x)
line_layer (Line-F.Evaluate x) = evaluate (expr_view x)
line_layer (Line-F.Print p q) = prints p q nothing
line_layer (Line-F.For p n x first rest) = repeats p n (expr_view x) first.value (lines_of rest.items)

abbrev pub line_view : code_line.Line → Line
line_view = code_line.fold-Line Line line_layer

abbrev pub script_view : Script → Lines
script_view s = lines_of (map line_view s.lines.items)
