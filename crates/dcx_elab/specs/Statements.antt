-- What a line does: one line for each form of the syntax tree.
use Rattle.std.specs.Prelude.{ℕ, Bool, true, false, not, ◌&&◌, List, [], Option, Some, None}
use Rattle.dcx_shape.specs.declared.place.Place.{Place}
use Rattle.dcx_syntax.specs.declared.tree.Import.{Import}
use Rattle.dcx_syntax.specs.declared.tree.Named.{Named}
use Rattle.dcx_syntax.specs.declared.tree.Sign.TheVariants.{Plus}
use Rattle.dcx_syntax.specs.Expressions.{Expr, expr, no_comparison, sum, no_addition, term, no_scaling, factor, power_of, no_power, Postfix, postfix, no_trailer, name_at}
use Rattle.dcx_syntax.specs.Statements.{Line, importing, assign, add_to, set_value, evaluate, prints, repeats, Lines, no_lines, lines, module_bytes}
use Rattle.dcx_script_values.specs.declared.fault.ElabFault.TheVariants.{NotOffered}
use Rattle.dcx_script_values.specs.Values.{Value, library, Act, ◌>>=◌, ◌>>◌, done, unless, look, bind, step}
use Rattle.dcx_script_values.specs.Kinds.{reading, is_list}
use Rattle.dcx_operators.specs.Operators.{add_values}
use Rattle.dcx_script_state.specs.Declarations.{give}
use Rattle.dcx_signature.specs.Turns.{items_through}
use Rattle.dcx_elab.specs.Turns.{each_turn}
use Rattle.dcx_signature.specs.Firsts.{expr_place}
use Rattle.dcx_elab.specs.Expressions.{expr_means, postfix_means}

-- ---- imports
-- the name that is bound: that behind `as`, or else the module's own
abbrev pub bound_name : Import → Option Named → List ℕ
bound_name i None = module_bytes i.module
bound_name i (Some n) = n.name

-- ---- the right side of an assignment
-- an expression that is one postfix and nothing else
abbrev pub only_postfix : Expr → Option Postfix
only_postfix (expr (sum (term (factor [] (power_of x no_power)) no_scaling) no_addition) no_comparison) = Some x
only_postfix e = None

-- just a name
abbrev pub is_just_name : Option Postfix → Bool
is_just_name (Some (postfix (name_at n) no_trailer)) = true
is_just_name x = false

-- a call that is the whole right side has the assigned name as its target
abbrev pub right_side : List ℕ → Expr → Option Postfix → Act Value
right_side name e (Some x) = postfix_means (Some name) x
right_side name e None = expr_means e

-- just a name that is bound to a list is not offered: Python would have two names for one list that changes
abbrev pub assigned : List ℕ → Expr → Act Value
assigned name e = do
  v ← right_side name e (only_postfix e)
  unless (NotOffered (expr_place e)) (not (is_just_name (only_postfix e) && is_list v))
  done v

-- ---- lines without lines inside
abbrev pub import_means : Import → Act (Unit {0})
import_means i = do
  step i.place
  bind (bound_name i i.alias) (library i.module)

abbrev pub assign_means : Named → Expr → Act (Unit {0})
assign_means n x = do
  step n.place
  v ← assigned n.name x
  bind n.name v

-- `+=` stands at the place
abbrev pub add_to_means : Named → Place → Expr → Act (Unit {0})
add_to_means n place x = do
  step n.place
  v ← look n.name n.place
  w ← expr_means x
  u ← add_values Plus place v w
  bind n.name u

-- the word `value` stands at the place
abbrev pub set_value_means : Named → Place → Expr → Act (Unit {0})
set_value_means n place x = do
  step n.place
  v ← look n.name n.place
  w ← expr_means x
  give place v (reading w)

abbrev pub evaluate_means : Expr → Act (Unit {0})
evaluate_means x = do
  step (expr_place x)
  v ← expr_means x
  done tt

-- ---- the forms
abbrev mutual
  pub line_means : Line → Act (Unit {0})
  line_means (importing i) = import_means i
  line_means (assign n x) = assign_means n x
  line_means (add_to n place x) = add_to_means n place x
  line_means (set_value n place x) = set_value_means n place x
  line_means (evaluate x) = evaluate_means x
  line_means (prints place open_place inner) = step place
  line_means (repeats place n x first rest) = do
    step place
    v ← expr_means x
    vs ← items_through place v
    each_turn n.name (line_means first >> lines_mean rest) vs

  pub lines_mean : Lines → Act (Unit {0})
  lines_mean no_lines = done tt
  lines_mean (lines x rest) = do
    line_means x
    lines_mean rest
