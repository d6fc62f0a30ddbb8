-- The syntax tree of the made-up script.
use Rattle.std.specs.Prelude.{ℕ, ◌+◌, true, pos, codes, decimal, List, [], ◌∷◌, length, Some}
use Rattle.dcx_math.specs.Rational.{whole}
use Rattle.dcx_atom.specs.Formed.{frac_at}
use Rattle.dcx_shape.specs.declared.place.Place.{Place}
use Rattle.dcx_syntax.specs.declared.tree.Module.{Module}
use Rattle.dcx_syntax.specs.declared.tree.Module.TheVariants.{Cvxpy, Numpy}
use Rattle.dcx_syntax.specs.declared.tree.Named.{Named}
use Rattle.dcx_syntax.specs.declared.tree.Scaling.TheVariants.{Times}
use Rattle.dcx_syntax.specs.declared.tree.Sign.TheVariants.{Plus, Minus}
use Rattle.dcx_syntax.specs.Expressions.{
  Expr,
  expr,
  no_comparison,
  sum,
  no_addition,
  added,
  Term,
  term,
  no_scaling,
  scaled,
  Factor,
  factor,
  power_of,
  no_power,
  Postfix,
  postfix,
  no_trailer,
  attribute,
  call,
  Args,
  no_args,
  args,
  args_end,
  by_place,
  by_name,
  Primary,
  number_at,
  name_at,
  truth_at,
  empty_list,
  list,
  MoreItems,
  items_end,
  more_items,
}
use Rattle.dcx_syntax.specs.Statements.{Line, importing, assign, Lines, no_lines, lines}
use Rattle.dcx_trial.specs.Trial.{places, heights}

-- ---- places
abbrev pub place_at : (line column : ℕ) → Place
place_at line column = record { line = line; column = column }

abbrev pub named_at : List ℕ → (line column : ℕ) → Named
named_at name line column = record { name = name; place = place_at line column }

-- ---- expressions
-- one factor, and one term, that is this alone
abbrev pub factor_of : Postfix → Factor
factor_of x = factor [] (power_of x no_power)

abbrev pub term_of : Postfix → Term
term_of x = term (factor_of x) no_scaling

abbrev pub expr_of : Postfix → Expr
expr_of x = expr (sum (term_of x) no_addition) no_comparison

-- a name
abbrev pub name_of : List ℕ → (line column : ℕ) → Postfix
name_of name line column = postfix (name_at (named_at name line column)) no_trailer

-- `m.f(..)` from a column on, with the brackets from another column on
abbrev pub called_at : (m f : List ℕ) → (line column opened : ℕ) → Args → Postfix
called_at m f line column opened xs = postfix (name_at (named_at m line column)) (attribute (named_at f line (column + 3)) (call (place_at line opened) xs no_trailer))

abbrev pub one_arg : Expr → Args
one_arg x = args (by_place x) args_end

-- ---- numbers
abbrev pub number_of : ℕ → (line column : ℕ) → Expr
number_of k line column = expr_of (postfix (number_at (frac_at (whole (pos k))) (place_at line column)) no_trailer)

-- the column behind a number, a comma and a blank
abbrev pub column_behind : ℕ → ℕ → ℕ
column_behind column k = column + length (decimal k) + 2

abbrev pub more_numbers : (line column : ℕ) → List ℕ → MoreItems
more_numbers line column [] = items_end
more_numbers line column (k ∷ ks) = more_items (number_of k line column) (more_numbers line (column_behind column k) ks)

-- the numbers in square brackets, which open at column 14
abbrev pub numbers_list : (line : ℕ) → List ℕ → Primary
numbers_list line [] = empty_list (place_at line 14)
numbers_list line (k ∷ ks) = list (place_at line 14) (number_of k line 15) (more_numbers line (column_behind 15 k) ks)

-- ---- lines
abbrev pub import_line : Module → (bound : List ℕ) → (line : ℕ) → Line
import_line m bound line = importing (record { place = place_at line 1; «module» = m; module_place = place_at line 8; alias = Some (named_at bound line 17) })

-- `NAME = np.array([..])`
abbrev pub array_line : List ℕ → (line : ℕ) → List ℕ → Line
array_line name line numbers =
    assign (named_at name line 1) (expr_of (called_at (codes "np") (codes "array") line 5 13 (one_arg (expr_of (postfix (numbers_list line numbers) no_trailer)))))

-- `NAME = cp.Variable()`
abbrev pub variable_line : List ℕ → (line : ℕ) → Line
variable_line name line = assign (named_at name line 1) (expr_of (called_at (codes "cp") (codes "Variable") line 5 16 no_args))

-- `q = cp.Parameter(nonneg=True)`
abbrev pub parameter_line : Line
parameter_line = assign (named_at (codes "q") 7 1) (expr_of (called_at (codes "cp") (codes "Parameter") 7 5 17
    (args (by_name (named_at (codes "nonneg") 7 18) (expr_of (postfix (truth_at true (place_at 7 25)) no_trailer))) args_end)))

-- `s*t + a - b`
abbrev pub residuals : Expr
residuals = expr (sum (term (factor_of (name_of (codes "s") 8 40)) (scaled Times (place_at 8 41) (factor_of (name_of (codes "t") 8 42)) no_scaling))
    (added Plus (place_at 8 44) (term_of (name_of (codes "a") 8 46)) (added Minus (place_at 8 48) (term_of (name_of (codes "b") 8 50)) no_addition))) no_comparison

-- `cp.norm1(s*t + a - b) + q*cp.abs(s)`
abbrev pub objective : Expr
objective = expr (sum (term_of (called_at (codes "cp") (codes "norm1") 8 31 39 (one_arg residuals)))
    (added Plus (place_at 8 53) (term (factor_of (name_of (codes "q") 8 55)) (scaled Times (place_at 8 56)
    (factor_of (called_at (codes "cp") (codes "abs") 8 57 63 (one_arg (expr_of (name_of (codes "s") 8 64))))) no_scaling)) no_addition)) no_comparison

-- `prob = cp.Problem(cp.Minimize(..))`
abbrev pub problem_line : Line
problem_line = assign (named_at (codes "prob") 8 1) (expr_of (called_at (codes "cp") (codes "Problem") 8 8 18
    (one_arg (expr_of (called_at (codes "cp") (codes "Minimize") 8 19 30 (one_arg objective))))))

-- ---- the script
unfoldable pub trial_tree : (size : ℕ) → Lines
trial_tree size =
    lines (import_line Cvxpy (codes "cp") 1) (lines (import_line Numpy (codes "np") 2)
    (lines (array_line (codes "t") 3 (places size)) (lines (array_line (codes "b") 4 (heights size))
    (lines (variable_line (codes "s") 5) (lines (variable_line (codes "a") 6)
    (lines parameter_line (lines problem_line no_lines)))))))
