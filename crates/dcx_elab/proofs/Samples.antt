-- Syntax trees of small scripts, written by hand: each with the places at which its tokens stand.
use Rattle.std.specs.Prelude.{ℕ, pos, List, [], ◌+◌, codes, Some}
use Rattle.std.proofs.Common.{lit<}
use native.Mathlib.Nat.{eq-one_of_dvd-one}
use Rattle.dcx_frac.specs.declared.fraction.Frac.{Frac}
use Rattle.dcx_shape.specs.declared.place.Place.{Place}
use Rattle.dcx_syntax.specs.declared.tree.Named.{Named}
use Rattle.dcx_syntax.specs.declared.tree.Module.TheVariants.{Cvxpy, Numpy}
use Rattle.dcx_syntax.specs.declared.tree.Comparison.{Comparison}
use Rattle.dcx_syntax.specs.Expressions.{Expr, expr, no_comparison, compared, Sum, sum, no_addition, term, no_scaling, factor, power_of, no_power, Postfix, postfix}
use Rattle.dcx_syntax.specs.Expressions.{no_trailer, attribute, call, indexed, Args, args, args_end, more_args, by_place, no_index, Index, number_at, name_at, list, items_end}
use Rattle.dcx_syntax.specs.Statements.{importing, assign, Lines, no_lines, lines}

abbrev pub place : ℕ → ℕ → Place
place line column = record { line = line; column = column }

abbrev pub named : List ℕ → ℕ → ℕ → Named
named name line column = record { name = name; place = place line column }

-- ---- expressions that are one postfix
abbrev pub sum_of_one : Postfix → Sum
sum_of_one x = sum (term (factor [] (power_of x no_power)) no_scaling) no_addition

abbrev pub alone : Postfix → Expr
alone x = expr (sum_of_one x) no_comparison

abbrev pub name_postfix : List ℕ → ℕ → ℕ → Postfix
name_postfix name line column = postfix (name_at (named name line column)) no_trailer

abbrev pub number_postfix : Frac → ℕ → ℕ → Postfix
number_postfix x line column = postfix (number_at x (place line column)) no_trailer

-- `cp.name(..)`, which begins at the column
abbrev pub cp_call : List ℕ → ℕ → ℕ → Args → Postfix
cp_call name line column xs = postfix (name_at (named (codes "cp") line column)) (attribute (named name line (column + 3)) (call (place line (column + 3)) xs no_trailer))

abbrev pub one_arg : Expr → Args
one_arg x = args (by_place x) args_end

abbrev pub two_args : Expr → Expr → Args
two_args x y = args (by_place x) (more_args (by_place y) args_end)

-- a name, and a number
abbrev pub name_expr : List ℕ → ℕ → ℕ → Expr
name_expr name line column = alone (name_postfix name line column)

abbrev pub number_expr : Frac → ℕ → ℕ → Expr
number_expr x line column = alone (number_postfix x line column)

abbrev pub cp_expr : List ℕ → ℕ → ℕ → Args → Expr
cp_expr name line column xs = alone (cp_call name line column xs)

-- `a < b`, whose sign stands at the column
abbrev pub compared_expr : Comparison → Postfix → ℕ → ℕ → Postfix → Expr
compared_expr c a line column b = expr (sum_of_one a) (compared c (place line column) (sum_of_one b) no_comparison)

-- `[e]`
abbrev pub list_of_one : ℕ → ℕ → Expr → Expr
list_of_one line column e = alone (postfix (list (place line column) e items_end) no_trailer)

-- `name[..]`, which begins at the column
abbrev pub indexed_expr : List ℕ → ℕ → ℕ → Index → Expr
indexed_expr name line column i = alone (postfix (name_at (named name line column)) (indexed (place line (column + 1)) i no_index no_trailer))

-- ---- lines
-- the two imports with which each script begins, and the lines behind them
abbrev pub after_imports : Lines → Lines
after_imports ls =
    lines (importing (record { place = place 1 1; «module» = Cvxpy; module_place = place 1 8; alias = Some (named (codes "cp") 1 17) }))
    (lines (importing (record { place = place 2 1; «module» = Numpy; module_place = place 2 8; alias = Some (named (codes "np") 2 17) })) ls)

-- `x = cp.Variable(..)` as line 3, and the lines behind it
abbrev pub after_variable : Args → Lines → Lines
after_variable xs ls = after_imports (lines (assign (named (codes "x") 3 1) (alone (cp_call (codes "Variable") 3 5 xs))) ls)

-- line 4 alone
abbrev pub line_4 : List ℕ → Expr → Lines
line_4 name e = lines (assign (named name 4 1) e) no_lines

-- `y = e` in a line, whose name stands at its head
abbrev pub assigned : List ℕ → ℕ → Expr → Lines → Lines
assigned name line e ls = lines (assign (named name line 1) e) ls

-- ---- numbers
abbrev pub zero_number : Frac
zero_number = record { num = pos 0; den = pos 1; positive = record { lt = tt }; lowest = λ d z h. eq-one_of_dvd-one h; num_fits = lit< tt; den_fits = lit< tt }

abbrev pub one_number : Frac
one_number = record { num = pos 1; den = pos 1; positive = record { lt = tt }; lowest = λ d z h. eq-one_of_dvd-one h; num_fits = lit< tt; den_fits = lit< tt }

abbrev pub two : Frac
two = record { num = pos 2; den = pos 1; positive = record { lt = tt }; lowest = λ d z h. eq-one_of_dvd-one h; num_fits = lit< tt; den_fits = lit< tt }

abbrev pub three : Frac
three = record { num = pos 3; den = pos 1; positive = record { lt = tt }; lowest = λ d z h. eq-one_of_dvd-one h; num_fits = lit< tt; den_fits = lit< tt }

abbrev pub five : Frac
five = record { num = pos 5; den = pos 1; positive = record { lt = tt }; lowest = λ d z h. eq-one_of_dvd-one h; num_fits = lit< tt; den_fits = lit< tt }

abbrev pub twenty_thousand : Frac
twenty_thousand = record { num = pos 20000; den = pos 1; positive = record { lt = tt }; lowest = λ d z h. eq-one_of_dvd-one h; num_fits = lit< tt; den_fits = lit< tt }

abbrev pub twenty_thousand_and_one : Frac
twenty_thousand_and_one = record { num = pos 20001; den = pos 1; positive = record { lt = tt }; lowest = λ d z h. eq-one_of_dvd-one h; num_fits = lit< tt; den_fits = lit< tt }
