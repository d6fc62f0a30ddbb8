-- The first faults of worked scripts, with their places: each holds by computation.
use Rattle.std.specs.Prelude.{◌≡◌, refl, [], codes, Err, true}
use native.Mathlib.Decide.{dec_lt, dec_le}
use Rattle.dcx_arena.specs.declared.fault.Count.TheVariants.{Entries}
use Rattle.dcx_syntax.specs.declared.tree.Comparison.TheVariants.{AtMost, Less}
use Rattle.dcx_syntax.specs.declared.tree.Sign.TheVariants.{Plus}
use Rattle.dcx_syntax.specs.Expressions.{Expr, expr, sum, added, no_addition, term, no_scaling, factor, power_of, no_power, compared, no_comparison, postfix, no_trailer}
use Rattle.dcx_syntax.specs.Expressions.{tuple, items, items_end, no_args, args, more_args, args_end, by_place, by_name, at, slice, present, no_step, truth_at}
use Rattle.dcx_syntax.specs.Statements.{Lines, no_lines}
use Rattle.dcx_script_values.specs.declared.fault.ElabFault.TheVariants.{UnknownName, UnknownCall, BadArgument, NotOffered, ShapeClash, IndexRange, EmptyResult, NoProblem, TooMany}
use Rattle.dcx_array.specs.Shapes.{dec_few, shape_with}
use Rattle.dcx_elab.specs.Meaning.{meaning}
use Rattle.dcx_elab.proofs.Samples.{place, named, sum_of_one, alone, name_postfix, number_postfix, name_expr, number_expr, cp_expr, compared_expr, list_of_one, indexed_expr}
use Rattle.dcx_elab.proofs.Samples.{one_arg, two_args, after_imports, after_variable, assigned, zero_number, one_number, two, three, five, twenty_thousand, twenty_thousand_and_one}

-- ---- scripts without a problem
empty_script : meaning no_lines ≡ Err (NoProblem (place 1 1))
empty_script = refl

only_imports : meaning (after_imports no_lines) ≡ Err (NoProblem (place 1 1))
only_imports = refl

-- ---- `y = ..` as line 4, after `x = cp.Variable()`
abbrev y_is : Expr → Lines
y_is e = after_variable no_args (assigned (codes "y") 4 e no_lines)

-- `y = z`
unbound_name : meaning (y_is (name_expr (codes "z") 4 5)) ≡ Err (UnknownName (place 4 5))
unfolding dec_few shape_with dec_lt dec_le
unbound_name = refl

-- `y = cp.square(x)`
no_such_call : meaning (y_is (cp_expr (codes "square") 4 5 (one_arg (name_expr (codes "x") 4 15)))) ≡ Err (UnknownCall (place 4 5))
unfolding dec_few shape_with dec_lt dec_le
no_such_call = refl

-- `y = cp.maximum(x)`
maximum_of_one : meaning (y_is (cp_expr (codes "maximum") 4 5 (one_arg (name_expr (codes "x") 4 16)))) ≡ Err (BadArgument (place 4 5))
unfolding dec_few shape_with dec_lt dec_le
maximum_of_one = refl

-- `y = cp.abs(cp.Variable())`
declared_elsewhere : meaning (y_is (cp_expr (codes "abs") 4 5 (one_arg (cp_expr (codes "Variable") 4 12 no_args)))) ≡ Err (NotOffered (place 4 12))
unfolding dec_few shape_with dec_lt dec_le
declared_elsewhere = refl

-- `y = cp.abs(x, x)`: one argument too many, at that argument
one_too_many : meaning (y_is (cp_expr (codes "abs") 4 5 (two_args (name_expr (codes "x") 4 12) (name_expr (codes "x") 4 15)))) ≡ Err (BadArgument (place 4 15))
unfolding dec_few shape_with dec_lt dec_le
one_too_many = refl

-- `y = cp.sum(x, axis=0)`: a scalar has no side
axis_of_a_scalar : meaning (y_is (cp_expr (codes "sum") 4 5
    (args (by_place (name_expr (codes "x") 4 12)) (more_args (by_name (named (codes "axis") 4 15) (number_expr zero_number 4 20)) args_end)))) ≡ Err (BadArgument (place 4 15))
unfolding dec_few shape_with dec_lt dec_le
axis_of_a_scalar = refl

-- ---- `prob = cp.Problem(cp.Minimize(x), [..])` as line 4
abbrev problem_under : Expr → Lines
problem_under e =
    after_variable no_args (assigned (codes "prob") 4
    (cp_expr (codes "Problem") 4 8 (two_args (cp_expr (codes "Minimize") 4 19 (one_arg (name_expr (codes "x") 4 31))) (list_of_one 4 35 e))) no_lines)

-- `[0 <= x <= 1]`
chained_comparisons : meaning (problem_under
    (expr (sum_of_one (number_postfix zero_number 4 36))
    (compared AtMost (place 4 38) (sum_of_one (name_postfix (codes "x") 4 41)) (compared AtMost (place 4 43) (sum_of_one (number_postfix one_number 4 46)) no_comparison))))
    ≡ Err (NotOffered (place 4 43))
unfolding dec_few shape_with dec_lt dec_le
chained_comparisons = refl

-- `[x < 1]`
strict_comparison : meaning (problem_under (compared_expr Less (name_postfix (codes "x") 4 36) 4 38 (number_postfix one_number 4 40))) ≡ Err (NotOffered (place 4 38))
unfolding dec_few shape_with dec_lt dec_le
strict_comparison = refl

-- ---- `y = ..` as line 4, after `x = cp.Variable(3)`
abbrev of_three : Expr → Lines
of_three e = after_variable (one_arg (number_expr three 3 17)) (assigned (codes "y") 4 e no_lines)

-- `y = x[5]`
index_out_of_range : meaning (of_three (indexed_expr (codes "x") 4 5 (at (number_expr five 4 7)))) ≡ Err (IndexRange (place 4 6))
unfolding dec_few shape_with dec_lt dec_le
index_out_of_range = refl

-- `y = x[2:2]`
empty_slice : meaning (of_three (indexed_expr (codes "x") 4 5 (slice (present (number_expr two 4 7)) (present (number_expr two 4 9)) no_step))) ≡ Err (EmptyResult (place 4 6))
unfolding dec_few shape_with dec_lt dec_le
empty_slice = refl

-- `x = cp.Variable(1)` and `y = cp.tv(x)`
variation_of_one : meaning (after_variable (one_arg (number_expr one_number 3 17)) (assigned (codes "y") 4 (cp_expr (codes "tv") 4 5 (one_arg (name_expr (codes "x") 4 11))) no_lines))
    ≡ Err (EmptyResult (place 4 5))
unfolding dec_few shape_with dec_lt dec_le
variation_of_one = refl

-- `x = cp.Variable(2)`, `z = cp.Variable(3)` and `y = x + z`
shapes_clash : meaning (after_variable (one_arg (number_expr two 3 17))
    (assigned (codes "z") 4 (cp_expr (codes "Variable") 4 5 (one_arg (number_expr three 4 17)))
    (assigned (codes "y") 5
    (expr (sum (term (factor [] (power_of (name_postfix (codes "x") 5 5) no_power)) no_scaling)
    (added Plus (place 5 7) (term (factor [] (power_of (name_postfix (codes "z") 5 9) no_power)) no_scaling) no_addition)) no_comparison)
    no_lines)))
    ≡ Err (ShapeClash (place 5 7))
unfolding dec_few shape_with dec_lt dec_le
shapes_clash = refl

-- ---- limits
-- `x = cp.Variable(20000)` and `y = cp.Variable(1)`
too_many_entries : meaning (after_variable (one_arg (number_expr twenty_thousand 3 17)) (assigned (codes "y") 4 (cp_expr (codes "Variable") 4 5 (one_arg (number_expr one_number 4 17))) no_lines))
    ≡ Err (TooMany (place 4 5) Entries 20001)
unfolding dec_few shape_with dec_lt dec_le
too_many_entries = refl

-- `x = cp.Variable(20001)`
too_large_a_shape : meaning (after_variable (one_arg (number_expr twenty_thousand_and_one 3 17)) no_lines) ≡ Err (TooMany (place 3 5) Entries 20001)
unfolding dec_few shape_with dec_lt dec_le
too_large_a_shape = refl

-- `X = cp.Variable((2, 3), diag=True)`
not_square : meaning (after_imports (assigned (codes "X") 3 (cp_expr (codes "Variable") 3 5
    (args (by_place (alone (postfix (tuple (place 3 17) (number_expr two 3 18) (items (number_expr three 3 21) items_end)) no_trailer)))
    (more_args (by_name (named (codes "diag") 3 25) (alone (postfix (truth_at true (place 3 30)) no_trailer))) args_end))) no_lines))
    ≡ Err (ShapeClash (place 3 5))
unfolding dec_few shape_with dec_lt dec_le
not_square = refl
