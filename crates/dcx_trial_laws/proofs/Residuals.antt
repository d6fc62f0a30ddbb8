-- The last line carried out: its nodes, one after the other, up to the problem that it makes.
use Rattle.std.proofs.Common.{◌≡◌, ℕ, ◌+◌, ◌*◌, ◌≤◌, true, false, cond, nat_eq, ◌&&◌, codes, List, [], ◌∷◌, length, if◌then◌else◌, Some, None, Result, Ok, Err, refl, ap, ◌∙◌, arith}
use Rattle.std.specs.Option.{unwrap_or}
use Rattle.std.proofs.lemmas.Bool.{and_right, le-leb}
use Rattle.dcx_frac.specs.declared.fraction.Frac.{Frac}
use Rattle.dcx_shape.specs.declared.shape.Shape.{Shape}
use Rattle.dcx_shape.specs.declared.shape.Sides.TheVariants.{Scalar, Vector}
use Rattle.dcx_shape.specs.Sides.{HasFewEntries}
use Rattle.dcx_atom.specs.declared.array.Array.{Array}
use Rattle.dcx_array.specs.Shapes.{scalar_shape}
use Rattle.dcx_arena.specs.Nodes.{Node, call_at}
use Rattle.dcx_call.specs.declared.attribute.Variable.{Variable}
use Rattle.dcx_call.specs.declared.attribute.Parameter.{Parameter}
use Rattle.dcx_call.specs.declared.call.Call.{Call}
use Rattle.dcx_call.specs.declared.call.Call.TheVariants as calls
use Rattle.dcx_call.specs.Calls.{shape_of}
use Rattle.dcx_tree.specs.declared.constraint.Sense.TheVariants.{Minimize}
use Rattle.dcx_syntax.specs.declared.tree.Module.TheVariants.{Cvxpy}
use Rattle.dcx_syntax.specs.declared.tree.Scaling.TheVariants.{Times}
use Rattle.dcx_syntax.specs.declared.tree.Sign.TheVariants.{Plus, Minus}
use Rattle.dcx_syntax.specs.Expressions.{Expr, no_comparison, Added, no_addition, added, Term, term, no_scaling, scaled, no_power, Postfix}
use Rattle.dcx_script_values.specs.declared.fault.ElabFault.{ElabFault}
use Rattle.dcx_script_values.specs.declared.fault.ElabFault.TheVariants.{ShapeClash}
use Rattle.dcx_script_values.specs.Values.{Value, plain, expression, objective as objective_value, problem, State, and_then, or_fault, ◌>>=◌, done}
use Rattle.dcx_script_values.specs.Nodes.{standing, constant, push}
use Rattle.dcx_script_values.specs.Same.{same_array}
use Rattle.dcx_script_state.specs.Declarations.{start, variable_with, parameter_with}
use Rattle.dcx_signature.specs.declared.table.Function.{Function}
use Rattle.dcx_signature.specs.declared.table.Function.TheVariants as functions
use Rattle.dcx_functions.specs.Calls.{flags_of, function_called}
use Rattle.dcx_operators.specs.Operators.{add_values, scale_values}
use Rattle.dcx_elab.specs.Expressions.{expr_means, compared_means, added_means, term_means, scaled_means, raised_means, signed, postfix_means}
use Rattle.dcx_elab.specs.Statements.{line_means}
use Rattle.dcx_trial_laws.specs.Tree.{place_at, named_at, name_of, called_at, factor_of, term_of, expr_of, one_arg, residuals, objective, problem_line}
use Rattle.dcx_trial_laws.proofs.Calls.{given_of, with_name}
use Rattle.dcx_trial_laws.proofs.Grades.{times, plus, minus, promote}
use Rattle.dcx_trial_laws.proofs.Minimizes.{minimized, asked_of}
use Rattle.dcx_trial_laws.proofs.Declared.{arrays}
use Rattle.dcx_trial_laws.proofs.Does.{expr_of-does, one_call-does, assign-does, node_of, push-does, broadcast-does, subtracted-does, promoted-stays, promoted-new}
use Rattle.dcx_trial_laws.proofs.Room.{vector_shape, vectors_alike, common_first, common_second, common_both, promoted_sides, product_sides, sum_sides}

-- ---- what is declared before
abbrev pub slope_variable : Variable
slope_variable = variable_with (codes "s") scalar_shape (flags_of [])

abbrev pub offset_variable : Variable
offset_variable = variable_with (codes "a") scalar_shape (flags_of [])

abbrev pub weight_parameter : Parameter
weight_parameter = parameter_with (codes "q") scalar_shape true false

abbrev pub slope_node : Node Call
slope_node = node_of (place_at 5 5) (calls.Variable slope_variable) [] Scalar

abbrev pub offset_node : Node Call
offset_node = node_of (place_at 6 5) (calls.Variable offset_variable) [] Scalar

abbrev pub weight_node : Node Call
weight_node = node_of (place_at 7 5) (calls.Parameter weight_parameter) [] Scalar

-- where the slope, the offset and the weight are declared, with more nodes, behind so many steps
abbrev pub declared : Array → Array → List (Node Call) → ℕ → State
declared a b more k = record {
  names = arrays a b ((codes "s", expression 0) ∷ (codes "a", expression 1) ∷ (codes "q", expression 2) ∷ []);
  nodes = slope_node ∷ offset_node ∷ weight_node ∷ more;
  variables = slope_variable ∷ offset_variable ∷ [];
  parameters = weight_parameter ∷ [];
  setting = [];
  asked = None;
  events = [];
  steps = k;
}

-- ---- the terms
-- `s*t`, `- b`, and `+ a - b`
abbrev scaled_slope : Term
scaled_slope = term (factor_of (name_of (codes "s") 8 40)) (scaled Times (place_at 8 41) (factor_of (name_of (codes "t") 8 42)) no_scaling)

abbrev less_heights : Added
less_heights = added Minus (place_at 8 48) (term_of (name_of (codes "b") 8 50)) no_addition

abbrev with_offset : Added
with_offset = added Plus (place_at 8 44) (term_of (name_of (codes "a") 8 46)) less_heights

-- `cp.norm1(..)`, `cp.abs(s)` and `q*cp.abs(s)`
abbrev norm_call : Postfix
norm_call = called_at (codes "cp") (codes "norm1") 8 31 39 (one_arg residuals)

abbrev abs_argument : Expr
abs_argument = expr_of (name_of (codes "s") 8 64)

abbrev abs_call : Postfix
abs_call = called_at (codes "cp") (codes "abs") 8 57 63 (one_arg abs_argument)

abbrev weighted : Term
weighted = term (factor_of (name_of (codes "q") 8 55)) (scaled Times (place_at 8 56) (factor_of abs_call) no_scaling)

-- the call that a function of one expression makes, as it makes it of the slope
abbrev made_in : Result (Value × State) ElabFault → Call
made_in (Ok x) = unwrap_or (call_at x.1.nodes 1) (calls.Variable slope_variable)
made_in (Err e) = calls.Variable slope_variable

abbrev slope_alone : State
slope_alone = record start { nodes = slope_node ∷ [] }

abbrev made_by : Function → Call
made_by f = made_in (function_called None (place_at 8 57) f (given_of abs_argument (expression 0) ∷ []) slope_alone)

abbrev norm1 : Call
norm1 = made_by functions.Norm1

abbrev abs : Call
abs = made_by functions.Abs

-- two arrays of one length that are not the same, of few enough entries
module _ (n : ℕ) (few : HasFewEntries (Vector n)) (es fs : List Frac) (e : length es ≡ n) (f : length fs ≡ n) (room : 8 * n + 7 ≤ 20000) where
  abbrev shape : Shape
  shape = vector_shape n few

  abbrev pub first_array : Array
  first_array = record { shape = shape; entries = es; full = e }

  abbrev pub second_array : Array
  second_array = record { shape = shape; entries = fs; full = f }

  abbrev vector_at : (column : ℕ) → Call → List ℕ → Node Call
  vector_at column call args = node_of (place_at 8 column) call args (Vector n)

  abbrev number_at : (column : ℕ) → Call → List ℕ → Node Call
  number_at column call args = node_of (place_at 8 column) call args Scalar

  -- nodes 3 to 5, of `s*t`; then 6 and 7, of `.. + a`; 8 to 10, of `.. - b`; and 11 to 14
  abbrev three : Node Call
  three = vector_at 41 (calls.Constant first_array) []

  abbrev four : Node Call
  four = vector_at 41 (promote shape) (0 ∷ [])

  abbrev five : Node Call
  five = vector_at 41 times (4 ∷ 3 ∷ [])

  abbrev six : Node Call
  six = vector_at 44 (promote shape) (1 ∷ [])

  abbrev seven : Node Call
  seven = vector_at 44 plus (5 ∷ 6 ∷ [])

  abbrev eight : Node Call
  eight = vector_at 48 (calls.Constant second_array) []

  abbrev nine : Node Call
  nine = vector_at 48 minus (8 ∷ [])

  abbrev ten : Node Call
  ten = vector_at 48 plus (7 ∷ 9 ∷ [])

  abbrev eleven : Node Call
  eleven = number_at 31 norm1 (10 ∷ [])

  abbrev twelve : Node Call
  twelve = number_at 57 abs (0 ∷ [])

  abbrev thirteen : Node Call
  thirteen = number_at 56 times (2 ∷ 12 ∷ [])

  abbrev fourteen : Node Call
  fourteen = number_at 53 plus (11 ∷ 13 ∷ [])

  abbrev to_five : List (Node Call) → List (Node Call)
  to_five more = three ∷ four ∷ five ∷ more

  abbrev to_ten : List (Node Call) → List (Node Call)
  to_ten more = to_five (six ∷ seven ∷ eight ∷ nine ∷ ten ∷ more)

  abbrev pub trial_nodes : List (Node Call)
  trial_nodes = to_ten (eleven ∷ twelve ∷ thirteen ∷ fourteen ∷ [])

  -- while the last line is carried out
  abbrev at : List (Node Call) → State
  at more = declared first_array second_array more 8

  -- ---- `s*t`
  push_three : push (place_at 8 41) (calls.Constant first_array) [] (at []) ≡ Ok (3, at (three ∷ []))
  push_three = push-does (place_at 8 41) (calls.Constant first_array) [] (Vector n) (at []) refl refl refl refl (omega (arith, room))

  push_four : push (place_at 8 41) (promote shape) (0 ∷ []) (at (three ∷ [])) ≡ Ok (4, at (three ∷ four ∷ []))
  push_four = push-does (place_at 8 41) (promote shape) (0 ∷ []) (Vector n) (at (three ∷ [])) refl (promoted_sides n few) refl refl (omega (arith, room))

  push_five : push (place_at 8 41) times (4 ∷ 3 ∷ []) (at (three ∷ four ∷ [])) ≡ Ok (5, at (to_five []))
  push_five = push-does (place_at 8 41) times (4 ∷ 3 ∷ []) (Vector n) (at (three ∷ four ∷ [])) refl (product_sides n few) refl refl (omega (arith, room))

  scaled_means_five : scale_values Times (place_at 8 41) (expression 0) (plain first_array) (at []) ≡ Ok (expression 5, at (to_five []))
  scaled_means_five =
      ap (λ r. and_then r (λ i. done (expression i)))
      (broadcast-does (place_at 8 41) times (standing 0) (constant first_array) shape 0 3 4 3 (at []) (at []) (at (three ∷ [])) (at (three ∷ four ∷ [])) (at (three ∷ four ∷ []))
      (Ok (5, at (to_five []))) (common_first n few) refl push_three
      (promoted-new (place_at 8 41) shape 0 (at (three ∷ [])) (Ok (4, at (three ∷ four ∷ []))) refl push_four)
      (promoted-stays (place_at 8 41) shape 3 (at (three ∷ four ∷ [])) (vectors_alike n few)) push_five)

  slope_is_five : term_means scaled_slope (at []) ≡ Ok (expression 5, at (to_five []))
  slope_is_five = ap (λ r. and_then r (scaled_means no_scaling)) scaled_means_five

  -- ---- `+ a`
  push_six : push (place_at 8 44) (promote shape) (1 ∷ []) (at (to_five [])) ≡ Ok (6, at (to_five (six ∷ [])))
  push_six =
      push-does (place_at 8 44) (promote shape) (1 ∷ []) (Vector n) (at (to_five [])) refl (promoted_sides n few)
      (ap (λ b. cond b (Some 4) None) (and_right (nat_eq n n) false refl)) refl (omega (arith, room))

  push_seven : push (place_at 8 44) plus (5 ∷ 6 ∷ []) (at (to_five (six ∷ []))) ≡ Ok (7, at (to_five (six ∷ seven ∷ [])))
  push_seven = push-does (place_at 8 44) plus (5 ∷ 6 ∷ []) (Vector n) (at (to_five (six ∷ []))) refl (sum_sides n few) refl refl (omega (arith, room))

  added_is_seven : add_values Plus (place_at 8 44) (expression 5) (expression 1) (at (to_five [])) ≡ Ok (expression 7, at (to_five (six ∷ seven ∷ [])))
  added_is_seven =
      ap (λ r. and_then r (λ i. done (expression i)))
      (broadcast-does (place_at 8 44) plus (standing 5) (standing 1) shape 5 1 5 6 (at (to_five [])) (at (to_five [])) (at (to_five [])) (at (to_five [])) (at (to_five (six ∷ [])))
      (Ok (7, at (to_five (six ∷ seven ∷ [])))) (common_second n few) refl refl (promoted-stays (place_at 8 44) shape 5 (at (to_five [])) (vectors_alike n few))
      (promoted-new (place_at 8 44) shape 1 (at (to_five [])) (Ok (6, at (to_five (six ∷ [])))) refl push_six) push_seven)

  -- ---- `- b`, which is another array
  module _ (other : same_array first_array second_array ≡ false) where
    push_eight : push (place_at 8 48) (calls.Constant second_array) [] (at (to_five (six ∷ seven ∷ []))) ≡ Ok (8, at (to_five (six ∷ seven ∷ eight ∷ [])))
    push_eight =
        push-does (place_at 8 48) (calls.Constant second_array) [] (Vector n) (at (to_five (six ∷ seven ∷ []))) refl refl (ap (λ b. cond (b && true) (Some 3) None) other) refl
        (omega (arith, room))

    push_nine : push (place_at 8 48) minus (8 ∷ []) (at (to_five (six ∷ seven ∷ eight ∷ []))) ≡ Ok (9, at (to_five (six ∷ seven ∷ eight ∷ nine ∷ [])))
    push_nine = push-does (place_at 8 48) minus (8 ∷ []) (Vector n) (at (to_five (six ∷ seven ∷ eight ∷ []))) refl refl refl refl (omega (arith, room))

    push_ten : push (place_at 8 48) plus (7 ∷ 9 ∷ []) (at (to_five (six ∷ seven ∷ eight ∷ nine ∷ []))) ≡ Ok (10, at (to_ten []))
    push_ten = push-does (place_at 8 48) plus (7 ∷ 9 ∷ []) (Vector n) (at (to_five (six ∷ seven ∷ eight ∷ nine ∷ []))) refl (sum_sides n few) refl refl (omega (arith, room))

    less_is_ten : add_values Minus (place_at 8 48) (expression 7) (plain second_array) (at (to_five (six ∷ seven ∷ []))) ≡ Ok (expression 10, at (to_ten []))
    less_is_ten =
        ap (λ r. and_then r (λ i. done (expression i)))
        (subtracted-does (place_at 8 48) (standing 7) (constant second_array) shape 7 8 7 9 9 (at (to_five (six ∷ seven ∷ []))) (at (to_five (six ∷ seven ∷ [])))
        (at (to_five (six ∷ seven ∷ eight ∷ []))) (at (to_five (six ∷ seven ∷ eight ∷ nine ∷ []))) (at (to_five (six ∷ seven ∷ eight ∷ nine ∷ [])))
        (at (to_five (six ∷ seven ∷ eight ∷ nine ∷ []))) (Ok (10, at (to_ten []))) (common_both n few) refl push_eight push_nine
        (promoted-stays (place_at 8 48) shape 7 (at (to_five (six ∷ seven ∷ eight ∷ nine ∷ []))) (vectors_alike n few))
        (promoted-stays (place_at 8 48) shape 9 (at (to_five (six ∷ seven ∷ eight ∷ nine ∷ []))) (vectors_alike n few)) push_ten)

    residuals_are_ten : expr_means residuals (at []) ≡ Ok (expression 10, at (to_ten []))
    residuals_are_ten =
        ap (λ r. and_then (and_then r (added_means with_offset)) (compared_means no_comparison)) slope_is_five
        ∙ ap (λ r. and_then (and_then r (added_means less_heights)) (compared_means no_comparison)) added_is_seven
        ∙ ap (λ r. and_then (and_then r (added_means no_addition)) (compared_means no_comparison)) less_is_ten

    -- ---- `cp.norm1(..)`
    norm_sides : shape_of norm1 (Vector n ∷ []) ≡ Some Scalar
    norm_sides = ap (λ b. if b then Some Scalar else None) (le-leb 1 n few.some)

    push_eleven : push (place_at 8 31) norm1 (10 ∷ []) (at (to_ten [])) ≡ Ok (11, at (to_ten (eleven ∷ [])))
    push_eleven = push-does (place_at 8 31) norm1 (10 ∷ []) Scalar (at (to_ten [])) refl norm_sides refl refl (omega (arith, room))

    norm_called : function_called None (place_at 8 31) functions.Norm1 (given_of residuals (expression 10) ∷ []) (at (to_ten [])) ≡ Ok (expression 11, at (to_ten (eleven ∷ [])))
    norm_called =
        ap (λ o. and_then (and_then (or_fault (ShapeClash (place_at 8 31)) o (at (to_ten []))) (λ _. push (place_at 8 31) norm1 (10 ∷ []))) (λ i. done (expression i))) norm_sides
        ∙ ap (λ r. and_then r (λ i. done (expression i))) push_eleven

    norm_is_eleven : term_means (term_of norm_call) (at []) ≡ Ok (expression 11, at (to_ten (eleven ∷ [])))
    norm_is_eleven =
        ap (λ r. and_then (and_then (and_then r (raised_means no_power)) (signed [])) (scaled_means no_scaling))
        (one_call-does None (codes "cp") (codes "norm1") 8 31 39 residuals (at []) (at (to_ten [])) (at (to_ten (eleven ∷ []))) (expression 10) (expression 11) Cvxpy functions.Norm1
        refl refl residuals_are_ten norm_called)

    -- ---- `q*cp.abs(s)`
    push_twelve : push (place_at 8 57) abs (0 ∷ []) (at (to_ten (eleven ∷ []))) ≡ Ok (12, at (to_ten (eleven ∷ twelve ∷ [])))
    push_twelve = push-does (place_at 8 57) abs (0 ∷ []) Scalar (at (to_ten (eleven ∷ []))) refl refl refl refl (omega (arith, room))

    abs_called : function_called None (place_at 8 57) functions.Abs (given_of abs_argument (expression 0) ∷ []) (at (to_ten (eleven ∷ []))) ≡ Ok (expression 12, at (to_ten (eleven ∷ twelve ∷ [])))
    abs_called = ap (λ r. and_then r (λ i. done (expression i))) push_twelve

    abs_is_twelve : postfix_means None abs_call (at (to_ten (eleven ∷ []))) ≡ Ok (expression 12, at (to_ten (eleven ∷ twelve ∷ [])))
    abs_is_twelve =
        one_call-does None (codes "cp") (codes "abs") 8 57 63 abs_argument (at (to_ten (eleven ∷ []))) (at (to_ten (eleven ∷ []))) (at (to_ten (eleven ∷ twelve ∷ []))) (expression 0)
        (expression 12) Cvxpy functions.Abs refl refl refl abs_called

    push_thirteen : push (place_at 8 56) times (2 ∷ 12 ∷ []) (at (to_ten (eleven ∷ twelve ∷ []))) ≡ Ok (13, at (to_ten (eleven ∷ twelve ∷ thirteen ∷ [])))
    push_thirteen = push-does (place_at 8 56) times (2 ∷ 12 ∷ []) Scalar (at (to_ten (eleven ∷ twelve ∷ []))) refl refl refl refl (omega (arith, room))

    price_is_thirteen : scale_values Times (place_at 8 56) (expression 2) (expression 12) (at (to_ten (eleven ∷ twelve ∷ []))) ≡ Ok (expression 13, at (to_ten (eleven ∷ twelve ∷ thirteen ∷ [])))
    price_is_thirteen =
        let here : State = at (to_ten (eleven ∷ twelve ∷ [])) in
        ap (λ r. and_then r (λ i. done (expression i)))
        (broadcast-does (place_at 8 56) times (standing 2) (standing 12) scalar_shape 2 12 2 12 here here here here here (Ok (13, at (to_ten (eleven ∷ twelve ∷ thirteen ∷ []))))
        refl refl refl refl refl push_thirteen)

    weighted_is_thirteen : term_means weighted (at (to_ten (eleven ∷ []))) ≡ Ok (expression 13, at (to_ten (eleven ∷ twelve ∷ thirteen ∷ [])))
    weighted_is_thirteen =
        ap (λ r. and_then (and_then (and_then r (raised_means no_power)) (signed [])) (λ w. scale_values Times (place_at 8 56) (expression 2) w >>= λ u. scaled_means no_scaling u)) abs_is_twelve
        ∙ ap (λ r. and_then r (scaled_means no_scaling)) price_is_thirteen

    -- ---- the objective
    push_fourteen : push (place_at 8 53) plus (11 ∷ 13 ∷ []) (at (to_ten (eleven ∷ twelve ∷ thirteen ∷ []))) ≡ Ok (14, at trial_nodes)
    push_fourteen = push-does (place_at 8 53) plus (11 ∷ 13 ∷ []) Scalar (at (to_ten (eleven ∷ twelve ∷ thirteen ∷ []))) refl refl refl refl (omega (arith, room))

    sum_is_fourteen : add_values Plus (place_at 8 53) (expression 11) (expression 13) (at (to_ten (eleven ∷ twelve ∷ thirteen ∷ []))) ≡ Ok (expression 14, at trial_nodes)
    sum_is_fourteen =
        let here : State = at (to_ten (eleven ∷ twelve ∷ thirteen ∷ [])) in
        ap (λ r. and_then r (λ i. done (expression i)))
        (broadcast-does (place_at 8 53) plus (standing 11) (standing 13) scalar_shape 11 13 11 13 here here here here here (Ok (14, at trial_nodes)) refl refl refl refl refl push_fourteen)

    objective_is_fourteen : expr_means objective (at []) ≡ Ok (expression 14, at trial_nodes)
    objective_is_fourteen =
        ap (λ r. and_then (and_then r (added_means (added Plus (place_at 8 53) weighted no_addition))) (compared_means no_comparison)) norm_is_eleven
        ∙ ap (λ r. and_then (and_then r (λ w. add_values Plus (place_at 8 53) (expression 11) w >>= λ u. added_means no_addition u)) (compared_means no_comparison)) weighted_is_thirteen
        ∙ ap (λ r. and_then (and_then r (added_means no_addition)) (compared_means no_comparison)) sum_is_fourteen

    -- ---- the problem
    abbrev to_minimize : Value
    to_minimize = objective_value Minimize 14 (place_at 8 19)

    abbrev asking : State
    asking = record (at trial_nodes) { asked = Some (asked_of 14 (place_at 8 19)) }

    abbrev pub trial_state : State
    trial_state = with_name (codes "prob") problem asking

    minimized_is : expr_means minimized (at []) ≡ Ok (to_minimize, at trial_nodes)
    minimized_is =
        expr_of-does (called_at (codes "cp") (codes "Minimize") 8 19 30 (one_arg objective)) (at []) (at trial_nodes) to_minimize
        (one_call-does None (codes "cp") (codes "Minimize") 8 19 30 objective (at []) (at trial_nodes) (at trial_nodes) (expression 14) to_minimize Cvxpy functions.Minimize refl refl
        objective_is_fourteen refl)

    pub problem_line-does : line_means problem_line (declared first_array second_array [] 7) ≡ Ok (tt, trial_state)
    problem_line-does =
        assign-does (named_at (codes "prob") 8 1) (called_at (codes "cp") (codes "Problem") 8 8 18 (one_arg minimized)) (declared first_array second_array [] 7) asking problem refl
        (one_call-does (Some (codes "prob")) (codes "cp") (codes "Problem") 8 8 18 minimized (at []) (at trial_nodes) asking to_minimize problem Cvxpy functions.Problem refl refl minimized_is refl)
        refl
