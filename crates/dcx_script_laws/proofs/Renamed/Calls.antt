-- Arguments, and what each call does, under other names.
use Rattle.std.proofs.Common.{◌≡◌, ℕ, zero, suc, Bool, true, List, [], ◌∷◌, map, length, Option, Some, None, option_map, refl, ap}
use Rattle.std.specs.Prelude.{pos, ℤ, nat_eq, nat_lt, nat_le, not, is_some, option_and_then}
use Rattle.dcx_frac.specs.declared.fraction.Frac.{Frac}
use Rattle.dcx_shape.specs.declared.shape.Sides.{Sides}
use Rattle.dcx_shape.specs.declared.shape.Sides.TheVariants.{Scalar, Vector, Matrix}
use Rattle.dcx_shape.specs.declared.place.Place.{Place}
use Rattle.dcx_shape.specs.Sides.{entries_of}
use Rattle.dcx_atom.specs.declared.axis.Axis.TheVariants as axes
use Rattle.dcx_atom.specs.Formed.{zero_frac, one_frac}
use Rattle.dcx_affine.specs.declared.pairing.Pairing.TheVariants as pairings
use Rattle.dcx_arena.specs.declared.fault.Count.TheVariants.{Items}
use Rattle.dcx_arena.specs.Nodes.{Node}
use Rattle.dcx_array.specs.Shapes.{shape_with}
use Rattle.dcx_array.specs.Arrays.{constant as constant_array, identity}
use Rattle.dcx_call.specs.declared.atoms.AtomCall.{AtomCall}
use Rattle.dcx_call.specs.declared.atoms.AtomCall.TheVariants as atoms
use Rattle.dcx_call.specs.declared.linears.LinearCall.{LinearCall}
use Rattle.dcx_call.specs.declared.linears.LinearCall.TheVariants as linears
use Rattle.dcx_call.specs.declared.call.Call.{Call}
use Rattle.dcx_call.specs.declared.call.Call.TheVariants as calls
use Rattle.dcx_tree.specs.declared.constraint.Sense.{Sense}
use Rattle.dcx_tree.specs.declared.constraint.Sense.TheVariants as senses
use Rattle.dcx_script_values.specs.declared.fault.ElabFault.TheVariants.{BadArgument, NotOffered, ShapeClash, EmptyResult}
use Rattle.dcx_script_values.specs.Values.{Value, range, objective, Act, ◌>>=◌, ◌>>◌, done, unless, too_many, most_items}
use Rattle.dcx_script_values.specs.Nodes.{Operand, operand_sides}
use Rattle.dcx_script_values.specs.Kinds.{Reading, operand, nested, empty, unfit, reading, reading_sides, sides_from, rows_array}
use Rattle.dcx_signature.specs.declared.table.Function.{Function}
use Rattle.dcx_signature.specs.declared.table.Function.TheVariants as functions
use Rattle.dcx_signature.specs.Fits.{is_by_rows}
use Rattle.dcx_signature.specs.Table.{Row, x_word, matrix_word, a_word, b_word, v_word, e_word, n_word, k_word, list_word, shape_word, order_word}
use Rattle.dcx_signature.specs.Table.{value_word, nonneg_word, nonpos_word, objective_word, constraints_word, first_word, second_word, step_word, row}
use Rattle.dcx_signature.specs.Arguments.{Given, Matched, matched, Bound, bound_of, given_for, value_for, is_right, all_right, sides_of_x, are_given}
use Rattle.dcx_signature.specs.Turns.{range_count, range_from}
use Rattle.dcx_functions.specs.Calls.{reading_of, operand_for, sides_of_operand, axis_for, whole_or, natural_or, share_for, count_of, is_set, items_for}
use Rattle.dcx_functions.specs.Calls.{of_one, of_two, of_several, stacked, reshaped, vectorized, reshape, is_matrix, axis_is_written, running, differences}
use Rattle.dcx_functions.specs.Calls.{longer_than, differenced, total_variation, norm_call, norm, objective_of, constant_of, filled_with, range_of}
use Rattle.dcx_functions.specs.Calls.{declared_sides, flags_of, names_unoffered, variable_of, parameter_of, linear, atom, perform, is_placed, function_called}
use Rattle.dcx_script_laws.specs.Renamed.{call_renamed, node_renamed}
use Rattle.dcx_script_laws.specs.Names.{IsRenaming, Follows}
use Rattle.dcx_script_laws.proofs.Renamed.Nodes.{same_function, operands_kept}
use Rattle.dcx_script_laws.proofs.Renamed.Acts.{chain, next, reads, instead, done_follows, fault_follows, unless_follows, or_fault_follows, or_array_fault_follows, if_follows}
use Rattle.dcx_script_laws.proofs.Renamed.Pushes.{operand_follows, operands_follow, numbers_follow, plain_follows, expression_follows, push_follows, pushed_follows, called_follows, broadcast_follows}
use Rattle.dcx_script_laws.proofs.Renamed.Declarations.{declare_variable_follows, declare_parameter_follows, make_problem_follows}

-- ---- what doesn't change
module _ (rename : List ℕ → List ℕ) (nodes : List (Node Call)) where
  reading_sides_kept : (r : Reading) → reading_sides (map (node_renamed rename) nodes) r ≡ reading_sides nodes r
  reading_sides_kept (operand x) = ap (λ f. Some (f x)) (operands_kept rename nodes)
  reading_sides_kept nested = refl
  reading_sides_kept empty = refl
  reading_sides_kept unfit = refl

  sides_of_x_kept : (bound : Bound) → sides_of_x (map (node_renamed rename) nodes) bound ≡ sides_of_x nodes bound
  sides_of_x_kept bound = ap (λ f. option_and_then (λ v. f (reading v)) (given_for x_word bound)) (same_function reading_sides_kept)

-- the arguments, beside an x with these sides
abbrev pub arguments_by : Place → Row → List Given → Option Sides → Act Bound
arguments_by place wanted gs x = do
  all_right x (matched wanted gs)
  unless (BadArgument place) (are_given wanted (bound_of (matched wanted gs)))
  done (bound_of (matched wanted gs))

module _ {rename : List ℕ → List ℕ} where
  -- ---- arguments
  all_right_follow : (x : Option Sides) (ms : List Matched) → Follows rename (all_right x ms) (all_right x ms)
  all_right_follow x [] = done_follows tt
  all_right_follow x (m ∷ ms) = next (unless_follows (BadArgument m.0.place) (is_right x m.0 m.1)) (all_right_follow x ms)

  arguments_by_follow : (place : Place) (wanted : Row) (gs : List Given) (x : Option Sides) → Follows rename (arguments_by place wanted gs x) (arguments_by place wanted gs x)
  arguments_by_follow place wanted gs x =
      next (all_right_follow x (matched wanted gs)) (next (unless_follows (BadArgument place) (are_given wanted (bound_of (matched wanted gs)))) (done_follows (bound_of (matched wanted gs))))

  -- the arguments, and what is made of them
  pub arguments_follow : {A : Type 0} (place : Place) (wanted : Row) (gs : List Given) {f g : Bound → Act A} → ((bound : Bound) → Follows rename (f bound) (g bound)) →
      Follows rename (λ s. (arguments_by place wanted gs (sides_of_x s.nodes (bound_of (matched wanted gs))) >>= f) s)
      (λ s. (arguments_by place wanted gs (sides_of_x s.nodes (bound_of (matched wanted gs))) >>= g) s)
  arguments_follow place wanted gs h =
      reads (λ s. sides_of_x s.nodes (bound_of (matched wanted gs))) (λ s. sides_of_x s.nodes (bound_of (matched wanted gs))) (λ s. sides_of_x_kept rename s.nodes (bound_of (matched wanted gs)))
      (λ x. chain (arguments_by_follow place wanted gs x) h)

  -- ---- what was given
  operand_for_follows : (place : Place) (word : List ℕ) (bound : Bound) → Follows rename (operand_for place word bound) (operand_for place word bound)
  operand_for_follows place word bound = operand_follows place (reading_of word bound)

  operand_sides_follow : (x : Operand) → Follows rename (sides_of_operand x) (sides_of_operand x)
  operand_sides_follow x = reads (λ s. operand_sides s.nodes x) (λ s. operand_sides s.nodes x) (λ s. ap (λ f. f x) (operands_kept rename s.nodes)) done_follows

  longer_follows : (place : Place) (k : ℕ) (sides : Sides) → Follows rename (longer_than place k sides) (longer_than place k sides)
  longer_follows place k Scalar = fault_follows (ShapeClash place)
  longer_follows place k (Vector n) = unless_follows (EmptyResult place) (nat_lt k n)
  longer_follows place k (Matrix m n) = fault_follows (ShapeClash place)

  -- ---- plain arrays and ranges
  filled_follows : (place : Place) (x : Frac) (bound : Bound) → Follows rename (filled_with place x bound) (filled_with place x bound)
  filled_follows place x bound =
      chain (or_fault_follows (BadArgument place) (sides_from (pos 0) (value_for shape_word bound))) (λ sides. plain_follows (or_array_fault_follows place (constant_array sides x)))

  range_from_follows : (place : Place) (first stop step : ℤ) → Follows rename (range_from place first stop step) (range_from place first stop step)
  range_from_follows place first stop step =
      next (unless_follows (too_many place Items (range_count first stop step)) (nat_le (range_count first stop step) most_items)) (done_follows (range first step (range_count first stop step)))

  range_of_follows : (place : Place) (bound : Bound) → Follows rename (range_of place bound) (range_of place bound)
  range_of_follows place bound =
      if_follows (is_some (given_for second_word bound))
      (range_from_follows place (whole_or (pos 0) first_word bound) (whole_or (pos 0) second_word bound) (whole_or (pos 1) step_word bound))
      (range_from_follows place (pos 0) (whole_or (pos 0) first_word bound) (pos 1))

module _ {rename : List ℕ → List ℕ} (is : IsRenaming rename) where
  -- ---- calls of expressions
  one_follows : (place : Place) (call : Call) (word : List ℕ) (bound : Bound) → Follows rename (of_one place call word bound) (of_one place (call_renamed rename call) word bound)
  one_follows place call word bound = chain (operand_for_follows place word bound) (λ x. expression_follows (called_follows is place call (x ∷ [])))

  linear_follows : (place : Place) (call : LinearCall) (bound : Bound) → Follows rename (linear place call bound) (linear place call bound)
  linear_follows place call bound = one_follows place (calls.Linear call) x_word bound

  atom_follows : (place : Place) (call : AtomCall) (bound : Bound) → Follows rename (atom place call bound) (atom place call bound)
  atom_follows place call bound = one_follows place (calls.Atom call) x_word bound

  two_follow : (place : Place) (call : Call) (bound : Bound) → Follows rename (of_two place call bound) (of_two place (call_renamed rename call) bound)
  two_follow place call bound = chain (operands_follow place (reading_of a_word bound ∷ reading_of b_word bound ∷ [])) (λ xs. expression_follows (broadcast_follows is place call xs))

  several_follow : (place : Place) (call : AtomCall) (bound : Bound) → Follows rename (of_several place call bound) (of_several place call bound)
  several_follow place call bound = chain (operands_follow place (map (λ b. reading b.1) bound)) (λ xs. expression_follows (broadcast_follows is place (calls.Atom call) xs))

  stacked_follow : (place : Place) (call : LinearCall) (vs : List Value) → Follows rename (stacked place call vs) (stacked place call vs)
  stacked_follow place call vs =
      next (unless_follows (EmptyResult place) (not (nat_eq (length vs) 0)))
      (chain (operands_follow place (map reading vs)) (λ xs. expression_follows (called_follows is place (calls.Linear call) xs)))

  reshaped_follows : (place : Place) (x : Operand) (sides : Sides) (by_columns : Bool) → Follows rename (reshaped place x sides by_columns) (reshaped place x sides by_columns)
  reshaped_follows place x sides by_columns =
      chain (or_fault_follows (ShapeClash place) (shape_with sides))
      (λ to. expression_follows (called_follows is place (calls.Linear (linears.Reshape (record { to = to; by_columns = by_columns }))) (x ∷ [])))

  vectorized_follows : (place : Place) (bound : Bound) → Follows rename (vectorized place bound) (vectorized place bound)
  vectorized_follows place bound = chain (operand_for_follows place x_word bound) (λ x. chain (operand_sides_follow x) (λ sides. reshaped_follows place x (Vector (entries_of sides)) true))

  reshape_follows : (place : Place) (bound : Bound) → Follows rename (reshape place bound) (reshape place bound)
  reshape_follows place bound =
      chain (operand_for_follows place x_word bound) (λ x. chain (or_fault_follows (BadArgument place) (sides_from (pos 1) (value_for shape_word bound)))
      (λ sides. reshaped_follows place x sides (not (is_by_rows (value_for order_word bound)))))

  running_follows : (place : Place) (bound : Bound) → Follows rename (running place bound) (running place bound)
  running_follows place bound =
      chain (operand_for_follows place x_word bound) (λ x. chain (operand_sides_follow x) (λ sides. next (unless_follows (BadArgument place) (axis_is_written (axis_for bound) sides))
      (expression_follows (called_follows is place (calls.Linear (linears.CumSum (record { axis = axis_for bound }))) (x ∷ [])))))

  differences_follow : (place : Place) (k i : ℕ) → Follows rename (differences place k i) (differences place k i)
  differences_follow place zero i = done_follows i
  differences_follow place (suc k) i = chain (push_follows is place (calls.Linear (linears.Diff (record {}))) (i ∷ [])) (λ j. differences_follow place k j)

  differenced_follows : (place : Place) (k : ℕ) (bound : Bound) → Follows rename (differenced place k bound) (differenced place k bound)
  differenced_follows place k bound =
      chain (operand_for_follows place x_word bound)
      (λ x. chain (operand_sides_follow x) (λ sides. next (longer_follows place k sides) (chain (pushed_follows is place x) (λ i. differences_follow place k i))))

  variation_follows : (place : Place) (bound : Bound) → Follows rename (total_variation place bound) (total_variation place bound)
  variation_follows place bound = chain (differenced_follows place 1 bound) (λ i. push_follows is place (calls.Atom (atoms.Norm1 (record { axis = axes.All }))) (i ∷ []))

  norm_follows : (place : Place) (bound : Bound) → Follows rename (norm place bound) (norm place bound)
  norm_follows place bound =
      chain (or_fault_follows (NotOffered place) (norm_call (value_for order_word bound))) (λ call. chain (operand_for_follows place x_word bound) (λ x. chain (operand_sides_follow x)
      (λ sides. next (unless_follows (NotOffered place) (not (is_matrix sides))) (expression_follows (called_follows is place (calls.Atom call) (x ∷ []))))))

  objective_follows : (place : Place) (sense : Sense) (bound : Bound) → Follows rename (objective_of place sense bound) (objective_of place sense bound)
  objective_follows place sense bound =
      chain (operand_for_follows place e_word bound) (λ x. chain (operand_sides_follow x) (λ sides. next (unless_follows (ShapeClash place) (nat_eq (entries_of sides) 1))
      (chain (pushed_follows is place x) (λ i. done_follows (objective sense i place)))))

  constant_follows : (place : Place) (bound : Bound) → Follows rename (constant_of place bound) (constant_of place bound)
  constant_follows place bound = chain (numbers_follow place (reading_of v_word bound)) (λ a. expression_follows (push_follows is place (calls.Constant a) []))

  -- ---- declarations
  variable_follows : (place : Place) (target : Option (List ℕ)) (bound : Bound) → Follows rename (variable_of place target bound) (variable_of place (option_map rename target) bound)
  variable_follows place None bound = fault_follows (NotOffered place)
  variable_follows place (Some name) bound = declare_variable_follows is place name (declared_sides bound) (flags_of bound)

  parameter_follows : (place : Place) (target : Option (List ℕ)) (bound : Bound) → Follows rename (parameter_of place target bound) (parameter_of place (option_map rename target) bound)
  parameter_follows place None bound = fault_follows (NotOffered place)
  parameter_follows place (Some name) bound =
      declare_parameter_follows is place name (declared_sides bound) (is_set nonneg_word bound) (is_set nonpos_word bound) (names_unoffered bound) (option_map reading (given_for value_word bound))

  -- ---- one line for each call
  perform_follows : (target : Option (List ℕ)) (f : Function) (place : Place) (bound : Bound) → Follows rename (perform target f place bound) (perform (option_map rename target) f place bound)
  perform_follows target functions.Range place bound = range_of_follows place bound
  perform_follows target functions.Variable place bound = variable_follows place target bound
  perform_follows target functions.Parameter place bound = parameter_follows place target bound
  perform_follows target functions.Constant place bound = constant_follows place bound
  perform_follows target functions.Minimize place bound = objective_follows place senses.Minimize bound
  perform_follows target functions.Maximize place bound = objective_follows place senses.Maximize bound
  perform_follows target functions.Problem place bound = make_problem_follows place (value_for objective_word bound) (items_for constraints_word bound)
  perform_follows target functions.Array place bound = plain_follows (or_fault_follows (EmptyResult place) (rows_array (items_for v_word bound)))
  perform_follows target functions.Ones place bound = filled_follows place one_frac bound
  perform_follows target functions.Zeros place bound = filled_follows place zero_frac bound
  perform_follows target functions.Eye place bound = plain_follows (or_array_fault_follows place (identity (natural_or 0 n_word bound)))
  perform_follows target functions.Multiply place bound = two_follow place (calls.Pairing pairings.Times) bound
  perform_follows target functions.Vectorize place bound = vectorized_follows place bound
  perform_follows target functions.Reshape place bound = reshape_follows place bound
  perform_follows target functions.Sum place bound = linear_follows place (linears.Sum (record { axis = axis_for bound })) bound
  perform_follows target functions.Mean place bound = linear_follows place (linears.Mean (record { axis = axis_for bound })) bound
  perform_follows target functions.CumSum place bound = running_follows place bound
  perform_follows target functions.Diff place bound = expression_follows (differenced_follows place (natural_or 1 k_word bound) bound)
  perform_follows target functions.Trace place bound = one_follows place (calls.Linear (linears.Trace (record {}))) matrix_word bound
  perform_follows target functions.Diag place bound = linear_follows place (linears.Diag (record {})) bound
  perform_follows target functions.HStack place bound = stacked_follow place (linears.HStack (record {})) (items_for list_word bound)
  perform_follows target functions.VStack place bound = stacked_follow place (linears.VStack (record {})) (items_for list_word bound)
  perform_follows target functions.Abs place bound = atom_follows place (atoms.Abs (record {})) bound
  perform_follows target functions.Pos place bound = atom_follows place (atoms.Pos (record {})) bound
  perform_follows target functions.Neg place bound = atom_follows place (atoms.Neg (record {})) bound
  perform_follows target functions.Maximum place bound = several_follow place (atoms.Maximum (record { count = count_of bound })) bound
  perform_follows target functions.Minimum place bound = several_follow place (atoms.Minimum (record { count = count_of bound })) bound
  perform_follows target functions.MaxOf place bound = atom_follows place (atoms.MaxOf (record { axis = axis_for bound })) bound
  perform_follows target functions.MinOf place bound = atom_follows place (atoms.MinOf (record { axis = axis_for bound })) bound
  perform_follows target functions.Norm1 place bound = atom_follows place (atoms.Norm1 (record { axis = axis_for bound })) bound
  perform_follows target functions.NormInf place bound = atom_follows place (atoms.NormInf (record { axis = axis_for bound })) bound
  perform_follows target functions.SumLargest place bound = atom_follows place (atoms.SumLargest (record { k = share_for bound })) bound
  perform_follows target functions.SumSmallest place bound = atom_follows place (atoms.SumSmallest (record { k = share_for bound })) bound
  perform_follows target functions.CumMax place bound = atom_follows place (atoms.CumMax (record {})) bound
  perform_follows target functions.Norm place bound = norm_follows place bound
  perform_follows target functions.TotalVariation place bound = expression_follows (variation_follows place bound)

  -- ---- a call
  placed_kept : (target : Option (List ℕ)) (f : Function) → is_placed (option_map rename target) f ≡ is_placed target f
  placed_kept None f = refl
  placed_kept (Some name) f = refl

  pub function_called_follows : (target : Option (List ℕ)) (place : Place) (f : Function) (gs : List Given)
      → Follows rename (function_called target place f gs) (function_called (option_map rename target) place f gs)
  function_called_follows target place f gs =
      next (instead (ap (unless (NotOffered place)) (placed_kept target f)) (unless_follows (NotOffered place) (is_placed target f)))
      (arguments_follow place (row f) gs (λ bound. perform_follows target f place bound))
