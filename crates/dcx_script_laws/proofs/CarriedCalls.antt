-- Operators, indices, attributes and calls keep what is carried.
use Rattle.std.proofs.Common.{ℕ, zero, suc, ℤ, pos, negsuc, List, [], ◌∷◌, Option}
use Rattle.dcx_shape.specs.declared.shape.Sides.{Sides}
use Rattle.dcx_shape.specs.declared.shape.Sides.TheVariants.{Scalar, Vector, Matrix}
use Rattle.dcx_shape.specs.declared.place.Place.{Place}
use Rattle.dcx_shape.specs.declared.index.Pick.{Pick}
use Rattle.dcx_shape.specs.declared.index.Pick.TheVariants as picks
use Rattle.dcx_atom.specs.declared.array.Array.{Array}
use Rattle.dcx_syntax.specs.declared.tree.Sign.{Sign}
use Rattle.dcx_syntax.specs.declared.tree.Sign.TheVariants.{Plus, Minus}
use Rattle.dcx_syntax.specs.declared.tree.Scaling.{Scaling}
use Rattle.dcx_syntax.specs.declared.tree.Scaling.TheVariants.{Times, Over, Matmul}
use Rattle.dcx_syntax.specs.declared.tree.Comparison.{Comparison}
use Rattle.dcx_syntax.specs.declared.tree.Comparison.TheVariants.{AtMost, AtLeast, Equal, Less, Greater, NotEqual}
use Rattle.dcx_script_values.specs.Values.{Value, Values, items_of, plain, list, expression, State, Act}
use Rattle.dcx_script_values.specs.Nodes.{Operand}
use Rattle.dcx_script_values.specs.Kinds.{Reading}
use Rattle.dcx_signature.specs.declared.table.Function.{Function}
use Rattle.dcx_signature.specs.declared.table.Function.TheVariants as functions
use Rattle.dcx_signature.specs.Arguments.{Bound, Given}
use Rattle.dcx_operators.specs.Operators.{Pair, both_plain, both_lists, with_expression, neither, both, lists_added, operands_added, added_pair, add_values, multiplied}
use Rattle.dcx_operators.specs.Operators.{operands_scaled, scaled_pair, scale_values, node_signed, sign_value, operands_compared, compared_pair, compare_values, beside}
use Rattle.dcx_operators.specs.Indices.{Evaluated, index_node, index_plain, item_at, index_list, with_picks, index_value}
use Rattle.dcx_operators.specs.Attributes.{node_turned, transposed_node, transposed_plain, transposed_value, attribute_value}
use Rattle.dcx_functions.specs.Calls.{differences, longer_than, differenced, perform, function_called}
use Rattle.dcx_script_laws.proofs.Carried.{Moves, IsCarried, parts}
use Rattle.dcx_script_laws.proofs.CarriedNodes.{joined-moves, push-moves, pushed-moves, called-moves, broadcast_called-moves, subtracted-moves, constrained-moves, operand_read-moves}
use Rattle.dcx_script_laws.proofs.CarriedNodes.{operands_read-moves, numbers_read-moves, declare_variable-moves, declare_parameter-moves, make_problem-moves, arguments-moves, range_from-moves}

module _ (R : State → State → Type 0) (carried : IsCarried R) where
  -- ---- operators
  pub both-moves : {A : Type 0} (place : Place) (f : Operand → Operand → Act A) → ((a b : Operand) → Moves R (f a b)) → (r q : Reading) → Moves R (both place f r q)
  both-moves place f moves r q s t h = search (moves, operand_read-moves, parts)

  pub lists_added-moves : (sign : Sign) (place : Place) (xs ys : Values) → Moves R (lists_added sign place xs ys)
  lists_added-moves Plus place xs ys s t h = search (joined-moves, parts)
  lists_added-moves Minus place xs ys s t h = search parts

  pub operands_added-moves : (sign : Sign) (place : Place) (a b : Operand) → Moves R (operands_added sign place a b)
  operands_added-moves Plus place a b s t h = search broadcast_called-moves
  operands_added-moves Minus place a b s t h = search subtracted-moves

  pub added_pair-moves : (sign : Sign) (place : Place) (p : Pair) → Moves R (added_pair sign place p)
  added_pair-moves sign place (both_plain a b) s t h = search parts
  added_pair-moves sign place (both_lists xs ys) s t h = search lists_added-moves
  added_pair-moves sign place (with_expression r q) s t h = search (both-moves place _ (operands_added-moves sign place) r q, parts)
  added_pair-moves sign place neither s t h = search parts

  pub add_values-moves : (sign : Sign) (place : Place) (v w : Value) → Moves R (add_values sign place v w)
  add_values-moves sign place v w = added_pair-moves sign place (beside v w)

  pub multiplied-moves : (place : Place) (a b : Operand) → Moves R (multiplied place a b)
  multiplied-moves place a b s t h = search (broadcast_called-moves, parts)

  pub operands_scaled-moves : (scaling : Scaling) (place : Place) (a b : Operand) → Moves R (operands_scaled scaling place a b)
  operands_scaled-moves Times place a b s t h = search multiplied-moves
  operands_scaled-moves Over place a b s t h = search broadcast_called-moves
  operands_scaled-moves Matmul place a b s t h = search called-moves

  pub scaled_pair-moves : (scaling : Scaling) (place : Place) (p : Pair) → Moves R (scaled_pair scaling place p)
  scaled_pair-moves scaling place (both_plain a b) s t h = search parts
  scaled_pair-moves scaling place (both_lists xs ys) s t h = search parts
  scaled_pair-moves scaling place (with_expression r q) s t h = search (both-moves place _ (operands_scaled-moves scaling place) r q, parts)
  scaled_pair-moves scaling place neither s t h = search parts

  pub scale_values-moves : (scaling : Scaling) (place : Place) (v w : Value) → Moves R (scale_values scaling place v w)
  scale_values-moves scaling place v w = scaled_pair-moves scaling place (beside v w)

  pub node_signed-moves : (sign : Sign) (place : Place) (i : ℕ) → Moves R (node_signed sign place i)
  node_signed-moves Plus place i s t h = search parts
  node_signed-moves Minus place i s t h = search push-moves

  pub sign_value-moves : (sign : Sign) (place : Place) (v : Value) → Moves R (sign_value sign place v)
  sign_value-moves sign place (plain a) s t h = search parts
  sign_value-moves sign place (expression i) s t h = search (node_signed-moves, parts)
  sign_value-moves sign place v s t h = search parts

  pub operands_compared-moves : (c : Comparison) (place : Place) (a b : Operand) → Moves R (operands_compared c place a b)
  operands_compared-moves AtMost place a b s t h = search constrained-moves
  operands_compared-moves AtLeast place a b s t h = search constrained-moves
  operands_compared-moves Equal place a b s t h = search constrained-moves
  operands_compared-moves Less place a b s t h = search parts
  operands_compared-moves Greater place a b s t h = search parts
  operands_compared-moves NotEqual place a b s t h = search parts

  pub compared_pair-moves : (c : Comparison) (place : Place) (p : Pair) → Moves R (compared_pair c place p)
  compared_pair-moves c place (both_plain a b) s t h = search parts
  compared_pair-moves c place (both_lists xs ys) s t h = search parts
  compared_pair-moves c place (with_expression r q) s t h = search (both-moves place _ (operands_compared-moves c place) r q, parts)
  compared_pair-moves c place neither s t h = search parts

  pub compare_values-moves : (c : Comparison) (place : Place) (v w : Value) → Moves R (compare_values c place v w)
  compare_values-moves c place v w s t h = search (compared_pair-moves c place (beside v w), parts)

  -- ---- indices and attributes
  pub index_node-moves : (place : Place) (i : ℕ) (ps : List Pick) → Moves R (index_node place i ps)
  index_node-moves place i ps s t h = search (push-moves, parts)

  pub index_plain-moves : (place : Place) (a : Array) (ps : List Pick) → Moves R (index_plain place a ps)
  index_plain-moves place a ps s t h = search parts

  pub item_at-moves : (place : Place) (vs : List Value) (z : ℤ) → Moves R (item_at place vs z)
  item_at-moves place vs (pos i) s t h = search parts
  item_at-moves place vs (negsuc i) s t h = search parts

  pub index_list-moves : (place : Place) (vs : List Value) (ps : List Pick) → Moves R (index_list place vs ps)
  index_list-moves place vs (picks.At z ∷ []) s t h = search item_at-moves
  index_list-moves place vs (picks.Range x ∷ []) s t h = search parts
  index_list-moves place vs [] s t h = search parts
  index_list-moves place vs (picks.At z ∷ q ∷ ps) s t h = search parts
  index_list-moves place vs (picks.Range x ∷ q ∷ ps) s t h = search parts

  pub with_picks-moves : {A : Type 0} (place : Place) (xs : List Evaluated) (f : List Pick → Act A) → ((ps : List Pick) → Moves R (f ps)) → Moves R (with_picks place xs f)
  with_picks-moves place xs f moves s t h = search (moves, parts)

  pub index_value-moves : (place : Place) (v : Value) (xs : List Evaluated) → Moves R (index_value place v xs)
  index_value-moves place (plain a) xs s t h = search (with_picks-moves place xs _ (index_plain-moves place a))
  index_value-moves place (expression i) xs s t h = search (with_picks-moves place xs _ (index_node-moves place i), parts)
  index_value-moves place (list vs) xs s t h = search (with_picks-moves place xs _ (index_list-moves place (items_of vs)))
  index_value-moves place v xs s t h = search parts

  pub node_turned-moves : (place : Place) (i : ℕ) (sides : Sides) → Moves R (node_turned place i sides)
  node_turned-moves place i Scalar s t h = search parts
  node_turned-moves place i (Vector n) s t h = search parts
  node_turned-moves place i (Matrix m n) s t h = search push-moves

  pub transposed_node-moves : (place : Place) (i : ℕ) → Moves R (transposed_node place i)
  transposed_node-moves place i s t h = search node_turned-moves

  pub transposed_plain-moves : (place : Place) (a : Array) → Moves R (transposed_plain place a)
  transposed_plain-moves place a s t h = search parts

  pub transposed_value-moves : (place : Place) (v : Value) → Moves R (transposed_value place v)
  transposed_value-moves place (plain a) s t h = search transposed_plain-moves
  transposed_value-moves place (expression i) s t h = search (transposed_node-moves, parts)
  transposed_value-moves place v s t h = search parts

  pub attribute_value-moves : (place : Place) (name : List ℕ) (v : Value) → Moves R (attribute_value place name v)
  attribute_value-moves place name v s t h = search (transposed_value-moves, parts)

  -- ---- calls
  pub differences-moves : (place : Place) (k i : ℕ) → Moves R (differences place k i)
  differences-moves place zero i s t h = search parts
  differences-moves place (suc k) i s t h = search (push-moves, differences-moves place k, parts)

  pub longer_than-moves : (place : Place) (k : ℕ) (sides : Sides) → Moves R (longer_than place k sides)
  longer_than-moves place k Scalar s t h = search parts
  longer_than-moves place k (Vector n) s t h = search parts
  longer_than-moves place k (Matrix m n) s t h = search parts

  pub differenced-moves : (place : Place) (k : ℕ) (bound : Bound) → Moves R (differenced place k bound)
  differenced-moves place k bound s t h = search (operand_read-moves, longer_than-moves, pushed-moves, differences-moves, parts) depth 6

  ruleset calling = (
    operand_read-moves,
    operands_read-moves,
    numbers_read-moves,
    pushed-moves,
    push-moves,
    called-moves,
    broadcast_called-moves,
    differenced-moves,
    range_from-moves,
    declare_variable-moves,
    declare_parameter-moves,
    make_problem-moves,
  )

  -- one case for each call
  pub perform-moves : (target : Option (List ℕ)) (f : Function) (place : Place) (bound : Bound) → Moves R (perform target f place bound)
  perform-moves target functions.Range place bound s t h = search (calling, parts)
  perform-moves target f place bound s t h = search (calling, parts) depth 7

  pub function_called-moves : (target : Option (List ℕ)) (place : Place) (f : Function) (gs : List Given) → Moves R (function_called target place f gs)
  function_called-moves target place f gs s t h = search (arguments-moves, perform-moves target f place, parts)
