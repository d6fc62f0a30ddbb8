-- Operators, indices and attributes under other names.
use Rattle.std.proofs.Common.{ℕ, List, [], ◌∷◌, length, ap}
use Rattle.std.specs.Prelude.{pos, negsuc, ℤ, nat_eq, not, ◌||◌, slice_get, codes}
use Rattle.dcx_shape.specs.declared.shape.Sides.{Sides}
use Rattle.dcx_shape.specs.declared.shape.Sides.TheVariants.{Scalar, Vector, Matrix}
use Rattle.dcx_shape.specs.declared.place.Place.{Place}
use Rattle.dcx_shape.specs.declared.index.Pick.{Pick}
use Rattle.dcx_shape.specs.declared.index.Pick.TheVariants as picks
use Rattle.dcx_shape.specs.Shape.{sides_of}
use Rattle.dcx_shape.specs.Sides.{entries_of}
use Rattle.dcx_shape.specs.Slice.{counted}
use Rattle.dcx_atom.specs.declared.array.Array.{Array}
use Rattle.dcx_affine.specs.declared.pairing.Pairing.TheVariants as pairings
use Rattle.dcx_point.specs.Pairs.{same_name}
use Rattle.dcx_array.specs.Shapes.{shape_with}
use Rattle.dcx_array.specs.Operators.{transposed}
use Rattle.dcx_array.specs.Picks.{indexed, picked_array}
use Rattle.dcx_call.specs.declared.call.Call.TheVariants as calls
use Rattle.dcx_call.specs.declared.linears.LinearCall.TheVariants as linears
use Rattle.dcx_syntax.specs.declared.tree.Sign.{Sign}
use Rattle.dcx_syntax.specs.declared.tree.Sign.TheVariants.{Plus, Minus}
use Rattle.dcx_syntax.specs.declared.tree.Scaling.{Scaling}
use Rattle.dcx_syntax.specs.declared.tree.Scaling.TheVariants.{Times, Over, Matmul}
use Rattle.dcx_syntax.specs.declared.tree.Comparison.{Comparison}
use Rattle.dcx_syntax.specs.declared.tree.Comparison.TheVariants.{AtMost, AtLeast, Equal, Less, Greater, NotEqual}
use Rattle.dcx_tree.specs.declared.constraint.Kind.TheVariants as kinds
use Rattle.dcx_script_values.specs.declared.fault.ElabFault.TheVariants.{BadArgument, NotOffered, ShapeClash, IndexRange}
use Rattle.dcx_script_values.specs.Values.{Value, Values, plain, list, expression, items_of, Act}
use Rattle.dcx_script_values.specs.Nodes.{Operand, operand_sides}
use Rattle.dcx_script_values.specs.Kinds.{Reading, is_scalar}
use Rattle.dcx_operators.specs.Operators.{Pair, both_plain, both_lists, with_expression, neither, beside, both_read, both, lists_added, operands_added}
use Rattle.dcx_operators.specs.Operators.{plain_added, added_pair, add_values, has_one_entry, multiplied, operands_scaled, plain_scaled, scaled_pair}
use Rattle.dcx_operators.specs.Operators.{scale_values, node_signed, plain_signed, sign_value, operands_compared, compared_pair, is_offered, compare_values}
use Rattle.dcx_operators.specs.Indices.{Evaluated, picks_of, index_node, index_plain, item_at, index_list, with_picks, index_value}
use Rattle.dcx_operators.specs.Attributes.{node_turned, transposed_node, transposed_plain, transposed_value, attribute_value}
use Rattle.dcx_script_laws.specs.Names.{IsRenaming, Follows}
use Rattle.dcx_script_laws.proofs.Renamed.Nodes.{operands_kept}
use Rattle.dcx_script_laws.proofs.Renamed.Acts.{chain, next, reads, done_follows, fault_follows, unless_follows, or_fault_follows, or_array_fault_follows, if_follows, joined_follows}
use Rattle.dcx_script_laws.proofs.Renamed.Pushes.{sides_follow, operand_follows, plain_follows, expression_follows, constraint_follows}
use Rattle.dcx_script_laws.proofs.Renamed.Pushes.{push_follows, called_follows, broadcast_follows, subtracted_follows, constrained_follows}

module _ {rename : List ℕ → List ℕ} where
  both_read_follows : (place : Place) (r q : Reading) → Follows rename (both_read place r q) (both_read place r q)
  both_read_follows place r q = chain (operand_follows place r) (λ a. chain (operand_follows place q) (λ b. done_follows (a, b)))

  both_follows : {A : Type 0} {f : Operand → Operand → Act A} (place : Place) (r q : Reading) → ((a b : Operand) → Follows rename (f a b) (f a b))
      → Follows rename (both place f r q) (both place f r q)
  both_follows place r q h = chain (both_read_follows place r q) (λ x. h x.0 x.1)

  lists_added_follow : (sign : Sign) (place : Place) (xs ys : Values) → Follows rename (lists_added sign place xs ys) (lists_added sign place xs ys)
  lists_added_follow Plus place xs ys = chain (joined_follows place xs ys) (λ zs. done_follows (list zs))
  lists_added_follow Minus place xs ys = fault_follows (BadArgument place)

  one_entry_follows : (x : Operand) → Follows rename (has_one_entry x) (has_one_entry x)
  one_entry_follows x =
      reads (λ s. nat_eq (entries_of (operand_sides s.nodes x)) 1) (λ s. nat_eq (entries_of (operand_sides s.nodes x)) 1)
      (λ s. ap (λ f. nat_eq (entries_of (f x)) 1) (operands_kept rename s.nodes)) done_follows

  -- ---- indices
  with_picks_follow : {A : Type 0} {f : List Pick → Act A} (place : Place) (xs : List Evaluated) → ((ps : List Pick) → Follows rename (f ps) (f ps))
      → Follows rename (with_picks place xs f) (with_picks place xs f)
  with_picks_follow place xs h = chain (or_fault_follows (BadArgument place) (picks_of xs)) h

  index_plain_follows : (place : Place) (a : Array) (ps : List Pick) → Follows rename (index_plain place a ps) (index_plain place a ps)
  index_plain_follows place a ps = next (unless_follows (BadArgument place) (not (is_scalar (sides_of a.shape)))) (plain_follows (or_array_fault_follows place (picked_array a ps)))

  item_follows : (place : Place) (vs : List Value) (z : ℤ) → Follows rename (item_at place vs z) (item_at place vs z)
  item_follows place vs (pos i) = or_fault_follows (IndexRange place) (slice_get vs i)
  item_follows place vs (negsuc i) = fault_follows (IndexRange place)

  index_list_follows : (place : Place) (vs : List Value) (ps : List Pick) → Follows rename (index_list place vs ps) (index_list place vs ps)
  index_list_follows place vs (picks.At z ∷ []) = item_follows place vs (counted (length vs) z)
  index_list_follows place vs (picks.Range s ∷ []) = fault_follows (NotOffered place)
  index_list_follows place vs [] = fault_follows (BadArgument place)
  index_list_follows place vs (p ∷ q ∷ ps) = fault_follows (BadArgument place)

  transposed_plain_follows : (place : Place) (a : Array) → Follows rename (transposed_plain place a) (transposed_plain place a)
  transposed_plain_follows place a = next (unless_follows (NotOffered place) (not (is_scalar (sides_of a.shape)))) (plain_follows (or_array_fault_follows place (transposed a)))

module _ {rename : List ℕ → List ℕ} (is : IsRenaming rename) where
  -- ---- `+` and `-`
  operands_added_follow : (sign : Sign) (place : Place) (a b : Operand) → Follows rename (operands_added sign place a b) (operands_added sign place a b)
  operands_added_follow Plus place a b = broadcast_follows is place (calls.Linear (linears.Plus (record {}))) (a ∷ b ∷ [])
  operands_added_follow Minus place a b = subtracted_follows is place a b

  added_pair_follows : (sign : Sign) (place : Place) (p : Pair) → Follows rename (added_pair sign place p) (added_pair sign place p)
  added_pair_follows sign place (both_plain a b) = plain_follows (or_array_fault_follows place (plain_added sign a b))
  added_pair_follows sign place (both_lists xs ys) = lists_added_follow sign place xs ys
  added_pair_follows sign place (with_expression r q) = expression_follows (both_follows place r q (operands_added_follow sign place))
  added_pair_follows sign place neither = fault_follows (BadArgument place)

  pub add_values_follow : (sign : Sign) (place : Place) (v w : Value) → Follows rename (add_values sign place v w) (add_values sign place v w)
  add_values_follow sign place v w = added_pair_follows sign place (beside v w)

  -- ---- `*`, `/` and `@`
  multiplied_follows : (place : Place) (a b : Operand) → Follows rename (multiplied place a b) (multiplied place a b)
  multiplied_follows place a b =
      chain (one_entry_follows a) (λ left. chain (one_entry_follows b)
      (λ right. next (unless_follows (NotOffered place) (left || right)) (broadcast_follows is place (calls.Pairing pairings.Times) (a ∷ b ∷ []))))

  operands_scaled_follow : (scaling : Scaling) (place : Place) (a b : Operand) → Follows rename (operands_scaled scaling place a b) (operands_scaled scaling place a b)
  operands_scaled_follow Times place a b = multiplied_follows place a b
  operands_scaled_follow Over place a b = broadcast_follows is place (calls.Pairing pairings.Over) (a ∷ b ∷ [])
  operands_scaled_follow Matmul place a b = called_follows is place (calls.Pairing pairings.MatTimes) (a ∷ b ∷ [])

  scaled_pair_follows : (scaling : Scaling) (place : Place) (p : Pair) → Follows rename (scaled_pair scaling place p) (scaled_pair scaling place p)
  scaled_pair_follows scaling place (both_plain a b) = plain_follows (or_array_fault_follows place (plain_scaled scaling a b))
  scaled_pair_follows scaling place (both_lists xs ys) = fault_follows (BadArgument place)
  scaled_pair_follows scaling place (with_expression r q) = expression_follows (both_follows place r q (operands_scaled_follow scaling place))
  scaled_pair_follows scaling place neither = fault_follows (BadArgument place)

  pub scale_values_follow : (scaling : Scaling) (place : Place) (v w : Value) → Follows rename (scale_values scaling place v w) (scale_values scaling place v w)
  scale_values_follow scaling place v w = scaled_pair_follows scaling place (beside v w)

  -- ---- a sign before a value
  node_signed_follows : (sign : Sign) (place : Place) (i : ℕ) → Follows rename (node_signed sign place i) (node_signed sign place i)
  node_signed_follows Plus place i = done_follows i
  node_signed_follows Minus place i = push_follows is place (calls.Linear (linears.Minus (record {}))) (i ∷ [])

  pub sign_value_follows : (sign : Sign) (place : Place) (v : Value) → Follows rename (sign_value sign place v) (sign_value sign place v)
  sign_value_follows sign place (plain a) = done_follows (plain (plain_signed sign a))
  sign_value_follows sign place (expression i) = expression_follows (node_signed_follows sign place i)
  sign_value_follows sign place v = fault_follows (BadArgument place)

  -- ---- comparisons
  operands_compared_follow : (c : Comparison) (place : Place) (a b : Operand) → Follows rename (operands_compared c place a b) (operands_compared c place a b)
  operands_compared_follow AtMost place a b = constrained_follows is place kinds.AtMost a b
  operands_compared_follow AtLeast place a b = constrained_follows is place kinds.AtMost b a
  operands_compared_follow Equal place a b = constrained_follows is place kinds.Equal a b
  operands_compared_follow Less place a b = fault_follows (NotOffered place)
  operands_compared_follow Greater place a b = fault_follows (NotOffered place)
  operands_compared_follow NotEqual place a b = fault_follows (NotOffered place)

  compared_pair_follows : (c : Comparison) (place : Place) (p : Pair) → Follows rename (compared_pair c place p) (compared_pair c place p)
  compared_pair_follows c place (both_plain a b) = fault_follows (NotOffered place)
  compared_pair_follows c place (both_lists xs ys) = fault_follows (BadArgument place)
  compared_pair_follows c place (with_expression r q) = constraint_follows (both_follows place r q (operands_compared_follow c place))
  compared_pair_follows c place neither = fault_follows (BadArgument place)

  pub compare_values_follow : (c : Comparison) (place : Place) (v w : Value) → Follows rename (compare_values c place v w) (compare_values c place v w)
  compare_values_follow c place v w = next (unless_follows (NotOffered place) (is_offered c)) (compared_pair_follows c place (beside v w))

  -- ---- indices
  index_node_follows : (place : Place) (i : ℕ) (ps : List Pick) → Follows rename (index_node place i ps) (index_node place i ps)
  index_node_follows place i ps =
      chain (sides_follow i) (λ sides. chain (or_fault_follows (ShapeClash place) (shape_with sides))
      (λ from. chain (or_array_fault_follows place (indexed from ps)) (λ call. push_follows is place (calls.Linear (linears.Index call)) (i ∷ []))))

  pub index_value_follows : (place : Place) (v : Value) (xs : List Evaluated) → Follows rename (index_value place v xs) (index_value place v xs)
  index_value_follows place (plain a) xs = with_picks_follow place xs (index_plain_follows place a)
  index_value_follows place (expression i) xs = expression_follows (with_picks_follow place xs (index_node_follows place i))
  index_value_follows place (list vs) xs = with_picks_follow place xs (index_list_follows place (items_of vs))
  index_value_follows place v xs = fault_follows (BadArgument place)

  -- ---- attributes
  node_turned_follows : (place : Place) (i : ℕ) (sides : Sides) → Follows rename (node_turned place i sides) (node_turned place i sides)
  node_turned_follows place i Scalar = done_follows i
  node_turned_follows place i (Vector n) = done_follows i
  node_turned_follows place i (Matrix m n) = push_follows is place (calls.Linear (linears.Transpose (record {}))) (i ∷ [])

  transposed_node_follows : (place : Place) (i : ℕ) → Follows rename (transposed_node place i) (transposed_node place i)
  transposed_node_follows place i = chain (sides_follow i) (λ sides. node_turned_follows place i sides)

  transposed_value_follows : (place : Place) (v : Value) → Follows rename (transposed_value place v) (transposed_value place v)
  transposed_value_follows place (plain a) = transposed_plain_follows place a
  transposed_value_follows place (expression i) = expression_follows (transposed_node_follows place i)
  transposed_value_follows place v = fault_follows (NotOffered place)

  pub attribute_value_follows : (place : Place) (name : List ℕ) (v : Value) → Follows rename (attribute_value place name v) (attribute_value place name v)
  attribute_value_follows place name v = if_follows (same_name name (codes "T")) (transposed_value_follows place v) (fault_follows (NotOffered place))
