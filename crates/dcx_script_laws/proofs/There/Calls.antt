-- Operators, indices, attributes and calls: what comes of them is there.
use Rattle.std.proofs.Common.{◌≡◌, ℕ, zero, suc, ℤ, pos, negsuc, Bool, true, false, ◌||◌, if◌then◌else◌, List, [], ◌∷◌, Option, Some, None, refl, subst}
use Rattle.std.specs.List.{slice_get}
use Rattle.std.proofs.lemmas.Option.{none-some, same_Some}
use Rattle.dcx_shape.specs.declared.shape.Sides.{Sides}
use Rattle.dcx_shape.specs.declared.shape.Sides.TheVariants.{Scalar, Vector, Matrix}
use Rattle.dcx_shape.specs.declared.place.Place.{Place}
use Rattle.dcx_shape.specs.declared.index.Pick.{Pick}
use Rattle.dcx_shape.specs.declared.index.Pick.TheVariants as picks
use Rattle.dcx_atom.specs.declared.array.Array.{Array}
use Rattle.dcx_syntax.specs.declared.tree.Sign.{Sign}
use Rattle.dcx_syntax.specs.declared.tree.Sign.TheVariants.{Plus, Minus}
use Rattle.dcx_syntax.specs.declared.tree.Scaling.{Scaling}
use Rattle.dcx_syntax.specs.declared.tree.Scaling.TheVariants.{Times, Over, Matmul}
use Rattle.dcx_syntax.specs.declared.tree.Comparison.{Comparison}
use Rattle.dcx_syntax.specs.declared.tree.Comparison.TheVariants.{AtMost, AtLeast, Equal, Less, Greater, NotEqual}
use Rattle.dcx_tree.specs.declared.constraint.Sense.{Sense}
use Rattle.dcx_script_values.specs.Values.{Value, Values, plain, list, expression, items_of, Act, and_then, or_fault}
use Rattle.dcx_script_values.specs.declared.fault.ElabFault.TheVariants.{BadArgument, IndexRange}
use Rattle.dcx_script_values.specs.Nodes.{Operand}
use Rattle.dcx_script_values.specs.Kinds.{Reading, operand, nested, empty, unfit, reading}
use Rattle.dcx_script_values.specs.View.{is_node}
use Rattle.dcx_signature.specs.declared.table.Function.{Function}
use Rattle.dcx_signature.specs.declared.table.Function.TheVariants as functions
use Rattle.dcx_signature.specs.Table.{x_word, e_word}
use Rattle.dcx_signature.specs.Arguments.{Bound, Given, value_for}
use Rattle.dcx_operators.specs.Operators.{Pair, both_plain, both_lists, with_expression, neither, alike, both, lists_added, operands_added, added_pair, add_values, multiplied}
use Rattle.dcx_operators.specs.Operators.{operands_scaled, scaled_pair, scale_values, node_signed, sign_value, operands_compared, compared_pair, compare_values, beside}
use Rattle.dcx_operators.specs.Indices.{Evaluated, index_node, index_plain, item_at, index_list, picks_of, with_picks, index_value}
use Rattle.dcx_operators.specs.Attributes.{node_turned, transposed_node, transposed_plain, transposed_value, attribute_value}
use Rattle.dcx_functions.specs.Calls.{differences, longer_than, differenced, objective_of, perform, function_called, reading_of}
use Rattle.dcx_script_laws.specs.Trees.{HasNodesBelow, HaveNodesBelow}
use Rattle.dcx_script_laws.proofs.CarriedNodes.{declare_variable-moves, declare_parameter-moves, called-moves, broadcast_called-moves, operands_read-moves, arguments-moves}
use Rattle.dcx_script_laws.proofs.CarriedCalls.{compared_pair-moves, differences-moves, longer_than-moves, differenced-moves, index_node-moves, perform-moves}
use Rattle.dcx_script_laws.proofs.There.Parts.{Later, Anything, IsNode, AllBelow, OperandBelow, ReadingBelow, ConstraintBelow}
use Rattle.dcx_script_laws.proofs.There.Parts.{AllGivenBelow, BoundBelow, Yields, Gives, steps, err-yields, ok-yields, push-yields}
use Rattle.dcx_script_laws.proofs.There.Later.{later_is_carried}
use Rattle.dcx_script_laws.proofs.There.Nodes.{growing, items-below, joined-gives, pushed-gives, called-gives, broadcast_called-gives, subtracted-gives}
use Rattle.dcx_script_laws.proofs.There.Nodes.{constrained-gives, reading-below, operand_read-gives, operand_read-any, operands_read-any, numbers_read-any}
use Rattle.dcx_script_laws.proofs.There.Nodes.{declare_variable-gives, declare_parameter-gives, make_problem-gives, arguments-gives, value_for-below, range_from-gives}

ruleset more = (
  growing,
  declare_variable-moves,
  declare_parameter-moves,
  called-moves,
  broadcast_called-moves,
  operands_read-moves,
  arguments-moves,
  differences-moves,
  longer_than-moves,
  differenced-moves,
  index_node-moves,
  perform-moves,
)

module _ (N : ℕ) where
  -- ---- operators
  -- two values beside each other
  abbrev PairBelow : Pair → Type 0
  PairBelow (both_plain a b) = Unit {0}
  PairBelow (both_lists xs ys) = HaveNodesBelow N xs × HaveNodesBelow N ys
  PairBelow (with_expression r q) = ReadingBelow N r × ReadingBelow N q
  PairBelow neither = Unit {0}

  alike-below : (v w : Value) → HasNodesBelow N v → HasNodesBelow N w → PairBelow (alike v w)
  alike-below (plain a) (plain b) h k = tt
  alike-below (list xs) (list ys) h k = (h, k)
  alike-below v w h k = tt

  beside-below : (v w : Value) → HasNodesBelow N v → HasNodesBelow N w → PairBelow (beside v w)
  beside-below v w h k = by (is_node v || is_node w)
    where
      by : (b : Bool) → PairBelow (if b then with_expression (reading v) (reading w) else alike v w)
      by true = (reading-below N v h, reading-below N w k)
      by false = alike-below v w h k

  -- what is made of two operands that are read
  both-gives : {A : Type 0} (P : A → Type 0) (place : Place) (f : Operand → Operand → Act A) → ((a b : Operand) → OperandBelow N a → OperandBelow N b → Gives N P (f a b))
      → (r q : Reading) → ReadingBelow N r → ReadingBelow N q → Gives N P (both place f r q)
  both-gives P place f gives (operand a) (operand b) h k s fine = gives a b h k s fine
  both-gives P place f gives (operand a) nested h k s fine = err-yields N P _
  both-gives P place f gives (operand a) empty h k s fine = err-yields N P _
  both-gives P place f gives (operand a) unfit h k s fine = err-yields N P _
  both-gives P place f gives nested q h k s fine = err-yields N P _
  both-gives P place f gives empty q h k s fine = err-yields N P _
  both-gives P place f gives unfit q h k s fine = err-yields N P _

  lists_added-gives : (sign : Sign) (place : Place) (xs ys : Values) → HaveNodesBelow N xs → HaveNodesBelow N ys → Gives N (HasNodesBelow N) (lists_added sign place xs ys)
  lists_added-gives Plus place xs ys h k s fine = search (steps, joined-gives, more)
  lists_added-gives Minus place xs ys h k s fine = search steps

  operands_added-gives : (sign : Sign) (place : Place) (a b : Operand) → OperandBelow N a → OperandBelow N b → Gives N (IsNode N) (operands_added sign place a b)
  operands_added-gives Plus place a b h k s fine = search broadcast_called-gives
  operands_added-gives Minus place a b h k s fine = search subtracted-gives

  added_pair-gives : (sign : Sign) (place : Place) (p : Pair) → PairBelow p → Gives N (HasNodesBelow N) (added_pair sign place p)
  added_pair-gives sign place (both_plain a b) h s fine = search (steps, more)
  added_pair-gives sign place (both_lists xs ys) h s fine = lists_added-gives sign place xs ys h.0 h.1 s fine
  added_pair-gives sign place (with_expression r q) h s fine = let made = both-gives (IsNode N) place _ (operands_added-gives sign place) r q h.0 h.1 s fine in search (steps, more)
  added_pair-gives sign place neither h s fine = search steps

  pub add_values-gives : (sign : Sign) (place : Place) (v w : Value) → HasNodesBelow N v → HasNodesBelow N w → Gives N (HasNodesBelow N) (add_values sign place v w)
  add_values-gives sign place v w h k = added_pair-gives sign place (beside v w) (beside-below v w h k)

  multiplied-gives : (place : Place) (a b : Operand) → Gives N (IsNode N) (multiplied place a b)
  multiplied-gives place a b s fine = search (steps, broadcast_called-gives, more) depth 8

  operands_scaled-gives : (scaling : Scaling) (place : Place) (a b : Operand) → OperandBelow N a → OperandBelow N b → Gives N (IsNode N) (operands_scaled scaling place a b)
  operands_scaled-gives Times place a b h k s fine = search multiplied-gives
  operands_scaled-gives Over place a b h k s fine = search broadcast_called-gives
  operands_scaled-gives Matmul place a b h k s fine = search called-gives

  scaled_pair-gives : (scaling : Scaling) (place : Place) (p : Pair) → PairBelow p → Gives N (HasNodesBelow N) (scaled_pair scaling place p)
  scaled_pair-gives scaling place (both_plain a b) h s fine = search (steps, more)
  scaled_pair-gives scaling place (both_lists xs ys) h s fine = search steps
  scaled_pair-gives scaling place (with_expression r q) h s fine = let made = both-gives (IsNode N) place _ (operands_scaled-gives scaling place) r q h.0 h.1 s fine in search (steps, more)
  scaled_pair-gives scaling place neither h s fine = search steps

  pub scale_values-gives : (scaling : Scaling) (place : Place) (v w : Value) → HasNodesBelow N v → HasNodesBelow N w → Gives N (HasNodesBelow N) (scale_values scaling place v w)
  scale_values-gives scaling place v w h k = scaled_pair-gives scaling place (beside v w) (beside-below v w h k)

  node_signed-gives : (sign : Sign) (place : Place) (i : ℕ) → IsNode N i → Gives N (IsNode N) (node_signed sign place i)
  node_signed-gives Plus place i h s fine = search steps
  node_signed-gives Minus place i h s fine = search push-yields

  pub sign_value-gives : (sign : Sign) (place : Place) (v : Value) → HasNodesBelow N v → Gives N (HasNodesBelow N) (sign_value sign place v)
  sign_value-gives sign place (plain a) h s fine = search steps
  sign_value-gives sign place (expression i) h s fine = search (steps, node_signed-gives, more)
  sign_value-gives sign place v h s fine = search steps

  operands_compared-gives : (c : Comparison) (place : Place) (a b : Operand) → OperandBelow N a → OperandBelow N b → Gives N (ConstraintBelow N) (operands_compared c place a b)
  operands_compared-gives AtMost place a b h k s fine = search constrained-gives
  operands_compared-gives AtLeast place a b h k s fine = search constrained-gives
  operands_compared-gives Equal place a b h k s fine = search constrained-gives
  operands_compared-gives Less place a b h k s fine = search steps
  operands_compared-gives Greater place a b h k s fine = search steps
  operands_compared-gives NotEqual place a b h k s fine = search steps

  compared_pair-gives : (c : Comparison) (place : Place) (p : Pair) → PairBelow p → Gives N (HasNodesBelow N) (compared_pair c place p)
  compared_pair-gives c place (both_plain a b) h s fine = search steps
  compared_pair-gives c place (both_lists xs ys) h s fine = search steps
  compared_pair-gives c place (with_expression r q) h s fine = let made = both-gives (ConstraintBelow N) place _ (operands_compared-gives c place) r q h.0 h.1 s fine in search (steps, more)
  compared_pair-gives c place neither h s fine = search steps

  pub compare_values-gives : (c : Comparison) (place : Place) (v w : Value) → HasNodesBelow N v → HasNodesBelow N w → Gives N (HasNodesBelow N) (compare_values c place v w)
  compare_values-gives c place v w h k s fine =
      let pair = compared_pair-gives c place (beside v w) (beside-below v w h k) in search (steps, pair, compared_pair-moves Later later_is_carried c place (beside v w), more)

  -- ---- indices and attributes
  index_node-gives : (place : Place) (i : ℕ) (ps : List Pick) → Gives N (IsNode N) (index_node place i ps)
  index_node-gives place i ps s fine = search (steps, push-yields, more) depth 8

  index_plain-gives : (place : Place) (a : Array) (ps : List Pick) → Gives N (HasNodesBelow N) (index_plain place a ps)
  index_plain-gives place a ps s fine = search (steps, more) depth 8

  -- an item of a list that is there is there
  item-below : (vs : List Value) (i : ℕ) (v : Value) → AllBelow N vs → slice_get vs i ≡ Some v → HasNodesBelow N v
  item-below [] i v h e = absurd (none-some v e)
  item-below (x ∷ vs) zero v h e = subst (HasNodesBelow N) (same_Some x v e) h.0
  item-below (x ∷ vs) (suc i) v h e = item-below vs i v h.1 e

  item_at-gives : (place : Place) (vs : List Value) (z : ℤ) → AllBelow N vs → Gives N (HasNodesBelow N) (item_at place vs z)
  item_at-gives place vs (pos i) h s fine = by (slice_get vs i) (item-below vs i)
    where
      by : (o : Option Value) → ((v : Value) → AllBelow N vs → o ≡ Some v → HasNodesBelow N v) → Yields N (HasNodesBelow N) (or_fault (IndexRange place) o s)
      by (Some v) below = ok-yields N (HasNodesBelow N) v s fine (below v h refl)
      by None below = err-yields N (HasNodesBelow N) _
  item_at-gives place vs (negsuc i) h s fine = search steps

  index_list-gives : (place : Place) (vs : List Value) (ps : List Pick) → AllBelow N vs → Gives N (HasNodesBelow N) (index_list place vs ps)
  index_list-gives place vs (picks.At z ∷ []) h s fine = search item_at-gives
  index_list-gives place vs (picks.Range x ∷ []) h s fine = search steps
  index_list-gives place vs [] h s fine = search steps
  index_list-gives place vs (picks.At z ∷ q ∷ ps) h s fine = search steps
  index_list-gives place vs (picks.Range x ∷ q ∷ ps) h s fine = search steps

  -- what is made of picks
  with_picks-gives : {A : Type 0} (P : A → Type 0) (place : Place) (xs : List Evaluated) (f : List Pick → Act A) → ((ps : List Pick) → Gives N P (f ps)) → Gives N P (with_picks place xs f)
  with_picks-gives P place xs f gives s fine = by (picks_of xs)
    where
      by : (o : Option (List Pick)) → Yields N P (and_then (or_fault (BadArgument place) o s) f)
      by (Some ps) = gives ps s fine
      by None = err-yields N P _

  pub index_value-gives : (place : Place) (v : Value) (xs : List Evaluated) → HasNodesBelow N v → Gives N (HasNodesBelow N) (index_value place v xs)
  index_value-gives place (plain a) xs h s fine = with_picks-gives (HasNodesBelow N) place xs _ (index_plain-gives place a) s fine
  index_value-gives place (expression i) xs h s fine = let made = with_picks-gives (IsNode N) place xs _ (index_node-gives place i) s fine in search (steps, more)
  index_value-gives place (list vs) xs h s fine = with_picks-gives (HasNodesBelow N) place xs _ (λ ps. index_list-gives place (items_of vs) ps (items-below N vs h)) s fine
  index_value-gives place v xs h s fine = search steps

  node_turned-gives : (place : Place) (i : ℕ) (sides : Sides) → IsNode N i → Gives N (IsNode N) (node_turned place i sides)
  node_turned-gives place i Scalar h s fine = search steps
  node_turned-gives place i (Vector n) h s fine = search steps
  node_turned-gives place i (Matrix m n) h s fine = search push-yields

  transposed_node-gives : (place : Place) (i : ℕ) → IsNode N i → Gives N (IsNode N) (transposed_node place i)
  transposed_node-gives place i h s fine = search node_turned-gives

  transposed_plain-gives : (place : Place) (a : Array) → Gives N (HasNodesBelow N) (transposed_plain place a)
  transposed_plain-gives place a s fine = search (steps, more) depth 8

  transposed_value-gives : (place : Place) (v : Value) → HasNodesBelow N v → Gives N (HasNodesBelow N) (transposed_value place v)
  transposed_value-gives place (plain a) h s fine = search transposed_plain-gives
  transposed_value-gives place (expression i) h s fine = search (steps, transposed_node-gives, more)
  transposed_value-gives place v h s fine = search steps

  pub attribute_value-gives : (place : Place) (name : List ℕ) (v : Value) → HasNodesBelow N v → Gives N (HasNodesBelow N) (attribute_value place name v)
  attribute_value-gives place name v h s fine = search (steps, transposed_value-gives)

  -- ---- calls
  differences-gives : (place : Place) (k i : ℕ) → IsNode N i → Gives N (IsNode N) (differences place k i)
  differences-gives place zero i h s fine = search steps
  differences-gives place (suc k) i h s fine = search (steps, push-yields, differences-gives place k, differences-moves Later later_is_carried place k, more)

  longer_than-any : (place : Place) (k : ℕ) (sides : Sides) → Gives N (Anything N) (longer_than place k sides)
  longer_than-any place k Scalar s fine = search steps
  longer_than-any place k (Vector n) s fine = search steps
  longer_than-any place k (Matrix m n) s fine = search steps

  reading_of-below : (word : List ℕ) (bound : Bound) → BoundBelow N bound → ReadingBelow N (reading_of word bound)
  reading_of-below word bound h = reading-below N (value_for word bound) (value_for-below N word bound h)

  differenced-gives : (place : Place) (k : ℕ) (bound : Bound) → BoundBelow N bound → Gives N (IsNode N) (differenced place k bound)
  differenced-gives place k bound h s fine = let read = reading_of-below x_word bound h in search (steps, operand_read-gives, longer_than-any, pushed-gives, differences-gives, more) depth 9

  objective_of-gives : (place : Place) (sense : Sense) (bound : Bound) → BoundBelow N bound → Gives N (HasNodesBelow N) (objective_of place sense bound)
  objective_of-gives place sense bound h s fine = let read = reading_of-below e_word bound h in search (steps, operand_read-gives, pushed-gives, more) depth 9

  ruleset calling = (
    operand_read-any,
    operands_read-any,
    numbers_read-any,
    push-yields,
    called-gives,
    broadcast_called-gives,
    differenced-gives,
    objective_of-gives,
    range_from-gives,
    declare_variable-gives,
    declare_parameter-gives,
    make_problem-gives,
  )

  -- one case for each call
  perform-gives : (target : Option (List ℕ)) (f : Function) (place : Place) (bound : Bound) → BoundBelow N bound → Gives N (HasNodesBelow N) (perform target f place bound)
  perform-gives target functions.Range place bound h s fine = search (calling, steps, more)
  perform-gives target functions.Parameter place bound h s fine = search (declare_parameter-gives, steps, more)
  perform-gives target f place bound h s fine = search (calling, steps, more) depth 9

  pub function_called-gives : (target : Option (List ℕ)) (place : Place) (f : Function) (gs : List Given) → AllGivenBelow N gs → Gives N (HasNodesBelow N) (function_called target place f gs)
  function_called-gives target place f gs h s fine = search (arguments-gives, perform-gives target f place, steps, more) depth 8
