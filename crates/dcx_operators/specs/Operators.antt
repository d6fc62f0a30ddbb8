-- Operators on values of any kind: sums, products, signs and comparisons.
use Rattle.std.specs.Prelude.{ℕ, nat_eq, Bool, true, false, ◌||◌, if◌then◌else◌, [], ◌∷◌, Result}
use Rattle.dcx_shape.specs.declared.place.Place.{Place}
use Rattle.dcx_shape.specs.Sides.{entries_of}
use Rattle.dcx_atom.specs.declared.array.Array.{Array}
use Rattle.dcx_affine.specs.declared.pairing.Pairing.TheVariants as pairings
use Rattle.dcx_call.specs.declared.call.Call.TheVariants as calls
use Rattle.dcx_call.specs.declared.linears.LinearCall.TheVariants as linears
use Rattle.dcx_syntax.specs.declared.tree.Sign.{Sign}
use Rattle.dcx_syntax.specs.declared.tree.Sign.TheVariants.{Plus, Minus}
use Rattle.dcx_syntax.specs.declared.tree.Scaling.{Scaling}
use Rattle.dcx_syntax.specs.declared.tree.Scaling.TheVariants.{Times, Over, Matmul}
use Rattle.dcx_syntax.specs.declared.tree.Comparison.{Comparison}
use Rattle.dcx_syntax.specs.declared.tree.Comparison.TheVariants.{AtMost, AtLeast, Equal, Less, Greater, NotEqual}
use Rattle.dcx_array.specs.declared.fault.ArrayFault.{ArrayFault}
use Rattle.dcx_array.specs.Operators.{added, subtracted as difference, multiplied as product, divided, matrix_multiplied, negated}
use Rattle.dcx_tree.specs.declared.constraint.Kind.TheVariants as kinds
use Rattle.dcx_tree.specs.declared.constraint.Constraint.{Constraint}
use Rattle.dcx_script_values.specs.declared.fault.ElabFault.TheVariants.{BadArgument, NotOffered}
use Rattle.dcx_script_values.specs.Values.{Value, Values, plain, list, expression, joined, Act, ◌>>=◌, ◌>>◌, done, fault, or_array_fault, unless, read}
use Rattle.dcx_script_values.specs.Nodes.{Operand, operand_sides, push, called, broadcast_called, subtracted, constrained}
use Rattle.dcx_script_values.specs.Kinds.{Reading, reading}
use Rattle.dcx_script_values.specs.Operands.{operand_read, as_plain, as_expression, as_constraint}
use Rattle.dcx_script_values.specs.View.{is_node}

-- ---- two operands
-- two values beside each other: both plain, both lists, one of them an expression, or neither
pub data Pair : Type 0 where
  both_plain : Array → Array → Pair
  both_lists : Values → Values → Pair
  with_expression : Reading → Reading → Pair
  neither : Pair

-- two values of which none is an expression
abbrev pub alike : Value → Value → Pair
alike (plain a) (plain b) = both_plain a b
alike (list xs) (list ys) = both_lists xs ys
alike v w = neither

abbrev pub beside : Value → Value → Pair
beside v w = if is_node v || is_node w then with_expression (reading v) (reading w) else alike v w

-- the operands that are read, the left one first
abbrev pub both_read : Place → Reading → Reading → Act (Operand × Operand)
both_read place r q = do
  a ← operand_read place r
  b ← operand_read place q
  done (a, b)

-- what is made of two operands
abbrev pub both : {A : Type 0} → Place → (Operand → Operand → Act A) → Reading → Reading → Act A
both place f r q = do
  x ← both_read place r q
  f x.0 x.1

-- ---- `+` and `-`
abbrev pub lists_added : Sign → Place → Values → Values → Act Value
lists_added Plus place xs ys = do
  zs ← joined place xs ys
  done (list zs)
lists_added Minus place xs ys = fault (BadArgument place)

abbrev pub operands_added : Sign → Place → Operand → Operand → Act ℕ
operands_added Plus place a b = broadcast_called place (calls.Linear (linears.Plus (record {}))) (a ∷ b ∷ [])
operands_added Minus place a b = subtracted place a b

abbrev pub plain_added : Sign → Array → Array → Result Array ArrayFault
plain_added Plus a b = added a b
plain_added Minus a b = difference a b

abbrev pub added_pair : Sign → Place → Pair → Act Value
added_pair sign place (both_plain a b) = as_plain (or_array_fault place (plain_added sign a b))
added_pair sign place (both_lists xs ys) = lists_added sign place xs ys
added_pair sign place (with_expression r q) = as_expression (both place (operands_added sign place) r q)
added_pair sign place neither = fault (BadArgument place)

abbrev pub add_values : Sign → Place → Value → Value → Act Value
add_values sign place v w = added_pair sign place (beside v w)

-- ---- `*`, `/` and `@`
abbrev pub has_one_entry : Operand → Act Bool
has_one_entry x = read (λ s. nat_eq (entries_of (operand_sides s.nodes x)) 1)

-- a side of `*` must have one entry
abbrev pub multiplied : Place → Operand → Operand → Act ℕ
multiplied place a b = do
  left ← has_one_entry a
  right ← has_one_entry b
  unless (NotOffered place) (left || right)
  broadcast_called place (calls.Pairing pairings.Times) (a ∷ b ∷ [])

abbrev pub operands_scaled : Scaling → Place → Operand → Operand → Act ℕ
operands_scaled Times place a b = multiplied place a b
operands_scaled Over place a b = broadcast_called place (calls.Pairing pairings.Over) (a ∷ b ∷ [])
operands_scaled Matmul place a b = called place (calls.Pairing pairings.MatTimes) (a ∷ b ∷ [])

abbrev pub plain_scaled : Scaling → Array → Array → Result Array ArrayFault
plain_scaled Times a b = product a b
plain_scaled Over a b = divided a b
plain_scaled Matmul a b = matrix_multiplied a b

abbrev pub scaled_pair : Scaling → Place → Pair → Act Value
scaled_pair scaling place (both_plain a b) = as_plain (or_array_fault place (plain_scaled scaling a b))
scaled_pair scaling place (both_lists xs ys) = fault (BadArgument place)
scaled_pair scaling place (with_expression r q) = as_expression (both place (operands_scaled scaling place) r q)
scaled_pair scaling place neither = fault (BadArgument place)

abbrev pub scale_values : Scaling → Place → Value → Value → Act Value
scale_values scaling place v w = scaled_pair scaling place (beside v w)

-- ---- a sign before a value
abbrev pub node_signed : Sign → Place → ℕ → Act ℕ
node_signed Plus place i = done i
node_signed Minus place i = push place (calls.Linear (linears.Minus (record {}))) (i ∷ [])

abbrev pub plain_signed : Sign → Array → Array
plain_signed Plus a = a
plain_signed Minus a = negated a

abbrev pub sign_value : Sign → Place → Value → Act Value
sign_value sign place (plain a) = done (plain (plain_signed sign a))
sign_value sign place (expression i) = as_expression (node_signed sign place i)
sign_value sign place v = fault (BadArgument place)

-- ---- comparisons
-- `a >= b` is `b <= a`; the other comparisons are not offered, whatever is compared
abbrev pub operands_compared : Comparison → Place → Operand → Operand → Act Constraint
operands_compared AtMost place a b = constrained place kinds.AtMost a b
operands_compared AtLeast place a b = constrained place kinds.AtMost b a
operands_compared Equal place a b = constrained place kinds.Equal a b
operands_compared Less place a b = fault (NotOffered place)
operands_compared Greater place a b = fault (NotOffered place)
operands_compared NotEqual place a b = fault (NotOffered place)

abbrev pub compared_pair : Comparison → Place → Pair → Act Value
compared_pair c place (both_plain a b) = fault (NotOffered place)
compared_pair c place (both_lists xs ys) = fault (BadArgument place)
compared_pair c place (with_expression r q) = as_constraint (both place (operands_compared c place) r q)
compared_pair c place neither = fault (BadArgument place)

abbrev pub is_offered : Comparison → Bool
is_offered AtMost = true
is_offered AtLeast = true
is_offered Equal = true
is_offered Less = false
is_offered Greater = false
is_offered NotEqual = false

abbrev pub compare_values : Comparison → Place → Value → Value → Act Value
compare_values c place v w = do
  unless (NotOffered place) (is_offered c)
  compared_pair c place (beside v w)
