-- Operands of a call or an operator: the faults of what is given where an expression is wanted, and a node as a value.
use Rattle.std.specs.Prelude.{ℕ, not, List, [], ◌∷◌}
use Rattle.std.specs.List.{list_any}
use Rattle.dcx_shape.specs.declared.place.Place.{Place}
use Rattle.dcx_script_values.specs.declared.fault.ElabFault.TheVariants.{BadArgument, NotOffered, EmptyResult}
use Rattle.dcx_atom.specs.declared.array.Array.{Array}
use Rattle.dcx_script_values.specs.Values.{Value, plain, expression, constraint, Act, ◌>>=◌, ◌>>◌, done, fault, unless}
use Rattle.dcx_script_values.specs.Nodes.{Operand, standing, constant}
use Rattle.dcx_tree.specs.declared.constraint.Constraint.{Constraint}
use Rattle.dcx_script_values.specs.Kinds.{Reading, operand, nested, empty, unfit, is_nested, is_empty}

-- the operand that is read; a wrong kind, a nested list and an empty one are faults of three kinds
abbrev pub operand_read : Place → Reading → Act Operand
operand_read place (operand x) = done x
operand_read place nested = fault (NotOffered place)
operand_read place empty = fault (EmptyResult place)
operand_read place unfit = fault (BadArgument place)

abbrev pub each_read : Place → List Reading → Act (List Operand)
each_read place [] = done []
each_read place (r ∷ rs) = do
  x ← operand_read place r
  xs ← each_read place rs
  done (x ∷ xs)

-- the operands of a call: a nested list comes before an empty one, wherever they stand
abbrev pub operands_read : Place → List Reading → Act (List Operand)
operands_read place rs = do
  unless (NotOffered place) (not (list_any is_nested rs))
  unless (EmptyResult place) (not (list_any is_empty rs))
  each_read place rs

-- a value of a parameter: numbers without a node; there must be some
abbrev pub numbers_read : Place → Reading → Act Array
numbers_read place (operand (constant a)) = done a
numbers_read place (operand (standing i)) = fault (BadArgument place)
numbers_read place nested = fault (BadArgument place)
numbers_read place empty = fault (EmptyResult place)
numbers_read place unfit = fault (BadArgument place)

-- what a plain array is as a value
abbrev pub as_plain : Act Array → Act Value
as_plain m = do
  a ← m
  done (plain a)

-- what a node is as a value
abbrev pub as_expression : Act ℕ → Act Value
as_expression m = do
  i ← m
  done (expression i)

abbrev pub as_constraint : Act Constraint → Act Value
as_constraint m = do
  c ← m
  done (constraint c)
