-- The values of the code, as those of `Values`.
use Rattle.std.specs.Prelude.{◌≡◌, ℕ, ◌≤◌, ◌<◌, ◌*◌, List, map}
use Rattle.dcx_script_values.specs.declared.value.Value as code_value
use Rattle.dcx_script_values.specs.declared.value.Value.TheVariants as values
use Rattle.dcx_script_values.specs.Values.{Value, Values, plain, text, truth, nothing, tuple, list, range, library, expression, constraint, objective, problem, result, values_of, count, deepest}

abbrev pub meant : code_value.Value → Value
meant (values.Plain array) = plain array.value
meant (values.Text bytes) = text bytes.value
meant (values.Truth b) = truth b
meant values.Nothing = nothing
meant (values.Tuple items) = tuple items.value
meant (values.List items) = list items.value
meant (values.Range r) = range r.value.first r.value.step r.value.count
meant (values.Library m) = library m
meant (values.Expression node) = expression node.0
meant (values.Constraint c) = constraint c
meant (values.Objective o) = objective o.sense o.node.0 o.place
meant values.Problem = problem
meant values.Result = result

-- the items of a list or a tuple
abbrev pub items_meant : List code_value.Value → Values
items_meant vs = values_of (map meant vs)

-- what the items count and how deep they are nested is told, and neither is too much
pub record AreCounted (vs : List code_value.Value) (counts depth : ℕ) : Type 0 where
  pub told : counts ≡ count (items_meant vs)
  pub most : counts ≤ 20000
  pub nested : depth ≡ deepest (items_meant vs)
  pub shallow : depth < 64

-- a number for items that is greater than that of what they hold
abbrev pub twice_count : Values → ℕ
twice_count vs = 2 * count vs
