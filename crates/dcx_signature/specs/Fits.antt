-- What a value must be to be given for an argument.
use Rattle.std.specs.Prelude.{pos, int_le, ℤ, Bool, true, false, not, ◌&&◌, ◌||◌, codes, ℕ, List, Option, Some, None, is_some}
use Rattle.std.specs.List.{list_all}
use Rattle.std.specs.Ordering.{int_eq}
use Rattle.dcx_shape.specs.declared.shape.Sides.{Sides}
use Rattle.dcx_shape.specs.Sides.{entries_of}
use Rattle.dcx_atom.specs.declared.axis.Axis.{Axis}
use Rattle.dcx_atom.specs.Axis.{folded}
use Rattle.dcx_point.specs.Pairs.{same_name}
use Rattle.dcx_script_values.specs.Values.{Value, text, truth, constraint, objective}
use Rattle.dcx_script_values.specs.Kinds.{is_number, whole_number, is_list, list_items, reading, is_fit, is_constant, sides_from, are_rows, axis_of}
use Rattle.dcx_signature.specs.declared.table.Takes.{Takes}
use Rattle.dcx_signature.specs.declared.table.Takes.TheVariants as takes

-- there is something, and it passes a test
abbrev pub passes : {A : Type 0} → (A → Bool) → Option A → Bool
passes test None = false
passes test (Some x) = test x

-- ---- axes, shares, steps and counts
-- what is folded, where it is known, has such a side
abbrev pub has_axis : Option Sides → Axis → Bool
has_axis None axis = true
has_axis (Some s) axis = is_some (folded axis s)

-- a number is from 1 to the number of entries, where that is known
abbrev pub is_share : Option Sides → ℤ → Bool
is_share None k = int_le (pos 1) k
is_share (Some s) k = int_le (pos 1) k && int_le k (pos (entries_of s))

-- a step of a range is a whole number other than 0, and a count is one that is at least 0
abbrev pub is_step : Option ℤ → Bool
is_step z = passes (λ n. not (int_eq n (pos 0))) z

abbrev pub is_count : Option ℤ → Bool
is_count z = passes (int_le (pos 0)) z

-- ---- texts
abbrev pub is_text : Value → Bool
is_text (text t) = true
is_text v = false

-- a text is one of two spellings of a word, in the one or the other quotes
abbrev pub reads_as : List ℕ → List ℕ → Value → Bool
reads_as one other (text t) = same_name t one || same_name t other
reads_as one other v = false

abbrev pub is_by_columns : Value → Bool
is_by_columns v = reads_as (codes "\"F\"") (codes "'F'") v

abbrev pub is_by_rows : Value → Bool
is_by_rows v = reads_as (codes "\"C\"") (codes "'C'") v

abbrev pub is_infinity : Value → Bool
is_infinity v = reads_as (codes "\"inf\"") (codes "'inf'") v

-- the whole number 1
abbrev pub is_one : Value → Bool
is_one v = passes (λ z. int_eq z (pos 1)) (whole_number v)

-- ---- what an argument may be
abbrev pub is_truth : Value → Bool
is_truth (truth b) = true
is_truth v = false

abbrev pub is_true : Value → Bool
is_true (truth b) = b
is_true v = false

abbrev pub is_objective : Value → Bool
is_objective (objective s i p) = true
is_objective v = false

abbrev pub is_constraint : Value → Bool
is_constraint (constraint c) = true
is_constraint v = false

abbrev pub holds_all : (Value → Bool) → Value → Bool
holds_all test v = is_list v && list_all test (list_items v)

-- whether a value may be given for an argument, beside an x with these sides, where they are known
abbrev pub fits : Option Sides → Takes → Value → Bool
fits x takes.Anything v = true
fits x takes.Expression v = is_fit (reading v)
fits x takes.Expressions v = holds_all (λ u. is_fit (reading u)) v
fits x takes.Numbers v = is_constant (reading v)
fits x takes.Rows v = is_list v && are_rows (list_items v)
fits x takes.Whole v = is_some (whole_number v)
fits x takes.Step v = is_step (whole_number v)
fits x takes.Count v = is_count (whole_number v)
fits x takes.Share v = passes (is_share x) (whole_number v)
fits x takes.Shape v = is_some (sides_from (pos 1) v)
fits x takes.ShapeOfNone v = is_some (sides_from (pos 0) v)
fits x takes.Axis v = passes (has_axis x) (axis_of v)
fits x takes.Order v = is_by_columns v || is_by_rows v
fits x takes.NormOrder v = is_number v || is_text v
fits x takes.Text v = is_text v
fits x takes.Truth v = is_truth v
fits x takes.Objective v = is_objective v
fits x takes.Constraints v = holds_all is_constraint v
