-- Rows of the table, arguments and what a `for` goes through, as the code has them.
use Rattle.std.specs.Prelude.{ℕ, Bool, true, false, List, map, option_map}
use Rattle.std.proofs.Common.{Bor}
use Rattle.dcx_array.specs.Arrays.{number}
use Rattle.dcx_script_values.specs.Values.{Value, plain, items_of}
use Rattle.dcx_script_values.specs.Meant.{meant}
use Rattle.dcx_signature.specs.declared.table.Way.{Way}
use Rattle.dcx_signature.specs.declared.table.Way.TheVariants.{Must, May, Keyword, MustByPosition, MayByPosition}
use Rattle.dcx_signature.specs.declared.table.Param as code_param
use Rattle.dcx_signature.specs.declared.table.Row as code_row
use Rattle.dcx_signature.specs.declared.table.Function.{Function}
use Rattle.dcx_signature.specs.declared.matching.Given as code_given
use Rattle.dcx_signature.specs.declared.matching.Assignment as code_assignment
use Rattle.dcx_signature.specs.declared.turns.Through.{Through}
use Rattle.dcx_signature.specs.declared.turns.Through.TheVariants.{Items, Range, Numbers}
use Rattle.dcx_signature.specs.Table.{Param, Row}
use Rattle.dcx_signature.specs.Arguments.{Given, Matched}
use Rattle.dcx_signature.specs.Turns.{range_items}

-- ---- the table
abbrev pub is_by_position : Way → Bool
is_by_position Must = true
is_by_position May = true
is_by_position Keyword = false
is_by_position MustByPosition = true
is_by_position MayByPosition = true

abbrev pub is_by_name : Way → Bool
is_by_name Must = true
is_by_name May = true
is_by_name Keyword = true
is_by_name MustByPosition = false
is_by_name MayByPosition = false

abbrev pub is_needed : Way → Bool
is_needed Must = true
is_needed May = false
is_needed Keyword = false
is_needed MustByPosition = true
is_needed MayByPosition = false

abbrev pub param_seen : code_param.Param → Param
param_seen p = record { word = p.word.now; by_position = is_by_position p.way; by_name = is_by_name p.way; needed = is_needed p.way; takes = p.takes }

abbrev pub row_seen : code_row.Row → Row
row_seen r = record { params = map param_seen r.params.now; rest = r.rest; least = r.least }

-- a name of a module, and its call
abbrev pub entry_seen : Bor (List ℕ) × Function → List ℕ × Function
entry_seen e = (e.0.now, e.1)

-- ---- arguments
-- words that were given
abbrev pub words : List (Bor (List ℕ)) → List (List ℕ)
words ws = map (λ w. w.now) ws

abbrev pub given_seen : code_given.Given → Given
given_seen g = record { word = option_map (λ n. n.now) g.word; place = g.place; value = meant g.value }

abbrev pub assignment_seen : code_assignment.Assignment → Matched
assignment_seen m = (given_seen m.given, option_map param_seen m.param)

-- ---- what a `for` goes through
abbrev pub through_seen : Through → List Value
through_seen (Items items) = items_of items.value
through_seen (Range r) = range_items r.value.first r.value.step r.value.count
through_seen (Numbers array) = map (λ x. plain (number x)) array.value.entries
