-- The form of a program of integers.
use Rattle.std.specs.Prelude.{◌≡◌, ℕ, suc, ◌+◌, ◌<◌, ◌≤◌, Bool, true, false, not, ◌&&◌, nat_eq, nat_lt, nat_le, if◌then◌else◌, List, [], ◌∷◌, ◌++◌, map, length}
use Rattle.std.specs.Prelude.{get_or, slice_get, Some, ℤ, pos, negsuc, neg_ℤ, ◌<ℤ◌, ◌≤ℤ◌}
use Rattle.dcx_math.specs.Divisors.{IsPrimitive}
use Rattle.dcx_math.specs.IntegerSums.{int_sum_by}
use Rattle.dcx_math.specs.Rational.{whole, ◌<ℚ◌}
use Rattle.dcx_frac.specs.Frac.{value}
use Rattle.dcx_tab.specs.declared.rows.ColumnKind.{ColumnKind}
use Rattle.dcx_tab.specs.declared.rows.ColumnKind.TheVariants.{Unknown, Slack, Artificial}
use Rattle.dcx_tab.specs.declared.rows.IntRow.{IntRow}
use Rattle.dcx_tab.specs.declared.rows.CostRow.{CostRow}
use Rattle.dcx_tab.specs.Rows.{Row, entry, AllSmall}
use Rattle.dcx_tab.specs.Table.{Table}

-- ---- what stands where
abbrev pub kind_at : List ColumnKind → ℕ → ColumnKind
kind_at kinds j = get_or kinds j (Unknown 0 false)

abbrev pub entries_of : IntRow → List ℤ
entries_of r = r.entries

abbrev pub right_of : IntRow → ℤ
right_of r = r.right

abbrev pub first_basic_of : IntRow → ℕ
first_basic_of r = r.basic

abbrev pub is_negated : IntRow → Bool
is_negated r = r.negated

abbrev pub entries_at : List IntRow → ℕ → List ℤ
entries_at rows i = get_or (map entries_of rows) i []

abbrev pub right_side_at : List IntRow → ℕ → ℤ
right_side_at rows i = get_or (map right_of rows) i (pos 0)

abbrev pub first_basic_at : List IntRow → ℕ → ℕ
first_basic_at rows i = get_or (map first_basic_of rows) i 0

abbrev pub is_negated_at : List IntRow → ℕ → Bool
is_negated_at rows i = get_or (map is_negated rows) i false

-- ---- the columns
abbrev pub is_plain : ColumnKind → Bool
is_plain (Unknown u n) = true
is_plain (Slack r) = true
is_plain (Artificial r) = false

-- the columns before the first artificial one
abbrev pub plain_count : List ColumnKind → ℕ
plain_count [] = 0
plain_count (k ∷ ks) = if is_plain k then suc (plain_count ks) else 0

-- what row i has at a column where its kind tells that; z at a column of an unknown
abbrev pub told_entry : ℕ → Bool → ColumnKind → ℤ → ℤ
told_entry i negated (Unknown u n) z = z
told_entry i negated (Slack r) z = if nat_eq r i then (if negated then negsuc 0 else pos 1) else pos 0
told_entry i negated (Artificial r) z = if nat_eq r i then pos 1 else pos 0

-- whether row i may start with this column basic: its slack, if it isn't negated, or its artificial
abbrev pub may_start : ℕ → Bool → ColumnKind → Bool
may_start i negated (Unknown u n) = false
may_start i negated (Slack r) = nat_eq r i && not negated
may_start i negated (Artificial r) = nat_eq r i

-- what a cost has at a column: z at a column of an unknown, and else 0
abbrev pub unknown_entry : ColumnKind → ℤ → ℤ
unknown_entry (Unknown u n) z = z
unknown_entry (Slack r) z = pos 0
unknown_entry (Artificial r) z = pos 0

-- the sum over the rows that start with an artificial, whose columns are those from `plain` on
abbrev pub sum_started : ℕ → (IntRow → ℤ) → List IntRow → ℤ
sum_started plain f rows = int_sum_by (λ r. if nat_le plain r.basic then f r else pos 0) rows

-- ---- the rows as the tableau has them: the columns, z, w, the right side
abbrev pub tableau_row : IntRow → Row
tableau_row r = r.entries ++ pos 0 ∷ pos 0 ∷ r.right ∷ []

abbrev pub objective_row : CostRow → Row
objective_row c = c.entries ++ c.lead ∷ pos 0 ∷ c.right ∷ []

abbrev pub phase_row : CostRow → Row
phase_row c = c.entries ++ pos 0 ∷ c.lead ∷ c.right ∷ []

-- ---- the form
pub record IsProgramRow (kinds : List ColumnKind) (i : ℕ) (r : IntRow) : Type 0 where
  pub width : length r.entries ≡ length kinds
  pub small : AllSmall (tableau_row r)
  pub right : pos 0 ≤ℤ r.right
  pub told : (j : ℕ) → j < length kinds → entry r.entries j ≡ told_entry i r.negated (kind_at kinds j) (entry r.entries j)
  pub basic : r.basic < length kinds
  pub starts : may_start i r.negated (kind_at kinds r.basic) ≡ true
  pub factor : whole (pos 0) <ℚ value r.factor

pub record IsObjective (kinds : List ColumnKind) (c : CostRow) : Type 0 where
  pub width : length c.entries ≡ length kinds
  pub small : AllSmall (objective_row c)
  pub told : (j : ℕ) → j < length kinds → entry c.entries j ≡ unknown_entry (kind_at kinds j) (entry c.entries j)
  pub lead : pos 0 <ℤ c.lead
  pub primitive : IsPrimitive (objective_row c)

-- w and the rows that start with an artificial, without them, add up to their right sides
pub record IsPhase (kinds : List ColumnKind) (rows : List IntRow) (c : CostRow) : Type 0 where
  pub width : length c.entries ≡ length kinds
  pub small : AllSmall (phase_row c)
  pub plain : (j : ℕ) → j < plain_count kinds → entry c.entries j ≡ sum_started (plain_count kinds) (λ r. entry r.entries j) rows
  pub artificial : (j : ℕ) → plain_count kinds ≤ j → j < length kinds → entry c.entries j ≡ pos 0
  pub lead : c.lead ≡ pos 1
  pub right : c.right ≡ sum_started (plain_count kinds) right_of rows

-- at the two columns of a free unknown a row has a number and its negative
abbrev pub IsTurned : List ColumnKind → List ℤ → Type 0
IsTurned kinds entries =
    (j k u : ℕ) → j < length kinds → k < length kinds → kind_at kinds j ≡ Unknown u false → kind_at kinds k ≡ Unknown u true → entry entries k ≡ neg_ℤ (entry entries j)

pub record IsProgram (rows : List IntRow) (kinds : List ColumnKind) (objective phase : CostRow) : Type 0 where
  pub few_rows : length rows ≤ 600
  pub few_columns : plain_count kinds ≤ 2400
  -- the artificials come last
  pub ordered : (j : ℕ) → j < length kinds → is_plain (kind_at kinds j) ≡ nat_lt j (plain_count kinds)
  pub each_row : (i : ℕ) (r : IntRow) → slice_get rows i ≡ Some r → IsProgramRow kinds i r
  -- a row has one slack at most, and an artificial only to start with
  pub slack : (j i : ℕ) → kind_at kinds j ≡ Slack i → i < length rows
  pub one_slack : (j k i : ℕ) → kind_at kinds j ≡ Slack i → kind_at kinds k ≡ Slack i → j ≡ k
  pub artificial : (j i : ℕ) → kind_at kinds j ≡ Artificial i → i < length rows
  pub starting : (j i : ℕ) → kind_at kinds j ≡ Artificial i → first_basic_at rows i ≡ j
  pub turned : (i : ℕ) → IsTurned kinds (entries_at rows i)
  pub turned_cost : IsTurned kinds objective.entries
  pub cost : IsObjective kinds objective
  pub sum : IsPhase kinds rows phase

-- the tableau from which the simplex starts
abbrev pub first_table : List IntRow → List ColumnKind → CostRow → CostRow → Table
first_table rows kinds objective phase = record {
  rows = map tableau_row rows ++ objective_row objective ∷ phase_row phase ∷ [];
  basis = map first_basic_of rows ++ length kinds ∷ (length kinds + 1) ∷ [];
  columns = length kinds;
  plain = plain_count kinds;
}
