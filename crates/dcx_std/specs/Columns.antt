-- The columns of a scaled program: those of the unknowns, the slacks of the inequalities, and the artificials.
use Rattle.std.specs.Prelude.{ℕ, suc, Bool, true, false, not, ◌||◌, nat_eq, if◌then◌else◌, List, [], ◌∷◌, ◌++◌, map, ℤ, pos, negsuc, neg_ℤ}
use Rattle.dcx_linear.specs.declared.row.UnknownKind.{UnknownKind}
use Rattle.dcx_linear.specs.declared.row.UnknownKind.TheVariants.{Free, Nonneg, Nonpos}
use Rattle.dcx_tab.specs.declared.rows.ColumnKind.{ColumnKind}
use Rattle.dcx_tab.specs.declared.rows.ColumnKind.TheVariants.{Unknown, Slack, Artificial}
use Rattle.dcx_tab.specs.Rows.{entry}
use Rattle.dcx_lp_answer.specs.Multipliers.{is_at_most}
use Rattle.dcx_std.specs.declared.start.Start.{Start}

-- ---- the columns of unknowns
-- of a free unknown the plus column and the minus column
abbrev pub unknown_columns : ℕ → UnknownKind → List ColumnKind
unknown_columns u Free = Unknown u false ∷ Unknown u true ∷ []
unknown_columns u Nonneg = Unknown u false ∷ []
unknown_columns u Nonpos = Unknown u true ∷ []

-- of unknowns from number u on
abbrev pub all_unknown_columns : ℕ → List UnknownKind → List ColumnKind
all_unknown_columns u [] = []
all_unknown_columns u (kind ∷ kinds) = unknown_columns u kind ++ all_unknown_columns (suc u) kinds

-- ---- the columns of rows
abbrev pub has_slack : Start → Bool
has_slack s = is_at_most s.kind

-- every row but an inequality that was not negated
abbrev pub needs_artificial : Start → Bool
needs_artificial s = s.negated || not (has_slack s)

-- the columns of the rows, from number i on, that are marked
abbrev pub marked_from : (ℕ → ColumnKind) → ℕ → List Bool → List ColumnKind
marked_from column i [] = []
marked_from column i (b ∷ bs) = if b then column i ∷ marked_from column (suc i) bs else marked_from column (suc i) bs

abbrev pub slack_columns : List Start → List ColumnKind
slack_columns starts = marked_from Slack 0 (map has_slack starts)

abbrev pub artificial_columns : List Start → List ColumnKind
artificial_columns starts = marked_from Artificial 0 (map needs_artificial starts)

-- the columns that are not artificial, of unknowns of these kinds and rows that start so
abbrev pub plain_columns_of : List UnknownKind → List Start → List ColumnKind
plain_columns_of kinds starts = all_unknown_columns 0 kinds ++ slack_columns starts

-- all columns
abbrev pub columns_of : List UnknownKind → List Start → List ColumnKind
columns_of kinds starts = plain_columns_of kinds starts ++ artificial_columns starts

-- the column that is basic at first in row i
abbrev pub start_column : ℕ → Start → ColumnKind
start_column i s = if needs_artificial s then Artificial i else Slack i

-- ---- what a row has at a column
abbrev pub turned : Bool → ℤ → ℤ
turned true z = neg_ℤ z
turned false z = z

-- what row i has at a column, where its unknowns have these numbers before it is negated
abbrev pub number_in : ℕ → Bool → List ℤ → ColumnKind → ℤ
number_in i negated numbers (Unknown u minus) = turned negated (turned minus (entry numbers u))
number_in i negated numbers (Slack r) = if nat_eq r i then (if negated then negsuc 0 else pos 1) else pos 0
number_in i negated numbers (Artificial r) = if nat_eq r i then pos 1 else pos 0

-- what a cost with these numbers at the unknowns has at a column
abbrev pub cost_in : List ℤ → ColumnKind → ℤ
cost_in numbers (Unknown u minus) = turned minus (entry numbers u)
cost_in numbers (Slack r) = pos 0
cost_in numbers (Artificial r) = pos 0
