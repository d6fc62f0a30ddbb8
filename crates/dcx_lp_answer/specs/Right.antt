-- What makes an answer right for its program.
use Rattle.std.specs.Prelude.{◌≡◌, ℕ, ◌<◌, ◌≤◌, Bool, true, false, not, ◌&&◌, ◌||◌, nat_eq, if◌then◌else◌, List, [], ◌∷◌, map, get_or, length, ◌⊎◌, pos}
use Rattle.dcx_math.specs.Rational.{ℚ, whole, ◌+ℚ◌, ◌-ℚ◌, ◌*ℚ◌, ◌/ℚ◌, neg_ℚ, ◌≤ℚ◌, ◌<ℚ◌}
use Rattle.dcx_math.specs.Sums.{rat_dot, rat_at, rat_sum_below, along}
use Rattle.dcx_math.proofs.Points.{wholes}
use Rattle.dcx_frac.specs.Frac.{value}
use Rattle.dcx_tab.specs.declared.rows.ColumnKind.{ColumnKind}
use Rattle.dcx_tab.specs.declared.rows.ColumnKind.TheVariants.{Unknown, Slack, Artificial}
use Rattle.dcx_tab.specs.declared.rows.CostRow.{CostRow}
use Rattle.dcx_tab.specs.declared.program.Program.{Program}
use Rattle.dcx_tab.specs.Program.{kind_at, plain_count, entries_at, right_side_at, is_negated_at}
use Rattle.dcx_lp_answer.specs.declared.answer.LpStatus.{LpStatus}
use Rattle.dcx_lp_answer.specs.declared.answer.LpStatus.TheVariants as status
use Rattle.dcx_lp_answer.specs.declared.answer.LpAnswer.{LpAnswer}
use Rattle.dcx_lp_answer.specs.Notes.{numbers, reduced_cost_of, factor_of, row_factor, was_negated}

-- ---- a program's columns, rows and costs
abbrev pub is_slack_of : ℕ → ColumnKind → Bool
is_slack_of i (Unknown u n) = false
is_slack_of i (Slack r) = nat_eq r i
is_slack_of i (Artificial r) = false

-- the row is an inequality: it has a slack
abbrev pub is_inequality : List ColumnKind → ℕ → Bool
is_inequality [] i = false
is_inequality (k ∷ kinds) i = is_slack_of i k || is_inequality kinds i

-- minus the number where the test holds
abbrev pub turned_if : Bool → ℚ → ℚ
turned_if true x = neg_ℚ x
turned_if false x = x

-- the sum of a row's entries times the columns
abbrev pub row_at_columns : Program → ℕ → List ℚ → ℚ
row_at_columns p i xs = rat_dot (wholes (entries_at p.rows i)) xs

-- the cost at columns
abbrev pub cost_at_columns : CostRow → List ℚ → ℚ
cost_at_columns c xs = (whole c.right -ℚ rat_dot (wholes c.entries) xs) /ℚ whole c.lead

-- the columns are at least 0 and solve the rows, and the artificials are 0
pub record IsSolution (p : Program) (xs : List ℚ) : Type 0 where
  pub count : length xs ≡ length p.columns
  pub nonnegative : (j : ℕ) → j < length p.columns → whole (pos 0) ≤ℚ rat_at xs j
  pub artificial : (j : ℕ) → plain_count p.columns ≤ j → j < length p.columns → rat_at xs j ≡ whole (pos 0)
  pub rows : (i : ℕ) → i < length p.rows → row_at_columns p i xs ≡ whole (right_side_at p.rows i)

-- any numbers at least 0 of the unknowns' columns, whether or not they solve the rows; the others are 0
pub record IsAssignment (p : Program) (ys : List ℚ) : Type 0 where
  pub count : length ys ≡ length p.columns
  pub nonnegative : (j : ℕ) → j < length p.columns → whole (pos 0) ≤ℚ rat_at ys j
  pub slack : (j i : ℕ) → j < length p.columns → kind_at p.columns j ≡ Slack i → rat_at ys j ≡ whole (pos 0)
  pub artificial : (j i : ℕ) → j < length p.columns → kind_at p.columns j ≡ Artificial i → rat_at ys j ≡ whole (pos 0)

-- row i as it was before it was multiplied by its factor and negated, its right side taken to the left:
-- an inequality says that this is at most 0, an equality that it is 0
abbrev pub form_at : Program → ℕ → List ℚ → ℚ
form_at p i ys = turned_if (is_negated_at p.rows i) (row_at_columns p i ys -ℚ whole (right_side_at p.rows i)) /ℚ rat_at (map row_factor p.rows) i

-- what is subtracted from a reduced cost: 1 at an equality, where the rows can't be solved
abbrev pub offset : LpStatus → Bool → ℚ
offset status.Optimal inequality = whole (pos 0)
offset status.Infeasible inequality = if inequality then whole (pos 0) else whole (pos 1)
offset status.Unbounded inequality = whole (pos 0)

-- the multiplier of row i: its reduced cost, less the offset, times its factor, negated where an equality was
abbrev pub multiplier_at : List ColumnKind → LpAnswer → ℕ → ℚ
multiplier_at kinds a i =
    let inequality = is_inequality kinds i in
    turned_if (not inequality && get_or (map was_negated a.rows) i false) ((rat_at (map reduced_cost_of a.rows) i -ℚ offset a.status inequality) *ℚ rat_at (map factor_of a.rows) i)

-- the sum of the multipliers times the rows
abbrev pub combined_rows : Program → LpAnswer → List ℚ → ℚ
combined_rows p a ys = rat_sum_below (length p.rows) (λ i. multiplier_at p.columns a i *ℚ form_at p i ys)

-- one of the two columns of a free unknown is 0 at least
abbrev pub IsOneSided : List ColumnKind → List ℚ → Type 0
IsOneSided kinds xs = (j k u : ℕ) → j < length kinds → k < length kinds → kind_at kinds j ≡ Unknown u false → kind_at kinds k ≡ Unknown u true
    → (rat_at xs j ≡ whole (pos 0)) ⊎ (rat_at xs k ≡ whole (pos 0))

abbrev pub HasSigns : Program → LpAnswer → Type 0
HasSigns p a = (i : ℕ) → i < length p.rows → is_inequality p.columns i ≡ true → whole (pos 0) ≤ℚ multiplier_at p.columns a i

-- ---- the three kinds of answer
-- the columns solve the rows at this cost, and the multipliers show that none costs less
pub record IsOptimalAnswer (p : Program) (a : LpAnswer) : Type 0 where
  pub solution : IsSolution p (numbers a.columns)
  pub attained : cost_at_columns p.objective (numbers a.columns) ≡ value a.number
  pub signs : HasSigns p a
  pub bound : (ys : List ℚ) → IsAssignment p ys → value a.number ≤ℚ (cost_at_columns p.objective ys +ℚ combined_rows p a ys)
  pub one_sided : IsOneSided p.columns (numbers a.columns)

-- the multipliers show that the rows can't be solved
pub record IsInfeasibleAnswer (p : Program) (a : LpAnswer) : Type 0 where
  pub gap : whole (pos 0) <ℚ value a.number
  pub signs : HasSigns p a
  pub bound : (ys : List ℚ) → IsAssignment p ys → value a.number ≤ℚ combined_rows p a ys
  pub one_sided : IsOneSided p.columns (numbers a.columns)

-- along the ray the columns solve the rows at ever lower costs
pub record IsUnboundedAnswer (p : Program) (a : LpAnswer) : Type 0 where
  pub slope : whole (pos 0) <ℚ value a.slope
  pub solution : (k : ℚ) → whole (pos 0) ≤ℚ k → IsSolution p (along (numbers a.columns) k (numbers a.ray))
  pub cost : (k : ℚ) → whole (pos 0) ≤ℚ k → cost_at_columns p.objective (along (numbers a.columns) k (numbers a.ray)) ≤ℚ (value a.number -ℚ k *ℚ value a.slope)
  pub one_sided : IsOneSided p.columns (numbers a.columns)
  pub one_sided_ray : IsOneSided p.columns (numbers a.ray)

abbrev pub IsRightAs : LpStatus → Program → LpAnswer → Type 0
IsRightAs status.Optimal p a = IsOptimalAnswer p a
IsRightAs status.Infeasible p a = IsInfeasibleAnswer p a
IsRightAs status.Unbounded p a = IsUnboundedAnswer p a

-- the answer is right for the program
abbrev pub IsRight : Program → LpAnswer → Type 0
IsRight p a = IsRightAs a.status p a
