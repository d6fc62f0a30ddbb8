-- The rows that stand for a call, over its arguments and its auxiliary unknowns, and where they hold.
use Rattle.std.specs.Prelude.{◌≡◌, ℕ, suc, List, [], ◌∷◌, pos, slice_index_or}
use Rattle.dcx_math.specs.Rational.{ℚ, whole, ◌+ℚ◌, ◌*ℚ◌, ◌≤ℚ◌}
use Rattle.dcx_math.specs.Sums.{rat_sum_by}
use Rattle.dcx_atom.specs.declared.graph.AuxKind.{AuxKind}
use Rattle.dcx_atom.specs.declared.graph.AuxKind.TheVariants.{Free, Nonneg}
use Rattle.dcx_atom.specs.declared.graph.Operand.{Operand}
use Rattle.dcx_atom.specs.declared.graph.Operand.TheVariants.{Argument, Aux}
use Rattle.dcx_atom.specs.Arrays.{Entries}

-- the numbers of the auxiliary unknowns
abbrev pub Filling : Type 0
Filling = ℕ → ℚ

-- a coefficient times an entry of an argument or an auxiliary unknown
pub record RowTerm : Type 0 where
  pub operand : Operand
  pub coefficient : ℚ

-- a row: the sum of its terms is to be at most 0
abbrev pub Row : Type 0
Row = List RowTerm

-- a coefficient times an auxiliary unknown
pub record FormTerm : Type 0 where
  pub aux : ℕ
  pub coefficient : ℚ

-- a result: a sum over the auxiliary unknowns
abbrev pub Form : Type 0
Form = List FormTerm

-- the number that an operand stands for
abbrev pub operand_at : Operand → Entries → Filling → ℚ
operand_at (Argument argument entry) a t = a argument entry
operand_at (Aux k) a t = t k

-- the sum of a row's terms
abbrev pub row_at : Row → Entries → Filling → ℚ
row_at row a t = rat_sum_by (λ x. x.coefficient *ℚ operand_at x.operand a t) row

-- the sum of a form's terms
abbrev pub form_at : Form → Filling → ℚ
form_at form t = rat_sum_by (λ x. x.coefficient *ℚ t x.aux) form

-- each row is at most 0
abbrev pub RowsHold : List Row → Entries → Filling → Type 0
RowsHold [] a t = Unit {0}
RowsHold (row ∷ rows) a t = (row_at row a t ≤ℚ whole (pos 0)) × RowsHold rows a t

-- each nonnegative unknown is at least 0
abbrev pub KindsHold : List AuxKind → Filling → Type 0
KindsHold kinds t = (k : ℕ) → slice_index_or kinds k Free ≡ Nonneg → whole (pos 0) ≤ℚ t k

-- each row times its weight, summed
abbrev pub weighted : List Row → (ℕ → ℚ) → Entries → Filling → ℚ
weighted [] w a t = whole (pos 0)
weighted (row ∷ rows) w a t = w 0 *ℚ row_at row a t +ℚ weighted rows (λ r. w (suc r)) a t
