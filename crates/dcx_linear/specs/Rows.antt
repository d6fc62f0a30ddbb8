-- What rows mean, over exact numbers: solutions, and answers that show themselves right.
use Rattle.std.specs.Prelude.{◌≡◌, ⊤, ℕ, suc, List, [], ◌∷◌, Some, slice_get, pos}
use Rattle.dcx_math.specs.Rational.{ℚ, whole, ◌+ℚ◌, ◌-ℚ◌, ◌*ℚ◌, ◌≤ℚ◌, ◌<ℚ◌}
use Rattle.dcx_linear.specs.declared.row.RowKind.{RowKind}
use Rattle.dcx_linear.specs.declared.row.RowKind.TheVariants.{AtMost, Equal}
use Rattle.dcx_linear.specs.declared.row.UnknownKind.{UnknownKind}
use Rattle.dcx_linear.specs.declared.row.UnknownKind.TheVariants.{Free, Nonneg, Nonpos}
use Rattle.dcx_linear.specs.FormTerms.{Unknowns}

-- a row as it is at unknowns: how it stands to 0, and the number that its form is there
pub record RowAt : Type 0 where
  pub kind : RowKind
  pub number : Unknowns → ℚ

-- a linear program: the kinds of its unknowns, its rows in order, and what is to be small
pub record LinearProgram : Type 0 where
  pub kinds : List UnknownKind
  pub rows : List RowAt
  pub objective : Unknowns → ℚ

-- the number is of the kind
abbrev pub IsOfKind : UnknownKind → ℚ → Type 0
IsOfKind Free q = ⊤
IsOfKind Nonneg q = whole (pos 0) ≤ℚ q
IsOfKind Nonpos q = q ≤ℚ whole (pos 0)

-- each unknown is of its kind
abbrev pub AreOfKinds : List UnknownKind → Unknowns → Type 0
AreOfKinds kinds x = (i : ℕ) (kind : UnknownKind) → slice_get kinds i ≡ Some kind → IsOfKind kind (x i)

-- the number stands to 0 as the row says
abbrev pub StandsTo : RowKind → ℚ → Type 0
StandsTo AtMost q = q ≤ℚ whole (pos 0)
StandsTo Equal q = q ≡ whole (pos 0)

-- each unknown is of its kind, and each row holds
pub record IsSolution (l : LinearProgram) (x : Unknowns) : Type 0 where
  pub kinds : AreOfKinds l.kinds x
  pub rows : (i : ℕ) (r : RowAt) → slice_get l.rows i ≡ Some r → StandsTo r.kind (r.number x)

-- the sum of the multipliers times the rows, from row i on
abbrev pub combined_from : (ℕ → ℚ) → ℕ → List RowAt → Unknowns → ℚ
combined_from m i [] x = whole (pos 0)
combined_from m i (r ∷ rs) x = m i *ℚ r.number x +ℚ combined_from m (suc i) rs x

-- the sum of the multipliers times the rows
abbrev pub combined : LinearProgram → (ℕ → ℚ) → Unknowns → ℚ
combined l m x = combined_from m 0 l.rows x

-- the multipliers of inequalities are at least 0
abbrev pub HaveSigns : LinearProgram → (ℕ → ℚ) → Type 0
HaveSigns l m = (i : ℕ) (r : RowAt) → slice_get l.rows i ≡ Some r → r.kind ≡ AtMost → whole (pos 0) ≤ℚ m i

-- x solves the rows with this objective, and the multipliers show that no solution has a smaller one
pub record IsOptimal (l : LinearProgram) (v : ℚ) (x : Unknowns) (m : ℕ → ℚ) : Type 0 where
  pub solution : IsSolution l x
  pub attained : l.objective x ≡ v
  pub signs : HaveSigns l m
  pub bound : (y : Unknowns) → AreOfKinds l.kinds y → v ≤ℚ (l.objective y +ℚ combined l m y)

-- the multipliers show that no unknowns solve the rows
pub record IsInfeasible (l : LinearProgram) (gap : ℚ) (m : ℕ → ℚ) : Type 0 where
  pub positive : whole (pos 0) <ℚ gap
  pub signs : HaveSigns l m
  pub bound : (y : Unknowns) → AreOfKinds l.kinds y → gap ≤ℚ combined l m y

-- from x along the ray the rows hold, and the objective falls for ever
pub record IsUnbounded (l : LinearProgram) (x ray : Unknowns) (bound slope : ℚ) : Type 0 where
  pub falls : whole (pos 0) <ℚ slope
  pub solution : (k : ℚ) → whole (pos 0) ≤ℚ k → IsSolution l (λ i. x i +ℚ k *ℚ ray i)
  pub objective : (k : ℚ) → whole (pos 0) ≤ℚ k → l.objective (λ i. x i +ℚ k *ℚ ray i) ≤ℚ (bound -ℚ k *ℚ slope)
