-- Which entries of an array keep what is demanded of a variable, and which leave it.
--
-- Entries are counted from 0 in row-major order. Of two entries that mirror each other the one below the diagonal is asked.
use Rattle.std.specs.Prelude.{◌≡◌, ◌≢◌, ℕ, ◌<◌, pos}
use Rattle.dcx_math.specs.Rational.{ℚ, whole, ◌≤ℚ◌, ◌<ℚ◌}
use Rattle.dcx_shape.specs.declared.shape.Sides.{Sides}
use Rattle.dcx_shape.specs.Shape.{sides_of}
use Rattle.dcx_shape.specs.Sides.{entries_of}
use Rattle.dcx_shape.specs.Places.{HasEntry, row_place}
use Rattle.dcx_atom.specs.Arrays.{entry_at}
use Rattle.dcx_call.specs.declared.attribute.Attribute.{Attribute}
use Rattle.dcx_call.specs.declared.attribute.Attribute.TheVariants.{Free, Nonneg, Nonpos, Symmetric, Diag}
use Rattle.dcx_call.specs.declared.attribute.Variable.{Variable}
use Rattle.dcx_call.specs.Attributes.{counted}

-- the entry in row i and column j is above the diagonal, and its mirror is an entry too, as it always is in a square
pub record HasMirrorBelow (sides : Sides) (i j : ℕ) : Type 0 where
  pub above : i < j
  pub mirror : HasEntry sides j i

-- ---- entries that keep what is demanded
-- entry k is its mirror, or is asked at its mirror below the diagonal
abbrev pub IsItsMirror : Sides → (ℕ → ℚ) → ℕ → Type 0
IsItsMirror sides x k = (i j : ℕ) → HasEntry sides i j → k ≡ row_place sides i j → ¬ HasMirrorBelow sides i j → entry_at sides x i j ≡ entry_at sides x j i

-- entry k is on the diagonal, or is 0
abbrev pub IsZeroOffDiagonal : Sides → (ℕ → ℚ) → ℕ → Type 0
IsZeroOffDiagonal sides x k = (i j : ℕ) → HasEntry sides i j → k ≡ row_place sides i j → i ≢ j → entry_at sides x i j ≡ whole (pos 0)

-- entry k is as the attribute demands
abbrev pub KeepsAt : Attribute → Sides → (ℕ → ℚ) → ℕ → Type 0
KeepsAt Free sides x k = Unit {0}
KeepsAt Nonneg sides x k = whole (pos 0) ≤ℚ x k
KeepsAt Nonpos sides x k = x k ≤ℚ whole (pos 0)
KeepsAt Symmetric sides x k = IsItsMirror sides x k
KeepsAt Diag sides x k = IsZeroOffDiagonal sides x k

-- ---- entries that leave it
-- entry k isn't its mirror, and isn't asked at a mirror below the diagonal
pub record DiffersFromMirror (sides : Sides) (x : ℕ → ℚ) (k : ℕ) : Type 0 where
  pub row : ℕ
  pub column : ℕ
  pub entry : HasEntry sides row column
  pub place : k ≡ row_place sides row column
  pub asked : ¬ HasMirrorBelow sides row column
  pub differs : entry_at sides x row column ≢ entry_at sides x column row

-- entry k is off the diagonal, and isn't 0
pub record IsNonzeroOffDiagonal (sides : Sides) (x : ℕ → ℚ) (k : ℕ) : Type 0 where
  pub row : ℕ
  pub column : ℕ
  pub entry : HasEntry sides row column
  pub place : k ≡ row_place sides row column
  pub off : row ≢ column
  pub nonzero : entry_at sides x row column ≢ whole (pos 0)

-- entry k leaves what the attribute demands
abbrev pub LeavesAt : Attribute → Sides → (ℕ → ℚ) → ℕ → Type 0
LeavesAt Free sides x k = ⊥
LeavesAt Nonneg sides x k = x k <ℚ whole (pos 0)
LeavesAt Nonpos sides x k = whole (pos 0) <ℚ x k
LeavesAt Symmetric sides x k = DiffersFromMirror sides x k
LeavesAt Diag sides x k = IsNonzeroOffDiagonal sides x k

-- entry k is the first that leaves it
pub record LeavesFirstAt (attribute : Attribute) (sides : Sides) (x : ℕ → ℚ) (k : ℕ) : Type 0 where
  pub there : k < entries_of sides
  pub leaves : LeavesAt attribute sides x k
  pub before : (j : ℕ) → j < k → KeepsAt attribute sides x j

-- ---- of a variable
-- entry k is as is demanded of the variable
abbrev pub KeepsDomainAt : Variable → (ℕ → ℚ) → ℕ → Type 0
KeepsDomainAt v x k = KeepsAt (counted v.whole v.attribute) (sides_of v.shape) x k

-- entry k is the first that leaves it
abbrev pub LeavesDomainFirstAt : Variable → (ℕ → ℚ) → ℕ → Type 0
LeavesDomainFirstAt v x k = LeavesFirstAt (counted v.whole v.attribute) (sides_of v.shape) x k
