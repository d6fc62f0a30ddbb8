-- Calls whose numbers are fractions of 128 bits: the coefficients of their graphs, what they sum at fractions, and the slopes that they form.
use Rattle.std.specs.Prelude.{◌≡◌, ℕ, ◌<◌, ◌≤◌, List, Some, None, length}
use Rattle.std.specs.List.{All, AllByRecursion}
use Rattle.dcx_frac.specs.declared.fraction.Frac.{Frac}
use Rattle.dcx_frac.specs.Fits.{IsRepresentable}
use Rattle.dcx_shape.specs.declared.shape.Sides.{Sides}
use Rattle.dcx_shape.specs.Sides.{entries_of}
use Rattle.dcx_atom.specs.Arrays.{Entries, sides_at}
use Rattle.dcx_atom.specs.Formed.{exact}
use Rattle.dcx_atom.specs.Rows.{RowTerm, Row, FormTerm}
use Rattle.dcx_atom.specs.Meaning.{Meaning, Coefficients}
use Rattle.dcx_atom.specs.Steps.{entry_stop, weights_of}

-- each number is a fraction of 128 bits
abbrev pub AreFractions : Entries → Type 0
AreFractions a = (i k : ℕ) → IsRepresentable (a i k)

-- no argument has more than 20,000 entries
abbrev pub HaveFewEntries : List Sides → Type 0
HaveFewEntries args = All (λ s. entries_of s ≤ 20000) args

-- ---- what is summed
-- the summands at fractions are fractions
abbrev pub HasFractionSummands : Meaning → Type 0
HasFractionSummands m = (args : List Sides) (a : Entries) (j : ℕ) → AreFractions a → All IsRepresentable (m.summands args a j)

-- ---- the graph
-- the coefficient of a term is a fraction, and that of each term of a row
abbrev pub FitsRowTerm : RowTerm → Type 0
FitsRowTerm t = IsRepresentable t.coefficient

abbrev pub FitsFormTerm : FormTerm → Type 0
FitsFormTerm t = IsRepresentable t.coefficient

abbrev pub FitsRow : Row → Type 0
FitsRow row = AllByRecursion FitsRowTerm row

-- the coefficients of the rows are fractions, and those of the results where no argument has too many entries
pub record HasFractionCoefficients (m : Meaning) : Type 0 where
  pub rows : (args : List Sides) (j : ℕ) → AllByRecursion FitsRow (m.rows args j)
  pub results : (args : List Sides) (sides : Sides) (j : ℕ) → m.shape args ≡ Some sides → HaveFewEntries args → AllByRecursion FitsFormTerm (m.result args j)

-- ---- the slopes
-- the slopes that weights give for the entries of arguments of these sides are fractions
abbrev pub AreFractionSlopes : Meaning → List Sides → List Frac → Type 0
AreFractionSlopes m args ws = (i e : ℕ) → i < length args → e < entries_of (sides_at args i) → IsRepresentable (exact (m.slope args (weights_of m args ws) i e))

-- where no step of any entry stops, the slopes are
abbrev pub HasFractionSlopes : Meaning → Type 0
HasFractionSlopes m = (args : List Sides) (sides : Sides) → m.shape args ≡ Some sides → (c : Coefficients) (ws : List Frac) →
    ((j : ℕ) → j < entries_of sides → entry_stop m args c (weights_of m args ws) j ≡ None) → AreFractionSlopes m args ws
