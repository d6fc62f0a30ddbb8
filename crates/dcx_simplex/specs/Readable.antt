-- What a tableau must have so that an end can be read from it.
use Rattle.std.specs.Prelude.{◌≡◌, ℕ, ◌+◌, ◌<◌, length, pos, ◌<ℤ◌}
use Rattle.dcx_tab.specs.Rows.{basic_at}
use Rattle.dcx_tab.specs.Table.{Table, entry_at}
use Rattle.dcx_simplex.specs.Basis.{lead_at}
use Rattle.dcx_simplex.specs.Whole.{objective_row, phase_row}

-- different basic columns with positive entries, and z and w last
pub record IsReadable (t : Table) : Type 0 where
  pub positive : (i : ℕ) → i + 2 < length t.rows → pos 0 <ℤ entry_at t i (basic_at t.basis i)
  pub basics : (i : ℕ) → i + 2 < length t.rows → basic_at t.basis i < t.columns
  pub apart : (i k : ℕ) → i + 2 < length t.rows → k + 2 < length t.rows → basic_at t.basis i ≡ basic_at t.basis k → i ≡ k
  pub objective : basic_at t.basis (objective_row t) ≡ t.columns
  pub phase : basic_at t.basis (phase_row t) ≡ t.columns + 1
  pub lead : pos 0 <ℤ lead_at t (objective_row t)
  pub phase_lead : pos 0 <ℤ lead_at t (phase_row t)
