-- The best row so far: what the search for the row that leaves holds.
use Rattle.std.specs.Prelude.{◌≡◌, ℕ, ◌<◌, Option, Some, None}
use Rattle.dcx_tab.specs.Table.{Table, entry_at}
use Rattle.dcx_simplex.specs.declared.choice.Ratio.{Ratio}
use Rattle.dcx_simplex.specs.Run.{MayLeave, ComesFirst, right_at}

-- the row may leave where column c enters, and these are its number there and its right side
pub record IsRatio (bound : ℕ) (t : Table) (c : ℕ) (q : Ratio) : Type 0 where
  pub may : MayLeave bound t c q.row
  pub below : q.below ≡ entry_at t q.row c
  pub size : q.size ≡ right_at t q.row

-- the best of the rows below n that may leave
abbrev pub IsBest : ℕ → Table → ℕ → ℕ → Option Ratio → Type 0
IsBest bound t c n None = (k : ℕ) → k < n → ¬ (MayLeave bound t c k)
IsBest bound t c n (Some q) = IsRatio bound t c q × ((k : ℕ) → k < n → MayLeave bound t c k → ComesFirst t c q.row k)
