-- Walks along a line, or along two lines at once, from number to number, where places without one are passed over.
use Rattle.std.specs.Prelude.{◌≡◌, ◌≢◌, ℕ, ◌+◌, ◌<◌, ◌≤◌, List, length, Option, Some, None, ℤ, pos}
use Rattle.dcx_links.specs.Matrix.{number}
use Rattle.dcx_links.specs.declared.walk.Entry.{Entry}
use Rattle.dcx_links.specs.declared.pair.Pair.{Pair}

-- the numbers of the line, and the place that the walk has come to
pub record Walk : Type 0 where
  pub numbers : List ℤ
  pub from : ℕ

-- the line has only zeros on from there
pub record IsOver (w : Walk) : Type 0 where
  pub zeros : (k : ℕ) → w.from ≤ k → k < length w.numbers → number w.numbers k ≡ pos 0

-- the first number other than 0 on from there
pub record ComesNext (w : Walk) (e : Entry) : Type 0 where
  pub beyond : w.from ≤ e.at
  pub within : e.at < length w.numbers
  pub here : number w.numbers e.at ≡ e.value
  pub some : e.value ≢ pos 0
  pub zeros : (k : ℕ) → w.from ≤ k → k < e.at → number w.numbers k ≡ pos 0

-- one step of a walk
abbrev pub Steps : Walk → Option Entry → Walk → Type 0
Steps w None v = IsOver w × (v ≡ w)
Steps w (Some e) v = ComesNext w e × (v ≡ record { numbers = w.numbers; from = e.at + 1 })

-- the numbers of two lines, and the place that the walk has come to
pub record DoubleWalk : Type 0 where
  pub first : List ℤ
  pub second : List ℤ
  pub from : ℕ

pub record AreOver (w : DoubleWalk) : Type 0 where
  pub first : IsOver (record { numbers = w.first; from = w.from })
  pub second : IsOver (record { numbers = w.second; from = w.from })

-- the first place on from there where one of the lines has a number other than 0
pub record PairComesNext (w : DoubleWalk) (p : Pair) : Type 0 where
  pub beyond : w.from ≤ p.at
  pub within : p.at < length w.first
  pub first : number w.first p.at ≡ p.first
  pub second : number w.second p.at ≡ p.second
  pub first_zeros : (k : ℕ) → w.from ≤ k → k < p.at → number w.first k ≡ pos 0
  pub second_zeros : (k : ℕ) → w.from ≤ k → k < p.at → number w.second k ≡ pos 0

abbrev pub DoubleSteps : DoubleWalk → Option Pair → DoubleWalk → Type 0
DoubleSteps w None v = AreOver w × (v ≡ w)
DoubleSteps w (Some p) v = PairComesNext w p × (v ≡ record { first = w.first; second = w.second; from = p.at + 1 })

-- nothing is left of a walk before a place
pub record IsBefore (w : Walk) (at : ℕ) : Type 0 where
  pub beyond : w.from ≤ at
  pub zeros : (k : ℕ) → w.from ≤ k → k < at → number w.numbers k ≡ pos 0

-- what comes next on from a place, where the walk `w` has passed it already
abbrev pub IsAhead : Walk → ℕ → Option Entry → Type 0
IsAhead w from None = IsOver (record { numbers = w.numbers; from = from })
IsAhead w from (Some e) = ComesNext (record { numbers = w.numbers; from = from }) e × (w.from ≡ e.at + 1)
