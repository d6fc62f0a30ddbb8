-- The multipliers that an answer shows, as they are formed: up to the first operation that passes 128 bits.
use Rattle.std.specs.Prelude.{◌≡◌, ⊤, ℕ, suc, Bool, true, false, List, [], ◌∷◌, Option, Some, None, Result, Ok, Err, slice_get}
use Rattle.dcx_math.specs.Rational.{neg_ℚ}
use Rattle.dcx_frac.specs.declared.fraction.Frac.{Frac}
use Rattle.dcx_frac.specs.declared.fraction.Passes.{Passes}
use Rattle.dcx_frac.specs.Frac.{value}
use Rattle.dcx_frac.specs.Results.{difference_of, product_of}
use Rattle.dcx_atom.specs.Formed.{one_frac, frac_at, and_then}
use Rattle.dcx_linear.specs.declared.row.RowKind.{RowKind}
use Rattle.dcx_linear.specs.declared.row.RowKind.TheVariants.{AtMost, Equal}
use Rattle.dcx_tab.specs.declared.rows.ColumnKind.{ColumnKind}
use Rattle.dcx_lp_answer.specs.declared.answer.LpStatus.{LpStatus}
use Rattle.dcx_lp_answer.specs.declared.answer.LpStatus.TheVariants.{Optimal, Infeasible, Unbounded}
use Rattle.dcx_lp_answer.specs.declared.answer.RowNote.{RowNote}
use Rattle.dcx_lp_answer.specs.declared.answer.LpAnswer.{LpAnswer}
use Rattle.dcx_lp_answer.specs.declared.stop.MultiplierStop.{MultiplierStop}
use Rattle.dcx_lp_answer.specs.declared.stop.MultiplierStop.TheVariants as stops
use Rattle.dcx_lp_answer.specs.Right.{is_inequality, multiplier_at}

-- a reduced cost, less 1 for an equality where the rows can't be solved
abbrev pub shifted : LpStatus → RowKind → Frac → Result Frac Passes
shifted Infeasible Equal x = difference_of x one_frac
shifted Infeasible AtMost x = Ok x
shifted Optimal kind x = Ok x
shifted Unbounded kind x = Ok x

-- negated, where the row is an equality that was negated
abbrev pub turned : RowKind → Bool → Frac → Frac
turned Equal true x = frac_at (neg_ℚ (value x))
turned Equal false x = x
turned AtMost negated x = x

-- the multiplier of a row of this kind, or the first operation that passes
abbrev pub multiplier_of : LpStatus → RowKind → RowNote → Result Frac Passes
multiplier_of status kind n = and_then (shifted status kind n.reduced_cost) (λ x. and_then (product_of n.factor x) (λ y. Ok (turned kind n.negated y)))

-- ---- of rows in order
-- the first that passes, where the first in the list has the number i
abbrev pub passing_from : {A : Type 0} → ℕ → List (Result A Passes) → Option (ℕ × Passes)
passing_from i [] = None
passing_from i (Ok x ∷ rs) = passing_from (suc i) rs
passing_from i (Err passes ∷ rs) = Some (i, passes)

-- the stop is the first multiplier that passes; want of memory is free
abbrev pub StopsAt : MultiplierStop → Option (ℕ × Passes) → Type 0
StopsAt (stops.Wide row passes) first = first ≡ Some (row, passes)
StopsAt stops.Memory first = ⊤

-- ---- what is formed
-- the row says that its form is at most 0
abbrev pub is_at_most : RowKind → Bool
is_at_most AtMost = true
is_at_most Equal = false

-- the multiplier of a row that is formed is the one that the meaning of right answers has
abbrev pub FormedIsRight : Type 0
FormedIsRight =
    (kinds : List ColumnKind) (a : LpAnswer) (i : ℕ) (n : RowNote) (kind : RowKind) (x : Frac)
    → slice_get a.rows i ≡ Some n → is_inequality kinds i ≡ is_at_most kind → multiplier_of a.status kind n ≡ Ok x → value x ≡ multiplier_at kinds a i
