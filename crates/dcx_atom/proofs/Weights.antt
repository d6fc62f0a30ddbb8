-- The weights of the rows of an entry, where each entry has as many rows.
use Rattle.std.proofs.Common.{◌≡◌, ℕ, zero, suc, ◌+◌, ◌*◌, ◌<◌, ◌≤◌, arith, List, length, length-take-le, length-drop, take, drop, sym, ap, ◌∙◌, Some}
use Rattle.std.proofs.Math.Nat.{mul-le-mul_right}
use Rattle.dcx_frac.specs.declared.fraction.Frac.{Frac}
use Rattle.dcx_shape.specs.declared.shape.Sides.{Sides}
use Rattle.dcx_atom.specs.declared.stops.SlopeStop.{SlopeStop}
use Rattle.dcx_atom.specs.declared.stops.SlopeStop.TheVariants as stops
use Rattle.dcx_atom.specs.Arrays.{number_at}
use Rattle.dcx_atom.specs.Meaning.{Meaning}
use Rattle.dcx_atom.specs.Steps.{entry_stop, rows_before, weights_of, IsSlopeStop}
use Rattle.dcx_atom.specs.Bounding.{HaveNoStop}
use Rattle.dcx_atom.proofs.BoundRows.{one_part_more}
use Rattle.dcx_atom.proofs.Lists.{number_at-drop, number_at-take}

-- the first stop of an entry is why there are no slopes, where no earlier entry has one
pub stop_at : (m : Meaning) (args : List Sides) (size : ℕ) (cs ws : List Frac) (stop : SlopeStop) (j : ℕ) → j < size → HaveNoStop m args j cs ws →
    entry_stop m args (number_at cs) (weights_of m args ws) j ≡ Some stop → IsSlopeStop m args size cs ws stop
stop_at m args size cs ws (stops.Refused entry stated found) j h none e = record { entry = j; is_entry = h; before = none; here = e }
stop_at m args size cs ws (stops.Passes passes) j h none e = record { entry = j; is_entry = h; before = none; here = e }
stop_at m args size cs ws stops.Memory j h none e = tt

-- the rows before an entry, where each has n
pub rows_before-same : (m : Meaning) (args : List Sides) (n : ℕ) → ((j : ℕ) → length (m.rows args j) ≡ n) → (j : ℕ) → rows_before m args j ≡ j * n
rows_before-same m args n each zero = omega arith
rows_before-same m args n each (suc j) = one_part_more (rows_before m args j) (length (m.rows args j)) j n (rows_before-same m args n each j) (each j)

-- the rows of an entry are among all rows
pub within_rows : (j n size : ℕ) → j < size → j * n + n ≤ size * n
within_rows j n size h = let e = mul-le-mul_right {m = suc j} {n = size} n (omega arith) in omega (arith, e)

-- its weights are as many as its rows
pub own_length : (ws : List Frac) (j n : ℕ) → j * n + n ≤ length ws → length (take n (drop (j * n) ws)) ≡ n
own_length ws j n h = length-take-le n (drop (j * n) ws) (omega (arith, length-drop (j * n) ws))

-- and the same numbers
pub own_weight : (m : Meaning) (args : List Sides) (ws : List Frac) (n j : ℕ) → rows_before m args j ≡ j * n → (r : ℕ) → r < n →
    number_at (take n (drop (j * n) ws)) r ≡ weights_of m args ws j r
own_weight m args ws n j e r h =
    number_at-take (drop (j * n) ws) n r h ∙ number_at-drop ws (j * n) r ∙ ap (λ k. number_at ws (k + r)) (sym e)
