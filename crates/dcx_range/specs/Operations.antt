-- The operations that a range takes, in their order: the numbers that they form, or the first that passes 128 bits.
use Rattle.std.specs.Prelude.{ℕ, zero, suc, ◌+◌, Bool, true, false, nat_le, if◌then◌else◌, List, [], ◌∷◌, map, length, Option, Some, None, Result, Ok, pos}
use Rattle.dcx_math.specs.Rational.{whole, neg_ℚ, rat_le, rat_eq}
use Rattle.dcx_frac.specs.declared.fraction.Frac.{Frac}
use Rattle.dcx_frac.specs.declared.fraction.Passes.{Passes}
use Rattle.dcx_frac.specs.Frac.{value}
use Rattle.dcx_frac.specs.Results.{sum_of, difference_of, product_of, quotient_of}
use Rattle.dcx_atom.specs.Formed.{zero_frac, frac_at, and_then}
use Rattle.dcx_atom.specs.Entrywise.{products_from}
use Rattle.dcx_call.specs.declared.attribute.Attribute.{Attribute}
use Rattle.dcx_call.specs.declared.attribute.Attribute.TheVariants.{Free, Nonneg, Nonpos, Symmetric, Diag}
use Rattle.dcx_linear.specs.declared.param_form.ParamForm.{ParamForm}
use Rattle.dcx_linear.specs.declared.row.Row.{Row}
use Rattle.dcx_tab.specs.declared.rows.IntRow.{IntRow}
use Rattle.dcx_tab.specs.Rows.{basic_at}
use Rattle.dcx_tab.specs.Table.{Table, entry_at}
use Rattle.dcx_range.specs.Coefficients.{coefficient_of}
use Rattle.dcx_range.specs.declared.rates.Rate.{Rate}
use Rattle.dcx_range.specs.declared.ends.Ends.{Ends}
use Rattle.dcx_range.specs.declared.asked.Asked.{Asked}
use Rattle.dcx_answer.specs.declared.ranged.Ranged.{Ranged}
use Rattle.dcx_answer.specs.declared.ranged.Ranged.TheVariants.{Span}
use Rattle.dcx_std.specs.WholeRows.{opposite, turned_frac}

-- ---- the changes of the right sides
-- the change of a row, kept with its first basic column
abbrev pub kept_rate : IntRow → Frac → Rate
kept_rate int h = record { column = int.basic; change = h }

-- how the right side of an integer row changes, where its row has this constant: the factor, negated where the row was negated, times
-- the negated coefficient
abbrev pub rate_of : ℕ → ParamForm → IntRow → Result Rate Passes
rate_of k constant int = and_then (product_of (turned_frac int.negated int.factor) (opposite (coefficient_of k constant))) (λ h. Ok (kept_rate int h))

-- those of all rows, in order
abbrev pub rates_of : ℕ → List (Row ParamForm) → List IntRow → Result (List Rate) Passes
rates_of k [] ints = Ok []
rates_of k (row ∷ rows) [] = Ok []
rates_of k (row ∷ rows) (int ∷ ints) = and_then (rate_of k row.form.constant int) (λ h. and_then (rates_of k rows ints) (λ hs. Ok (h ∷ hs)))

-- how the right side of row i of the tableau changes: the sum from 0, rows rising, of the changes times the entries of row i at the
-- rows' first basic columns
abbrev pub factors_at : Table → ℕ → Rate → Frac × Frac
factors_at t i h = (h.change, frac_at (whole (entry_at t i h.column)))

abbrev pub change_at : Table → ℕ → List Rate → Result Frac Passes
change_at t i hs = products_from zero_frac (map (factors_at t i) hs)

-- ---- the ends
-- the greater of the lower ends so far and x, and the lesser of the upper ends so far and x
abbrev pub greater : Option Frac → Frac → Frac
greater None x = x
greater (Some y) x = if rat_le (value x) (value y) then y else x

abbrev pub lesser : Option Frac → Frac → Frac
lesser None x = x
lesser (Some y) x = if rat_le (value y) (value x) then y else x

abbrev pub from_on : Frac → Ends → Ends
from_on x e = record { low = Some (greater e.low x); high = e.high }

abbrev pub up_to : Frac → Ends → Ends
up_to x e = record { low = e.low; high = Some (lesser e.high x) }

-- an end at x: an upper one where the right side falls with the parameter, and else a lower one
abbrev pub with_end : Frac → Frac → Ends → Ends
with_end change x e = if rat_le (value change) (value zero_frac) then up_to x e else from_on x e

-- where the right side becomes 0: the parameter's value, less the quotient of the right side by its change
abbrev pub zero_of : Frac → Frac → Frac → Result Frac Passes
zero_of at right change = and_then (quotient_of right change) (λ y. difference_of at y)

-- the ends that row i gives besides, whose right side changes so: none where it doesn't change, the value itself where its basic
-- column is an artificial, and else the one where it becomes 0
abbrev pub ends_by : Table → ℕ → Frac → Frac → Ends → Bool → Bool → Result Ends Passes
ends_by t i at change e true artificial = Ok e
ends_by t i at change e false true = Ok (up_to at (from_on at e))
ends_by t i at change e false false = and_then (zero_of at (frac_at (whole (entry_at t i (t.columns + 2)))) change) (λ x. Ok (with_end change x e))

abbrev pub row_ends : Table → ℕ → Frac → Frac → Ends → Result Ends Passes
row_ends t i at change e = ends_by t i at change e (rat_eq (value change) (whole (pos 0))) (nat_le t.plain (basic_at t.basis i))

-- its change is formed first
abbrev pub next_ends : Table → List Rate → Frac → ℕ → Ends → Result Ends Passes
next_ends t hs at i e = and_then (change_at t i hs) (λ d. row_ends t i at d e)

-- those of n rows from row i on, in order, each of which is done before the next
abbrev pub ends_from : Table → List Rate → Frac → ℕ → ℕ → Ends → Result Ends Passes
ends_from t hs at i zero e = Ok e
ends_from t hs at i (suc n) e = and_then (next_ends t hs at i e) (λ f. ends_from t hs at (suc i) n f)

abbrev pub no_ends : Ends
no_ends = record { low = None; high = None }

-- and the end that the parameter's sign gives
abbrev pub sign_ends : Attribute → Ends → Ends
sign_ends Free e = e
sign_ends Nonneg e = from_on zero_frac e
sign_ends Nonpos e = up_to zero_frac e
sign_ends Symmetric e = e
sign_ends Diag e = e

-- ---- the value
-- how the cost changes: the change of row i, which is the objective row, over its entry of z, and the coefficient in the constant
abbrev pub slope_of : Table → List Rate → ℕ → Frac → Result Frac Passes
slope_of t hs i coefficient = and_then (change_at t i hs) (λ d. and_then (quotient_of d (frac_at (whole (entry_at t i t.columns)))) (λ y. sum_of y coefficient))

-- the value where the parameter is 0
abbrev pub constant_of : Frac → Frac → Frac → Result Frac Passes
constant_of number slope at = and_then (product_of slope at) (λ y. difference_of number y)

abbrev pub span : Ends → Frac → Frac → Ranged
span e constant slope = Span e.low e.high constant slope

-- ---- all of them
-- what a range is asked of, the tableau of the last basis, the coefficient in the constant of the objective, and the value of the
-- problem there: first the ends, row by row, then the slope, and the value where the parameter is 0; n counts the rows
abbrev pub finished : Table → List Rate → ℕ → Frac → Asked → Frac → Result Ranged Passes
finished t hs n coefficient asked number =
    and_then (ends_from t hs asked.at 0 n no_ends) (λ e.
    and_then (slope_of t hs n coefficient) (λ slope.
    and_then (constant_of number slope asked.at) (λ constant. Ok (span (sign_ends asked.attribute e) constant slope))))

-- before them the changes of the rows: those of a scaled program, made of these rows with affine coefficients
abbrev pub operations : Table → List IntRow → List (Row ParamForm) → ParamForm → Asked → Frac → Result Ranged Passes
operations t ints rows objective asked number = and_then (rates_of asked.position rows ints) (λ hs. finished t hs (length ints) (coefficient_of asked.position objective) asked number)
