-- Forming one entry in 128 bits: sums of products in order, and quotients, up to the first operation that stops.
use Rattle.std.specs.Prelude.{ℕ, if◌then◌else◌, List, map, Result, Ok, Err, ⊤, pos}
use Rattle.dcx_math.specs.Rational.{ℚ, whole, rat_eq}
use Rattle.dcx_frac.specs.declared.fraction.Frac.{Frac}
use Rattle.dcx_frac.specs.declared.fraction.Passes.{Passes}
use Rattle.dcx_frac.specs.Results.{quotient_of}
use Rattle.dcx_atom.specs.declared.stops.ValueStop.{ValueStop}
use Rattle.dcx_atom.specs.declared.stops.ValueStop.TheVariants as stops
use Rattle.dcx_atom.specs.Formed.{zero_frac, frac_at}
pub use Rattle.dcx_atom.specs.Entrywise.{added_product, products_from, AreFormed, IsFirst}

-- the fractions of two factors
abbrev pub factors_at : ℚ × ℚ → Frac × Frac
factors_at f = (frac_at f.0, frac_at f.1)

-- 0 + x1 * y1 + x2 * y2 + .., from the left
abbrev pub products_in_order : List (ℚ × ℚ) → Result Frac Passes
products_in_order fs = products_from zero_frac (map factors_at fs)

-- entry j, or its first operation that passes
abbrev pub or_passes : ℕ → Result Frac Passes → Result Frac ValueStop
or_passes j (Ok x) = Ok x
or_passes j (Err passes) = Err (stops.Passes j passes)

-- entry j of a quotient; a divisor of 0 stops before anything is formed
abbrev pub divided : ℕ → ℚ → ℚ → Result Frac ValueStop
divided j x y = if rat_eq y (whole (pos 0)) then Err (stops.ZeroDivisor j) else or_passes j (quotient_of (frac_at x) (frac_at y))

-- why entries aren't formed: the first stop, or want of memory
abbrev pub IsStop : (ℕ → Result Frac ValueStop) → ℕ → ValueStop → Type 0
IsStop formed size (stops.Passes entry passes) = IsFirst formed size (stops.Passes entry passes)
IsStop formed size (stops.ZeroDivisor entry) = IsFirst formed size (stops.ZeroDivisor entry)
IsStop formed size stops.Memory = ⊤
