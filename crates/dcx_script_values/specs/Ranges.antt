-- What a range must be: each of its numbers is a whole number of 128 bits.
use Rattle.std.specs.Prelude.{ℕ, ◌<◌, ℤ, pos, ◌+ℤ◌, ◌*ℤ◌}
use Rattle.dcx_frac.specs.Fits.{Fits}

-- first, first + step, .., so many, all fit
abbrev pub AreInside : ℤ → ℤ → ℕ → Type 0
AreInside first step count = (k : ℕ) → k < count → Fits (first +ℤ pos k *ℤ step)
