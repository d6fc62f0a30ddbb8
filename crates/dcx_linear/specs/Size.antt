-- How many columns unknowns have in a program of numbers that are at least 0, and counts within 32 bits.
use Rattle.std.specs.Prelude.{ℕ, min}
use Rattle.dcx_linear.specs.declared.row.UnknownKind.{UnknownKind}
use Rattle.dcx_linear.specs.declared.row.UnknownKind.TheVariants.{Free, Nonneg, Nonpos}

-- the columns of an unknown: two where it is free, for what is above and what is below 0
abbrev pub columns_for : UnknownKind → ℕ
columns_for Free = 2
columns_for Nonneg = 1
columns_for Nonpos = 1

-- the number, or 4,294,967,295 where it is more
abbrev pub capped : ℕ → ℕ
capped n = min n 4294967295
