-- The numbers of an array that may be missing.
use Rattle.std.specs.Prelude.{ℕ, [], Option, option_map}
use Rattle.std.specs.Option.{unwrap_or}
use Rattle.dcx_math.specs.Rational.{ℚ}
use Rattle.dcx_atom.specs.declared.array.Array.{Array}
use Rattle.dcx_atom.specs.Arrays.{number_at}

-- entry j of the array; 0 past its end, and where there is none
abbrev pub number_if : Option Array → ℕ → ℚ
number_if o j = number_at (unwrap_or (option_map (λ x. x.entries) o) []) j
