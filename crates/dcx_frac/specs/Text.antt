-- The text of a fraction.
use Rattle.std.specs.Prelude.{ℕ, pos, List, ◌∷◌, ◌++◌, if◌then◌else◌}
use Rattle.std.specs.Ordering.{int_eq}
use Rattle.std.specs.Fmt.{signed_decimal}
use Rattle.dcx_frac.specs.declared.fraction.Frac.{Frac}
use Rattle.dcx_frac.specs.Frac.{num_of, den_of}

-- n where the denominator is 1, and else n/d
abbrev pub frac_text : Frac → List ℕ
frac_text f = if int_eq (den_of f) (pos 1) then signed_decimal (num_of f) else signed_decimal (num_of f) ++ 47 ∷ signed_decimal (den_of f)
