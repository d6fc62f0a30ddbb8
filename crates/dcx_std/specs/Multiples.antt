-- The least common multiple of the denominators of a form, as it is formed.
use Rattle.std.specs.Prelude.{ℕ, ◌^◌, nat_lt, if◌then◌else◌, List, [], ◌∷◌, ◌++◌, map, Result, Ok, Err, pos, unsigned_abs}
use Rattle.dcx_math.specs.Rational.{whole}
use Rattle.dcx_math.specs.Divisors.{lcm}
use Rattle.dcx_frac.specs.declared.fraction.Frac.{Frac}
use Rattle.dcx_frac.specs.declared.fraction.Op.TheVariants.{Lcm}
use Rattle.dcx_frac.specs.declared.fraction.Passes.{Passes}
use Rattle.dcx_frac.specs.Frac.{den_of}
use Rattle.dcx_atom.specs.Formed.{frac_at, and_then}
use Rattle.dcx_linear.specs.declared.form.Form.{Form}

-- the least common multiple of a and b, or what was asked where it passes
abbrev pub lcm_gives : ℕ → ℕ → Result ℕ Passes
lcm_gives a b = if nat_lt (lcm a b) (2 ^ 127) then Ok (lcm a b) else Err (record { op = Lcm; left = frac_at (whole (pos a)); right = frac_at (whole (pos b)) })

-- the least common multiple of a and these numbers, one after another
abbrev pub multiple_from : ℕ → List ℕ → Result ℕ Passes
multiple_from a [] = Ok a
multiple_from a (b ∷ bs) = and_then (lcm_gives a b) (λ c. multiple_from c bs)

abbrev pub denominator_of : Frac → ℕ
denominator_of x = unsigned_abs (den_of x)

-- the denominators of the coefficients, unknowns rising, and of the constant
abbrev pub denominators : Form Frac → List ℕ
denominators f = map (λ t. denominator_of t.coefficient) f.terms ++ denominator_of f.constant ∷ []

-- the least common multiple of all denominators, from 1 on
abbrev pub multiple_of : Form Frac → Result ℕ Passes
multiple_of f = multiple_from 1 (denominators f)
