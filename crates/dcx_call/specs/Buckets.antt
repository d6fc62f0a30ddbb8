-- Numbers that equal calls share, by which a tree finds them.
use Rattle.std.specs.Prelude.{ℕ, ◌+◌, ◌*◌, ◌%◌, ◌^◌, List, [], ◌∷◌, unsigned_abs}
use Rattle.dcx_frac.specs.declared.fraction.Frac.{Frac}
use Rattle.dcx_frac.specs.Frac.{num_of, den_of}
use Rattle.dcx_call.specs.declared.linears.LinearCall.{LinearCall}
use Rattle.dcx_call.specs.declared.linears.LinearCall.TheVariants.{Index}
use Rattle.dcx_call.specs.declared.call.Call.{Call}
use Rattle.dcx_call.specs.declared.call.Call.TheVariants as calls

-- one more number, mixed with those before it
abbrev pub mixed : ℕ → ℕ → ℕ
mixed n x = (n * 1000003 + x) % 4294967291

-- a list, each item mixed with those before it
abbrev pub all_mixed : ℕ → List ℕ → ℕ
all_mixed n [] = n
all_mixed n (x ∷ xs) = all_mixed (mixed n x) xs

-- the lower part of the numerator, and of the denominator
abbrev pub fraction_mixed : ℕ → Frac → ℕ
fraction_mixed n x = mixed (mixed n (unsigned_abs (num_of x) % 2 ^ 32)) (unsigned_abs (den_of x) % 2 ^ 32)

abbrev pub fractions_mixed : ℕ → List Frac → ℕ
fractions_mixed n [] = n
fractions_mixed n (x ∷ xs) = fractions_mixed (fraction_mixed n x) xs

-- of a linear call, by the places of an index
abbrev pub linear_number : LinearCall → ℕ
linear_number (Index x) = all_mixed 0 x.places
linear_number _ = 1

-- of a call, by all that its name or its numbers have
abbrev pub bucket_number : Call → ℕ
bucket_number (calls.Variable v) = all_mixed 0 v.name
bucket_number (calls.Parameter p) = all_mixed 0 p.name
bucket_number (calls.Constant x) = fractions_mixed 0 x.entries
bucket_number (calls.Atom a) = 2
bucket_number (calls.Linear l) = linear_number l
bucket_number (calls.Pairing p) = 3
