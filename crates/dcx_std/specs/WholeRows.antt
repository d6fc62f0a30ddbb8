-- Rows of whole numbers: by what a row of fractions is multiplied and divided, and in which order its numbers are formed.
use Rattle.std.specs.Prelude.{ℕ, zero, suc, Bool, true, false, List, [], ◌∷◌, ◌++◌, map, Option, Some, None, Result, Ok, ℤ, pos}
use Rattle.std.specs.List.{range_with_len}
use Rattle.dcx_math.specs.Rational.{whole, neg_ℚ, ◌/ℚ◌}
use Rattle.dcx_math.specs.Divisors.{gcd_of, divided}
use Rattle.dcx_frac.specs.declared.fraction.Frac.{Frac}
use Rattle.dcx_frac.specs.declared.fraction.Passes.{Passes}
use Rattle.dcx_frac.specs.Frac.{value, num_of}
use Rattle.dcx_frac.specs.Results.{product_of}
use Rattle.dcx_atom.specs.Formed.{zero_frac, one_frac, frac_at, and_then}
use Rattle.dcx_linear.specs.declared.form.FormTerm.{FormTerm}
use Rattle.dcx_linear.specs.declared.form.Form.{Form}
use Rattle.dcx_linear.specs.declared.row.Row.{Row}
use Rattle.dcx_linear.specs.declared.row.RowKind.{RowKind}
use Rattle.dcx_linear.specs.declared.row.RowKind.TheVariants.{Equal}
use Rattle.dcx_linear.specs.Terms.{term_at}
use Rattle.dcx_linear.specs.FormTerms.{unknown_of, HoldsUnknowns}
use Rattle.dcx_std.specs.declared.whole.WholeRow.{WholeRow}
use Rattle.dcx_std.specs.Multiples.{multiple_of}

-- the form lists its unknowns rising, none with the coefficient 0
abbrev pub IsSparseForm : Form Frac → Type 0
IsSparseForm f = HoldsUnknowns (λ x. Some x) f.terms

-- ---- the numbers of a row
abbrev pub coefficient_or_zero : Option (FormTerm Frac) → Frac
coefficient_or_zero None = zero_frac
coefficient_or_zero (Some t) = t.coefficient

-- the coefficient of an unknown; 0 where the form does not list it
abbrev pub coefficient_at : List (FormTerm Frac) → ℕ → Frac
coefficient_at ts u = coefficient_or_zero (term_at unknown_of ts u)

-- the coefficients of the first n unknowns
abbrev pub coefficients : ℕ → Form Frac → List Frac
coefficients n f = map (coefficient_at f.terms) (range_with_len 0 n)

-- the number with its sign turned
abbrev pub opposite : Frac → Frac
opposite x = frac_at (neg_ℚ (value x))

-- the number, or with its sign turned
abbrev pub turned_frac : Bool → Frac → Frac
turned_frac true x = opposite x
turned_frac false x = x

-- the numbers of a row, its constant taken to the right: the coefficients, and the right side
abbrev pub row_numbers : ℕ → Form Frac → List Frac
row_numbers n f = coefficients n f ++ opposite f.constant ∷ []

-- the numbers of the row z - cost = constant: the coefficients of the unknowns, the right side, and the coefficient of z
abbrev pub cost_numbers : ℕ → Form Frac → List Frac
cost_numbers n f = map opposite (coefficients n f) ++ f.constant ∷ one_frac ∷ []

-- ---- the row made whole
-- the numerators of numbers that are formed one after the other, or the first operation that passes
abbrev pub numerators : List (Result Frac Passes) → Result (List ℤ) Passes
numerators [] = Ok []
numerators (r ∷ rs) = and_then r (λ x. and_then (numerators rs) (λ zs. Ok (num_of x ∷ zs)))

-- the product with the coefficient of an unknown, or with its opposite
abbrev pub product_with : Frac → Bool → List (FormTerm Frac) → ℕ → Result Frac Passes
product_with by is_turned ts u = product_of by (turned_frac is_turned (coefficient_at ts u))

abbrev pub or_one : ℕ → ℕ
or_one zero = 1
or_one (suc n) = suc n

-- what numbers are divided by: their greatest common divisor, or 1 where all are 0
abbrev pub divisor_of : List ℤ → ℕ
divisor_of zs = or_one (gcd_of zs)

-- the row of these numbers, which a row of fractions has become by multiplying with m, in lowest terms
abbrev pub lowest_row : RowKind → ℕ → List ℤ → WholeRow
lowest_row kind m zs = record { kind = kind; numbers = map (divided (divisor_of zs)) zs; factor = frac_at (whole (pos m) /ℚ whole (pos (divisor_of zs))) }

-- the numbers of a row with this form, each multiplied by the least common multiple of the form's denominators, and
-- the row divided by its greatest common divisor; or the first operation that passes
abbrev pub whole_row_of : RowKind → Form Frac → List Frac → Result WholeRow Passes
whole_row_of kind f numbers = and_then (multiple_of f) (λ m. and_then (numerators (map (product_of (frac_at (whole (pos m)))) numbers)) (λ zs. Ok (lowest_row kind m zs)))

-- a row of a program over n unknowns, made whole
abbrev pub row_made : ℕ → Row Frac → Result WholeRow Passes
row_made n r = whole_row_of r.kind r.form (row_numbers n r.form)

-- the row z - cost = constant over n unknowns, made whole
abbrev pub cost_made : ℕ → Form Frac → Result WholeRow Passes
cost_made n f = whole_row_of Equal f (cost_numbers n f)
