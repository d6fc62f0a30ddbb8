-- Sums of many forms, each multiplied or divided first.
use Rattle.std.specs.Prelude.{◌≡◌, ◌⊎◌, ℕ, List, [], ◌∷◌, Option, Result, Ok, Err}
use Rattle.dcx_math.specs.Rational.{ℚ}
use Rattle.dcx_math.specs.Sums.{rat_sum_by}
use Rattle.dcx_frac.specs.declared.fraction.Frac.{Frac}
use Rattle.dcx_frac.specs.declared.fraction.Passes.{Passes}
use Rattle.dcx_atom.specs.Formed.{zero_frac}
use Rattle.dcx_linear.specs.declared.change.Change.{Change}
use Rattle.dcx_linear.specs.declared.form.Form.{Form}
use Rattle.dcx_linear.specs.Changes.{changed}
use Rattle.dcx_linear.specs.Parameters.{Parameters}
use Rattle.dcx_linear.specs.FormTerms.{Unknowns}
use Rattle.dcx_linear.specs.Widths.{form_width}
use Rattle.dcx_linear.specs.Forms.{linear_value, is_constant, sum_gives_linear, change_gives_linear}

-- what an operation, and then another one on what it gives, answer
abbrev pub Follows : {A B : Type 0} → (Result A Passes → Type 0) → (A → Result B Passes → Type 0) → Result B Passes → Type 0
Follows {A} First Second (Ok y) = (x : A) × First (Ok x) × Second x (Ok y)
Follows {A} First Second (Err passes) = First (Err passes) ⊎ ((x : A) × First (Ok x) × Second x (Err passes))

-- what adding a part to a form answers: the part is changed whole, and then added
abbrev pub adds_part : {C : Type 0} → (C → Option Frac) → (C → C → Result C Passes → Type 0) → (Change → C → Result C Passes → Type 0) → Form C → Change → Form C → Result (Form C) Passes → Type 0
adds_part number_of Sums Changes so_far change f = Follows (change_gives_linear number_of Changes change f) (sum_gives_linear number_of Sums so_far)

-- what adding parts, one after the other, answers
abbrev pub adds_parts : {C : Type 0} → (C → Option Frac) → (C → C → Result C Passes → Type 0) → (Change → C → Result C Passes → Type 0) → List (Change × Form C) → Form C → Result (Form C) Passes
    → Type 0
adds_parts number_of Sums Changes [] so_far r = r ≡ Ok so_far
adds_parts number_of Sums Changes (p ∷ ps) so_far r = Follows (adds_part number_of Sums Changes so_far p.0 p.1) (λ g s. adds_parts number_of Sums Changes ps g s) r

-- the same from the form 0 on
abbrev pub sums_parts : {C : Type 0} → (Frac → C) → (C → Option Frac) → (C → C → Result C Passes → Type 0) → (Change → C → Result C Passes → Type 0) → List (Change × Form C)
    → Result (Form C) Passes → Type 0
sums_parts of_number number_of Sums Changes ps r = adds_parts number_of Sums Changes ps (is_constant (of_number zero_frac)) r

-- the number that a part is
abbrev pub part_value : {C : Type 0} → (C → Parameters → ℚ) → Unknowns → Parameters → Change × Form C → ℚ
part_value value_at x p part = changed part.0 (linear_value value_at part.1 x p)

-- the sum of the numbers that the parts are
abbrev pub parts_value : {C : Type 0} → (C → Parameters → ℚ) → List (Change × Form C) → Unknowns → Parameters → ℚ
parts_value value_at ps x p = rat_sum_by (part_value value_at x p) ps

abbrev pub part_width : {C : Type 0} → Change × Form C → ℕ
part_width part = form_width part.1
