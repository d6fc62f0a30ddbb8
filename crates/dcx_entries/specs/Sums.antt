-- What adding a part answers.
use Rattle.std.specs.Prelude.{◌≡◌, List, [], ◌∷◌, Option, Result, Ok}
use Rattle.dcx_frac.specs.declared.fraction.Frac.{Frac}
use Rattle.dcx_frac.specs.declared.fraction.Passes.{Passes}
use Rattle.dcx_linear.specs.declared.change.Change.{Change}
use Rattle.dcx_linear.specs.declared.form.Form.{Form}
use Rattle.dcx_linear.specs.Forms.{sum_gives_linear}
use Rattle.dcx_linear.specs.Parts.{Follows, adds_part}
use Rattle.dcx_linear.specs.Multiples.{multiple_gives}
use Rattle.dcx_affine.specs.declared.pairing.Pair.{Pair}
use Rattle.dcx_entries.specs.declared.scaling.Scaling.{Scaling}
use Rattle.dcx_entries.specs.declared.scaling.Scaling.TheVariants.{LeftNumber, RightNumber, LeftAffine, RightAffine, Divisor}
use Rattle.dcx_entries.specs.Parts.{Arguments, left_scaled, right_scaled, divided}

-- what adding a part to a form answers
abbrev pub adds : {C : Type 0} → (C → Option Frac) → (C → C → Result C Passes → Type 0) → (Change → C → Result C Passes → Type 0) → Change × Form C → Form C → Result (Form C) Passes → Type 0
adds number_of Sums Changes part so_far = adds_part number_of Sums Changes so_far part.0 part.1

-- what adding an affine number times a form of numbers to a form answers
abbrev pub adds_multiple : {C : Type 0} → (C → Option Frac) → (C → C → Result C Passes → Type 0) → (Change → C → Result C Passes → Type 0) → C → Form C → Form C → Result (Form C) Passes → Type 0
adds_multiple number_of Sums Changes c f so_far = Follows (multiple_gives number_of Changes c f) (sum_gives_linear number_of Sums so_far)

-- what adding a pair of a product or a quotient answers
abbrev pub adds_pair : {C : Type 0} → (C → Option Frac) → (C → C → Result C Passes → Type 0) → (Change → C → Result C Passes → Type 0) → Scaling → Arguments C → Pair → Form C
    → Result (Form C) Passes → Type 0
adds_pair number_of Sums Changes LeftNumber args x so_far r = adds number_of Sums Changes (left_scaled number_of args x) so_far r
adds_pair number_of Sums Changes RightNumber args x so_far r = adds number_of Sums Changes (right_scaled number_of args x) so_far r
adds_pair number_of Sums Changes LeftAffine args x so_far r = adds_multiple number_of Sums Changes (args 0 x.left).constant (args 1 x.right) so_far r
adds_pair number_of Sums Changes RightAffine args x so_far r = adds_multiple number_of Sums Changes (args 1 x.right).constant (args 0 x.left) so_far r
adds_pair number_of Sums Changes Divisor args x so_far r = adds number_of Sums Changes (divided number_of args x) so_far r

-- what adding many things, one after the other, answers, where Add says what adding one of them does
abbrev pub adds_each : {T S : Type 0} → (T → S → Result S Passes → Type 0) → List T → S → Result S Passes → Type 0
adds_each Add [] so_far r = r ≡ Ok so_far
adds_each Add (x ∷ xs) so_far r = Follows (Add x so_far) (λ s q. adds_each Add xs s q) r
