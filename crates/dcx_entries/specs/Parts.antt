-- What the form of a node's entry is the sum of: parts in the order of the tables of calls. A part is a form that is multiplied or
-- divided by a fraction, or a form of numbers times which an affine number is taken.
use Rattle.std.specs.Prelude.{ℕ, ◌+◌, Bool, false, [], ◌∷◌, Option, Some, None, unwrap_or}
use Rattle.dcx_frac.specs.declared.fraction.Frac.{Frac}
use Rattle.dcx_atom.specs.declared.graph.Operand.{Operand}
use Rattle.dcx_atom.specs.declared.graph.Operand.TheVariants.{Argument, Aux}
use Rattle.dcx_atom.specs.Formed.{zero_frac, one_frac, frac_at}
use Rattle.dcx_atom.specs.Rows.{RowTerm, FormTerm}
use Rattle.dcx_atom.specs.Linear.{LinearTerm}
use Rattle.dcx_affine.specs.declared.pairing.Pair.{Pair}
use Rattle.dcx_linear.specs.declared.change.Change.{Change}
use Rattle.dcx_linear.specs.declared.change.Change.TheVariants.{Scale, Divide}
use Rattle.dcx_linear.specs.declared.form.Form.{Form}
use Rattle.dcx_linear.specs.Changes.{zero_test}
use Rattle.dcx_linear.specs.Forms.{is_constant}
use Rattle.dcx_entries.specs.declared.scaling.Scaling.{Scaling}
use Rattle.dcx_entries.specs.declared.scaling.Scaling.TheVariants.{LeftNumber, RightNumber, LeftAffine, RightAffine, Divisor}

-- ---- forms
-- 0 as a form
abbrev pub zero_form : {C : Type 0} → (Frac → C) → Form C
zero_form of_number = is_constant (of_number zero_frac)

-- an unknown as a form
abbrev pub unknown_form : {C : Type 0} → (Frac → C) → ℕ → Form C
unknown_form of_number n = record { constant = of_number zero_frac; terms = record { unknown = n; coefficient = of_number one_frac } ∷ [] }

-- an unknown, or 0 where there is none
abbrev pub form_of_unknown : {C : Type 0} → (Frac → C) → Option ℕ → Form C
form_of_unknown of_number None = zero_form of_number
form_of_unknown of_number (Some n) = unknown_form of_number n

-- the forms of the arguments of a node, by argument and entry
abbrev pub Arguments : Type 0 → Type 0
Arguments C = ℕ → ℕ → Form C

-- ---- parts of linear calls and graphs
-- an entry of a linear call
abbrev pub term_part : {C : Type 0} → Arguments C → LinearTerm → Change × Form C
term_part args t = (Scale (frac_at t.coefficient), args t.argument t.entry)

-- a result of a graph whose auxiliary unknowns begin with `first`
abbrev pub aux_part : {C : Type 0} → (Frac → C) → ℕ → FormTerm → Change × Form C
aux_part of_number first t = (Scale (frac_at t.coefficient), unknown_form of_number (first + t.aux))

-- what a term of a row multiplies
abbrev pub operand_form : {C : Type 0} → (Frac → C) → Arguments C → ℕ → Operand → Form C
operand_form of_number args first (Argument k e) = args k e
operand_form of_number args first (Aux k) = unknown_form of_number (first + k)

-- a row of a graph
abbrev pub row_part : {C : Type 0} → (Frac → C) → Arguments C → ℕ → RowTerm → Change × Form C
row_part of_number args first t = (Scale (frac_at t.coefficient), operand_form of_number args first t.operand)

-- ---- pairs of products and quotients
-- the number that a form is whose constant is one and that has no unknowns
abbrev pub number_in : {C : Type 0} → (C → Option Frac) → Form C → Frac
number_in number_of f = unwrap_or (number_of f.constant) zero_frac

-- a pair whose left or right side is a number, times which the other side is taken
abbrev pub left_scaled : {C : Type 0} → (C → Option Frac) → Arguments C → Pair → Change × Form C
left_scaled number_of args x = (Scale (number_in number_of (args 0 x.left)), args 1 x.right)

abbrev pub right_scaled : {C : Type 0} → (C → Option Frac) → Arguments C → Pair → Change × Form C
right_scaled number_of args x = (Scale (number_in number_of (args 1 x.right)), args 0 x.left)

-- a pair whose right side is a number that divides
abbrev pub divided : {C : Type 0} → (C → Option Frac) → Arguments C → Pair → Change × Form C
divided number_of args x = (Divide (number_in number_of (args 1 x.right)), args 0 x.left)

-- that number is 0
abbrev pub has_zero_divisor : {C : Type 0} → (C → Option Frac) → Scaling → Arguments C → Pair → Bool
has_zero_divisor number_of LeftNumber args x = false
has_zero_divisor number_of RightNumber args x = false
has_zero_divisor number_of LeftAffine args x = false
has_zero_divisor number_of RightAffine args x = false
has_zero_divisor number_of Divisor args x = zero_test (number_in number_of (args 1 x.right))
