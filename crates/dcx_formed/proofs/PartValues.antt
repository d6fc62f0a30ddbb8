-- The numbers that the forms of numbers, of unknowns and of sums of parts are.
use Rattle.std.proofs.Common.{◌≡◌, ℕ, ◌+◌, List, [], ◌∷◌, map, Option, Some, None, Result, Ok, refl, ap, ap₂, ◌∙◌, pos}
use Rattle.std.specs.List.{AllByRecursion}
use Rattle.dcx_math.specs.Rational.{ℚ, whole, ◌+ℚ◌, ◌*ℚ◌}
use Rattle.dcx_math.proofs.Orders.{+ℚ_idl, +ℚ_idr, *ℚ_idl}
use Rattle.dcx_frac.specs.declared.fraction.Frac.{Frac}
use Rattle.dcx_frac.specs.declared.fraction.Passes.{Passes}
use Rattle.dcx_frac.specs.Frac.{value}
use Rattle.dcx_atom.specs.Formed.{zero_frac, one_frac}
use Rattle.dcx_atom.specs.Linear.{LinearTerm, terms_at}
use Rattle.dcx_atom.specs.Rows.{RowTerm, FormTerm, operand_at, row_at, form_at}
use Rattle.dcx_atom.specs.declared.graph.Operand.{Operand}
use Rattle.dcx_atom.specs.declared.graph.Operand.TheVariants.{Argument, Aux}
use Rattle.dcx_atom.proofs.FormedSums.{value-zero_frac}
use Rattle.dcx_atom.proofs.Fractions.{value-frac_at, value-one_frac}
use Rattle.dcx_linear.specs.declared.change.Change.{Change}
use Rattle.dcx_linear.specs.declared.form.Form.{Form}
use Rattle.dcx_linear.specs.Parameters.{Parameters}
use Rattle.dcx_linear.specs.FormTerms.{Unknowns}
use Rattle.dcx_linear.specs.Forms.{linear_value, is_constant, sum_gives_linear, change_gives_linear}
use Rattle.dcx_linear.specs.Changes.{changed}
use Rattle.dcx_linear.specs.FormLaws.{linear_sum_value, linear_change_value}
use Rattle.dcx_linear.specs.Parts.{sums_parts, parts_value}
use Rattle.dcx_linear.proofs.PartSums.{parts_sum_value}
use Rattle.dcx_unknowns.specs.Unknowns.{number_at}
use Rattle.dcx_entries.specs.Parts.{Arguments, zero_form, unknown_form, form_of_unknown, term_part, aux_part, operand_form, row_part}
use Rattle.dcx_call.proofs.Coefficients.{FitsIn}
use Rattle.dcx_atom.specs.Fractions.{FitsRow, FitsFormTerm}
use Rattle.dcx_formed.proofs.Coefs.{AreCoefs}

module _ {C : Type 0} (value_at : C → Parameters → ℚ) (of_number : Frac → C) (number_of : C → Option Frac) (Sums : C → C → Result C Passes → Type 0) (Changes : Change → C → Result C Passes → Type 0)
    (laws : AreCoefs value_at of_number number_of Sums Changes) (u : Unknowns) (params : Parameters) where
  -- the number that a form is
  abbrev pub form_number : Form C → ℚ
  form_number f = linear_value value_at f u params

  -- ---- numbers and unknowns
  pub constant_is : (c : C) → form_number (is_constant c) ≡ value_at c params
  constant_is c = +ℚ_idr (value_at c params)

  pub number_is : (x : Frac) → form_number (is_constant (of_number x)) ≡ value x
  number_is x = constant_is (of_number x) ∙ laws.number_value x params

  pub zero_is : form_number (zero_form of_number) ≡ whole (pos 0)
  zero_is = number_is zero_frac ∙ value-zero_frac

  pub unknown_is : (n : ℕ) → form_number (unknown_form of_number n) ≡ u n
  unknown_is n =
      ap₂ ◌+ℚ◌ (laws.number_value zero_frac params ∙ value-zero_frac)
      (+ℚ_idr (value_at (of_number one_frac) params *ℚ u n)
      ∙ ap (λ y. y *ℚ u n) (laws.number_value one_frac params ∙ value-one_frac) ∙ *ℚ_idl (u n))
      ∙ +ℚ_idl (u n)

  pub unknown_or_zero : (o : Option ℕ) → form_number (form_of_unknown of_number o) ≡ number_at u o
  unknown_or_zero None = zero_is
  unknown_or_zero (Some n) = unknown_is n

  -- ---- sums
  pub sum_is : (f g h : Form C) → sum_gives_linear number_of Sums f g (Ok h) → form_number h ≡ form_number f +ℚ form_number g
  sum_is = linear_sum_value value_at number_of laws.told_value u params Sums (λ a b c e. laws.sum_value a b c params e)

  pub change_is : (change : Change) (f h : Form C) → change_gives_linear number_of Changes change f (Ok h) → form_number h ≡ changed change (form_number f)
  change_is = linear_change_value value_at number_of laws.told_value u params Changes (λ change a c e. laws.change_value change a c params e)

  pub parts_are : (parts : List (Change × Form C)) (f : Form C) → sums_parts of_number number_of Sums Changes parts (Ok f) → form_number f ≡ parts_value value_at parts u params
  parts_are parts f h =
      parts_sum_value number_of Sums Changes value_at u params sum_is change_is parts (zero_form of_number) f h
      ∙ ap (λ y. y +ℚ parts_value value_at parts u params) zero_is ∙ +ℚ_idl (parts_value value_at parts u params)

  -- ---- the parts of calls
  pub terms_are : (args : Arguments C) (ts : List LinearTerm) → AllByRecursion FitsIn ts → parts_value value_at (map (term_part args) ts) u params ≡ terms_at ts (λ k e. form_number (args k e))
  terms_are args [] h = refl
  terms_are args (t ∷ ts) h = ap₂ (λ x y. x *ℚ form_number (args t.argument t.entry) +ℚ y) (value-frac_at t.coefficient h.0) (terms_are args ts h.1)

  pub result_is : (first : ℕ) (ts : List FormTerm) → AllByRecursion FitsFormTerm ts → parts_value value_at (map (aux_part of_number first) ts) u params ≡ form_at ts (λ k. u (first + k))
  result_is first [] h = refl
  result_is first (t ∷ ts) h = ap₂ ◌+ℚ◌ (ap₂ ◌*ℚ◌ (value-frac_at t.coefficient h.0) (unknown_is (first + t.aux))) (result_is first ts h.1)

  operand_is : (args : Arguments C) (first : ℕ) (o : Operand) → form_number (operand_form of_number args first o) ≡ operand_at o (λ k e. form_number (args k e)) (λ k. u (first + k))
  operand_is args first (Argument k e) = refl
  operand_is args first (Aux k) = unknown_is (first + k)

  pub row_is : (args : Arguments C) (first : ℕ) (ts : List RowTerm) → FitsRow ts
      → parts_value value_at (map (row_part of_number args first) ts) u params ≡ row_at ts (λ k e. form_number (args k e)) (λ k. u (first + k))
  row_is args first [] h = refl
  row_is args first (t ∷ ts) h = ap₂ ◌+ℚ◌ (ap₂ ◌*ℚ◌ (value-frac_at t.coefficient h.0) (operand_is args first t.operand)) (row_is args first ts h.1)
