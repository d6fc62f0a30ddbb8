-- What stands at a place of a list that is made of another one, and forms of one unknown.
use Rattle.std.proofs.Common.{◌≡◌, ℕ, ◌+◌, ◌^◌, ◌<◌, List, map, length, get_or, slice_index_or, refl, sym, ap, ◌∙◌, pos}
use Rattle.std.specs.List.{All}
use Rattle.std.proofs.lemmas.List.{get_or-map}
use Rattle.dcx_math.specs.Rational.{whole}
use Rattle.dcx_frac.specs.declared.fraction.Frac.{Frac}
use Rattle.dcx_frac.specs.Frac.{value}
use Rattle.dcx_atom.specs.declared.graph.GraphRow.{GraphRow}
use Rattle.dcx_atom.specs.declared.graph.AuxTerm.{AuxTerm}
use Rattle.dcx_atom.specs.Graph.{row_term}
use Rattle.dcx_atom.specs.Formed.{one_frac, frac_at}
use Rattle.dcx_atom.proofs.FormedSums.{frac_at-value}
use Rattle.dcx_linear.specs.declared.change.Change.{Change}
use Rattle.dcx_linear.specs.declared.form.Form.{Form}
use Rattle.dcx_linear.specs.Forms.{IsUnknownForm}
use Rattle.dcx_entries.specs.Parts.{Arguments, unknown_form, row_part}
use Rattle.dcx_entries.specs.Standing.{IsOperand}

-- what stands at a place of the other list
pub at_place : {X Y : Type 0} (f : X → Y) (xs : List X) (i : ℕ) (x : X) (e : Y) → i < length xs → x ≡ get_or xs i x → slice_index_or (map f xs) i e ≡ f x
at_place f xs i x e lt is = get_or-map f xs i x e lt ∙ ap f (sym is)

-- there is one fraction 1
one_is : (one : Frac) → value one ≡ whole (pos 1) → one ≡ one_frac
one_is one e = sym (frac_at-value one) ∙ ap frac_at e

-- an unknown is one form
pub unknown_is : {C : Type 0} (of_number : Frac → C) (n : ℕ) (f : Form C) → IsUnknownForm of_number n f → f ≡ unknown_form of_number n
unknown_is of_number n f h = rw (h.is, one_is h.one h.is_one) refl

-- what a row is the sum of, where the terms of the row are those of code
abbrev pub parts_of_row : {C : Type 0} → (Frac → C) → Arguments C → ℕ → GraphRow → List (Change × Form C)
parts_of_row of_number args first r = map (row_part of_number args first) (map row_term r.terms)

-- each auxiliary unknown of a row has a number
abbrev pub RowIsThere : ℕ → GraphRow → Type 0
RowIsThere first r = All (λ t. IsOperand first t.operand) r.terms

-- an auxiliary unknown has a number
abbrev pub AuxFits : ℕ → AuxTerm → Type 0
AuxFits first t = first + t.aux < 2 ^ 32
