-- The numbers that the forms of entries are, at unknowns and parameters.
use Rattle.std.proofs.Common.{◌≡◌, List, [], ◌∷◌, map, Result, Ok, Err, pos, refl, sym, ap, ap₂, ◌∙◌}
use Rattle.dcx_math.specs.Rational.{ℚ, whole, ◌+ℚ◌, ◌*ℚ◌}
use Rattle.dcx_math.proofs.Orders.{+ℚ_idl, +ℚ_idr}
use Rattle.dcx_frac.specs.declared.fraction.Passes.{Passes}
use Rattle.dcx_frac.specs.Frac.{value}
use Rattle.dcx_atom.specs.declared.terms.Triple.{Triple}
use Rattle.dcx_atom.specs.Linear.{linear_term, terms_at}
use Rattle.dcx_atom.proofs.FormedSums.{frac_at-value}
use Rattle.dcx_linear.specs.declared.form.Form.{Form}
use Rattle.dcx_linear.specs.FormTerms.{Unknowns}
use Rattle.dcx_linear.specs.Forms.{linear_value}
use Rattle.dcx_linear.specs.Parameters.{Parameters}
use Rattle.dcx_linear.specs.Parts.{parts_value}
use Rattle.dcx_entries.specs.declared.entries.EntryForms.{EntryForms}
use Rattle.dcx_entries.specs.Entries.{alone}
use Rattle.dcx_entries.specs.Parts.{Arguments, term_part}

-- the form of an entry without rows
pub form_is : {C : Type 0} (e : EntryForms C) (f : Form C) (r : Result (EntryForms C) Passes) → r ≡ Ok e → r ≡ Ok (alone f) → e.form ≡ f
form_is e f (Ok y) h k =
    let d : y ≡ e = cc in
    let q : y ≡ alone f = cc in
    ap (λ z. z.form) (sym d ∙ q)
form_is e f (Err passes) h k = absurd cc

-- a sum from 0 on
pub from_zero : (z s : ℚ) → z ≡ whole (pos 0) → (z +ℚ whole (pos 0)) +ℚ s ≡ s
from_zero z s e = ap (λ y. (y +ℚ whole (pos 0)) +ℚ s) e ∙ ap (λ y. y +ℚ s) (+ℚ_idr (whole (pos 0))) ∙ +ℚ_idl s

-- the parts of a linear call are its terms
pub terms_are : {C : Type 0} (value_at : C → Parameters → ℚ) (args : Arguments C) (x : Unknowns) (p : Parameters) (ts : List Triple)
    → parts_value value_at (map (term_part args) (map linear_term ts)) x p ≡ terms_at (map linear_term ts) (λ k j. linear_value value_at (args k j) x p)
terms_are value_at args x p [] = refl
terms_are value_at args x p (t ∷ ts) = ap₂ ◌+ℚ◌ (ap (λ k. value k *ℚ linear_value value_at (args t.argument t.entry) x p) (frac_at-value t.coefficient)) (terms_are value_at args x p ts)
