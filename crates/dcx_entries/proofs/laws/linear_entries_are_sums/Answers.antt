-- The form of an entry starts from 0 and adds its terms, and so it is worth their sum.
use Rattle.std.proofs.Common.{Ok, map, refl, ap, ◌∙◌}
use Rattle.dcx_atom.specs.Formed.{zero_frac}
use Rattle.dcx_atom.specs.Linear.{linear_term}
use Rattle.dcx_atom.proofs.FormedSums.{value-zero_frac}
use Rattle.dcx_linear.specs.Forms.{linear_value}
use Rattle.dcx_linear.specs.FormLaws.{linear_sum_value, linear_change_value}
use Rattle.dcx_linear.specs.Parts.{parts_value}
use Rattle.dcx_linear.proofs.PartSums.{parts_sum_value}
use Rattle.dcx_entries.specs.Parts.{zero_form, term_part}
use Rattle.dcx_entries.proofs.EntryValues.{form_is, from_zero, terms_are}
use Rattle.dcx_entries.proofs.laws.linear_entries_are_sums.Goals as goal

pub returns : goal.returns
returns g c =
    let t = g.C.Coef in
    let m = g.met.C.Coef in
    λ args terms e x p h.
    ap (λ f. linear_value t.value_at f x p) (form_is e h.0 (Ok e) refl h.2)
    ∙ parts_sum_value t.number_of t.sum_gives t.change_gives t.value_at x p
    (linear_sum_value t.value_at t.number_of (λ c y q e. ap (λ d. t.value_at d q) (m.told_number c y e) ∙ m.number_value y q) x p t.sum_gives (λ a b c e. m.sum_value a b c p e))
    (linear_change_value t.value_at t.number_of (λ c y q e. ap (λ d. t.value_at d q) (m.told_number c y e) ∙ m.number_value y q) x p t.change_gives (λ change a c e. m.change_value change a c p e))
    (map (term_part args) (map linear_term terms)) (zero_form t.of_number) h.0 h.1
    ∙ from_zero (t.value_at (t.of_number zero_frac) p) (parts_value t.value_at (map (term_part args) (map linear_term terms)) x p) (m.number_value zero_frac p ∙ value-zero_frac)
    ∙ terms_are t.value_at args x p terms
