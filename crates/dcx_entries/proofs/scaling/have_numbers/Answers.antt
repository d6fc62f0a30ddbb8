-- Numbers are told as forms of numbers, and a list of forms is tested form by form.
use Rattle.std.proofs.Common.{◌≡◌, true, sym, ap, ◌∙◌, subst}
use Rattle.std.specs.List.{list_all}
use Rattle.dcx_entries.specs.Nodes.{has_numbers}
use Rattle.dcx_entries.specs.Standing.{forms_of}
use Rattle.dcx_entries.proofs.Told.{all_mapped, numbers_told}
use Rattle.dcx_entries.proofs.scaling.have_numbers.Goals as goal

pub returns-in-Numbers : goal.returns-in-Numbers
returns-in-Numbers g c =
    let t = g.C.Coef in
    subst (λ s. true ≡ list_all (has_numbers t.number_of) (forms_of t.of_number s)) (sym c.in-Numbers.is) (numbers_told t.of_number t.number_of g.met.C.Coef.number_told c.in-Numbers.field-0.entries)

pub returns-in-Forms : goal.returns-in-Forms
returns-in-Forms g c =
    let t = g.C.Coef in
    c.entries_have_numbers.ensures
    ∙ ap (λ es. list_all (λ e. has_numbers t.number_of e.form) es) c.as_slice.ensures
    ∙ all_mapped (has_numbers t.number_of) (λ e. e.form) c.in-Forms.list
    ∙ ap (λ s. list_all (has_numbers t.number_of) (forms_of t.of_number s)) (sym c.in-Forms.is)
