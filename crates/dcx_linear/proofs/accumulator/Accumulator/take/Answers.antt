-- The constant and the terms that are taken are the form's, and what is left is 0.
use Rattle.std.proofs.Common.{◌≡◌, List, sym, ap, ap₂, ◌∙◌, subst, arith}
use Rattle.std.proofs.lemmas.List.{with_items_is}
use Rattle.dcx_linear.specs.declared.form.FormTerm.{FormTerm}
use Rattle.dcx_linear.specs.declared.form.Form.{Form}
use Rattle.dcx_linear.specs.FormTerms.{HoldsUnknowns}
use Rattle.dcx_linear.specs.Slots.{listed_from}
use Rattle.dcx_linear.proofs.SlotSums.{listed-sparse}
use Rattle.dcx_linear.proofs.accumulator.Accumulator.take.Goals as goal

abbrev formed : {C : Type 0} → C → List (FormTerm C) → Form C
formed x ts = record { constant = x; terms = ts }

-- forms with the same parts are the same
same_parts : {C : Type 0} {x y : C} {ts us : List (FormTerm C)} → x ≡ y → ts ≡ us → formed x ts ≡ formed y us
same_parts e d = ap₂ formed e d

pub from_vec-requires : goal.from_vec-requires
from_vec-requires g c = subst (HoldsUnknowns g.C.Coef.number_of) (sym c.in_ok-terms.ensures.taken) (listed-sparse g.C.Coef.number_of 0 _)

pub returns : goal.returns
returns g c =
    let slots = c.in_ok-terms.ensures {u = tt} in
    record {
      taken = same_parts c.replace-constant.ensures.value (c.from_vec.ensures ∙ slots.taken ∙ ap (listed_from g.C.Coef.number_of 0) c.deref_mut.ensures.value) ∙ c.self.view_is;
      zero = same_parts (c.replace-constant.ensures.after ∙ c.zero.ensures)
          (ap (listed_from g.C.Coef.number_of 0) (with_items_is c.self.inside.slots c.take_terms.new.slots (omega arith)) ∙ slots.cleared);
    }
