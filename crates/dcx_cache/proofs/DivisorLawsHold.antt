-- Where all nodes are formed no divisor has an entry of 0, and the setting is a fitting one: the laws' proofs.
use Rattle.std.proofs.Common.{◌≡◌, [], Some, ap, ◌∙◌}
use Rattle.std.proofs.lemmas.Bool.{and_parts}
use Rattle.dcx_frac.specs.Results.{sum_of}
use Rattle.dcx_convex.specs.Nodes.{Numbers}
use Rattle.dcx_convex.specs.Rules.{Plain, Parametrized, is_constant, judgement_at}
use Rattle.dcx_convex.proofs.LawsHold.{constants_are_fixed}
use Rattle.dcx_tree.specs.Meaning.{point_of, setting_of}
use Rattle.dcx_linear.specs.Changes.{changed_frac}
use Rattle.dcx_linear.specs.Parameters.{entry_of}
use Rattle.dcx_linear.specs.ParamForms.{form_value, number_of_form, form_of_number, sum_gives_form, change_gives_form, IsEntryForm}
use Rattle.dcx_linear.specs.FormsAt.{frac_value}
use Rattle.dcx_unknowns.proofs.NodeForms.{nodes_of, not_reduced}
use Rattle.dcx_graph.proofs.Coefs.{fracs_are, param_forms_are}
use Rattle.dcx_graph.proofs.Settled.{value_settled}
use Rattle.dcx_fit.proofs.Fitting.{fitting_holds}
use Rattle.dcx_cache.specs.DivisorLaws.{FracsDivideByNoZero, ParamFormsDivideByNoZero, FormedAreFitting}
use Rattle.dcx_cache.proofs.Divisors.{divides}

pub fracs_divide_by_no_zero : FracsDivideByNoZero
fracs_divide_by_no_zero p setting table ok formed x =
    divides frac_value (λ f. f) (λ f. Some f) (λ a b r. r ≡ sum_of a b) (λ change a r. r ≡ changed_frac change a) (λ position name entry given f. entry_of given name entry ≡ Some f)
    fracs_are Plain p setting table formed (setting_of p setting) (setting_of p setting)
    (λ i b number x j. ap (λ (f : Numbers). f j)
    (constants_are_fixed Plain (nodes_of p) (setting_of p setting) x (point_of p []) i (not_reduced (is_constant Plain (judgement_at Plain (nodes_of p) i)) number)))
    ok x

pub param_forms_divide_by_no_zero : ParamFormsDivideByNoZero
param_forms_divide_by_no_zero p setting table ok formed s x =
    divides form_value form_of_number number_of_form sum_gives_form change_gives_form (λ position name entry given f. IsEntryForm position name entry f)
    param_forms_are Parametrized p setting table formed s s
    (λ i b number x j.
    let g = judgement_at Parametrized (nodes_of p) i in
    let t = and_parts g.fixed g.unparametrized (not_reduced (is_constant Parametrized g) number) in
    ap (λ (f : Numbers). f j) (value_settled Parametrized (nodes_of p) s (setting_of p setting) x i t.1 ∙ constants_are_fixed Parametrized (nodes_of p) (setting_of p setting) x (point_of p []) i t.0))
    ok.1 x

pub formed_are_fitting : FormedAreFitting
formed_are_fitting p = record {
  fracs = λ ok setting table formed fits. (fitting_holds p setting).1 (fits, fracs_divide_by_no_zero p setting table ok formed);
  param_forms = λ ok setting given table formed fits. (fitting_holds p given).1 (fits, param_forms_divide_by_no_zero p setting table ok formed (setting_of p given));
}
