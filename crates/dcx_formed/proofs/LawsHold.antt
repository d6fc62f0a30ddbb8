-- Formed nodes meet the equations, where parameters are numbers and where they are affine: the laws' proofs.
use Rattle.std.proofs.Common.{◌≡◌, IsTrue, [], map, Some, refl, ap, ◌∙◌, subst}
use Rattle.std.proofs.lemmas.Bool.{and_parts}
use Rattle.dcx_frac.specs.declared.fraction.Frac.{Frac}
use Rattle.dcx_frac.specs.Results.{sum_of}
use Rattle.dcx_point.specs.Pairs.{Pairs}
use Rattle.dcx_convex.specs.Nodes.{Numbers, Setting}
use Rattle.dcx_convex.specs.Rules.{Plain, Parametrized, is_constant, judgement_by, judgement_at}
use Rattle.dcx_convex.proofs.LawsHold.{constants_are_fixed}
use Rattle.dcx_call.specs.declared.call.Call.{Call}
use Rattle.dcx_tree.specs.declared.problem.Problem.{Problem}
use Rattle.dcx_tree.specs.Nodes.{number_in as number_of_name, head_of, arg_sides}
use Rattle.dcx_tree.specs.Meaning.{IsAccepted, IsDpp, names_in, point_of, setting_of}
use Rattle.dcx_linear.specs.declared.param_form.ParamForm.{ParamForm}
use Rattle.dcx_linear.specs.Changes.{changed_frac}
use Rattle.dcx_linear.specs.Parameters.{Parameters, entry_of}
use Rattle.dcx_linear.specs.ParamForms.{form_value, number_of_form, form_of_number, sum_gives_form, change_gives_form, IsEntryForm}
use Rattle.dcx_linear.specs.ParamLaws.{form_entry_value}
use Rattle.dcx_unknowns.specs.Equations.{AllStand}
use Rattle.dcx_unknowns.proofs.EquationsHold.{equations_reduce}
use Rattle.dcx_unknowns.proofs.NodeForms.{nodes_of, not_constant, not_reduced}
use Rattle.dcx_entries.specs.Nodes.{Table}
use Rattle.dcx_linear.specs.FormsAt.{frac_value}
use Rattle.dcx_formed.specs.Forms.{forms_at, AreFormedOfFracs, AreFormedOfParamForms}
use Rattle.dcx_formed.specs.Laws.{FracsMeetEquations, ParamFormsMeetEquations}
use Rattle.dcx_formed.proofs.Settled.{value_settled}
use Rattle.dcx_formed.proofs.Steady.{steady}
use Rattle.dcx_formed.proofs.Coefs.{fracs_are, param_forms_are}
use Rattle.dcx_formed.proofs.All.{all_stand}
use Rattle.dcx_formed.proofs.Rows.{rows_are}

-- ---- fractions: parameters are numbers
module _ (p : Problem) (setting : Pairs) (table : Table Frac) (params : Parameters) (ok : IsAccepted p) (formed : AreFormedOfFracs Plain p setting table) where
  fracs_stand : AllStand Plain p (setting_of p setting) (forms_at frac_value (λ f. f) params table)
  fracs_stand =
      all_stand frac_value (λ f. f) (λ f. Some f) (λ a b r. r ≡ sum_of a b) (λ change a r. r ≡ changed_frac change a) (λ position name entry given f. entry_of given name entry ≡ Some f)
      fracs_are Plain p setting table formed params (setting_of p setting)
      (λ i b number x j. ap (λ (f : Numbers). f j)
      (constants_are_fixed Plain (nodes_of p) (setting_of p setting) x (point_of p []) i (not_reduced (is_constant Plain (judgement_at Plain (nodes_of p) i)) number)))
      (λ i n q at is reduced j c h. absurd
      (subst (λ (k : Call). ¬ IsTrue (is_constant Plain (judgement_by Plain (head_of (names_in p) k (arg_sides p.tree n) n.sides) (map (judgement_at Plain (nodes_of p)) n.args)))) is
      (not_constant p Plain i n at reduced) refl))
      ok
      (λ i earlier u w a b c none fixed affine. absurd (none fixed))

pub fracs_meet_equations : FracsMeetEquations
fracs_meet_equations p setting table params ok formed = record {
  stand = fracs_stand p setting table params ok formed;
  rows = rows_are frac_value (λ f. f) (λ f. Some f) (λ a b r. r ≡ sum_of a b) (λ change a r. r ≡ changed_frac change a) (λ position name entry given f. entry_of given name entry ≡ Some f)
      fracs_are Plain p setting table formed params (setting_of p setting);
  reduction = equations_reduce Plain p (setting_of p setting) (forms_at frac_value (λ f. f) params table) (fracs_stand p setting table params ok formed);
}

-- ---- affine numbers: parameters are affine
module _ (p : Problem) (setting : Pairs) (table : Table ParamForm) (ok : IsDpp p) (formed : AreFormedOfParamForms Parametrized p setting table) (s : Setting) where
  param_forms_stand : AllStand Parametrized p s (forms_at form_value form_of_number s table)
  param_forms_stand =
      all_stand form_value form_of_number number_of_form sum_gives_form change_gives_form (λ position name entry given f. IsEntryForm position name entry f)
      param_forms_are Parametrized p setting table formed s s
      (λ i b number x j.
      let g = judgement_at Parametrized (nodes_of p) i in
      let t = and_parts g.fixed g.unparametrized (not_reduced (is_constant Parametrized g) number) in
      ap (λ (f : Numbers). f j) (value_settled Parametrized (nodes_of p) s (setting_of p setting) x i t.1
      ∙ constants_are_fixed Parametrized (nodes_of p) (setting_of p setting) x (point_of p []) i t.0))
      (λ i n q at is reduced j c h. form_entry_value (number_of_name (names_in p).parameters q.name) q.name j setting c s h tt)
      ok.1
      (λ i earlier u w a b c none fixed affine. steady p s (forms_at form_value form_of_number s table) i earlier u w a b c fixed affine)

pub param_forms_meet_equations : ParamFormsMeetEquations
param_forms_meet_equations p setting table ok formed s = record {
  stand = param_forms_stand p setting table ok formed s;
  rows = rows_are form_value form_of_number number_of_form sum_gives_form change_gives_form (λ position name entry given f. IsEntryForm position name entry f)
      param_forms_are Parametrized p setting table formed s s;
  reduction = equations_reduce Parametrized p s (forms_at form_value form_of_number s table) (param_forms_stand p setting table ok formed s);
}
