-- A program that reducing gives is a reduced program of its problem.
use Rattle.std.proofs.Common.{◌≡◌, Some, Ok, refl, ap, ◌∙◌}
use Rattle.dcx_frac.specs.declared.fraction.Frac.{Frac}
use Rattle.dcx_frac.specs.Results.{sum_of}
use Rattle.dcx_point.specs.Pairs.{Pairs}
use Rattle.dcx_convex.specs.Nodes.{Setting}
use Rattle.dcx_convex.specs.Rules.{Plain, Parametrized}
use Rattle.dcx_tree.specs.declared.problem.Problem.{Problem}
use Rattle.dcx_tree.specs.Meaning.{IsAccepted, IsDpp, convex_problem, setting_of}
use Rattle.dcx_linear.specs.declared.param_form.ParamForm.{ParamForm}
use Rattle.dcx_linear.specs.Changes.{changed_frac}
use Rattle.dcx_linear.specs.FormLaws.{linear_sum_value, linear_change_value}
use Rattle.dcx_linear.specs.NumberLaws.{told_number_lem, sum_value_lem, change_value_lem}
use Rattle.dcx_linear.specs.Parameters.{Parameters}
use Rattle.dcx_linear.specs.ParamForms.{form_of_number, number_of_form, sum_gives_form, change_gives_form, form_value}
use Rattle.dcx_linear.specs.ParamLaws.{form_number_value, form_told_number, form_sum_value, form_change_value}
use Rattle.dcx_linear.specs.FormsAt.{frac_value}
use Rattle.dcx_unknowns.specs.Equations.{reduced_with}
use Rattle.dcx_entries.specs.Nodes.{table_forms}
use Rattle.dcx_postsolve.specs.Programs.{IsProgramOf}
use Rattle.dcx_formed.specs.Forms.{forms_at}
use Rattle.dcx_formed.proofs.LawsHold.{fracs_meet_equations, param_forms_meet_equations}
use Rattle.dcx_graph.specs.Program.{Program}
use Rattle.dcx_graph.specs.AsLinear.{linear_at}
use Rattle.dcx_graph.specs.Correct.{ReducesNumbers, ReducesAffine, NumbersAreReductions, AffineAreReductions, AffineAreKnown}
use Rattle.dcx_graph.proofs.AsLinear.{minus_one_value, program_of}
use Rattle.dcx_graph.proofs.Known.{programs_are_known}

-- the program is that of the forms of the nodes
pub numbers_program : (p : Problem) (setting : Pairs) (q : Program Frac) (params : Parameters) → IsAccepted p → (is : ReducesNumbers p setting (Ok q)) →
    IsProgramOf (linear_at frac_value params q) (convex_problem p) (reduced_with Plain p (setting_of p setting) (forms_at frac_value (λ f. f) params is.nodes.table))
numbers_program p setting q params ok is =
    let table = is.nodes.table in
    program_of (λ f. f) (λ f. Some f) (λ a b r. r ≡ sum_of a b) (λ change a r. r ≡ changed_frac change a) frac_value params
    (λ f k r u e. linear_sum_value frac_value (λ f. Some f) (λ d y z l. ap (λ w. frac_value w z) (told_number_lem d y l)) u params (λ a b r. r ≡ sum_of a b)
    (λ a b d l. sum_value_lem a b d params l) f k r e)
    (λ change f r u e. linear_change_value frac_value (λ f. Some f) (λ d y z l. ap (λ w. frac_value w z) (told_number_lem d y l)) u params (λ change a r. r ≡ changed_frac change a)
    (λ change a d l. change_value_lem change a d params l) change f r e)
    minus_one_value (table_forms table) Plain p (setting_of p setting) table q is.program refl (fracs_meet_equations p setting table params ok is.nodes.formed).rows

pub numbers_are_reductions : NumbersAreReductions
numbers_are_reductions p setting q params ok is = record {
  reduced = reduced_with Plain p (setting_of p setting) (forms_at frac_value (λ f. f) params is.nodes.table);
  reduction = (fracs_meet_equations p setting is.nodes.table params ok is.nodes.formed).reduction;
  program = numbers_program p setting q params ok is;
  point = λ u. refl;
}

pub affine_program : (p : Problem) (setting : Pairs) (q : Program ParamForm) → IsDpp p → (is : ReducesAffine p setting (Ok q)) → (s : Setting) →
    IsProgramOf (linear_at form_value s q) (convex_problem p) (reduced_with Parametrized p s (forms_at form_value form_of_number s is.nodes.table))
affine_program p setting q ok is s =
    let table = is.nodes.table in
    program_of form_of_number number_of_form sum_gives_form change_gives_form form_value s
    (λ f k r u e. linear_sum_value form_value number_of_form (λ d y z l. ap (λ w. form_value w z) (form_told_number d y l) ∙ form_number_value y z) u s sum_gives_form
    (λ a b d l. form_sum_value a b d s l) f k r e)
    (λ change f r u e. linear_change_value form_value number_of_form (λ d y z l. ap (λ w. form_value w z) (form_told_number d y l) ∙ form_number_value y z) u s change_gives_form
    (λ change a d l. form_change_value change a d s l) change f r e)
    minus_one_value (table_forms table) Parametrized p s table q is.program refl (param_forms_meet_equations p setting table ok is.nodes.formed s).rows

pub affine_are_reductions : AffineAreReductions
affine_are_reductions p setting q ok is s = record {
  reduced = reduced_with Parametrized p s (forms_at form_value form_of_number s is.nodes.table);
  reduction = (param_forms_meet_equations p setting is.nodes.table ok is.nodes.formed s).reduction;
  program = affine_program p setting q ok is s;
  point = λ u. refl;
}

pub affine_are_known : AffineAreKnown
affine_are_known p setting q is = programs_are_known Parametrized p setting is.nodes.table q is.nodes.formed is.program
