-- The program of a session at a setting is that of forms that meet the equations of the nodes.
use Rattle.std.proofs.Common.{inl, inr, [], ◌++◌, map, Ok, ap, ◌∙◌, subst}
use Rattle.dcx_frac.specs.declared.fraction.Frac.{Frac}
use Rattle.dcx_point.specs.Pairs.{Pairs}
use Rattle.dcx_convex.specs.Rules.{Plain, Parametrized}
use Rattle.dcx_tree.specs.declared.problem.Problem.{Problem}
use Rattle.dcx_tree.specs.Meaning.{convex_problem, setting_of, IsAccepted, IsDpp}
use Rattle.dcx_linear.specs.declared.param_form.ParamForm.{ParamForm}
use Rattle.dcx_linear.specs.ParamForms.{form_of_number, form_value}
use Rattle.dcx_linear.specs.FormsAt.{frac_value}
use Rattle.dcx_unknowns.specs.Equations.{reduced_with}
use Rattle.dcx_formed.specs.Forms.{forms_at}
use Rattle.dcx_formed.proofs.LawsHold.{fracs_meet_equations, param_forms_meet_equations}
use Rattle.dcx_postsolve.specs.Programs.{IsProgramOf}
use Rattle.dcx_fit.specs.Fit.{FitsParameters}
use Rattle.dcx_graph.specs.Program.{Program, entry_origin, constraint_entries}
use Rattle.dcx_graph.specs.Correct.{ReducesNumbers, ReducesAffine}
use Rattle.dcx_graph.specs.Fixing.{FixGives}
use Rattle.dcx_graph.specs.Fixed.{HaveArrays}
use Rattle.dcx_graph.proofs.AtSetting.{same_program}
use Rattle.dcx_graph.proofs.Correct.{numbers_program, affine_program, affine_are_known}
use Rattle.dcx_cert_build.proofs.Laid.{graph_rows_are}
use Rattle.dcx_cache.specs.Programs.{mapped, anew}
use Rattle.dcx_cert_complete.specs.Programs.{HasForms}
use Rattle.dcx_cert_complete.specs.Laws.{SessionProgramsHaveForms, IsProgramThere}

-- a problem that is reduced at the setting
numbers_have_forms : (p : Problem) (setting : Pairs) (q : Program Frac) → IsAccepted p → ReducesNumbers p setting (Ok q) → HasForms p (setting_of p setting) q
numbers_have_forms p setting q ok is =
    let table = is.nodes.table in
    let params = setting_of p setting in record {
      rules = Plain;
      forms = forms_at frac_value (λ f. f) params table;
      stand = (fracs_meet_equations p setting table params ok is.nodes.formed).stand;
      program = numbers_program p setting q params ok is;
      origins = is.program.origins_are ∙ ap (λ l. map entry_origin (constraint_entries p) ++ l) (graph_rows_are _ _ _ _ _ Plain p setting table is.nodes.formed);
    }

-- a program with affine coefficients that is put at the setting
fixed_have_forms : (p : Problem) (first setting : Pairs) (q : Program ParamForm) (r : Program Frac) → IsDpp p → ReducesAffine p first (Ok q) → HaveArrays p setting → FixGives setting q (Ok r)
    → HasForms p (setting_of p setting) r
fixed_have_forms p first setting q r dpp is arrays fixed =
    let table = is.nodes.table in
    let s = setting_of p setting in record {
      rules = Parametrized;
      forms = forms_at form_value form_of_number s table;
      stand = (param_forms_meet_equations p first table dpp is.nodes.formed s).stand;
      program = subst (λ l. IsProgramOf l (convex_problem p) (reduced_with Parametrized p s (forms_at form_value form_of_number s table)))
          (same_program p setting arrays s q r (affine_are_known p first q is) fixed) (affine_program p first q dpp is s);
      origins = fixed.1 ∙ is.program.origins_are ∙ ap (λ l. map entry_origin (constraint_entries p) ++ l) (graph_rows_are _ _ _ _ _ Parametrized p first table is.nodes.formed);
    }

pub session_programs_have_forms : SessionProgramsHaveForms
session_programs_have_forms p setting q ok fits (mapped map m f) = fixed_have_forms p [] setting map q m.dpp m.reduces (λ i d b. (fits.met i d b).shaped) f
session_programs_have_forms p setting q ok fits (anew n h) = numbers_have_forms p setting q ok h

-- so is each program of whose answers certificates are built
pub programs_there_have_forms : (p : Problem) (setting : Pairs) (q : Program Frac) → IsAccepted p → FitsParameters p.parameters setting → IsProgramThere p setting q
    → HasForms p (setting_of p setting) q
programs_there_have_forms p setting q ok fits (inl of_session) = session_programs_have_forms p setting q ok fits of_session
programs_there_have_forms p setting q ok fits (inr of_numbers) = numbers_have_forms p setting q ok of_numbers
