-- What a program that reducing gives is for its problem: numbers at a setting, and affine coefficients at every one.
use Rattle.std.specs.Prelude.{◌≡◌, Some, Result, Ok}
use Rattle.dcx_frac.specs.declared.fraction.Frac.{Frac}
use Rattle.dcx_frac.specs.Results.{sum_of}
use Rattle.dcx_point.specs.Pairs.{Pairs}
use Rattle.dcx_convex.specs.Nodes.{Setting}
use Rattle.dcx_convex.specs.Rules.{Plain, Parametrized}
use Rattle.dcx_tree.specs.declared.problem.Problem.{Problem}
use Rattle.dcx_tree.specs.Meaning.{IsAccepted, IsDpp, setting_of}
use Rattle.dcx_linear.specs.declared.param_form.ParamForm.{ParamForm}
use Rattle.dcx_linear.specs.Changes.{changed_frac}
use Rattle.dcx_linear.specs.Parameters.{Parameters, entry_of}
use Rattle.dcx_linear.specs.ParamForms.{form_of_number, number_of_form, sum_gives_form, change_gives_form, form_value, IsEntryForm}
use Rattle.dcx_linear.specs.FormsAt.{frac_value}
use Rattle.dcx_graph.specs.declared.stop.ReduceStop.{ReduceStop}
use Rattle.dcx_graph.specs.Program.{Program}
use Rattle.dcx_graph.specs.Reducing.{Reduces}
use Rattle.dcx_graph.specs.AsLinear.{linear_at, IsReductionAt}
use Rattle.dcx_graph.specs.Fixed.{IsKnownProgram}

-- ---- what reducing answers
-- with numbers, at a setting
abbrev pub ReducesNumbers : Problem → Pairs → Result (Program Frac) ReduceStop → Type 0
ReducesNumbers p setting =
    Reduces (λ f. f) (λ f. Some f) (λ a b r. r ≡ sum_of a b) (λ change a r. r ≡ changed_frac change a) (λ position name entry given f. entry_of given name entry ≡ Some f) Plain p setting

-- with coefficients that are affine in the parameters
abbrev pub ReducesAffine : Problem → Pairs → Result (Program ParamForm) ReduceStop → Type 0
ReducesAffine p setting =
    Reduces form_of_number number_of_form sum_gives_form change_gives_form (λ position name entry given f. IsEntryForm position name entry f) Parametrized p setting

-- ---- the statements
-- where the rules accept a problem, the program is a reduced program of the problem at the setting
abbrev pub NumbersAreReductions : Type 0
NumbersAreReductions = (p : Problem) (setting : Pairs) (q : Program Frac) (params : Parameters) → IsAccepted p → ReducesNumbers p setting (Ok q) →
    IsReductionAt Plain p (setting_of p setting) (linear_at frac_value params q)

-- where they accept it with parameters affine, the program is one at every setting, whatever setting was at hand
abbrev pub AffineAreReductions : Type 0
AffineAreReductions = (p : Problem) (setting : Pairs) (q : Program ParamForm) → IsDpp p → ReducesAffine p setting (Ok q) →
    (s : Setting) → IsReductionAt Parametrized p s (linear_at form_value s q)

-- and it speaks of declared parameters alone
abbrev pub AffineAreKnown : Type 0
AffineAreKnown = (p : Problem) (setting : Pairs) (q : Program ParamForm) → ReducesAffine p setting (Ok q) → IsKnownProgram p q

-- a problem has one answer
abbrev pub IsOneAnswer : {A : Type 0} → (A → Type 0) → Type 0
IsOneAnswer {A} P = (r s : A) → P r → P s → r ≡ s
