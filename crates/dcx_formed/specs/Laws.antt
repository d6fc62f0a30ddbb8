-- The laws of formed nodes: they meet the equations, and speak of unknowns and parameters that there are alone.
use Rattle.dcx_frac.specs.declared.fraction.Frac.{Frac}
use Rattle.dcx_point.specs.Pairs.{Pairs}
use Rattle.dcx_convex.specs.Nodes.{Setting}
use Rattle.dcx_convex.specs.Rules.{Plain, Parametrized, Rules}
use Rattle.dcx_tree.specs.declared.problem.Problem.{Problem}
use Rattle.dcx_tree.specs.Meaning.{IsAccepted, IsDpp, setting_of}
use Rattle.dcx_linear.specs.declared.param_form.ParamForm.{ParamForm}
use Rattle.dcx_linear.specs.Parameters.{Parameters}
use Rattle.dcx_linear.specs.ParamForms.{form_value, form_of_number, number_of_form, sum_gives_form, change_gives_form, IsEntryForm}
use Rattle.dcx_entries.specs.Nodes.{Table, AreFormed}
use Rattle.dcx_linear.specs.FormsAt.{frac_value}
use Rattle.dcx_formed.specs.Forms.{MeetEquations, AreFormedOfFracs, AreFormedOfParamForms}
use Rattle.std.specs.Prelude.{ℕ, List, length, Option, Result}
use Rattle.dcx_frac.specs.declared.fraction.Passes.{Passes}
use Rattle.dcx_linear.specs.declared.change.Change.{Change}
use Rattle.dcx_unknowns.specs.Layout.{unknown_kinds}
use Rattle.dcx_formed.specs.Within.{OfTable, IsNarrow, IsKnown}

-- the nodes of an accepted problem that are formed of fractions at a setting meet the equations at that setting
abbrev pub FracsMeetEquations : Type 0
FracsMeetEquations = (p : Problem) (setting : Pairs) (table : Table Frac) (params : Parameters) → IsAccepted p → AreFormedOfFracs Plain p setting table →
    MeetEquations frac_value (λ f. f) params Plain p (setting_of p setting) table

-- the nodes of a problem that is accepted where parameters are affine, formed of affine numbers, meet the equations at every
-- setting
abbrev pub ParamFormsMeetEquations : Type 0
ParamFormsMeetEquations = (p : Problem) (setting : Pairs) (table : Table ParamForm) → IsDpp p → AreFormedOfParamForms Parametrized p setting table →
    (s : Setting) → MeetEquations form_value form_of_number s Parametrized p s table

-- formed nodes speak of the unknowns of the layout alone
abbrev pub FormsAreNarrow : {C : Type 0} → (Frac → C) → (C → Option Frac) → (C → C → Result C Passes → Type 0) → (Change → C → Result C Passes → Type 0) → (ℕ → List ℕ → ℕ → Pairs → C → Type 0)
    → Type 0
FormsAreNarrow of_number number_of Sums Changes Reads =
    (rules : Rules) (p : Problem) (setting : Pairs) (table : Table _) → AreFormed of_number number_of Sums Changes Reads rules p setting (length p.tree) table →
    OfTable (IsNarrow (length (unknown_kinds rules p))) table

-- and, where parameters are affine, of entries of the declared parameters alone
abbrev pub FormsAreKnown : Type 0
FormsAreKnown =
    (rules : Rules) (p : Problem) (setting : Pairs) (table : Table ParamForm) →
    AreFormed form_of_number number_of_form sum_gives_form change_gives_form (λ position name entry s c. IsEntryForm position name entry c) rules p setting (length p.tree) table →
    OfTable (IsKnown p) table
