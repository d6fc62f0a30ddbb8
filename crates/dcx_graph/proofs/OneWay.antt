-- A problem is reduced in one way, with numbers and with affine coefficients.
use Rattle.std.proofs.Common.{◌≡◌, ℕ, List, [], ◌∷◌, length, Some, sym, ap, ◌∙◌, arith}
use Rattle.dcx_frac.specs.declared.fraction.Frac.{Frac}
use Rattle.dcx_frac.specs.Results.{sum_of}
use Rattle.dcx_frac.proofs.Parts.{value_injective}
use Rattle.dcx_atom.specs.Formed.{zero_frac}
use Rattle.dcx_point.specs.Pairs.{Pairs}
use Rattle.dcx_convex.specs.Rules.{Plain, Parametrized}
use Rattle.dcx_linear.specs.declared.param_form.ParamForm.{ParamForm}
use Rattle.dcx_linear.specs.Changes.{changed_frac}
use Rattle.dcx_linear.specs.Parameters.{entry_of}
use Rattle.dcx_linear.specs.NumberLaws.{one_answer}
use Rattle.dcx_linear.specs.ParamForms.{form_of_number, number_of_form, sum_gives_form, change_gives_form, IsEntryForm}
use Rattle.dcx_linear.specs.ParamLaws.{one_form_sum, one_form_change}
use Rattle.dcx_unknowns.specs.Layout.{unknown_kinds}
use Rattle.dcx_entries.specs.Nodes.{table_forms}
use Rattle.dcx_entries.specs.Kept.{graph_rows}
use Rattle.dcx_nodes.proofs.OneForming.{one_forming}
use Rattle.dcx_graph.proofs.OneProgram.{one_program_with}
use Rattle.dcx_graph.proofs.OneReduction.{one_reduction}
use Rattle.dcx_tree.specs.declared.problem.Problem.{Problem}
use Rattle.dcx_graph.specs.Correct.{ReducesNumbers, ReducesAffine, IsOneAnswer}

-- a setting has one number at an entry
one_number : (position : ℕ) (name : List ℕ) (entry : ℕ) (setting : Pairs) (c d : Frac) → entry_of setting name entry ≡ Some c → entry_of setting name entry ≡ Some d → c ≡ d
one_number position name entry setting c d e f = cc

-- an entry of a parameter is one affine number
one_entry : (position : ℕ) (name : List ℕ) (entry : ℕ) (setting : Pairs) (c d : ParamForm) → IsEntryForm position name entry c → IsEntryForm position name entry d → c ≡ d
one_entry position name entry setting c d h k =
    h.is ∙ ap (λ one. record { constant = zero_frac; terms = record { position = position; name = name; entry = entry; coefficient = one } ∷ [] })
    (value_injective h.one k.one (h.is_one ∙ sym k.is_one)) ∙ sym k.is

pub one_numbers : (p : Problem) (setting : Pairs) → IsOneAnswer (ReducesNumbers p setting)
one_numbers p setting r s h k =
    one_reduction (λ f. f) (λ f. Some f) (λ a b r. r ≡ sum_of a b) (λ change a r. r ≡ changed_frac change a) (λ position name entry given f. entry_of given name entry ≡ Some f) Plain p setting
    (one_forming (λ f. f) (λ f. Some f) (λ a b r. r ≡ sum_of a b) (λ change a r. r ≡ changed_frac change a) (λ position name entry given f. entry_of given name entry ≡ Some f)
    (λ a b r s. one_answer (sum_of a b) r s) (λ change a r s. one_answer (changed_frac change a) r s) one_number Plain p setting (length p.tree) (omega arith))
    (λ table r s. one_program_with (λ f. f) (λ f. Some f) (λ a b r. r ≡ sum_of a b) (λ change a r. r ≡ changed_frac change a) (λ a b r s. one_answer (sum_of a b) r s)
    (λ change a r s. one_answer (changed_frac change a) r s)
    (table_forms table) p (graph_rows (λ f. f) table) (unknown_kinds Plain p) r s) r s h k

pub one_affine : (p : Problem) (setting : Pairs) → IsOneAnswer (ReducesAffine p setting)
one_affine p setting r s h k =
    one_reduction form_of_number number_of_form sum_gives_form change_gives_form (λ position name entry given f. IsEntryForm position name entry f) Parametrized p setting
    (one_forming form_of_number number_of_form sum_gives_form change_gives_form (λ position name entry given f. IsEntryForm position name entry f)
    one_form_sum one_form_change one_entry Parametrized p setting (length p.tree) (omega arith))
    (λ table r s. one_program_with form_of_number number_of_form sum_gives_form change_gives_form one_form_sum one_form_change
    (table_forms table) p (graph_rows form_of_number table) (unknown_kinds Parametrized p) r s) r s h k
