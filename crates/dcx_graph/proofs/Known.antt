-- The program of formed nodes speaks of declared parameters alone.
use Rattle.std.proofs.Common.{get_or, subst}
use Rattle.std.specs.List.{All}
use Rattle.std.proofs.lemmas.Option.{slice_get_within, get_or_from_slice_get}
use Rattle.dcx_atom.specs.Formed.{zero_frac}
use Rattle.dcx_tree.specs.Problems.{roots_of}
use Rattle.dcx_linear.specs.declared.row.Row.{Row}
use Rattle.dcx_linear.specs.declared.param_form.ParamForm.{ParamForm}
use Rattle.dcx_linear.specs.ParamForms.{form_of_number, number_of_form, sum_gives_form, change_gives_form}
use Rattle.dcx_unknowns.specs.Layout.{unknown_kinds}
use Rattle.dcx_entries.specs.Nodes.{table_forms}
use Rattle.dcx_entries.specs.Kept.{graph_rows}
use Rattle.dcx_formed.specs.Within.{IsKnown}
use Rattle.dcx_formed.proofs.NarrowHold.{forms_are_known, known_number, sum_keeps_known, change_keeps_known}
use Rattle.dcx_graph.specs.Fixed.{ProgramsAreKnown}
use Rattle.dcx_graph.proofs.Sizes.{OfNode, program_rows_have, program_objective_has}
use Rattle.dcx_graph.proofs.Widths.{node_has, rows_have}

pub programs_are_known : ProgramsAreKnown
programs_are_known rules p setting table q formed is =
    let known = forms_are_known rules p setting table formed in
    let roots : All (OfNode (IsKnown p) (table_forms table)) (roots_of p.objective p.constraints) =
    λ i d b. node_has form_of_number (IsKnown p) table known (get_or (roots_of p.objective p.constraints) i d) in
    let rows = program_rows_have form_of_number number_of_form sum_gives_form change_gives_form p (table_forms table) (graph_rows form_of_number table) (unknown_kinds rules p) q is (IsKnown p)
    (known_number p zero_frac) (sum_keeps_known p) (change_keeps_known p) roots
    (rows_have form_of_number (IsKnown p) table known) in
    record {
      rows = λ k r at. subst (λ (x : Row ParamForm). IsKnown p x.form) (get_or_from_slice_get q.rows k r r at) (rows k r (slice_get_within q.rows k r at));
      objective = program_objective_has form_of_number number_of_form sum_gives_form change_gives_form p (table_forms table) (graph_rows form_of_number table) (unknown_kinds rules p) q is
          (IsKnown p) (known_number p zero_frac) (sum_keeps_known p) (change_keeps_known p) roots;
    }
