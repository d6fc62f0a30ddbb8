-- What is asked is of the nodes that are kept, its rows are within the kinds, and each has its origin.
use Rattle.std.proofs.Common.{◌≡◌, ◌+◌, ◌<◌, ◌≤◌, ◌^◌, ◌++◌, length, map, Ok, Err, sym, ◌∙◌, subst}
use Rattle.std.specs.Prelude.{sum_by}
use Rattle.std.specs.List.{All}
use Rattle.dcx_answer.specs.declared.site.Site.TheVariants as sites
use Rattle.dcx_tree.specs.Problems.{roots_of}
use Rattle.dcx_linear.specs.Widths.{form_width}
use Rattle.dcx_unknowns.specs.Layout.{constraint_rows}
use Rattle.dcx_entries.specs.Standing.{all_forms}
use Rattle.dcx_graph.specs.Program.{Program, graph_row, IsProgramWith, IsRowStopWith, GivesProgram}
use Rattle.dcx_graph.proofs.Told.{IsWideAt-weaker, TellsBy-weaker}
use Rattle.dcx_graph.proofs.Programs.{kept_program}
use Rattle.dcx_graph.proofs.Sizes.{AreWithin, program_origins, program_rows_within, program_objective_within}
use Rattle.dcx_graph.proofs.program.program.Goals as goal

pub returns-in-Err-clause-program : goal.returns-in-Err-clause-program
returns-in-Err-clause-program g c = λ rules setting kept known.
    let t = g.C.Coef in
    let q = c.args.problem.now in
    let standing = c.as_slice.result.now in
    let graph = c.deref.result.now in
    IsWideAt-weaker (λ row passes. sites.Row row passes) c.in-Err.stop (λ s. IsRowStopWith t.of_number t.number_of t.sum_gives t.change_gives q (all_forms t.of_number standing) graph s)
    (λ s. GivesProgram t.of_number t.number_of t.sum_gives t.change_gives rules q kept.table (Err s))
    (λ s h. kept_program t.of_number t.number_of t.sum_gives t.change_gives q t.parameter_gives rules setting c.args.formed kept standing graph c.args.kinds
    c.as_slice.ensures (c.deref.ensures.value ∙ c.into_vec-graph.ensures) known (Err s) h)
    (c.in-Err.ensures c.args.kinds)

pub finished-requires-clause-origins : goal.finished-requires-clause-origins
finished-requires-clause-origins g c =
    let t = g.C.Coef in
    let q = c.args.problem.now in
    let a = c.in-Ok.asked in
    let graph = c.into_vec-graph.result.items in
    let forms = all_forms t.of_number c.as_slice.result.now in
    let asked = subst (λ rs. IsProgramWith t.of_number t.number_of t.sum_gives t.change_gives q forms rs c.args.kinds
    (record { rows = a.rows.items ++ map graph_row rs; objective = a.objective; kinds = c.args.kinds; origins = a.origins.items }))
    c.deref.ensures.value (c.in-Ok.ensures c.args.kinds) in
    program_origins t.of_number t.number_of t.sum_gives t.change_gives q forms graph c.args.kinds _ asked
    (subst (λ rs. sum_by constraint_rows q.constraints + length rs < 2 ^ 32) (sym c.into_vec-graph.ensures) c.requires.few)

pub finished-requires-clause-rows : goal.finished-requires-clause-rows
finished-requires-clause-rows g c =
    let t = g.C.Coef in
    let q = c.args.problem.now in
    let a = c.in-Ok.asked in
    let n = length c.args.kinds in
    let graph = c.into_vec-graph.result.items in
    let forms = all_forms t.of_number c.as_slice.result.now in
    let asked = subst (λ rs. IsProgramWith t.of_number t.number_of t.sum_gives t.change_gives q forms rs c.args.kinds
    (record { rows = a.rows.items ++ map graph_row rs; objective = a.objective; kinds = c.args.kinds; origins = a.origins.items }))
    c.deref.ensures.value (c.in-Ok.ensures c.args.kinds) in
    program_rows_within t.of_number t.number_of t.sum_gives t.change_gives q forms graph c.args.kinds _ asked n
    (subst (λ ss. All (AreWithin (all_forms t.of_number ss) n) (roots_of q.objective q.constraints)) (sym c.as_slice.ensures) c.requires.roots)
    (subst (λ rs. All (λ r. form_width r.form ≤ n) rs) (sym c.into_vec-graph.ensures) c.requires.rows)

pub finished-requires-clause-objective : goal.finished-requires-clause-objective
finished-requires-clause-objective g c =
    let t = g.C.Coef in
    let q = c.args.problem.now in
    let n = length c.args.kinds in
    let forms = all_forms t.of_number c.as_slice.result.now in
    program_objective_within t.of_number t.number_of t.sum_gives t.change_gives q forms c.deref.result.now c.args.kinds _ (c.in-Ok.ensures c.args.kinds) n
    (subst (λ ss. All (AreWithin (all_forms t.of_number ss) n) (roots_of q.objective q.constraints)) (sym c.as_slice.ensures) c.requires.roots)

pub returns-in-Ok-clause-program : goal.returns-in-Ok-clause-program
returns-in-Ok-clause-program g c = λ rules setting kept known.
    let t = g.C.Coef in
    let q = c.args.problem.now in
    let a = c.in-Ok.asked in
    let standing = c.as_slice.result.now in
    let graph = c.into_vec-graph.result.items in
    let made : Program _ = record { rows = a.rows.items ++ map graph_row graph; objective = a.objective; kinds = c.args.kinds; origins = a.origins.items } in
    let asked = subst (λ rs. IsProgramWith t.of_number t.number_of t.sum_gives t.change_gives q (all_forms t.of_number standing) rs c.args.kinds
    (record { rows = a.rows.items ++ map graph_row rs; objective = a.objective; kinds = c.args.kinds; origins = a.origins.items }))
    c.deref.ensures.value (c.in-Ok.ensures c.args.kinds) in
    let is = kept_program t.of_number t.number_of t.sum_gives t.change_gives q t.parameter_gives rules setting c.args.formed kept standing graph c.args.kinds c.as_slice.ensures
    c.into_vec-graph.ensures known (Ok made) asked in
    TellsBy-weaker (λ row passes. sites.Row row passes) c.finished.result (λ x. x.program) (λ x. x.program) (λ r. r ≡ Ok made)
    (GivesProgram t.of_number t.number_of t.sum_gives t.change_gives rules q kept.table)
    (λ x e. subst (λ r. GivesProgram t.of_number t.number_of t.sum_gives t.change_gives rules q kept.table r) (sym e) is) (λ s e. cc) c.finished.ensures.program
