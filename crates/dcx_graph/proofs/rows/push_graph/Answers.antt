-- One row more, until all are taken.
use Rattle.std.proofs.Common.{◌≡◌, List, [], ◌∷◌, ◌++◌, map, sym, ap, ◌∙◌, append_assoc, rules}
use Rattle.std.proofs.lemmas.List.{append-nil, map-id, map_push}
use Rattle.std.proofs.lemmas.Result.{err_from_is_err_and}
use Rattle.std.proofs.lemmas.Iterator.Adapters.{YieldsList-from_vec}
use Rattle.std.proofs.lemmas.Iterator.Consumers.{YieldsList-end}
use Rattle.dcx_linear.specs.declared.row.Row.{Row}
use Rattle.dcx_entries.specs.declared.formed.FormedRow.{FormedRow}
use Rattle.dcx_graph.specs.Program.{graph_row}
use Rattle.dcx_graph.proofs.rows.push_graph.Goals as goal

row_more : {C : Type 0} (old rows new : List (Row C)) (taken : List (FormedRow C)) (row : FormedRow C) → rows ≡ old ++ map graph_row taken → new ≡ rows ++ graph_row row ∷ []
    → new ≡ old ++ map graph_row (taken ++ row ∷ [])
row_more old rows new taken row so_far added =
    added
    ∙ ap (λ xs. xs ++ graph_row row ∷ []) so_far
    ∙ append_assoc old (map graph_row taken) (graph_row row ∷ [])
    ∙ ap (λ xs. old ++ xs) (sym (map_push graph_row taken row))

pub graph-init : goal.graph-init
graph-init g c = sym (append-nil c.args.rows.now.items)

pub graph-preserved : goal.graph-preserved
graph-preserved g c = row_more c.args.rows.now.items c.graph.rows.items c.push.new.self.items c.graph.yielded c.in-Some.row c.graph.invariant c.in_ok-push.ensures.items

pub returns-in_err-push : goal.returns-in_err-push
returns-in_err-push g c = let p = err_from_is_err_and c.from_residual.result c.from_residual.ensures.1 in rw p.1 tt

pub returns : goal.returns
returns g c =
    let end = YieldsList-end (YieldsList-from_vec {s = c.into_iter-row-iterator.result} c.args.graph.items (search rules) (search rules)) c.graph.yielded c.graph.row-iterator c.graph.yielded_by
    c.next.result c.next.new.self c.in-None.is c.next.ensures.steps in
    c.graph.invariant ∙ ap (λ rows. c.args.rows.now.items ++ map graph_row rows) (sym (map-id c.graph.yielded) ∙ end.0)
