-- Numbers of 64 bits take the same of the node.
use Rattle.std.proofs.Common.{List, map, subst, sym}
use Rattle.std.proofs.lemmas.Result.{err_from_is_err_and}
use Rattle.dcx_shape.specs.declared.index.Pick.{Pick}
use Rattle.dcx_script_values.specs.View.{Gives}
use Rattle.dcx_operators.specs.Indices.{picks_of, index_node}
use Rattle.dcx_operators.specs.View.{evaluated}
use Rattle.dcx_script_values.proofs.Acts.{Gives-err}
use Rattle.dcx_operators.proofs.Indexed.{unpicked, node_picked}
use Rattle.dcx_operators.proofs.indices.node_indexed.Goals as goal

pub returns-in_err-picks : goal.returns-in_err-picks
returns-in_err-picks c =
    let s = c.args.state.now in
    let p = err_from_is_err_and c.from_residual.result c.from_residual.ensures.1 in
    Gives-err (λ i. i.0) c.from_residual.result s _ p.0 c.in_err-picks.field-0.0 p.1 p.2
    (unpicked c.in_err-picks.field-0.0 c.args.place (picks_of (map evaluated c.args.indices.now)) (index_node c.args.place c.args.node.0) s (c.in_err-picks.ensures.picks s))

pub returns : goal.returns
returns c =
    let s = c.args.state.now in
    subst (Gives (λ i. i.0) c.index_node.result c.index_node.new.state)
    (sym (node_picked c.args.place (picks_of (map evaluated c.args.indices.now)) c.in_ok-picks.picks.items c.args.node.0 s (c.in_ok-picks.ensures.picks s) c.in_ok-picks.ensures.steps))
    (subst (λ (ps : List Pick). Gives (λ i. i.0) c.index_node.result c.index_node.new.state (index_node c.args.place c.args.node.0 ps s)) c.deref.ensures.value c.index_node.ensures)
