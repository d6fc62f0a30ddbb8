-- Numbers of 64 bits take the same item.
use Rattle.std.proofs.Common.{List, map, length, ◌≤◌, subst, sym}
use Rattle.std.proofs.lemmas.List.{length-map}
use Rattle.std.proofs.lemmas.Result.{err_from_is_err_and}
use Rattle.dcx_shape.specs.declared.index.Pick.{Pick}
use Rattle.dcx_script_values.specs.Meant.{meant}
use Rattle.dcx_script_values.specs.View.{Gives}
use Rattle.dcx_operators.specs.Indices.{picks_of, index_list}
use Rattle.dcx_operators.specs.View.{evaluated}
use Rattle.dcx_script_values.proofs.Acts.{Gives-err}
use Rattle.dcx_operators.proofs.Indexed.{unpicked, list_picked}
use Rattle.dcx_operators.proofs.indices.list_indexed.Goals as goal

pub returns-in_err-picks : goal.returns-in_err-picks
returns-in_err-picks c = λ s.
    let p = err_from_is_err_and c.from_residual.result c.from_residual.ensures.1 in
    Gives-err meant c.from_residual.result s _ p.0 c.in_err-picks.field-0.0 p.1 p.2
    (unpicked c.in_err-picks.field-0.0 c.args.place (picks_of (map evaluated c.args.indices.now)) (index_list c.args.place (map meant c.args.values.now)) s (c.in_err-picks.ensures.picks s))

pub returns : goal.returns
returns c = λ s.
    let few : length (map meant c.args.values.now) ≤ 20000 = rw (length-map c.args.values.now meant) c.requires in
    subst (Gives meant c.index_list.result s)
    (sym (list_picked c.args.place (picks_of (map evaluated c.args.indices.now)) c.in_ok-picks.picks.items (map meant c.args.values.now) s (c.in_ok-picks.ensures.picks s) few))
    (subst (λ (ps : List Pick). Gives meant c.index_list.result s (index_list c.args.place (map meant c.args.values.now) ps s)) c.deref.ensures.value (c.index_list.ensures s))
