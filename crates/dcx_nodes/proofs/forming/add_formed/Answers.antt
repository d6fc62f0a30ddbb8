-- The node is formed, its rows are kept apart, and what isn't asked for behind it is given back.
use Rattle.std.proofs.Common.{subst, Ok, Err}
use Rattle.std.proofs.lemmas.Result.{err_from_is_err_and}
use Rattle.dcx_arena.specs.Nodes.{positions, sides_at}
use Rattle.dcx_entries.specs.Forming.{OnStop}
use Rattle.dcx_entries.specs.Standing.{all_forms}
use Rattle.dcx_nodes.specs.Formed.{entries_in, MarkedGives}
use Rattle.dcx_nodes.specs.SoFar.{StopsAt}
use Rattle.dcx_nodes.proofs.OneMore.{few_standing, answer_stops, more_or_not, memory_stops}
use Rattle.dcx_nodes.proofs.forming.add_formed.Goals as goal

pub keep-requires : goal.keep-requires
keep-requires g c =
    let t = g.C.Coef in
    few_standing t.of_number c.args.given.now.problem.now c.args.node.0 c.in_ok-formed.formed c.requires.there c.in_ok-formed.ensures.sides

pub returns-in_err-formed-clause-stop : goal.returns-in_err-formed-clause-stop
returns-in_err-formed-clause-stop g c =
    let t = g.C.Coef in
    let q = err_from_is_err_and c.from_residual.result c.from_residual.ensures.1 in
    rw (q.1, q.2)
    (answer_stops t.of_number t.number_of t.sum_gives t.change_gives t.parameter_gives c.args.given.now.problem.now c.args.given.now.setting.now c.args.given.now.reduced.now
    c.args.given.now.fixed.now c.args.node.0 c.args.forming.now c.requires.so_far c.requires.there c.in_err-formed.field-0.0
    (subst (λ st. OnStop c.in_err-formed.field-0.0
    (λ e. MarkedGives t.of_number t.number_of t.sum_gives t.change_gives t.parameter_gives c.args.given.now.problem.now c.args.given.now.setting.now c.args.given.now.reduced.now
    c.args.given.now.fixed.now (all_forms t.of_number st) c.args.node.0 (Err e))) c.deref.ensures.value c.in_err-formed.ensures.entries))

pub returns-in-Ok-clause-formed : goal.returns-in-Ok-clause-formed
returns-in-Ok-clause-formed g c =
    let t = g.C.Coef in
    more_or_not t.of_number t.number_of t.sum_gives t.change_gives t.parameter_gives c.args.given.now.problem.now c.args.given.now.setting.now c.args.given.now.reduced.now
    c.args.given.now.fixed.now c.args.node.0 c.args.forming.now c.requires.so_far c.put_standing.result
    c.requires.there c.args.uses.now c.requires.uses (positions c.args.ids.now) c.requires.ids c.in_ok-formed.formed c.in-Ok.kept _
    (subst (λ st. MarkedGives t.of_number t.number_of t.sum_gives t.change_gives t.parameter_gives c.args.given.now.problem.now c.args.given.now.setting.now c.args.given.now.reduced.now
    c.args.given.now.fixed.now (all_forms t.of_number st) c.args.node.0 (Ok (entries_in t.of_number c.in_ok-formed.formed))) c.deref.ensures.value c.in_ok-formed.ensures.entries)
    c.in-Ok.ensures.forms (c.in-Ok.ensures.sides (sides_at c.args.given.now.problem.now.tree c.args.node.0) c.in_ok-formed.ensures.sides)
    c.put_standing.ensures.ok c.in-Ok.ensures.rows c.in_ok-formed.ensures.next

pub returns-in-Ok-clause-stop : goal.returns-in-Ok-clause-stop
returns-in-Ok-clause-stop g c =
    let t = g.C.Coef in
    memory_stops c.put_standing.result
    (StopsAt t.of_number t.number_of t.sum_gives t.change_gives t.parameter_gives c.args.given.now.problem.now c.args.given.now.setting.now c.args.given.now.reduced.now c.args.given.now.fixed.now
    c.args.node.0) c.put_standing.ensures.err
