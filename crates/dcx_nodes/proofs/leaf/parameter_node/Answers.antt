-- The parameter is listed, and its entries are asked for.
use Rattle.std.proofs.Common.{◌≡◌, [], map, ap, ◌∙◌, subst, arith}
use Rattle.dcx_call.specs.declared.call.Call.TheVariants as calls
use Rattle.dcx_tree.specs.Nodes.{number_in}
use Rattle.dcx_tree.specs.Meaning.{names_in}
use Rattle.dcx_nodes.specs.Given.{IsReadable}
use Rattle.dcx_nodes.proofs.AtNode.{the_node, call_is}
use Rattle.dcx_nodes.proofs.Leaves.{parameter_small, parameter_counted, parameter_gives}
use Rattle.dcx_nodes.proofs.leaf.parameter_node.Goals as goal

pub parameter_entries-requires : goal.parameter_entries-requires
parameter_entries-requires g c =
    let t = g.C.Coef in
    let p = c.args.given.now.problem.now in
    let setting = c.args.given.now.setting.now in
    let (n, at) = the_node p c.args.node.0 (calls.Parameter c.args.parameter.now) c.requires.call in
    let may : IsReadable t.can_read setting (calls.Parameter c.args.parameter.now) =
    subst (IsReadable t.can_read setting) (call_is p c.args.node.0 (calls.Parameter c.args.parameter.now) c.requires.call n at) (c.requires.ready.readable c.args.node.0 n at c.requires.reduced) in
    λ j b. may j (omega (arith, b, c.size-size.ensures.value))

pub returns-in-Ok-clause-count : goal.returns-in-Ok-clause-count
returns-in-Ok-clause-count g c =
    let t = g.C.Coef in
    let p = c.args.given.now.problem.now in
    let q = c.args.parameter.now in
    let (n, at) = the_node p c.args.node.0 (calls.Parameter q) c.requires.call in
    parameter_counted t.of_number t.number_of t.sum_gives t.change_gives t.parameter_gives p c.args.given.now.setting.now c.args.given.now.reduced.now c.args.given.now.fixed.now [] c.args.node.0
    q c.requires.call _ c.size-size.result c.in-Ok.entries c.size-size.ensures.value c.in-Ok.ensures n at

pub returns-in-Ok-clause-entries : goal.returns-in-Ok-clause-entries
returns-in-Ok-clause-entries g c forms =
    let t = g.C.Coef in
    let p = c.args.given.now.problem.now in
    let q = c.args.parameter.now in
    parameter_gives t.of_number t.number_of t.sum_gives t.change_gives t.parameter_gives p c.args.given.now.setting.now c.args.given.now.reduced.now c.args.given.now.fixed.now forms c.args.node.0
    q c.requires.call _ c.size-size.result c.in-Ok.entries c.size-size.ensures.value c.in-Ok.ensures
    (c.parameter_position-position.ensures ∙ ap (λ qs. number_in (map (λ w. w.name) qs) q.name) c.as_slice.ensures)

pub overflow_cast-position : goal.overflow_cast-position
overflow_cast-position g c =
    let p = c.args.given.now.problem.now in
    let name = c.args.parameter.now.name in
    let is : c.parameter_position-position.result ≡ number_in (names_in p).parameters name = c.parameter_position-position.ensures
    ∙ ap (λ qs. number_in (map (λ w. w.name) qs) name) c.as_slice.ensures in
    omega (arith, is, parameter_small p name)
