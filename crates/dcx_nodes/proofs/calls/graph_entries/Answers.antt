-- The unknowns of the graph are the atom's own.
use Rattle.std.proofs.Common.{◌≡◌, length, Ok, Err, sym, ap, ◌∙◌, subst, arith}
use Rattle.std.proofs.lemmas.Result.{err_from_is_err_and}
use Rattle.dcx_shape.specs.Sides.{entries_of}
use Rattle.dcx_arena.specs.Nodes.{positions, sides_at}
use Rattle.dcx_call.specs.declared.call.Call.TheVariants as calls
use Rattle.dcx_call.specs.Atoms.{atom_meaning}
use Rattle.dcx_tree.specs.Nodes.{arg_sides}
use Rattle.dcx_entries.specs.Forming.{FormsEach}
use Rattle.dcx_entries.specs.Standing.{all_forms}
use Rattle.dcx_nodes.specs.Formed.{ReducedGives}
use Rattle.dcx_nodes.proofs.AtNode.{the_node}
use Rattle.dcx_nodes.proofs.Auxiliaries.{next_graph}
use Rattle.dcx_nodes.proofs.Gives.{formed_weaker}
use Rattle.dcx_nodes.proofs.AtomNodes.{graph_of, atom_within, results_here, room_here, fits_here, rows_here, AtomGives, atom_gives}
use Rattle.dcx_nodes.proofs.calls.graph_entries.Goals as goal

pub atom_entries-requires-clause-size : goal.atom_entries-requires-clause-size
atom_entries-requires-clause-size g c =
    results_here c.args.given.now.problem.now c.args.node.0 c.requires.call.0 c.requires.call.1 c.args.graph.now c.requires.graph ∙ sym (c.size-size.ensures.value ∙ ap entries_of c.shape.ensures)

pub atom_entries-requires-clause-few : goal.atom_entries-requires-clause-few
atom_entries-requires-clause-few g c =
    fits_here c.args.given.now.problem.now c.args.node.0 c.requires.call.0 c.requires.call.1 c.args.graph.now c.requires.graph c.args.given.now.reduced.now c.requires.ready.few c.requires.reduced
    c.args.next.now c.requires.next

pub atom_entries-requires-clause-there : goal.atom_entries-requires-clause-there
atom_entries-requires-clause-there g c =
    rows_here c.args.given.now.problem.now c.args.node.0 c.requires.call.0 c.requires.call.1 c.args.graph.now c.requires.graph c.args.given.now.reduced.now c.requires.ready.few c.requires.reduced
    c.args.next.now c.requires.next

pub returns-in_err-entries-clause-entries : goal.returns-in_err-entries-clause-entries
returns-in_err-entries-clause-entries g c =
    let t = g.C.Coef in
    let p = c.args.given.now.problem.now in
    let reduced = c.args.given.now.reduced.now in
    let i = c.args.node.0 in
    let forms = all_forms t.of_number c.args.args.now.standing.now in
    let ids = positions c.args.args.now.ids.now in
    let (m, call) = c.requires.call in
    let (n, at) = the_node p i (calls.Atom m) call in
    let size_is : c.size-size.result ≡ entries_of (sides_at p.tree i) = c.size-size.ensures.value ∙ ap entries_of c.shape.ensures in
    let q = err_from_is_err_and c.from_residual.result c.from_residual.ensures.1 in
    rw (q.1, q.2)
    (formed_weaker (Err c.in_err-entries.field-0.0)
    (FormsEach (AtomGives p i m call n at t.of_number t.number_of t.sum_gives t.change_gives t.parameter_gives c.args.given.now.setting.now reduced c.args.given.now.fixed.now forms ids
    c.requires.ids ids c.args.next.now (arg_sides p.tree n)) c.size-size.result)
    (ReducedGives t.of_number t.number_of t.sum_gives t.change_gives t.parameter_gives p c.args.given.now.setting.now reduced c.args.given.now.fixed.now forms i)
    (λ r h. atom_gives p i m call n at t.of_number t.number_of t.sum_gives t.change_gives t.parameter_gives c.args.given.now.setting.now reduced c.args.given.now.fixed.now forms ids c.requires.ids
    c.requires.ready.reduced_counted c.size-size.result r size_is
    (subst (λ first. FormsEach
    (AtomGives p i m call n at t.of_number t.number_of t.sum_gives t.change_gives t.parameter_gives c.args.given.now.setting.now reduced c.args.given.now.fixed.now forms ids c.requires.ids ids
    first (arg_sides p.tree n)) c.size-size.result r) c.requires.next h))
    (c.in_err-entries.ensures (atom_meaning m) (arg_sides p.tree n) (graph_of p i m call n at c.args.graph.now c.requires.graph c.size-size.result size_is)))

pub overflow_cast-next : goal.overflow_cast-next
overflow_cast-next g c =
    let room = room_here c.args.given.now.problem.now c.args.node.0 c.requires.call.0 c.requires.call.1 c.args.graph.now c.requires.graph c.args.given.now.reduced.now c.requires.ready.few
    c.requires.reduced c.args.next.now c.requires.next in
    let many = ap length c.as_slice.ensures in
    omega (arith, room, many)

pub overflow_add-next : goal.overflow_add-next
overflow_add-next g c =
    let room = room_here c.args.given.now.problem.now c.args.node.0 c.requires.call.0 c.requires.call.1 c.args.graph.now c.requires.graph c.args.given.now.reduced.now c.requires.ready.few
    c.requires.reduced c.args.next.now c.requires.next in
    let many = ap length c.as_slice.ensures in
    omega (arith, room, many)

pub returns-clause-count : goal.returns-clause-count
returns-clause-count g c =
    let p = c.args.given.now.problem.now in
    let i = c.args.node.0 in
    let (m, call) = c.requires.call in
    let (n, at) = the_node p i (calls.Atom m) call in
    let size_is : c.size-size.result ≡ entries_of (sides_at p.tree i) = c.size-size.ensures.value ∙ ap entries_of c.shape.ensures in
    (c.in_ok-entries.ensures (atom_meaning m) (arg_sides p.tree n) (graph_of p i m call n at c.args.graph.now c.requires.graph c.size-size.result size_is)).0 ∙ size_is

pub returns-clause-entries : goal.returns-clause-entries
returns-clause-entries g c =
    let t = g.C.Coef in
    let p = c.args.given.now.problem.now in
    let reduced = c.args.given.now.reduced.now in
    let i = c.args.node.0 in
    let forms = all_forms t.of_number c.args.args.now.standing.now in
    let ids = positions c.args.args.now.ids.now in
    let (m, call) = c.requires.call in
    let (n, at) = the_node p i (calls.Atom m) call in
    let size_is : c.size-size.result ≡ entries_of (sides_at p.tree i) = c.size-size.ensures.value ∙ ap entries_of c.shape.ensures in
    atom_gives p i m call n at t.of_number t.number_of t.sum_gives t.change_gives t.parameter_gives c.args.given.now.setting.now reduced c.args.given.now.fixed.now forms ids c.requires.ids
    c.requires.ready.reduced_counted c.size-size.result (Ok c.in_ok-entries.entries) size_is
    (subst (λ first. FormsEach
    (AtomGives p i m call n at t.of_number t.number_of t.sum_gives t.change_gives t.parameter_gives c.args.given.now.setting.now reduced c.args.given.now.fixed.now forms ids c.requires.ids ids
    first (arg_sides p.tree n)) c.size-size.result (Ok c.in_ok-entries.entries)) c.requires.next
    (c.in_ok-entries.ensures (atom_meaning m) (arg_sides p.tree n) (graph_of p i m call n at c.args.graph.now c.requires.graph c.size-size.result size_is)))

pub returns-clause-next : goal.returns-clause-next
returns-clause-next g c =
    let next = next_graph c.args.given.now.problem.now c.args.given.now.reduced.now c.args.node.0 c.args.graph.now
    (atom_within c.args.given.now.problem.now c.args.node.0 c.requires.call.0 c.requires.call.1) c.requires.reduced c.requires.graph in
    let many = ap length c.as_slice.ensures in
    omega (arith, next, many, c.requires.next)
