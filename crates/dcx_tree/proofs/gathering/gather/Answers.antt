-- There are two more ends for each constraint, and the part that the roots reach is a problem.
use Rattle.std.proofs.Common.{◌≡◌, ◌-◌, ◌*◌, List, take, drop, length, refl, ap, ◌∙◌}
use Rattle.dcx_arena.specs.declared.node.NodeId.{NodeId}
use Rattle.dcx_tree.proofs.Gathered.{ends_length, rest_length, handed_on}
use Rattle.dcx_tree.proofs.gathering.gather.Goals as goal

pub kept-kept-requires : goal.kept-kept-requires
kept-kept-requires c =
    let n = ends_length c.args.source.now c.in_ok-tree.tree c.in_ok-tree.ends.items c.args.roots.now.objective c.args.roots.now.constraints c.in_ok-tree.ensures.gathered in
    ap (λ (xs : List NodeId). length (take (length xs - 1) (drop 1 xs))) c.deref.ensures.value ∙ rest_length c.in_ok-tree.ends.items (2 * length c.args.roots.now.constraints) n

pub invariant_of-result : goal.invariant_of-result
invariant_of-result c =
    let made = c.in_ok-tree-2.ensures.next in
    let w = handed_on c.args.source.now c.args.roots.now c.requires.objective c.requires.constraints c.requires.declared c.in_ok-tree.tree c.in_ok-tree-2.tree
    c.in_ok-tree.ends.items c.deref.result.now
    c.index-objective.result.now c.in_ok-tree-2.constraints.items c.from_vec-3.result c.in_ok-tree-2.variables.items c.from_vec.result c.in_ok-tree-2.parameters.items c.from_vec-2.result
    c.in_ok-tree-2.ensures.made c.deref.ensures.value c.from_vec-3.ensures c.from_vec.ensures c.from_vec-2.ensures c.in_ok-tree.ensures.gathered c.in_ok-tree.ensures.whole c.in_ok-tree.ensures.nodes
    c.index-objective.ensures (rw made at c.kept-kept.ensures.sides) (rw made at c.kept-kept.ensures.demands) (rw made at c.kept-kept.ensures.variables) (rw made at c.kept-kept.ensures.parameters) in
    record { nodes = w.nodes; objective_kept = w.objective; constraints_kept = w.constraints; numbered = w.numbered; declared = ∣ w.declared ∣₁; squares = w.squares }

pub returns-clause-ok : goal.returns-clause-ok
returns-clause-ok c =
    let made = c.in_ok-tree-2.ensures.next in
    let w = handed_on c.args.source.now c.args.roots.now c.requires.objective c.requires.constraints c.requires.declared c.in_ok-tree.tree c.in_ok-tree-2.tree
    c.in_ok-tree.ends.items c.deref.result.now
    c.index-objective.result.now c.in_ok-tree-2.constraints.items c.from_vec-3.result c.in_ok-tree-2.variables.items c.from_vec.result c.in_ok-tree-2.parameters.items c.from_vec-2.result
    c.in_ok-tree-2.ensures.made c.deref.ensures.value c.from_vec-3.ensures c.from_vec.ensures c.from_vec-2.ensures c.in_ok-tree.ensures.gathered c.in_ok-tree.ensures.whole c.in_ok-tree.ensures.nodes
    c.index-objective.ensures (rw made at c.kept-kept.ensures.sides) (rw made at c.kept-kept.ensures.demands) (rw made at c.kept-kept.ensures.variables) (rw made at c.kept-kept.ensures.parameters) in
    record { nodes = w.gathered; sense = refl; objective_place = refl; demands = w.demands; variables = w.variables; parameters = w.parameters }
