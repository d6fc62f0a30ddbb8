-- The roots are in the order of what they reach; the part and the places of the roots are what gathering asks.
use Rattle.std.proofs.Common.{◌≡◌, ◌∙◌, List, ℕ, ap, subst, length}
use Rattle.dcx_arena.specs.Nodes.{Node, positions}
use Rattle.dcx_arena.specs.Chains.{nodes_in}
use Rattle.dcx_arena.specs.Gather.{order_of, AreRenamed, StandFor}
use Rattle.dcx_arena.proofs.Orders.{roots_there}
use Rattle.dcx_arena.proofs.tree.Tree.gathered.Goals as goal

pub numbers_of-requires-clause-there : goal.numbers_of-requires-clause-there
numbers_of-requires-clause-there g c =
    let o : c.in_ok-finished.finished.order.items ≡ order_of (nodes_in c.self.inside.store) (positions c.args.roots.now) = c.in_ok-finished.ensures.order in
    λ a h. rw o (roots_there g.C.Operator.gives (nodes_in c.self.inside.store) c.self.invariant.nodes (positions c.args.roots.now) a h)

pub returns-clause-gathered : goal.returns-clause-gathered
returns-clause-gathered g c =
    let ps = positions c.args.roots.now in
    let nodes = nodes_in c.self.inside.store in
    let part = nodes_in c.in_ok-part.part in
    let order = c.in_ok-finished.finished.order.items in
    let o : order ≡ order_of nodes ps = c.in_ok-finished.ensures.order in
    let seen : order ≡ order_of c.args.self.now ps = o ∙ ap (λ (ns : List (Node g.row.C.Denot)). order_of ns ps) c.self.view_is in
    let renamed : AreRenamed nodes order part = c.in_ok-part.ensures.renamed in
    let renamed' : AreRenamed c.args.self.now order part = subst (λ (ns : List (Node g.row.C.Denot)). AreRenamed ns order part) c.self.view_is renamed in
    record {
      count = c.in_ok-part.ensures.count ∙ ap length seen;
      renamed = subst (λ (os : List ℕ). AreRenamed c.args.self.now os part) seen renamed';
      roots_stand = subst (λ (os : List ℕ). StandFor os (positions c.in_ok-ends.ends.items) ps) seen c.in_ok-ends.ensures;
    }
