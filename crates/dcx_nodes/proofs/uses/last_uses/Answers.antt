-- The uses by one node more, and those behind all nodes.
use Rattle.std.proofs.Common.{◌≡◌, ◌+◌, length, ap, sym, ◌∙◌, subst, arith}
use Rattle.std.proofs.lemmas.List.{with_items_is}
use Rattle.dcx_arena.specs.Nodes.{positions}
use Rattle.dcx_tree.specs.Problems.{roots_of}
use Rattle.dcx_nodes.specs.Uses.{IsPut, AreLastUses}
use Rattle.dcx_nodes.proofs.LastUses.{AreUsesTo, uses_more, uses_all}
use Rattle.dcx_nodes.proofs.uses.last_uses.Goals as goal

pub nodes-preserved : goal.nodes-preserved
nodes-preserved c =
    let p = c.args.problem.now in
    let i = c.nodes.node in
    let ys = c.put_last.new.uses in
    let many : length ys ≡ c.nodes.uses.len = c.put_last.ensures.counted ∙ c.deref_mut.ensures.len in
    subst (AreUsesTo p (i + 1)) (sym (with_items_is c.nodes.uses ys many))
    (uses_more p i c.nodes.uses.items ys c.nodes.invariant
    (subst (λ zs. IsPut zs i c.nodes.uses.items ys) (ap positions c.deref.ensures.value ∙ c.in_ok-ids.ensures)
    (subst (λ xs. IsPut (positions c.deref.result.now) i xs ys) c.deref_mut.ensures.value c.put_last.ensures)))

pub returns : goal.returns
returns c =
    let p = c.args.problem.now in
    let ys = c.put_roots.new.uses in
    let many : length ys ≡ c.nodes.uses.len = c.put_roots.ensures.counted ∙ c.deref_mut-2.ensures.len in
    let all : c.nodes.node ≡ length p.tree = omega (arith, c.nodes.auto.node-end, c.nodes-test.false, c.nodes-nodes.ensures.count) in
    subst (AreLastUses p) (sym (with_items_is c.nodes.uses ys many))
    (uses_all p c.nodes.uses.items ys (subst (λ i. AreUsesTo p i c.nodes.uses.items) all c.nodes.invariant)
    (subst (λ i. IsPut (roots_of p.objective p.constraints) i c.nodes.uses.items ys) c.nodes-nodes.ensures.count
    (subst (λ xs. IsPut (roots_of p.objective p.constraints) c.nodes-nodes.result xs ys) c.deref_mut-2.ensures.value c.put_roots.ensures)))
