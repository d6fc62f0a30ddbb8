-- At first nothing is finished, and then each root finishes what it reaches, before the next one.
use Rattle.std.proofs.Common.{◌≡◌, ◌<◌, ◌+◌, None, ◌++◌, ◌∷◌, ◌∙◌, sym, refl, ap, length, get_or, drop, drop-cons, add-one, arith}
use Rattle.std.specs.List.{flat_map}
use Rattle.std.proofs.lemmas.List.{length-replicate}
use Rattle.std.proofs.lemmas.Option.{none-some}
use Rattle.dcx_arena.specs.Nodes.{positions}
use Rattle.dcx_arena.specs.Chains.{nodes_of, nodes_in}
use Rattle.dcx_arena.specs.Gather.{with_all, postorder}
use Rattle.dcx_arena.proofs.Kept.{count_nodes}
use Rattle.dcx_arena.proofs.Numbers.{numbering_none}
use Rattle.dcx_arena.proofs.Orders.{with_all-append}
use Rattle.dcx_arena.proofs.Positions.{position_below, position_at, length-positions}
use Rattle.dcx_arena.proofs.walk.finish_all.Goals as goal

pub loop-root-init : goal.loop-root-init
loop-root-init g c =
    let n = count_nodes c.args.store.now.cells.items c.args.store.now.stored.items in
    let l : c.len.result ≡ length c.args.store.now.stored.items = c.len.ensures ∙ c.args.store.now.stored.ok.0 in
    record {
      finished = record {
        count = ap length c.in_ok-finished.ensures.numbers ∙ length-replicate c.len.result None ∙ l ∙ sym n;
        numbering = rw (c.in_ok-finished.ensures.order, c.in_ok-finished.ensures.numbers) (numbering_none c.len.result);
        closed = rw c.in_ok-finished.ensures.order (λ k i a e. absurd (none-some i e));
      };
      order = rw c.in_ok-finished.ensures.order refl;
    }

pub finish_root-requires-clause-below : goal.finish_root-requires-clause-below
finish_root-requires-clause-below g c = position_below c.args.roots.now (length (nodes_in c.args.store.now)) c.loop-root.root-index c.requires.below c.loop-root-test.true

pub loop-root-preserved : goal.loop-root-preserved
loop-root-preserved g c =
    let ps = positions c.args.roots.now in
    let i = c.loop-root.root-index in
    let lt : i < length ps = let n = length-positions c.args.roots.now in omega (arith, n, c.loop-root-test.true) in
    let post = postorder (nodes_of c.args.store.now.cells.items c.args.store.now.stored.items) in
    let d : drop i ps ≡ get_or ps i 0 ∷ drop (i + 1) ps = rw (add-one, drop-cons ps i 0) refl in
    let e : with_all c.loop-root.finished.order.items (post (get_or ps i 0) ++ flat_map post (drop (i + 1) ps)) ≡ _ =
    ap (λ xs. with_all c.loop-root.finished.order.items (flat_map post xs)) (sym d) ∙ c.loop-root.invariant.order in
    record {
      finished = c.in_ok-finish_root.ensures.finished;
      order = ap (λ xs. with_all xs (flat_map post (drop (i + 1) ps)))
          (c.in_ok-finish_root.ensures.order ∙ ap (λ p. with_all c.loop-root.finished.order.items (post p)) (sym (position_at c.args.roots.now i)))
          ∙ sym (with_all-append c.loop-root.finished.order.items (post (get_or ps i 0)) (flat_map post (drop (i + 1) ps))) ∙ e;
    }
