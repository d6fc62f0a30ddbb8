-- The roots are nodes, and the list of their ids names them.
use Rattle.std.proofs.Common.{ℕ, ◌≡◌, ◌<◌, List, length, sym, ap, ◌∙◌, subst}
use Rattle.std.specs.List.{All}
use Rattle.std.specs.Prelude.{IfOk}
use Rattle.dcx_arena.specs.Gather.{IsGathered}
use Rattle.dcx_arena.specs.Nodes.{positions}
use Rattle.dcx_tree.specs.Problems.{roots_of}
use Rattle.dcx_tree.proofs.Gathered.{roots_below}
use Rattle.dcx_tree.proofs.gathering.reached_part.Goals as goal

pub gathered-requires : goal.gathered-requires
gathered-requires c =
    let ids_are = ap positions c.deref.ensures.value ∙ c.in_ok-ids.ensures ∙ ap (roots_of c.args.roots.now.objective) c.as_slice.ensures in
    subst (All (λ (r : ℕ). r < length c.args.source.now)) (sym ids_are)
    (roots_below c.args.source.now c.args.roots.now.objective c.args.roots.now.constraints c.requires.objective c.requires.constraints)

pub returns : goal.returns
returns c =
    let ids_are = ap positions c.deref.ensures.value ∙ c.in_ok-ids.ensures ∙ ap (roots_of c.args.roots.now.objective) c.as_slice.ensures in
    record {
      gathered = subst (λ (z : List ℕ). IfOk c.gathered.result (λ r. IsGathered c.args.source.now z r.0 (positions r.1.items))) ids_are c.gathered.ensures.gathered;
      whole = c.gathered.ensures.whole;
      nodes = c.gathered.ensures.nodes;
    }
