-- The arguments of a marked node are marked.
use Rattle.std.proofs.Common.{◌≡◌, ℕ, ◌<◌, ◌⊎◌, ◌↔◌, true, List, All, length, sym, ap, subst, ◌∙◌}
use Rattle.dcx_arena.specs.Nodes.{positions, args_at}
use Rattle.dcx_arena.specs.Gather.{has}
use Rattle.dcx_tree.specs.Values.{IsMarked}
use Rattle.dcx_tree.proofs.Marks.{mark_at, over, through}
use Rattle.dcx_tree.proofs.reached.mark_args.Goals as goal

pub mark_all-requires : goal.mark_all-requires
mark_all-requires c =
    let are = ap positions c.deref.ensures.value ∙ c.in_ok-args.ensures in
    subst (All (λ (a : ℕ). a < length c.args.marks.now.items)) (sym are) c.requires.below

pub returns-then-not-index-clause-marked : goal.returns-then-not-index-clause-marked
returns-then-not-index-clause-marked c =
    over c.args.marks.now.items c.args.node.0 (λ j. has (args_at c.args.tree.now c.args.node.0) j ≡ true)
    (mark_at c.args.marks.now.items c.args.node.0 c.index.result.now c.requires.room c.index.ensures ∙ c.if-not-index.true)

pub returns-clause-marked : goal.returns-clause-marked
returns-clause-marked c =
    let are = ap positions c.deref.ensures.value ∙ c.in_ok-args.ensures in
    let old = c.args.marks.now.items in
    let now = c.mark_all.new.marks.items in
    let more = subst (λ (xs : List ℕ). (i : ℕ) → IsMarked now i ↔ (IsMarked old i ⊎ (has xs i ≡ true))) are c.mark_all.ensures.marked in
    through old now c.args.node.0 (λ j. has (args_at c.args.tree.now c.args.node.0) j ≡ true)
    (mark_at old c.args.node.0 c.index.result.now c.requires.room c.index.ensures ∙ c.if-not-index.false) more
