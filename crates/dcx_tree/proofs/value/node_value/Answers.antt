-- The arguments are the values that are kept.
use Rattle.std.proofs.Common.{ℕ, All, Some, IsSome, map, sym, ap, ◌∙◌, subst}
use Rattle.dcx_arena.specs.Nodes.{positions, args_at}
use Rattle.dcx_tree.specs.Values.{array_at}
use Rattle.dcx_tree.proofs.Forming.{arguments_kept}
use Rattle.dcx_tree.proofs.value.node_value.Goals as goal

pub copies_of-requires : goal.copies_of-requires
copies_of-requires c =
    subst (All (λ (a : ℕ). IsSome (array_at c.args.arrays.now a))) (sym (ap positions c.deref.ensures.value ∙ c.in-Ok.ensures)) c.requires.args

pub apply-requires-in-Ok-copies_of-clause-args : goal.apply-requires-in-Ok-copies_of-clause-args
apply-requires-in-Ok-copies_of-clause-args c =
    let nodes = c.args.tree.now in
    let ids = args_at nodes c.args.node.0 in
    let arrays = c.args.arrays.now in
    arguments_kept nodes c.requires.nodes c.args.setting.now c.args.point.now c.args.node.0 arrays c.requires.values ids c.deref-in-Ok-copies_of.result.now
    (ap (map Some) c.deref-in-Ok-copies_of.ensures.value ∙ c.in-Ok-copies_of.ensures ∙ ap (map (array_at arrays)) (ap positions c.deref.ensures.value ∙ c.in-Ok.ensures))
