-- The term of one more entry is listed.
use Rattle.std.proofs.Common.{◌∙◌, ap, map, [], ◌∷◌}
use Rattle.dcx_atom.specs.Arrays.{sides_list}
use Rattle.dcx_atom.specs.Linear.{linear_term}
use Rattle.dcx_atom.proofs.Lists.{list_below-push}
use Rattle.dcx_affine.specs.Joined.{hstack_meaning}
use Rattle.dcx_affine.proofs.joined.hstack_terms.Goals as goal

pub loop-k-preserved : goal.loop-k-preserved
loop-k-preserved c =
    ap (map (map linear_term)) c.in_ok-push.ensures.items
    ∙ list_below-push c.loop-k.k (hstack_meaning.terms (sides_list c.args.args.now)) (map linear_term) c.loop-k.lists.items c.in_ok-one_term.field-0 c.loop-k.invariant
    (ap (map linear_term) c.in_ok-one_term.ensures ∙ ap (λ x. x ∷ []) c.hstack_term.ensures)
