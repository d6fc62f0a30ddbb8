-- The term of one more entry is listed.
use Rattle.std.proofs.Common.{◌∙◌, ap, map, length, [], ◌∷◌}
use Rattle.std.proofs.Math.Nat.{div-lt_iff_lt-mul}
use Rattle.dcx_atom.specs.Arrays.{sides_list}
use Rattle.dcx_atom.specs.Linear.{linear_term}
use Rattle.dcx_atom.proofs.Lists.{list_below-push}
use Rattle.dcx_affine.specs.Joined.{vstack_meaning}
use Rattle.dcx_affine.proofs.joined.vstack_terms.Goals as goal

pub loop-k-preserved : goal.loop-k-preserved
loop-k-preserved c =
    ap (map (map linear_term)) c.in_ok-push.ensures.items
    ∙ list_below-push c.loop-k.k (vstack_meaning.terms (sides_list c.args.args.now)) (map linear_term) c.loop-k.lists.items c.in_ok-one_term.field-0 c.loop-k.invariant
    (ap (map linear_term) c.in_ok-one_term.ensures ∙ ap (λ x. x ∷ []) c.vstack_term.ensures)

pub vstack_term-requires-clause-row : goal.vstack_term-requires-clause-row
vstack_term-requires-clause-row c = (div-lt_iff_lt-mul {k = c.args.cols} {x = c.loop-k.k} {y = length c.args.rows.now} c.requires.some).1 c.loop-k-test.true
