-- One more pair is listed, of an entry that the product has.
use Rattle.std.proofs.Common.{◌∙◌, ap₂, sym, [], ◌∷◌, ◌++◌}
use Rattle.dcx_shape.specs.Shape.{sides_of}
use Rattle.dcx_atom.proofs.Lists.{list_below-next}
use Rattle.dcx_affine.specs.Pairing.{product_pair}
use Rattle.dcx_affine.proofs.Products.{product_entry}
use Rattle.dcx_affine.proofs.pairing.product_pairs.Goals as goal

pub product_pair-requires-clause-entry : goal.product_pair-requires-clause-entry
product_pair-requires-clause-entry c = product_entry (sides_of c.args.a) (sides_of c.args.b) c.args.k c.requires.shape c.requires.entry

pub loop-t-preserved : goal.loop-t-preserved
loop-t-preserved c =
    c.in_ok-push.ensures.items ∙ ap₂ (λ xs x. xs ++ x ∷ []) c.loop-t.invariant c.product_pair.ensures
    ∙ sym (list_below-next c.loop-t.t (product_pair (sides_of c.args.a) (sides_of c.args.b) c.args.k))
