-- The lists so far are those of the entries passed.
use Rattle.std.proofs.Common.{◌≡◌, map}
use Rattle.dcx_shape.specs.Shape.{sides_of}
use Rattle.dcx_atom.specs.Arrays.{list_below}
use Rattle.dcx_atom.specs.Linear.{linear_term}
use Rattle.dcx_affine.specs.Strided.{stride_terms}
use Rattle.dcx_affine.proofs.strided.all_terms.Given as goal

abbrev pub invariant-loop-k : goal.invariant-loop-k
invariant-loop-k g l = map (map linear_term) l.lists.items
    ≡ list_below l.k (λ k. stride_terms ((g.S.Strided.call l.op).coefficient (sides_of l.from)) ((g.S.Strided.call l.op).stride (sides_of l.from) k))
