-- When the loop ends, every entry has its source.
use Rattle.std.proofs.Common.{◌≡◌, [], ◌∷◌, ◌++◌, arith, rules}
use Rattle.dcx_shape.specs.Sides.{entries_of}
use Rattle.dcx_shape.specs.Shape.{sides_of}
use Rattle.dcx_shape.specs.Reshape.{IsReshape, IsSource}
use Rattle.dcx_shape.proofs.Permutations.{within_from_permutation}
use Rattle.dcx_shape.proofs.Pushes.{each_pushed}
use Rattle.dcx_shape.proofs.Reshapes.{reshape_from_sources, reshape_permutes}
use Rattle.dcx_shape.proofs.reshape.reshape_map.Goals as goal

pub overflow_cast-size : goal.overflow_cast-size
overflow_cast-size c = search rules

pub loop-k-init : goal.loop-k-init
loop-k-init c = search rules

pub source-requires-clause-sizes : goal.source-requires-clause-sizes
source-requires-clause-sizes c = search rules

pub loop-k-smaller : goal.loop-k-smaller
loop-k-smaller c = search rules

pub loop-k-preserved : goal.loop-k-preserved
loop-k-preserved c =
    let pushed : c.push.new.self.items ≡ c.loop-k.places.items ++ c.source.result ∷ [] = search rules in
    each_pushed (IsSource c.args.by_columns (sides_of c.args.from) (sides_of c.args.to)) c.loop-k.places.items c.push.new.self.items c.source.result c.loop-k.k pushed
    c.loop-k.invariant.0 c.loop-k.invariant.1 c.source.ensures.source

reshaped : (c : goal.After-from_vec) → IsReshape c.args.by_columns (sides_of c.args.from) (sides_of c.args.to) c.from_vec.result
reshaped c =
    let sizes : entries_of (sides_of c.args.from) ≡ entries_of (sides_of c.args.to) = omega arith in
    rw c.from_vec.ensures (reshape_from_sources c.args.by_columns (sides_of c.args.from) (sides_of c.args.to) c.loop-k.places.items sizes (omega arith) (λ k h. c.loop-k.invariant.1 k (omega arith)))

pub returns-clause-ok : goal.returns-clause-ok
returns-clause-ok c = reshaped c

pub returns-clause-permutation : goal.returns-clause-permutation
returns-clause-permutation c = reshape_permutes c.args.by_columns (sides_of c.args.from) (sides_of c.args.to) c.from_vec.result (reshaped c)

pub returns-clause-within : goal.returns-clause-within
returns-clause-within c = within_from_permutation (entries_of (sides_of c.args.from)) c.from_vec.result (returns-clause-permutation c)
