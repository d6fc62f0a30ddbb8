-- The magnitude of a product is the product of the magnitudes.
use Rattle.std.proofs.Common.{rules, arith, ◌≡◌, ◌*◌, ◌<◌, ◌^◌, unsigned_abs, to_z-of_z, SFits}
use Rattle.std.specs.Int.{w128}
use Rattle.std.proofs.lemmas.Nat.{mul-lt}
use Rattle.dcx_chained.proofs.Sizes.{multiple_within}
use Rattle.dcx_chained.proofs.narrow.multiple_size.Goals as goal

pub overflow_mul-result : goal.overflow_mul-result
overflow_mul-result c =
    let z : c.unsigned_abs-magnitude.result * c.args.size < 2 ^ 124 = mul-lt c.unsigned_abs-magnitude.result c.args.size (2 ^ 62) (2 ^ 62) c.if-magnitude-ge-NARROW.false c.if-size-ge-NARROW.false in
    record { fits = omega (arith, z) }

pub returns-then-magnitude-ge-NARROW-clause-within : goal.returns-then-magnitude-ge-NARROW-clause-within
returns-then-magnitude-ge-NARROW-clause-within c = λ lt. absurd (omega (arith, lt))

pub returns-then-size-ge-NARROW-clause-within : goal.returns-then-size-ge-NARROW-clause-within
returns-then-size-ge-NARROW-clause-within c = λ lt. absurd (omega (arith, lt))

pub returns-clause-below : goal.returns-clause-below
returns-clause-below c = mul-lt c.unsigned_abs-magnitude.result c.args.size (2 ^ 62) (2 ^ 62) c.if-magnitude-ge-NARROW.false c.if-size-ge-NARROW.false

pub returns-clause-within : goal.returns-clause-within
returns-clause-within c = λ _ x within.
    let f : SFits w128 c.args.by = search rules in
    let a : c.unsigned_abs-magnitude.result ≡ unsigned_abs c.args.by = simp to_z-of_z at c.unsigned_abs-magnitude.ensures.value in
    multiple_within c.args.by x c.unsigned_abs-magnitude.result c.args.size a within
