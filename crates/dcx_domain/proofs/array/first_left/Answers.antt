-- The array is within the attribute where the loop ends, and not where an entry leaves.
use Rattle.std.proofs.Common.{◌<◌, refl, arith, true≢false}
use Rattle.dcx_shape.specs.Shape.{sides_of}
use Rattle.dcx_shape.specs.Sides.{entries_of}
use Rattle.dcx_atom.specs.Arrays.{number_at}
use Rattle.dcx_domain.proofs.Entries.{all_keep, leaves_not}
use Rattle.dcx_domain.proofs.array.first_left.Goals as goal

pub returns-then-not-keeps_at-clause-inside : goal.returns-then-not-keeps_at-clause-inside
returns-then-not-keeps_at-clause-inside c =
    let s = sides_of c.args.shape in
    let x = number_at c.args.numbers.now in
    let there : c.loop-entry.entry < entries_of s = let below = c.loop-entry-test.true in let size = c.size-entry-end.ensures.value in omega (arith, below, size) in
    ((λ e. absurd (true≢false e)), (λ h. absurd (leaves_not c.args.attribute s x c.loop-entry.entry there c.if-not-keeps_at.ensures h)))

pub returns-clause-inside : goal.returns-clause-inside
returns-clause-inside c =
    let size = c.size-entry-end.ensures.value in
    let past = c.loop-entry-test.false in
    ((λ e. all_keep c.args.attribute (sides_of c.args.shape) (number_at c.args.numbers.now) (λ k lt. c.loop-entry.invariant k (omega (arith, lt, size, past)))), (λ h. refl))
