-- The entries before are as asked, and this one isn't, or is.
use Rattle.std.proofs.Common.{◌≡◌, ◌<◌, length, ap, ap₂, subst, arith, below_more}
use Rattle.dcx_math.specs.Rational.{ℚ, ◌-ℚ◌}
use Rattle.dcx_frac.specs.Frac.{value}
use Rattle.dcx_shape.specs.Sides.{entries_of}
use Rattle.dcx_atom.specs.Arrays.{number_at}
use Rattle.dcx_convex.specs.Problems.{Holds}
use Rattle.dcx_tree.specs.Meaning.{relation_of}
use Rattle.dcx_cert_values.specs.Broken.{HoldsAt}
use Rattle.dcx_cert_values.proofs.Comparing.{number_same, number_stands}
use Rattle.dcx_cert_values.proofs.comparison.first_broken.Goals as goal

pub returns-then-not-holds : goal.returns-then-not-holds
returns-then-not-holds c =
    let lefts = c.args.left.now.entries in
    let rights = c.args.right.now.entries in
    let j = c.loop-entry.entry in
    let size = ap entries_of c.requires in
    let lt : j < length lefts = omega (arith, c.args.left.now.full, c.size-entry-end.ensures.value, c.loop-entry-test.true) in
    let rt : j < length rights = omega (arith, c.args.right.now.full, size, c.size-entry-end.ensures.value, c.loop-entry-test.true) in
    let x = number_same lefts c.as_slice-lefts.result.now j c.index-lefts-entry.result lt c.as_slice-lefts.ensures c.index-lefts-entry.is in
    let y = number_same rights c.as_slice-rights.result.now j c.index-rights-entry.result rt c.as_slice-rights.ensures c.index-rights-entry.is in
    let same : value c.index-lefts-entry.result -ℚ value c.index-rights-entry.result ≡ number_at lefts j -ℚ number_at rights j = ap₂ (λ (a : ℚ) (b : ℚ). a -ℚ b) x y in
    record {
      left_is = number_stands lefts c.as_slice-lefts.result.now j c.index-lefts-entry.result lt c.as_slice-lefts.ensures c.index-lefts-entry.is;
      right_is = number_stands rights c.as_slice-rights.result.now j c.index-rights-entry.result rt c.as_slice-rights.ensures c.index-rights-entry.is;
      before = c.loop-entry.invariant;
      broken = subst (λ (z : ℚ). ¬ Holds (relation_of c.args.kind) z) same c.if-not-holds.ensures;
    }

pub loop-entry-preserved : goal.loop-entry-preserved
loop-entry-preserved c =
    let lefts = c.args.left.now.entries in
    let rights = c.args.right.now.entries in
    let j = c.loop-entry.entry in
    let size = ap entries_of c.requires in
    let lt : j < length lefts = omega (arith, c.args.left.now.full, c.size-entry-end.ensures.value, c.loop-entry-test.true) in
    let rt : j < length rights = omega (arith, c.args.right.now.full, size, c.size-entry-end.ensures.value, c.loop-entry-test.true) in
    let x = number_same lefts c.as_slice-lefts.result.now j c.index-lefts-entry.result lt c.as_slice-lefts.ensures c.index-lefts-entry.is in
    let y = number_same rights c.as_slice-rights.result.now j c.index-rights-entry.result rt c.as_slice-rights.ensures c.index-rights-entry.is in
    let same : value c.index-lefts-entry.result -ℚ value c.index-rights-entry.result ≡ number_at lefts j -ℚ number_at rights j = ap₂ (λ (a : ℚ) (b : ℚ). a -ℚ b) x y in
    below_more (HoldsAt c.args.kind lefts rights) j c.loop-entry.invariant (subst (λ (z : ℚ). Holds (relation_of c.args.kind) z) same c.if-not-holds.ensures)
