-- No divisor is 0.
use Rattle.std.proofs.Common.{sym, ◌∙◌, refl}
use Rattle.dcx_shape.specs.Shape.{sides_of}
use Rattle.dcx_array.proofs.ExactNumbers.{shared_shape-Ok, divisor_is}
use Rattle.dcx_array.proofs.operators.entrywise.Goals as goal

pub fill-requires : goal.fill-requires
fill-requires c = λ k below. (
  below,
  (λ quotient.
      divisor_is (sides_of c.args.a.now.shape) (sides_of c.args.b.now.shape) c.args.b.now c.in_ok-to.to k refl
      (shared_shape-Ok (sides_of c.args.a.now.shape) (sides_of c.args.b.now.shape) c.in_ok-to.to (sym c.shared_shape.ensures ∙ c.in_ok-to.was)) (c.requires quotient) below),
)
