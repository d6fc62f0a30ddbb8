-- 1 stands on the diagonal.
use Rattle.std.proofs.Common.{◌≡◌, ◌*◌, sym, ap, ◌∙◌, arith}
use Rattle.dcx_shape.specs.declared.shape.Sides.TheVariants.{Matrix}
use Rattle.dcx_shape.specs.Shape.{sides_of}
use Rattle.dcx_shape.specs.Sides.{entries_of}
use Rattle.dcx_shape.proofs.Entries.{factor_pos}
use Rattle.dcx_array.specs.Arrays.{identity_entry}
use Rattle.dcx_array.proofs.AllowedShapes.{allowed_shape-back}
use Rattle.dcx_array.proofs.GivenArrays.{given_gives}
use Rattle.dcx_array.proofs.arrays.identity.Goals as goal

pub fill-requires : goal.fill-requires
fill-requires c = λ k b.
    let size : entries_of (sides_of c.in_ok-shape.shape) ≡ c.args.n * c.args.n =
    ap entries_of (allowed_shape-back (Matrix c.args.n c.args.n) c.in_ok-shape.shape (sym c.allowed_shape.ensures ∙ c.in_ok-shape.was)) in
    (factor_pos k c.args.n c.args.n (omega (arith, b, size))).0

pub returns : goal.returns
returns c = given_gives (Matrix c.args.n c.args.n) c.in_ok-shape.shape (λ s k. identity_entry c.args.n k) c.fill.result (sym c.allowed_shape.ensures ∙ c.in_ok-shape.was) c.fill.ensures
