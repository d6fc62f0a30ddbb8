-- Each entry stands at its place of the transpose.
use Rattle.std.proofs.Common.{◌≡◌, sym, ap, ◌∙◌, arith}
use Rattle.dcx_shape.specs.Shape.{sides_of}
use Rattle.dcx_shape.specs.Sides.{entries_of}
use Rattle.dcx_affine.specs.Places.{transposed_sides, transposed_place}
use Rattle.dcx_array.specs.Arrays.{entry}
use Rattle.dcx_array.proofs.AllowedShapes.{allowed_shape-back}
use Rattle.dcx_array.proofs.GivenArrays.{given_gives, transposed_entries}
use Rattle.dcx_array.proofs.turned.transpose.Goals as goal

pub fill-requires : goal.fill-requires
fill-requires c = λ k b.
    let size : entries_of (sides_of c.in_ok-shape.shape) ≡ entries_of (transposed_sides (sides_of c.args.a.now.shape)) =
    ap entries_of (allowed_shape-back (transposed_sides (sides_of c.args.a.now.shape)) c.in_ok-shape.shape (sym c.transposed_shape.ensures ∙ c.in_ok-shape.was)) in
    omega (arith, b, size, transposed_entries (sides_of c.args.a.now.shape))

pub returns : goal.returns
returns c =
    given_gives (transposed_sides (sides_of c.args.a.now.shape)) c.in_ok-shape.shape (λ s k. entry c.args.a.now (transposed_place (sides_of c.args.a.now.shape) k)) c.fill.result
    (sym c.transposed_shape.ensures ∙ c.in_ok-shape.was) c.fill.ensures
