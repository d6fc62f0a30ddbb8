-- The numbers are as many as the shape has entries.
use Rattle.std.proofs.Common.{◌≡◌, sym, ap, ◌∙◌, refl, length, Ok}
use Rattle.dcx_shape.specs.Sides.{entries_of}
use Rattle.dcx_array.specs.Shapes.{allowed_shape}
use Rattle.dcx_array.proofs.AllowedShapes.{allowed_shape-back}
use Rattle.dcx_array.proofs.GivenArrays.{ok_back, array_with-is}
use Rattle.dcx_array.proofs.arrays.array_with.Goals as goal

allowed : (c : goal.After-from_vec) → allowed_shape c.args.sides ≡ Ok c.in_ok-shape.shape
allowed c = sym c.allowed_shape.ensures ∙ ok_back c.allowed_shape.result c.in_ok-shape.shape (sym c.ok.ensures.value ∙ c.in_ok-shape.was)

pub invariant_of-result : goal.invariant_of-result
invariant_of-result c = record {
  full = ap length c.from_vec.ensures ∙ c.requires ∙ ap entries_of (sym (allowed_shape-back c.args.sides c.in_ok-shape.shape (allowed c)));
}

pub returns : goal.returns
returns c =
    sym (array_with-is c.args.sides c.in_ok-shape.shape c.args.numbers.items _
    (sym c.allowed_shape.ensures ∙ ok_back c.allowed_shape.result c.in_ok-shape.shape (sym c.ok.ensures.value ∙ c.in_ok-shape.was)) refl c.from_vec.ensures)
