-- The entries at the places that picks take, or the fault of the first that takes none.
use Rattle.std.proofs.Common.{refl}
use Rattle.std.proofs.lemmas.Result.{err_from_is_err_and}
use Rattle.dcx_shape.specs.Shape.{sides_of}
use Rattle.dcx_array.proofs.Indices.{told_fault}
use Rattle.dcx_array.proofs.GivenArrays.{picked_gives}
use Rattle.dcx_array.proofs.picks.pick.Goals as goal

pub returns-in_err-shape : goal.returns-in_err-shape
returns-in_err-shape c =
    let p = err_from_is_err_and c.from_residual.result c.from_residual.ensures.1 in
    rw (p.1, p.2) (told_fault (sides_of c.args.a.now.shape) c.args.picks.now _ _ _ c.requires refl c.in_err-shape.ensures.clash c.in_err-shape.ensures.range c.in_err-shape.ensures.empty)

pub returns : goal.returns
returns c = picked_gives c.args.a.now c.args.picks.now _ _ c.as_slice.result.now c.fill.result c.requires c.in_ok-shape.ensures.ok c.as_slice.ensures c.fill.ensures
