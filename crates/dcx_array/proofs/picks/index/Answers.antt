-- The call of the places that picks take, or the fault of the first that takes none.
use Rattle.std.proofs.Common.{sym, inr, refl}
use Rattle.std.proofs.lemmas.Result.{err_from_is_err_and}
use Rattle.dcx_shape.specs.Shape.{sides_of}
use Rattle.dcx_array.proofs.Indices.{indexed_is, told_fault}
use Rattle.dcx_array.proofs.picks.index.Goals as goal

pub returns-in_err-to : goal.returns-in_err-to
returns-in_err-to c =
    let p = err_from_is_err_and c.from_residual.result c.from_residual.ensures.1 in
    rw (p.1, p.2) (told_fault (sides_of c.args.from) c.args.picks.now _ _ _ c.requires refl c.in_err-to.ensures.clash c.in_err-to.ensures.range c.in_err-to.ensures.empty)

pub returns : goal.returns
returns c = inr (sym (indexed_is c.args.picks.now _ c.requires c.in_ok-to.ensures.ok))
