-- The number of a row at a column is small enough to be a fraction.
use Rattle.std.proofs.Common.{◌<◌, ◌^◌, sym, subst, unsigned_abs, to_z-of_z}
use Rattle.std.specs.Int.{w128}
use Rattle.std.proofs.lemmas.Int.{fits_signed_from_abs}
use Rattle.dcx_std.proofs.phase.added.Goals as goal

pub plus-requires : goal.plus-requires
plus-requires c =
    let small = subst (λ z. unsigned_abs z < 2 ^ 127) (sym c.row_number.ensures) (c.requires.small c.args.column) in
    let fits = fits_signed_from_abs w128 c.row_number.result small in
    simp to_z-of_z small
