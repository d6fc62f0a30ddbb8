-- The column is at some place, so the search can't pass all of them.
use Rattle.std.proofs.Common.{length, refl, sym, arith, rules}
use Rattle.std.proofs.lemmas.Option.{slice_get_read}
use Rattle.dcx_std.proofs.columns.place_of.Goals as goal

pub columns-init : goal.columns-init
columns-init c = search rules

pub columns-smaller : goal.columns-smaller
columns-smaller c = search rules

pub unreachable-requires : goal.unreachable-requires
unreachable-requires c =
    let columns = c.args.columns.now in
    let place = c.requires.there.0 in
    let below = c.requires.there.1 in
    c.columns.invariant place (omega (arith, below)) (slice_get_read columns (length columns) place c.args.column refl below (sym c.requires.there.2))
