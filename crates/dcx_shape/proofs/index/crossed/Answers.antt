-- Each entry is one of the array's, and all of them make the crossing.
use Rattle.std.proofs.Common.{◌≡◌, ◌<◌, ◌/◌, ◌%◌, [], ◌∷◌, ◌++◌, refl, arith, rules}
use Rattle.std.proofs.lemmas.Nat.{div_below, mod_below}
use Rattle.dcx_shape.specs.Shape.{sides_of}
use Rattle.dcx_shape.specs.Places.{row_place}
use Rattle.dcx_shape.specs.Run.{run_place}
use Rattle.dcx_shape.proofs.Entries.{factor_pos}
use Rattle.dcx_shape.proofs.Pushes.{each_pushed}
use Rattle.dcx_shape.proofs.Slices.{run_below}
use Rattle.dcx_shape.proofs.Indices.{crossed_from_runs}
use Rattle.dcx_shape.proofs.index.crossed.Goals as goal

pub overflow_mul-count : goal.overflow_mul-count
overflow_mul-count c = search rules

pub overflow_cast-count : goal.overflow_cast-count
overflow_cast-count c = search rules

pub loop-k-init : goal.loop-k-init
loop-k-init c = search rules

pub nonzero_div-k : goal.nonzero_div-k
nonzero_div-k c = omega (arith, (factor_pos c.loop-k.k c.args.rows.count c.args.columns.count c.loop-k-test.true).1)

pub place-row-requires : goal.place-row-requires
place-row-requires c = div_below c.loop-k.k c.args.columns.count c.args.rows.count (factor_pos c.loop-k.k c.args.rows.count c.args.columns.count c.loop-k-test.true).1 c.loop-k-test.true

pub nonzero_rem-k : goal.nonzero_rem-k
nonzero_rem-k c = omega (arith, (factor_pos c.loop-k.k c.args.rows.count c.args.columns.count c.loop-k-test.true).1)

pub place-column-requires : goal.place-column-requires
place-column-requires c = mod_below c.loop-k.k c.args.columns.count (factor_pos c.loop-k.k c.args.rows.count c.args.columns.count c.loop-k-test.true).1

pub loop-k-smaller : goal.loop-k-smaller
loop-k-smaller c = search rules

pub entry_place-requires : goal.entry_place-requires
entry_place-requires c =
    let wide : 0 < c.args.columns.count = (factor_pos c.loop-k.k c.args.rows.count c.args.columns.count c.loop-k-test.true).1 in
    record {
      row = rw c.place-row.ensures (run_below c.args.rows.first c.args.rows.step c.args.rows.count _ _ c.requires.rows
          (div_below c.loop-k.k c.args.columns.count c.args.rows.count wide c.loop-k-test.true));
      column = rw c.place-column.ensures (run_below c.args.columns.first c.args.columns.step c.args.columns.count _ _ c.requires.columns (mod_below c.loop-k.k c.args.columns.count wide));
    }

pub loop-k-preserved : goal.loop-k-preserved
loop-k-preserved c =
    let pushed : c.push.new.self.items ≡ c.loop-k.places.items ++ c.entry_place.result ∷ [] = search rules in
    each_pushed (λ q p. p ≡ row_place (sides_of c.args.from) (run_place c.args.rows (q / c.args.columns.count)) (run_place c.args.columns (q % c.args.columns.count)))
    c.loop-k.places.items c.push.new.self.items c.entry_place.result c.loop-k.k pushed c.loop-k.invariant.0 c.loop-k.invariant.1
    (rw (c.entry_place.ensures, c.place-row.ensures, c.place-column.ensures) refl)

pub returns-clause-ok : goal.returns-clause-ok
returns-clause-ok c = rw c.from_vec.ensures (crossed_from_runs (sides_of c.args.from) c.args.rows c.args.columns c.loop-k.places.items (omega (arith, c.loop-k.invariant.0))
    (λ k h. c.loop-k.invariant.1 k (omega arith)))
