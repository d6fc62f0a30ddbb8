-- One more variable has its array, whose unknowns are within all.
use Rattle.std.proofs.Common.{length, refl, subst, arith}
use Rattle.std.proofs.lemmas.Option.{slice_get_read}
use Rattle.dcx_unknowns.proofs.Owners.{firsts_counted, listed_fits}
use Rattle.dcx_postsolve.specs.Points.{PutsArray}
use Rattle.dcx_postsolve.proofs.Names.{front_next, front_all}
use Rattle.dcx_postsolve.proofs.point.point_of_variables.Goals as goal

pub index-requires : goal.index-requires
index-requires c =
    let firsts = c.in_ok-firsts.firsts in
    omega (arith, firsts_counted c.args.variables.now firsts.items c.in_ok-firsts.ensures, firsts.ok.0, c.variables-test.true)

pub put_array-requires-clause-fits : goal.put_array-requires-clause-fits
put_array-requires-clause-fits c =
    let vs = c.args.variables.now in
    let (first, fits) = listed_fits vs c.in_ok-firsts.firsts.items c.variables.place c.index.result.now c.index-variables-place.result c.in_ok-firsts.ensures c.variables-test.true
    c.index-variables-place.is c.index.ensures in
    omega (arith, fits, c.requires.few)

pub variables-preserved : goal.variables-preserved
variables-preserved c =
    let vs = c.args.variables.now in
    let us = c.args.unknowns.now in
    let k = c.variables.place in
    let v = c.index-variables-place.result in
    let (first, fits) = listed_fits vs c.in_ok-firsts.firsts.items k c.index.result.now v c.in_ok-firsts.ensures c.variables-test.true c.index-variables-place.is c.index.ensures in
    let puts = subst (λ n. PutsArray us n v c.variables.point c.put_array.new.point) first c.in_ok-put_array.ensures in
    front_next vs c.requires.distinct us k v (slice_get_read vs (length vs) k v refl c.variables-test.true c.index-variables-place.is) c.variables.point c.put_array.new.point c.variables.invariant
    puts

pub returns : goal.returns
returns c = front_all c.args.variables.now c.args.unknowns.now c.variables.place c.variables.point c.variables-test.false c.variables.invariant
