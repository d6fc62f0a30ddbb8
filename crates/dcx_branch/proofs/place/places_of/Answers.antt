-- One more variable, whose unknowns are within all.
use Rattle.std.proofs.Common.{◌+◌, ◌++◌, drop, sym, ap, ◌∙◌, arith}
use Rattle.dcx_unknowns.proofs.Owners.{firsts_counted, listed_fits}
use Rattle.dcx_branch.specs.Places.{variable_places, places_from, places}
use Rattle.dcx_branch.proofs.Lists.{joins, variables_more}
use Rattle.dcx_branch.proofs.place.places_of.Goals as goal

pub index-requires : goal.index-requires
index-requires c =
    let firsts = c.in_ok-firsts.firsts in
    omega (arith, firsts_counted c.args.variables.now firsts.items c.in_ok-firsts.ensures, firsts.ok.0, c.variables-test.true)

pub push_variable-requires-clause-fits : goal.push_variable-requires-clause-fits
push_variable-requires-clause-fits c =
    let vs = c.args.variables.now in
    let (first, fits) = listed_fits vs c.in_ok-firsts.firsts.items c.variables.number c.index.result.now c.index-variables-number.result c.in_ok-firsts.ensures c.variables-test.true
    c.index-variables-number.is c.index.ensures in
    omega (arith, fits, c.requires.few)

pub variables-preserved : goal.variables-preserved
variables-preserved c =
    let vs = c.args.variables.now in
    let k = c.variables.number in
    let v = c.index-variables-number.result in
    let (first, fits) = listed_fits vs c.in_ok-firsts.firsts.items k c.index.result.now v c.in_ok-firsts.ensures c.variables-test.true c.index-variables-number.is c.index.ensures in
    joins c.variables.places.items c.push_variable.new.places.items (variable_places k c.index.result.now v) (places_from vs (k + 1) (drop (k + 1) vs)) (places vs) c.in_ok-push_variable.ensures
    (ap (λ l. c.variables.places.items ++ l) (sym (variables_more vs k v c.index.result.now c.variables-test.true c.index-variables-number.is first)) ∙ c.variables.invariant)
