-- One more variable is passed, whose unknowns are within all.
use Rattle.std.proofs.Common.{◌+◌, arith, ap, ◌∙◌}
use Rattle.dcx_unknowns.proofs.Owners.{firsts_next, first_fits}
use Rattle.dcx_unknowns.proofs.variable.first_unknowns.Goals as goal

pub overflow_add-next : goal.overflow_add-next
overflow_add-next c =
    let fits = first_fits c.args.variables.now c.variables.variable-index c.variables.next c.variable-item.result c.variables-test.true c.variable-item.is c.variables.invariant.next_is in
    omega (arith, fits, c.own_count-next.ensures.count, c.requires)

pub variables-preserved : goal.variables-preserved
variables-preserved c =
    let s = firsts_next c.args.variables.now c.variables.variable-index c.variables.next c.variable-item.result c.variables.firsts.items c.push.new.self.items c.variables-test.true c.variable-item.is
    c.variables.invariant.next_is c.variables.invariant.listed c.in_ok-push.ensures.items in
    record { listed = s.0; next_is = ap (λ n. c.variables.next + n) c.own_count-next.ensures.count ∙ s.1 }
