-- One constraint more, until none is left.
use Rattle.std.proofs.Common.{◌++◌, ap, arith, rules}
use Rattle.std.proofs.lemmas.Result.{err_from_is_err_and}
use Rattle.dcx_graph.specs.Program.{entries_from}
use Rattle.dcx_graph.proofs.Entries.{entries_next, entries_last}
use Rattle.dcx_graph.proofs.constraint.constraint_entries.Goals as goal

pub constraints-init : goal.constraints-init
constraints-init c = ap (λ xs. xs ++ entries_from 0 c.args.constraints.now) c.new-entries.ensures.items

pub constraints-smaller : goal.constraints-smaller
constraints-smaller c = search rules

pub constraints-preserved : goal.constraints-preserved
constraints-preserved c =
    let cs = c.args.constraints.now in
    entries_next cs c.constraints.index c.index-constraints-index.result c.constraints.entries.items c.push_constraint.new.entries.items (entries_from 0 cs)
    (omega arith) c.index-constraints-index.is c.constraints.invariant c.in_ok-push_constraint.ensures

pub returns-in_err-push_constraint : goal.returns-in_err-push_constraint
returns-in_err-push_constraint c = let p = err_from_is_err_and c.from_residual.result c.from_residual.ensures.1 in rw p.1 tt

pub returns : goal.returns
returns c =
    let cs = c.args.constraints.now in
    entries_last cs c.constraints.index c.constraints.entries.items (entries_from 0 cs) (omega arith) c.constraints.invariant
