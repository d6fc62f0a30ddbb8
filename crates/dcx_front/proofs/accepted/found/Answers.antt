-- There are few enough variables and parameters to count their entries, since each has a node.
use Rattle.std.proofs.Common.{subst, sym, arith, length, ◌<◌}
use Rattle.dcx_tree.proofs.Few.{few_variables, few_parameters}
use Rattle.dcx_front.proofs.accepted.found.Goals as goal

pub variable_entries-requires : goal.variable_entries-requires
variable_entries-requires c =
    let p = c.args.problem.now in
    let few = few_variables p in
    subst (λ vs. length vs < 4294967296) (sym c.as_slice-variables.ensures) (omega (arith, few))

pub parameter_entries-requires : goal.parameter_entries-requires
parameter_entries-requires c =
    let p = c.args.problem.now in
    let few = few_parameters p in
    subst (λ qs. length qs < 4294967296) (sym c.as_slice-parameters.ensures) (omega (arith, few))
