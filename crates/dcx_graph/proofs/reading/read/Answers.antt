-- What is read where the rows have no solution holds for unknowns of any kinds.
use Rattle.dcx_graph.proofs.reading.read.Goals as goal

pub returns-in-Infeasible-clause-read : goal.returns-in-Infeasible-clause-read
returns-in-Infeasible-clause-read c = c.infeasible.ensures.read c.args.kinds.now
