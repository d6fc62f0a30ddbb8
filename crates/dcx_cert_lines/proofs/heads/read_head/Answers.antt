-- Where memory runs out no line is said to be none.
use Rattle.std.proofs.lemmas.Result.{err_from_is_err_and}
use Rattle.dcx_cert_lines.proofs.heads.read_head.Goals as goal

pub returns-in_err-begins-clause-may : goal.returns-in_err-begins-clause-may
returns-in_err-begins-clause-may c = let p = err_from_is_err_and c.from_residual.result c.from_residual.ensures.1 in rw p.1 tt

pub returns-in_err-begins-clause-read : goal.returns-in_err-begins-clause-read
returns-in_err-begins-clause-read c = let p = err_from_is_err_and c.from_residual.result c.from_residual.ensures.1 in rw p.1 tt

pub returns-in_err-begins-clause-misfit : goal.returns-in_err-begins-clause-misfit
returns-in_err-begins-clause-misfit c = let p = err_from_is_err_and c.from_residual.result c.from_residual.ensures.1 in rw (p.1, p.2) tt

pub returns-in_err-begins-clause-same : goal.returns-in_err-begins-clause-same
returns-in_err-begins-clause-same c = let p = err_from_is_err_and c.from_residual.result c.from_residual.ensures.1 in rw (p.1, p.2) tt

pub returns-in_err-begins-2-clause-may : goal.returns-in_err-begins-2-clause-may
returns-in_err-begins-2-clause-may c = let p = err_from_is_err_and c.from_residual-in_err-begins-2.result c.from_residual-in_err-begins-2.ensures.1 in rw p.1 tt

pub returns-in_err-begins-2-clause-read : goal.returns-in_err-begins-2-clause-read
returns-in_err-begins-2-clause-read c = let p = err_from_is_err_and c.from_residual-in_err-begins-2.result c.from_residual-in_err-begins-2.ensures.1 in rw p.1 tt

pub returns-in_err-begins-2-clause-misfit : goal.returns-in_err-begins-2-clause-misfit
returns-in_err-begins-2-clause-misfit c = let p = err_from_is_err_and c.from_residual-in_err-begins-2.result c.from_residual-in_err-begins-2.ensures.1 in rw (p.1, p.2) tt

pub returns-in_err-begins-2-clause-same : goal.returns-in_err-begins-2-clause-same
returns-in_err-begins-2-clause-same c = let p = err_from_is_err_and c.from_residual-in_err-begins-2.result c.from_residual-in_err-begins-2.ensures.1 in rw (p.1, p.2) tt

pub returns-in_err-begins-3-clause-may : goal.returns-in_err-begins-3-clause-may
returns-in_err-begins-3-clause-may c = let p = err_from_is_err_and c.from_residual-in_err-begins-3.result c.from_residual-in_err-begins-3.ensures.1 in rw p.1 tt

pub returns-in_err-begins-3-clause-read : goal.returns-in_err-begins-3-clause-read
returns-in_err-begins-3-clause-read c = let p = err_from_is_err_and c.from_residual-in_err-begins-3.result c.from_residual-in_err-begins-3.ensures.1 in rw p.1 tt

pub returns-in_err-begins-3-clause-misfit : goal.returns-in_err-begins-3-clause-misfit
returns-in_err-begins-3-clause-misfit c = let p = err_from_is_err_and c.from_residual-in_err-begins-3.result c.from_residual-in_err-begins-3.ensures.1 in rw (p.1, p.2) tt

pub returns-in_err-begins-3-clause-same : goal.returns-in_err-begins-3-clause-same
returns-in_err-begins-3-clause-same c = let p = err_from_is_err_and c.from_residual-in_err-begins-3.result c.from_residual-in_err-begins-3.ensures.1 in rw (p.1, p.2) tt
