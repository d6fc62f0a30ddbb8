-- Two phases make few pivots each, and each row is driven out once at most.
use Rattle.dcx_simplex.proofs.Limits.{few_in_all}
use Rattle.dcx_simplex.proofs.laws.makes_few_in_all.Goals as goal

-- the law, as it is proved
pub returns : goal.returns
returns c = few_in_all
