-- Never more than 64 are open together, and without a fault each bracket and each indentation has its end.
use Rattle.dcx_tokens.proofs.Nesting.{all_shallow, all_closed}
use Rattle.dcx_tokens.proofs.laws.nesting.Goals as goal

pub returns : goal.returns
returns c = record { shallow = all_shallow; closed = all_closed }
