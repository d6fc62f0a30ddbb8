-- Tokens have one tree at most, they have one or a first unexpected token, and never both.
use Rattle.dcx_read.proofs.Whole.{one, decided-whole, apart}
use Rattle.dcx_read.proofs.laws.scripts.Goals as goal

pub returns : goal.returns
returns c = record { one = one; decided = decided-whole; apart = apart }
