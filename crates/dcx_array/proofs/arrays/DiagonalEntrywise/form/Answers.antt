-- The test of the diagonal is that of the definition.
use Rattle.std.proofs.Common.{ap, Ok}
use Rattle.dcx_array.proofs.GivenArrays.{on_diagonal, off_diagonal}
use Rattle.dcx_array.proofs.arrays.DiagonalEntrywise.form.Goals as goal

pub returns-then-k-self : goal.returns-then-k-self
returns-then-k-self c = ap Ok (on_diagonal c.args.self.now.size c.args.k c.one.result c.if-k-self.true c.one.ensures)

pub returns-else-k-self : goal.returns-else-k-self
returns-else-k-self c = ap Ok (off_diagonal c.args.self.now.size c.args.k c.zero.result c.if-k-self.false c.zero.ensures)
