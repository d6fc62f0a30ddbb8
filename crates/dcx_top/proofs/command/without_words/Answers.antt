-- Without words the status is that of want of memory.
use Rattle.dcx_top.proofs.Writing.{five}
use Rattle.dcx_top.proofs.command.without_words.Goals as goal

pub returns-clause-status : goal.returns-clause-status
returns-clause-status g c = five _ _ _ _ _ c.written.result c.written.ensures.run c.written.ensures.reports
