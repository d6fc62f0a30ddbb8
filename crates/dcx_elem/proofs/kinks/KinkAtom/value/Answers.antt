-- The value is made of the only argument.
use Rattle.dcx_elem.proofs.Values.{kink_value}
use Rattle.dcx_elem.proofs.kinks.KinkAtom.value.Goals as goal

pub returns-in-Ok-clause-ok : goal.returns-in-Ok-clause-ok
returns-in-Ok-clause-ok c = kink_value c.args.self.now c.args.args.now c.index-args-0.result c.in-Ok.array c.requires c.index-args-0.is c.in-Ok.ensures.shape c.in-Ok.ensures.entries
