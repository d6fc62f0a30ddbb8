-- Where a trailer follows there is no target.
use Rattle.std.proofs.Common.{sym, option_copied}
use Rattle.dcx_elab.specs.View.{trailers_from}
use Rattle.dcx_elab.proofs.Seen.{some-at}
use Rattle.dcx_elab.proofs.Chains.{target-lost}
use Rattle.dcx_elab.proofs.called.target_before.Goals as goal

pub returns-then-at-all : goal.returns-then-at-all
returns-then-at-all c = sym (target-lost (option_copied c.args.target) (trailers_from c.args.all.now c.args.at) (some-at c.args.all.now c.args.at c.if-at-all.true))
