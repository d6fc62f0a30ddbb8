-- The run that is reported has the causes of the words, and so it is right, the only one, and refuses rightly.
use Rattle.std.proofs.Common.{map}
use Rattle.std.specs.Prelude.{string_bytes}
use Rattle.dcx_host.specs.Faults.{Rose}
use Rattle.dcx_top.specs.Runs.{Causes}
use Rattle.dcx_top.proofs.Causes.{told_caused, told_usage}
use Rattle.dcx_top.proofs.Right.{caused_are_right}
use Rattle.dcx_top.proofs.OneRun.{only_run}
use Rattle.dcx_top.proofs.Verdict.{right_verdict}
use Rattle.dcx_top.proofs.command.run.Goals as goal

pub returns-clause-causes : goal.returns-clause-causes
returns-clause-causes g c =
    told_caused (map string_bytes c.args.words.now) (g.L.Library.told c.args.library.now)
    (Rose (g.L.Library.faults c.args.library.now) (g.L.Library.faults c.answer-run.new.library)) c.args.steps.now c.answer-run.new.steps
    c.answer-run.result c.reported.result.run c.answer-run.ensures.causes c.reported.ensures.told

pub returns-clause-headline : goal.returns-clause-headline
returns-clause-headline g c =
    caused_are_right (map string_bytes c.args.words.now) _ (Rose (g.L.Library.faults c.args.library.now) (g.L.Library.faults c.answer-run.new.library)) c.args.steps.now
    c.answer-run.new.steps _ (returns-clause-causes g c)

pub returns-clause-only : goal.returns-clause-only
returns-clause-only g c =
    only_run (map string_bytes c.args.words.now) _ (Rose (g.L.Library.faults c.args.library.now) (g.L.Library.faults c.answer-run.new.library)) c.args.steps.now
    c.answer-run.new.steps _ (returns-clause-causes g c)

pub returns-clause-verdict : goal.returns-clause-verdict
returns-clause-verdict g c =
    right_verdict (map string_bytes c.args.words.now) _ (Rose (g.L.Library.faults c.args.library.now) (g.L.Library.faults c.answer-run.new.library)) c.args.steps.now
    c.answer-run.new.steps _ (returns-clause-causes g c)

pub returns-clause-usage : goal.returns-clause-usage
returns-clause-usage g c = told_usage c.answer-run.result c.reported.result.run _ c.answer-run.ensures.usage c.reported.ensures.told
