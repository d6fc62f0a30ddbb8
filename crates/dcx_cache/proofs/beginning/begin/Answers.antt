-- The steps that the session counts at its beginning.
use Rattle.dcx_cache.proofs.Counting.{begun_counts, begun_no_more}
use Rattle.dcx_cache.proofs.beginning.begin.Goals as goal

pub returns-in-Ok-clause-counted : goal.returns-in-Ok-clause-counted
returns-in-Ok-clause-counted g c =
    begun_counts c.args.problem c.in-Ok.session.cached c.args.steps.now c.begin.new.steps c.in-Ok.ensures.counted c.in-Ok.ensures.cached c.begin.ensures.few

pub returns-in-Ok-clause-few : goal.returns-in-Ok-clause-few
returns-in-Ok-clause-few g c = begun_no_more c.args.problem c.args.steps.now c.begin.new.steps c.begin.ensures.few

pub returns-in-Err-clause-few : goal.returns-in-Err-clause-few
returns-in-Err-clause-few g c = begun_no_more c.args.problem c.args.steps.now c.begin.new.steps c.begin.ensures.few
