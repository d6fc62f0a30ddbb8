-- What the filter of the program gives.
use Rattle.dcx_outcomes.proofs.filters.FilteringQuestion.ask.Goals as goal

pub returns : goal.returns
returns c = record { found = c.filter.ensures.found; stops = c.filter.ensures.stops }
