-- The refusal stands where the first variable does that is to be whole.
use Rattle.dcx_top.proofs.whole.refuse_whole.Goals as goal

pub returns-in-Some : goal.returns-in-Some
returns-in-Some c = record { place = c.in-Some.place; stands = c.in-Some.ensures; refusal = c.whole_variable.ensures }
