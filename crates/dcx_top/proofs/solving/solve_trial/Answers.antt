-- A trial problem with a marked variable is refused.
use Rattle.std.proofs.Common.{refl, inr}
use Rattle.dcx_top.proofs.solving.solve_trial.Goals as goal

pub returns-in-Some : goal.returns-in-Some
returns-in-Some g c = inr (tt, (c.in-Some.refusal, c.in-Some.ensures, refl, refl))
