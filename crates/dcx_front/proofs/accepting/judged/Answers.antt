-- What the rules accept is judged, and what they don't is broken.
use Rattle.std.proofs.Common.{refl}
use Rattle.dcx_front.proofs.accepting.judged.Goals as goal

pub returns-in-Ok : goal.returns-in-Ok
returns-in-Ok c = (refl, record { accepted = c.in-Ok.ensures.accepted; convex = c.in-Ok.ensures.convex; verdict = c.in-Ok.ensures.verdict; truth = c.in-Ok.ensures.truth })

pub broken-end-requires : goal.broken-end-requires
broken-end-requires c = c.in-Err.ensures.fault

pub returns-in-Err : goal.returns-in-Err
returns-in-Err c = c.broken-end.ensures
