-- What is carried out is judged, and a fault of it is the script's refusal.
use Rattle.dcx_front.specs.Accepts.{stands_for, faulty}
use Rattle.dcx_front.proofs.accepting.carried_out.Goals as goal

pub returns-in-Ok : goal.returns-in-Ok
returns-in-Ok c = stands_for c.in-Ok.work c.in-Ok.ensures c.judged.ensures

pub returns-in-Err : goal.returns-in-Err
returns-in-Err c = faulty c.in-Err.fault c.in-Err.ensures c.faulty.ensures
