-- What the script gives is given, no other answer is, and it is refused exactly where it is at fault.
use Rattle.std.proofs.Common.{Err}
use Rattle.dcx_front.specs.Accepts.{spells, unread}
use Rattle.dcx_front.proofs.OneAnswer.{one_answer}
use Rattle.dcx_front.proofs.OneVerdict.{verdict_on}
use Rattle.dcx_front.proofs.accepting.accept.Goals as goal

pub returns-in-Ok : goal.returns-in-Ok
returns-in-Ok c =
    let gives = spells c.in-Ok.script c.in-Ok.ensures c.carried_out.ensures in
    record { gives = gives; only = one_answer c.args.bytes.now c.carried_out.result gives; verdict = verdict_on c.args.bytes.now c.carried_out.result gives }

pub returns-in-Err : goal.returns-in-Err
returns-in-Err c =
    let gives = unread c.in-Err.fault c.in-Err.ensures c.unread.ensures in
    record { gives = gives; only = one_answer c.args.bytes.now (Err c.unread.result) gives; verdict = verdict_on c.args.bytes.now (Err c.unread.result) gives }
