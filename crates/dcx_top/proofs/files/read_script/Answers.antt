-- The bytes that are fetched are those of the file, and a fault in them is a refusal of the script.
use Rattle.std.proofs.Common.{Ok, subst}
use Rattle.dcx_front.specs.Accepts.{Gives}
use Rattle.dcx_top.proofs.Endings.{script_ending}
use Rattle.dcx_top.proofs.files.read_script.Goals as goal

pub returns-in-Ok-clause-reads : goal.returns-in-Ok-clause-reads
returns-in-Ok-clause-reads g c = (_, c.in_ok-bytes.ensures.bytes, subst (λ b. Gives b (Ok c.in-Ok.accepted)) c.as_slice.ensures c.in-Ok.ensures.gives)

pub returns-clause-reads : goal.returns-clause-reads
returns-clause-reads g c = script_ending _ _ _ _ _ c.in-Err.fault _ c.as_slice.ensures c.in_ok-bytes.ensures.bytes c.in-Err.ensures.gives c.ended.ensures
