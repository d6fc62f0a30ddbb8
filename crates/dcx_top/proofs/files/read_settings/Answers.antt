-- A fault in the bytes that are fetched is a refusal of the settings file.
use Rattle.dcx_top.proofs.Endings.{settings_ending}
use Rattle.dcx_top.proofs.files.read_settings.Goals as goal

pub returns-clause-reads : goal.returns-clause-reads
returns-clause-reads g c = settings_ending _ _ _ _ _ c.in-Err.fault c.unread.result _ c.as_slice.ensures c.in_ok-bytes.ensures.bytes c.in-Err.ensures c.unread.ensures c.ended.ensures
