-- The first division by 0 is told as a bad number, at its place.
use Rattle.dcx_settings.proofs.file.first_fault.Goals as goal
use Rattle.dcx_settings.proofs.Files.{divided_at}

pub returns-in-Some : goal.returns-in-Some
returns-in-Some c = divided_at _ _ _ _ _ _ _ c.as_bytes.ensures.value c.as_slice-tokens.ensures c.in-Some.ensures c.place_at.ensures
