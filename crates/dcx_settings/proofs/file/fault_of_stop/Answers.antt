-- The token at which reading stops is the first unexpected one, and its place is told.
use Rattle.std.proofs.Common.{subst}
use Rattle.dcx_settings.specs.Terminal.{terminals}
use Rattle.dcx_settings.specs.Reading.{StopsUnexpected}
use Rattle.dcx_settings.proofs.file.fault_of_stop.Goals as goal
use Rattle.dcx_settings.proofs.Files.{unexpected_at}

pub returns-in-At : goal.returns-in-At
returns-in-At c =
    let text = c.args.text.now in
    let ts = c.args.tokens.now in
    unexpected_at text ts c.in-At.rest.now c.place_at.result (subst (StopsUnexpected text (terminals text ts)) c.in-At.is c.requires.stops) c.place_at.ensures
