-- What is read is the number of the unknown, and 0 past the end.
use Rattle.std.proofs.Common.{sym, ap, ◌∙◌}
use Rattle.dcx_unknowns.specs.Unknowns.{number_at}
use Rattle.dcx_postsolve.specs.Points.{numbered}
use Rattle.dcx_postsolve.proofs.Fractions.{read, missing}
use Rattle.dcx_postsolve.proofs.point.number_of.Goals as goal

pub returns-in-None-get : goal.returns-in-None-get
returns-in-None-get c =
    c.zero-in-None-get.ensures ∙ missing c.args.unknowns.now c.in-Some.place c.in-None-get.ensures.lookup.3 ∙ sym (ap (number_at (numbered c.args.unknowns.now)) c.in-Some.is)

pub returns-in-Some-get : goal.returns-in-Some-get
returns-in-Some-get c =
    let told = c.in-Some-get.ensures.lookup in
    read c.args.unknowns.now c.in-Some.place c.in-Some-get.number.now told.3.0 told.1 ∙ sym (ap (number_at (numbered c.args.unknowns.now)) c.in-Some.is)
