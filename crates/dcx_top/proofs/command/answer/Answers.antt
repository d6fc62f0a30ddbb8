-- The words are those of the command that is carried out: its run has their cause, and isn't that of wrong usage.
use Rattle.std.proofs.Common.{Some, map, ap, ◌∙◌}
use Rattle.std.specs.Prelude.{string_bytes}
use Rattle.dcx_host.specs.Faults.{Rose}
use Rattle.dcx_words.specs.Commands.{check, solve, resolve, certificate, certify, migrate, trial, iis, range}
use Rattle.dcx_words.specs.Commands.{command_in}
use Rattle.dcx_top.proofs.Causes.{usage_of}
use Rattle.dcx_top.proofs.command.answer.Goals as goal

pub returns-in-Check-clause-causes : goal.returns-in-Check-clause-causes
returns-in-Check-clause-causes g c =
    c.check.ensures.causes (map string_bytes c.args.words.now) c.args.steps.now (c.in-Some.ensures {u = tt} ∙ ap (λ f. Some (command_in f)) c.in-Check.is)

pub returns-in-Check-clause-usage : goal.returns-in-Check-clause-usage
returns-in-Check-clause-usage g c =
    usage_of (map string_bytes c.args.words.now) (g.L.Library.told c.args.library.now)
    (Rose (g.L.Library.faults c.args.library.now) (g.L.Library.faults c.check.new.library)) c.args.steps.now c.args.steps.now
    (check c.in-Check.script.now) c.check.result (c.in-Some.ensures {u = tt} ∙ ap (λ f. Some (command_in f)) c.in-Check.is) (returns-in-Check-clause-causes g c)

pub returns-in-Trial-clause-causes : goal.returns-in-Trial-clause-causes
returns-in-Trial-clause-causes g c =
    c.trial.ensures (map string_bytes c.args.words.now) (g.L.Library.told c.args.library.now) (g.L.Library.faults c.args.library.now) (g.L.Library.faults c.args.library.now)
    (c.in-Some.ensures {u = tt} ∙ ap (λ f. Some (command_in f)) c.in-Trial.is)

pub returns-in-Trial-clause-usage : goal.returns-in-Trial-clause-usage
returns-in-Trial-clause-usage g c =
    usage_of (map string_bytes c.args.words.now) (g.L.Library.told c.args.library.now)
    (Rose (g.L.Library.faults c.args.library.now) (g.L.Library.faults c.args.library.now)) c.args.steps.now c.trial.new.steps
    (trial c.in-Trial.size c.in-Trial.limit) c.trial.result (c.in-Some.ensures {u = tt} ∙ ap (λ f. Some (command_in f)) c.in-Trial.is) (returns-in-Trial-clause-causes g c)

pub returns-in-Certify-clause-causes : goal.returns-in-Certify-clause-causes
returns-in-Certify-clause-causes g c =
    c.certify.ensures.causes (map string_bytes c.args.words.now) c.args.steps.now (c.in-Some.ensures {u = tt} ∙ ap (λ f. Some (command_in f)) c.in-Certify.is)

pub returns-in-Certify-clause-usage : goal.returns-in-Certify-clause-usage
returns-in-Certify-clause-usage g c =
    usage_of (map string_bytes c.args.words.now) (g.L.Library.told c.args.library.now)
    (Rose (g.L.Library.faults c.args.library.now) (g.L.Library.faults c.certify.new.library)) c.args.steps.now c.args.steps.now
    (certify c.in-Certify.script.now c.in-Certify.settings.now c.in-Certify.certificate.now) c.certify.result (c.in-Some.ensures {u = tt} ∙ ap (λ f. Some (command_in f)) c.in-Certify.is)
    (returns-in-Certify-clause-causes g c)

pub returns-in-Migrate-clause-causes : goal.returns-in-Migrate-clause-causes
returns-in-Migrate-clause-causes g c =
    c.migrate.ensures.causes (map string_bytes c.args.words.now) c.args.steps.now (c.in-Some.ensures {u = tt} ∙ ap (λ f. Some (command_in f)) c.in-Migrate.is)

pub returns-in-Migrate-clause-usage : goal.returns-in-Migrate-clause-usage
returns-in-Migrate-clause-usage g c =
    usage_of (map string_bytes c.args.words.now) (g.L.Library.told c.args.library.now)
    (Rose (g.L.Library.faults c.args.library.now) (g.L.Library.faults c.migrate.new.library)) c.args.steps.now c.args.steps.now
    (migrate c.in-Migrate.script.now c.in-Migrate.settings.now c.in-Migrate.certificate.now) c.migrate.result (c.in-Some.ensures {u = tt} ∙ ap (λ f. Some (command_in f)) c.in-Migrate.is)
    (returns-in-Migrate-clause-causes g c)

pub returns-in-Solve-clause-causes : goal.returns-in-Solve-clause-causes
returns-in-Solve-clause-causes g c = c.solve.ensures.causes (map string_bytes c.args.words.now) (c.in-Some.ensures {u = tt} ∙ ap (λ f. Some (command_in f)) c.in-Solve.is)

pub returns-in-Solve-clause-usage : goal.returns-in-Solve-clause-usage
returns-in-Solve-clause-usage g c =
    usage_of (map string_bytes c.args.words.now) (g.L.Library.told c.args.library.now)
    (Rose (g.L.Library.faults c.args.library.now) (g.L.Library.faults c.solve.new.library)) c.args.steps.now c.solve.new.steps
    (solve c.in-Solve.script.now c.in-Solve.limit) c.solve.result (c.in-Some.ensures {u = tt} ∙ ap (λ f. Some (command_in f)) c.in-Solve.is) (returns-in-Solve-clause-causes g c)

pub returns-in-Resolve-clause-causes : goal.returns-in-Resolve-clause-causes
returns-in-Resolve-clause-causes g c = c.resolve.ensures.causes (map string_bytes c.args.words.now) (c.in-Some.ensures {u = tt} ∙ ap (λ f. Some (command_in f)) c.in-Resolve.is)

pub returns-in-Resolve-clause-usage : goal.returns-in-Resolve-clause-usage
returns-in-Resolve-clause-usage g c =
    usage_of (map string_bytes c.args.words.now) (g.L.Library.told c.args.library.now)
    (Rose (g.L.Library.faults c.args.library.now) (g.L.Library.faults c.resolve.new.library)) c.args.steps.now c.resolve.new.steps
    (resolve c.in-Resolve.script.now c.in-Resolve.settings.now c.in-Resolve.limit c.in-Resolve.warm) c.resolve.result (c.in-Some.ensures {u = tt} ∙ ap (λ f. Some (command_in f)) c.in-Resolve.is)
    (returns-in-Resolve-clause-causes g c)

pub returns-in-Certificate-clause-causes : goal.returns-in-Certificate-clause-causes
returns-in-Certificate-clause-causes g c = c.resolve-in-Certificate.ensures.causes (map string_bytes c.args.words.now) (c.in-Some.ensures {u = tt} ∙ ap (λ f. Some (command_in f)) c.in-Certificate.is)

pub returns-in-Certificate-clause-usage : goal.returns-in-Certificate-clause-usage
returns-in-Certificate-clause-usage g c =
    usage_of (map string_bytes c.args.words.now) (g.L.Library.told c.args.library.now)
    (Rose (g.L.Library.faults c.args.library.now) (g.L.Library.faults c.resolve-in-Certificate.new.library)) c.args.steps.now c.resolve-in-Certificate.new.steps
    (certificate c.in-Certificate.script.now c.in-Certificate.settings.now c.in-Certificate.limit) c.resolve-in-Certificate.result
    (c.in-Some.ensures {u = tt} ∙ ap (λ f. Some (command_in f)) c.in-Certificate.is) (returns-in-Certificate-clause-causes g c)

pub returns-in-Iis-clause-causes : goal.returns-in-Iis-clause-causes
returns-in-Iis-clause-causes g c = c.resolve-in-Iis.ensures.causes (map string_bytes c.args.words.now) (c.in-Some.ensures {u = tt} ∙ ap (λ f. Some (command_in f)) c.in-Iis.is)

pub returns-in-Iis-clause-usage : goal.returns-in-Iis-clause-usage
returns-in-Iis-clause-usage g c =
    usage_of (map string_bytes c.args.words.now) (g.L.Library.told c.args.library.now)
    (Rose (g.L.Library.faults c.args.library.now) (g.L.Library.faults c.resolve-in-Iis.new.library)) c.args.steps.now c.resolve-in-Iis.new.steps
    (iis c.in-Iis.script.now c.in-Iis.settings.now c.in-Iis.limit) c.resolve-in-Iis.result (c.in-Some.ensures {u = tt} ∙ ap (λ f. Some (command_in f)) c.in-Iis.is) (returns-in-Iis-clause-causes g c)

pub returns-in-Range-clause-causes : goal.returns-in-Range-clause-causes
returns-in-Range-clause-causes g c = c.range.ensures.causes (map string_bytes c.args.words.now) (c.in-Some.ensures {u = tt} ∙ ap (λ f. Some (command_in f)) c.in-Range.is)

pub returns-in-Range-clause-usage : goal.returns-in-Range-clause-usage
returns-in-Range-clause-usage g c =
    usage_of (map string_bytes c.args.words.now) (g.L.Library.told c.args.library.now)
    (Rose (g.L.Library.faults c.args.library.now) (g.L.Library.faults c.range.new.library)) c.args.steps.now c.range.new.steps
    (range c.in-Range.script.now c.in-Range.settings.now c.in-Range.parameter.now c.in-Range.limit) c.range.result (c.in-Some.ensures {u = tt} ∙ ap (λ f. Some (command_in f)) c.in-Range.is)
    (returns-in-Range-clause-causes g c)
