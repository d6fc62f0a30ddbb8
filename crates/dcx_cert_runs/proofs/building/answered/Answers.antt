-- The answer was found last, and is one of the problem that can be built: the certificate that is built is its section.
use Rattle.std.proofs.Common.{sym, subst}
use Rattle.dcx_tree.specs.declared.problem.Problem.{Problem}
use Rattle.dcx_tree.specs.Meaning.{setting_of}
use Rattle.dcx_graph.specs.Fixed.{HaveArrays}
use Rattle.dcx_graph.specs.Answers.{IsAnswered, IsRead}
use Rattle.dcx_cert_build.specs.Origins.{IsLaidOut}
use Rattle.dcx_cert_build.specs.Built.{IsBuilt, StopsBuilding}
use Rattle.dcx_cert_runs.proofs.Built.{given, is_laid_out, answered, read, cert_at, not_stopped, unbuilt_at, has_last}
use Rattle.dcx_cert_runs.proofs.building.answered.Goals as goal

pub unreachable-requires : goal.unreachable-requires
unreachable-requires c =
    has_last c.args.session.now.problem c.args.setting.now c.requires.0 c.args.session.now.cached c.args.answer.now c.args.session.now.last c.requires.1 (c.in_default.ensures {u = tt})

pub build-requires-clause-given : goal.build-requires-clause-given
build-requires-clause-given c =
    let (l, is, from, of) = c.in-Some.ensures in
    subst (λ (z : Problem). HaveArrays z c.args.setting.now) (sym c.problem.ensures.problem)
    (given c.args.session.now.problem c.args.setting.now c.requires.0 c.args.session.now.cached c.args.answer.now c.args.session.now.last l c.in-Some.reduced.now c.in-Some.rows.now c.requires.1 is
    from of)

pub build-requires-clause-laid_out : goal.build-requires-clause-laid_out
build-requires-clause-laid_out c =
    let (l, is, from, of) = c.in-Some.ensures in
    subst (λ (z : Problem). IsLaidOut z c.in-Some.reduced.now.program) (sym c.problem.ensures.problem)
    (is_laid_out c.args.session.now.problem c.args.setting.now c.requires.0 c.args.session.now.cached c.args.answer.now c.args.session.now.last l c.in-Some.reduced.now c.in-Some.rows.now
    c.requires.1 is from of)

pub build-requires-clause-answered : goal.build-requires-clause-answered
build-requires-clause-answered c =
    let (l, is, from, of) = c.in-Some.ensures in
    subst (λ (z : Problem). IsAnswered z (setting_of z c.args.setting.now) c.in-Some.reduced.now.program c.in-Some.rows.now) (sym c.problem.ensures.problem)
    (answered c.args.session.now.problem c.args.setting.now c.requires.0 c.args.session.now.cached c.args.answer.now c.args.session.now.last l c.in-Some.reduced.now c.in-Some.rows.now c.requires.1
    is from of c.problem.ensures.accepted)

pub build-requires-clause-read : goal.build-requires-clause-read
build-requires-clause-read c =
    let (l, is, from, of) = c.in-Some.ensures in
    subst (λ (z : Problem). IsRead z c.in-Some.reduced.now.program.kinds c.in-Some.rows.now c.args.answer.now) (sym c.problem.ensures.problem)
    (read c.args.session.now.problem c.args.setting.now c.requires.0 c.args.session.now.cached c.args.answer.now c.args.session.now.last l c.in-Some.reduced.now c.in-Some.rows.now c.requires.1 is
    from of)

pub returns-in-Ok-clause-section : goal.returns-in-Ok-clause-section
returns-in-Ok-clause-section c limit shows =
    let (l, is, from, of) = c.in-Some.ensures in
    cert_at c.args.session.now.problem c.args.setting.now limit c.args.session.now.cached c.args.answer.now c.args.session.now.last l c.in-Some.reduced.now c.in-Some.rows.now shows
    is from of c.in-Ok.cert
    (subst (λ (z : Problem). IsBuilt z c.args.setting.now c.in-Some.reduced.now.program.origins c.in-Some.rows.now c.args.answer.now c.in-Ok.cert) c.problem.ensures.problem c.in-Ok.ensures.built)

pub returns-in-Err-clause-section : goal.returns-in-Err-clause-section
returns-in-Err-clause-section c limit shows =
    let (l, is, from, of) = c.in-Some.ensures in
    unbuilt_at c.args.session.now.problem c.args.setting.now limit c.args.session.now.cached c.args.answer.now c.args.session.now.last l c.in-Some.reduced.now c.in-Some.rows.now shows
    is from of c.in-Err.stop c.unbuilt.result
    (subst (λ (z : Problem). StopsBuilding z c.in-Some.reduced.now.program.origins c.in-Some.rows.now c.in-Err.stop) c.problem.ensures.problem c.in-Err.ensures.stops) c.unbuilt.ensures.none
    c.unbuilt.ensures.told

pub returns-in-Ok-clause-not_stopped : goal.returns-in-Ok-clause-not_stopped
returns-in-Ok-clause-not_stopped c limit shows =
    let (l, is, from, of) = c.in-Some.ensures in
    not_stopped c.args.session.now.problem c.args.setting.now limit c.args.session.now.cached c.args.answer.now c.args.session.now.last l c.in-Some.reduced.now c.in-Some.rows.now shows
    is from of c.problem.ensures.accepted

pub returns-in-Err-clause-not_stopped : goal.returns-in-Err-clause-not_stopped
returns-in-Err-clause-not_stopped c limit shows =
    let (l, is, from, of) = c.in-Some.ensures in
    not_stopped c.args.session.now.problem c.args.setting.now limit c.args.session.now.cached c.args.answer.now c.args.session.now.last l c.in-Some.reduced.now c.in-Some.rows.now shows
    is from of c.problem.ensures.accepted
