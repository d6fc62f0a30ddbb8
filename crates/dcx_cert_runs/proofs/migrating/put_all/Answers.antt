-- The next section has the values of its setting.
use Rattle.std.proofs.Common.{◌≡◌, ◌+◌, length, get_or, sym, ap, ◌∙◌, subst, arith, rules, refl}
use Rattle.std.proofs.lemmas.List.{length_push}
use Rattle.std.proofs.lemmas.Result.{err_from_is_err_and}
use Rattle.std.proofs.lemmas.Iterator.Adapters.{YieldsList-from_vec}
use Rattle.std.proofs.lemmas.Iterator.Consumers.{YieldsList-turn, YieldsList-end}
use Rattle.dcx_cert_sections.specs.declared.section.Format.TheVariants.{Two}
use Rattle.dcx_cert_runs.specs.Migrating.{with_values}
use Rattle.dcx_cert_runs.proofs.Lists.{AreMade, none_made, made_step}
use Rattle.dcx_cert_runs.proofs.Migrated.{migrated}
use Rattle.dcx_cert_runs.proofs.migrating.put_all.Goals as goal

pub loop-section-init : goal.loop-section-init
loop-section-init c =
    subst (λ zs. AreMade (with_values c.args.problem.now) c.args.settings.now c.args.sections.list zs 0) (sym c.requires.empty)
    (none_made (with_values c.args.problem.now) c.args.settings.now c.args.sections.list)

pub loop-section-preserved : goal.loop-section-preserved
loop-section-preserved c =
    let xs = c.into_vec-section-items.result.items in
    let turn = YieldsList-turn (YieldsList-from_vec {s = c.into_iter-section-iterator.result} xs (search rules) (search rules)) c.loop-section.yielded c.loop-section.section-iterator
    c.loop-section.yielded_by c.next.result c.next.new.self c.in-Some.section c.in-Some.is c.next.ensures.steps in
    let before = c.loop-section.invariant in
    let at : c.len-i.result ≡ length c.loop-section.yielded = omega (arith, before.count) in
    rw length_push
    (subst (λ zs. AreMade (with_values c.args.problem.now) c.args.settings.now c.args.sections.list zs (length c.loop-section.yielded + 1)) (sym c.in_ok-push.ensures.items)
    (made_step (with_values c.args.problem.now) c.args.settings.now c.args.sections.list c.loop-section.list.items
    (length c.loop-section.yielded) c.index-settings-i.result c.in-Some.section c.in_ok-with.with before
    (c.index-settings-i.is ∙ ap (λ k. get_or c.args.settings.now k c.index-settings-i.result) at)
    (turn.1 ∙ ap (λ l. get_or l (length c.loop-section.yielded) c.in-Some.section) c.into_vec-section-items.ensures) c.in_ok-with.ensures))

pub bounds-settings-i : goal.bounds-settings-i
bounds-settings-i c =
    let xs = c.into_vec-section-items.result.items in
    let turn = YieldsList-turn (YieldsList-from_vec {s = c.into_iter-section-iterator.result} xs (search rules) (search rules)) c.loop-section.yielded c.loop-section.section-iterator
    c.loop-section.yielded_by c.next.result c.next.new.self c.in-Some.section c.in-Some.is c.next.ensures.steps in
    let same = ap length c.into_vec-section-items.ensures in
    omega (arith, c.loop-section.invariant.count, turn.0, same, c.requires.count)

pub returns : goal.returns
returns c =
    let xs = c.into_vec-section-items.result.items in
    let end = YieldsList-end (YieldsList-from_vec {s = c.into_iter-section-iterator.result} xs (search rules) (search rules)) c.loop-section.yielded c.loop-section.section-iterator
    c.loop-section.yielded_by c.next.result c.next.new.self c.in-None.is c.next.ensures.steps in
    let all : length c.loop-section.yielded ≡ length c.args.sections.list = end.1 ∙ ap length c.into_vec-section-items.ensures in
    migrated c.args.problem.now c.args.settings.now c.args.sections (record { format = Two; list = c.loop-section.list.items }) refl
    (subst (AreMade (with_values c.args.problem.now) c.args.settings.now c.args.sections.list c.loop-section.list.items) all c.loop-section.invariant)

pub returns-in_err-with : goal.returns-in_err-with
returns-in_err-with c = let p = err_from_is_err_and c.from_residual.result c.from_residual.ensures.1 in rw p.1 tt

pub returns-in_err-push : goal.returns-in_err-push
returns-in_err-push c = let p = err_from_is_err_and c.from_residual-in_err-push.result c.from_residual-in_err-push.ensures.1 in rw p.1 tt
