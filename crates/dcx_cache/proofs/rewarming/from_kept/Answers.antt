-- Without a map no answer is warm.
use Rattle.std.proofs.Common.{option_copied, subst}
use Rattle.dcx_cache.specs.Programs.{HasMap}
use Rattle.dcx_cache.specs.Sessions.{KeepsMap}
use Rattle.dcx_cache.proofs.Kept.{has_map}
use Rattle.dcx_cache.proofs.WarmRuns.{never_unmapped, fresh_answers, fresh_never}
use Rattle.dcx_cache.proofs.rewarming.from_kept.Goals as goal

pub rewarmed-requires-clause-mapped : goal.rewarmed-requires-clause-mapped
rewarmed-requires-clause-mapped c = has_map c.args.problem.now c.args.map c.in-Some.field-0 c.in-Some.is c.requires.kept

pub returns-in-None-clause-answer : goal.returns-in-None-clause-answer
returns-in-None-clause-answer c =
    let p = c.args.problem.now in
    let s = c.args.setting.now in
    let before = option_copied c.args.columns in
    let none : ¬ (HasMap p) = subst (λ o. KeepsMap p (option_copied o)) c.in-None.is c.requires.kept in
    fresh_answers p s c.args.limit before (never_unmapped p s c.args.limit before none) c.args.reduced.program c.fresh-in-None.result c.fresh-in-None.ensures.fresh c.fresh-in-None.ensures.answer

pub returns-in-None-clause-never : goal.returns-in-None-clause-never
returns-in-None-clause-never c =
    let p = c.args.problem.now in
    let s = c.args.setting.now in
    let before = option_copied c.args.columns in
    let none : ¬ (HasMap p) = subst (λ o. KeepsMap p (option_copied o)) c.in-None.is c.requires.kept in
    fresh_never p s c.args.limit before (never_unmapped p s c.args.limit before none) c.fresh-in-None.result
