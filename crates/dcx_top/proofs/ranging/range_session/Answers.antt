-- A parameter without a range is refused first, then a settings file that fails; else its lines are ranged.
use Rattle.std.proofs.Common.{refl, sym, subst}
use Rattle.dcx_tree.specs.declared.problem.Problem.{Problem}
use Rattle.dcx_settings.proofs.Full.{items_full_in}
use Rattle.dcx_outcomes.specs.Ranges.{HasRange}
use Rattle.dcx_top.specs.Solving.{lacking, ending}
use Rattle.dcx_top.specs.NoRange.{IsRefusedForRange}
use Rattle.dcx_top.proofs.Endings.{lines_ranged}
use Rattle.dcx_top.proofs.ranging.range_session.Goals as goal

pub returns-in-Some-clause-run : goal.returns-in-Some-clause-run
returns-in-Some-clause-run g c = λ work begun same ends steps.
    lacking c.in-Some.refusal (subst (λ (z : Problem). IsRefusedForRange z c.args.name c.in-Some.refusal) (sym same) c.in-Some.ensures) refl steps

pub range_lines-requires-clause-full : goal.range_lines-requires-clause-full
range_lines-requires-clause-full g c = let (bytes, there, spelled) = c.in-Ok.ensures.reads in items_full_in bytes c.in-Ok.lines spelled

pub returns-in-Ok-clause-run : goal.returns-in-Ok-clause-run
returns-in-Ok-clause-run g c = λ work begun same ends steps.
    let (bytes, there, spelled) = c.in-Ok.ensures.reads in
    lines_ranged _ _ work c.args.settings.now c.args.name bytes c.in-Ok.lines c.args.limit begun c.args.steps.now c.range_lines.new.steps c.range_lines.result c.args.session.now.problem
    c.args.last.now same ends c.in_default.ensures there spelled steps c.range_lines.ensures

pub returns-in-Err-clause-run : goal.returns-in-Err-clause-run
returns-in-Err-clause-run g c = λ work begun same ends steps.
    ending (subst (λ (z : Problem). HasRange z c.args.name) (sym same) c.in_default.ensures) c.in-Err.ensures.reads steps
