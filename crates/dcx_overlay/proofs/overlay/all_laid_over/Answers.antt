-- One line more is laid over the setting.
use Rattle.std.proofs.Common.{subst, sym, ◌∙◌}
use Rattle.dcx_settings.specs.Grammar.{Every}
use Rattle.dcx_settings.specs.Meaning.{IsFull}
use Rattle.dcx_overlay.specs.Settings.{LaidOver}
use Rattle.dcx_overlay.proofs.Laid.{every_at, line_more}
use Rattle.dcx_overlay.proofs.overlay.all_laid_over.Goals as goal

pub laid_over-requires : goal.laid_over-requires
laid_over-requires c =
    subst (Every IsFull) (sym (c.as_slice.ensures ∙ c.line-item.is)) (every_at (Every IsFull) c.args.lines.now c.loop-line.line-index c.line-item.result c.loop-line-test.true c.requires)

pub loop-line-preserved : goal.loop-line-preserved
loop-line-preserved c =
    line_more c.args.setting.now c.args.lines.now c.loop-line.line-index c.line-item.result c.loop-line.settings.items c.push.new.self.items c.in_ok-laid_over.field-0 c.loop-line-test.true
    c.line-item.is c.loop-line.invariant
    (subst (λ xs. LaidOver c.args.setting.now xs c.in_ok-laid_over.field-0) c.as_slice.ensures c.in_ok-laid_over.ensures) c.in_ok-push.ensures.items
