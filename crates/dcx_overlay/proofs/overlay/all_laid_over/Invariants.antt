-- The lines so far are laid over the setting.
use Rattle.std.proofs.Common.{take}
use Rattle.dcx_overlay.specs.Settings.{AreLaidOver}
use Rattle.dcx_overlay.proofs.overlay.all_laid_over.Given as goal

abbrev pub invariant-loop-line : goal.invariant-loop-line
invariant-loop-line l = AreLaidOver l.setting (take l.line-index l.lines) l.settings.items
