-- The items so far are laid over the setting, and those that are left are full.
use Rattle.std.proofs.Common.{take}
use Rattle.dcx_overlay.specs.Settings.{LaidOver}
use Rattle.dcx_overlay.proofs.overlay.laid_over.Given as goal

abbrev pub invariant-loop-item : goal.invariant-loop-item
invariant-loop-item l = LaidOver l.setting (take l.item-index l.line) l.laid
