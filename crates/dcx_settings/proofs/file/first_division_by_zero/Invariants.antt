-- No division by 0 so far.
use Rattle.std.proofs.Common.{ℕ, ◌<◌}
use Rattle.dcx_settings.specs.Terminal.{terminals}
use Rattle.dcx_settings.specs.File.{DividesByZero}
use Rattle.dcx_settings.proofs.file.first_division_by_zero.Given as goal

abbrev pub invariant-loop-i : goal.invariant-loop-i
invariant-loop-i l = (j : ℕ) → j < l.i → DividesByZero (terminals l.text l.tokens) j → ⊥
