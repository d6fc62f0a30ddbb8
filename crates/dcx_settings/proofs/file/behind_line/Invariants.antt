-- The rest has the first line end.
use Rattle.std.proofs.Common.{◌≡◌, ◌≤◌, length}
use Rattle.dcx_settings.specs.Terminal.{terminals}
use Rattle.dcx_settings.specs.File.{behind_line}
use Rattle.dcx_settings.proofs.file.behind_line.Given as goal

abbrev pub invariant-loop-rest : goal.invariant-loop-rest
invariant-loop-rest l = record {
  rest : behind_line (terminals l.text l.rest) ≡ behind_line (terminals l.text l.tokens);
  within : length l.rest ≤ length l.tokens;
}

abbrev pub decreases-loop-rest : goal.decreases-loop-rest
decreases-loop-rest l = length l.rest
