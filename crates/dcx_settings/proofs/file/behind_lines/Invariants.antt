-- The rest is spelled by the lines behind those so far.
use Rattle.std.proofs.Common.{◌≡◌, ◌≤◌, List, length, drop}
use Rattle.dcx_settings.specs.Terminal.{terminals}
use Rattle.dcx_settings.specs.Grammar.{Line, settings_text}
use Rattle.dcx_settings.proofs.file.behind_lines.Given as goal

abbrev pub invariant-loop : goal.invariant-loop
invariant-loop l = record {
  rest : (lines : List Line) → settings_text lines ≡ terminals l.text l.tokens → terminals l.text l.rest ≡ settings_text (drop l.counter lines);
  within : length l.rest ≤ length l.tokens;
}
