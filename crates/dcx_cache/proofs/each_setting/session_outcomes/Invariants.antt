-- The settings so far end in turn, and their steps are counted.
use Rattle.std.proofs.Common.{◌≡◌, ◌+◌, ◌*◌, ◌≤◌, length, take}
use Rattle.dcx_cache.specs.Programs.{HasMap}
use Rattle.dcx_cache.specs.InTurn.{EndInTurn}
use Rattle.dcx_cache.proofs.each_setting.session_outcomes.Given as goal

abbrev pub invariant-loop-setting : goal.invariant-loop-setting
invariant-loop-setting g l = record {
  outcomes : EndInTurn (g.E.EachSetting.ends l.each l.initial.session.problem) (take l.setting-index l.settings) (l.initial.session.columns, l.initial.tally) l.outcomes.items
      (l.session.columns, l.tally);
  same : l.session.problem ≡ l.initial.session.problem;
  counted : HasMap l.initial.session.problem → l.steps ≡ l.initial.steps;
  few : l.steps ≤ l.initial.steps + l.setting-index * length l.initial.session.problem.tree;
}
