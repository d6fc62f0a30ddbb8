-- A value is kept where its name is reached.
use Rattle.std.proofs.Common.{List, ℕ, Bor, sym, ◌∙◌, arith}
use Rattle.std.specs.HashSet.{contains}
use Rattle.dcx_atom.specs.declared.array.Array.{Array}
use Rattle.dcx_point.specs.Pairs.{same_name}
use Rattle.dcx_point.proofs.Copied.{no_array, no_name}
use Rattle.dcx_script_state.proofs.Settings.{value_kept, value_dropped}
use Rattle.dcx_script_state.proofs.problem.reached_values.Goals as goal
use Rattle.dcx_script_state.proofs.problem.reached_values.Goals.{in-Some+in-Some-get+then-contains+in_ok-put_copy, in-Some+in-Some-get+else-contains, in-Some+in_default-get, in_default}

pub loop-i-preserved : goal.loop-i-preserved
loop-i-preserved c = elim c.match-name_at.branch [
  | in-Some+in-Some-get+then-contains+in_ok-put_copy w ↦
      value_kept (contains same_name c.args.reached.now) c.args.setting.now c.loop-i.values c.match-name_at.values c.loop-i.i c.len-i-end.ensures.distinct c.loop-i.invariant
      w.in-Some.name.now w.in-Some-get.array.now w.in-Some.ensures w.in-Some-get.ensures (sym w.contains.ensures ∙ w.if-contains.true) (w.values-is ∙ w.in_ok-put_copy.ensures)
  | in-Some+in-Some-get+else-contains w ↦
      value_dropped (contains same_name c.args.reached.now) c.args.setting.now c.loop-i.values c.match-name_at.values c.loop-i.i c.len-i-end.ensures.distinct c.loop-i.invariant
      w.in-Some.name.now w.in-Some.ensures (sym w.contains.ensures ∙ w.if-contains.false) w.values-is
  | in-Some+in_default-get w ↦
      absurd (no_array c.args.setting.now c.loop-i.i c.len-i-end.ensures.distinct (λ (x : Bor Array). x.now) w.get.result w.in-Some.name.now w.in-Some.ensures w.get.ensures w.in_default-get.not-Some)
  | in_default w ↦
      absurd (no_name c.args.setting.now c.loop-i.i (λ (x : Bor (List ℕ)). x.now) c.name_at.result
      (omega (arith, c.loop-i-test.true, c.len-i-end.ensures.count)) c.name_at.ensures w.in_default.not-Some)
]
