-- Each pair is copied.
use Rattle.std.proofs.Common.{Bor, List, ℕ, ◌∙◌, arith}
use Rattle.std.proofs.lemmas.List.{take_all}
use Rattle.dcx_atom.specs.declared.array.Array.{Array}
use Rattle.dcx_point.proofs.Copied.{pair_more, no_array, no_name}
use Rattle.dcx_point.proofs.arrays.Arrays.copy.Goals as goal
use Rattle.dcx_point.proofs.arrays.Arrays.copy.Goals.{in-Some+in-Some-get+in_ok-copy_name+in_ok-copy_array+in_ok-put, in-Some+in_default-get, in_default}

pub loop-i-preserved : goal.loop-i-preserved
loop-i-preserved c = elim c.match-name_at.branch [
  | in-Some+in-Some-get+in_ok-copy_name+in_ok-copy_array+in_ok-put w ↦
      pair_more c.args.self.now c.loop-i.copied c.match-name_at.copied c.loop-i.i c.len-i-end.ensures.distinct c.loop-i.invariant
      w.in-Some.name.now w.in_ok-copy_name.field-0 w.in-Some-get.array.now w.in_ok-copy_array.field-0 w.in-Some.ensures w.in-Some-get.ensures
      w.in_ok-copy_name.ensures w.in_ok-copy_array.ensures (w.copied-is ∙ w.in_ok-put.ensures.ok)
  | in-Some+in_default-get w ↦
      absurd (no_array c.args.self.now c.loop-i.i c.len-i-end.ensures.distinct (λ (x : Bor Array). x.now) w.get.result w.in-Some.name.now w.in-Some.ensures w.get.ensures w.in_default-get.not-Some)
  | in_default w ↦
      absurd (no_name c.args.self.now c.loop-i.i (λ (x : Bor (List ℕ)). x.now) c.name_at.result (omega (arith, c.loop-i-test.true, c.len-i-end.ensures.count)) c.name_at.ensures w.in_default.not-Some)
]

pub returns : goal.returns
returns c = c.loop-i.invariant ∙ take_all c.loop-i.i c.args.self.now (omega (arith, c.loop-i-test.false, c.len-i-end.ensures.count))
