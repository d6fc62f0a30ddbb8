-- Before the first write nothing is written, and each write goes on where those before it ended.
use Rattle.std.proofs.Common.{ℕ, arith, length-take, length-drop, zero-le, le_refl}
use Rattle.dcx_host.proofs.Writing.{Appends_none, Appends_trans, fronts, hands_none, hands_more, writes_whole, writes_front}
use Rattle.dcx_host.proofs.write.write_all.Goals as goal

pub loop-done-init : goal.loop-done-init
loop-done-init g c = record { within = zero-le; front = Appends_none _; rests = hands_none _ _; later = le_refl _ }

pub loop-done-preserved : goal.loop-done-preserved
loop-done-preserved g c = record {
  within = omega (arith, c.in_ok-done.ensures.size, length-take {A = ℕ}, length-drop {A = ℕ});
  front = Appends_trans _ _ _ _ _ _ c.loop-done.invariant.front c.in_ok-done.ensures.written (fronts _ _ _);
  rests = hands_more _ _ _ _ _ _ c.loop-done.invariant.rests c.in_ok-done.ensures.handed;
  later = omega (arith, c.in_ok-done.ensures.never_falls);
}

pub returns-in_err-done-clause-err : goal.returns-in_err-done-clause-err
returns-in_err-done-clause-err g c =
    writes_front _ _ _ _ _ _ _ _ _ _ _ (omega (arith, c.loop-done-test.true)) c.loop-done.invariant.front c.in_err-done.ensures.written c.loop-done.invariant.rests
    c.in_err-done.ensures.handed

pub returns-clause-ok : goal.returns-clause-ok
returns-clause-ok g c =
    writes_whole _ _ _ _ _ _ c.loop-done.invariant.within (omega (arith, c.loop-done-test.false)) c.loop-done.invariant.front c.loop-done.invariant.rests
