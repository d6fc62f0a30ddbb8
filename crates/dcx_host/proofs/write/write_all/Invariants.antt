-- What is written so far is a front of the text, and each write was handed all the rest.
use Rattle.std.proofs.Common.{length, ◌-◌, ◌≤◌, take}
use Rattle.std.specs.Io.KnownBytes.{Appends}
use Rattle.dcx_host.specs.Pieces.{HandsRests}
use Rattle.dcx_host.proofs.write.write_all.Given as goal

-- a front is written, the writes were handed the rests, and the count of faults has not fallen
abbrev pub invariant-loop-done : goal.invariant-loop-done
invariant-loop-done g l = record {
  within : l.done ≤ length l.text;
  front : Appends (g.K.Sink.written l.fn.sink) (g.K.Sink.written l.sink) (take l.done l.text);
  rests : HandsRests (g.K.Sink.handed l.fn.sink) (g.K.Sink.handed l.sink) l.text l.done;
  later : g.K.Sink.faults l.fn.sink ≤ g.K.Sink.faults l.sink;
}

abbrev pub decreases-loop-done : goal.decreases-loop-done
decreases-loop-done g l = length l.text - l.done
