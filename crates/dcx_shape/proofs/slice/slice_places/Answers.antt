-- The run's places are the slice's, and where the run has some the slice isn't empty.
use Rattle.std.proofs.Common.{◌≡◌, ◌<◌, [], arith}
use Rattle.std.proofs.lemmas.Result.{IfOk-weaker}
use Rattle.std.specs.List.{All}
use Rattle.dcx_shape.specs.Run.{places_of}
use Rattle.dcx_shape.specs.declared.fault.ShapeFault.TheVariants.{Empty, Memory}
use Rattle.dcx_shape.proofs.Slices.{slice_below, slice_length, length-places_from}
use Rattle.dcx_shape.proofs.Faults.{only_memory}
use Rattle.dcx_shape.proofs.slice.slice_places.Goals as goal

pub returns-clause-within : goal.returns-clause-within
returns-clause-within c =
    IfOk-weaker c.places.result (λ places. places ≡ places_of c.slice_run-run.result) (All (λ p. p < c.args.size))
    (λ places same. rw same (slice_below c.args.size c.args.slice (places_of c.slice_run-run.result) c.requires c.slice_run-run.ensures)) c.places.ensures.ok

pub returns-clause-empty : goal.returns-clause-empty
returns-clause-empty c =
    let run = c.slice_run-run.result in (
      (λ e. absurd (let wrong : Empty ≡ Memory = only_memory c.places.result Empty c.places.ensures.fault e in cc)),
      (λ none. absurd (omega (arith, c.if-run-eq0.false, slice_length c.args.size c.args.slice (places_of run) [] c.slice_run-run.ensures none, length-places_from run.first run.step run.count))),
    )
