-- The laws of picks.
use Rattle.std.specs.Prelude.{◌≡◌, Ok}
use Rattle.std.proofs.Common.{sym, subst}
use Rattle.dcx_shape.specs.Shape.{sides_of}
use Rattle.dcx_shape.specs.Slice.{IsSlice}
use Rattle.dcx_shape.specs.Index.{IsIndex}
use Rattle.dcx_array.specs.Picks.{indexed}
use Rattle.dcx_array.proofs.Slices.{slice_places-is, slice_places-are}
use Rattle.dcx_array.proofs.PickedPlaces.{picked-Ok, picked_is, picked-Err, picked_fault}
use Rattle.dcx_array.proofs.Indices.{taken-Ok, taken_is, taken-Err, taken_fault, indexed-Ok, indexed_is}
use Rattle.dcx_array.proofs.laws.picks.Goals as goal

pub returns : goal.returns
returns c = record {
  slice = λ n s places step. ((λ e. subst (IsSlice n s) e (slice_places-are n s step)), slice_places-is n s places step);
  takes = λ n p places step. (picked-Ok n p places step, picked_is n p places step);
  fault = λ n p fault step. (picked-Err n p fault step, picked_fault n p fault step);
  index = λ from to picks places steps. (taken-Ok from to picks places steps, taken_is from to picks places steps);
  index_fault = λ from picks fault steps. (taken-Err from picks fault steps, taken_fault from picks fault steps);
  call = λ from picks call steps. (
    indexed-Ok from picks call steps,
    (λ h. subst (λ f. indexed f picks ≡ Ok call) h.0 (indexed_is picks call steps (subst (λ f. IsIndex (sides_of f) picks (sides_of call.to) call.places) (sym h.0) h.1))),
  );
}
