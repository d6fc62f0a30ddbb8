-- The laws of formed arrays.
use Rattle.dcx_array.proofs.FormedEntries.{formed_array-Ok, formed_is, formed_array-Err, formed_stops}
use Rattle.dcx_array.proofs.laws.forming.Goals as goal

pub returns : goal.returns
returns c = record {
  formed = λ shape f a. (formed_array-Ok shape f a, (λ h. formed_is shape f a h.0 h.1));
  stopped = λ shape f passes. (formed_array-Err shape f passes, formed_stops shape f passes);
}
