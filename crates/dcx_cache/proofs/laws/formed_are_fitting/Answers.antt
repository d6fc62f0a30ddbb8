-- A setting at which all nodes are formed is a fitting one.
use Rattle.dcx_cache.proofs.DivisorLawsHold.{formed_are_fitting}
use Rattle.dcx_cache.proofs.laws.formed_are_fitting.Goals as goal

pub returns : goal.returns
returns c = formed_are_fitting
