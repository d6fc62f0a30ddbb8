-- The values of the parameters so far.
use Rattle.std.proofs.Common.{◌≡◌, take}
use Rattle.std.specs.List.{flat_map}
use Rattle.dcx_cert_build.proofs.Copied.{value_of}
use Rattle.dcx_cert_build.proofs.copies.values_of.Given as goal

abbrev pub invariant-parameters : goal.invariant-parameters
invariant-parameters l = l.values ≡ flat_map (value_of l.setting) (take l.parameter-index l.parameter-items)
