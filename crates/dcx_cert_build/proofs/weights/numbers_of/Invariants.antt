-- The numbers of the rows so far.
use Rattle.std.proofs.Common.{◌≡◌, take}
use Rattle.std.specs.List.{filter_map}
use Rattle.dcx_cert_build.specs.Weights.{number_for}
use Rattle.dcx_cert_build.proofs.weights.numbers_of.Given as goal

abbrev pub invariant-rows : goal.invariant-rows
invariant-rows l = l.numbers.items ≡ filter_map (number_for l.node.0) (take l.row-index l.rows)
