-- The weights of the rows so far.
use Rattle.std.proofs.Common.{◌≡◌, map, take, Ok}
use Rattle.std.specs.List.{zip}
use Rattle.dcx_cert_sections.specs.Outlines.{rows_shown}
use Rattle.dcx_cert_build.specs.Weights.{row_weight}
use Rattle.dcx_cert_build.proofs.forming.row_weights.Given as goal

abbrev pub invariant-rows : goal.invariant-rows
invariant-rows l = map Ok l.weights.items ≡ map (λ r. row_weight (map rows_shown l.atoms) l.answer.status r.0 r.1) (take l.row (zip l.reduced.program.origins l.answer.rows))
