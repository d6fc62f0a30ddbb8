-- The multipliers so far are formed.
use Rattle.std.proofs.Common.{◌≡◌, map, take, Ok}
use Rattle.dcx_lp_answer.specs.Multipliers.{multiplier_of}
use Rattle.dcx_lp_answer.proofs.forming.multipliers_of.Given as goal

abbrev pub invariant-notes : goal.invariant-notes
invariant-notes l = map Ok l.found.items ≡ map (multiplier_of l.status l.kind) (take l.index l.notes)
