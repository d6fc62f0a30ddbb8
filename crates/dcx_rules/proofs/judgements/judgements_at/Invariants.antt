-- The judgements of the nodes that are passed.
use Rattle.std.proofs.Common.{◌≡◌, map, take, Some}
use Rattle.std.specs.List.{slice_get}
use Rattle.dcx_arena.specs.Nodes.{positions}
use Rattle.dcx_rules.proofs.judgements.judgements_at.Given as goal

abbrev pub invariant-loop-id : goal.invariant-loop-id
invariant-loop-id l = map Some l.chosen.items ≡ map (slice_get l.judgements) (positions (take l.id-index l.ids))
