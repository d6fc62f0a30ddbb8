-- What is left to pass over among what is left.
use Rattle.std.proofs.Common.{◌≡◌, map, drop}
use Rattle.std.specs.Prelude.{filter, slice_get}
use Rattle.dcx_signature.specs.View.{param_seen}
use Rattle.dcx_signature.proofs.matching.listed_at.Given as goal

abbrev pub invariant-loop-param : goal.invariant-loop-param
invariant-loop-param l =
    slice_get (filter (λ p. p.by_position) (map param_seen (drop l.param-index l.params))) l.left
    ≡ slice_get (filter (λ p. p.by_position) (map param_seen l.params)) l.position
