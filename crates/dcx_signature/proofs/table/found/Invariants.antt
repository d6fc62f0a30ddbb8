-- What was passed over isn't what is sought.
use Rattle.std.proofs.Common.{◌≡◌, map, drop}
use Rattle.std.specs.Map.{lookup}
use Rattle.dcx_point.specs.Pairs.{same_name}
use Rattle.dcx_signature.specs.View.{entry_seen}
use Rattle.dcx_signature.proofs.table.found.Given as goal

abbrev pub invariant-loop-word : goal.invariant-loop-word
invariant-loop-word l = lookup (same_name l.name) (map entry_seen (drop l.word-index l.functions)) ≡ lookup (same_name l.name) (map entry_seen l.functions)
