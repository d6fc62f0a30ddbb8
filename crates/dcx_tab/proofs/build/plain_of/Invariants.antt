-- No artificial column so far.
use Rattle.std.proofs.Common.{◌≡◌, ◌+◌, drop}
use Rattle.dcx_tab.specs.Program.{plain_count}
use Rattle.dcx_tab.proofs.build.plain_of.Given as goal

abbrev pub invariant-kinds : goal.invariant-kinds
invariant-kinds l = record { count : l.plain ≡ l.kind-index; rest : plain_count l.kinds ≡ l.kind-index + plain_count (drop l.kind-index l.kinds) }
