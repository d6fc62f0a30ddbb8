-- The entries so far are formed.
use Rattle.std.proofs.Common.{Ok}
use Rattle.dcx_entries.specs.Forming.{FormsEach}
use Rattle.dcx_entries.specs.Entries.{ParameterEntry}
use Rattle.dcx_entries.proofs.parameter.parameter_entries.Given as goal

abbrev pub invariant-entries : goal.invariant-entries
invariant-entries g l = FormsEach (ParameterEntry g.C.Coef.parameter_gives l.position l.name l.setting) l.j (Ok l.entries.items)
