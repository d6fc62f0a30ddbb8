-- The tableau from which the simplex starts on a program.
use Rattle.dcx_tab.specs.declared.program.Program.{Program}
use Rattle.dcx_tab.specs.Table.{Table}
use Rattle.dcx_tab.specs.Program.{first_table}

abbrev pub first_tableau : Program → Table
first_tableau p = first_table p.rows p.columns p.objective p.phase
