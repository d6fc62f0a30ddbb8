-- A reduced program as contracts see it.
use Rattle.std.specs.Prelude.{◌≡◌, ◌<◌, ◌^◌, Bool, List, length}
use Rattle.dcx_linear.specs.declared.row.Row.{Row}
use Rattle.dcx_graph.specs.declared.origin.Origin.{Origin}
use Rattle.dcx_graph.specs.Program.{Program}

-- the program, and whether the values of the parameters were put in
pub record Reduction (C : Type 0) : Type 0 where
  pub program : Program C
  pub from_map : Bool

-- each row has one origin, and a number of 32 bits
pub record HasOrigins {C : Type 0} (rows : List (Row C)) (origins : List Origin) : Type 0 where
  pub one_each : length origins ≡ length rows
  pub few : length rows < 2 ^ 32
