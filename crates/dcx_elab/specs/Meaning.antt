-- What a script stands for: the state at its end and what is asked there, or the first fault.
use Rattle.std.specs.Prelude.{◌≡◌, Option, Some, None, Result, Ok, Err}
use Rattle.dcx_tree.specs.Gather.{IsProblemOf}
use Rattle.dcx_syntax.specs.declared.tree.Script.{Script}
use Rattle.dcx_syntax.specs.Statements.{Lines}
use Rattle.dcx_syntax.specs.View.{script_view}
use Rattle.dcx_script_values.specs.declared.fault.ElabFault.{ElabFault}
use Rattle.dcx_script_values.specs.declared.fault.ElabFault.TheVariants.{NoProblem}
use Rattle.dcx_script_values.specs.Values.{Asked, State}
use Rattle.dcx_script_values.specs.View.{Fails}
use Rattle.dcx_script_state.specs.Declarations.{start, standing_setting, events_or_end}
use Rattle.dcx_script_state.specs.Ends.{script_start, roots_in}
use Rattle.dcx_elab.specs.declared.work.Work.{Work}
use Rattle.dcx_elab.specs.Statements.{lines_mean}

abbrev pub ended_with : State → Option Asked → Result (State × Asked) ElabFault
ended_with s None = Err (NoProblem script_start)
ended_with s (Some q) = Ok (s, q)

abbrev pub ended : Result (Unit {0} × State) ElabFault → Result (State × Asked) ElabFault
ended (Ok x) = ended_with x.1 x.1.asked
ended (Err e) = Err e

-- the meaning of a script: its lines one after the other, where nothing is bound and nothing declared, and at the end a problem
abbrev pub meaning : Lines → Result (State × Asked) ElabFault
meaning ls = ended (lines_mean ls start)

-- the problem is what is reached of all nodes, and the settings are those of the solves, or of the end, and that of the end
pub record IsWork (s : State) (q : Asked) (w : Work) : Type 0 where
  pub problem : IsProblemOf s.nodes (roots_in s q) w.problem
  pub events : w.events ≡ events_or_end (standing_setting s) s.events
  pub last : w.last ≡ standing_setting s

-- the script has this meaning, or a fault is its first one, unless memory ran out
abbrev pub Elaborates : Result Work ElabFault → Script → Type 0
Elaborates (Ok w) script = (s : State) × ((q : Asked) × ((meaning (script_view script) ≡ Ok (s, q)) × IsWork s q w))
Elaborates (Err e) script = Fails e (meaning (script_view script))
