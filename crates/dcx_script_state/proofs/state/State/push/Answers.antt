-- A call that no declaration makes asks nothing of what is declared.
use Rattle.dcx_script_state.proofs.Grown.{plain_listed}
use Rattle.dcx_script_state.proofs.state.State.push.Goals as goal

pub put-requires : goal.put-requires
put-requires c = plain_listed c.args.self.now.variables c.args.self.now.parameters c.args.call c.requires
