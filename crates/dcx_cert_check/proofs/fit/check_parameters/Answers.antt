-- The stop that is met is the fault.
use Rattle.dcx_cert_check.proofs.Steps.{misfit}
use Rattle.dcx_cert_check.proofs.fit.check_parameters.Goals as goal

pub returns-in-Err : goal.returns-in-Err
returns-in-Err c = misfit c.args.problem.now c.args.setting.now c.in-Err.stop c.fault_of.result c.in-Err.ensures.stops c.fault_of.ensures
