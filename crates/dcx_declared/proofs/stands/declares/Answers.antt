-- A variable or a parameter declares the name that is its own.
use Rattle.std.proofs.Common.{ap}
use Rattle.dcx_declared.specs.Stands.{name_of}
use Rattle.dcx_declared.proofs.Standing.{named_is}
use Rattle.dcx_declared.proofs.stands.declares.Goals as goal

pub returns-in-Variable : goal.returns-in-Variable
returns-in-Variable c = named_is c.args.name.now c.in-Variable.variable.name c.is_same.result (name_of c.args.call.now) (ap name_of c.in-Variable.is) c.is_same.ensures

pub returns-in-Parameter : goal.returns-in-Parameter
returns-in-Parameter c = named_is c.args.name.now c.in-Parameter.parameter.name c.is_same-in-Parameter.result (name_of c.args.call.now) (ap name_of c.in-Parameter.is) c.is_same-in-Parameter.ensures
