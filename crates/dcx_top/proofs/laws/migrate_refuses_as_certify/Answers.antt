-- `migrate` refuses where `certify` does, in the same way.
use Rattle.dcx_top.proofs.Migrated.{migrate_refuses_as_certify}
use Rattle.dcx_top.proofs.laws.migrate_refuses_as_certify.Goals as goal

pub returns : goal.returns
returns c = migrate_refuses_as_certify
