-- A certificate is migrated to one.
use Rattle.dcx_cert_runs.proofs.Migrated.{migrations_are_one}
use Rattle.dcx_cert_runs.proofs.laws.migrations_are_one.Goals as goal

pub returns : goal.returns
returns c = migrations_are_one
