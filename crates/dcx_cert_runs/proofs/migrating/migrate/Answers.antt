-- The sections that are put into the list.
use Rattle.std.proofs.Common.{List, OnOk, sym, subst}
use Rattle.dcx_cert_sections.specs.declared.section.Section.{Section}
use Rattle.dcx_cert_sections.specs.declared.section.Format.TheVariants.{Two}
use Rattle.dcx_cert_runs.specs.Migrating.{IsMigrated}
use Rattle.dcx_cert_runs.proofs.migrating.migrate.Goals as goal

pub returns-in-Ok : goal.returns-in-Ok
returns-in-Ok c =
    let put = subst (λ r. OnOk r (IsMigrated c.args.problem.now c.args.settings.now c.args.sections (record { format = Two; list = c.put_all.new.list.items }))) c.in-Ok.is c.put_all.ensures in
    subst (λ (xs : List Section). IsMigrated c.args.problem.now c.args.settings.now c.args.sections (record { format = Two; list = xs })) (sym c.from_vec.ensures) put
