-- z and w come last.
use Rattle.std.proofs.Common.{arith, ap, length}
use Rattle.dcx_tab.proofs.Programs.{few_in_all}
use Rattle.dcx_tab.proofs.build.first_basis.Goals as goal

pub overflow_cast-columns : goal.overflow_cast-columns
overflow_cast-columns c =
    let p = c.args.program.now in
    let few = few_in_all p.rows p.columns p.objective p.phase p.form in
    record { fits = omega (arith, few, ap length c.as_slice-2.ensures) }

pub overflow_add-columns : goal.overflow_add-columns
overflow_add-columns c =
    let p = c.args.program.now in
    let few = few_in_all p.rows p.columns p.objective p.phase p.form in
    record { fits = omega (arith, few, ap length c.as_slice-2.ensures) }
