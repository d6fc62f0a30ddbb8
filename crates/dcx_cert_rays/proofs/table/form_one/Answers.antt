-- One more array is kept.
use Rattle.dcx_cert_rays.proofs.Tables.{kept_more}
use Rattle.dcx_cert_rays.proofs.table.form_one.Goals as goal

pub returns-clause-kept : goal.returns-clause-kept
returns-clause-kept c =
    let a = c.args.along.now in
    kept_more a.problem.now a.setting.now a.ray.now c.args.arrays.now.items c.requires.kept c.args.node.0 c.requires.there c.in_ok-array.array c.in_ok-array.ensures.ok c.requires.known
