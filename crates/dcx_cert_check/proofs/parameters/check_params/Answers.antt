-- The parameters of the problem are gone through.
use Rattle.std.proofs.Common.{List, Option, length, sym, ap, subst, arith}
use Rattle.dcx_point.specs.Pairs.{Pairs}
use Rattle.dcx_call.specs.declared.attribute.Parameter.{Parameter}
use Rattle.dcx_tree.proofs.Few.{few_parameters}
use Rattle.dcx_cert_sections.specs.Checks.{Checked}
use Rattle.dcx_cert_check.specs.Demands.{each_in}
use Rattle.dcx_cert_check.specs.SingleChecks.{parameter_is, setting_is}
use Rattle.dcx_cert_check.proofs.parameters.check_params.Goals as goal

pub check_told-requires : goal.check_told-requires
check_told-requires c = let few = few_parameters c.args.problem.now in let same = ap length c.as_slice.ensures in omega (arith, few, same)

pub returns-in-Some : goal.returns-in-Some
returns-in-Some c =
    subst (λ (told : Option Pairs). Checked (setting_is c.args.problem.now told c.args.setting.now) c.check_told.result) (sym c.in-Some.is)
    (subst (λ (ps : List Parameter). Checked (each_in ps (parameter_is c.in-Some.told c.args.setting.now)) c.check_told.result) c.as_slice.ensures c.check_told.ensures)
