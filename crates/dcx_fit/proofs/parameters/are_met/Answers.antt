-- The first parameter with a fault is told, and all are met where none has one.
use Rattle.std.proofs.Common.{length, refl}
use Rattle.std.proofs.lemmas.Option.{slice_get_read}
use Rattle.dcx_domain.proofs.Variables.{one_more, all_below}
use Rattle.dcx_fit.specs.Fit.{IsMet, IsFaultOf}
use Rattle.dcx_fit.specs.Faults.{stop_of}
use Rattle.dcx_fit.proofs.Misfits.{or_memory, fault_unmet}
use Rattle.dcx_fit.proofs.parameters.are_met.Goals as goal

pub returns-in-Some : goal.returns-in-Some
returns-in-Some c =
    let ps = c.args.parameters.now in
    let given = c.args.setting.now in
    let q = c.parameter-item.result in
    let told = stop_of q.name c.in-Some.fault in
    let fault : IsFaultOf given q told = c.in-Some.ensures in
    record {
      position = c.loop-parameter.parameter-index;
      parameter = q;
      there = slice_get_read ps (length ps) c.loop-parameter.parameter-index q refl c.loop-parameter-test.true c.parameter-item.is;
      fault = or_memory (IsFaultOf given q) told c.stop_of.result c.stop_of.ensures fault (fault_unmet given q told fault);
      before = c.loop-parameter.invariant;
    }

pub loop-parameter-preserved : goal.loop-parameter-preserved
loop-parameter-preserved c =
    let ps = c.args.parameters.now in
    let q = c.parameter-item.result in
    one_more (IsMet c.args.setting.now) ps c.loop-parameter.parameter-index q
    (slice_get_read ps (length ps) c.loop-parameter.parameter-index q refl c.loop-parameter-test.true c.parameter-item.is) c.in_default.ensures c.loop-parameter.invariant

pub returns : goal.returns
returns c = all_below (IsMet c.args.setting.now) c.args.parameters.now c.loop-parameter.parameter-index c.loop-parameter-test.false c.loop-parameter.invariant
