-- A constraint that is kept takes the next array, and any other takes zeros.
use Rattle.std.proofs.Common.{refl, sym, ◌∙◌}
use Rattle.std.specs.Vec.Iter.{into_iter_items}
use Rattle.std.proofs.lemmas.Result.{IfOk-weaker}
use Rattle.dcx_iis.specs.Multipliers.{AreZeros, TakesNext}
use Rattle.dcx_iis.proofs.Loops.{takes_some, takes_none, takes_zeros}
use Rattle.dcx_iis.proofs.duals.next_dual.Goals as goal

pub returns-then-not-kept : goal.returns-then-not-kept
returns-then-not-kept c =
    let before = into_iter_items c.args.rest.now in
    IfOk-weaker c.zeros.result (AreZeros c.args.constraint.now) (TakesNext c.args.kept c.args.constraint.now before before)
    (λ x z. takes_zeros c.args.kept c.args.constraint.now before before x c.if-not-kept.true refl z) c.zeros.ensures

pub returns-in-Some : goal.returns-in-Some
returns-in-Some c = takes_some c.args.kept c.args.constraint.now (into_iter_items c.args.rest.now) (into_iter_items c.next.new.self) c.in-Some.array c.if-not-kept.false c.in-Some.ensures.cases.0

pub returns-in-None : goal.returns-in-None
returns-in-None c =
    let before = into_iter_items c.args.rest.now in
    let after = into_iter_items c.next.new.self in
    IfOk-weaker c.zeros-in-None.result (AreZeros c.args.constraint.now) (TakesNext c.args.kept c.args.constraint.now before after)
    (λ x z. takes_none c.args.kept c.args.constraint.now before after x c.if-not-kept.false (sym c.args.rest.now.rest.ok.0 ∙ c.in-None.ensures.cases.0)) c.zeros-in-None.ensures
