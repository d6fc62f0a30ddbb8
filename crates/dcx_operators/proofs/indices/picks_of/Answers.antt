-- One pick more, and the picks of the indices that are left.
use Rattle.std.proofs.Common.{subst, sym, ap, ◌∙◌, List, Option, rules}
use Rattle.std.proofs.lemmas.List.Elements.{All-push}
use Rattle.std.proofs.lemmas.Result.{err_from_is_err_and}
use Rattle.std.specs.List.{All}
use Rattle.dcx_shape.specs.Index.{HasStep}
use Rattle.dcx_shape.specs.declared.index.Pick.{Pick}
use Rattle.dcx_script_values.specs.declared.fault.ElabFault.TheVariants.{BadArgument}
use Rattle.dcx_script_values.specs.Values.{or_fault}
use Rattle.dcx_operators.proofs.Picked.{picked_by-next, picked_by-start, picked_by-none, picked_by-end}
use Rattle.dcx_operators.proofs.indices.picks_of.Goals as goal

pub loop-index-preserved : goal.loop-index-preserved
loop-index-preserved c = record {
  whole = rw c.in_ok-push-in-Some.ensures.items
      (sym (picked_by-next c.loop-index.picks.items c.in-Some.pick c.args.indices.now c.loop-index.index-index c.index-item.result c.loop-index-test.true c.index-item.is
      (sym c.in-Some.is ∙ c.pick_of.ensures.picks)) ∙ c.loop-index.invariant.whole);
  steps = subst (All HasStep) (sym c.in_ok-push-in-Some.ensures.items) (All-push HasStep c.loop-index.picks.items c.in-Some.pick c.loop-index.invariant.steps c.in-Some.ensures.steps);
}

pub loop-index-init : goal.loop-index-init
loop-index-init c = record {
  whole = picked_by-start c.in_ok-picks.picks.items c.args.indices.now c.in_ok-picks.ensures.items;
  steps = subst (All HasStep)
      (sym c.in_ok-picks.ensures.items) (search rules);
}

pub loop-index-smaller : goal.loop-index-smaller
loop-index-smaller c = search rules

pub returns-in_err-picks-clause-picks : goal.returns-in_err-picks-clause-picks
returns-in_err-picks-clause-picks c = λ s. let p = err_from_is_err_and c.from_residual.result c.from_residual.ensures.1 in rw (p.1, p.2) tt

pub returns-in_err-push-in-Some-clause-picks : goal.returns-in_err-push-in-Some-clause-picks
returns-in_err-push-in-Some-clause-picks c = λ s. let p = err_from_is_err_and c.from_residual-in_err-push-in-Some.result c.from_residual-in_err-push-in-Some.ensures.1 in rw (p.1, p.2) tt

pub returns-in-None-clause-picks : goal.returns-in-None-clause-picks
returns-in-None-clause-picks c = λ s.
    ap (λ (o : Option (List Pick)). or_fault (BadArgument c.args.place) o s)
    (sym c.loop-index.invariant.whole
    ∙ picked_by-none c.loop-index.picks.items c.args.indices.now c.loop-index.index-index c.index-item.result c.loop-index-test.true c.index-item.is (sym c.in-None.is ∙ c.pick_of.ensures.picks))

pub returns-clause-picks : goal.returns-clause-picks
returns-clause-picks c = λ s.
    ap (λ (o : Option (List Pick)). or_fault (BadArgument c.args.place) o s)
    (sym c.loop-index.invariant.whole ∙ picked_by-end c.loop-index.picks.items c.args.indices.now c.loop-index.index-index c.loop-index-test.false)

pub returns-clause-steps : goal.returns-clause-steps
returns-clause-steps c = c.loop-index.invariant.steps
