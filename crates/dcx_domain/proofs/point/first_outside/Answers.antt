-- The variables before the one that is answered are inside, and all of them where none is.
use Rattle.std.proofs.Common.{length, refl, sym, subst, true≢false}
use Rattle.std.proofs.lemmas.Option.{slice_get_read}
use Rattle.dcx_call.specs.declared.attribute.Variable.{Variable}
use Rattle.dcx_domain.specs.Points.{IsInside}
use Rattle.dcx_domain.proofs.Variables.{one_more, all_below, none_left}
use Rattle.dcx_domain.proofs.point.first_outside.Goals as goal

pub returns-in-Some-clause-first : goal.returns-in-Some-clause-first
returns-in-Some-clause-first c = record {
  variable = c.index-variables-k.result;
  there = slice_get_read c.args.variables.now (length c.args.variables.now) c.loop-k.k c.index-variables-k.result refl c.loop-k-test.true c.index-variables-k.is;
  entry = c.in-Some.ensures.first;
  before = λ j v lt at. c.loop-k.invariant j v lt at;
}

pub returns-in-Some-clause-inside : goal.returns-in-Some-clause-inside
returns-in-Some-clause-inside c = (
  (λ e. absurd (true≢false e)),
  (λ h. absurd (true≢false (c.in-Some.ensures.inside.1
      (subst (λ (v : Variable). IsInside v c.args.point.now) (sym c.index-variables-k.is) (h c.loop-k.k c.index-variables-k.result c.loop-k-test.true))))),
)

pub loop-k-preserved : goal.loop-k-preserved
loop-k-preserved c =
    one_more (λ v. IsInside v c.args.point.now) c.args.variables.now c.loop-k.k c.index-variables-k.result
    (slice_get_read c.args.variables.now (length c.args.variables.now) c.loop-k.k c.index-variables-k.result refl c.loop-k-test.true c.index-variables-k.is)
    (c.given_outside.ensures.inside.0 (none_left c.given_outside.result c.in_default.not-Some)) c.loop-k.invariant

pub returns-clause-inside : goal.returns-clause-inside
returns-clause-inside c = ((λ e. all_below (λ v. IsInside v c.args.point.now) c.args.variables.now c.loop-k.k c.loop-k-test.false c.loop-k.invariant), (λ h. refl))
