-- The constraint at which the loop stops breaks its rule, and those before it keep theirs.
use Rattle.std.proofs.Common.{◌≡◌, ◌<◌, length, Some, option_map, arith, refl, rules, sym, ap, ◌∙◌}
use Rattle.std.specs.List.{list_all, slice_get}
use Rattle.std.proofs.lemmas.List.{take_all}
use Rattle.std.proofs.lemmas.Option.{slice_get-get_or}
use Rattle.dcx_tree.specs.declared.constraint.Constraint.{Constraint}
use Rattle.dcx_rules.specs.Sites.{kind_rule}
use Rattle.dcx_rules.specs.Accepted.{stands}
use Rattle.dcx_rules.proofs.Accepting.{all_taken, taken_each}
use Rattle.dcx_rules.proofs.Breaches.{stands_at}
use Rattle.dcx_rules.proofs.acceptance.first_constraint.Goals as goal

pub returns-then-not-may_be_sides-clause-some : goal.returns-then-not-may_be_sides-clause-some
returns-then-not-may_be_sides-clause-some c =
    let cs = c.args.constraints.now in
    let gs = c.args.judgements.now in
    let k = c.loop-k.k in
    let one = c.index-constraints-k.result in
    let lt : k < length cs = omega arith in
    let at : slice_get cs k ≡ Some one = slice_get-get_or cs k one lt ∙ ap Some (sym c.index-constraints-k.is) in
    record {
      rule_is = ap (option_map (λ (x : Constraint). kind_rule x.kind)) at ∙ ap Some (sym c.rule_of_kind.ensures);
      broken = ap (option_map (stands gs)) at
          ∙ ap Some (stands_at gs one _ _ (c.requires.sides.left k one at) (c.requires.sides.right k one at) ∙ sym c.may_be_sides.ensures ∙ c.if-not-may_be_sides.true);
      first = taken_each (stands gs) cs k c.loop-k.invariant;
    }

pub loop-k-init : goal.loop-k-init
loop-k-init c = refl

pub loop-k-smaller : goal.loop-k-smaller
loop-k-smaller c = search rules

pub loop-k-preserved : goal.loop-k-preserved
loop-k-preserved c =
    let cs = c.args.constraints.now in
    let gs = c.args.judgements.now in
    let k = c.loop-k.k in
    let one = c.index-constraints-k.result in
    let at : slice_get cs k ≡ Some one = slice_get-get_or cs k one c.loop-k-test.true ∙ ap Some (sym c.index-constraints-k.is) in
    all_taken (stands gs) cs k one at c.loop-k.invariant
    (stands_at gs one _ _ (c.requires.sides.left k one at) (c.requires.sides.right k one at) ∙ sym c.may_be_sides.ensures ∙ c.if-not-may_be_sides.false)

pub returns-clause-none : goal.returns-clause-none
returns-clause-none c = sym (ap (list_all (stands c.args.judgements.now)) (take_all c.loop-k.k c.args.constraints.now c.loop-k-test.false)) ∙ c.loop-k.invariant

pub returns-clause-some : goal.returns-clause-some
returns-clause-some c = tt

pub returns-then-not-may_be_sides-clause-none : goal.returns-then-not-may_be_sides-clause-none
returns-then-not-may_be_sides-clause-none c = tt
