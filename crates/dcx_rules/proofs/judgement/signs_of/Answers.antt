-- The sign of one more judgement comes behind those so far.
use Rattle.std.proofs.Common.{◌≡◌, ◌∙◌, ◌+◌, ◌<◌, ◌++◌, ◌∷◌, [], ap, get_or, length, List, rules, sym, take, ℕ}
use Rattle.std.proofs.lemmas.List.{map_more, take_all}
use Rattle.std.proofs.lemmas.Result.{err_from_is_err_and}
use Rattle.dcx_atom.specs.declared.flags.Sign.{Sign}
use Rattle.dcx_rules.specs.declared.judgement.Judgement.{Judgement}
use Rattle.dcx_rules.specs.Judgements.{signs_of}
use Rattle.dcx_rules.proofs.judgement.signs_of.Goals as goal

signs_more : (gs : List Judgement) (i : ℕ) (d : Judgement) (now after : List Sign) → i < length gs → now ≡ signs_of (take i gs) → after ≡ now ++ (get_or gs i d).sign ∷ [] →
    after ≡ signs_of (take (i + 1) gs)
signs_more gs i d now after lt so_far pushed = pushed ∙ ap (λ signs. signs ++ (get_or gs i d).sign ∷ []) so_far ∙ sym (map_more (λ (g : Judgement). g.sign) gs i d lt)

pub loop-g-init : goal.loop-g-init
loop-g-init c = search rules

pub loop-g-smaller : goal.loop-g-smaller
loop-g-smaller c = search rules

pub loop-g-preserved : goal.loop-g-preserved
loop-g-preserved c = signs_more c.args.args.now c.loop-g.g-index _ c.loop-g.signs.items c.push.new.self.items c.loop-g-test.true c.loop-g.invariant c.in_ok-push.ensures.items

pub returns : goal.returns
returns c = c.loop-g.invariant ∙ ap signs_of (take_all c.loop-g.g-index c.args.args.now c.loop-g-test.false)

pub returns-in_err-push : goal.returns-in_err-push
returns-in_err-push c = let p = err_from_is_err_and c.from_residual.result c.from_residual.ensures.1 in rw p.1 tt
