-- The coefficient, and the weight that carries the entry on where there is one.
use Rattle.std.proofs.Common.{◌+◌, ◌<◌, ◌∙◌, sym, ap, arith, length, [], ◌∷◌}
use Rattle.dcx_frac.specs.Frac.{value}
use Rattle.dcx_atom.specs.Arrays.{number_at}
use Rattle.dcx_atom.specs.Formed.{sum_in_order}
use Rattle.dcx_atom.proofs.Lists.{number_is}
use Rattle.dcx_fold.specs.Running.{next_weights, running_weights}
use Rattle.dcx_fold.proofs.RunningSteps.{next_room, next_is, next_none, summed}
use Rattle.dcx_fold.proofs.running.right_side.Goals as goal

pub returns-then-entry-size-clause-answer : goal.returns-then-entry-size-clause-answer
returns-then-entry-size-clause-answer c =
    let ws = c.args.weights.now in
    let j = c.args.entry in
    let x = c.index-weights-first_weight.result in
    let b : c.first_weight.result + 1 < length ws = omega (arith, c.first_weight.ensures, c.requires.weights, next_room j c.args.size c.if-entry-size.true) in
    let there = number_is ws (c.first_weight.result + 1) x b c.index-weights-first_weight.is ∙ ap (λ k. number_at ws (k + 1)) c.first_weight.ensures in
    c.sum_all.ensures ∙ ap (λ y. sum_in_order (value c.args.coefficient ∷ y ∷ [])) there
    ∙ ap (λ ys. sum_in_order (value c.args.coefficient ∷ ys)) (sym (next_is c.args.size j (running_weights ws) c.if-entry-size.true))

pub returns-then-entry-size-clause-sum : goal.returns-then-entry-size-clause-sum
returns-then-entry-size-clause-sum c =
    let ws = c.args.weights.now in
    let j = c.args.entry in
    let x = c.index-weights-first_weight.result in
    let b : c.first_weight.result + 1 < length ws = omega (arith, c.first_weight.ensures, c.requires.weights, next_room j c.args.size c.if-entry-size.true) in
    let there = number_is ws (c.first_weight.result + 1) x b c.index-weights-first_weight.is ∙ ap (λ k. number_at ws (k + 1)) c.first_weight.ensures in
    summed c.sum_all.result (c.args.coefficient ∷ x ∷ []) (value c.args.coefficient ∷ next_weights c.args.size (running_weights ws) j)
    (ap (λ y. value c.args.coefficient ∷ y ∷ []) there ∙ ap (λ ys. value c.args.coefficient ∷ ys) (sym (next_is c.args.size j (running_weights ws) c.if-entry-size.true))) c.sum_all.ensures

pub returns-else-entry-size-clause-sum : goal.returns-else-entry-size-clause-sum
returns-else-entry-size-clause-sum c =
    let ws = c.args.weights.now in
    summed c.sum_all-else-entry-size.result (c.args.coefficient ∷ []) (value c.args.coefficient ∷ next_weights c.args.size (running_weights ws) c.args.entry)
    (ap (λ ys. value c.args.coefficient ∷ ys) (sym (next_none c.args.size c.args.entry (running_weights ws) c.if-entry-size.false))) c.sum_all-else-entry-size.ensures
