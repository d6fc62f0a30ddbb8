-- The numbers that are given are those of the definition.
use Rattle.std.proofs.Common.{◌≡◌, ◌∙◌, refl, sym, true, false, is_some, rules, pos, to_z, of_z, SFits}
use Rattle.std.proofs.lemmas.Int.{to_z-of_z}
use mir.Syntax.{w128}
use Rattle.dcx_signature.specs.Table.{first_word, second_word, step_word}
use Rattle.dcx_signature.specs.Arguments.{given_for}
use Rattle.dcx_functions.specs.Calls.{whole_or}
use Rattle.dcx_functions.proofs.Ranges.{range-same}
use Rattle.dcx_functions.proofs.plain.range.Goals as goal

pub returns-then-has : goal.returns-then-has
returns-then-has c =
    let b = c.args.bound.now in
    let has : is_some (given_for second_word b) ≡ true = sym c.has.ensures ∙ c.if-has.true in
    let first : SFits w128 c.whole_or-first.result = search rules in
    let stop : SFits w128 c.whole_or-stop.result = search rules in
    let step : SFits w128 c.whole_or.result = search rules in
    λ s. rw has
    (range-same c.args.place c.range_from.result s (to_z w128 (of_z w128 c.whole_or-first.result)) (to_z w128 (of_z w128 c.whole_or-stop.result)) (to_z w128 (of_z w128 c.whole_or.result))
    (whole_or (pos 0) first_word b) (whole_or (pos 0) second_word b) (whole_or (pos 1) step_word b)
    (to_z-of_z w128 c.whole_or-first.result first ∙ c.whole_or-first.ensures.value)
    (to_z-of_z w128 c.whole_or-stop.result stop ∙ c.whole_or-stop.ensures.value)
    (to_z-of_z w128 c.whole_or.result step ∙ c.whole_or.ensures.value)
    (c.range_from.ensures s))

pub returns-else-has : goal.returns-else-has
returns-else-has c =
    let b = c.args.bound.now in
    let has : is_some (given_for second_word b) ≡ false = sym c.has.ensures ∙ c.if-has.false in
    let first : SFits w128 c.whole_or-first.result = search rules in
    λ s. rw has
    (range-same c.args.place c.range_from-else-has.result s (pos 0) (to_z w128 (of_z w128 c.whole_or-first.result)) (pos 1) (pos 0) (whole_or (pos 0) first_word b) (pos 1)
    refl (to_z-of_z w128 c.whole_or-first.result first ∙ c.whole_or-first.ensures.value) refl
    (c.range_from-else-has.ensures s))
