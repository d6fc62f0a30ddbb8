-- The word at a place begins the option, or it is an operand.
use Rattle.std.proofs.Common.{string_bytes, subst, sym, rules}
use Rattle.dcx_words.specs.Around.{Gives}
use Rattle.dcx_words.proofs.Taking.{IsReadAt, found_word, found_front, found_operand}
use Rattle.dcx_words.proofs.operands.without_option.Goals as goal

pub returns-then-eq : goal.returns-then-eq
returns-then-eq c =
    let h : IsReadAt string_bytes c.args.words.now c.loop-index.index c.index-words-index.result c.as_str-word.result.now =
    record { within = c.loop-index-test.true; is = c.index-words-index.is; text = c.as_str-word.ensures.value; before = c.loop-index.invariant } in
    subst (λ o. Gives o c.limited_by_next.result) (sym (found_word _ _ _ _ _ h (search rules))) c.limited_by_next.ensures

pub loop-index-preserved : goal.loop-index-preserved
loop-index-preserved c =
    let h : IsReadAt string_bytes c.args.words.now c.loop-index.index c.index-words-index.result c.as_str-word.result.now =
    record { within = c.loop-index-test.true; is = c.index-words-index.is; text = c.as_str-word.ensures.value; before = c.loop-index.invariant } in
    found_operand _ _ _ _ _ h (search rules) c.in_default.ensures

pub returns-in-Some : goal.returns-in-Some
returns-in-Some c =
    let h : IsReadAt string_bytes c.args.words.now c.loop-index.index c.index-words-index.result c.as_str-word.result.now =
    record { within = c.loop-index-test.true; is = c.index-words-index.is; text = c.as_str-word.ensures.value; before = c.loop-index.invariant } in
    subst (λ o. Gives o c.limited.result) (sym (found_front _ _ _ _ _ c.in-Some.text.now h (search rules) c.in-Some.ensures)) c.limited.ensures
