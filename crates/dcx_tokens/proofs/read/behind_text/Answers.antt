-- Each character moves the position on, within the bytes of the text, and behind the last one none is left.
use Rattle.std.proofs.Common.{◌+◌, length, drop, sym, ap, ◌∙◌, arith}
use Rattle.std.specs.Str.{chars}
use Rattle.std.proofs.lemmas.Iterator.{YieldsList-from_chars}
use Rattle.std.proofs.lemmas.Iterator.Consumers.{YieldsList-turn, YieldsList-end}
use Rattle.std.proofs.lemmas.List.{length_push, at_drop_all}
use Rattle.dcx_tokens.specs.Position.{moved_over, bytes_of}
use Rattle.dcx_tokens.proofs.Bytes.{bytes_of-chars, moves_on}
use Rattle.dcx_tokens.proofs.read.behind_text.Goals as goal

pub loop-c-init : goal.loop-c-init
loop-c-init c = record {
  so_far = ap (λ at. moved_over at (chars c.args.text.now)) c.start_of_text-at.ensures.value;
  within = c.start_of_text-at.ensures.within;
  offset = ap (λ at. at.offset + bytes_of (chars c.args.text.now)) c.start_of_text-at.ensures.value ∙ omega (arith, bytes_of-chars c.args.text.now c.utf8.text);
}

pub behind-at-requires-clause-room : goal.behind-at-requires-clause-room
behind-at-requires-clause-room c =
    let turn = YieldsList-turn (YieldsList-from_chars c.args.text.now c.utf8.text cc) c.loop-c.yielded _ c.loop-c.yielded_by _ _ c.in-Some.c c.in-Some.is c.next.ensures.steps in
    let on = moves_on c.loop-c.at (chars c.args.text.now) (length c.loop-c.yielded) c.in-Some.c turn in
    omega (arith, on.bytes)

pub loop-c-preserved : goal.loop-c-preserved
loop-c-preserved c =
    let turn = YieldsList-turn (YieldsList-from_chars c.args.text.now c.utf8.text cc) c.loop-c.yielded _ c.loop-c.yielded_by _ _ c.in-Some.c c.in-Some.is c.next.ensures.steps in
    let on = moves_on c.loop-c.at (chars c.args.text.now) (length c.loop-c.yielded) c.in-Some.c turn in
    rw length_push (record {
      so_far = ap (λ at. moved_over at (drop (length c.loop-c.yielded + 1) (chars c.args.text.now))) c.behind-at.ensures.value ∙ sym on.moved ∙ c.loop-c.invariant.so_far;
      within = c.behind-at.ensures.within;
      offset = ap (λ at. at.offset + bytes_of (drop (length c.loop-c.yielded + 1) (chars c.args.text.now))) c.behind-at.ensures.value ∙ omega (arith, on.bytes);
    })

pub returns-clause-value : goal.returns-clause-value
returns-clause-value c =
    let turn = YieldsList-end (YieldsList-from_chars c.args.text.now c.utf8.text cc) c.loop-c.yielded _ c.loop-c.yielded_by _ _ c.in-None.is c.next.ensures.steps in
    let all = at_drop_all (λ cs. moved_over c.loop-c.at cs) (chars c.args.text.now) (length c.loop-c.yielded) (omega (arith, turn.1)) in
    sym all ∙ c.loop-c.invariant.so_far

pub returns-clause-offset : goal.returns-clause-offset
returns-clause-offset c =
    let turn = YieldsList-end (YieldsList-from_chars c.args.text.now c.utf8.text cc) c.loop-c.yielded _ c.loop-c.yielded_by _ _ c.in-None.is c.next.ensures.steps in
    let all = at_drop_all bytes_of (chars c.args.text.now) (length c.loop-c.yielded) (omega (arith, turn.1)) in
    let o = c.loop-c.invariant.offset in
    omega (arith, all, o)
