-- The lines in front have the other tokens.
use Rattle.std.proofs.Common.{◌≡◌, length, drop, sym, ap, ◌∙◌, subst, arith, add-one}
use Rattle.std.proofs.lemmas.List.{length-map}
use Rattle.dcx_settings.specs.Terminal.{terminals, terminal_of}
use Rattle.dcx_settings.specs.Grammar.{settings_text}
use Rattle.dcx_settings.specs.File.{behind_line}
use Rattle.dcx_settings.proofs.file.behind_lines.Goals as goal
use Rattle.dcx_settings.proofs.Files.{next_line, parts_of_lines}

pub loop-init : goal.loop-init
loop-init c = record { rest = λ lines e. sym e; within = omega arith }

pub loop-preserved : goal.loop-preserved
loop-preserved c =
    let i = c.loop.invariant in
    let b = c.behind_line-rest.ensures in
    let w = i.within in
    let v = b.within in
    record {
      rest = λ lines e. rw add-one (b.rest ∙ ap behind_line (i.rest lines e) ∙ next_line lines c.loop.counter);
      within = omega (arith, v, w);
    }

pub overflow_sub-result : goal.overflow_sub-result
overflow_sub-result c = c.loop.invariant.within

pub returns : goal.returns
returns c = λ lines e.
    let text = c.args.text.now in
    let end : c.loop.counter ≡ c.args.count = (let t = c.loop-test.false in let a = c.loop.auto.counter-end in omega (arith, t, a)) in
    let rest = subst (λ n. terminals text c.loop.rest.now ≡ settings_text (drop n lines)) end (c.loop.invariant.rest lines e) in
    let left = sym (length-map c.loop.rest.now (terminal_of text)) ∙ ap length rest in
    let all = sym (length-map c.args.tokens.now (terminal_of text)) ∙ sym (ap length e) in
    let parts = parts_of_lines lines c.args.count in
    omega (arith, left, all, parts)
