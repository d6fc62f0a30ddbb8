-- The lines of one more argument are appended.
use Rattle.std.proofs.Common.{◌<◌, ◌^◌, ◌++◌, ◌∙◌, sym, ap, rules, arith}
use Rattle.dcx_atom.specs.Arrays.{list_below}
use Rattle.dcx_shape.specs.Shape.{sides_of}
use Rattle.dcx_affine.specs.Joined.{lines_of}
use Rattle.dcx_affine.proofs.Lines.{length-≤-all_lines, lined_up-next}
use Rattle.dcx_affine.proofs.slots.Line.slots.Goals as goal

pub overflow_cast-i : goal.overflow_cast-i
overflow_cast-i c =
    let few = length-≤-all_lines c.args.self c.args.args.now in
    let small : c.loop-i.i < 2 ^ 32 = omega (arith, few, c.requires, c.loop-i-test.true) in search rules

pub loop-i-preserved : goal.loop-i-preserved
loop-i-preserved c =
    let x = c.index-args-i.result in
    c.in_ok-push_slots.ensures
    ∙ ap (λ n. c.loop-i.slots.items ++ list_below n (λ e. record { argument = c.loop-i.i; place = e })) c.count.ensures.is
    ∙ ap (λ xs. xs ++ list_below (lines_of c.args.self (sides_of x)) (λ e. record { argument = c.loop-i.i; place = e })) c.loop-i.invariant
    ∙ sym (lined_up-next c.args.self c.args.args.now c.loop-i.i x c.loop-i-test.true c.index-args-i.is)
