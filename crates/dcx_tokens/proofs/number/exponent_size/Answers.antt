-- Where only what is up to 31 counts, a number may be cut at 31 before its digits go on.
use Rattle.std.proofs.Common.{◌≡◌, ◌+◌, ◌*◌, drop, min, arith, sym, ◌∙◌, ap}
use Rattle.std.specs.Char.{digit_value}
use Rattle.dcx_tokens.proofs.Digits.{at_drop, min-after}
use Rattle.dcx_tokens.proofs.number.exponent_size.Goals as goal

pub loop-c-preserved : goal.loop-c-preserved
loop-c-preserved c =
    let o = at_drop c.loop-c.size c.args.digits.now c.loop-c.c-index c.c-item.result c.loop-c-test.true c.c-item.is c.loop-c.invariant.digits in
    let rest = drop (c.loop-c.c-index + 1) c.args.digits.now in
    let d : c.min-size.result ≡ min (c.loop-c.size * 10 + digit_value c.c-item.result) 31 = c.min-size.ensures ∙ ap (λ n. min (c.loop-c.size * 10 + n) 31) c.digit.ensures.value in
    rw d (record {
      so_far = min-after (c.loop-c.size * 10 + digit_value c.c-item.result) rest ∙ ap (λ n. min 31 n) (sym o.value) ∙ c.loop-c.invariant.so_far;
      digits = o.all;
      small = omega arith;
    })
