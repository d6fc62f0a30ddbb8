-- The number stays below 10^30 with each digit, since there is room for those that are left.
use Rattle.std.proofs.Common.{◌≡◌, ◌+◌, ◌*◌, ◌≤◌, ◌^◌, drop, arith, sym, ◌∙◌}
use Rattle.std.specs.Char.{digit_value}
use Rattle.dcx_tokens.proofs.Digits.{GoesOn, at_drop, stays_below}
use Rattle.dcx_tokens.proofs.number.with_digits.Goals as goal
use Rattle.dcx_tokens.proofs.number.with_digits.Goals.{After-c-item}

-- the loop goes on behind its digit
on : (c : After-c-item) → GoesOn c.loop-c.number c.c-item.result (drop c.loop-c.c-index c.args.digits.now) (drop (c.loop-c.c-index + 1) c.args.digits.now)
on c = at_drop c.loop-c.number c.args.digits.now c.loop-c.c-index c.c-item.result c.loop-c-test.true c.c-item.is c.loop-c.invariant.digits

small : (c : After-c-item) → c.loop-c.number * 10 + digit_value c.c-item.result + 1 ≤ 10 ^ 30
small c =
    let room = c.requires.room in
    let so_far = c.loop-c.invariant.small in
    stays_below _ _ _ _ (10 ^ 30) (on c) (omega arith)

pub overflow_mul-number : goal.overflow_mul-number
overflow_mul-number c = let h = small c in omega arith

pub overflow_add-number : goal.overflow_add-number
overflow_add-number c = let h = small (goal.at.overflow_add-number c).After-c-item in omega arith

pub loop-c-preserved : goal.loop-c-preserved
loop-c-preserved c =
    let o = on (goal.at.loop-c-preserved c).After-c-item in
    let d : c.from.result ≡ digit_value c.c-item.result = c.from.ensures ∙ c.digit.ensures.value in
    rw d (record {
      so_far = sym o.value ∙ c.loop-c.invariant.so_far;
      digits = o.all;
      small = omega (arith, o.small);
    })
