-- The name at a place and its array are the pair there.
use Rattle.std.proofs.Common.{sym, ap, ◌∙◌}
use Rattle.std.specs.Option.{option_copied}
use Rattle.dcx_lines.proofs.Pairs.{pair_at, not_missing}
use Rattle.dcx_lines.proofs.point.pair_at.Goals as goal

pub returns-in_err-array : goal.returns-in_err-array
returns-in_err-array c =
    absurd (not_missing c.args.point.now c.args.i c.in_ok-name.name.now c.len.ensures.distinct (sym (c.in_ok-name.ensures {u = tt}))
    (sym c.get.ensures ∙ ap option_copied (c.in_err-array.was {u = tt})))

pub returns : goal.returns
returns c =
    pair_at c.args.point.now c.args.i c.in_ok-name.name.now c.len.ensures.distinct (sym (c.in_ok-name.ensures {u = tt})) c.in_ok-array.array.now (sym (c.in_ok-array.ensures {u = tt}))
