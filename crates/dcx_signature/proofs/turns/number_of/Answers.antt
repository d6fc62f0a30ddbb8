-- The number is one of the range.
use Rattle.std.proofs.Common.{◌≡◌, ap, rules, arith, ◌*◌, pos, ◌+ℤ◌, ◌-ℤ◌, ◌<ℤ◌, SFits}
use Rattle.std.specs.Prelude.{unsigned_abs, ◌≤ℤ◌}
use Rattle.std.specs.Int.{saturate_signed}
use Rattle.std.proofs.lemmas.Int.{ints, to_z-of_z}
use mir.Syntax.{w128}
use Rattle.dcx_signature.proofs.Ranges.{reached_down, reached_up}
use Rattle.dcx_signature.proofs.turns.number_of.Goals as goal

pub returns-then-range-lt0-clause-fits : goal.returns-then-range-lt0-clause-fits
returns-then-range-lt0-clause-fits c =
    let g = c.args.range.now in
    let first : SFits w128 g.first = search rules in
    let step : SFits w128 g.step = search rules in
    let result : SFits w128 c.saturating_sub_unsigned.result = search rules in
    let down : g.step <ℤ pos 0 = grind (arith, ints) in
    let size : c.unsigned_abs.result ≡ unsigned_abs g.step = rw (to_z-of_z w128 g.step step) at c.unsigned_abs.ensures.value in
    let is : c.saturating_sub_unsigned.result ≡ saturate_signed w128 (g.first -ℤ pos (c.args.k * c.unsigned_abs.result)) = rw (to_z-of_z w128 g.first first) at c.saturating_sub_unsigned.ensures in
    let value = reached_down g.first g.step c.saturating_sub_unsigned.result g.count c.args.k (c.args.k * c.unsigned_abs.result) g.inside c.requires down (ap (λ m. c.args.k * m) size) is in
    rw (to_z-of_z w128 c.saturating_sub_unsigned.result result, value) (g.inside c.args.k c.requires)

pub returns-then-range-lt0-clause-value : goal.returns-then-range-lt0-clause-value
returns-then-range-lt0-clause-value c =
    let g = c.args.range.now in
    let first : SFits w128 g.first = search rules in
    let step : SFits w128 g.step = search rules in
    let result : SFits w128 c.saturating_sub_unsigned.result = search rules in
    let down : g.step <ℤ pos 0 = grind (arith, ints) in
    let size : c.unsigned_abs.result ≡ unsigned_abs g.step = rw (to_z-of_z w128 g.step step) at c.unsigned_abs.ensures.value in
    let is : c.saturating_sub_unsigned.result ≡ saturate_signed w128 (g.first -ℤ pos (c.args.k * c.unsigned_abs.result)) = rw (to_z-of_z w128 g.first first) at c.saturating_sub_unsigned.ensures in
    let value = reached_down g.first g.step c.saturating_sub_unsigned.result g.count c.args.k (c.args.k * c.unsigned_abs.result) g.inside c.requires down (ap (λ m. c.args.k * m) size) is in
    rw (to_z-of_z w128 c.saturating_sub_unsigned.result result) value

pub returns-else-range-lt0-clause-value : goal.returns-else-range-lt0-clause-value
returns-else-range-lt0-clause-value c =
    let g = c.args.range.now in
    let first : SFits w128 g.first = search rules in
    let step : SFits w128 g.step = search rules in
    let result : SFits w128 c.saturating_add_unsigned.result = search rules in
    let up : pos 0 ≤ℤ g.step = grind (arith, ints) in
    let size : c.unsigned_abs.result ≡ unsigned_abs g.step = rw (to_z-of_z w128 g.step step) at c.unsigned_abs.ensures.value in
    let is : c.saturating_add_unsigned.result ≡ saturate_signed w128 (g.first +ℤ pos (c.args.k * c.unsigned_abs.result)) = rw (to_z-of_z w128 g.first first) at c.saturating_add_unsigned.ensures in
    let value = reached_up g.first g.step c.saturating_add_unsigned.result g.count c.args.k (c.args.k * c.unsigned_abs.result) g.inside c.requires up (ap (λ m. c.args.k * m) size) is in
    rw (to_z-of_z w128 c.saturating_add_unsigned.result result) value

pub returns-else-range-lt0-clause-fits : goal.returns-else-range-lt0-clause-fits
returns-else-range-lt0-clause-fits c =
    let g = c.args.range.now in
    let first : SFits w128 g.first = search rules in
    let step : SFits w128 g.step = search rules in
    let result : SFits w128 c.saturating_add_unsigned.result = search rules in
    let up : pos 0 ≤ℤ g.step = grind (arith, ints) in
    let size : c.unsigned_abs.result ≡ unsigned_abs g.step = rw (to_z-of_z w128 g.step step) at c.unsigned_abs.ensures.value in
    let is : c.saturating_add_unsigned.result ≡ saturate_signed w128 (g.first +ℤ pos (c.args.k * c.unsigned_abs.result)) = rw (to_z-of_z w128 g.first first) at c.saturating_add_unsigned.ensures in
    let value = reached_up g.first g.step c.saturating_add_unsigned.result g.count c.args.k (c.args.k * c.unsigned_abs.result) g.inside c.requires up (ap (λ m. c.args.k * m) size) is in
    rw (to_z-of_z w128 c.saturating_add_unsigned.result result, value) (g.inside c.args.k c.requires)
