-- What is read is the number of the kind.
use Rattle.std.proofs.Common.{◌≡◌, suc, ◌+◌, ◌<◌, map, length, sym, ap, ◌∙◌, subst, arith, add-one, true≢false}
use Rattle.dcx_math.specs.Rational.{neg_ℚ}
use Rattle.dcx_math.specs.Sums.{rat_at}
use Rattle.dcx_frac.specs.Frac.{value}
use Rattle.dcx_linear.specs.declared.row.UnknownKind.TheVariants.{Free}
use Rattle.dcx_linear.specs.Size.{columns_for}
use Rattle.dcx_postsolve.specs.Numbers.{unknown_number, IsOneSidedAt}
use Rattle.dcx_postsolve.proofs.Fractions.{read}
use Rattle.dcx_postsolve.proofs.ColumnNumbers.{minus_alone, plus_alone}
use Rattle.dcx_postsolve.proofs.numbers.unknown_number.Goals as goal

pub returns-then-is_zero : goal.returns-then-is_zero
returns-then-is_zero c =
    let columns = c.args.columns.now in
    let zs = map value columns in
    let j = c.args.first in
    let count : columns_for c.args.kind ≡ 2 = ap columns_for c.in-Free.is in
    let here : j < length columns = omega (arith, count, c.requires.there) in
    let there : j + 1 < length columns = omega (arith, count, c.requires.there) in
    let plus = read columns j c.index-columns-first.result here c.index-columns-first.is in
    let minus = read columns (j + 1) c.index-columns-first-then-is_zero.result there c.index-columns-first-then-is_zero.is in
    c.neg.ensures ∙ ap neg_ℚ (minus ∙ ap (rat_at zs) (add-one j)) ∙ minus_alone (rat_at zs j) (rat_at zs (suc j)) (sym plus ∙ c.is_zero.ensures.0 c.if-is_zero.true)
    ∙ sym (ap (unknown_number zs j) c.in-Free.is)

pub returns-else-is_zero : goal.returns-else-is_zero
returns-else-is_zero c =
    let columns = c.args.columns.now in
    let zs = map value columns in
    let j = c.args.first in
    let count : columns_for c.args.kind ≡ 2 = ap columns_for c.in-Free.is in
    let here : j < length columns = omega (arith, count, c.requires.there) in
    let plus = read columns j c.index-columns-first.result here c.index-columns-first.is in
    let sided : IsOneSidedAt zs j Free = subst (IsOneSidedAt zs j) c.in-Free.is c.requires.one_sided in
    plus ∙ plus_alone (rat_at zs j) (rat_at zs (suc j)) sided (λ e. true≢false (sym (c.is_zero.ensures.1 (plus ∙ e)) ∙ c.if-is_zero.false)) ∙ sym (ap (unknown_number zs j) c.in-Free.is)

pub returns-in-Nonneg : goal.returns-in-Nonneg
returns-in-Nonneg c =
    let columns = c.args.columns.now in
    let count : columns_for c.args.kind ≡ 1 = ap columns_for c.in-Nonneg.is in
    let here : c.args.first < length columns = omega (arith, count, c.requires.there) in
    read columns c.args.first c.index-columns-first-in-Nonneg.result here c.index-columns-first-in-Nonneg.is ∙ sym (ap (unknown_number (map value columns) c.args.first) c.in-Nonneg.is)

pub returns-in-Nonpos : goal.returns-in-Nonpos
returns-in-Nonpos c =
    let columns = c.args.columns.now in
    let count : columns_for c.args.kind ≡ 1 = ap columns_for c.in-Nonpos.is in
    let here : c.args.first < length columns = omega (arith, count, c.requires.there) in
    c.neg-in-Nonpos.ensures ∙ ap neg_ℚ (read columns c.args.first c.index-columns-first-in-Nonpos.result here c.index-columns-first-in-Nonpos.is)
    ∙ sym (ap (unknown_number (map value columns) c.args.first) c.in-Nonpos.is)
