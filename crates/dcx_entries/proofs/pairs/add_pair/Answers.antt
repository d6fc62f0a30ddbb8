-- The side that is a number scales or divides the entry of the other side, and a divisor isn't 0.
use Rattle.std.proofs.Common.{◌≡◌, true, false, pos, sym, ap, ◌∙◌, subst}
use Rattle.dcx_math.specs.Rational.{whole}
use Rattle.dcx_math.proofs.Ratios.{IsTrue-rat_eq}
use Rattle.dcx_frac.specs.Frac.{value}
use Rattle.dcx_linear.specs.declared.change.Change.TheVariants.{Scale, Divide}
use Rattle.dcx_linear.specs.Changes.{zero_test}
use Rattle.dcx_linear.specs.Stops.{GivesBy}
use Rattle.dcx_linear.specs.Parts.{adds_part}
use Rattle.dcx_entries.specs.Parts.{has_zero_divisor}
use Rattle.dcx_entries.specs.Sums.{adds_pair}
use Rattle.dcx_entries.specs.Standing.{args_of}
use Rattle.dcx_entries.proofs.pairs.add_pair.Goals as goal

pub add_entry-requires-in-Divisor : goal.add_entry-requires-in-Divisor
add_entry-requires-in-Divisor g c = λ e.
    let t = g.C.Coef in
    let no : zero_test c.argument_number-by-in-Divisor.result ≡ false =
    ap (λ n. zero_test n) c.argument_number-by-in-Divisor.ensures ∙ ap (λ s. has_zero_divisor t.number_of s (args_of t.of_number c.args.args.now) c.args.pair.now) (sym c.in-Divisor.is)
    ∙ c.requires.nonzero in
    let yes : zero_test c.argument_number-by-in-Divisor.result ≡ true = (IsTrue-rat_eq (value c.argument_number-by-in-Divisor.result) (whole (pos 0))).1 e in
    let bad : false ≡ true = sym no ∙ yes in
    cc

pub returns-in-LeftNumber : goal.returns-in-LeftNumber
returns-in-LeftNumber g c =
    let t = g.C.Coef in
    subst (λ s. GivesBy c.add_entry.result (λ _. c.add_entry.new.sum) (adds_pair t.number_of t.sum_gives t.change_gives s (args_of t.of_number c.args.args.now) c.args.pair.now c.args.sum.now))
    (sym c.in-LeftNumber.is)
    (subst (λ k. GivesBy c.add_entry.result (λ _. c.add_entry.new.sum)
    (adds_part t.number_of t.sum_gives t.change_gives c.args.sum.now (Scale k) (args_of t.of_number c.args.args.now 1 c.args.pair.now.right))) c.argument_number-by.ensures c.add_entry.ensures)

pub returns-in-RightNumber : goal.returns-in-RightNumber
returns-in-RightNumber g c =
    let t = g.C.Coef in
    subst (λ s. GivesBy c.add_entry-in-RightNumber.result (λ _. c.add_entry-in-RightNumber.new.sum)
    (adds_pair t.number_of t.sum_gives t.change_gives s (args_of t.of_number c.args.args.now) c.args.pair.now c.args.sum.now)) (sym c.in-RightNumber.is)
    (subst (λ k. GivesBy c.add_entry-in-RightNumber.result (λ _. c.add_entry-in-RightNumber.new.sum)
    (adds_part t.number_of t.sum_gives t.change_gives c.args.sum.now (Scale k)
    (args_of t.of_number c.args.args.now 0 c.args.pair.now.left))) c.argument_number-by-in-RightNumber.ensures c.add_entry-in-RightNumber.ensures)

pub returns-in-Divisor : goal.returns-in-Divisor
returns-in-Divisor g c =
    let t = g.C.Coef in
    subst (λ s. GivesBy c.add_entry-in-Divisor.result (λ _. c.add_entry-in-Divisor.new.sum)
    (adds_pair t.number_of t.sum_gives t.change_gives s (args_of t.of_number c.args.args.now) c.args.pair.now c.args.sum.now)) (sym c.in-Divisor.is)
    (subst (λ k. GivesBy c.add_entry-in-Divisor.result (λ _. c.add_entry-in-Divisor.new.sum)
    (adds_part t.number_of t.sum_gives t.change_gives c.args.sum.now (Divide k)
    (args_of t.of_number c.args.args.now 0 c.args.pair.now.left))) c.argument_number-by-in-Divisor.ensures c.add_entry-in-Divisor.ensures)
