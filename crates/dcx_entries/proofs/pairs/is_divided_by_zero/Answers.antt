-- The divisor is tested by its value.
use Rattle.std.proofs.Common.{pos, sym, ap, ◌∙◌}
use Rattle.dcx_math.specs.Rational.{whole}
use Rattle.dcx_math.proofs.Ratios.{IsTrue-rat_eq}
use Rattle.dcx_frac.specs.Frac.{value}
use Rattle.dcx_linear.specs.Changes.{zero_test}
use Rattle.dcx_linear.proofs.Keys.{same_bool}
use Rattle.dcx_entries.specs.Parts.{has_zero_divisor}
use Rattle.dcx_entries.specs.Standing.{args_of}
use Rattle.dcx_entries.proofs.pairs.is_divided_by_zero.Goals as goal

pub returns-in-Divisor : goal.returns-in-Divisor
returns-in-Divisor g c =
    let t = g.C.Coef in
    same_bool _ _ c.is_zero.ensures (IsTrue-rat_eq (value c.argument_number.result) (whole (pos 0)))
    ∙ ap (λ n. zero_test n) c.argument_number.ensures
    ∙ ap (λ s. has_zero_divisor t.number_of s (args_of t.of_number c.args.args.now) c.args.pair.now) (sym c.in-Divisor.is)
