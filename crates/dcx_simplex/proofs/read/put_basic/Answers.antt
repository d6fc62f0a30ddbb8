-- The next basic column is none of those written.
use Rattle.std.proofs.Common.{◌≡◌, ◌+◌, ◌<◌, length, set, arith, sym, ap, ◌∙◌}
use borrow.Author.Count.{below_more}
use Rattle.dcx_math.specs.Rational.{whole, ◌/ℚ◌}
use Rattle.dcx_math.specs.Sums.{rat_at}
use Rattle.dcx_frac.specs.Frac.{value}
use Rattle.dcx_tab.specs.Rows.{basic_at}
use Rattle.dcx_tab.specs.Table.{entry_at}
use Rattle.dcx_lp_answer.specs.Notes.{numbers}
use Rattle.dcx_lp_answer.specs.Right.{turned_if}
use Rattle.dcx_simplex.proofs.Fractions.{number-set_same, number-set_other}
use Rattle.dcx_simplex.proofs.read.put_basic.Goals as goal

pub rows-preserved : goal.rows-preserved
rows-preserved g c =
    let t = g.T.Tableau.table c.args.tableau.now in
    let i = c.rows.i in
    let j = c.basis-j.result in
    let x = c.turned.result in
    let xs = c.rows.xs in
    let in_i : i + 2 < length t.rows = omega (arith, c.rows-i-end.ensures.count, c.rows-test.true) in
    let v : value x ≡ turned_if c.args.is_negated (whole (entry_at t i c.args.column) /ℚ whole (entry_at t i (basic_at t.basis i))) = c.turned.ensures
    ∙ ap (turned_if c.args.is_negated) c.ratio-x.ensures in
    let in_xs : j < length xs = omega (arith, c.requires.readable.basics i in_i, c.basis-j.ensures, c.requires.len, c.rows.auto.xs) in
    record {
      basic = below_more (λ k. rat_at (numbers (set xs j x)) (basic_at t.basis k) ≡ turned_if c.args.is_negated (whole (entry_at t k c.args.column) /ℚ whole (entry_at t k (basic_at t.basis k)))) i
          (λ k l. number-set_other xs j x (basic_at t.basis k) (λ same. let a = c.requires.readable.apart k i (omega (arith, in_i, l)) in_i (same ∙ c.basis-j.ensures) in
          absurd (omega (arith, a, l))) ∙ c.rows.invariant.basic k l)
          (ap (rat_at (numbers (set xs j x))) (sym c.basis-j.ensures) ∙ number-set_same xs j x in_xs ∙ v);
      other = λ k h. number-set_other xs j x k (λ same. h i (omega arith) (sym c.basis-j.ensures ∙ sym same)) ∙ c.rows.invariant.other k (λ l m. h l (omega (arith, m)));
    }
