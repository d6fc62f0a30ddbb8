-- One more row adds its number where it starts with an artificial, or its sum is the first that passes.
use Rattle.std.proofs.Common.{◌+◌, map, drop, sym, ap, ◌∙◌, arith}
use Rattle.std.specs.Prelude.{filter}
use Rattle.std.proofs.lemmas.Result.{err_from_is_err_and}
use Rattle.dcx_math.specs.Rational.{whole}
use Rattle.dcx_atom.specs.Formed.{frac_at, and_then, sum_from}
use Rattle.dcx_atom.proofs.FormedSums.{zero_frac-unique}
use Rattle.dcx_tab.specs.declared.rows.IntRow.{IntRow}
use Rattle.dcx_std.specs.IntegerRows.{starts_artificial, number_at}
use Rattle.dcx_std.proofs.PhaseForm.{started_next}
use Rattle.dcx_std.proofs.phase.sum_at.Goals as goal

pub rows-init : goal.rows-init
rows-init c = ap (λ x. sum_from x (map frac_at (map (λ (r : IntRow). whole (number_at c.args.column r)) (filter (starts_artificial c.args.plain) c.args.rows.now))))
    (zero_frac-unique c.zero-sum.result c.zero-sum.ensures)

pub returns-in_err-sum : goal.returns-in_err-sum
returns-in_err-sum c =
    let p = err_from_is_err_and c.from_residual.result c.from_residual.ensures.1 in
    let next = started_next c.args.plain c.args.column c.rows.sum c.args.rows.now c.rows.row-index c.row-item.result (omega arith) c.row-item.is in
    rw (p.1, p.2)
    (ap (λ r. and_then r (λ z. sum_from z
    (map frac_at (map (λ (s : IntRow). whole (number_at c.args.column s)) (filter (starts_artificial c.args.plain) (drop (c.rows.row-index + 1) c.args.rows.now))))))
    (sym c.in_err-sum.was ∙ c.added.ensures)
    ∙ sym next ∙ c.rows.invariant)

pub rows-preserved : goal.rows-preserved
rows-preserved c =
    let next = started_next c.args.plain c.args.column c.rows.sum c.args.rows.now c.rows.row-index c.row-item.result (omega arith) c.row-item.is in
    ap (λ r. and_then r (λ z. sum_from z
    (map frac_at (map (λ (s : IntRow). whole (number_at c.args.column s)) (filter (starts_artificial c.args.plain) (drop (c.rows.row-index + 1) c.args.rows.now))))))
    (sym c.in_ok-sum.was ∙ c.added.ensures)
    ∙ sym next ∙ c.rows.invariant
