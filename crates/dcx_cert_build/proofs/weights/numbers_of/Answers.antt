-- One more row is of the node, or not.
use Rattle.std.proofs.Common.{◌≡◌, ℕ, Option, Some, None, ap, ◌∙◌, eq-eqb, ne_eqb}
use Rattle.std.specs.Prelude.{if◌then◌else◌}
use Rattle.dcx_cert_build.specs.declared.forming.RowWeight.{RowWeight}
use Rattle.dcx_cert_build.specs.Weights.{number_for}
use Rattle.dcx_cert_build.proofs.Formed.{number_more, no_number}
use Rattle.dcx_cert_build.proofs.weights.numbers_of.Goals as goal
use Rattle.dcx_cert_build.proofs.weights.numbers_of.Goals.{in-Some+then-weight-node+in_ok-push, in-Some+else-weight-node, in_default}

own_number : (i : ℕ) (w : RowWeight) (o : Option RowWeight) → o ≡ Some w → w.node.0 ≡ i → number_for i o ≡ Some w.number
own_number i w o is same = ap (number_for i) is ∙ ap (λ b. if b then Some w.number else None) (eq-eqb w.node.0 i same)

other_number : (i : ℕ) (w : RowWeight) (o : Option RowWeight) → o ≡ Some w → (w.node.0 ≡ i → ⊥) → number_for i o ≡ None
other_number i w o is differs = ap (number_for i) is ∙ ap (λ b. if b then Some w.number else None) (ne_eqb w.node.0 i differs)

pub rows-preserved : goal.rows-preserved
rows-preserved c =
    let h = number_for c.args.node.0 in
    elim c.match-row.branch [
      | in-Some+then-weight-node+in_ok-push w ↦
          number_more h c.args.rows.now c.rows.row-index c.row-item.result c.rows-test.true c.row-item.is c.rows.numbers.items c.match-row.numbers.items c.rows.invariant w.in-Some.weight.number
          (own_number c.args.node.0 w.in-Some.weight c.row-item.result w.in-Some.is w.if-weight-node.true) (ap (λ v. v.items) w.numbers-is ∙ w.in_ok-push.ensures.items)
      | in-Some+else-weight-node w ↦
          no_number h c.args.rows.now c.rows.row-index c.row-item.result c.rows-test.true c.row-item.is c.rows.numbers.items c.match-row.numbers.items c.rows.invariant
          (other_number c.args.node.0 w.in-Some.weight c.row-item.result w.in-Some.is w.if-weight-node.false) (ap (λ v. v.items) w.numbers-is)
      | in_default w ↦
          no_number h c.args.rows.now c.rows.row-index c.row-item.result c.rows-test.true c.row-item.is c.rows.numbers.items c.match-row.numbers.items c.rows.invariant
          (ap h w.in_default.is) (ap (λ v. v.items) w.numbers-is)
    ]
