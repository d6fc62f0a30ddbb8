-- Each entry counts where it has an unknown of its own, and there are at most as many as entries.
use Rattle.std.proofs.Common.{◌≡◌, ◌+◌, arith, sym, ap, ◌∙◌}
use Rattle.dcx_shape.specs.Sides.{entries_of}
use Rattle.dcx_unknowns.specs.Own.{own_before}
use Rattle.dcx_unknowns.specs.Unknowns.{demanded, sides_in}
use Rattle.dcx_unknowns.proofs.Places.{own_before-le, own_count_is, own_more, own_no_more}
use Rattle.dcx_unknowns.proofs.own.own_count.Goals as goal
use Rattle.dcx_unknowns.proofs.own.own_count.Goals.{then-is_own, else-is_own}

pub overflow_add-count : goal.overflow_add-count
overflow_add-count c =
    let v = c.args.variable.now in
    omega (arith, c.entries.invariant, own_before-le (demanded v) (sides_in v) c.entries.entry, c.entries-test.true, c.size-entry-end.ensures.most)

pub entries-preserved : goal.entries-preserved
entries-preserved c =
    let v = c.args.variable.now in
    elim c.if-is_own.branch [
      | then-is_own w ↦ w.count-is ∙ ap (λ n. n + 1) c.entries.invariant ∙ sym (own_more (demanded v) (sides_in v) c.entries.entry (sym c.is_own.ensures ∙ w.if-is_own.true))
      | else-is_own w ↦ w.count-is ∙ c.entries.invariant ∙ sym (own_no_more (demanded v) (sides_in v) c.entries.entry (sym c.is_own.ensures ∙ w.if-is_own.false))
    ]

pub returns-clause-count : goal.returns-clause-count
returns-clause-count c =
    let v = c.args.variable.now in
    let end : c.entries.entry ≡ entries_of (sides_in v) = omega (arith, c.entries-test.false, c.size-entry-end.ensures.value) in
    c.entries.invariant ∙ ap (own_before (demanded v) (sides_in v)) end ∙ sym (own_count_is (demanded v) (sides_in v))

pub returns-clause-few : goal.returns-clause-few
returns-clause-few c =
    let v = c.args.variable.now in
    omega (arith, c.entries.invariant, own_before-le (demanded v) (sides_in v) c.entries.entry, c.size-entry-end.ensures.most)
