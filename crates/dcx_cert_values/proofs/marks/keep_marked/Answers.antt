-- One more place is as its mark says.
use Rattle.std.proofs.Common.{◌+◌, List, Option, sym, ap, subst, ◌∙◌, arith, Vec, Global}
use Rattle.dcx_atom.specs.declared.array.Array.{Array}
use Rattle.dcx_cert_values.proofs.Left.{IsKeptSoFar, kept_at_first, marked_more, unmarked_more, all_kept}
use Rattle.dcx_cert_values.proofs.marks.keep_marked.Goals as goal
use Rattle.dcx_cert_values.proofs.marks.keep_marked.Goals.{then-not-mark_at+in-None-1, then-not-mark_at+in-Some-1, else-not-mark_at}

pub loop-i-init : goal.loop-i-init
loop-i-init c = kept_at_first c.args.marks.now c.args.arrays.now.items

pub loop-i-preserved : goal.loop-i-preserved
loop-i-preserved c =
    let marks = c.args.marks.now in
    let old = c.args.arrays.now.items in
    let now = c.loop-i.arrays.items in
    let i = c.loop-i.i in
    let items : Vec (Option Array) Global → List (Option Array) = λ v. v.items in
    let At : List (Option Array) → Type 0 = λ xs. IsKeptSoFar marks old (i + 1) xs in
    elim c.if-not-mark_at.branch [
      | then-not-mark_at+in-None-1 w ↦ subst At (sym (ap items w.arrays-is))
          (unmarked_more marks old i now c.loop-i.invariant (omega (arith, c.loop-i-test.true, c.loop-i.invariant.count)) (sym c.mark_at.ensures ∙ w.if-not-mark_at.true))
      | then-not-mark_at+in-Some-1 w ↦ subst At (sym (ap items w.arrays-is))
          (unmarked_more marks old i now c.loop-i.invariant (omega (arith, c.loop-i-test.true, c.loop-i.invariant.count)) (sym c.mark_at.ensures ∙ w.if-not-mark_at.true))
      | else-not-mark_at w ↦ subst At (sym (ap items w.arrays-is)) (marked_more marks old i now c.loop-i.invariant (sym c.mark_at.ensures ∙ w.if-not-mark_at.false))
    ]

pub returns-clause-each : goal.returns-clause-each
returns-clause-each c =
    all_kept c.args.marks.now c.args.arrays.now.items c.loop-i.i c.loop-i.arrays.items c.loop-i.invariant (omega (arith, c.loop-i-test.false, c.loop-i.invariant.count))
