-- A section that shows an answer counts one more, and any other none.
use Rattle.std.proofs.Common.{ap, sym, ◌∙◌, ◌+◌, arith}
use Rattle.std.proofs.lemmas.List.Sums.{count_by_more_yes, count_by_more_no}
use Rattle.dcx_cert_runs.specs.Checking.{is_cert}
use Rattle.dcx_cert_runs.proofs.checking.certs.Goals as goal
use Rattle.dcx_cert_runs.proofs.checking.certs.Goals.{then-is_cert, else-is_cert}

pub loop-section-preserved : goal.loop-section-preserved
loop-section-preserved c =
    let i = c.loop-section.section-index in
    let is = sym (ap is_cert c.section-item.is) in
    elim c.if-is_cert.branch [
      | then-is_cert w ↦ w.certs-is ∙ ap (λ n. n + 1) c.loop-section.invariant
          ∙ sym (count_by_more_yes is_cert c.args.list.now i c.section-item.result (omega arith) (is ∙ sym c.is_cert.ensures ∙ w.if-is_cert.true))
      | else-is_cert w ↦ w.certs-is ∙ c.loop-section.invariant ∙ sym (count_by_more_no is_cert c.args.list.now i c.section-item.result (omega arith) (is ∙ sym c.is_cert.ensures ∙ w.if-is_cert.false))
    ]
