-- The report begins as the refusal does.
use Rattle.std.proofs.Common.{rules, ◌≡◌, ◌↔◌, ℕ, List, IsTrue, subst}
use Rattle.dcx_case_files.specs.Judging.{BeginsWith, refusal_front}
use Rattle.dcx_case_files.proofs.Begins.{begins}
use Rattle.dcx_case_files.proofs.fronts.refuses.Goals as goal

pub returns : goal.returns
returns c =
    let front : c.as_bytes.result.now ≡ refusal_front c.args.number = search rules in
    subst (λ (f : List ℕ). IsTrue c.starts_with.result ↔ BeginsWith f c.args.report.now) front (begins c.as_bytes.result.now c.args.report.now c.starts_with.result c.starts_with.ensures.value)
