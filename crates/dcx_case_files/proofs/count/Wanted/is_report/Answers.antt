-- Where it may go on, the report begins with the wanted one.
use Rattle.std.proofs.Common.{◌↔◌, Bool, List, ℕ, IsTrue, sym, subst}
use Rattle.dcx_case_files.specs.Judging.{BeginsWith, IsReport}
use Rattle.dcx_case_files.proofs.Begins.{begins}
use Rattle.dcx_case_files.proofs.count.Wanted.is_report.Goals as goal

pub returns-then-self : goal.returns-then-self
returns-then-self c =
    let report = c.args.report.now in
    let r = c.starts_with.result in
    let fits : IsTrue r ↔ BeginsWith c.args.self.now.report.items report =
    subst (λ (front : List ℕ). IsTrue r ↔ BeginsWith front report) c.deref.ensures.value (begins c.deref.result.now report r c.starts_with.ensures.value) in
    subst (λ (b : Bool). IsTrue r ↔ IsReport b c.args.self.now.report.items report) (sym c.if-self.true) fits
