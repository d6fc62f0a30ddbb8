-- The sections so far pass and show their answers.
use Rattle.std.proofs.Common.{◌≡◌, ℕ, ◌<◌, Some}
use Rattle.std.specs.List.{slice_get}
use Rattle.dcx_point.specs.Pairs.{Pairs}
use Rattle.dcx_cert_sections.specs.declared.section.Section.{Section}
use Rattle.dcx_cert_runs.specs.Checking.{section_check, IsSectionShown}
use Rattle.dcx_cert_runs.proofs.checking.check_sections.Given as goal

abbrev pub invariant-loop-i : goal.invariant-loop-i
invariant-loop-i l = record {
  passed : (k : ℕ) (s : Pairs) (x : Section) → k < l.i → slice_get l.settings k ≡ Some s → slice_get l.list k ≡ Some x → (section_check l.problem s x).passes;
  shown : (k : ℕ) (s : Pairs) (x : Section) → k < l.i → slice_get l.settings k ≡ Some s → slice_get l.list k ≡ Some x → IsSectionShown l.problem s x;
}
