-- Sections that pass their checks show their answers, also with the values of their settings.
use Rattle.std.proofs.Common.{◌≡◌, ℕ, ◌<◌, List, length, get_or, Some, sym, ◌∙◌, subst, arith}
use Rattle.std.specs.List.{All, slice_get}
use Rattle.std.proofs.lemmas.Option.{same_Some, slice_get-get_or, slice_get_within, get_or_from_slice_get}
use Rattle.std.proofs.lemmas.List.Elements.{All-get_or}
use Rattle.dcx_point.specs.Pairs.{Pairs}
use Rattle.dcx_tree.specs.declared.problem.Problem.{Problem}
use Rattle.dcx_tree.specs.Meaning.{IsAccepted}
use Rattle.dcx_cert_sections.specs.declared.cert.Cert.TheVariants.{Optimal, Infeasible, Unbounded}
use Rattle.dcx_cert_sections.specs.declared.section.Section.{Section}
use Rattle.dcx_cert_sections.specs.declared.section.Section.TheVariants as sections
use Rattle.dcx_cert_sections.specs.declared.section.Sections.{Sections}
use Rattle.dcx_cert_sections.specs.Shown.{IsSectionOf, AreSectionsOf}
use Rattle.dcx_cert_outline.specs.Drawn.{problem_outline}
use Rattle.dcx_cert_runs.proofs.Shows.{passed_are_shown}
use Rattle.dcx_cert_runs.specs.Checking.{section_check, IsSectionShown, ArePassed, AreShown}
use Rattle.dcx_cert_runs.specs.Migrating.{with_values, IsMigrated}

section_shown : (p : Problem) (s : Pairs) (x : Section) → IsAccepted p → IsSectionOf (problem_outline p) x → (section_check p s x).passes → IsSectionShown p s x
section_shown p s (sections.Cert cert) ok of_problem h = passed_are_shown p s cert ok of_problem h
section_shown p s sections.None ok of_problem h = tt

-- what holds of each section holds of the one at a place
pub at_place : (P : Section → Type 0) (list : List Section) (k : ℕ) (x : Section) → slice_get list k ≡ Some x → All P list → P x
at_place P list k x here all = subst P (get_or_from_slice_get list k x x here) (All-get_or P list k x (slice_get_within list k x here) all)

-- sections that pass show their answers
pub passed_shown : (p : Problem) (settings : List Pairs) (list : List Section) → IsAccepted p → AreSectionsOf (problem_outline p) list → ArePassed p settings list → AreShown p settings list
passed_shown p settings list ok are h = record {
  count = h.count;
  each = λ k s x at here. section_shown p s x ok (at_place (IsSectionOf (problem_outline p)) list k x here are) (h.each k s x at here);
}

still_shown : (p : Problem) (s : Pairs) (x : Section) → IsSectionShown p s x → IsSectionShown p s (with_values p s x)
still_shown p s (sections.Cert (Optimal value point duals weights params)) h = h
still_shown p s (sections.Cert (Infeasible duals gap weights params)) h = h
still_shown p s (sections.Cert (Unbounded point ray bound slope params)) h = h
still_shown p s sections.None h = h

-- what holds of each section with the values of its setting holds of those of the certificate that has them
pub each_migrated : (p : Problem) (settings : List Pairs) (before after : Sections) → IsMigrated p settings before after → (P : Pairs → Section → Type 0)
    → ((k : ℕ) (s : Pairs) (x : Section) → slice_get settings k ≡ Some s → slice_get before.list k ≡ Some x → P s (with_values p s x))
    → (k : ℕ) (s : Pairs) (y : Section) → slice_get settings k ≡ Some s → slice_get after.list k ≡ Some y → P s y
each_migrated p settings before after m P h k s y at here =
    let within : k < length after.list = slice_get_within after.list k y here in
    let there = slice_get-get_or before.list k y (omega (arith, within, m.count)) in
    let x = get_or before.list k y in
    subst (P s) (same_Some (with_values p s x) y (sym (m.each k s x at there) ∙ here)) (h k s x at there)

-- so the same sections with the values of their settings show their answers too
pub migrated_shown : (p : Problem) (settings : List Pairs) (before after : Sections) → IsMigrated p settings before after → AreShown p settings before.list → AreShown p settings after.list
migrated_shown p settings before after m h = record {
  count = m.count ∙ h.count;
  each = each_migrated p settings before after m (IsSectionShown p) (λ k s x at there. still_shown p s x (h.each k s x at there));
}
