-- Sections pass or a first one is refused, with one number and one fault.
use Rattle.std.proofs.Common.{◌≡◌, ◌⊎◌, inl, inr, ℕ, ◌+◌, ◌<◌, List, Some, sym, ap, ◌∙◌, subst, arith}
use Rattle.std.specs.List.{slice_get}
use Rattle.std.proofs.lemmas.Option.{same_Some}
use native.Mathlib.Decide.{dec_lt}
use Rattle.dcx_point.specs.Pairs.{Pairs}
use Rattle.dcx_tree.specs.declared.problem.Problem.{Problem}
use Rattle.dcx_answer.specs.declared.cert_fault.CertFault.{CertFault}
use Rattle.dcx_answer.specs.declared.cert_fault.CertFault.TheVariants.{Memory}
use Rattle.dcx_cert_sections.specs.declared.section.Section.{Section}
use Rattle.dcx_cert_sections.specs.declared.section.Section.TheVariants as sections
use Rattle.dcx_cert_sections.specs.Laws.{IsSettled}
use Rattle.dcx_cert_check.proofs.Settled.{tells_one_thing}
use Rattle.dcx_cert_runs.specs.Checking.{section_check, ArePassed, IsFirstRefused}
use Rattle.dcx_cert_runs.specs.Laws.{RefusalsAreOne}

settled : (p : Problem) (s : Pairs) (x : Section) → IsSettled (section_check p s x)
settled p s (sections.Cert cert) = tells_one_thing p s cert
settled p s sections.None = record { apart = λ f a b. b; one = λ f g a b. absurd a }

module _ (p : Problem) (settings : List Pairs) (list : List Section) where
  apart : (number : ℕ) (f : CertFault) → ArePassed p settings list → IsFirstRefused p settings list number f → ⊥
  apart number f h r = (settled p r.setting r.section).apart f (h.each r.position r.setting r.section r.at_setting r.at_section) r.fails

  -- none is refused in front of the first
  not_before : (m n : ℕ) (f g : CertFault) (r : IsFirstRefused p settings list m f) (t : IsFirstRefused p settings list n g) → r.position < t.position → ⊥
  not_before m n f g r t lt = (settled p r.setting r.section).apart f (t.before r.position r.setting r.section lt r.at_setting r.at_section) r.fails

  one : (m n : ℕ) (f g : CertFault) → IsFirstRefused p settings list m f → IsFirstRefused p settings list n g → (m ≡ n) × (f ≡ g)
  one m n f g r t = by (dec_lt r.position t.position) (dec_lt t.position r.position)
    where
      by : Dec (r.position < t.position) → Dec (t.position < r.position) → (m ≡ n) × (f ≡ g)
      by (yes lt) d = absurd (not_before m n f g r t lt)
      by (no a) (yes lt) = absurd (not_before n m g f t r lt)
      by (no a) (no b) =
          let same : r.position ≡ t.position = omega (arith, a, b) in
          let setting : r.setting ≡ t.setting = same_Some r.setting t.setting (sym r.at_setting ∙ ap (slice_get settings) same ∙ t.at_setting) in
          let section : r.section ≡ t.section = same_Some r.section t.section (sym r.at_section ∙ ap (slice_get list) same ∙ t.at_section) in
          let first : (section_check p t.setting t.section).fails f =
          subst (λ (x : Section). (section_check p t.setting x).fails f) section (subst (λ (s : Pairs). (section_check p s r.section).fails f) setting r.fails) in
          (r.numbered ∙ ap (λ k. k + 1) same ∙ sym t.numbered, (settled p t.setting t.section).one f g first t.fails)

pub refusals_are_one : RefusalsAreOne
refusals_are_one p settings list = record { apart = apart p settings list; one = one p settings list }

-- a section fails, where those before it pass
pub refused_at : (p : Problem) (settings : List Pairs) (list : List Section) (i number : ℕ) (s : Pairs) (x : Section) (f : CertFault) → number ≡ i + 1 → slice_get settings i ≡ Some s
    → slice_get list i ≡ Some x
    → ((k : ℕ) (t : Pairs) (y : Section) → k < i → slice_get settings k ≡ Some t → slice_get list k ≡ Some y → (section_check p t y).passes) → (f ≡ Memory) ⊎ (section_check p s x).fails f →
    (f ≡ Memory) ⊎ IsFirstRefused p settings list number f
refused_at p settings list i number s x f numbered at there before (inl memory) = inl memory
refused_at p settings list i number s x f numbered at there before (inr fails) =
    inr (record { position = i; numbered = numbered; setting = s; section = x; at_setting = at; at_section = there; fails = fails; before = before })
