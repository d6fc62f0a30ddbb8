-- The sections of a certificate that are read, checked at their settings.
use Rattle.std.specs.Prelude.{◌≡◌, ⊤, ℕ, ◌+◌, ◌<◌, Bool, true, false, List, length, Some, slice_get}
use Rattle.dcx_point.specs.Pairs.{Pairs}
use Rattle.dcx_tree.specs.declared.problem.Problem.{Problem}
use Rattle.dcx_answer.specs.declared.cert_fault.CertFault.{CertFault}
use Rattle.dcx_cert_sections.specs.declared.section.Section.{Section}
use Rattle.dcx_cert_sections.specs.declared.section.Section.TheVariants as sections
use Rattle.dcx_cert_sections.specs.Checks.{Check, nothing}
use Rattle.dcx_cert_check.specs.Checks.{checks_of}
use Rattle.dcx_cert_check.specs.Shown.{IsShown}

-- a section that isn't empty
abbrev pub is_cert : Section → Bool
is_cert (sections.Cert cert) = true
is_cert sections.None = false

-- the checks of a section; an empty one has none
abbrev pub section_check : Problem → Pairs → Section → Check
section_check p setting (sections.Cert cert) = checks_of p setting cert
section_check p setting sections.None = nothing

-- what a section that passes shows
abbrev pub IsSectionShown : Problem → Pairs → Section → Type 0
IsSectionShown p setting (sections.Cert cert) = IsShown p setting cert
IsSectionShown p setting sections.None = ⊤

-- each section passes at its setting
pub record ArePassed (p : Problem) (settings : List Pairs) (list : List Section) : Type 0 where
  pub count : length list ≡ length settings
  pub each : (k : ℕ) (s : Pairs) (x : Section) → slice_get settings k ≡ Some s → slice_get list k ≡ Some x → (section_check p s x).passes

-- each section shows its answer
pub record AreShown (p : Problem) (settings : List Pairs) (list : List Section) : Type 0 where
  pub count : length list ≡ length settings
  pub each : (k : ℕ) (s : Pairs) (x : Section) → slice_get settings k ≡ Some s → slice_get list k ≡ Some x → IsSectionShown p s x

-- this section, counted from 1, is the first that fails, and it fails with the fault
pub record IsFirstRefused (p : Problem) (settings : List Pairs) (list : List Section) (number : ℕ) (f : CertFault) : Type 0 where
  pub position : ℕ
  pub numbered : number ≡ position + 1
  pub setting : Pairs
  pub section : Section
  pub at_setting : slice_get settings position ≡ Some setting
  pub at_section : slice_get list position ≡ Some section
  pub fails : (section_check p setting section).fails f
  pub before : (k : ℕ) (s : Pairs) (x : Section) → k < position → slice_get settings k ≡ Some s → slice_get list k ≡ Some x → (section_check p s x).passes
