-- What a certificate has at each setting: what shows the answer there, or nothing.
use Rattle.std.specs.Prelude.{◌≡◌, ◌≢◌, ◌⊎◌, ◌↔◌, IsTrue, Bool, ℕ, List, length, Option, Some, slice_get}
use Rattle.dcx_frac.specs.declared.fraction.Frac.{Frac}
use Rattle.dcx_point.specs.Pairs.{Pairs}
use Rattle.dcx_tree.specs.declared.problem.Problem.{Problem}
use Rattle.dcx_answer.specs.declared.answer.Answer.{Answer}
use Rattle.dcx_answer.specs.declared.site.Site.{Site}
use Rattle.dcx_answer.specs.declared.stop.Stop.{Stop}
use Rattle.dcx_answer.specs.declared.stop.Stop.TheVariants as stops
use Rattle.dcx_cert_sections.specs.declared.cert.Cert.{Cert}
use Rattle.dcx_cert_sections.specs.declared.section.Section.{Section}
use Rattle.dcx_cert_sections.specs.declared.section.Section.TheVariants as sections
use Rattle.dcx_cert_sections.specs.declared.section.Sections.{Sections}
use Rattle.dcx_cert_sections.specs.declared.section.Format.TheVariants.{Two}
use Rattle.dcx_lp_solve.specs.declared.solving.Solved.{Solved}
use Rattle.dcx_graph.specs.Program.{Program}
use Rattle.dcx_cache.specs.Answers.{IsAnswerOf, Stops}
use Rattle.dcx_cert_build.specs.Built.{IsBuilt, PassesAt}

-- the setting is answered with at most so many pivots, and this is the certificate that is built of the answer
pub record IsCertAt (p : Problem) (limit : ℕ) (setting : Pairs) (cert : Cert) : Type 0 where
  pub program : Program Frac
  pub solved : Solved
  pub answer : Answer
  pub answered : IsAnswerOf p setting limit program solved answer
  pub built : IsBuilt p setting program.origins solved.answer answer cert

-- the setting is stopped, and not for want of memory
pub record IsStoppedAt (p : Problem) (limit : ℕ) (setting : Pairs) : Type 0 where
  pub stop : Stop
  pub not_memory : stop ≢ stops.Memory
  pub stops : Stops p setting limit stop

-- one of the settings is
pub record StopsSomewhere (p : Problem) (limit : ℕ) (settings : List Pairs) : Type 0 where
  pub position : ℕ
  pub setting : Pairs
  pub there : slice_get settings position ≡ Some setting
  pub is : IsStoppedAt p limit setting

-- the setting is stopped, and not for want of memory; or it is answered, and a weight of the answer passes 128 bits
pub data HasNoCert (p : Problem) (limit : ℕ) (setting : Pairs) : Type 0 where
  stopped : IsStoppedAt p limit setting → HasNoCert p limit setting
  passes : (program : Program Frac) (solved : Solved) (answer : Answer) (site : Site) → IsAnswerOf p setting limit program solved answer → PassesAt p program.origins solved.answer site
      → HasNoCert p limit setting

-- the section of a setting
abbrev pub IsSectionAt : Problem → ℕ → Pairs → Section → Type 0
IsSectionAt p limit setting (sections.Cert cert) = IsCertAt p limit setting cert
IsSectionAt p limit setting sections.None = HasNoCert p limit setting

-- the section of a setting, and whether one is stopped, before it and with it; whatever columns are kept
pub record IsTold (p : Problem) (limit : ℕ) (setting : Pairs) (before : Option (List ℕ) × Bool) (section : Section) (after : Option (List ℕ) × Bool) : Type 0 where
  pub is_section : IsSectionAt p limit setting section
  pub flag : IsTrue after.1 ↔ (IsTrue before.1 ⊎ IsStoppedAt p limit setting)

-- one for each setting, in order
pub record AreSectionsAt (p : Problem) (limit : ℕ) (settings : List Pairs) (list : List Section) : Type 0 where
  pub count : length list ≡ length settings
  pub each : (k : ℕ) (s : Pairs) (x : Section) → slice_get settings k ≡ Some s → slice_get list k ≡ Some x → IsSectionAt p limit s x

-- the certificate of a problem at settings, with the settings' values
pub record IsCertificateAt (p : Problem) (limit : ℕ) (settings : List Pairs) (c : Sections) : Type 0 where
  pub format : c.format ≡ Two
  pub sections : AreSectionsAt p limit settings c.list
