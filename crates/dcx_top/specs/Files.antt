-- Files of a command: their lengths, what their bytes are refused for, and what a certificate in them has.
use Rattle.std.specs.Prelude.{◌≡◌, ℕ, ◌⊎◌, List, length, Option, Err, ◌≤◌}
use Rattle.dcx_point.specs.Pairs.{Pairs}
use Rattle.dcx_tree.specs.declared.problem.Problem.{Problem}
use Rattle.dcx_host.specs.Files.{Files, IsTold, Lacks, HasMore}
use Rattle.dcx_refusal.specs.declared.refusal.Refusal.{Refusal}
use Rattle.dcx_refusal.specs.declared.refusal.RefusalSource.TheVariants.{Script, Settings, Certificate}
use Rattle.dcx_front.specs.Accepts.{Gives, IsRefusedBy, read_ending}
use Rattle.dcx_answer.specs.declared.cert_fault.CertFault.{CertFault}
use Rattle.dcx_cert_sections.specs.declared.section.Sections.{Sections}
use Rattle.dcx_tokens.specs.declared.fault.ReadFault.{ReadFault}
use Rattle.dcx_settings.specs.File.{IsRefused}
use Rattle.dcx_front.specs.declared.fault.FrontFault.TheVariants as front
use Rattle.dcx_refusal.specs.declared.refusal.RefusalSource.{RefusalSource}
use Rattle.dcx_refusal.specs.Made.{IsTooLong}
use Rattle.dcx_answer.specs.declared.cert_fault.CertFault.TheVariants as faults
use Rattle.dcx_cert_outline.specs.Drawn.{problem_outline}
use Rattle.dcx_cert_lines.specs.Forms.{IsTextOf, IsMisfit}

-- how many bytes a script has at most, a settings file, and a certificate
abbrev pub most_bytes : RefusalSource → ℕ
most_bytes Script = 1048576
most_bytes Settings = 1048576
most_bytes Certificate = 67108864

-- ---- refusals
-- the file is refused for its length, which it has where files are told
abbrev pub IsLong : Option Files → RefusalSource → List ℕ → Refusal → Type 0
IsLong told source name r = IsTooLong source r × HasMore told name (most_bytes source)

-- it has bytes that are refused so
abbrev pub IsRefusedIn : Option Files → List ℕ → (List ℕ → Refusal → Type 0) → Refusal → Type 0
IsRefusedIn told name Refuses r = (bytes : List ℕ) × IsTold told name bytes × Refuses bytes r

-- the bytes of a script give this refusal
abbrev pub RefusesScript : List ℕ → Refusal → Type 0
RefusesScript bytes r = Gives bytes (Err (front.Refused r))

-- the bytes of a settings file have a fault of reading, which the refusal tells
pub record RefusesSettings (bytes : List ℕ) (r : Refusal) : Type 0 where
  pub fault : ReadFault
  pub refused : IsRefused bytes fault
  pub told : IsRefusedBy Settings (read_ending fault) r

-- ---- files
-- why a file isn't read: the library lacks it, or the count of faults rose in this run
abbrev pub IsNotHad : Option Files → Type 0 → List ℕ → Type 0
IsNotHad told risen name = Lacks told name ⊎ risen

-- ---- certificates
-- the bytes are the text of no certificate for the problem at so many settings, and this line is the first that shows it
pub record IsMisread (told : Option Files) (name : List ℕ) (p : Problem) (count section : ℕ) (f : CertFault) : Type 0 where
  pub bytes : List ℕ
  pub are_told : IsTold told name bytes
  pub few : length bytes ≤ most_bytes Certificate
  pub line : ℕ
  pub fault : f ≡ faults.Form line
  pub misfit : IsMisfit (problem_outline p) count bytes line
  pub none : section ≡ 0

-- the file has the text of these sections for the problem, as many as there are settings
pub record HasTextOf (told : Option Files) (name : List ℕ) (p : Problem) (settings : List Pairs) (sections : Sections) : Type 0 where
  pub bytes : List ℕ
  pub are_told : IsTold told name bytes
  pub few : length bytes ≤ most_bytes Certificate
  pub text : IsTextOf (problem_outline p) (length settings) bytes sections
