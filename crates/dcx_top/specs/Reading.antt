-- What a file of a command gives, or the run that ends there.
use Rattle.std.specs.Prelude.{⊤, ℕ, ◌⊎◌, List, length, Option, Ok, Err, ◌≤◌, Result}
use Rattle.dcx_tree.specs.declared.problem.Problem.{Problem}
use Rattle.dcx_host.specs.Files.{Files, IsTold}
use Rattle.dcx_front.specs.declared.accepted.Accepted.{Accepted}
use Rattle.dcx_refusal.specs.declared.refusal.Refusal.{Refusal}
use Rattle.dcx_refusal.specs.declared.refusal.RefusalSource.TheVariants.{Script, Settings, Certificate}
use Rattle.dcx_front.specs.Accepts.{Gives}
use Rattle.dcx_report.specs.declared.run.Run.{Run}
use Rattle.dcx_report.specs.declared.run.Run.TheVariants as run
use Rattle.dcx_answer.specs.declared.cert_fault.CertFault.{CertFault}
use Rattle.dcx_cert_sections.specs.declared.section.Sections.{Sections}
use Rattle.dcx_settings.specs.declared.settings.SettingItem.{SettingItem}
use Rattle.dcx_settings.specs.File.{SpellSettings}
use Rattle.dcx_front.specs.declared.fault.FrontFault.{FrontFault}
use Rattle.dcx_front.specs.declared.fault.FrontFault.TheVariants as front
use Rattle.dcx_refusal.specs.declared.refusal.RefusalSource.{RefusalSource}
use Rattle.dcx_answer.specs.declared.cert_fault.CertFault.TheVariants as faults
use Rattle.dcx_cert_outline.specs.Drawn.{problem_outline}
use Rattle.dcx_cert_lines.specs.Forms.{IsTextOf}
use Rattle.dcx_top.specs.Files.{most_bytes, IsLong, IsRefusedIn, RefusesScript, RefusesSettings, IsNotHad, IsMisread}

-- the run of a file that gives nothing
abbrev pub run_of : FrontFault → Run
run_of (front.Refused r) = run.Refused r
run_of front.Memory = run.Memory

-- the bytes that are had are those of the name
abbrev pub GivesBytes : Option Files → List ℕ → Result (List ℕ) Run → Type 0
GivesBytes told name (Ok bytes) = IsTold told name bytes
GivesBytes told name (Err r) = ⊤

-- the run that ends where a file isn't read, or its bytes are refused; want of memory is free
abbrev pub EndsAt : Option Files → Type 0 → RefusalSource → List ℕ → (List ℕ → Refusal → Type 0) → Run → Type 0
EndsAt told risen source name Refuses run.ReadFault = IsNotHad told risen name
EndsAt told risen source name Refuses (run.Refused r) = IsLong told source name r ⊎ IsRefusedIn told name Refuses r
EndsAt told risen source name Refuses run.Memory = ⊤
EndsAt told risen source name Refuses run.Usage = ⊥
EndsAt told risen source name Refuses (run.Checked c) = ⊥
EndsAt told risen source name Refuses (run.Solved word sense outcomes warm) = ⊥
EndsAt told risen source name Refuses (run.Certificates text stopped) = ⊥
EndsAt told risen source name Refuses (run.Certified n) = ⊥
EndsAt told risen source name Refuses (run.CertRefused section fault) = ⊥
EndsAt told risen source name Refuses (run.Trial size outcomes) = ⊥
EndsAt told risen source name Refuses (run.Filtered outcomes) = ⊥
EndsAt told risen source name Refuses (run.Ranged parameter sense outcomes) = ⊥

-- what a script in a file gives
abbrev pub ReadsScript : Option Files → Type 0 → List ℕ → Result Accepted Run → Type 0
ReadsScript told risen name (Ok a) = (bytes : List ℕ) × IsTold told name bytes × Gives bytes (Ok a)
ReadsScript told risen name (Err r) = EndsAt told risen Script name RefusesScript r

-- what a settings file gives
abbrev pub ReadsSettings : Option Files → Type 0 → List ℕ → Result (List (List SettingItem)) Run → Type 0
ReadsSettings told risen name (Ok lines) = (bytes : List ℕ) × IsTold told name bytes × SpellSettings bytes lines
ReadsSettings told risen name (Err r) = EndsAt told risen Settings name RefusesSettings r

-- the bytes of a certificate are refused by no reading of the file: a fault in them is one of the certificate
abbrev pub RefusesNothing : List ℕ → Refusal → Type 0
RefusesNothing bytes r = ⊥

-- the run of a certificate that is refused at a section, or at none; want of memory is told as such
abbrev pub refused_at : ℕ → CertFault → Run
refused_at section faults.Memory = run.Memory
refused_at section fault = run.CertRefused section fault

-- the sections of a certificate in a file, for a problem at so many settings; or the run that ends there
abbrev pub ReadsCertificate : Option Files → Type 0 → List ℕ → Problem → ℕ → Result Sections Run → Type 0
ReadsCertificate told risen name p count (Ok sections) = (bytes : List ℕ) × IsTold told name bytes × (length bytes ≤ most_bytes Certificate) × IsTextOf (problem_outline p) count bytes sections
ReadsCertificate told risen name p count (Err (run.CertRefused section fault)) = IsMisread told name p count section fault
ReadsCertificate told risen name p count (Err r) = EndsAt told risen Certificate name RefusesNothing r
