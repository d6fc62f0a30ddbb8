-- Which certificates there are for a problem, and up to which line bytes are the text of one.
use Rattle.std.specs.Prelude.{◌≡◌, ⊤, ℕ, ◌+◌, ◌≤◌, List, ◌++◌, length, take}
use Rattle.std.specs.List.{concat}
use Rattle.dcx_cert_sections.specs.declared.section.Sections.{Sections}
use Rattle.dcx_answer.specs.declared.cert_fault.CertFault.{CertFault}
use Rattle.dcx_answer.specs.declared.cert_fault.CertFault.TheVariants.{Form, Memory}
use Rattle.dcx_cert_sections.specs.Formats.{AreOfFormat}
use Rattle.dcx_cert_sections.specs.Shown.{Outline, AreSectionsOf}
use Rattle.dcx_cert_lines.specs.CertText.{all_lines, cert_text}

-- a certificate of so many sections for the problem with this outline
pub record IsCertificateOf (outline : Outline) (count : ℕ) (s : Sections) : Type 0 where
  pub counted : length s.list ≡ count
  pub shown : AreSectionsOf outline s.list
  pub format : AreOfFormat s.format s.list

-- the bytes are the text of this certificate
pub record IsTextOf (outline : Outline) (count : ℕ) (bytes : List ℕ) (s : Sections) : Type 0 where
  pub certificate : IsCertificateOf outline count s
  pub text : bytes ≡ cert_text s

-- the bytes begin with the first k lines of some certificate
pub record Agrees (outline : Outline) (count : ℕ) (bytes : List ℕ) (k : ℕ) : Type 0 where
  pub sections : Sections
  pub certificate : IsCertificateOf outline count sections
  pub enough : k ≤ length (all_lines sections)
  pub rest : List ℕ
  pub begins : bytes ≡ concat (take k (all_lines sections)) ++ rest

-- the bytes are the text of no certificate, and this is the first line up to which they agree with none; what stands
-- behind the last line of a certificate counts as its next line
pub record IsMisfit (outline : Outline) (count : ℕ) (bytes : List ℕ) (line : ℕ) : Type 0 where
  pub done : ℕ
  pub next : line ≡ done + 1
  pub before : Agrees outline count bytes done
  pub here : Agrees outline count bytes line → ⊥
  pub no_text : (s : Sections) → IsTextOf outline count bytes s → ⊥

-- why bytes aren't read: the line, or want of memory
abbrev pub IsReadFault : Outline → ℕ → List ℕ → CertFault → Type 0
IsReadFault outline count bytes (Form line) = IsMisfit outline count bytes line
IsReadFault outline count bytes Memory = ⊤
IsReadFault outline count bytes _ = ⊥
