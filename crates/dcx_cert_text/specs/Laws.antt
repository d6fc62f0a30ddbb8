-- The laws of texts of certificates: what is written is read, one text is one certificate, and where bytes are refused.
use Rattle.std.specs.Prelude.{◌≡◌, ℕ, ◌<◌, ◌≤◌, ◌⊎◌, List, length, Result, Ok, Err, MatchResult}
use Rattle.dcx_cert_sections.specs.Shown.{Outline, AreSectionsOf}
use Rattle.dcx_cert_sections.specs.Formats.{AreOfFormat}
use Rattle.dcx_cert_sections.specs.declared.section.Sections.{Sections}
use Rattle.dcx_answer.specs.declared.cert_fault.CertFault.{CertFault}
use Rattle.dcx_answer.specs.declared.cert_fault.CertFault.TheVariants.{Form, Memory}
use Rattle.dcx_cert_lines.specs.CertText.{cert_text}
use Rattle.dcx_cert_lines.specs.Forms.{IsTextOf, Agrees, IsMisfit, IsReadFault}

-- two certificates for a problem that have one text are one, whatever numbers of sections they are read with
abbrev pub TextsAreOne : Type 0
TextsAreOne = (outline : Outline) (m n : ℕ) (bytes : List ℕ) (a b : Sections) → IsTextOf outline m bytes a → IsTextOf outline n bytes b → (a ≡ b) × (m ≡ n)

-- what a reading of bytes may answer: the certificate that they are the text of, or why they are none
abbrev pub IsReading : Outline → ℕ → List ℕ → Result Sections CertFault → Type 0
IsReading outline count bytes result = MatchResult result (IsTextOf outline count bytes) (IsReadFault outline count bytes)

-- what is written is read again, or memory is wanting
abbrev pub WrittenIsRead : Type 0
WrittenIsRead = (outline : Outline) (s : Sections) → AreSectionsOf outline s.list → AreOfFormat s.format s.list
    → IsReading outline (length s.list) (cert_text s) (Ok s) × ((result : Result Sections CertFault) → IsReading outline (length s.list) (cert_text s) result → (result ≡ Ok s) ⊎ (result ≡ Err Memory))

-- a text is refused for want of memory alone
abbrev pub TextsAreNotRefused : Type 0
TextsAreNotRefused = (outline : Outline) (count : ℕ) (bytes : List ℕ) (s : Sections) (fault : CertFault) → IsTextOf outline count bytes s → IsReadFault outline count bytes fault → fault ≡ Memory

-- bytes are refused at one line
abbrev pub LinesAreOne : Type 0
LinesAreOne = (outline : Outline) (count : ℕ) (bytes : List ℕ) (l m : ℕ) → IsReadFault outline count bytes (Form l) → IsReadFault outline count bytes (Form m) → l ≡ m

-- bytes agree with a certificate up to each line before the one at which they are refused, and with none from there on
abbrev pub FrontsGoOn : Type 0
FrontsGoOn = (outline : Outline) (count : ℕ) (bytes : List ℕ) (line k : ℕ) → IsMisfit outline count bytes line
    → (k < line → Agrees outline count bytes k) × (line ≤ k → Agrees outline count bytes k → ⊥)
