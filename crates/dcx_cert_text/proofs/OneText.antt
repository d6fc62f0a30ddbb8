-- Two certificates with one text are one.
use Rattle.std.proofs.Common.{◌≡◌, ℕ, ◌+◌, ◌⊎◌, inl, inr, List, [], ◌∷◌, ◌++◌, Result, Ok, Err, length, refl, sym, ap, ◌∙◌, subst, append_assoc}
use Rattle.std.proofs.lemmas.List.{append_cancel_left}
use Rattle.std.proofs.lemmas.List.Folds.{concat-append}
use Rattle.std.specs.List.{concat}
use Rattle.dcx_cert_sections.specs.declared.section.Section.{Section}
use Rattle.dcx_cert_sections.specs.declared.section.Sections.{Sections}
use Rattle.dcx_cert_sections.specs.declared.section.Format.{Format}
use Rattle.dcx_answer.specs.declared.cert_fault.CertFault.{CertFault}
use Rattle.dcx_answer.specs.declared.cert_fault.CertFault.TheVariants as faults
use Rattle.dcx_cert_sections.specs.Shown.{Outline, AreSectionsOf}
use Rattle.dcx_cert_sections.specs.Formats.{AreOfFormat}
use Rattle.dcx_cert_lines.specs.CertText.{first_line, head_line, section_word, section_lines, cert_text}
use Rattle.dcx_cert_lines.specs.Forms.{IsTextOf}
use Rattle.dcx_cert_lines.specs.Templates.{IsFilled, head_template, kind_of, lines_from}
use Rattle.dcx_cert_lines.proofs.Only.{one_line, one_kind}
use Rattle.dcx_cert_lines.proofs.Wholes.{IsValid, AreValid, section_filled}
use Rattle.dcx_cert_text.specs.Written.{section_text, body_text}
use Rattle.dcx_cert_text.specs.Laws.{IsReading}
use Rattle.dcx_cert_text.proofs.Bodies.{body_read}
use Rattle.dcx_cert_text.proofs.Fronts.{only_memory}
use Rattle.dcx_cert_lines.proofs.Files.{valid, formats_apart}

-- the first line of a section is one of its kind
head_of : (format : Format) (outline : Outline) (s : Section) (n : ℕ) → IsValid format outline s → IsFilled (head_template (kind_of s) n) (head_line (section_word s) n)
head_of format outline s n h = let all = section_filled format outline s n h in all.0

-- a section, and what stands behind it
section_read : (format : Format) (outline : Outline) (n : ℕ) (s t : Section) (x y : List ℕ) → IsValid format outline s → IsValid format outline t
    → section_text (n, s) ++ x ≡ section_text (n, t) ++ y → (s ≡ t) × (x ≡ y)
section_read format outline n s t x y h k e =
    let first = head_line (section_word s) n in
    let second = head_line (section_word t) n in
    let apart : first ++ (body_text s ++ x) ≡ second ++ (body_text t ++ y) = sym (append_assoc first (body_text s) x) ∙ e ∙ append_assoc second (body_text t) y in
    let kind : kind_of s ≡ kind_of t = one_kind (kind_of s) (kind_of t) n first second (body_text s ++ x) (body_text t ++ y) (head_of format outline s n h) (head_of format outline t n k) apart in
    let own : IsFilled (head_template (kind_of t) n) first = subst (λ q. IsFilled (head_template q n) first) kind (head_of format outline s n h) in
    let both = one_line (head_template (kind_of t) n) first second (body_text s ++ x) (body_text t ++ y) own (head_of format outline t n k) apart in
    body_read format outline s t x y h k kind both.1

-- no text of a section is empty
begins_not : (n : ℕ) (s : Section) (z : List ℕ) → [] ≡ section_text (n, s) ++ z → ⊥
unfolding head_line
begins_not n s z e = cc

-- all sections, and so how many they are
sections_read : (format : Format) (outline : Outline) (n : ℕ) (ss ts : List Section) → AreValid format outline ss → AreValid format outline ts
    → concat (lines_from n ss) ≡ concat (lines_from n ts) → ss ≡ ts
sections_read format outline n [] [] h k e = refl
sections_read format outline n [] (t ∷ ts) h k e = absurd (begins_not n t (concat (lines_from (n + 1) ts)) (e ∙ concat-append (section_lines (n, t)) (lines_from (n + 1) ts)))
sections_read format outline n (s ∷ ss) [] h k e = absurd (begins_not n s (concat (lines_from (n + 1) ss)) (sym e ∙ concat-append (section_lines (n, s)) (lines_from (n + 1) ss)))
sections_read format outline n (s ∷ ss) (t ∷ ts) h k e =
    let both = section_read format outline n s t (concat (lines_from (n + 1) ss)) (concat (lines_from (n + 1) ts)) h.0 k.0
    (sym (concat-append (section_lines (n, s)) (lines_from (n + 1) ss)) ∙ e ∙ concat-append (section_lines (n, t)) (lines_from (n + 1) ts)) in
    let rest = sections_read format outline (n + 1) ss ts h.1 k.1 both.1 in
    λ i. both.0 i ∷ rest i

-- two certificates of one format, by their sections
of_one_format : (format other : Format) (outline : Outline) (ss ts : List Section) → format ≡ other → AreSectionsOf outline ss → AreOfFormat format ss → AreSectionsOf outline ts → AreOfFormat other ts
    → first_line format ++ concat (lines_from 1 ss) ≡ first_line other ++ concat (lines_from 1 ts) → ss ≡ ts
of_one_format format other outline ss ts same hs hf ks kf e =
    let front : first_line format ++ concat (lines_from 1 ss) ≡ first_line format ++ concat (lines_from 1 ts) = e ∙ ap (λ f. first_line f ++ concat (lines_from 1 ts)) (sym same) in
    sections_read format outline 1 ss ts (valid format outline ss hs hf) (valid format outline ts ks (subst (λ f. AreOfFormat f ts) (sym same) kf))
    (append_cancel_left (first_line format) (concat (lines_from 1 ss)) (concat (lines_from 1 ts)) front)

pub one_text : (outline : Outline) (m n : ℕ) (bytes : List ℕ) (a b : Sections) → IsTextOf outline m bytes a → IsTextOf outline n bytes b → (a ≡ b) × (m ≡ n)
one_text outline m n bytes a b h k =
    let same : cert_text a ≡ cert_text b = sym h.text ∙ k.text in
    let format : a.format ≡ b.format = formats_apart a.format b.format (concat (lines_from 1 a.list)) (concat (lines_from 1 b.list)) same in
    let list : a.list ≡ b.list = of_one_format a.format b.format outline a.list b.list format h.certificate.shown h.certificate.format k.certificate.shown k.certificate.format same in
    (λ i. record { format = format i; list = list i }, sym h.certificate.counted ∙ ap length list ∙ k.certificate.counted)

-- ---- what is written is read again
is_text : (outline : Outline) (s : Sections) → AreSectionsOf outline s.list → AreOfFormat s.format s.list → IsTextOf outline (length s.list) (cert_text s) s
is_text outline s h k = record { certificate = record { counted = refl; shown = h; format = k }; text = refl }

read_only : (outline : Outline) (s : Sections) → IsTextOf outline (length s.list) (cert_text s) s → (result : Result Sections CertFault) → IsReading outline (length s.list) (cert_text s) result
    → (result ≡ Ok s) ⊎ (result ≡ Err faults.Memory)
read_only outline s t (Ok other) h =
    let both = one_text outline (length s.list) (length s.list) (cert_text s) other s h t in
    inl (ap Ok both.0)
read_only outline s t (Err fault) h = inr (ap Err (only_memory outline (length s.list) (cert_text s) s fault t h))

pub read_again : (outline : Outline) (s : Sections) → AreSectionsOf outline s.list → AreOfFormat s.format s.list
    → IsReading outline (length s.list) (cert_text s) (Ok s) × ((result : Result Sections CertFault) → IsReading outline (length s.list) (cert_text s) result
    → (result ≡ Ok s) ⊎ (result ≡ Err faults.Memory))
read_again outline s h k = (is_text outline s h k, read_only outline s (is_text outline s h k))
