-- Two runs that tell of a certificate are one.
use Rattle.std.proofs.Common.{◌≡◌, ◌↔◌, ℕ, IsTrue, Bool, List, length, count_by, Some, sym, ap, subst, ◌∙◌}
use Rattle.std.proofs.lemmas.Option.{same_Some}
use Rattle.dcx_point.specs.Pairs.{Pairs}
use Rattle.dcx_host.specs.Files.{Files}
use Rattle.dcx_elab.specs.declared.work.Work.{Work}
use Rattle.dcx_declared.specs.Whole.{HasNoWhole}
use Rattle.dcx_front.proofs.OneCheck.{one_test}
use Rattle.dcx_answer.specs.declared.cert_fault.CertFault.{CertFault}
use Rattle.dcx_answer.specs.declared.cert_fault.CertFault.TheVariants as faults
use Rattle.dcx_cert_sections.specs.declared.section.Sections.{Sections}
use Rattle.dcx_cert_outline.specs.Drawn.{problem_outline}
use Rattle.dcx_cert_lines.specs.CertText.{cert_text}
use Rattle.dcx_cert_lines.specs.Forms.{IsTextOf, IsMisfit}
use Rattle.dcx_cert_text.proofs.OneText.{one_text}
use Rattle.dcx_cert_text.proofs.Fronts.{one_line}
use Rattle.dcx_cert_runs.specs.Sections.{StopsSomewhere, IsCertificateAt}
use Rattle.dcx_cert_runs.specs.Checking.{is_cert, ArePassed, IsFirstRefused}
use Rattle.dcx_cert_runs.specs.Migrating.{IsMigrated}
use Rattle.dcx_cert_runs.proofs.OneRefusal.{refusals_are_one}
use Rattle.dcx_cert_runs.proofs.Migrated.{migrations_are_one}
use Rattle.dcx_words.specs.Commands.{Command, certificate, certify, migrate}
use Rattle.dcx_report.specs.declared.run.Run.TheVariants as run
use Rattle.dcx_top.specs.Commands.{certificate_name, limit_of}
use Rattle.dcx_top.specs.Files.{HasTextOf, IsMisread}
use Rattle.dcx_top.specs.Runs.{IsCertificateRun, HasCertificate, ReadsSections, HasPassed, IsMigrateRun, IsCertifiedRun, IsCertRefusedRun, misread, failed}
use Rattle.dcx_top.specs.OneRun.{AreOneRun, told_same}
use Rattle.dcx_top.proofs.OneAsked.{asked_of_one, asked_once}
use Rattle.dcx_top.proofs.OneText.{one_certificate}

-- ---- the certificate of a command
module _ (words : List (List ℕ)) (files : Files) where
  pub written_once : (old new was now : ℕ) (bytes others : List ℕ) (s t : Bool) → IsCertificateRun words (Some files) old new bytes s → IsCertificateRun words (Some files) was now others t
      → AreOneRun (run.Certificates bytes s) (run.Certificates others t)
  written_once old new was now bytes others s t h k = told_same (λ i. run.Certificates (text i) (flag i))
    where
      here : Command
      here = certificate h.script h.name h.limit

      there : Command
      there = certificate k.script k.name k.limit

      are : IsCertificateAt h.asked.work.problem h.limit h.asked.settings k.sections
      are = asked_once words files HasNoWhole HasNoWhole (λ c w ss. IsCertificateAt w.problem (limit_of c) ss k.sections) here there h.asked k.asked k.are

      stops : IsTrue t ↔ StopsSomewhere h.asked.work.problem h.limit h.asked.settings
      stops = asked_once words files HasNoWhole HasNoWhole (λ c w ss. IsTrue t ↔ StopsSomewhere w.problem (limit_of c) ss) here there h.asked k.asked k.flag

      flag : s ≡ t
      flag = one_test s t (λ q. stops.1 (h.flag.0 q)) (λ q. h.flag.1 (stops.0 q))

      text : bytes ≡ others
      text = h.text ∙ ap cert_text (one_certificate h.asked.work.problem h.limit h.asked.settings h.sections k.sections h.asked.problem.accepted h.are are) ∙ sym k.text

  -- ---- a certificate that is read
  module _ (c d : Command) (f : HasCertificate words (Some files) c) (g : HasCertificate words (Some files) d) where
    same_name : f.name ≡ g.name
    same_name = same_Some f.name g.name (sym f.named ∙ ap certificate_name (asked_of_one words files HasNoWhole HasNoWhole c d f.asked g.asked) ∙ g.named)

    moved : (P : Work → List Pairs → Type 0) → P f.asked.work f.asked.settings → P g.asked.work g.asked.settings
    moved P h = asked_once words files HasNoWhole HasNoWhole (λ e w ss. P w ss) d c g.asked f.asked h

    same_bytes : (a b : List ℕ) → files f.name ≡ Some a → files g.name ≡ Some b → a ≡ b
    same_bytes a b h k = same_Some a b (sym h ∙ ap files same_name ∙ k)

    text_here : (x : Sections) (a b : List ℕ) → a ≡ b → IsTextOf (problem_outline f.asked.work.problem) (length f.asked.settings) a x
        → IsTextOf (problem_outline g.asked.work.problem) (length g.asked.settings) b x
    text_here x a b e h = moved (λ w ss. IsTextOf (problem_outline w.problem) (length ss) b x) (subst (λ z. IsTextOf (problem_outline f.asked.work.problem) (length f.asked.settings) z x) e h)

    -- the sections of a certificate are one
    same_sections : (x y : Sections) → HasTextOf (Some files) f.name f.asked.work.problem f.asked.settings x → HasTextOf (Some files) g.name g.asked.work.problem g.asked.settings y → x ≡ y
    same_sections x y h k =
        (one_text (problem_outline g.asked.work.problem) (length g.asked.settings) (length g.asked.settings) k.bytes x y
        (text_here x h.bytes k.bytes (same_bytes h.bytes k.bytes h.are_told k.are_told) h.text) k.text).0

    -- what is read isn't misread
    pub read_or_misread : (x : Sections) (section : ℕ) (fault : CertFault) → HasTextOf (Some files) f.name f.asked.work.problem f.asked.settings x
        → IsMisread (Some files) g.name g.asked.work.problem (length g.asked.settings) section fault → ⊥
    read_or_misread x section fault h k = k.misfit.no_text x (text_here x h.bytes k.bytes (same_bytes h.bytes k.bytes h.are_told k.are_told) h.text)

    -- what is misread is misread at one line
    misread_once : (m n : ℕ) (p q : CertFault) → IsMisread (Some files) f.name f.asked.work.problem (length f.asked.settings) m p
        → IsMisread (Some files) g.name g.asked.work.problem (length g.asked.settings) n q → (m ≡ n) × (p ≡ q)
    misread_once m n p q h k =
        let same = same_bytes h.bytes k.bytes h.are_told k.are_told in
        let here = moved (λ a ss. IsMisfit (problem_outline a.problem) (length ss) k.bytes h.line)
        (subst (λ z. IsMisfit (problem_outline f.asked.work.problem) (length f.asked.settings) z h.line) same h.misfit) in
        let line = one_line (problem_outline g.asked.work.problem) (length g.asked.settings) k.bytes h.line k.line here k.misfit in
        (h.none ∙ sym k.none, h.fault ∙ ap faults.Form line ∙ sym k.fault)

  module _ (c d : Command) (x y : Sections) (f : ReadsSections words (Some files) c x) (g : ReadsSections words (Some files) d y) where
    pub one_sections : x ≡ y
    one_sections = same_sections c d f.files g.files x y f.has g.has

    -- what holds of sections that are read
    pub read_so : (P : Work → List Pairs → Sections → Type 0) → P f.files.asked.work f.files.asked.settings x → P g.files.asked.work g.files.asked.settings y
    read_so P h = subst (λ (z : Sections). P g.files.asked.work g.files.asked.settings z) one_sections (moved c d f.files g.files (λ w ss. P w ss x) h)

    failed_once : (m n : ℕ) (p q : CertFault) → IsFirstRefused f.files.asked.work.problem f.files.asked.settings x.list m p
        → IsFirstRefused g.files.asked.work.problem g.files.asked.settings y.list n q → (m ≡ n) × (p ≡ q)
    failed_once m n p q h k =
        (refusals_are_one g.files.asked.work.problem g.files.asked.settings y.list).one m n p q (read_so (λ a ss z. IsFirstRefused a.problem ss z.list m p) h) k

    pub passed_or_failed : (n : ℕ) (q : CertFault) → ArePassed f.files.asked.work.problem f.files.asked.settings x.list
        → IsFirstRefused g.files.asked.work.problem g.files.asked.settings y.list n q → ⊥
    passed_or_failed n q h k = (refusals_are_one g.files.asked.work.problem g.files.asked.settings y.list).apart n q (read_so (λ a ss z. ArePassed a.problem ss z.list) h) k

    migrated_to_one : (a b : Sections) → IsMigrated f.files.asked.work.problem f.files.asked.settings x a → IsMigrated g.files.asked.work.problem g.files.asked.settings y b → a ≡ b
    migrated_to_one a b h k =
        migrations_are_one g.files.asked.work.problem g.files.asked.settings y a b (sym g.has.text.certificate.counted) (read_so (λ w ss z. IsMigrated w.problem ss z a) h) k

  -- ---- runs
  pub certified_once : (m n : ℕ) → IsCertifiedRun words (Some files) m → IsCertifiedRun words (Some files) n → m ≡ n
  certified_once m n h k =
      let same = one_sections (certify h.script h.settings h.name) (certify k.script k.settings k.name) h.sections k.sections h.passed.reads k.passed.reads in
      h.count ∙ ap (λ (s : Sections). count_by is_cert s.list) same ∙ sym k.count

  pub migrated_once : (bytes others : List ℕ) → IsMigrateRun words (Some files) bytes → IsMigrateRun words (Some files) others → bytes ≡ others
  migrated_once bytes others h k =
      let same = migrated_to_one (migrate h.script h.settings h.name) (migrate k.script k.settings k.name) h.sections k.sections h.passed.reads k.passed.reads h.migrated k.migrated h.are k.are in
      h.text ∙ ap cert_text same ∙ sym k.text

  -- ---- refusals
  refusal_once : (m n : ℕ) (p q : CertFault) → IsCertRefusedRun words (Some files) m p → IsCertRefusedRun words (Some files) n q → (m ≡ n) × (p ≡ q)
  refusal_once m n p q (misread c f h) (misread d g k) = misread_once c d f g m n p q h k
  refusal_once m n p q (misread c f h) (failed d y g k) = absurd (read_or_misread d c g.files f y m p g.has h)
  refusal_once m n p q (failed c x f h) (misread d g k) = absurd (read_or_misread c d f.files g x n q f.has k)
  refusal_once m n p q (failed c x f h) (failed d y g k) = failed_once c d x y f g m n p q h k

  pub cert_refused_once : (m n : ℕ) (p q : CertFault) → IsCertRefusedRun words (Some files) m p → IsCertRefusedRun words (Some files) n q → run.CertRefused m p ≡ run.CertRefused n q
  cert_refused_once m n p q h k =
      let both = refusal_once m n p q h k in
      λ i. run.CertRefused (both.0 i) (both.1 i)

  passed_or_refused : (c : Command) (x : Sections) (n : ℕ) (q : CertFault) → HasPassed words (Some files) c x → IsCertRefusedRun words (Some files) n q → ⊥
  passed_or_refused c x n q h (misread d g k) = read_or_misread c d h.reads.files g x n q h.reads.has k
  passed_or_refused c x n q h (failed d y g k) = passed_or_failed c d x y h.reads g n q h.passed k

  pub certified_or_refused : (m n : ℕ) (q : CertFault) → IsCertifiedRun words (Some files) m → IsCertRefusedRun words (Some files) n q → ⊥
  certified_or_refused m n q h k = passed_or_refused (certify h.script h.settings h.name) h.sections n q h.passed k

  pub migrated_or_refused : (bytes : List ℕ) (n : ℕ) (q : CertFault) → IsMigrateRun words (Some files) bytes → IsCertRefusedRun words (Some files) n q → ⊥
  migrated_or_refused bytes n q h k = passed_or_refused (migrate h.script h.settings h.name) h.sections n q h.passed k
