-- What is written as a certificate is accepted by `certify`.
use Rattle.std.proofs.Common.{◌≡◌, ◌⊎◌, inl, inr, ℕ, ◌<◌, ◌≤◌, Bool, List, [], length, get_or, count_by, Some, None, refl, sym, ap, subst, ◌∙◌, arith}
use Rattle.std.specs.List.{slice_get}
use Rattle.std.proofs.lemmas.Option.{none-some, same_Some, slice_get-get_or}
use Rattle.dcx_point.specs.Pairs.{Pairs}
use Rattle.dcx_tree.specs.declared.problem.Problem.{Problem}
use Rattle.dcx_tree.specs.Meaning.{IsAccepted}
use Rattle.dcx_declared.specs.Whole.{HasNoWhole}
use Rattle.dcx_host.specs.Files.{Files}
use Rattle.dcx_elab.specs.declared.work.Work.{Work}
use Rattle.dcx_answer.specs.declared.cert_fault.CertFault.{CertFault}
use Rattle.dcx_cert_sections.specs.declared.cert.Cert.TheVariants.{Optimal, Infeasible, Unbounded}
use Rattle.dcx_cert_sections.specs.declared.section.Section.{Section}
use Rattle.dcx_cert_sections.specs.declared.section.Section.TheVariants as part
use Rattle.dcx_cert_sections.specs.declared.section.Sections.{Sections}
use Rattle.dcx_cert_sections.specs.declared.section.Format.{Format}
use Rattle.dcx_cert_sections.specs.declared.section.Format.TheVariants.{Two}
use Rattle.dcx_cert_sections.specs.Shown.{IsSectionOf}
use Rattle.dcx_cert_sections.specs.Formats.{IsSectionOfFormat, AreOfFormat}
use Rattle.dcx_cert_outline.specs.Drawn.{problem_outline}
use Rattle.dcx_cert_lines.specs.CertText.{cert_text}
use Rattle.dcx_cert_lines.specs.Forms.{IsCertificateOf}
use Rattle.dcx_cert_complete.specs.Bounded.{IsWide}
use Rattle.dcx_cert_complete.proofs.Settings.{told_passes, told_shown}
use Rattle.dcx_cert_complete.proofs.Certified.{built_is_certified}
use Rattle.dcx_words.specs.Commands.{Command, check, certificate, certify, migrate, iis, range, command_of}
use Rattle.dcx_report.specs.declared.run.Run.{Run}
use Rattle.dcx_report.specs.declared.run.Run.TheVariants as run
use Rattle.dcx_top.specs.Checking.{is_cert, section_check, ArePassed, IsFirstRefused}
use Rattle.dcx_top.specs.Commands.{script_name, settings_name, certificate_name, AreOfFile}
use Rattle.dcx_top.specs.Migrating.{with_values}
use Rattle.dcx_top.specs.OneRun.{IsAnswered}
use Rattle.dcx_top.specs.Asked.{IsAcceptedWork}
use Rattle.dcx_top.specs.Runs.{IsCertificateRun, IsMigrateRun, HasCertificate, ReadsSections, misread, failed, Causes}
use Rattle.dcx_top.specs.Sections.{IsSectionAt}
use Rattle.dcx_top.specs.Verdicts.{IsRefusal, Has, long_certificate}
use Rattle.dcx_top.proofs.ByKind.{of_outcomes}
use Rattle.dcx_top.proofs.Named.{unasked}
use Rattle.dcx_top.proofs.OneCertificate.{read_or_misread, one_sections, read_so, passed_or_failed}
use Rattle.dcx_top.proofs.OneRefusal.{refused_or_read}
use Rattle.dcx_top.proofs.Passed.{at_place, each_migrated}
use Rattle.dcx_top.proofs.Refusals.{without_fault, of_other, refuses, for_length}
use Rattle.dcx_top.proofs.Shown.{certificates_are_of}
use Rattle.dcx_top.proofs.Verdict.{right_verdict}
use Rattle.dcx_run_laws.specs.Written.{RefusesLength, Certifies, RefusesWide, Rereads}
use Rattle.dcx_run_laws.specs.Written.{IsAcceptedOrWide, IsStillAccepted, AnswersAreAccepted, SectionsStayAccepted, WrittenCertificatesAreAccepted}

not_migrate : (a b c x y z : List ℕ) → migrate a b c ≡ certify x y z → ⊥
not_migrate a b c x y z e = cc

-- ---- a certificate that is read
-- what is told of sections: they pass, or one of them is the first that fails
data IsTried (p : Problem) (settings : List Pairs) (list : List Section) (r : Run) : Type 0 where
  passed : Certifies list r → ArePassed p settings list → IsTried p settings list r
  refused : (section : ℕ) (fault : CertFault) → r ≡ run.CertRefused section fault → IsFirstRefused p settings list section fault → IsTried p settings list r

-- words of a `certify` whose certificate has the text of these sections, for the accepted problem of its script at the settings of its file
record Reads (words : List (List ℕ)) (g : Files) (script settings text : List ℕ) (sections : Sections) : Type 0 where
  pub name : List ℕ
  pub form : command_of words ≡ Some (certify script settings name)
  pub there : g name ≡ Some text
  pub work : Work
  pub problem : IsAcceptedWork (Some g) (certify script settings name) work
  pub marks : HasNoWhole work.problem
  pub list : List Pairs
  pub are_of : AreOfFile (Some g) settings work.last list
  pub certificate : IsCertificateOf (problem_outline work.problem) (length list) sections
  pub is : text ≡ cert_text sections

module _ (words : List (List ℕ)) (g : Files) (script settings text : List ℕ) (sections : Sections) (h : Reads words g script settings text sections) where
  abbrev command : Command
  command = certify script settings h.name

  abbrev files_are : HasCertificate words (Some g) command
  files_are = record {
    name = h.name;
    named = refl;
    asked = record { form = h.form; work = h.work; problem = h.problem; marks = h.marks; settings = h.list; are_of = h.are_of };
  }

  abbrev reads : length text ≤ 67108864 → ReadsSections words (Some g) command sections
  reads few = record { files = files_are; has = record { bytes = text; are_told = h.there; few = few; text = record { certificate = h.certificate; text = h.is } } }

  -- the words are of no command without a certificate
  with_none : {A : Type 0} (c : Command) → command_of words ≡ Some c → certificate_name c ≡ None → A
  with_none c is none = absurd (none-some h.name (sym none ∙ ap certificate_name (same_Some c command (sym is ∙ h.form))))

  tried : length text ≤ 67108864 → (risen : Type 0) (old new : ℕ) (r : Run) → Causes words (Some g) risen old new r → IsAnswered r → IsTried h.work.problem h.list sections.list r
  tried few risen old new run.Usage k i = absurd (none-some command (sym k.0 ∙ h.form))
  tried few risen old new (run.Refused t) k i = absurd (refused_or_read words g t command sections k.0 (reads few))
  tried few risen old new (run.Checked c) k i = with_none (check k.0.script) k.0.form refl
  tried few risen old new (run.Solved w z os u) k i = with_none k.command k.asked.form (of_outcomes k.command k.asked.work.problem.sense k.outcomes k.warm (run.Solved w z os u) k.tells).certificate
  tried few risen old new (run.Certificates bytes stopped) (inl k) i = with_none (certificate k.script k.name k.limit) k.asked.form refl
  tried few risen old new (run.Certificates bytes stopped) (inr (k, off, still)) i =
      absurd (not_migrate k.script k.settings k.name script settings h.name (same_Some (migrate k.script k.settings k.name) command (sym k.passed.reads.files.asked.form ∙ h.form)))
  tried few risen old new (run.Certified n) (k, still) i =
      let c = certify k.script k.settings k.name in
      let same = one_sections words g c command k.sections sections k.passed.reads (reads few) in
      passed (ap run.Certified (k.count ∙ ap (λ (s : Sections). count_by is_cert s.list) same))
      (read_so words g c command k.sections sections k.passed.reads (reads few) (λ w ss z. ArePassed w.problem ss z.list) k.passed.passed)
  tried few risen old new (run.CertRefused m f) (misread c x k, still) i = absurd (read_or_misread words g command c files_are x sections m f (reads few).has k)
  tried few risen old new (run.CertRefused m f) (failed c others x first, still) i =
      refused m f refl (read_so words g c command others sections x (reads few) (λ w ss z. IsFirstRefused w.problem ss z.list m f) first)
  tried few risen old new (run.Trial n os) k i = with_none k.command k.asked.form (of_outcomes k.command k.asked.work.problem.sense k.outcomes k.warm (run.Trial n os) k.tells).certificate
  tried few risen old new (run.Filtered os) k i = with_none (iis k.script k.name k.limit) k.asked.form refl
  tried few risen old new (run.Ranged parameter z os) k i = with_none (range k.script k.name parameter k.limit) k.asked.form refl
  tried few risen old new run.ReadFault k i = absurd i
  tried few risen old new run.Memory k i = absurd i

  -- ---- its length
  has : Has g command h.problem.bytes h.are_of.bytes text
  has = record {
    is_script = h.problem.are_of;
    are_settings = λ n is. subst (λ z. g z ≡ Some h.are_of.bytes) (same_Some settings n is) h.are_of.are_told;
    is_certificate = λ n is. subst (λ z. g z ≡ Some text) (same_Some h.name n is) h.there;
  }

  -- what is refused is refused for the length of the certificate
  refused_so : (risen : Type 0) (old new : ℕ) (r : Run) → Causes words (Some g) risen old new r → IsRefusal r → RefusesLength r
  refused_so risen old new (run.Refused t) k i = (
    t,
    refl,
    (for_length g command h.work h.list t h.problem (λ refusing. h.marks) (unasked command h.work.problem refl) h.are_of (refuses words g command h.form t k.0)).refusal,
  )
  refused_so risen old new run.Usage k i = absurd i
  refused_so risen old new (run.Checked c) k i = absurd i
  refused_so risen old new (run.Solved w z os u) k i = absurd i
  refused_so risen old new (run.Certificates bytes stopped) k i = absurd i
  refused_so risen old new (run.Certified n) k i = absurd i
  refused_so risen old new (run.CertRefused m f) k i = absurd i
  refused_so risen old new (run.Trial n os) k i = absurd i
  refused_so risen old new (run.Filtered os) k i = absurd i
  refused_so risen old new (run.Ranged parameter z os) k i = absurd i
  refused_so risen old new run.ReadFault k i = absurd i
  refused_so risen old new run.Memory k i = absurd i

  too_long : 67108864 < length text → (risen : Type 0) (old new : ℕ) (r : Run) → Causes words (Some g) risen old new r → IsAnswered r → RefusesLength r
  too_long more risen old new r k i =
      refused_so risen old new r k ((right_verdict words (Some g) risen old new r k i command h.problem.bytes h.are_of.bytes text h.form has).refused.1
      (long_certificate (without_fault (Some g) command h.work h.problem) (λ n is. (h.are_of.lines, h.are_of.spelled)) (record { name = h.name; asked = refl; long = more })))

-- ---- a section that is built
-- fails with nothing but an operation that passes
section_wide : (p : Problem) (limit : ℕ) (s : Pairs) (x : Section) (fault : CertFault) → IsAccepted p → IsSectionAt p limit s x → (section_check p s x).fails fault → IsWide fault
section_wide p limit s (part.Cert cert) fault ok h k = (built_is_certified.solved p s limit h.program h.solved h.answer cert ok h.answered h.built).fails fault k
section_wide p limit s part.None fault ok h k = absurd k

-- ---- a section with the values of its setting
-- it is of the problem and of format 2, and passes
record IsStill (p : Problem) (s : Pairs) (x : Section) : Type 0 where
  pub of_problem : IsSectionOf (problem_outline p) x
  pub format : IsSectionOfFormat Two x
  pub passes : (section_check p s x).passes

still : (p : Problem) (s : Pairs) (x : Section) → IsSectionOf (problem_outline p) x → (section_check p s x).passes → IsStill p s (with_values p s x)
still p s (part.Cert (Optimal value point duals weights None)) h k = record {
  of_problem = record { variables = h.variables; constraints = h.constraints; atoms = h.atoms; parameters = told_shown p s k.0.0.0 };
  format = tt;
  passes = ((k.0.0, told_passes p s), k.1);
}
still p s (part.Cert (Optimal value point duals weights (Some values))) h k = record { of_problem = h; format = tt; passes = k }
still p s (part.Cert (Infeasible duals gap weights None)) h k = record {
  of_problem = record { constraints = h.constraints; atoms = h.atoms; parameters = told_shown p s k.0.0.0 };
  format = tt;
  passes = ((k.0.0, told_passes p s), k.1);
}
still p s (part.Cert (Infeasible duals gap weights (Some values))) h k = record { of_problem = h; format = tt; passes = k }
still p s (part.Cert (Unbounded point ray bound slope None)) h k = record {
  of_problem = record { variables = h.variables; ray_variables = h.ray_variables; parameters = told_shown p s k.0.0.0 };
  format = (tt, tt);
  passes = ((k.0.0, told_passes p s), k.1);
}
still p s (part.Cert (Unbounded point ray bound slope (Some values))) h k = record { of_problem = h; format = (tt, tt); passes = k }
still p s part.None h k = record { of_problem = tt; format = tt; passes = tt }

-- ---- what is written
module _ (writing reading : List (List ℕ)) (script settings : List ℕ) (f g : Files) (text : List ℕ) (back : Rereads reading f g script settings text) where
  -- the text of sections, for a problem and settings of the same script and settings file
  abbrev reads_of : (c : Command) (work : Work) (h : IsAcceptedWork (Some f) c work) → HasNoWhole work.problem → (other : List ℕ) (list : List Pairs) (are : AreOfFile (Some f) other work.last list)
      → f script ≡ Some h.bytes → f settings ≡ Some are.bytes → (sections : Sections) → IsCertificateOf (problem_outline work.problem) (length list) sections → text ≡ cert_text sections
      → Reads reading g script settings text sections
  reads_of c work h marks other list are scripts others sections of_problem is = record {
    name = back.name;
    form = back.form;
    there = back.there;
    work = work;
    problem = of_other (Some f) (Some g) c (certify script settings back.name) work h (back.same_script ∙ scripts);
    marks = marks;
    list = list;
    are_of = record { bytes = are.bytes; are_told = back.same_settings ∙ others; lines = are.lines; spelled = are.spelled; laid = are.laid };
    certificate = of_problem;
    is = is;
  }

  -- ---- of answers
  module _ (limit : ℕ) (wrote : command_of writing ≡ Some (certificate script settings limit)) (old new : ℕ) (stopped : Bool) (h : IsCertificateRun writing (Some f) old new text stopped) where
    same : certificate h.script h.name h.limit ≡ certificate script settings limit
    same = same_Some (certificate h.script h.name h.limit) (certificate script settings limit) (sym h.asked.form ∙ wrote)

    abbrev back_read : Reads reading g script settings text h.sections
    back_read =
        reads_of (certificate h.script h.name h.limit) h.asked.work h.asked.problem h.asked.marks h.name h.asked.settings h.asked.are_of
        (ap f (sym (same_Some h.script script (ap script_name same))) ∙ h.asked.problem.are_of) (ap f (sym (same_Some h.name settings (ap settings_name same))) ∙ h.asked.are_of.are_told) h.sections
        (certificates_are_of h.asked.work.problem h.limit h.asked.settings h.sections h.asked.problem.accepted h.are) h.text

    accepted_or_wide : (r : Run) → IsTried h.asked.work.problem h.asked.settings h.sections.list r
        → Certifies h.sections.list r ⊎ RefusesWide h.asked.work.problem h.asked.settings h.sections.list r
    accepted_or_wide r (passed is all) = inl is
    accepted_or_wide r (refused section fault is first) =
        let wide : IsWide fault = section_wide h.asked.work.problem h.limit first.setting first.section fault h.asked.problem.accepted
        (h.are.sections.each first.position first.setting first.section first.at_setting first.at_section) first.fails in
        inr (record {
          section = section;
          passes = wide.0;
          first = subst (IsFirstRefused h.asked.work.problem h.asked.settings h.sections.list section) wide.1 first;
          told = is ∙ ap (run.CertRefused section) wide.1;
        })

    answers_accepted : (risen : Type 0) (from to : ℕ) (r : Run) → Causes reading (Some g) risen from to r → IsAnswered r → IsAcceptedOrWide writing f old new text stopped r
    answers_accepted risen from to r k i = record {
      written = h;
      long = λ more. too_long reading g script settings text h.sections back_read more risen from to r k i;
      read = λ few. accepted_or_wide r (tried reading g script settings text h.sections back_read few risen from to r k i);
    }

  -- ---- of sections that passed
  module _ (name : List ℕ) (wrote : command_of writing ≡ Some (migrate script settings name)) (h : IsMigrateRun writing (Some f) text) where
    abbrev command_was : Command
    command_was = migrate h.script h.settings h.name

    abbrev p : Problem
    p = h.passed.reads.files.asked.work.problem

    abbrev ss : List Pairs
    ss = h.passed.reads.files.asked.settings

    same_words : command_was ≡ migrate script settings name
    same_words = same_Some command_was (migrate script settings name) (sym h.passed.reads.files.asked.form ∙ wrote)

    each_still : (k : ℕ) (s : Pairs) (y : Section) → slice_get ss k ≡ Some s → slice_get h.migrated.list k ≡ Some y → IsStill p s y
    each_still = each_migrated p ss h.sections h.migrated h.are (IsStill p)
        (λ k s x at here. still p s x (at_place (IsSectionOf (problem_outline p)) h.sections.list k x here h.passed.reads.has.text.certificate.shown) (h.passed.passed.each k s x at here))

    counted : length h.migrated.list ≡ length ss
    counted = h.are.count ∙ h.passed.passed.count

    still_at : (i : ℕ) (d : Section) → i < length h.migrated.list → IsStill p (get_or ss i []) (get_or h.migrated.list i d)
    still_at i d within =
        each_still i (get_or ss i []) (get_or h.migrated.list i d) (slice_get-get_or ss i [] (omega (arith, counted, within))) (slice_get-get_or h.migrated.list i d within)

    of_problem : IsCertificateOf (problem_outline p) (length ss) h.migrated
    of_problem = record {
      counted = counted;
      shown = λ i d within. (still_at i d within).of_problem;
      format = subst (λ (z : Format). AreOfFormat z h.migrated.list) (sym h.are.format) (λ i d within. (still_at i d within).format);
    }

    still_passed : ArePassed p ss h.migrated.list
    still_passed = record { count = counted; each = λ k s y at here. (each_still k s y at here).passes }

    abbrev read_back : Reads reading g script settings text h.migrated
    read_back =
        reads_of command_was h.passed.reads.files.asked.work h.passed.reads.files.asked.problem h.passed.reads.files.asked.marks h.settings ss h.passed.reads.files.asked.are_of
        (ap f (sym (same_Some h.script script (ap script_name same_words))) ∙ h.passed.reads.files.asked.problem.are_of)
        (ap f (sym (same_Some h.settings settings (ap settings_name same_words))) ∙ h.passed.reads.files.asked.are_of.are_told) h.migrated of_problem h.text

    accepted : length text ≤ 67108864 → (r : Run) → IsTried p ss h.migrated.list r → Certifies h.migrated.list r
    accepted few r (passed is all) = is
    accepted few r (refused section fault is first) =
        let x = reads reading g script settings text h.migrated read_back few in
        let c = certify script settings back.name in
        absurd (passed_or_failed reading g c c h.migrated h.migrated x x section fault still_passed first)

    sections_accepted : (risen : Type 0) (from to : ℕ) (r : Run) → Causes reading (Some g) risen from to r → IsAnswered r → IsStillAccepted writing f text r
    sections_accepted risen from to r k i = record {
      written = h;
      long = λ more. too_long reading g script settings text h.migrated read_back more risen from to r k i;
      read = λ few. accepted few r (tried reading g script settings text h.migrated read_back few risen from to r k i);
    }

-- ---- the law
-- words are of no command with a certificate and of one without
no_certificate : {A : Type 0} (c d : Command) (words : List (List ℕ)) (name : List ℕ) → command_of words ≡ Some c → command_of words ≡ Some d → certificate_name c ≡ None
    → certificate_name d ≡ Some name → A
no_certificate c d words name is also none named = absurd (none-some name (sym none ∙ ap certificate_name (same_Some c d (sym is ∙ also)) ∙ named))

of_answers : AnswersAreAccepted
of_answers writing reading script settings limit f g before now old new past later from to text stopped r wrote (inl h) back k i =
    answers_accepted writing reading script settings f g text back limit wrote old new stopped h _ from to r k i
of_answers writing reading script settings limit f g before now old new past later from to text stopped r wrote (inr (h, off, still)) back k i =
    no_certificate (certificate script settings limit) (migrate h.script h.settings h.name) writing h.name wrote h.passed.reads.files.asked.form refl refl

of_sections : SectionsStayAccepted
of_sections writing reading script settings name f g before now old new past later from to text stopped r wrote (inl h) back k i =
    no_certificate (certificate h.script h.name h.limit) (migrate script settings name) writing name h.asked.form wrote refl refl
of_sections writing reading script settings name f g before now old new past later from to text stopped r wrote (inr (h, off, still)) back k i =
    sections_accepted writing reading script settings f g text back name wrote h _ from to r k i

pub written_certificates_are_accepted : WrittenCertificatesAreAccepted
written_certificates_are_accepted = record { of_answers = of_answers; of_sections = of_sections }
