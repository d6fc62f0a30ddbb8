-- What one command refuses another one with the same files refuses too.
use Rattle.std.proofs.Common.{◌≡◌, ◌⊎◌, inl, inr, ℕ, List, Option, Some, refl, sym, subst, ◌∙◌}
use Rattle.std.proofs.lemmas.Option.{same_Some}
use Rattle.dcx_host.specs.Faults.{Rose}
use Rattle.dcx_host.specs.Files.{Files}
use Rattle.dcx_point.specs.Pairs.{Pairs}
use Rattle.dcx_elab.specs.declared.work.Work.{Work}
use Rattle.dcx_tree.specs.declared.problem.Problem.{Problem}
use Rattle.dcx_refusal.specs.declared.refusal.Refusal.{Refusal}
use Rattle.dcx_answer.specs.declared.cert_fault.CertFault.{CertFault}
use Rattle.dcx_cert_sections.specs.declared.section.Sections.{Sections}
use Rattle.dcx_report.specs.declared.run.Run.{Run}
use Rattle.dcx_report.specs.declared.run.Run.TheVariants as run
use Rattle.dcx_words.specs.Commands.{Command, certify, migrate, command_of}
use Rattle.dcx_top.specs.Commands.{IsScriptOf, script_name, settings_name, certificate_name, parameter_name, AreSettingsOf}
use Rattle.dcx_top.specs.Whole.{RefusesWhole, Takes}
use Rattle.dcx_top.specs.NoRange.{AllowsRange}
use Rattle.dcx_top.specs.Asked.{IsAcceptedWork}
use Rattle.dcx_top.specs.Runs.{HasCertificate, ReadsSections, IsCertRefusedRun, misread, failed, IsRefusedRun}
use Rattle.dcx_top.specs.Runs.{long_script, bad_script, for_whole, for_range, bad_settings, long_certificate, Causes}
use Rattle.dcx_top.specs.OneRun.{IsAnswered, AreOneRun, told_same, told_solved, told_tried, told_filtered, told_ranged}
use Rattle.dcx_top.specs.Migrated.{Refuses, MigrateRefusesAsCertify}
use Rattle.dcx_top.proofs.Refusals.{of_other}
use Rattle.dcx_top.proofs.OneRun.{only_run}

-- commands that read the same files and take the same problems
record Twins (a b : Command) : Type 0 where
  pub script : script_name b ≡ script_name a
  pub settings : settings_name b ≡ settings_name a
  pub certificate : certificate_name b ≡ certificate_name a
  pub parameter : parameter_name b ≡ parameter_name a
  pub scripts : (told : Option Files) (bytes : List ℕ) → IsScriptOf told a bytes → IsScriptOf told b bytes
  pub asks : (told : Option Files) (work : Work) (settings : List Pairs) → AreSettingsOf told a work settings → AreSettingsOf told b work settings
  pub whole : RefusesWhole a → RefusesWhole b
  pub takes : (p : Problem) → Takes a p → Takes b p
  pub allows : (p : Problem) → AllowsRange a p → AllowsRange b p

certify_migrate : (script settings name : List ℕ) → Twins (certify script settings name) (migrate script settings name)
certify_migrate script settings name = record {
  script = refl;
  settings = refl;
  certificate = refl;
  parameter = refl;
  scripts = λ told bytes h. h;
  asks = λ told work asked h. h;
  whole = λ h. h;
  takes = λ p h. h;
  allows = λ p h. h;
}

migrate_certify : (script settings name : List ℕ) → Twins (migrate script settings name) (certify script settings name)
migrate_certify script settings name = record {
  script = refl;
  settings = refl;
  certificate = refl;
  parameter = refl;
  scripts = λ told bytes h. h;
  asks = λ told work asked h. h;
  whole = λ h. h;
  takes = λ p h. h;
  allows = λ p h. h;
}

module _ (words other : List (List ℕ)) (told : Option Files) (a b : Command) (form : command_of words ≡ Some a) (meant : command_of other ≡ Some b) (twins : Twins a b) where
  twin : (command : Command) → command_of words ≡ Some command → Twins command b
  twin command is = subst (λ (c : Command). Twins c b) (same_Some a command (sym form ∙ is)) twins

  problem_moved : (command : Command) (x : Work) → command_of words ≡ Some command → IsAcceptedWork told command x → IsAcceptedWork told b x
  problem_moved command x is h = of_other told told command b x h ((twin command is).scripts told h.bytes h.are_of)

  abbrev files_moved : (command : Command) → HasCertificate words told command → HasCertificate other told b
  files_moved command h = record {
    name = h.name;
    named = (twin command h.asked.form).certificate ∙ h.named;
    asked = record {
      form = meant;
      work = h.asked.work;
      problem = problem_moved command h.asked.work h.asked.form h.asked.problem;
      marks = h.asked.marks;
      settings = h.asked.settings;
      are_of = (twin command h.asked.form).asks told h.asked.work h.asked.settings h.asked.are_of;
    };
  }

  abbrev reads_moved : (command : Command) (sections : Sections) → ReadsSections words told command sections → ReadsSections other told b sections
  reads_moved command sections h = record { files = files_moved command h.files; has = h.has }

  refused_moved : (r : Refusal) → IsRefusedRun words told r → IsRefusedRun other told r
  refused_moved r (long_script command name is named long) = long_script b name meant ((twin command is).script ∙ named) long
  refused_moved r (bad_script command bytes is of h) = bad_script b bytes meant ((twin command is).scripts told bytes of) h
  refused_moved r (for_whole command x is gives refuses h) = for_whole b x meant (problem_moved command x is gives) ((twin command is).whole refuses) h
  refused_moved r (for_range command x name is gives free named h) = for_range b x name meant (problem_moved command x is gives) free ((twin command is).parameter ∙ named) h
  refused_moved r (bad_settings command x name is gives takes allows named h) =
      let t = twin command is in
      bad_settings b x name meant (problem_moved command x is gives) (t.takes x.problem takes) (t.allows x.problem allows) (t.settings ∙ named) h
  refused_moved r (long_certificate command files long) = long_certificate b (files_moved command files) long

  cert_moved : (section : ℕ) (fault : CertFault) → IsCertRefusedRun words told section fault → IsCertRefusedRun other told section fault
  cert_moved section fault (misread command files h) = misread b (files_moved command files) h
  cert_moved section fault (failed command sections reads h) = failed b sections (reads_moved command sections reads) h

-- runs that tell the same are the same where one refuses
one_refusal : (r s : Run) → Refuses r → AreOneRun r s → r ≡ s
one_refusal r s h (told_same e) = e
one_refusal r s h (told_solved word sense os qs m n e k alike) = absurd (subst Refuses e h)
one_refusal r s h (told_tried size os qs e k alike) = absurd (subst Refuses e h)
one_refusal r s h (told_filtered os qs e k alike) = absurd (subst Refuses e h)
one_refusal r s h (told_ranged name sense os qs e k alike) = absurd (subst Refuses e h)

-- a run that refuses is the one run of the other words too
refused_alike : (words other : List (List ℕ)) (files : Files) (a b : Command) (before now old new past later from to : ℕ) (r s : Run) → command_of words ≡ Some a → command_of other ≡ Some b
    → Twins a b → Causes words (Some files) (Rose before now) old new r
    → Causes other (Some files) (Rose past later) from to s → IsAnswered r → IsAnswered s → Refuses r → r ≡ s
refused_alike words other files a b before now old new past later from to (run.Refused t) s form meant twins h k i j is =
    one_refusal (run.Refused t) s tt (only_run other (Some files) (Rose before now) from from (run.Refused t) (
      refused_moved words other (Some files) a b form meant twins t h.0,
      inl refl,
    ) tt s past later from to k j)
refused_alike words other files a b before now old new past later from to (run.CertRefused section fault) s form meant twins h k i j is =
    one_refusal (run.CertRefused section fault) s tt
    (only_run other (Some files) (Rose before now) from from (run.CertRefused section fault)
    (cert_moved words other (Some files) a b form meant twins section fault h.0, refl) tt s past later from to k j)
refused_alike words other files a b before now old new past later from to run.Usage s form meant twins h k i j is = absurd is
refused_alike words other files a b before now old new past later from to (run.Checked c) s form meant twins h k i j is = absurd is
refused_alike words other files a b before now old new past later from to (run.Solved word sense outcomes warm) s form meant twins h k i j is = absurd is
refused_alike words other files a b before now old new past later from to (run.Certificates text stopped) s form meant twins h k i j is = absurd is
refused_alike words other files a b before now old new past later from to (run.Certified n) s form meant twins h k i j is = absurd is
refused_alike words other files a b before now old new past later from to (run.Trial size outcomes) s form meant twins h k i j is = absurd is
refused_alike words other files a b before now old new past later from to (run.Filtered outcomes) s form meant twins h k i j is = absurd is
refused_alike words other files a b before now old new past later from to (run.Ranged parameter sense outcomes) s form meant twins h k i j is = absurd is
refused_alike words other files a b before now old new past later from to run.ReadFault s form meant twins h k i j is = absurd is
refused_alike words other files a b before now old new past later from to run.Memory s form meant twins h k i j is = absurd is

pub migrate_refuses_as_certify : MigrateRefusesAsCertify
migrate_refuses_as_certify = λ certifying migrating script settings name files before now old new past later from to c m form meant h k i j which.
    by certifying migrating script settings name files before now old new past later from to c m form meant h k i j which
  where
    by : (certifying migrating : List (List ℕ)) (script settings name : List ℕ) (files : Files) (before now old new past later from to : ℕ) (c m : Run)
        → command_of certifying ≡ Some (certify script settings name)
        → command_of migrating ≡ Some (migrate script settings name) → Causes certifying (Some files) (Rose before now) old new c → Causes migrating (Some files) (Rose past later) from to m
        → IsAnswered c → IsAnswered m
        → Refuses c ⊎ Refuses m → c ≡ m
    by certifying migrating script settings name files before now old new past later from to c m form meant h k i j (inl is) =
        refused_alike certifying migrating files (certify script settings name) (migrate script settings name) before now old new past later from to c m form meant
        (certify_migrate script settings name) h k i j is
    by certifying migrating script settings name files before now old new past later from to c m form meant h k i j (inr is) =
        sym (refused_alike migrating certifying files (migrate script settings name) (certify script settings name) past later from to before now old new m c meant form
        (migrate_certify script settings name) k h j i is)
