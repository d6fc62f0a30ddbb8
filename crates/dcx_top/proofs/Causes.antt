-- What each command gives has its cause.
use Rattle.std.proofs.Common.{◌≡◌, ◌↔◌, ◌⊎◌, ◌∙◌, ◌≤◌, ◌+◌, ◌*◌, length, count_by, None, inl, inr, ℕ, Bool, true, false, IsTrue, List, [], Option, Some, Ok, Err, refl, sym, ap, subst, arith}
use Rattle.std.specs.Prelude.{⊤}
use Rattle.std.proofs.lemmas.Option.{none-some}
use Rattle.dcx_point.specs.Pairs.{Pairs}
use Rattle.dcx_tree.specs.declared.problem.Problem.{Problem}
use Rattle.dcx_elab.specs.declared.work.Work.{Work}
use Rattle.dcx_answer.specs.declared.cert_fault.CertFault.{CertFault}
use Rattle.dcx_cert_sections.specs.declared.section.Sections.{Sections}
use Rattle.dcx_answer.specs.declared.cert_fault.CertFault.TheVariants as faults
use Rattle.dcx_cert_sections.specs.declared.section.Section.{Section}
use Rattle.dcx_cert_lines.specs.CertText.{cert_text}
use Rattle.dcx_outcomes.specs.Programs.{HasMap}
use Rattle.dcx_outcomes.specs.Counts.{Counts}
use Rattle.dcx_outcomes.proofs.Counting.{begun_no_more}
use Rattle.dcx_outcomes.specs.Warm.{AreFound}
use Rattle.dcx_cert_runs.specs.Sections.{StopsSomewhere, IsCertificateAt}
use Rattle.dcx_cert_runs.specs.Checking.{is_cert, ArePassed, IsFirstRefused}
use Rattle.dcx_cert_runs.specs.Migrating.{IsMigrated}
use Rattle.dcx_host.specs.Files.{Files, IsTold}
use Rattle.dcx_front.specs.declared.accepted.Accepted.{Accepted}
use Rattle.dcx_refusal.specs.declared.checked.Checked.{Checked}
use Rattle.dcx_front.specs.declared.fault.FrontFault.{FrontFault}
use Rattle.dcx_front.specs.declared.fault.FrontFault.TheVariants as front
use Rattle.dcx_refusal.specs.declared.refusal.Refusal.{Refusal}
use Rattle.dcx_refusal.specs.declared.refusal.RefusalSource.TheVariants.{Script, Settings}
use Rattle.dcx_front.specs.Checks.{IsFoundOf}
use Rattle.dcx_front.specs.Accepts.{Gives, IsJudged}
use Rattle.dcx_front.proofs.OneVerdict.{acceptance}
use Rattle.dcx_answer.specs.declared.outcome.Outcome.{Outcome}
use Rattle.dcx_report.specs.declared.run.Run.{Run}
use Rattle.dcx_report.specs.declared.run.Run.TheVariants as run
use Rattle.dcx_report.specs.declared.run.Word.TheVariants as word
use Rattle.dcx_words.specs.Commands.{Command, check, solve, resolve, certificate, certify, migrate, trial, iis, range, command_of}
use Rattle.dcx_words.specs.Laws.{is_warm_command}
use Rattle.dcx_trial.specs.Trial.{trial_text}
use Rattle.dcx_top.specs.Commands.{IsScriptOf, script_name, settings_name, certificate_name, parameter_name, AreOfFile, AreSettingsOf, limit_of, TellsOutcomes}
use Rattle.dcx_top.specs.Files.{RefusesScript, RefusesSettings, HasTextOf}
use Rattle.dcx_top.specs.Reading.{run_of, EndsAt, refused_at, ReadsCertificate}
use Rattle.dcx_top.specs.Asked.{IsAcceptedWork, Asked}
use Rattle.dcx_top.specs.Runs.{IsSolvedRun, HasCertificate, ReadsSections, HasPassed, misread, failed, long_script, bad_script, for_whole, for_range}
use Rattle.dcx_top.specs.Runs.{bad_settings, long_certificate, no_script, no_settings, no_certificate, CountsAtMostBeginning, CountsAtMost, none, beginning, solving, Causes}
use Rattle.dcx_top.specs.Solving.{OrWhole, SolvesAt, SolvesUnder, TriesAt, CertifiesAt, DoesAt, DoesFrom, task_refuses, command_for, RangesFrom, lacking, ending, ranging, wanting}
use Rattle.dcx_top.specs.Certifying.{GivesSettings, GivesSections, EndsFiles, at_script, at_whole, at_settings, at_certificate, at_memory}
use Rattle.dcx_top.proofs.Counting.{no_more_of}
use Rattle.dcx_top.proofs.Reading.{told_fault}
use Rattle.dcx_top.specs.NoRange.{AllowsRange}
use Rattle.dcx_top.proofs.ByKind.{of_outcomes}
use Rattle.dcx_top.proofs.Named.{unasked, allowed, allowed_reading}
use Rattle.dcx_declared.specs.Whole.{HasNoWhole}
use Rattle.dcx_top.specs.Whole.{IsRefusedForWhole, RefusesWhole, Takes}
use Rattle.dcx_top.specs.Ended.{IsToldOf}
use Rattle.dcx_top.specs.declared.solving.Task.{Task}
use Rattle.dcx_top.specs.declared.solving.Task.TheVariants as tasks

-- a script whose bytes give an accepted problem
pub accepted_work : (told : Option Files) (command : Command) (bytes : List ℕ) (a : Accepted) → IsScriptOf told command bytes → Gives bytes (Ok a) → IsAcceptedWork told command a.work
accepted_work told command bytes a of gives =
    let h = acceptance bytes a gives in
    record { bytes = bytes; are_of = of; script = h.script; spelled = h.spelled; stands_for = h.stands_for; accepted = h.judged.accepted; convex = h.judged.convex }

-- what words ask of an accepted problem
abbrev asked_of : (words : List (List ℕ)) (told : Option Files) (command : Command) (Marks : Problem → Type 0) (work : Work) (settings : List Pairs) → command_of words ≡ Some command
    → IsAcceptedWork told command work → Marks work.problem → AreSettingsOf told command work settings → Asked words told command Marks
asked_of words told command Marks work settings form problem marks are = record { form = form; work = work; problem = problem; marks = marks; settings = settings; are_of = are }

pub judged_of : (bytes : List ℕ) (a : Accepted) → Gives bytes (Ok a) → IsJudged a.work.problem a.verdict
judged_of bytes a g = (acceptance bytes a g).judged

-- ---- steps
at_most_beginning : (words : List (List ℕ)) (told : Option Files) (old new : ℕ) → CountsAtMostBeginning words told old new → CountsAtMost words told old new
at_most_beginning words told old new (inl same) = none same
at_most_beginning words told old new (inr h) =
    beginning (range h.script h.name h.parameter h.limit) h.work h.parameter h.form h.problem refl (no_more_of h.work.problem 0 old new h.steps)

module _ (words : List (List ℕ)) (told : Option Files) (risen : Type 0) (command : Command) (form : command_of words ≡ Some command) where
  -- ---- the script ends the run
  pub script_ends : (name : List ℕ) (n : ℕ) (r : Run) → script_name command ≡ Some name → ((bytes : List ℕ) → IsTold told name bytes → IsScriptOf told command bytes)
      → EndsAt told risen Script name RefusesScript r
      → Causes words told risen n n r
  script_ends name n run.ReadFault is of h = (no_script command name form is h, inl refl)
  script_ends name n (run.Refused r) is of (inl long) = (long_script command name form is long, inl refl)
  script_ends name n (run.Refused r) is of (inr (bytes, there, h)) = (bad_script command bytes form (of bytes there) h, inl refl)
  script_ends name n run.Memory is of h = none refl
  script_ends name n run.Usage is of h = absurd h
  script_ends name n (run.Checked c) is of h = absurd h
  script_ends name n (run.Solved word sense outcomes warm) is of h = absurd h
  script_ends name n (run.Certificates text stopped) is of h = absurd h
  script_ends name n (run.Certified sections) is of h = absurd h
  script_ends name n (run.CertRefused section fault) is of h = absurd h
  script_ends name n (run.Trial size outcomes) is of h = absurd h
  script_ends name n (run.Filtered outcomes) is of h = absurd h
  script_ends name n (run.Ranged parameter sense outcomes) is of h = absurd h

  -- a script that is made, and not fetched
  pub made_ends : (bytes : List ℕ) (n : ℕ) (fault : FrontFault) → IsScriptOf told command bytes → Gives bytes (Err fault) → Causes words told risen n n (run_of fault)
  made_ends bytes n (front.Refused r) of h = (bad_script command bytes form of h, inl refl)
  made_ends bytes n front.Memory of h = none refl

  module _ (a : Work) (gives : IsAcceptedWork told command a) where
    -- ---- a variable that is to be whole ends it
    pub whole_ends : (old new : ℕ) (r : Run) → RefusesWhole command → (t : Refusal) × IsRefusedForWhole a.problem t × (r ≡ run.Refused t) × (new ≡ old) → Causes words told risen old new r
    whole_ends old new r refusing (t, h, e, same) =
        subst (Causes words told risen old new) (sym e) (for_whole command a form gives refusing h, inl same)

    -- ---- the settings file ends it
    -- behind the steps of a session's beginning, where one was begun
    pub settings_end : (taken : Takes command a.problem) (allows : AllowsRange command a.problem) (name : List ℕ) (old new : ℕ) (r : Run) → CountsAtMostBeginning words told old new
        → settings_name command ≡ Some name
        → EndsAt told risen Settings name RefusesSettings r → Causes words told risen old new r
    settings_end taken allows name old new run.ReadFault steps is h = (no_settings command a name form gives taken allows is h, steps)
    settings_end taken allows name old new (run.Refused r) steps is h = (bad_settings command a name form gives taken allows is h, steps)
    settings_end taken allows name old new run.Memory steps is h = at_most_beginning words told old new steps
    settings_end taken allows name old new run.Usage steps is h = absurd h
    settings_end taken allows name old new (run.Checked c) steps is h = absurd h
    settings_end taken allows name old new (run.Solved word sense outcomes warm) steps is h = absurd h
    settings_end taken allows name old new (run.Certificates text stopped) steps is h = absurd h
    settings_end taken allows name old new (run.Certified sections) steps is h = absurd h
    settings_end taken allows name old new (run.CertRefused section fault) steps is h = absurd h
    settings_end taken allows name old new (run.Trial size outcomes) steps is h = absurd h
    settings_end taken allows name old new (run.Filtered outcomes) steps is h = absurd h
    settings_end taken allows name old new (run.Ranged parameter sense outcomes) steps is h = absurd h

    -- ---- the problem is solved
    module _ (settings : List Pairs) (asked : AreSettingsOf told command a settings) (tells : List Outcome → Option ℕ → Run)
        (takes : Takes command a.problem) (told_so : (outcomes : List Outcome) (count : Option ℕ) → TellsOutcomes command a.problem.sense outcomes count (tells outcomes count)) where
      abbrev solved_run : (old new : ℕ) (outcomes : List Outcome) (count : Option ℕ) → AreFound (is_warm_command command) a.problem (limit_of command) settings outcomes count
          → Counts a.problem (length settings) old new
          → IsSolvedRun words told old new (tells outcomes count)
      solved_run old new outcomes count are steps = record {
        command = command;
        asked = asked_of words told command (Takes command) a settings form gives takes asked;
        outcomes = outcomes;
        warm = count;
        are = are;
        tells = told_so outcomes count;
        steps = steps;
      }

      pub solved_so : (old new : ℕ) (r : Run) → ((outcomes : List Outcome) (count : Option ℕ) → IsSolvedRun words told old new (tells outcomes count)
          → Causes words told risen old new (tells outcomes count))
          → SolvesAt (is_warm_command command) a.problem (limit_of command) settings tells old new r → Causes words told risen old new r
      solved_so old new r caused (inl (e, few)) =
          subst (Causes words told risen old new) (sym e) (solving command a settings form gives (of_outcomes command a.problem.sense [] None (tells [] None) (told_so [] None)).certificate asked few)
      solved_so old new r caused (inr (outcomes, count, are, steps, e)) = subst (Causes words told risen old new) (sym e) (caused outcomes count (solved_run old new outcomes count are steps))

-- ---- a certificate that is read
module _ (words : List (List ℕ)) (told : Option Files) (risen : Type 0) (command : Command) (form : command_of words ≡ Some command) (script name file : List ℕ)
    (scripted : script_name command ≡ Some script) (set : settings_name command ≡ Some name) (named : certificate_name command ≡ Some file) (refuses : RefusesWhole command)
    (of : (bytes : List ℕ) → IsTold told script bytes → IsScriptOf told command bytes)
    (asks : (work : Work) (settings : List Pairs) → AreOfFile told name work.last settings → AreSettingsOf told command work settings) where
  abbrev has_certificate : (a : Accepted) (settings : List Pairs) → GivesSettings told script name a settings → HasCertificate words told command
  has_certificate a settings h = record {
    name = file;
    named = named;
    asked = asked_of words told command HasNoWhole a.work settings form (accepted_work told command h.bytes a (of h.bytes h.are_told) h.gives) h.continuous (asks a.work settings h.asked);
  }

  certificate_ends : (a : Accepted) (settings : List Pairs) (n : ℕ) (r : Run) → GivesSettings told script name a settings → ReadsCertificate told risen file a.work.problem (length settings) (Err r)
      → Causes words told risen n n r
  certificate_ends a settings n run.ReadFault g h = (no_certificate command (has_certificate a settings g) h, inl refl)
  certificate_ends a settings n (run.Refused r) g (inl long) = (long_certificate command (has_certificate a settings g) long, inl refl)
  certificate_ends a settings n (run.Refused r) g (inr (bytes, there, h)) = absurd h
  certificate_ends a settings n (run.CertRefused section fault) g h = (misread command (has_certificate a settings g) h, refl)
  certificate_ends a settings n run.Memory g h = none refl
  certificate_ends a settings n run.Usage g h = absurd h
  certificate_ends a settings n (run.Checked c) g h = absurd h
  certificate_ends a settings n (run.Solved word sense outcomes warm) g h = absurd h
  certificate_ends a settings n (run.Certificates text stopped) g h = absurd h
  certificate_ends a settings n (run.Certified sections) g h = absurd h
  certificate_ends a settings n (run.Trial size outcomes) g h = absurd h
  certificate_ends a settings n (run.Filtered outcomes) g h = absurd h
  certificate_ends a settings n (run.Ranged parameter sense outcomes) g h = absurd h

  -- one of the files ends the run
  pub files_end : (n : ℕ) (r : Run) → EndsFiles told risen script name file r → Causes words told risen n n r
  files_end n r (at_script h) = script_ends words told risen command form script n r scripted of h
  files_end n r (at_whole a bytes t there gives h e) = whole_ends words told risen command form a.work (accepted_work told command bytes a (of bytes there) gives) n n r refuses (t, h, e, refl)
  files_end n r (at_settings a bytes there gives free h) =
      settings_end words told risen command form a.work (accepted_work told command bytes a (of bytes there) gives) (λ refusing. free)
      (allowed_reading command a.work.problem file named) name n n r (inl refl) set h
  files_end n r (at_certificate a settings g h) = certificate_ends a settings n r g h
  files_end n r (at_memory e) = subst (Causes words told risen n n) (sym e) (none refl)

  -- the sections are read
  abbrev pub reads_sections : (p : Problem) (settings : List Pairs) (sections : Sections) (g : GivesSections told script name file p settings sections) → ReadsSections words told command sections
  reads_sections p settings sections g = record {
    files = has_certificate g.accepted settings g.files;
    has = subst (λ (q : Problem). HasTextOf told file q settings sections) (sym g.is_of) g.has;
  }

  -- and a first one fails
  pub section_fails : (p : Problem) (settings : List Pairs) (sections : Sections) (number n : ℕ) (fault : CertFault) → GivesSections told script name file p settings sections
      → IsFirstRefused p settings sections.list number fault
      → Causes words told risen n n (run.CertRefused number fault)
  section_fails p settings sections number n fault g h =
      (failed command sections (reads_sections p settings sections g) (subst (λ (q : Problem). IsFirstRefused q settings sections.list number fault) (sym g.is_of) h), refl)

  section_tells : (p : Problem) (settings : List Pairs) (sections : Sections) (list : List Section) (number n : ℕ) (fault : CertFault) (r : Run)
      → GivesSections told script name file p settings sections → list ≡ sections.list
      → IsFirstRefused p settings list number fault → r ≡ refused_at number fault → (refused_at number fault ≡ run.Memory) ⊎ (refused_at number fault ≡ run.CertRefused number fault)
      → Causes words told risen n n r
  section_tells p settings sections list number n fault r g same h is (inl e) = subst (Causes words told risen n n) (sym (is ∙ e)) (none refl)
  section_tells p settings sections list number n fault r g same h is (inr e) =
      subst (Causes words told risen n n) (sym (is ∙ e)) (section_fails p settings sections number n fault g (subst (λ xs. IsFirstRefused p settings xs number fault) same h))

  -- it is told with its fault, or memory is wanting
  pub section_told : (p : Problem) (settings : List Pairs) (sections : Sections) (list : List Section) (number n : ℕ) (fault : CertFault) (r : Run)
      → GivesSections told script name file p settings sections → list ≡ sections.list
      → (fault ≡ faults.Memory) ⊎ IsFirstRefused p settings list number fault → r ≡ refused_at number fault → Causes words told risen n n r
  section_told p settings sections list number n fault r g same (inl e) is = subst (Causes words told risen n n) (sym (is ∙ ap (refused_at number) e)) (none refl)
  section_told p settings sections list number n fault r g same (inr h) is = section_tells p settings sections list number n fault r g same h is (told_fault number fault)

  -- or all pass
  abbrev pub sections_pass : (p : Problem) (settings : List Pairs) (sections : Sections) → GivesSections told script name file p settings sections → ArePassed p settings sections.list
      → HasPassed words told command sections
  sections_pass p settings sections g h = record {
    reads = reads_sections p settings sections g;
    passed = subst (λ (q : Problem). ArePassed q settings sections.list) (sym g.is_of) h;
  }

-- ---- a certificate that is written
-- it is told, or memory is wanting
told_at : (p : Problem) (limit : ℕ) (settings : List Pairs) (c : Sections) (stopped : Bool) (old new : ℕ) (r : Run) → IsCertificateAt p limit settings c
    → (IsTrue stopped ↔ StopsSomewhere p limit settings) → Counts p (length settings) old new
    → (r ≡ run.Memory) ⊎ (r ≡ run.Certificates (cert_text c) stopped) → CertifiesAt p limit settings old new r
told_at p limit settings c stopped old new r is flag steps (inl e) = inl (e, no_more_of p (length settings) old new steps)
told_at p limit settings c stopped old new r is flag steps (inr e) = inr (c, stopped, is, flag, steps, e)

pub certificate_at : (p : Problem) (limit : ℕ) (settings : List Pairs) (c : Sections) (stopped : Bool) (old new : ℕ) (r : Run) → IsCertificateAt p limit settings c
    → (IsTrue stopped ↔ StopsSomewhere p limit settings)
    → (HasMap p → new ≡ old + length p.tree) → new ≤ old + length p.tree + length settings * length p.tree → (r ≡ run.Memory) ⊎ (r ≡ run.Certificates (cert_text c) stopped)
    → CertifiesAt p limit settings old new r
certificate_at p limit settings c stopped old new r is flag mapped anew h = told_at p limit settings c stopped old new r is flag (record { mapped = mapped; anew = anew }) h

-- ---- what is asked is done
pub task_done : (work : Work) (limit : ℕ) (settings : List Pairs) (asked task : Task) (old new : ℕ) (r : Run) → asked ≡ task → DoesAt task work limit settings old new r
    → DoesAt asked work limit settings old new r
task_done work limit settings asked task old new r is h = subst (λ (t : Task). DoesAt t work limit settings old new r) (sym is) h

-- ---- command by command
-- what is asked at the settings of a file
pub task_script : (task : Task) (script name : List ℕ) (limit : ℕ) (told : Option Files) (bytes : List ℕ) → IsTold told script bytes → IsScriptOf told (command_for task script name limit) bytes
task_script (tasks.Resolve warm) script name limit told bytes h = h
task_script tasks.Certificate script name limit told bytes h = h
task_script tasks.Filter script name limit told bytes h = h

pub task_script_name : (task : Task) (script name : List ℕ) (limit : ℕ) → script_name (command_for task script name limit) ≡ Some script
task_script_name (tasks.Resolve warm) script name limit = refl
task_script_name tasks.Certificate script name limit = refl
task_script_name tasks.Filter script name limit = refl

task_settings : (task : Task) (script name : List ℕ) (limit : ℕ) → settings_name (command_for task script name limit) ≡ Some name
task_settings (tasks.Resolve warm) script name limit = refl
task_settings tasks.Certificate script name limit = refl
task_settings tasks.Filter script name limit = refl

task_unasked : (task : Task) (script name : List ℕ) (limit : ℕ) → parameter_name (command_for task script name limit) ≡ None
task_unasked (tasks.Resolve warm) script name limit = refl
task_unasked tasks.Certificate script name limit = refl
task_unasked tasks.Filter script name limit = refl

-- a task refuses a problem with a variable that is to be whole where its command does
task_refused : (task : Task) (script name : List ℕ) (limit : ℕ) → IsTrue (task_refuses task) → RefusesWhole (command_for task script name limit)
task_refused (tasks.Resolve false) script name limit t = let f : false ≡ true = t in absurd (cc)
task_refused (tasks.Resolve true) script name limit t = tt
task_refused tasks.Certificate script name limit t = tt
task_refused tasks.Filter script name limit t = tt

task_takes : (task : Task) (script name : List ℕ) (limit : ℕ) (p : Problem) → (IsTrue (task_refuses task) → HasNoWhole p) → Takes (command_for task script name limit) p
task_takes (tasks.Resolve false) script name limit p h t = absurd t
task_takes (tasks.Resolve true) script name limit p h t = h refl
task_takes tasks.Certificate script name limit p h t = h refl
task_takes tasks.Filter script name limit p h t = h refl

module _ (words : List (List ℕ)) (told : Option Files) (risen : Type 0) where
  pub checked : (script bytes : List ℕ) (a : Accepted) (c : Checked) (n : ℕ) → command_of words ≡ Some (check script) → IsTold told script bytes → Gives bytes (Ok a) → IsFoundOf a.work.problem c
      → Causes words told risen n n (run.Checked c)
  checked script bytes a c n form there gives found =
      (record { script = script; form = form; work = a.work; problem = accepted_work told (check script) bytes a there gives; found = found }, refl)

  pub solved : (script bytes : List ℕ) (limit : ℕ) (a : Accepted) (old new : ℕ) (r : Run) → command_of words ≡ Some (solve script limit) → IsTold told script bytes → Gives bytes (Ok a) →
      SolvesUnder word.Solve false a.work.problem limit a.work.events old new r → Causes words told risen old new r
  solved script bytes limit a old new r form there gives h =
      solved_so words told risen (solve script limit) form a.work (accepted_work told (solve script limit) bytes a there gives) a.work.events refl
      (λ os count. run.Solved word.Solve a.work.problem.sense os count) (λ refusing. absurd refusing) (λ os count. refl) old new r (λ os count k. k) h

  -- ---- what is asked at the settings of a file
  does_at : (task : Task) (script name bytes : List ℕ) (limit : ℕ) (a : Accepted) (settings : List Pairs) (old new : ℕ) (r : Run) → command_of words ≡ Some (command_for task script name limit)
      → IsTold told script bytes → Gives bytes (Ok a)
      → (IsTrue (task_refuses task) → HasNoWhole a.work.problem) → AreOfFile told name a.work.last settings → DoesAt task a.work limit settings old new r → Causes words told risen old new r
  does_at (tasks.Resolve warm) script name bytes limit a settings old new r form there gives free are h =
      solved_so words told risen (resolve script name limit warm) form a.work (accepted_work told (resolve script name limit warm) bytes a there gives) settings are
      (λ os count. run.Solved word.Setting a.work.problem.sense os count) (task_takes (tasks.Resolve warm) script name limit a.work.problem free)
      (λ os count. refl) old new r (λ os count k. k) h
  does_at tasks.Certificate script name bytes limit a settings old new r form there gives free are (inl (e, few)) =
      subst (Causes words told risen old new) (sym e) (solving (certificate script name limit) a.work settings form
      (accepted_work told (certificate script name limit) bytes a there gives) refl are few)
  does_at tasks.Certificate script name bytes limit a settings old new r form there gives free are (inr (c, stopped, is, flag, steps, e)) =
      subst (Causes words told risen old new) (sym e) (inl (record {
        script = script;
        name = name;
        limit = limit;
        asked = asked_of words told (certificate script name limit) HasNoWhole a.work settings form (accepted_work told (certificate script name limit) bytes a there gives) (free refl) are;
        sections = c;
        are = is;
        flag = flag;
        text = refl;
        steps = steps;
      }))
  does_at tasks.Filter script name bytes limit a settings old new r form there gives free are (inl (e, few)) =
      subst (Causes words told risen old new) (sym e) (solving (iis script name limit) a.work settings form (accepted_work told (iis script name limit) bytes a there gives) refl are few)
  does_at tasks.Filter script name bytes limit a settings old new r form there gives free are (inr (outcomes, is, steps, e)) =
      subst (Causes words told risen old new) (sym e) (record {
        script = script;
        name = name;
        limit = limit;
        asked = asked_of words told (iis script name limit) HasNoWhole a.work settings form (accepted_work told (iis script name limit) bytes a there gives) (free refl) are;
        are = is;
        steps = steps;
      })

  pub done : (task : Task) (script name bytes : List ℕ) (limit : ℕ) (a : Accepted) (old new : ℕ) (r : Run) → command_of words ≡ Some (command_for task script name limit) → IsTold told script bytes
      → Gives bytes (Ok a)
      → OrWhole (IsTrue (task_refuses task)) a.work.problem (DoesFrom told risen task a.work name limit old new) old new r → Causes words told risen old new r
  done task script name bytes limit a old new r form there gives h = by h
    where
      problem : IsAcceptedWork told (command_for task script name limit) a.work
      problem = accepted_work told (command_for task script name limit) bytes a (task_script task script name limit told bytes there) gives

      by : OrWhole (IsTrue (task_refuses task)) a.work.problem (DoesFrom told risen task a.work name limit old new) old new r → Causes words told risen old new r
      by (inl (free, inl (settings, are, k))) = does_at task script name bytes limit a settings old new r form there gives free are k
      by (inl (free, inr (k, same))) =
          settings_end words told risen (command_for task script name limit) form a.work problem (task_takes task script name limit a.work.problem free)
          (unasked (command_for task script name limit) a.work.problem (task_unasked task script name limit)) name old new r (inl same) (task_settings task script name limit) k
      by (inr (refuses, k)) = whole_ends words told risen (command_for task script name limit) form a.work problem old new r (task_refused task script name limit refuses) k

  -- ---- the range of a parameter
  begun : (script name parameter bytes : List ℕ) (limit : ℕ) (a : Accepted) (old new : ℕ) → command_of words ≡ Some (range script name parameter limit) → IsTold told script bytes
      → Gives bytes (Ok a) → HasNoWhole a.work.problem
      → Counts a.work.problem 0 old new → CountsAtMostBeginning words told old new
  begun script name parameter bytes limit a old new form there gives continuous steps = inr (record {
    script = script;
    name = name;
    parameter = parameter;
    limit = limit;
    form = form;
    work = a.work;
    problem = accepted_work told (range script name parameter limit) bytes a there gives;
    continuous = continuous;
    steps = steps;
  })

  pub ranged : (script name parameter bytes : List ℕ) (limit : ℕ) (a : Accepted) (old new : ℕ) (r : Run) → command_of words ≡ Some (range script name parameter limit) → IsTold told script bytes
      → Gives bytes (Ok a)
      → OrWhole ⊤ a.work.problem (RangesFrom told risen a.work name parameter limit old new) old new r → Causes words told risen old new r
  ranged script name parameter bytes limit a old new r form there gives (inr (refuses, h)) =
      whole_ends words told risen (range script name parameter limit) form a.work (accepted_work told (range script name parameter limit) bytes a there gives) old new r tt h
  ranged script name parameter bytes limit a old new r form there gives (inl (free, lacking t h e steps)) =
      subst (Causes words told risen old new) (sym e) (
        for_range (range script name parameter limit) a.work parameter form (accepted_work told (range script name parameter limit) bytes a there gives) (free tt) refl h,
        begun script name parameter bytes limit a old new form there gives (free tt) steps,
      )
  ranged script name parameter bytes limit a old new r form there gives (inl (free, ending has h steps)) =
      let command = range script name parameter limit in
      settings_end words told risen command form a.work (accepted_work told command bytes a there gives) free (allowed command a.work.problem parameter refl has) name old new r
      (begun script name parameter bytes limit a old new form there gives (free tt) steps) refl h
  ranged script name parameter bytes limit a old new r form there gives (inl (free, ranging has settings outcomes asked are e steps)) =
      subst (Causes words told risen old new) (sym e) (record {
        script = script;
        name = name;
        limit = limit;
        asked = asked_of words told (range script name parameter limit) HasNoWhole a.work settings form (accepted_work told (range script name parameter limit) bytes a there gives) (free tt) asked;
        ranged = has;
        are = are;
        sense_is = refl;
        steps = steps.mapped (has.map, has.is_map);
      })
  ranged script name parameter bytes limit a old new r form there gives (inl (free, wanting e few)) =
      subst (Causes words told risen old new) (sym e) (beginning (range script name parameter limit) a.work parameter form
      (accepted_work told (range script name parameter limit) bytes a there gives) refl few)

  pub certified : (script name file : List ℕ) (p : Problem) (settings : List Pairs) (sections : Sections) (list : List Section) (n certs : ℕ) → command_of words ≡ Some (certify script name file) →
      GivesSections told script name file p settings sections → list ≡ sections.list → ArePassed p settings list → certs ≡ count_by is_cert list → Causes words told risen n n (run.Certified certs)
  certified script name file p settings sections list n certs form g same passed counted = (
    record {
      script = script;
      settings = name;
      name = file;
      sections = sections;
      passed = sections_pass words told risen (certify script name file) form script name file refl refl refl tt (λ b h. h) (λ w s h. h) p settings sections g
          (subst (ArePassed p settings) same passed);
      count = counted ∙ ap (count_by is_cert) same;
    },
    refl,
  )

  pub migrated_told : (script name file : List ℕ) (p : Problem) (settings : List Pairs) (sections : Sections) (list : List Section) (n : ℕ) (r : Run)
      → command_of words ≡ Some (migrate script name file)
      → GivesSections told script name file p settings sections → list ≡ sections.list → ArePassed p settings list →
      (r ≡ run.Memory) ⊎ ((after : Sections) × IsMigrated p settings sections after × (r ≡ run.Certificates (cert_text after) false)) → Causes words told risen n n r
  migrated_told script name file p settings sections list n r form g same passed (inl e) = subst (Causes words told risen n n) (sym e) (none refl)
  migrated_told script name file p settings sections list n r form g same passed (inr (after, are, e)) =
      subst (Causes words told risen n n) (sym e) (inr (
        record {
          script = script;
          settings = name;
          name = file;
          sections = sections;
          passed = sections_pass words told risen (migrate script name file) form script name file refl refl refl tt (λ b h. h) (λ w s h. h) p settings sections g
              (subst (ArePassed p settings) same passed);
          migrated = after;
          are = subst (λ (q : Problem). IsMigrated q settings sections after) (sym g.is_of) are;
          text = refl;
        },
        refl,
        refl,
      ))

  pub tried : (size limit : ℕ) (a : Accepted) (old new : ℕ) (r : Run) → command_of words ≡ Some (trial size limit) → Gives (trial_text size) (Ok a) →
      OrWhole ⊤ a.work.problem (TriesAt a.work size limit old new) old new r → Causes words told risen old new r
  tried size limit a old new r form gives (inl (free, inl (e, same))) = subst (Causes words told risen old new) (sym e) (none same)
  tried size limit a old new r form gives (inl (free, inr (settings, are, h))) =
      solved_so words told risen (trial size limit) form a.work (accepted_work told (trial size limit) (trial_text size) a refl gives) settings are
      (λ os count. run.Trial size os) free (λ os count. refl)
      old new r (λ os count k. k) h
  tried size limit a old new r form gives (inr (refuses, h)) = whole_ends words told risen (trial size limit) form a.work
      (accepted_work told (trial size limit) (trial_text size) a refl gives) old new r tt h

-- ---- words
-- a run with a cause tells the usage line exactly where the words are no plain form
pub usage_of : (words : List (List ℕ)) (told : Option Files) (risen : Type 0) (old new : ℕ) (command : Command) (r : Run) → command_of words ≡ Some command → Causes words told risen old new r
    → (r ≡ run.Usage) ↔ (command_of words ≡ None)
usage_of words told risen old new command r form h = (λ e. (subst (Causes words told risen old new) e h).0, λ e. absurd (none-some command (sym e ∙ form)))

-- ---- what is told of a run
solved_within : (words : List (List ℕ)) (told : Option Files) (old new : ℕ) (r : Run) → IsSolvedRun words told old new r → CountsAtMost words told old new
solved_within words told old new r h =
    solving h.command h.asked.work h.asked.settings h.asked.form h.asked.problem (of_outcomes h.command h.asked.work.problem.sense h.outcomes h.warm r h.tells).certificate h.asked.are_of
    (no_more_of h.asked.work.problem (length h.asked.settings) old new h.steps)

-- where there is no memory for its report
wanting_caused : (words : List (List ℕ)) (told : Option Files) (risen : Type 0) (old new : ℕ) (r : Run) → Causes words told risen old new r → Causes words told risen old new run.Memory
wanting_caused words told risen old new run.Usage h = none h.1
wanting_caused words told risen old new (run.Refused r) h = at_most_beginning words told old new h.1
wanting_caused words told risen old new (run.Checked c) h = none h.1
wanting_caused words told risen old new (run.Solved word sense outcomes warm) h = solved_within words told old new (run.Solved word sense outcomes warm) h
wanting_caused words told risen old new (run.Certificates text stopped) (inl h) =
    solving (certificate h.script h.name h.limit) h.asked.work h.asked.settings h.asked.form h.asked.problem refl h.asked.are_of
    (no_more_of h.asked.work.problem (length h.asked.settings) old new h.steps)
wanting_caused words told risen old new (run.Certificates text stopped) (inr (h, whole, same)) = none same
wanting_caused words told risen old new (run.Certified n) h = none h.1
wanting_caused words told risen old new (run.CertRefused section fault) h = none h.1
wanting_caused words told risen old new (run.Trial size outcomes) h = solved_within words told old new (run.Trial size outcomes) h
wanting_caused words told risen old new (run.Filtered outcomes) h =
    solving (iis h.script h.name h.limit) h.asked.work h.asked.settings h.asked.form h.asked.problem refl h.asked.are_of (no_more_of h.asked.work.problem (length h.asked.settings) old new h.steps)
wanting_caused words told risen old new (run.Ranged parameter sense outcomes) h =
    beginning (range h.script h.name parameter h.limit) h.asked.work parameter h.asked.form h.asked.problem refl (begun_no_more h.asked.work.problem old new (within h.steps))
  where
    within : {a b : ℕ} → a ≡ b → a ≤ b
    within e = omega (arith, e)
wanting_caused words told risen old new run.ReadFault h = at_most_beginning words told old new h.1
wanting_caused words told risen old new run.Memory h = h

pub told_caused : (words : List (List ℕ)) (told : Option Files) (risen : Type 0) (old new : ℕ) (r s : Run) → Causes words told risen old new r → IsToldOf r s → Causes words told risen old new s
told_caused words told risen old new r s h (inl e) = subst (Causes words told risen old new) (sym e) h
told_caused words told risen old new r s h (inr (e, other)) = subst (Causes words told risen old new) (sym e) (wanting_caused words told risen old new r h)

pub told_usage : (r s : Run) (A : Type 0) → (r ≡ run.Usage) ↔ A → IsToldOf r s → (s ≡ run.Usage) ↔ A
told_usage r s A h (inl e) = (λ u. h.0 (sym e ∙ u), λ a. e ∙ h.1 a)
told_usage r s A h (inr (e, other)) = (λ u. let f : run.Memory ≡ run.Usage = sym e ∙ u in absurd (cc), λ a. absurd (other (h.1 a)))
