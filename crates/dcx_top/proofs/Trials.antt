-- A trial reads no file, so that its runs are those of words with no files.
use Rattle.std.proofs.Common.{◌≡◌, inl, inr, ℕ, List, Some, None, refl, sym, subst, ◌∙◌}
use Rattle.std.proofs.lemmas.Option.{none-some, same_Some}
use Rattle.dcx_point.specs.Pairs.{Pairs}
use Rattle.dcx_elab.specs.declared.work.Work.{Work}
use Rattle.dcx_tree.specs.declared.problem.Problem.{Problem}
use Rattle.dcx_top.specs.Whole.{Takes}
use Rattle.dcx_refusal.specs.declared.refusal.Refusal.{Refusal}
use Rattle.dcx_report.specs.declared.run.Run.{Run}
use Rattle.dcx_report.specs.declared.run.Run.TheVariants as run
use Rattle.dcx_words.specs.Commands.{Command, check, certificate, certify, migrate, trial, iis, range, command_of}
use Rattle.dcx_trial.specs.Trial.{trial_text}
use Rattle.dcx_top.specs.Commands.{IsScriptOf, script_name, settings_name, certificate_name, parameter_name, AreSettingsOf}
use Rattle.dcx_top.specs.Asked.{IsAcceptedWork, Asked}
use Rattle.dcx_top.specs.Runs.{IsSolvedRun, IsRefusedRun, long_script, bad_script, for_whole, for_range, bad_settings, long_certificate, misread, failed}
use Rattle.dcx_top.specs.Runs.{no_script, no_settings, no_certificate, CountsAtMostBeginning, CountsAtMost, none, beginning, solving, Causes}
use Rattle.dcx_top.specs.OneRun.{no_files}
use Rattle.dcx_top.specs.Verdicts.{Has}
use Rattle.dcx_top.proofs.Refusals.{of_other}

-- no file of the command is read
record ReadsNone (command : Command) : Type 0 where
  pub script : script_name command ≡ None
  pub settings : settings_name command ≡ None
  pub certificate : certificate_name command ≡ None
  pub parameter : parameter_name command ≡ None
  pub scripts : (bytes : List ℕ) → IsScriptOf None command bytes → IsScriptOf (Some no_files) command bytes
  pub asks : (work : Work) (settings : List Pairs) → AreSettingsOf None command work settings → AreSettingsOf (Some no_files) command work settings

trial_reads_none : (size limit : ℕ) → ReadsNone (trial size limit)
trial_reads_none size limit = record {
  script = refl;
  settings = refl;
  certificate = refl;
  parameter = refl;
  scripts = λ bytes h. h;
  asks = λ work settings h. h;
}

module _ (words : List (List ℕ)) (size limit : ℕ) (form : command_of words ≡ Some (trial size limit)) where
  reads_none : (command : Command) → command_of words ≡ Some command → ReadsNone command
  reads_none command is = subst ReadsNone (same_Some (trial size limit) command (sym form ∙ is)) (trial_reads_none size limit)

  -- the words are of no command that reads one
  no_script_read : {A : Type 0} (command : Command) (name : List ℕ) → command_of words ≡ Some command → script_name command ≡ Some name → A
  no_script_read command name is named = absurd (none-some name (sym (reads_none command is).script ∙ named))

  no_settings_read : {A : Type 0} (command : Command) (name : List ℕ) → command_of words ≡ Some command → settings_name command ≡ Some name → A
  no_settings_read command name is named = absurd (none-some name (sym (reads_none command is).settings ∙ named))

  no_certificate_read : {A : Type 0} (command : Command) (name : List ℕ) → command_of words ≡ Some command → certificate_name command ≡ Some name → A
  no_certificate_read command name is named = absurd (none-some name (sym (reads_none command is).certificate ∙ named))

  no_parameter_asked : {A : Type 0} (command : Command) (name : List ℕ) → command_of words ≡ Some command → parameter_name command ≡ Some name → A
  no_parameter_asked command name is named = absurd (none-some name (sym (reads_none command is).parameter ∙ named))

  problem_told : (command : Command) (work : Work) → command_of words ≡ Some command → IsAcceptedWork None command work → IsAcceptedWork (Some no_files) command work
  problem_told command work is h = of_other None (Some no_files) command command work h ((reads_none command is).scripts h.bytes h.are_of)

  -- what is asked
  abbrev asked_told : (Marks : Problem → Type 0) (command : Command) → Asked words None command Marks → Asked words (Some no_files) command Marks
  asked_told Marks command h = record {
    form = h.form;
    work = h.work;
    problem = problem_told command h.work h.form h.problem;
    marks = h.marks;
    settings = h.settings;
    are_of = (reads_none command h.form).asks h.work h.settings h.are_of;
  }

  refused_told : (r : Refusal) → IsRefusedRun words None r → IsRefusedRun words (Some no_files) r
  refused_told r (long_script command name is named long) = no_script_read command name is named
  refused_told r (bad_script command bytes is of h) = bad_script command bytes is ((reads_none command is).scripts bytes of) h
  refused_told r (for_whole command a is gives refuses h) = for_whole command a is (problem_told command a is gives) refuses h
  refused_told r (for_range command a name is gives free named h) = no_parameter_asked command name is named
  refused_told r (bad_settings command a name is gives takes allows named h) = no_settings_read command name is named
  refused_told r (long_certificate command files long) = no_certificate_read command files.name files.asked.form files.named

  beginning_told : (old new : ℕ) → CountsAtMostBeginning words None old new → CountsAtMostBeginning words (Some no_files) old new
  beginning_told old new (inl same) = inl same
  beginning_told old new (inr h) = no_parameter_asked (range h.script h.name h.parameter h.limit) h.parameter h.form refl

  counts_told : (old new : ℕ) → CountsAtMost words None old new → CountsAtMost words (Some no_files) old new
  counts_told old new (none same) = none same
  counts_told old new (beginning command a name is gives named few) = no_parameter_asked command name is named
  counts_told old new (solving command a settings is gives reads asked few) =
      solving command a settings is (problem_told command a is gives) reads ((reads_none command is).asks a settings asked) few

  solved_told : (old new : ℕ) (r : Run) → IsSolvedRun words None old new r → IsSolvedRun words (Some no_files) old new r
  solved_told old new r h =
      record { command = h.command; asked = asked_told (Takes h.command) h.command h.asked; outcomes = h.outcomes; warm = h.warm; are = h.are; tells = h.tells; steps = h.steps }

  -- a run of a trial has its cause where no files are told too
  pub trial_caused : (risen : Type 0) (old new : ℕ) (r : Run) → Causes words None risen old new r → Causes words (Some no_files) risen old new r
  trial_caused risen old new run.Usage h = h
  trial_caused risen old new (run.Refused r) h = (refused_told r h.0, beginning_told old new h.1)
  trial_caused risen old new (run.Checked c) h = no_script_read (check h.0.script) h.0.script h.0.form refl
  trial_caused risen old new (run.Solved word sense outcomes warm) h = solved_told old new (run.Solved word sense outcomes warm) h
  trial_caused risen old new (run.Certificates text stopped) (inl h) = no_script_read (certificate h.script h.name h.limit) h.script h.asked.form refl
  trial_caused risen old new (run.Certificates text stopped) (inr (h, whole, same)) = no_script_read (migrate h.script h.settings h.name) h.script h.passed.reads.files.asked.form refl
  trial_caused risen old new (run.Certified n) h = no_script_read (certify h.0.script h.0.settings h.0.name) h.0.script h.0.passed.reads.files.asked.form refl
  trial_caused risen old new (run.CertRefused section fault) (misread command files h, same) = no_certificate_read command files.name files.asked.form files.named
  trial_caused risen old new (run.CertRefused section fault) (failed command sections reads h, same) = no_certificate_read command reads.files.name reads.files.asked.form reads.files.named
  trial_caused risen old new (run.Trial size outcomes) h = solved_told old new (run.Trial size outcomes) h
  trial_caused risen old new (run.Filtered outcomes) h = no_script_read (iis h.script h.name h.limit) h.script h.asked.form refl
  trial_caused risen old new (run.Ranged parameter sense outcomes) h = no_script_read (range h.script h.name parameter h.limit) h.script h.asked.form refl
  trial_caused risen old new run.ReadFault (no_script command name is named h, steps) = no_script_read command name is named
  trial_caused risen old new run.ReadFault (no_settings command a name is gives takes allows named h, steps) = no_settings_read command name is named
  trial_caused risen old new run.ReadFault (no_certificate command files h, steps) = no_certificate_read command files.name files.asked.form files.named
  trial_caused risen old new run.Memory h = counts_told old new h

-- a trial has its text
pub trial_has : (size limit : ℕ) (settings certificate : List ℕ) → Has no_files (trial size limit) (trial_text size) settings certificate
trial_has size limit settings cert = record { is_script = refl; are_settings = λ name h. absurd (none-some name h); is_certificate = λ name h. absurd (none-some name h) }
