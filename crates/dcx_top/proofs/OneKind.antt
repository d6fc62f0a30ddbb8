-- Runs of different kinds are of different commands.
use Rattle.std.proofs.Common.{◌≡◌, ◌||◌, inl, inr, ℕ, Bool, true, false, List, Some, refl, sym, ap, ◌∙◌, true≢false}
use Rattle.std.proofs.lemmas.Bool.{or_right}
use Rattle.std.proofs.lemmas.Option.{none-some, same_Some}
use Rattle.dcx_tree.specs.declared.constraint.Sense.{Sense}
use Rattle.dcx_host.specs.Files.{Files}
use Rattle.dcx_refusal.specs.declared.checked.Checked.{Checked}
use Rattle.dcx_answer.specs.declared.filter_outcome.FilterOutcome.{FilterOutcome}
use Rattle.dcx_answer.specs.declared.range_outcome.RangeOutcome.{RangeOutcome}
use Rattle.dcx_report.specs.declared.run.Run.{Run}
use Rattle.dcx_report.specs.declared.run.Run.TheVariants as run
use Rattle.dcx_words.specs.Commands.{Command, check, certificate, certify, migrate, iis, range, command_of}
use Rattle.dcx_top.specs.Commands.{certificate_name}
use Rattle.dcx_top.specs.Runs.{IsChecked, IsSolvedRun, IsFilteredRun, IsRangedRun, IsCertificateRun, IsMigrateRun, IsCertifiedRun, misread, failed, Causes}
use Rattle.dcx_top.proofs.ByKind.{Kind, checks, solves, writes, certifies, migrates, filters, ranges, kind_of, is_same, same_itself, outcomes_told, is_reading, certificate_read}

-- the words ask for a command of this kind
pub record Asks (words : List (List ℕ)) (k : Kind) : Type 0 where
  pub command : Command
  pub form : command_of words ≡ Some command
  pub kind : kind_of command ≡ k

-- a command of the kind may have the run
abbrev pub may_be : Kind → Run → Bool
may_be k run.Usage = false
may_be k (run.Refused r) = true
may_be k (run.Checked c) = is_same checks k
may_be k (run.Solved word sense outcomes warm) = is_same solves k
may_be k (run.Certificates text stopped) = is_same writes k || is_same migrates k
may_be k (run.Certified n) = is_same certifies k
may_be k (run.CertRefused section fault) = is_reading k
may_be k (run.Trial size outcomes) = is_same solves k
may_be k (run.Filtered outcomes) = is_same filters k
may_be k (run.Ranged parameter sense outcomes) = is_same ranges k
may_be k run.ReadFault = true
may_be k run.Memory = true

module _ (words : List (List ℕ)) (files : Files) where
  -- ---- what the words of a run ask for
  pub ask_checks : (c : Checked) → IsChecked words (Some files) c → Asks words checks
  ask_checks c h = record { command = check h.script; form = h.form; kind = refl }

  pub ask_solves : (old new : ℕ) (r : Run) → IsSolvedRun words (Some files) old new r → Asks words solves
  ask_solves old new r h = record { command = h.command; form = h.asked.form; kind = outcomes_told h.command h.asked.work.problem.sense h.outcomes h.warm r h.tells }

  pub ask_filters : (old new : ℕ) (os : List FilterOutcome) → IsFilteredRun words (Some files) old new os → Asks words filters
  ask_filters old new os h = record { command = iis h.script h.name h.limit; form = h.asked.form; kind = refl }

  pub ask_ranges : (old new : ℕ) (name : List ℕ) (sense : Sense) (os : List RangeOutcome) → IsRangedRun words (Some files) old new name sense os → Asks words ranges
  ask_ranges old new name sense os h = record { command = range h.script h.name name h.limit; form = h.asked.form; kind = refl }

  pub ask_writes : (old new : ℕ) (bytes : List ℕ) (stopped : Bool) → IsCertificateRun words (Some files) old new bytes stopped → Asks words writes
  ask_writes old new bytes stopped h = record { command = certificate h.script h.name h.limit; form = h.asked.form; kind = refl }

  pub ask_migrates : (bytes : List ℕ) → IsMigrateRun words (Some files) bytes → Asks words migrates
  ask_migrates bytes h = record { command = migrate h.script h.settings h.name; form = h.passed.reads.files.asked.form; kind = refl }

  pub ask_certifies : (n : ℕ) → IsCertifiedRun words (Some files) n → Asks words certifies
  ask_certifies n h = record { command = certify h.script h.settings h.name; form = h.passed.reads.files.asked.form; kind = refl }

  -- ---- which runs they may have
  module _ (k : Kind) (a : Asks words k) where
    kind_is : (c : Command) → command_of words ≡ Some c → kind_of c ≡ k
    kind_is c e = ap kind_of (same_Some c a.command (sym e ∙ a.form)) ∙ a.kind

    pub same_kind : (l : Kind) → Asks words l → is_same l k ≡ true
    same_kind l b = ap (is_same l) (sym (kind_is b.command b.form) ∙ b.kind) ∙ same_itself l

    reading : (c : Command) (name : List ℕ) → command_of words ≡ Some c → certificate_name c ≡ Some name → is_reading k ≡ true
    reading c name e is = ap is_reading (sym (kind_is c e)) ∙ certificate_read c name is

    module _ (risen : Type 0) (old new : ℕ) where
      one_may_be : (r : Run) → Causes words (Some files) risen old new r → may_be k r ≡ true
      one_may_be run.Usage h = absurd (none-some a.command (sym h.0 ∙ a.form))
      one_may_be (run.Refused r) h = refl
      one_may_be (run.Checked c) h = same_kind checks (ask_checks c h.0)
      one_may_be (run.Solved word sense outcomes warm) h = same_kind solves (ask_solves old new (run.Solved word sense outcomes warm) h)
      one_may_be (run.Certificates text stopped) (inl h) = ap (λ b. b || is_same migrates k) (same_kind writes (ask_writes old new text stopped h))
      one_may_be (run.Certificates text stopped) (inr (h, off, still)) = ap (λ b. is_same writes k || b) (same_kind migrates (ask_migrates text h)) ∙ or_right (is_same writes k) true refl
      one_may_be (run.Certified n) h = same_kind certifies (ask_certifies n h.0)
      one_may_be (run.CertRefused section fault) (misread c x h, still) = reading c x.name x.asked.form x.named
      one_may_be (run.CertRefused section fault) (failed c list x h, still) = reading c x.files.name x.files.asked.form x.files.named
      one_may_be (run.Trial size outcomes) h = same_kind solves (ask_solves old new (run.Trial size outcomes) h)
      one_may_be (run.Filtered outcomes) h = same_kind filters (ask_filters old new outcomes h)
      one_may_be (run.Ranged parameter sense outcomes) h = same_kind ranges (ask_ranges old new parameter sense outcomes h)
      one_may_be run.ReadFault h = refl
      one_may_be run.Memory h = refl

      -- and no other one
      pub no_other : {A : Type 0} (r : Run) → may_be k r ≡ false → Causes words (Some files) risen old new r → A
      no_other r off h = absurd (true≢false (sym (one_may_be r h) ∙ off))
