-- A run with its cause is right.
use Rattle.std.proofs.Common.{◌≡◌, inl, inr, ℕ, Bool, true, false, IsTrue, List, Option, refl}
use Rattle.dcx_point.specs.Pairs.{Pairs}
use Rattle.dcx_tree.specs.declared.problem.Problem.{Problem}
use Rattle.dcx_host.specs.Files.{Files}
use Rattle.dcx_answer.specs.declared.outcome.Outcome.{Outcome}
use Rattle.dcx_declared.specs.Whole.{HasNoWhole}
use Rattle.dcx_answer.specs.declared.filter_outcome.FilterOutcome.{FilterOutcome}
use Rattle.dcx_answer.specs.declared.range_outcome.RangeOutcome.{RangeOutcome}
use Rattle.dcx_tree.specs.declared.constraint.Sense.{Sense}
use Rattle.dcx_report.specs.declared.run.Run.{Run}
use Rattle.dcx_report.specs.declared.run.Run.TheVariants as run
use Rattle.dcx_words.specs.Commands.{Command, check, solve, resolve, certificate, certify, migrate, trial, iis, range}
use Rattle.dcx_words.specs.Laws.{is_warm_command}
use Rattle.dcx_outcomes.specs.Warm.{AreFound}
use Rattle.dcx_outcomes.proofs.Finds.{found_are_right, solved_are_complete, solved_kind, whole_kind}
use Rattle.dcx_outcomes.proofs.FilterEnds.{filters_are_right}
use Rattle.dcx_outcomes.proofs.RangeEnds.{ranges_are_right}
use Rattle.dcx_cert_sections.specs.declared.section.Sections.{Sections}
use Rattle.dcx_cert_runs.specs.Checking.{AreShown}
use Rattle.dcx_cert_runs.proofs.Shown.{sections_are_shown}
use Rattle.dcx_top.specs.Commands.{limit_of}
use Rattle.dcx_top.specs.Whole.{Takes}
use Rattle.dcx_top.specs.Runs.{IsSolvedRun, IsFilteredRun, IsRangedRun, IsCertificateRun, HasPassed, IsMigrateRun, Causes}
use Rattle.dcx_top.specs.Headline.{AreOfKind, IsRightlySolved, IsRightlyFiltered, IsRightlyRanged, IsRightlyShown, IsRightRun}
use Rattle.dcx_top.proofs.Passed.{passed_shown, migrated_shown}

-- the outcomes are of the kind of the problem
kind_of_found : (warm : Bool) (p : Problem) (limit : ℕ) (settings : List Pairs) (os : List Outcome) (count : Option ℕ) → (IsTrue warm → HasNoWhole p) → AreFound warm p limit settings os count
    → AreOfKind p limit settings os
kind_of_found false p limit settings os count free (inl (none, h)) = inl (none, solved_kind false p limit settings os count h, solved_are_complete false p limit settings os count h)
kind_of_found false p limit settings os count free (inr (has, h, is)) = inr (has, whole_kind p limit settings os h)
kind_of_found true p limit settings os count free h = inl (free refl, solved_kind true p limit settings os count h, solved_are_complete true p limit settings os count h)

-- a command that solves warm takes no variable that is to be whole
warm_takes : (command : Command) (p : Problem) → Takes command p → IsTrue (is_warm_command command) → HasNoWhole p
warm_takes (check script) p h t = let f : false ≡ true = t in absurd (cc)
warm_takes (solve script limit) p h t = let f : false ≡ true = t in absurd (cc)
warm_takes (resolve script settings limit false) p h t = let f : false ≡ true = t in absurd (cc)
warm_takes (resolve script settings limit true) p h t = h tt
warm_takes (certificate script settings limit) p h t = let f : false ≡ true = t in absurd (cc)
warm_takes (certify script settings cert) p h t = let f : false ≡ true = t in absurd (cc)
warm_takes (migrate script settings cert) p h t = let f : false ≡ true = t in absurd (cc)
warm_takes (trial size limit) p h t = let f : false ≡ true = t in absurd (cc)
warm_takes (iis script settings limit) p h t = let f : false ≡ true = t in absurd (cc)
warm_takes (range script settings parameter limit) p h t = let f : false ≡ true = t in absurd (cc)

solved_right : (words : List (List ℕ)) (told : Option Files) (old new : ℕ) (r : Run) → IsSolvedRun words told old new r → IsRightlySolved words told r
solved_right words told old new r h = let p = h.asked.work.problem in record {
  command = h.command;
  asked = h.asked;
  outcomes = h.outcomes;
  warm = h.warm;
  tells = h.tells;
  right = found_are_right (is_warm_command h.command) p (limit_of h.command) h.asked.settings h.outcomes h.warm h.asked.problem.accepted h.are;
  kind = kind_of_found (is_warm_command h.command) p (limit_of h.command) h.asked.settings h.outcomes h.warm (warm_takes h.command p h.asked.marks) h.are;
}

filtered_right : (words : List (List ℕ)) (told : Option Files) (old new : ℕ) (os : List FilterOutcome) → IsFilteredRun words told old new os → IsRightlyFiltered words told os
filtered_right words told old new os h = record {
  command = iis h.script h.name h.limit;
  asked = h.asked;
  right = filters_are_right h.asked.work.problem h.limit h.asked.settings os h.asked.problem.accepted h.are;
}

ranged_right : (words : List (List ℕ)) (told : Option Files) (old new : ℕ) (name : List ℕ) (sense : Sense) (os : List RangeOutcome) → IsRangedRun words told old new name sense os
    → IsRightlyRanged words told name sense os
ranged_right words told old new name sense os h = record {
  command = range h.script h.name name h.limit;
  asked = h.asked;
  named = refl;
  sense_is = h.sense_is;
  right = ranges_are_right h.asked.work.problem name h.limit h.asked.settings os h.are;
}

-- ---- certificates
certificate_right : (words : List (List ℕ)) (told : Option Files) (old new : ℕ) (text : List ℕ) (stopped : Bool) (h : IsCertificateRun words told old new text stopped)
    → IsRightlyShown words told h.sections.list
certificate_right words told old new text stopped h = record {
  command = certificate h.script h.name h.limit;
  asked = h.asked;
  shown = sections_are_shown h.asked.work.problem h.limit h.asked.settings h.sections.list h.asked.problem.accepted h.are.sections;
}

passed_show : (words : List (List ℕ)) (told : Option Files) (command : Command) (sections : Sections) (h : HasPassed words told command sections)
    → AreShown h.reads.files.asked.work.problem h.reads.files.asked.settings sections.list
passed_show words told command sections h =
    let f = h.reads.files in
    passed_shown f.asked.work.problem f.asked.settings sections.list f.asked.problem.accepted h.reads.has.text.certificate.shown h.passed

passed_right : (words : List (List ℕ)) (told : Option Files) (command : Command) (sections : Sections) → HasPassed words told command sections → IsRightlyShown words told sections.list
passed_right words told command sections h = record { command = command; asked = h.reads.files.asked; shown = passed_show words told command sections h }

migrate_right : (words : List (List ℕ)) (told : Option Files) (text : List ℕ) (h : IsMigrateRun words told text) → IsRightlyShown words told h.migrated.list
migrate_right words told text h =
    let command = migrate h.script h.settings h.name in
    let f = h.passed.reads.files in
    record { command = command; asked = f.asked; shown = migrated_shown f.asked.work.problem f.asked.settings h.sections h.migrated h.are (passed_show words told command h.sections h.passed) }

pub caused_are_right : (words : List (List ℕ)) (told : Option Files) (risen : Type 0) (old new : ℕ) (r : Run) → Causes words told risen old new r → IsRightRun words told r
caused_are_right words told risen old new (run.Checked c) (h, same) =
    record { command = check h.script; form = h.form; work = h.work; problem = h.problem; found = h.found }
caused_are_right words told risen old new (run.Solved word sense outcomes warm) h = solved_right words told old new (run.Solved word sense outcomes warm) h
caused_are_right words told risen old new (run.Trial size outcomes) h = solved_right words told old new (run.Trial size outcomes) h
caused_are_right words told risen old new (run.Filtered outcomes) h = filtered_right words told old new outcomes h
caused_are_right words told risen old new (run.Ranged parameter sense outcomes) h = ranged_right words told old new parameter sense outcomes h
caused_are_right words told risen old new (run.Certificates text stopped) (inl h) = (h.sections, h.text, certificate_right words told old new text stopped h)
caused_are_right words told risen old new (run.Certificates text stopped) (inr (h, off, same)) = (h.migrated, h.text, migrate_right words told text h)
caused_are_right words told risen old new (run.Certified n) (h, same) = (h.sections.list, h.count, passed_right words told (certify h.script h.settings h.name) h.sections h.passed)
caused_are_right words told risen old new (run.CertRefused section fault) h = tt
caused_are_right words told risen old new run.Usage h = tt
caused_are_right words told risen old new (run.Refused r) h = tt
caused_are_right words told risen old new run.ReadFault h = tt
caused_are_right words told risen old new run.Memory h = tt
