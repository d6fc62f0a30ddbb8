-- Commands by what they do with their problem.
use Rattle.std.proofs.Common.{◌≡◌, ℕ, Bool, true, false, List, Option, Some, None, refl, sym, ap, ◌∙◌, true≢false}
use Rattle.std.proofs.lemmas.Option.{none-some}
use Rattle.dcx_tree.specs.declared.constraint.Sense.{Sense}
use Rattle.dcx_answer.specs.declared.outcome.Outcome.{Outcome}
use Rattle.dcx_report.specs.declared.run.Run.{Run}
use Rattle.dcx_words.specs.Commands.{Command, check, solve, resolve, certificate, certify, migrate, trial, iis, range}
use Rattle.dcx_top.specs.Commands.{certificate_name, parameter_name, TellsOutcomes}

pub data Kind : Type 0 where
  checks : Kind
  solves : Kind
  writes : Kind
  certifies : Kind
  migrates : Kind
  filters : Kind
  ranges : Kind

abbrev pub kind_of : Command → Kind
kind_of (check script) = checks
kind_of (solve script limit) = solves
kind_of (resolve script name limit warm) = solves
kind_of (certificate script name limit) = writes
kind_of (certify script name cert) = certifies
kind_of (migrate script name cert) = migrates
kind_of (trial size limit) = solves
kind_of (iis script name limit) = filters
kind_of (range script name parameter limit) = ranges

-- ---- kinds differ
abbrev pub is_same : Kind → Kind → Bool
is_same checks checks = true
is_same solves solves = true
is_same writes writes = true
is_same certifies certifies = true
is_same migrates migrates = true
is_same filters filters = true
is_same ranges ranges = true
is_same _ _ = false

pub same_itself : (k : Kind) → is_same k k ≡ true
same_itself checks = refl
same_itself solves = refl
same_itself writes = refl
same_itself certifies = refl
same_itself migrates = refl
same_itself filters = refl
same_itself ranges = refl

apart : (k l : Kind) → is_same k l ≡ false → k ≡ l → ⊥
apart k l off e = true≢false (sym (same_itself l) ∙ ap (λ z. is_same z l) (sym e) ∙ off)

-- ---- commands that solve
pub outcomes_told : (c : Command) (sense : Sense) (os : List Outcome) (count : Option ℕ) (r : Run) → TellsOutcomes c sense os count r → kind_of c ≡ solves
outcomes_told (check script) sense os count r h = absurd h
outcomes_told (solve script limit) sense os count r h = refl
outcomes_told (resolve script name limit warm) sense os count r h = refl
outcomes_told (certificate script name limit) sense os count r h = absurd h
outcomes_told (certify script name cert) sense os count r h = absurd h
outcomes_told (migrate script name cert) sense os count r h = absurd h
outcomes_told (trial size limit) sense os count r h = refl
outcomes_told (iis script name limit) sense os count r h = absurd h
outcomes_told (range script name parameter limit) sense os count r h = absurd h

-- they read no certificate, and ask for no parameter
pub record AsksNoMore (c : Command) : Type 0 where
  pub certificate : certificate_name c ≡ None
  pub parameter : parameter_name c ≡ None

of_solving : (c : Command) → kind_of c ≡ solves → AsksNoMore c
of_solving (check script) e = absurd (apart checks solves refl e)
of_solving (solve script limit) e = record { certificate = refl; parameter = refl }
of_solving (resolve script name limit warm) e = record { certificate = refl; parameter = refl }
of_solving (certificate script name limit) e = record { certificate = refl; parameter = refl }
of_solving (certify script name cert) e = absurd (apart certifies solves refl e)
of_solving (migrate script name cert) e = absurd (apart migrates solves refl e)
of_solving (trial size limit) e = record { certificate = refl; parameter = refl }
of_solving (iis script name limit) e = record { certificate = refl; parameter = refl }
of_solving (range script name parameter limit) e = absurd (apart ranges solves refl e)

pub of_outcomes : (c : Command) (sense : Sense) (os : List Outcome) (count : Option ℕ) (r : Run) → TellsOutcomes c sense os count r → AsksNoMore c
of_outcomes c sense os count r h = of_solving c (outcomes_told c sense os count r h)

-- ---- commands that read a certificate
abbrev pub is_reading : Kind → Bool
is_reading certifies = true
is_reading migrates = true
is_reading _ = false

pub certificate_read : (c : Command) (name : List ℕ) → certificate_name c ≡ Some name → is_reading (kind_of c) ≡ true
certificate_read (check script) name h = absurd (none-some name h)
certificate_read (solve script limit) name h = absurd (none-some name h)
certificate_read (resolve script file limit warm) name h = absurd (none-some name h)
certificate_read (certificate script file limit) name h = absurd (none-some name h)
certificate_read (certify script file cert) name h = refl
certificate_read (migrate script file cert) name h = refl
certificate_read (trial size limit) name h = absurd (none-some name h)
certificate_read (iis script file limit) name h = absurd (none-some name h)
certificate_read (range script file parameter limit) name h = absurd (none-some name h)
