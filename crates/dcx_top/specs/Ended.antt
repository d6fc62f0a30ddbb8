-- How a run ends: its status, and what of its report is written.
use Rattle.std.specs.Prelude.{◌≡◌, ◌≢◌, ℕ, Bool, ◌⊎◌, List, if◌then◌else◌}
use Rattle.std.specs.List.{list_any, list_all}
use Rattle.std.specs.declared.option.Option.{Option}
use Rattle.dcx_host.specs.Pieces.{Handed, WritesWhole, WritesFront}
use Rattle.dcx_report.specs.ReportText.{text_of}
use Rattle.dcx_report.specs.Ends.{is_answer, is_filtered, is_ranged, wants_memory, filter_wants_memory, range_wants_memory}
use Rattle.dcx_report.specs.declared.run.Run.{Run}
use Rattle.dcx_report.specs.declared.run.Run.TheVariants.{Usage, Refused, Checked, Solved, Certificates, Certified, CertRefused, Trial, Filtered, Ranged, ReadFault, Memory}
use Rattle.dcx_top.specs.declared.ended.Ended.{Ended}

-- the status of settings' outcomes: 5 where one stopped for want of memory, else 0 where each is answered, and else 6
abbrev pub status_of_all : {A : Type 0} → (A → Bool) → (A → Bool) → List A → ℕ
status_of_all answered wanted outcomes = if list_any wanted outcomes then 5 else (if list_all answered outcomes then 0 else 6)

-- the status where the whole report is written
abbrev pub status_of : Run → ℕ
status_of Usage = 2
status_of (Refused refusal) = 1
status_of (Checked checked) = 0
status_of (Solved word sense outcomes warm) = status_of_all (λ o. is_answer o.end) (λ o. wants_memory o.end) outcomes
status_of (Certificates text stopped) = if stopped then 6 else 0
status_of (Certified sections) = 0
status_of (CertRefused section fault) = 7
status_of (Trial size outcomes) = status_of_all (λ o. is_answer o.end) (λ o. wants_memory o.end) outcomes
status_of (Filtered outcomes) = status_of_all (λ o. is_filtered o.end) (λ o. filter_wants_memory o.end) outcomes
status_of (Ranged parameter sense outcomes) = status_of_all (λ o. is_ranged o.end) (λ o. range_wants_memory o.end) outcomes
status_of ReadFault = 3
status_of Memory = 5

-- the whole report is written, with the status of the run: the sink's bytes were `old` and are `new`, and its pieces were `before` and are `now`
abbrev pub EndsWhole : Option (List ℕ) → Option (List ℕ) → Option (List Handed) → Option (List Handed) → Ended → Type 0
EndsWhole old new before now ended = (ended.status ≡ status_of ended.run) × WritesWhole old new before now (text_of ended.run)

-- the status where not all of the report is written: 4 where a write failed, over every other status but the 5 of a run that wants memory;
-- and 5 where memory is wanting, for the run or for a write
abbrev pub IsCutStatus : Type 0 → Ended → Type 0
IsCutStatus risen ended = (risen × (status_of ended.run ≢ 5) × (ended.status ≡ 4)) ⊎ (ended.status ≡ 5)

-- a front of the report is written, and something is left, since a write failed or memory ran out
abbrev pub EndsEarly : Option (List ℕ) → Option (List ℕ) → Option (List Handed) → Option (List Handed) → Type 0 → Ended → Type 0
EndsEarly old new before now risen ended = IsCutStatus risen ended × WritesFront old new before now (text_of ended.run)

-- `risen` says that the sink's count of faults rose in this run
abbrev pub Reports : Option (List ℕ) → Option (List ℕ) → Option (List Handed) → Option (List Handed) → Type 0 → Ended → Type 0
Reports old new before now risen ended = EndsWhole old new before now ended ⊎ EndsEarly old new before now risen ended

-- the run that is told of a run: itself, or, where there is no memory for its report, that memory is wanting; the usage line wants none
abbrev pub IsToldOf : Run → Run → Type 0
IsToldOf run told = (told ≡ run) ⊎ ((told ≡ Memory) × (run ≢ Usage))
