-- How a file ends a run: where its bytes aren't had, or where they are refused.
use Rattle.std.specs.Prelude.{⊤}
use Rattle.std.proofs.Common.{◌≡◌, ◌⊎◌, inl, inr, ℕ, List, Option, Err, refl, sym, ap, ◌∙◌, subst}
use Rattle.dcx_tokens.specs.declared.fault.ReadFault.{ReadFault}
use Rattle.dcx_tokens.specs.declared.fault.ReadFault.TheVariants as reads
use Rattle.dcx_host.specs.Files.{Files, IsTold}
use Rattle.dcx_point.specs.Pairs.{Pairs}
use Rattle.dcx_settings.specs.declared.settings.SettingItem.{SettingItem}
use Rattle.dcx_settings.specs.File.{IsSettingsReading, SpellSettings}
use Rattle.dcx_front.specs.declared.fault.FrontFault.{FrontFault}
use Rattle.dcx_front.specs.declared.fault.FrontFault.TheVariants as front
use Rattle.dcx_refusal.specs.declared.refusal.Refusal.{Refusal}
use Rattle.dcx_refusal.specs.declared.refusal.RefusalSource.{RefusalSource}
use Rattle.dcx_refusal.specs.declared.refusal.RefusalSource.TheVariants.{Script, Settings}
use Rattle.dcx_front.specs.Accepts.{Gives, Tells, read_ending}
use Rattle.dcx_elab.specs.declared.work.Work.{Work}
use Rattle.dcx_report.specs.declared.run.Run.{Run}
use Rattle.dcx_report.specs.declared.run.Run.TheVariants as run
use Rattle.dcx_top.specs.Files.{RefusesScript, RefusesSettings}
use Rattle.dcx_top.specs.Reading.{run_of, EndsAt}
use Rattle.dcx_top.specs.Solving.{OrWhole, FromFile, RangesFrom, lacking, ending, ranging, wanting}
use Rattle.dcx_overlay.specs.Settings.{AreLaidOver}
use Rattle.dcx_tree.specs.declared.problem.Problem.{Problem}
use Rattle.dcx_answer.specs.declared.range_outcome.RangeOutcome.{RangeOutcome}
use Rattle.dcx_outcomes.specs.Counts.{Counts}
use Rattle.dcx_outcomes.specs.Ranges.{HasRange, AreRangeOutcomes}
use Rattle.dcx_declared.specs.Whole.{HasNoWhole}
use Rattle.dcx_top.proofs.Counting.{no_more_of}

-- a file whose bytes aren't had ends the run, whatever its bytes would be refused for
pub ends_before : (told : Option Files) (risen : Type 0) (source : RefusalSource) (name : List ℕ) (Refuses : List ℕ → Refusal → Type 0) (r : Run) → EndsAt told risen source name (λ _ _. ⊥) r
    → EndsAt told risen source name Refuses r
ends_before told risen source name Refuses run.ReadFault h = h
ends_before told risen source name Refuses (run.Refused r) (inl long) = inl long
ends_before told risen source name Refuses (run.Refused r) (inr (bytes, there, h)) = absurd h
ends_before told risen source name Refuses run.Memory h = tt
ends_before told risen source name Refuses run.Usage h = absurd h
ends_before told risen source name Refuses (run.Checked c) h = absurd h
ends_before told risen source name Refuses (run.Solved word sense outcomes warm) h = absurd h
ends_before told risen source name Refuses (run.Certificates text stopped) h = absurd h
ends_before told risen source name Refuses (run.Certified n) h = absurd h
ends_before told risen source name Refuses (run.CertRefused section fault) h = absurd h
ends_before told risen source name Refuses (run.Trial size outcomes) h = absurd h
ends_before told risen source name Refuses (run.Filtered outcomes) h = absurd h
ends_before told risen source name Refuses (run.Ranged parameter sense outcomes) h = absurd h

-- a file whose bytes are had and refused ends it
ends_behind : (told : Option Files) (risen : Type 0) (source : RefusalSource) (name bytes : List ℕ) (Refuses : List ℕ → Refusal → Type 0) (fault : FrontFault) → IsTold told name bytes
    → ((r : Refusal) → fault ≡ front.Refused r → Refuses bytes r)
    → EndsAt told risen source name Refuses (run_of fault)
ends_behind told risen source name bytes Refuses (front.Refused r) there h = inr (bytes, there, h r refl)
ends_behind told risen source name bytes Refuses front.Memory there h = tt

-- the bytes of a script are refused
pub script_ending : (told : Option Files) (risen : Type 0) (name bytes slice : List ℕ) (fault : FrontFault) (r : Run) → slice ≡ bytes → IsTold told name bytes → Gives slice (Err fault)
    → r ≡ run_of fault
    → EndsAt told risen Script name RefusesScript r
script_ending told risen name bytes slice fault r same there gives is =
    subst (EndsAt told risen Script name RefusesScript) (sym is)
    (ends_behind told risen Script name bytes RefusesScript fault there
    (λ t e. subst (λ (f : FrontFault). Gives bytes (Err f)) e (subst (λ b. Gives b (Err fault)) same gives)))

refused_by : (bytes : List ℕ) (fault : ReadFault) (r : Refusal) → IsSettingsReading bytes (Err fault) → Tells Settings (read_ending fault) (front.Refused r) → RefusesSettings bytes r
refused_by bytes (reads.NotText p) r h t = record { fault = reads.NotText p; refused = h; told = t }
refused_by bytes (reads.BadChar p) r h t = record { fault = reads.BadChar p; refused = h; told = t }
refused_by bytes (reads.BadNumber p) r h t = record { fault = reads.BadNumber p; refused = h; told = t }
refused_by bytes (reads.Unclosed p) r h t = record { fault = reads.Unclosed p; refused = h; told = t }
refused_by bytes (reads.Indent p) r h t = record { fault = reads.Indent p; refused = h; told = t }
refused_by bytes (reads.Unexpected p) r h t = record { fault = reads.Unexpected p; refused = h; told = t }
refused_by bytes (reads.TooDeep p) r h t = record { fault = reads.TooDeep p; refused = h; told = t }
refused_by bytes (reads.TooLong p) r h t = record { fault = reads.TooLong p; refused = h; told = t }
refused_by bytes reads.Memory r h t = absurd t

-- the bytes of a settings file are refused
pub settings_ending : (told : Option Files) (risen : Type 0) (name bytes slice : List ℕ) (fault : ReadFault) (f : FrontFault) (r : Run) → slice ≡ bytes → IsTold told name bytes
    → IsSettingsReading slice (Err fault)
    → Tells Settings (read_ending fault) f → r ≡ run_of f → EndsAt told risen Settings name RefusesSettings r
settings_ending told risen name bytes slice fault f r same there reading tells is =
    subst (EndsAt told risen Settings name RefusesSettings) (sym is)
    (ends_behind told risen Settings name bytes RefusesSettings f there
    (λ t e. refused_by bytes fault t (subst (λ b. IsSettingsReading b (Err fault)) same reading) (subst (Tells Settings (read_ending fault)) e tells)))

-- ---- a part of a run
-- a count that rose in a part of a run rose in the run
pub ends_rising : (told : Option Files) (risen rose : Type 0) (source : RefusalSource) (name : List ℕ) (Refuses : List ℕ → Refusal → Type 0) (r : Run) → (risen → rose)
    → EndsAt told risen source name Refuses r → EndsAt told rose source name Refuses r
ends_rising told risen rose source name Refuses run.ReadFault more (inl lacks) = inl lacks
ends_rising told risen rose source name Refuses run.ReadFault more (inr h) = inr (more h)
ends_rising told risen rose source name Refuses (run.Refused r) more h = h
ends_rising told risen rose source name Refuses run.Memory more h = tt
ends_rising told risen rose source name Refuses run.Usage more h = absurd h
ends_rising told risen rose source name Refuses (run.Checked c) more h = absurd h
ends_rising told risen rose source name Refuses (run.Solved word sense outcomes warm) more h = absurd h
ends_rising told risen rose source name Refuses (run.Certificates text stopped) more h = absurd h
ends_rising told risen rose source name Refuses (run.Certified n) more h = absurd h
ends_rising told risen rose source name Refuses (run.CertRefused section fault) more h = absurd h
ends_rising told risen rose source name Refuses (run.Trial size outcomes) more h = absurd h
ends_rising told risen rose source name Refuses (run.Filtered outcomes) more h = absurd h
ends_rising told risen rose source name Refuses (run.Ranged parameter sense outcomes) more h = absurd h

module _ (Refuses : Type 0) (work : Work) (name : List ℕ) (At : List Pairs → ℕ → ℕ → Run → Type 0) (old new : ℕ) (r : Run) where
  pub from_file_rising : (told : Option Files) (risen rose : Type 0) → (risen → rose) → OrWhole Refuses work.problem (FromFile told risen work name At old new) old new r
      → OrWhole Refuses work.problem (FromFile told rose work name At old new) old new r
  from_file_rising told risen rose more (inl (continuous, inl h)) = inl (continuous, inl h)
  from_file_rising told risen rose more (inl (continuous, inr (h, same))) = inl (continuous, inr (ends_rising told risen rose Settings name RefusesSettings r more h, same))
  from_file_rising told risen rose more (inr h) = inr h

  -- the files that are told are the same after a part
  pub from_file_moved : (was told : Option Files) (risen rose : Type 0) → was ≡ told → (risen → rose) → OrWhole Refuses work.problem (FromFile was risen work name At old new) old new r
      → OrWhole Refuses work.problem (FromFile told rose work name At old new) old new r
  from_file_moved was told risen rose same more h =
      from_file_rising told risen rose more (subst (λ t. OrWhole Refuses work.problem (FromFile t risen work name At old new) old new r) same h)

  -- ---- settings that are read
  -- something is done with an accepted problem at the lines of a settings file
  pub lines_done : (told : Option Files) (risen : Type 0) (bytes : List ℕ) (lines : List (List SettingItem)) → (Refuses → HasNoWhole work.problem) → IsTold told name bytes → SpellSettings bytes lines
      → ((r ≡ run.Memory) × (new ≡ old)) ⊎ ((settings : List Pairs) × AreLaidOver work.last lines settings × At settings old new r)
      → OrWhole Refuses work.problem (FromFile told risen work name At old new) old new r
  lines_done told risen bytes lines continuous there spelled (inl (e, same)) = inl (continuous, inr (subst (EndsAt told risen Settings name RefusesSettings) (sym e) tt, same))
  lines_done told risen bytes lines continuous there spelled (inr (settings, laid, h)) =
      inl (continuous, inl (settings, record { bytes = bytes; are_told = there; lines = lines; spelled = spelled; laid = laid }, h))

-- ---- ranges
module _ (work : Work) (name parameter : List ℕ) (limit old new : ℕ) (r : Run) where
  ranges_rising : (told : Option Files) (risen rose : Type 0) → (risen → rose) → RangesFrom told risen work name parameter limit old new r → RangesFrom told rose work name parameter limit old new r
  ranges_rising told risen rose more (lacking t h e steps) = lacking t h e steps
  ranges_rising told risen rose more (ending has h steps) = ending has (ends_rising told risen rose Settings name RefusesSettings r more h) steps
  ranges_rising told risen rose more (ranging has settings outcomes asked are e steps) = ranging has settings outcomes asked are e steps
  ranges_rising told risen rose more (wanting e few) = wanting e few

  -- the files that are told are the same after a part
  pub ranges_moved : (was told : Option Files) (risen rose : Type 0) → was ≡ told → (risen → rose) → OrWhole ⊤ work.problem (RangesFrom was risen work name parameter limit old new) old new r →
      OrWhole ⊤ work.problem (RangesFrom told rose work name parameter limit old new) old new r
  ranges_moved was told risen rose same more (inl (continuous, h)) = inl (continuous, ranges_rising told risen rose more (subst (λ t. RangesFrom t risen work name parameter limit old new r) same h))
  ranges_moved was told risen rose same more (inr h) = inr h

-- the range is told at the lines of a settings file
pub lines_ranged : (told : Option Files) (risen : Type 0) (work : Work) (name parameter bytes : List ℕ) (lines : List (List SettingItem)) (limit old mid new : ℕ) (r : Run) (p : Problem)
    (last : Pairs) → work.problem ≡ p → work.last ≡ last
    → HasRange p parameter → IsTold told name bytes → SpellSettings bytes lines → Counts work.problem 0 old mid →
    ((r ≡ run.Memory) × (new ≡ mid))
    ⊎ ((settings : List Pairs) × (outcomes : List RangeOutcome) × AreLaidOver last lines settings × AreRangeOutcomes p parameter limit settings outcomes
    × (r ≡ run.Ranged parameter p.sense outcomes) × (new ≡ mid))
    → RangesFrom told risen work name parameter limit old new r
lines_ranged told risen work name parameter bytes lines limit old mid new r p last same ends has there spelled steps (inl (e, still)) =
    wanting e (no_more_of work.problem 0 old new (subst (Counts work.problem 0 old) (sym still) steps))
lines_ranged told risen work name parameter bytes lines limit old mid new r p last same ends has there spelled steps (inr (settings, outcomes, laid, are, e, still)) =
    ranging (subst (λ (z : Problem). HasRange z parameter) (sym same) has) settings outcomes
    (record { bytes = bytes; are_told = there; lines = lines; spelled = spelled; laid = subst (λ (s : Pairs). AreLaidOver s lines settings) (sym ends) laid })
    (subst (λ (z : Problem). AreRangeOutcomes z parameter limit settings outcomes) (sym same) are) (e ∙ ap (λ (z : Problem). run.Ranged parameter z.sense outcomes) (sym same))
    (subst (Counts work.problem 0 old) (sym still) steps)
