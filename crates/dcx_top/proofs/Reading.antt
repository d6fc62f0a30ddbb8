-- How the file of a certificate ends a run, and what it gives.
use Rattle.std.proofs.Common.{◌≡◌, ◌⊎◌, inl, inr, ℕ, ◌<◌, ◌≤◌, ◌-◌, ◌^◌, List, [], ◌∷◌, length, Option, Ok, Err, refl, sym, subst, arith}
use Rattle.dcx_host.specs.Files.{Files, IsTold}
use Rattle.dcx_point.specs.Pairs.{Pairs}
use Rattle.dcx_tree.specs.declared.problem.Problem.{Problem}
use Rattle.dcx_tree.specs.Meaning.{IsAccepted}
use Rattle.dcx_cert_outline.specs.Drawn.{problem_outline}
use Rattle.dcx_answer.specs.declared.cert_fault.CertFault.{CertFault}
use Rattle.dcx_answer.specs.declared.cert_fault.CertFault.TheVariants as faults
use Rattle.dcx_cert_sections.specs.declared.section.Sections.{Sections}
use Rattle.dcx_cert_sections.specs.Shown.{AreSectionsOf}
use Rattle.dcx_cert_lines.specs.Forms.{IsReadFault}
use Rattle.dcx_settings.specs.declared.settings.SettingItem.{SettingItem}
use Rattle.dcx_settings.specs.File.{SpellSettings}
use Rattle.dcx_overlay.specs.Settings.{AreLaidOver}
use Rattle.dcx_front.specs.declared.accepted.Accepted.{Accepted}
use Rattle.dcx_refusal.specs.declared.refusal.RefusalSource.TheVariants.{Certificate}
use Rattle.dcx_front.specs.Accepts.{Gives}
use Rattle.dcx_front.proofs.OneVerdict.{acceptance}
use Rattle.dcx_report.specs.declared.run.Run.{Run}
use Rattle.dcx_report.specs.declared.run.Run.TheVariants as run
use Rattle.dcx_top.specs.Files.{most_bytes, HasTextOf}
use Rattle.dcx_top.specs.Reading.{refused_at, ReadsCertificate}
use Rattle.dcx_top.specs.Certifying.{GivesSettings, GivesSections, EndsFiles, at_certificate, at_memory}
use Rattle.dcx_declared.specs.Whole.{HasNoWhole}

-- ---- the run of a fault
-- it tells the fault, or want of memory
pub told_fault : (section : ℕ) (fault : CertFault) → (refused_at section fault ≡ run.Memory) ⊎ (refused_at section fault ≡ run.CertRefused section fault)
told_fault section (faults.Form line) = inr refl
told_fault section (faults.Fit stop) = inr refl
told_fault section (faults.Setting parameter entry stated found) = inr refl
told_fault section (faults.Domain variable entry value) = inr refl
told_fault section (faults.Constraint constraint entry left right) = inr refl
told_fault section (faults.Value stated found) = inr refl
told_fault section (faults.DualSign constraint entry value) = inr refl
told_fault section (faults.Gap value) = inr refl
told_fault section (faults.Slope node entry stated found) = inr refl
told_fault section (faults.Variable variable entry value) = inr refl
told_fault section (faults.Bound stated found) = inr refl
told_fault section (faults.Descent value) = inr refl
told_fault section (faults.RayDomain variable entry value) = inr refl
told_fault section (faults.RayConstraint constraint entry left right) = inr refl
told_fault section (faults.RayValue stated found) = inr refl
told_fault section (faults.Wide passes) = inr refl
told_fault section faults.Memory = inl refl

-- ---- the file
-- its bytes are the text of no certificate
misread_so : (told : Option Files) (risen : Type 0) (name bytes : List ℕ) (p : Problem) (count : ℕ) (fault : CertFault) → IsTold told name bytes → length bytes ≤ most_bytes Certificate
    → IsReadFault (problem_outline p) count bytes fault
    → ReadsCertificate told risen name p count (Err (refused_at 0 fault))
misread_so told risen name bytes p count (faults.Form line) there few h = record { bytes = bytes; are_told = there; few = few; line = line; fault = refl; misfit = h; none = refl }
misread_so told risen name bytes p count (faults.Fit stop) there few h = absurd h
misread_so told risen name bytes p count (faults.Setting parameter entry stated found) there few h = absurd h
misread_so told risen name bytes p count (faults.Domain variable entry value) there few h = absurd h
misread_so told risen name bytes p count (faults.Constraint constraint entry left right) there few h = absurd h
misread_so told risen name bytes p count (faults.Value stated found) there few h = absurd h
misread_so told risen name bytes p count (faults.DualSign constraint entry value) there few h = absurd h
misread_so told risen name bytes p count (faults.Gap value) there few h = absurd h
misread_so told risen name bytes p count (faults.Slope node entry stated found) there few h = absurd h
misread_so told risen name bytes p count (faults.Variable variable entry value) there few h = absurd h
misread_so told risen name bytes p count (faults.Bound stated found) there few h = absurd h
misread_so told risen name bytes p count (faults.Descent value) there few h = absurd h
misread_so told risen name bytes p count (faults.RayDomain variable entry value) there few h = absurd h
misread_so told risen name bytes p count (faults.RayConstraint constraint entry left right) there few h = absurd h
misread_so told risen name bytes p count (faults.RayValue stated found) there few h = absurd h
misread_so told risen name bytes p count (faults.Wide passes) there few h = absurd h
misread_so told risen name bytes p count faults.Memory there few h = tt

pub misread_ends : (told : Option Files) (risen : Type 0) (name bytes slice : List ℕ) (p : Problem) (count : ℕ) (fault : CertFault) (r : Run) → slice ≡ bytes → IsTold told name bytes
    → length bytes ≤ most_bytes Certificate
    → IsReadFault (problem_outline p) count slice fault → r ≡ refused_at 0 fault → ReadsCertificate told risen name p count (Err r)
misread_ends told risen name bytes slice p count fault r same there few h is =
    subst (λ (q : Run). ReadsCertificate told risen name p count (Err q)) (sym is)
    (misread_so told risen name bytes p count fault there few (subst (λ b. IsReadFault (problem_outline p) count b fault) same h))

-- a count that rose in a part of a run rose in the run
pub certificate_rising : (told : Option Files) (risen rose : Type 0) (name : List ℕ) (p : Problem) (count : ℕ) (r : Run) → (risen → rose) → ReadsCertificate told risen name p count (Err r)
    → ReadsCertificate told rose name p count (Err r)
certificate_rising told risen rose name p count run.ReadFault more (inl lacks) = inl lacks
certificate_rising told risen rose name p count run.ReadFault more (inr h) = inr (more h)
certificate_rising told risen rose name p count (run.Refused r) more h = h
certificate_rising told risen rose name p count run.Memory more h = tt
certificate_rising told risen rose name p count run.Usage more h = absurd h
certificate_rising told risen rose name p count (run.Checked c) more h = absurd h
certificate_rising told risen rose name p count (run.Solved word sense outcomes warm) more h = absurd h
certificate_rising told risen rose name p count (run.Certificates text stopped) more h = absurd h
certificate_rising told risen rose name p count (run.Certified n) more h = absurd h
certificate_rising told risen rose name p count (run.CertRefused section fault) more h = h
certificate_rising told risen rose name p count (run.Trial size outcomes) more h = absurd h
certificate_rising told risen rose name p count (run.Filtered outcomes) more h = absurd h
certificate_rising told risen rose name p count (run.Ranged parameter sense outcomes) more h = absurd h

-- ---- what it gives
-- as many settings as lines
pub laid_length : (s : Pairs) (lines : List (List SettingItem)) (ts : List Pairs) → AreLaidOver s lines ts → length ts ≡ length lines
laid_length s [] [] h = refl
laid_length s [] (t ∷ ts) h = absurd h
laid_length s (line ∷ lines) [] h = absurd h
laid_length s (line ∷ lines) (t ∷ ts) h = omega (arith, laid_length s lines ts h.1)

module _ (told : Option Files) (script name file bytes set : List ℕ) (a : Accepted) (lines : List (List SettingItem)) (there : IsTold told script bytes) (gives : Gives bytes (Ok a))
    (continuous : HasNoWhole a.work.problem)
    (told_set : IsTold told name set) (spelled : SpellSettings set lines) where
  gives_settings : (settings : List Pairs) → AreLaidOver a.work.last lines settings → GivesSettings told script name a settings
  gives_settings settings laid = record {
    bytes = bytes;
    are_told = there;
    gives = gives;
    continuous = continuous;
    asked = record { bytes = set; are_told = told_set; lines = lines; spelled = spelled; laid = laid };
  }

  -- the third file has the text of sections
  pub sections_read : (was : Option Files) (p : Problem) (settings : List Pairs) (sections : Sections) → was ≡ told
      → (p ≡ a.work.problem) × AreLaidOver a.work.last lines settings × HasTextOf was file p settings sections
      → GivesSections told script name file p settings sections
  sections_read was p settings sections same (is, laid, has) = record {
    accepted = a;
    is_of = sym is;
    files = gives_settings settings laid;
    has = subst (λ t. HasTextOf t file p settings sections) same has;
  }

  -- or it ends the run
  pub sections_end : (was : Option Files) (risen rose : Type 0) (r : Run) → was ≡ told → (risen → rose)
      → (r ≡ run.Memory) ⊎ ((laid : List Pairs) × AreLaidOver a.work.last lines laid × ReadsCertificate was risen file a.work.problem (length laid) (Err r))
      → EndsFiles told rose script name file r
  sections_end was risen rose r same more (inl e) = at_memory e
  sections_end was risen rose r same more (inr (settings, laid, h)) =
      at_certificate a settings (gives_settings settings laid)
      (certificate_rising told risen rose file a.work.problem (length settings) r more (subst (λ t. ReadsCertificate t risen file a.work.problem (length settings) (Err r)) same h))

module _ (told : Option Files) (script name file : List ℕ) (p : Problem) (settings : List Pairs) (sections : Sections) (g : GivesSections told script name file p settings sections) where
  pub problem_accepted : IsAccepted p
  problem_accepted = subst IsAccepted g.is_of (acceptance g.files.bytes g.accepted g.files.gives).judged.accepted

  pub same_count : length sections.list ≡ length settings
  same_count = g.has.text.certificate.counted

  pub few_sections : length sections.list < 2 ^ 32 - 1
  few_sections = omega (arith, same_count, laid_length g.accepted.work.last g.files.asked.lines settings g.files.asked.laid, g.files.asked.spelled.settings_are.few)

  pub sections_of : AreSectionsOf (problem_outline p) sections.list
  sections_of = g.has.text.certificate.shown
