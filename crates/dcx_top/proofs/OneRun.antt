-- Words and told files have one run.
use Rattle.std.proofs.Common.{◌≡◌, inl, inr, ℕ, Bool, false, List, [], Option, Some, None, refl, sym, ap, subst, ◌∙◌, true≢false}
use Rattle.std.proofs.lemmas.Option.{none-some}
use Rattle.dcx_elab.specs.declared.work.Work.{Work}
use Rattle.dcx_host.specs.Faults.{Rose}
use Rattle.dcx_host.specs.Files.{Files}
use Rattle.dcx_refusal.specs.declared.checked.Checked.{Checked}
use Rattle.dcx_refusal.specs.declared.refusal.Refusal.{Refusal}
use Rattle.dcx_front.specs.Checks.{IsFoundOf}
use Rattle.dcx_front.proofs.OneCheck.{one_found}
use Rattle.dcx_answer.specs.declared.cert_fault.CertFault.{CertFault}
use Rattle.dcx_answer.specs.declared.filter_outcome.FilterOutcome.{FilterOutcome}
use Rattle.dcx_answer.specs.declared.range_outcome.RangeOutcome.{RangeOutcome}
use Rattle.dcx_tree.specs.declared.constraint.Sense.{Sense}
use Rattle.dcx_report.specs.declared.run.Run.{Run}
use Rattle.dcx_report.specs.declared.run.Run.TheVariants as run
use Rattle.dcx_words.specs.Commands.{Command, check, certificate, certify, migrate, iis, range, command_of}
use Rattle.dcx_top.specs.Asked.{IsAcceptedWork}
use Rattle.dcx_top.specs.Runs.{IsChecked, IsSolvedRun, IsFilteredRun, IsRangedRun, AreBytesOf, IsCertifiedRun, IsCertRefusedRun, misread, failed, IsRefusedRun, Causes}
use Rattle.dcx_top.specs.OneRun.{IsAnswered, AreOneRun, told_same, told_filtered, told_ranged, no_files, IsOnlyRun}
use Rattle.dcx_top.proofs.Trials.{trial_caused}
use Rattle.dcx_top.proofs.Refusals.{one_problem, same_command}
use Rattle.dcx_top.proofs.ByKind.{Kind, checks, solves, writes, certifies, migrates, filters, ranges, is_reading}
use Rattle.dcx_top.proofs.OneKind.{Asks, may_be, same_kind, ask_checks, ask_solves, ask_filters, ask_ranges, ask_writes, ask_migrates, ask_certifies, no_other}
use Rattle.dcx_top.proofs.OneSolved.{solved_once}
use Rattle.dcx_top.proofs.OneFiltered.{filtered_once}
use Rattle.dcx_top.proofs.OneRanged.{ranged_once}
use Rattle.dcx_top.proofs.OneRefusal.{command_of_refused, refused_once, refused_or_checked, refused_or_solved, refused_or_filtered, refused_or_ranged}
use Rattle.dcx_top.proofs.OneRefusal.{refused_or_written, refused_or_migrated, refused_or_certified, refused_or_cert_refused}
use Rattle.dcx_top.proofs.OneCertificate.{written_once, migrated_once, certified_once, cert_refused_once, certified_or_refused, migrated_or_refused}

module _ (words : List (List ℕ)) (files : Files) where
  -- ---- two runs of one kind
  checked_once : (c d : Checked) → IsChecked words (Some files) c → IsChecked words (Some files) d → c ≡ d
  checked_once c d h k =
      let same = same_command words files (check h.script) h.form (check k.script) k.form in
      let one = one_problem files (check h.script) h.work k.work h.problem (subst (λ x. IsAcceptedWork (Some files) x k.work) same k.problem) in
      one_found k.work.problem c d (subst (λ (x : Work). IsFoundOf x.problem c) one h.found) k.found

  written_or_migrated : Asks words writes → Asks words migrates → ⊥
  written_or_migrated a b = true≢false (sym (same_kind words files writes a migrates b))

  module _ (old new was now : ℕ) where
    bytes_once : (bytes others : List ℕ) (s t : Bool) → AreBytesOf words (Some files) old new bytes s → AreBytesOf words (Some files) was now others t
        → AreOneRun (run.Certificates bytes s) (run.Certificates others t)
    bytes_once bytes others s t (inl h) (inl k) = written_once words files old new was now bytes others s t h k
    bytes_once bytes others s t (inl h) (inr k) = absurd (written_or_migrated (ask_writes words files old new bytes s h) (ask_migrates words files others k.0))
    bytes_once bytes others s t (inr h) (inl k) = absurd (written_or_migrated (ask_writes words files was now others t k) (ask_migrates words files bytes h.0))
    bytes_once bytes others s t (inr (h, off, still)) (inr (k, down, same)) =
        let text = migrated_once words files bytes others h k in
        let flag : s ≡ t = off ∙ sym down in
        told_same (λ i. run.Certificates (text i) (flag i))

  -- ---- all runs
  module _ (rose : Type 0) (was now : ℕ) where
    -- a run of another kind
    apart : {A : Type 0} (k : Kind) → Asks words k → (s : Run) → may_be k s ≡ false → Causes words (Some files) rose was now s → A
    apart k a s off h = no_other words files k a rose was now s off h

    -- no command
    uncommanded : {A : Type 0} (c : Command) → command_of words ≡ None → command_of words ≡ Some c → A
    uncommanded c none is = absurd (none-some c (sym none ∙ is))

    of_usage : (s : Run) → command_of words ≡ None → Causes words (Some files) rose was now s → IsAnswered s → AreOneRun run.Usage s
    of_usage run.Usage h k j = told_same refl
    of_usage (run.Refused t) h k j = let (c, is) = command_of_refused words files t k.0 in uncommanded c h is
    of_usage (run.Checked d) h k j = uncommanded (check k.0.script) h k.0.form
    of_usage (run.Solved w z qs u) h k j = uncommanded k.command h k.asked.form
    of_usage (run.Certificates b q) h (inl k) j = uncommanded (certificate k.script k.name k.limit) h k.asked.form
    of_usage (run.Certificates b q) h (inr (k, off, still)) j = uncommanded (migrate k.script k.settings k.name) h k.passed.reads.files.asked.form
    of_usage (run.Certified m) h k j = uncommanded (certify k.0.script k.0.settings k.0.name) h k.0.passed.reads.files.asked.form
    of_usage (run.CertRefused l g) h (misread c x k, still) j = uncommanded c h x.asked.form
    of_usage (run.CertRefused l g) h (failed c list x k, still) j = uncommanded c h x.files.asked.form
    of_usage (run.Trial m qs) h k j = uncommanded k.command h k.asked.form
    of_usage (run.Filtered qs) h k j = uncommanded (iis k.script k.name k.limit) h k.asked.form
    of_usage (run.Ranged other way qs) h k j = uncommanded (range k.script k.name other k.limit) h k.asked.form
    of_usage run.ReadFault h k j = absurd j
    of_usage run.Memory h k j = absurd j

    of_refused : (r : Refusal) (s : Run) → IsRefusedRun words (Some files) r → Causes words (Some files) rose was now s → IsAnswered s → AreOneRun (run.Refused r) s
    of_refused r run.Usage h k j = let (c, is) = command_of_refused words files r h in uncommanded c k.0 is
    of_refused r (run.Refused t) h k j = told_same (ap run.Refused (refused_once words files r t h k.0))
    of_refused r (run.Checked d) h k j = absurd (refused_or_checked words files r d h k.0)
    of_refused r (run.Solved w z qs u) h k j = absurd (refused_or_solved words files r was now (run.Solved w z qs u) h k)
    of_refused r (run.Certificates b q) h (inl k) j = absurd (refused_or_written words files r was now b q h k)
    of_refused r (run.Certificates b q) h (inr (k, off, still)) j = absurd (refused_or_migrated words files r b h k)
    of_refused r (run.Certified m) h k j = absurd (refused_or_certified words files r m h k.0)
    of_refused r (run.CertRefused l g) h k j = absurd (refused_or_cert_refused words files r l g h k.0)
    of_refused r (run.Trial m qs) h k j = absurd (refused_or_solved words files r was now (run.Trial m qs) h k)
    of_refused r (run.Filtered qs) h k j = absurd (refused_or_filtered words files r was now qs h k)
    of_refused r (run.Ranged other way qs) h k j = absurd (refused_or_ranged words files r was now other way qs h k)
    of_refused r run.ReadFault h k j = absurd j
    of_refused r run.Memory h k j = absurd j

    of_checked : (c : Checked) (s : Run) → IsChecked words (Some files) c → Causes words (Some files) rose was now s → IsAnswered s → AreOneRun (run.Checked c) s
    of_checked c run.Usage h k j = apart checks (ask_checks words files c h) run.Usage refl k
    of_checked c (run.Refused t) h k j = absurd (refused_or_checked words files t c k.0 h)
    of_checked c (run.Checked d) h k j = told_same (ap run.Checked (checked_once c d h k.0))
    of_checked c (run.Solved w z qs u) h k j = apart checks (ask_checks words files c h) (run.Solved w z qs u) refl k
    of_checked c (run.Certificates b q) h k j = apart checks (ask_checks words files c h) (run.Certificates b q) refl k
    of_checked c (run.Certified m) h k j = apart checks (ask_checks words files c h) (run.Certified m) refl k
    of_checked c (run.CertRefused l g) h k j = apart checks (ask_checks words files c h) (run.CertRefused l g) refl k
    of_checked c (run.Trial m qs) h k j = apart checks (ask_checks words files c h) (run.Trial m qs) refl k
    of_checked c (run.Filtered qs) h k j = apart checks (ask_checks words files c h) (run.Filtered qs) refl k
    of_checked c (run.Ranged other way qs) h k j = apart checks (ask_checks words files c h) (run.Ranged other way qs) refl k
    of_checked c run.ReadFault h k j = absurd j
    of_checked c run.Memory h k j = absurd j

    of_solved : (old new : ℕ) (r s : Run) → IsSolvedRun words (Some files) old new r → Causes words (Some files) rose was now s → IsAnswered s → AreOneRun r s
    of_solved old new r run.Usage h k j = apart solves (ask_solves words files old new r h) run.Usage refl k
    of_solved old new r (run.Refused t) h k j = absurd (refused_or_solved words files t old new r k.0 h)
    of_solved old new r (run.Checked d) h k j = apart solves (ask_solves words files old new r h) (run.Checked d) refl k
    of_solved old new r (run.Solved w z qs u) h k j = solved_once words files old new was now r (run.Solved w z qs u) h k
    of_solved old new r (run.Certificates b q) h k j = apart solves (ask_solves words files old new r h) (run.Certificates b q) refl k
    of_solved old new r (run.Certified m) h k j = apart solves (ask_solves words files old new r h) (run.Certified m) refl k
    of_solved old new r (run.CertRefused l g) h k j = apart solves (ask_solves words files old new r h) (run.CertRefused l g) refl k
    of_solved old new r (run.Trial m qs) h k j = solved_once words files old new was now r (run.Trial m qs) h k
    of_solved old new r (run.Filtered qs) h k j = apart solves (ask_solves words files old new r h) (run.Filtered qs) refl k
    of_solved old new r (run.Ranged other way qs) h k j = apart solves (ask_solves words files old new r h) (run.Ranged other way qs) refl k
    of_solved old new r run.ReadFault h k j = absurd j
    of_solved old new r run.Memory h k j = absurd j

    of_certified : (n : ℕ) (s : Run) → IsCertifiedRun words (Some files) n → Causes words (Some files) rose was now s → IsAnswered s → AreOneRun (run.Certified n) s
    of_certified n run.Usage h k j = apart certifies (ask_certifies words files n h) run.Usage refl k
    of_certified n (run.Refused t) h k j = absurd (refused_or_certified words files t n k.0 h)
    of_certified n (run.Checked d) h k j = apart certifies (ask_certifies words files n h) (run.Checked d) refl k
    of_certified n (run.Solved w z qs u) h k j = apart certifies (ask_certifies words files n h) (run.Solved w z qs u) refl k
    of_certified n (run.Certificates b q) h k j = apart certifies (ask_certifies words files n h) (run.Certificates b q) refl k
    of_certified n (run.Certified m) h k j = told_same (ap run.Certified (certified_once words files n m h k.0))
    of_certified n (run.CertRefused l g) h k j = absurd (certified_or_refused words files n l g h k.0)
    of_certified n (run.Trial m qs) h k j = apart certifies (ask_certifies words files n h) (run.Trial m qs) refl k
    of_certified n (run.Filtered qs) h k j = apart certifies (ask_certifies words files n h) (run.Filtered qs) refl k
    of_certified n (run.Ranged other way qs) h k j = apart certifies (ask_certifies words files n h) (run.Ranged other way qs) refl k
    of_certified n run.ReadFault h k j = absurd j
    of_certified n run.Memory h k j = absurd j

    of_filtered : (old new : ℕ) (os : List FilterOutcome) (s : Run) → IsFilteredRun words (Some files) old new os → Causes words (Some files) rose was now s → IsAnswered s
        → AreOneRun (run.Filtered os) s
    of_filtered old new os run.Usage h k j = apart filters (ask_filters words files old new os h) run.Usage refl k
    of_filtered old new os (run.Refused t) h k j = absurd (refused_or_filtered words files t old new os k.0 h)
    of_filtered old new os (run.Checked d) h k j = apart filters (ask_filters words files old new os h) (run.Checked d) refl k
    of_filtered old new os (run.Solved w z qs u) h k j = apart filters (ask_filters words files old new os h) (run.Solved w z qs u) refl k
    of_filtered old new os (run.Certificates b q) h k j = apart filters (ask_filters words files old new os h) (run.Certificates b q) refl k
    of_filtered old new os (run.Certified m) h k j = apart filters (ask_filters words files old new os h) (run.Certified m) refl k
    of_filtered old new os (run.CertRefused l g) h k j = apart filters (ask_filters words files old new os h) (run.CertRefused l g) refl k
    of_filtered old new os (run.Trial m qs) h k j = apart filters (ask_filters words files old new os h) (run.Trial m qs) refl k
    of_filtered old new os (run.Filtered qs) h k j = told_filtered os qs refl refl (filtered_once words files old new was now os qs h k)
    of_filtered old new os (run.Ranged other way qs) h k j = apart filters (ask_filters words files old new os h) (run.Ranged other way qs) refl k
    of_filtered old new os run.ReadFault h k j = absurd j
    of_filtered old new os run.Memory h k j = absurd j

    of_ranged : (old new : ℕ) (name : List ℕ) (sense : Sense) (os : List RangeOutcome) (s : Run) → IsRangedRun words (Some files) old new name sense os
        → Causes words (Some files) rose was now s → IsAnswered s → AreOneRun (run.Ranged name sense os) s
    of_ranged old new name sense os run.Usage h k j = apart ranges (ask_ranges words files old new name sense os h) run.Usage refl k
    of_ranged old new name sense os (run.Refused t) h k j = absurd (refused_or_ranged words files t old new name sense os k.0 h)
    of_ranged old new name sense os (run.Checked d) h k j = apart ranges (ask_ranges words files old new name sense os h) (run.Checked d) refl k
    of_ranged old new name sense os (run.Solved w z qs u) h k j = apart ranges (ask_ranges words files old new name sense os h) (run.Solved w z qs u) refl k
    of_ranged old new name sense os (run.Certificates b q) h k j = apart ranges (ask_ranges words files old new name sense os h) (run.Certificates b q) refl k
    of_ranged old new name sense os (run.Certified m) h k j = apart ranges (ask_ranges words files old new name sense os h) (run.Certified m) refl k
    of_ranged old new name sense os (run.CertRefused l g) h k j = apart ranges (ask_ranges words files old new name sense os h) (run.CertRefused l g) refl k
    of_ranged old new name sense os (run.Trial m qs) h k j = apart ranges (ask_ranges words files old new name sense os h) (run.Trial m qs) refl k
    of_ranged old new name sense os (run.Filtered qs) h k j = apart ranges (ask_ranges words files old new name sense os h) (run.Filtered qs) refl k
    of_ranged old new name sense os (run.Ranged other way qs) h k j =
        let (called, way_is, alike) = ranged_once words files old new was now name other sense way os qs h k in
        told_ranged name sense os qs refl (λ i. run.Ranged (sym called i) (sym way_is i) qs) alike
    of_ranged old new name sense os run.ReadFault h k j = absurd j
    of_ranged old new name sense os run.Memory h k j = absurd j

    -- a certificate that is written, or one that is refused, beside a run of another kind
    not_bytes : {A : Type 0} (k : Kind) → Asks words k → may_be k (run.Certificates [] false) ≡ false → (old new : ℕ) (b : List ℕ) (z : Bool) → AreBytesOf words (Some files) old new b z → A
    not_bytes k a off old new b z h = no_other words files k a rose old new (run.Certificates b z) off h

    not_refused : {A : Type 0} (k : Kind) → Asks words k → is_reading k ≡ false → (n : ℕ) (f : CertFault) → IsCertRefusedRun words (Some files) n f → A
    not_refused k a off n f h = no_other words files k a rose was was (run.CertRefused n f) off (h, refl)

    of_bytes : (old new : ℕ) (b : List ℕ) (z : Bool) (s : Run) → AreBytesOf words (Some files) old new b z → Causes words (Some files) rose was now s → IsAnswered s
        → AreOneRun (run.Certificates b z) s
    of_bytes old new b z run.Usage (inl h) k j = uncommanded (certificate h.script h.name h.limit) k.0 h.asked.form
    of_bytes old new b z run.Usage (inr (h, off, still)) k j = uncommanded (migrate h.script h.settings h.name) k.0 h.passed.reads.files.asked.form
    of_bytes old new b z (run.Refused t) (inl h) k j = absurd (refused_or_written words files t old new b z k.0 h)
    of_bytes old new b z (run.Refused t) (inr (h, off, still)) k j = absurd (refused_or_migrated words files t b k.0 h)
    of_bytes old new b z (run.Checked d) h k j = not_bytes checks (ask_checks words files d k.0) refl old new b z h
    of_bytes old new b z (run.Solved w y qs u) h k j = not_bytes solves (ask_solves words files was now (run.Solved w y qs u) k) refl old new b z h
    of_bytes old new b z (run.Certificates c q) h k j = bytes_once old new was now b c z q h k
    of_bytes old new b z (run.Certified m) h k j = not_bytes certifies (ask_certifies words files m k.0) refl old new b z h
    of_bytes old new b z (run.CertRefused l g) (inl h) k j = not_refused writes (ask_writes words files old new b z h) refl l g k.0
    of_bytes old new b z (run.CertRefused l g) (inr (h, off, still)) k j = absurd (migrated_or_refused words files b l g h k.0)
    of_bytes old new b z (run.Trial m qs) h k j = not_bytes solves (ask_solves words files was now (run.Trial m qs) k) refl old new b z h
    of_bytes old new b z (run.Filtered qs) h k j = not_bytes filters (ask_filters words files was now qs k) refl old new b z h
    of_bytes old new b z (run.Ranged other way qs) h k j = not_bytes ranges (ask_ranges words files was now other way qs k) refl old new b z h
    of_bytes old new b z run.ReadFault h k j = absurd j
    of_bytes old new b z run.Memory h k j = absurd j

    of_cert_refused : (n : ℕ) (f : CertFault) (s : Run) → IsCertRefusedRun words (Some files) n f → Causes words (Some files) rose was now s → IsAnswered s → AreOneRun (run.CertRefused n f) s
    of_cert_refused n f run.Usage (misread c x h) k j = uncommanded c k.0 x.asked.form
    of_cert_refused n f run.Usage (failed c list x h) k j = uncommanded c k.0 x.files.asked.form
    of_cert_refused n f (run.Refused t) h k j = absurd (refused_or_cert_refused words files t n f k.0 h)
    of_cert_refused n f (run.Checked d) h k j = not_refused checks (ask_checks words files d k.0) refl n f h
    of_cert_refused n f (run.Solved w z qs u) h k j = not_refused solves (ask_solves words files was now (run.Solved w z qs u) k) refl n f h
    of_cert_refused n f (run.Certificates b q) h (inl k) j = not_refused writes (ask_writes words files was now b q k) refl n f h
    of_cert_refused n f (run.Certificates b q) h (inr (k, off, still)) j = absurd (migrated_or_refused words files b n f k h)
    of_cert_refused n f (run.Certified m) h k j = absurd (certified_or_refused words files m n f k.0 h)
    of_cert_refused n f (run.CertRefused l g) h k j = told_same (cert_refused_once words files n l f g h k.0)
    of_cert_refused n f (run.Trial m qs) h k j = not_refused solves (ask_solves words files was now (run.Trial m qs) k) refl n f h
    of_cert_refused n f (run.Filtered qs) h k j = not_refused filters (ask_filters words files was now qs k) refl n f h
    of_cert_refused n f (run.Ranged other way qs) h k j = not_refused ranges (ask_ranges words files was now other way qs k) refl n f h
    of_cert_refused n f run.ReadFault h k j = absurd j
    of_cert_refused n f run.Memory h k j = absurd j

    one : (risen : Type 0) (old new : ℕ) (r s : Run) → Causes words (Some files) risen old new r → Causes words (Some files) rose was now s → IsAnswered r → IsAnswered s → AreOneRun r s
    one risen old new run.Usage s h k i j = of_usage s h.0 k j
    one risen old new (run.Refused r) s h k i j = of_refused r s h.0 k j
    one risen old new (run.Checked c) s h k i j = of_checked c s h.0 k j
    one risen old new (run.Solved w z os u) s h k i j = of_solved old new (run.Solved w z os u) s h k j
    one risen old new (run.Certificates b z) s h k i j = of_bytes old new b z s h k j
    one risen old new (run.Certified n) s h k i j = of_certified n s h.0 k j
    one risen old new (run.CertRefused m f) s h k i j = of_cert_refused m f s h.0 k j
    one risen old new (run.Trial n os) s h k i j = of_solved old new (run.Trial n os) s h k j
    one risen old new (run.Filtered os) s h k i j = of_filtered old new os s h k j
    one risen old new (run.Ranged name sense os) s h k i j = of_ranged old new name sense os s h k j
    one risen old new run.ReadFault s h k i j = absurd i
    one risen old new run.Memory s h k i j = absurd i

pub only_run : (words : List (List ℕ)) (told : Option Files) (risen : Type 0) (old new : ℕ) (r : Run) → Causes words told risen old new r → IsOnlyRun words told r
only_run words None risen old new r h = λ size limit form i s before after was now k j.
    one words no_files (Rose before after) was now risen old new r s (trial_caused words size limit form risen old new r h) (trial_caused words size limit form (Rose before after) was now s k) i j
only_run words (Some files) risen old new r h = λ i s before after was now k j. one words files (Rose before after) was now risen old new r s h k i j
