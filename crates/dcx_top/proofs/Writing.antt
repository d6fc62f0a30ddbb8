-- The ends of a run whose report is written whole or cut off.
use Rattle.std.proofs.Common.{◌≡◌, ◌≢◌, ℕ, ◌⊎◌, List, ◌∙◌, ap, subst, inl, inr}
use Rattle.std.specs.declared.option.Option.{Option}
use Rattle.dcx_host.specs.Pieces.{Handed, WritesWhole, WritesFront}
use Rattle.dcx_report.specs.declared.run.Run.{Run}
use Rattle.dcx_report.specs.declared.run.Run.TheVariants.{Memory}
use Rattle.dcx_report.specs.ReportText.{text_of}
use Rattle.dcx_top.specs.declared.ended.Ended.{Ended}
use Rattle.dcx_top.specs.Ended.{status_of, IsCutStatus, Reports}

-- the status of a run that wants memory
pub five : (old new : Option (List ℕ)) (before now : Option (List Handed)) (risen : Type 0) (ended : Ended) → ended.run ≡ Memory → Reports old new before now risen ended
    → ended.status ≡ 5
five old new before now risen ended is (inl whole) = whole.0 ∙ ap status_of is
five old new before now risen ended is (inr (inl (h, other, four), front)) = absurd (other (ap status_of is))
five old new before now risen ended is (inr (inr same, front)) = same

-- the status where a write failed
pub failed_cut : (risen : Type 0) (ended : Ended) → risen → ((status_of ended.run ≢ 5) × (ended.status ≡ 4)) ⊎ ((status_of ended.run ≡ 5) × (ended.status ≡ 5)) → IsCutStatus risen ended
failed_cut risen ended h (inl (other, four)) = inl (h, other, four)
failed_cut risen ended h (inr (wants, five)) = inr five

-- what is written of a text is written of the report that the text is
pub ends_whole : (old new : Option (List ℕ)) (before now : Option (List Handed)) (risen : Type 0) (status : ℕ) (run : Run) (text : List ℕ) → text ≡ text_of run
    → status ≡ status_of run → WritesWhole old new before now text → Reports old new before now risen (record { status = status; run = run })
ends_whole old new before now risen status run text e is whole = inl (is, subst (WritesWhole old new before now) e whole)

pub ends_early : (old new : Option (List ℕ)) (before now : Option (List Handed)) (risen : Type 0) (status : ℕ) (run : Run) (text : List ℕ) → text ≡ text_of run
    → IsCutStatus risen (record { status = status; run = run }) → WritesFront old new before now text → Reports old new before now risen (record { status = status; run = run })
ends_early old new before now risen status run text e why front = inr (why, subst (WritesFront old new before now) e front)
