-- Two runs of one command over the same contents tell the same.
use Rattle.std.proofs.Common.{◌≡◌, ◌≢◌, ℕ, ◌+◌, Bool, true, false, ◌||◌, ◌&&◌, not, cond, if◌then◌else◌, List, [], ◌∷◌, ◌++◌, codes, decimal, count_by, Option}
use Rattle.std.proofs.Common.{Some, None, refl, sym, ap, ap₂, subst, ◌∙◌, true≢false}
use Rattle.std.specs.List.{AllByRecursion, AllZip, list_any, list_all, flat_map, enumerate_from}
use Rattle.std.proofs.lemmas.Bool.{or_parts}
use Rattle.std.proofs.lemmas.List.Elements.{All-from_recursion}
use Rattle.std.proofs.lemmas.List.Sums.{sum_by-cons}
use Rattle.dcx_shape.specs.declared.place.Place.{Place}
use Rattle.dcx_host.specs.Faults.{Rose}
use Rattle.dcx_host.specs.Files.{Files}
use Rattle.dcx_tree.specs.declared.constraint.Sense.{Sense}
use Rattle.dcx_tree.specs.declared.constraint.Sense.TheVariants.{Minimize}
use Rattle.dcx_answer.specs.declared.outcome.Outcome.{Outcome}
use Rattle.dcx_answer.specs.declared.outcome.OutcomeEnd.{OutcomeEnd}
use Rattle.dcx_answer.specs.declared.outcome.OutcomeEnd.TheVariants as the
use Rattle.dcx_answer.specs.declared.filter_stop.FilterStop.TheVariants as filters
use Rattle.dcx_answer.specs.declared.filter_outcome.FilterEnd.{FilterEnd}
use Rattle.dcx_answer.specs.declared.filter_outcome.FilterEnd.TheVariants as filter
use Rattle.dcx_answer.specs.declared.filter_outcome.FilterOutcome.{FilterOutcome}
use Rattle.dcx_answer.specs.declared.range_stop.RangeStop.TheVariants as ranges
use Rattle.dcx_answer.specs.declared.range_outcome.RangeEnd.{RangeEnd}
use Rattle.dcx_answer.specs.declared.range_outcome.RangeEnd.TheVariants as range
use Rattle.dcx_answer.specs.declared.range_outcome.RangeOutcome.{RangeOutcome}
use Rattle.dcx_answer.specs.declared.whole_answer.WholeAnswer.{WholeAnswer}
use Rattle.dcx_answer.specs.declared.whole_answer.WholeAnswer.TheVariants.{Optimal, Infeasible}
use Rattle.dcx_report.specs.declared.run.Run.{Run}
use Rattle.dcx_report.specs.declared.run.Run.TheVariants as run
use Rattle.dcx_report.specs.declared.run.Word.{Word}
use Rattle.dcx_report.specs.Ends.{is_answer, is_filtered, is_ranged, wants_memory, filter_wants_memory, range_wants_memory}
use Rattle.dcx_report.specs.OutcomeText.{word_text, end_text, outcome_text, outcome_lines, counts_line, count_line, warm_line}
use Rattle.dcx_report.specs.TrialText.{trial_end, trial_line, setting_lines, trial_lines}
use Rattle.dcx_report.specs.WholeText.{whole_text}
use Rattle.dcx_report.specs.ReportText.{text_of}
use Rattle.dcx_outcomes.specs.Asking.{WantsMemory as IsWanting}
use Rattle.dcx_outcomes.specs.Filters.{filter_end}
use Rattle.dcx_outcomes.specs.Ranges.{range_end}
use Rattle.dcx_outcomes.specs.Laws.{IsSameWhole, IsSameOutcome, WantsMemory, HadMemory, AreAlikeWarm, AreOneFound}
use Rattle.dcx_outcomes.specs.FilterLaws.{HadMemory as HadFilterMemory}
use Rattle.dcx_outcomes.specs.RangeLaws.{HadMemory as HadRangeMemory}
use Rattle.dcx_outcomes.proofs.OneOutcome.{same_of}
use Rattle.dcx_top.specs.Ended.{status_of_all, status_of}
use Rattle.dcx_top.specs.Runs.{Causes}
use Rattle.dcx_top.specs.OneRun.{IsAnswered, AreOneRun, told_same, told_solved, told_tried, told_filtered, told_ranged}
use Rattle.dcx_top.specs.SameReport.{LacksNothing, AreReportedAlike, SameContentsSameReport}
use Rattle.dcx_top.proofs.OneRun.{only_run}

-- ---- where memory was not wanting
none_wanted : {A : Type 0} (answered wanted : A → Bool) (os : List A) → status_of_all answered wanted os ≢ 5 → list_any wanted os ≡ false
none_wanted answered wanted os n = by (list_any wanted os) refl
  where
    by : (b : Bool) → list_any wanted os ≡ b → list_any wanted os ≡ false
    by false e = e
    by true e = absurd (n (ap (λ b. if b then 5 else (if list_all answered os then 0 else 6)) e))

each_had : {A : Type 0} (wanted : A → Bool) (P : A → Type 0) → ((a : A) → wanted a ≡ false → P a) → (os : List A) → list_any wanted os ≡ false → AllByRecursion P os
each_had wanted P f [] e = tt
each_had wanted P f (o ∷ os) e =
    let both = or_parts (wanted o) (list_any wanted os) e in
    (f o both.0, each_had wanted P f os both.1)

all_had : {A : Type 0} (answered wanted : A → Bool) (P : A → Type 0) → ((a : A) → wanted a ≡ false → P a) → (os : List A) → status_of_all answered wanted os ≢ 5 → AllByRecursion P os
all_had answered wanted P f os n = each_had wanted P f os (none_wanted answered wanted os n)

had : (x : OutcomeEnd) → wants_memory x ≡ false → ¬ WantsMemory x
had (the.Answer answer) e w = w
had (the.Whole answer) e w = w
had (the.Branch stop) e w = true≢false (sym (ap (λ z. wants_memory (the.Branch z)) w) ∙ e)
had (the.Stop stop) e w = true≢false (sym (ap (λ z. wants_memory (the.Stop z)) w) ∙ e)

had_filter : (x : FilterEnd) → filter_wants_memory x ≡ false → ¬ IsWanting filters.Memory (filter_end x)
had_filter (filter.Filtered found) e w = w
had_filter (filter.Filter stop) e w = true≢false (sym (ap (λ z. filter_wants_memory (filter.Filter z)) w) ∙ e)
had_filter (filter.Stop stop) e w = true≢false (sym (ap (λ z. filter_wants_memory (filter.Stop z)) w) ∙ e)

had_range : (x : RangeEnd) → range_wants_memory x ≡ false → ¬ IsWanting ranges.Memory (range_end x)
had_range (range.Ranged ranged) e w = w
had_range (range.Range stop) e w = true≢false (sym (ap (λ z. range_wants_memory (range.Range z)) w) ∙ e)
had_range (range.Stop stop) e w = true≢false (sym (ap (λ z. range_wants_memory (range.Stop z)) w) ∙ e)

-- ---- lists
zip_had : {A : Type 0} (P : A → Type 0) (R : A → A → Type 0) (os qs : List A) → AllByRecursion P os → AllByRecursion P qs → AllZip (λ o q. P o → P q → R o q) os qs → AllZip R os qs
zip_had P R [] [] h k a = tt
zip_had P R [] (q ∷ qs) h k a = absurd a
zip_had P R (o ∷ os) [] h k a = absurd a
zip_had P R (o ∷ os) (q ∷ qs) h k a = (a.0 h.0 k.0, zip_had P R os qs h.1 k.1 a.1)

same_list : {A : Type 0} (os qs : List A) → AllZip (λ (o q : A). o ≡ q) os qs → os ≡ qs
same_list [] [] a = refl
same_list [] (q ∷ qs) a = absurd a
same_list (o ∷ os) [] a = absurd a
same_list (o ∷ os) (q ∷ qs) a = ap₂ ◌∷◌ a.0 (same_list os qs a.1)

same_had : {A : Type 0} (P : A → Type 0) (os qs : List A) → AllByRecursion P os → AllByRecursion P qs → AllZip (λ o q. P o → P q → o ≡ q) os qs → os ≡ qs
same_had P os qs h k a = same_list os qs (zip_had P (λ o q. o ≡ q) os qs h k a)

same_warm : (os qs : List Outcome) → AllByRecursion HadMemory os → AllByRecursion HadMemory qs → AreAlikeWarm os qs → AllZip IsSameOutcome os qs
same_warm [] [] h k a = tt
same_warm [] (q ∷ qs) h k a = absurd a
same_warm (o ∷ os) [] h k a = absurd a
same_warm (o ∷ os) (q ∷ qs) h k a = let both = a h.0 k.0 in (both.0, same_warm os qs h.1 k.1 both.1)

same_found : (os qs : List Outcome) (m n : Option ℕ) → AllByRecursion HadMemory os → AllByRecursion HadMemory qs → AreOneFound os m qs n → AllZip IsSameOutcome os qs × (m ≡ n)
same_found os qs None None h k a = (zip_had HadMemory IsSameOutcome os qs h k a, refl)
same_found os qs (Some m) (Some n) h k a = (same_warm os qs h k a.alike, ap Some (a.count (All-from_recursion HadMemory os h) (All-from_recursion HadMemory qs k)))
same_found os qs None (Some n) h k a = absurd a
same_found os qs (Some m) None h k a = absurd a

-- ---- outcomes that are the same but for trees, which no report tells
whole_text_same : (sense : Sense) (a b : WholeAnswer) → IsSameWhole a b → whole_text sense a ≡ whole_text sense b
unfolding whole_text
whole_text_same sense (Optimal n x t c) (Optimal m y u d) (e, f, g) = λ i. whole_text sense (Optimal (e i) (f i) t (g i))
whole_text_same sense (Optimal n x t c) (Infeasible u d) h = absurd h
whole_text_same sense (Infeasible t c) (Optimal m y u d) h = absurd h
whole_text_same sense (Infeasible t c) (Infeasible u d) h = λ i. whole_text sense (Infeasible t (h i))

-- how a solve and a trial tell an outcome
outcome_text_same : (word : Word) (sense : Sense) (n : ℕ) (o q : Outcome) → IsSameOutcome o q → outcome_text word sense (n, o) ≡ outcome_text word sense (n, q)
unfolding outcome_text end_text
outcome_text_same word sense n o q h =
    ap (λ t. word_text word ++ codes " " ++ decimal n ++ t)
    (same_of (end_text sense o.place) (whole_text_same sense) o.end q.end h.end ∙ ap (λ (p : Option Place). end_text sense p q.end) h.place)

trial_line_same : (n : ℕ) (o q : Outcome) → IsSameOutcome o q → trial_line (n, o) ≡ trial_line (n, q)
unfolding trial_line trial_end
trial_line_same n o q h =
    ap (λ t. codes "setting " ++ decimal n ++ t)
    (same_of (trial_end o.place) (whole_text_same Minimize) o.end q.end h.end ∙ ap (λ (p : Option Place). trial_end p q.end) h.place)

-- a text that tells the same of both, one after the other
lines_same : (text : ℕ × Outcome → List ℕ) → ((n : ℕ) (o q : Outcome) → IsSameOutcome o q → text (n, o) ≡ text (n, q)) → (n : ℕ) (os qs : List Outcome) → AllZip IsSameOutcome os qs
    → flat_map text (enumerate_from n os) ≡ flat_map text (enumerate_from n qs)
lines_same text same n [] [] a = refl
lines_same text same n [] (q ∷ qs) a = absurd a
lines_same text same n (o ∷ os) [] a = absurd a
lines_same text same n (o ∷ os) (q ∷ qs) a = ap₂ ◌++◌ (same n o q a.0) (lines_same text same (n + 1) os qs a.1)

-- a test that tells the same of both ends
module _ (f : OutcomeEnd → Bool) (same : (a b : WholeAnswer) → IsSameWhole a b → f (the.Whole a) ≡ f (the.Whole b)) where
  counts_same : (os qs : List Outcome) → AllZip IsSameOutcome os qs → count_by (λ o. f o.end) os ≡ count_by (λ o. f o.end) qs
  counts_same [] [] a = refl
  counts_same [] (q ∷ qs) a = absurd a
  counts_same (o ∷ os) [] a = absurd a
  counts_same (o ∷ os) (q ∷ qs) a =
      sum_by-cons (λ (x : Outcome). cond (f x.end) 1 0) o os
      ∙ ap₂ (λ b c. cond b 1 0 + c) (same_of f same o.end q.end a.0.end) (counts_same os qs a.1)
      ∙ sym (sum_by-cons (λ (x : Outcome). cond (f x.end) 1 0) q qs)

  all_same : (os qs : List Outcome) → AllZip IsSameOutcome os qs → list_all (λ (o : Outcome). f o.end) os ≡ list_all (λ (o : Outcome). f o.end) qs
  all_same [] [] a = refl
  all_same [] (q ∷ qs) a = absurd a
  all_same (o ∷ os) [] a = absurd a
  all_same (o ∷ os) (q ∷ qs) a = ap₂ (λ b c. b && c) (same_of f same o.end q.end a.0.end) (all_same os qs a.1)

  any_same : (os qs : List Outcome) → AllZip IsSameOutcome os qs → list_any (λ (o : Outcome). f o.end) os ≡ list_any (λ (o : Outcome). f o.end) qs
  any_same [] [] a = refl
  any_same [] (q ∷ qs) a = absurd a
  any_same (o ∷ os) [] a = absurd a
  any_same (o ∷ os) (q ∷ qs) a = ap₂ (λ b c. b || c) (same_of f same o.end q.end a.0.end) (any_same os qs a.1)

count_same : (os qs : List Outcome) → AllZip IsSameOutcome os qs → count_line os ≡ count_line qs
unfolding count_line
count_same os qs a = ap₂ counts_line (counts_same is_answer (λ x y h. refl) os qs a) (counts_same (λ x. not (is_answer x)) (λ x y h. refl) os qs a)

status_same : (os qs : List Outcome) → AllZip IsSameOutcome os qs
    → status_of_all (λ (o : Outcome). is_answer o.end) (λ (o : Outcome). wants_memory o.end) os ≡ status_of_all (λ (o : Outcome). is_answer o.end) (λ (o : Outcome). wants_memory o.end) qs
status_same os qs a = ap₂ (λ b c. if b then 5 else (if c then 0 else 6)) (any_same wants_memory (λ x y h. refl) os qs a) (all_same is_answer (λ x y h. refl) os qs a)

solved_alike : (word : Word) (sense : Sense) (os qs : List Outcome) (m n : Option ℕ) → AllZip IsSameOutcome os qs → m ≡ n → AreReportedAlike (run.Solved word sense os m) (run.Solved word sense qs n)
unfolding text_of outcome_lines
solved_alike word sense os qs m n a e = record {
  text = ap₂ ◌++◌ (ap₂ ◌++◌ (lines_same (outcome_text word sense) (outcome_text_same word sense) 1 os qs a) (count_same os qs a)) (ap warm_line e);
  status = status_same os qs a;
}

tried_alike : (size : ℕ) (os qs : List Outcome) → AllZip IsSameOutcome os qs → AreReportedAlike (run.Trial size os) (run.Trial size qs)
unfolding text_of trial_lines setting_lines
tried_alike size os qs a = record {
  text = ap₂ (λ x y. (codes "trial " ++ decimal size ++ codes "\n" ++ x) ++ y) (lines_same trial_line trial_line_same 1 os qs a) (count_same os qs a);
  status = status_same os qs a;
}

-- ---- runs
by_same : (r s : Run) → r ≡ s → AreReportedAlike r s
by_same r s e = record { text = ap text_of e; status = ap status_of e }

of_both : (r s t u : Run) → r ≡ t → s ≡ u → AreReportedAlike t u → AreReportedAlike r s
of_both r s t u a b h = record { text = ap text_of a ∙ h.text ∙ sym (ap text_of b); status = ap status_of a ∙ h.status ∙ sym (ap status_of b) }

moved : (r t : Run) → r ≡ t → LacksNothing r → status_of t ≢ 5
moved r t e h = subst (λ z. status_of z ≢ 5) e h.memory

reported : (r s : Run) → AreOneRun r s → LacksNothing r → LacksNothing s → AreReportedAlike r s
reported r s (told_same e) h k = by_same r s e
reported r s (told_solved word sense os qs m n a b alike) h k =
    let first = all_had (λ (o : Outcome). is_answer o.end) (λ (o : Outcome). wants_memory o.end) HadMemory (λ o. had o.end) os (moved r (run.Solved word sense os m) a h) in
    let second = all_had (λ (o : Outcome). is_answer o.end) (λ (o : Outcome). wants_memory o.end) HadMemory (λ o. had o.end) qs (moved s (run.Solved word sense qs n) b k) in
    let both = same_found os qs m n first second alike in
    of_both r s (run.Solved word sense os m) (run.Solved word sense qs n) a b (solved_alike word sense os qs m n both.0 both.1)
reported r s (told_tried size os qs a b alike) h k =
    let first = all_had (λ (o : Outcome). is_answer o.end) (λ (o : Outcome). wants_memory o.end) HadMemory (λ o. had o.end) os (moved r (run.Trial size os) a h) in
    let second = all_had (λ (o : Outcome). is_answer o.end) (λ (o : Outcome). wants_memory o.end) HadMemory (λ o. had o.end) qs (moved s (run.Trial size qs) b k) in
    of_both r s (run.Trial size os) (run.Trial size qs) a b (tried_alike size os qs (zip_had HadMemory IsSameOutcome os qs first second alike))
reported r s (told_filtered os qs a b alike) h k =
    let first = all_had (λ (o : FilterOutcome). is_filtered o.end) (λ (o : FilterOutcome). filter_wants_memory o.end) HadFilterMemory (λ o. had_filter o.end) os (moved r (run.Filtered os) a h) in
    let second = all_had (λ (o : FilterOutcome). is_filtered o.end) (λ (o : FilterOutcome). filter_wants_memory o.end) HadFilterMemory (λ o. had_filter o.end) qs (moved s (run.Filtered qs) b k) in
    by_same r s (a ∙ ap run.Filtered (same_had HadFilterMemory os qs first second alike) ∙ sym b)
reported r s (told_ranged name sense os qs a b alike) h k =
    let first = all_had (λ (o : RangeOutcome). is_ranged o.end) (λ (o : RangeOutcome). range_wants_memory o.end) HadRangeMemory (λ o. had_range o.end) os (moved r (run.Ranged name sense os) a h) in
    let second = all_had (λ (o : RangeOutcome). is_ranged o.end) (λ (o : RangeOutcome). range_wants_memory o.end) HadRangeMemory (λ o. had_range o.end) qs (moved s (run.Ranged name sense qs) b k) in
    by_same r s (a ∙ ap (run.Ranged name sense) (same_had HadRangeMemory os qs first second alike) ∙ sym b)

answered : (r : Run) → LacksNothing r → IsAnswered r
answered run.Usage h = tt
answered (run.Refused r) h = tt
answered (run.Checked c) h = tt
answered (run.Solved word sense outcomes warm) h = tt
answered (run.Certificates text stopped) h = tt
answered (run.Certified n) h = tt
answered (run.CertRefused section fault) h = tt
answered (run.Trial size outcomes) h = tt
answered (run.Filtered outcomes) h = tt
answered (run.Ranged parameter sense outcomes) h = tt
answered run.ReadFault h = h.file refl
answered run.Memory h = h.memory refl

pub same_contents_same_report : SameContentsSameReport
same_contents_same_report words None None before now old new past later from to r s (size, limit, form) h k i j =
    reported r s (only_run words None (Rose before now) old new r h size limit form (answered r i) s past later from to k (answered s j)) i j
same_contents_same_report words (Some f) (Some g) before now old new past later from to r s same h k i j =
    let one : f ≡ g = λ d name. same name d in
    reported r s (only_run words (Some f) (Rose before now) old new r h (answered r i) s past later from to
    (subst (λ (z : Files). Causes words (Some z) (Rose past later) from to s) (sym one) k) (answered s j)) i j
same_contents_same_report words (Some f) None before now old new past later from to r s same h k i j = absurd same
same_contents_same_report words None (Some g) before now old new past later from to r s same h k i j = absurd same
