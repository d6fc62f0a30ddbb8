-- Two runs over one problem with the same report have the same answers.
use Rattle.std.proofs.Common.{◌≡◌, ◌≢◌, ◌≤◌, ℕ, ◌+◌, List, [], ◌∷◌, ◌++◌, drop, Some, None, refl, sym, ap, subst, ◌∙◌, arith, append_assoc}
use Rattle.std.proofs.lemmas.List.{append_cancel_left}
use Rattle.std.proofs.lemmas.List.Elements.{recursion_from_All}
use Rattle.std.specs.Prelude.{codes, decimal}
use Rattle.std.specs.List.{AllByRecursion, flat_map, enumerate_from}
use Rattle.std.specs.declared.option.Option.{Option}
use Rattle.dcx_shape.specs.declared.place.Place.{Place}
use Rattle.dcx_tree.specs.declared.constraint.Sense.{Sense}
use Rattle.dcx_answer.specs.declared.answer.Answer.{Answer}
use Rattle.dcx_answer.specs.declared.answer.Answer.TheVariants.{Optimal, Infeasible, Unbounded}
use Rattle.dcx_answer.specs.declared.whole_answer.WholeAnswer.{WholeAnswer}
use Rattle.dcx_answer.specs.declared.whole_answer.WholeAnswer.TheVariants as whole
use Rattle.dcx_answer.specs.declared.outcome.Outcome.{Outcome}
use Rattle.dcx_answer.specs.declared.outcome.OutcomeEnd.{OutcomeEnd}
use Rattle.dcx_answer.specs.declared.outcome.OutcomeEnd.TheVariants as the
use Rattle.dcx_report.specs.declared.run.Word.{Word}
use Rattle.dcx_report.specs.declared.run.Word.TheVariants.{Solve, Setting}
use Rattle.dcx_report.specs.AnswerText.{answer_text}
use Rattle.dcx_report.specs.WholeText.{whole_text}
use Rattle.dcx_report.specs.OutcomeText.{word_text, end_text, outcome_text, outcome_lines, count_line, warm_line}
use Rattle.dcx_report.specs.ReportText.{text_of}
use Rattle.dcx_report.specs.SameText.{Layout, IsAnswerOf, IsWholeAnswerOf, IsEndOf, ToldAnswer, solved, without_tree, answer_of, answers_of, SameTextSameAnswers}
use Rattle.dcx_lines.specs.Reading.{BeginsWithout}
use Rattle.dcx_lines.proofs.FracText.{same_before}
use Rattle.dcx_lines.proofs.Reading.{first_same}
use Rattle.dcx_report.proofs.AnswerReading.{answer_read, whole_read, second_same}
use Rattle.dcx_report.proofs.OneLine.{IsStopLine, stopped_line, branch_line}

feed : (xs : List ℕ) → BeginsWithout (λ c. c ≢ 10) (10 ∷ xs)
feed xs = record { byte = 10; tail = xs; is = refl; without = λ h. h refl }

-- ---- one end
-- what stands behind the number of a setting: an answer, one in whole numbers, or a stop
data Tells (layout : Layout) (sense : Sense) (told : Option ToldAnswer) (text : List ℕ) : Type 0 where
  an_answer : (a : Answer) → IsAnswerOf layout a → told ≡ Some (solved a) → text ≡ answer_text sense a → Tells layout sense told text
  a_whole_one : (a : WholeAnswer) → IsWholeAnswerOf layout a → told ≡ Some (without_tree a) → text ≡ whole_text sense a → Tells layout sense told text
  a_stop : IsStopLine text → told ≡ None → Tells layout sense told text

end_tells : (layout : Layout) (sense : Sense) (place : Option Place) (x : OutcomeEnd) → IsEndOf layout x → Tells layout sense (answer_of x) (end_text sense place x)
unfolding end_text
end_tells layout sense place (the.Answer a) h = an_answer a h refl refl
end_tells layout sense place (the.Whole a) h = a_whole_one a h refl refl
end_tells layout sense place (the.Branch stop) h = a_stop (branch_line stop h) refl
end_tells layout sense place (the.Stop stop) h = a_stop (stopped_line place stop h) refl

-- an answer's second byte is none of a stop's, and none of an answer's in whole numbers
second_of_answer : (sense : Sense) (a : Answer) (c : ℕ) (r t : List ℕ) → 115 ≤ c → c ≢ 117 → answer_text sense a ++ r ≡ 32 ∷ c ∷ t → ⊥
unfolding answer_text
second_of_answer sense (Optimal v p d) c r t low other e = omega (arith, low, second_same _ 111 _ c _ _ e)
second_of_answer sense (Infeasible d g) c r t low other e = omega (arith, low, second_same _ 105 _ c _ _ e)
second_of_answer sense (Unbounded p y b m) c r t low other e = other (sym (second_same _ 117 _ c _ _ e))

second_of_whole : (sense : Sense) (a : WholeAnswer) (r : List ℕ) → whole_text sense a ++ r ≡ 32 ∷ 119 ∷ drop 2 (whole_text sense a ++ r)
unfolding whole_text
second_of_whole sense (whole.Optimal v p t n) r = refl
second_of_whole sense (whole.Infeasible t n) r = refl

second_of_stop : (text r : List ℕ) → IsStopLine text → text ++ r ≡ 32 ∷ 115 ∷ drop 2 (text ++ r)
second_of_stop text r h = subst (λ x. x ++ r ≡ 32 ∷ 115 ∷ drop 2 (x ++ r)) (sym h.is) refl

answer_or_whole : (sense : Sense) (a : Answer) (b : WholeAnswer) (r s : List ℕ) → answer_text sense a ++ r ≡ whole_text sense b ++ s → ⊥
answer_or_whole sense a b r s e = second_of_answer sense a 119 r _ (omega arith) (omega arith) (e ∙ second_of_whole sense b s)

answer_or_stop : (sense : Sense) (a : Answer) (text r s : List ℕ) → IsStopLine text → answer_text sense a ++ r ≡ text ++ s → ⊥
answer_or_stop sense a text r s h e = second_of_answer sense a 115 r _ (omega arith) (omega arith) (e ∙ second_of_stop text s h)

whole_or_stop : (sense : Sense) (a : WholeAnswer) (text r s : List ℕ) → IsStopLine text → whole_text sense a ++ r ≡ text ++ s → ⊥
whole_or_stop sense a text r s h e =
    omega (arith, second_same _ 119 _ 115 _ _ (sym (second_of_whole sense a r) ∙ e ∙ second_of_stop text s h))

-- two stops, and what stands behind them
stops_read : (text other r s : List ℕ) → IsStopLine text → IsStopLine other → text ++ r ≡ other ++ s → r ≡ s
stops_read text other r s h k e =
    let line = λ (t z : List ℕ) (l : IsStopLine t).
    let regrouped : (codes " stopped " ++ (l.said ++ 10 ∷ [])) ++ z ≡ codes " stopped " ++ (l.said ++ 10 ∷ z) = simp append_assoc in
    ap (λ x. x ++ z) l.is ∙ regrouped in
    let rest = append_cancel_left (codes " stopped ") _ _ (sym (line text r h) ∙ e ∙ line other s k) in
    let parts = same_before (λ c. c ≢ 10) h.said k.said (10 ∷ r) (10 ∷ s) h.line k.line (feed r) (feed s) rest in
    let behind : 10 ∷ r ≡ 10 ∷ s = parts.1 in
    cc

-- how a setting ends, and what stands behind it
ends_read : (layout : Layout) (sense : Sense) (t u : Option ToldAnswer) (x y r s : List ℕ) → Tells layout sense t x → Tells layout sense u y → x ++ r ≡ y ++ s → (t ≡ u) × (r ≡ s)
ends_read layout sense t u x y r s (an_answer a h told is) (an_answer b k also are) e =
    let parts = answer_read layout sense a b r s h k (sym (ap (λ z. z ++ r) is) ∙ e ∙ ap (λ z. z ++ s) are) in
    (told ∙ ap (λ z. Some (solved z)) parts.0 ∙ sym also, parts.1)
ends_read layout sense t u x y r s (a_whole_one a h told is) (a_whole_one b k also are) e =
    let parts = whole_read layout sense a b r s h k (sym (ap (λ z. z ++ r) is) ∙ e ∙ ap (λ z. z ++ s) are) in
    (told ∙ ap (λ z. Some z) parts.0 ∙ sym also, parts.1)
ends_read layout sense t u x y r s (a_stop h told) (a_stop k also) e = (told ∙ sym also, stops_read x y r s h k e)
ends_read layout sense t u x y r s (an_answer a h told is) (a_whole_one b k also are) e =
    absurd (answer_or_whole sense a b r s (sym (ap (λ z. z ++ r) is) ∙ e ∙ ap (λ z. z ++ s) are))
ends_read layout sense t u x y r s (a_whole_one a h told is) (an_answer b k also are) e =
    absurd (answer_or_whole sense b a s r (sym (ap (λ z. z ++ s) are) ∙ sym e ∙ ap (λ z. z ++ r) is))
ends_read layout sense t u x y r s (an_answer a h told is) (a_stop k also) e = absurd (answer_or_stop sense a y r s k (sym (ap (λ z. z ++ r) is) ∙ e))
ends_read layout sense t u x y r s (a_stop h told) (an_answer b k also are) e = absurd (answer_or_stop sense b x s r h (sym (ap (λ z. z ++ s) are) ∙ sym e))
ends_read layout sense t u x y r s (a_whole_one a h told is) (a_stop k also) e = absurd (whole_or_stop sense a y r s k (sym (ap (λ z. z ++ r) is) ∙ e))
ends_read layout sense t u x y r s (a_stop h told) (a_whole_one b k also are) e = absurd (whole_or_stop sense b x s r h (sym (ap (λ z. z ++ s) are) ∙ sym e))

end_read : (layout : Layout) (sense : Sense) (p q : Option Place) (x y : OutcomeEnd) (r s : List ℕ) → IsEndOf layout x → IsEndOf layout y → end_text sense p x ++ r ≡ end_text sense q y ++ s
    → (answer_of x ≡ answer_of y) × (r ≡ s)
end_read layout sense p q x y r s h k e =
    ends_read layout sense (answer_of x) (answer_of y) (end_text sense p x) (end_text sense q y) r s (end_tells layout sense p x h) (end_tells layout sense q y k) e

-- ---- all outcomes
outcome_read : (layout : Layout) (word : Word) (sense : Sense) (n : ℕ) (x y : Outcome) (r s : List ℕ) → IsEndOf layout x.end → IsEndOf layout y.end
    → outcome_text word sense (n, x) ++ r ≡ outcome_text word sense (n, y) ++ s → (answer_of x.end ≡ answer_of y.end) × (r ≡ s)
unfolding outcome_text
outcome_read layout word sense n x y r s h k e =
    let front = word_text word ++ codes " " ++ decimal n in
    end_read layout sense x.place y.place x.end y.end r s h k
    (append_cancel_left front _ _ (sym (append_assoc front (end_text sense x.place x.end) r) ∙ e ∙ append_assoc front (end_text sense y.place y.end) s))

-- no outcome begins as the line behind the last one
first_of_outcome : (word : Word) (sense : Sense) (numbered : ℕ × Outcome) (r t : List ℕ) → outcome_text word sense numbered ++ r ≡ 97 ∷ t → ⊥
unfolding outcome_text word_text
first_of_outcome Solve sense numbered r t e = omega (arith, first_same 115 97 _ _ e)
first_of_outcome Setting sense numbered r t e = omega (arith, first_same 115 97 _ _ e)

outcomes_read : (layout : Layout) (word : Word) (sense : Sense) (n : ℕ) (xs ys : List Outcome) (r s : List ℕ) → AllByRecursion (λ o. IsEndOf layout o.end) xs
    → AllByRecursion (λ o. IsEndOf layout o.end) ys → flat_map (outcome_text word sense) (enumerate_from n xs) ++ 97 ∷ r ≡ flat_map (outcome_text word sense) (enumerate_from n ys) ++ 97 ∷ s
    → answers_of xs ≡ answers_of ys
outcomes_read layout word sense n [] [] r s h k e = refl
outcomes_read layout word sense n [] (y ∷ ys) r s h k e =
    absurd (first_of_outcome word sense (n, y) (flat_map (outcome_text word sense) (enumerate_from (n + 1) ys) ++ 97 ∷ s) r
    (sym (append_assoc (outcome_text word sense (n, y)) (flat_map (outcome_text word sense) (enumerate_from (n + 1) ys)) (97 ∷ s)) ∙ sym e))
outcomes_read layout word sense n (x ∷ xs) [] r s h k e =
    absurd (first_of_outcome word sense (n, x) (flat_map (outcome_text word sense) (enumerate_from (n + 1) xs) ++ 97 ∷ r) s
    (sym (append_assoc (outcome_text word sense (n, x)) (flat_map (outcome_text word sense) (enumerate_from (n + 1) xs)) (97 ∷ r)) ∙ e))
outcomes_read layout word sense n (x ∷ xs) (y ∷ ys) r s h k e =
    let others = λ (zs : List Outcome). flat_map (outcome_text word sense) (enumerate_from (n + 1) zs) in
    let parts = outcome_read layout word sense n x y (others xs ++ 97 ∷ r) (others ys ++ 97 ∷ s) h.0 k.0
    (sym (append_assoc (outcome_text word sense (n, x)) (others xs) (97 ∷ r)) ∙ e ∙ append_assoc (outcome_text word sense (n, y)) (others ys) (97 ∷ s)) in
    let rest = outcomes_read layout word sense (n + 1) xs ys r s h.1 k.1 parts.1 in
    let head : answer_of x.end ≡ answer_of y.end = parts.0 in
    λ i. head i ∷ rest i

-- the line behind the last outcome begins with an `a`
count_begins : (outcomes : List Outcome) → count_line outcomes ≡ 97 ∷ drop 1 (count_line outcomes)
unfolding count_line
count_begins outcomes = refl

-- the outcomes, and what stands behind their lines
lines_split : (word : Word) (sense : Sense) (outcomes : List Outcome) (warm : Option ℕ) →
    (outcome_lines word sense outcomes ++ count_line outcomes) ++ warm_line warm
    ≡ flat_map (outcome_text word sense) (enumerate_from 1 outcomes) ++ 97 ∷ (drop 1 (count_line outcomes) ++ warm_line warm)
unfolding outcome_lines
lines_split word sense outcomes warm =
    append_assoc (flat_map (outcome_text word sense) (enumerate_from 1 outcomes)) (count_line outcomes) (warm_line warm)
    ∙ ap (λ l. flat_map (outcome_text word sense) (enumerate_from 1 outcomes) ++ (l ++ warm_line warm)) (count_begins outcomes)

pub same_text_same_answers : SameTextSameAnswers
unfolding text_of
same_text_same_answers layout word sense xs ys m n h k e =
    outcomes_read layout word sense 1 xs ys (drop 1 (count_line xs) ++ warm_line m) (drop 1 (count_line ys) ++ warm_line n)
    (recursion_from_All (λ o. IsEndOf layout o.end) xs h) (recursion_from_All (λ o. IsEndOf layout o.end) ys k)
    (sym (lines_split word sense xs m) ∙ e ∙ lines_split word sense ys n)
