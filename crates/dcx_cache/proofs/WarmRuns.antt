-- What is read at the end of a warm run is right for the problem, and it is one answer.
use Rattle.std.proofs.Common.{◌≡◌, ◌≢◌, ℕ, Bool, true, false, List, [], ◌∷◌, Option, Some, None, Result, Ok, Err, IfOk, IfErr, refl, sym, ap, ◌∙◌, subst, ◌⊎◌, inl, inr}
use Rattle.dcx_frac.specs.declared.fraction.Frac.{Frac}
use Rattle.dcx_point.specs.Pairs.{Pairs}
use Rattle.dcx_tree.specs.declared.problem.Problem.{Problem}
use Rattle.dcx_tree.specs.Meaning.{IsAccepted, IsFitting, setting_of}
use Rattle.dcx_answer.specs.declared.answer.Answer.{Answer}
use Rattle.dcx_answer.specs.declared.site.Site.{Site}
use Rattle.dcx_answer.specs.declared.stop.Stop.{Stop}
use Rattle.dcx_answer.specs.declared.stop.Stop.TheVariants as why
use Rattle.dcx_fit.specs.Fit.{FitsParameters, IsFirstMisfit}
use Rattle.dcx_tab.specs.declared.program.Program as tab
use Rattle.dcx_chained.specs.Tables.{table_of}
use Rattle.dcx_lp_answer.specs.declared.answer.LpAnswer.{LpAnswer}
use Rattle.dcx_simplex.specs.Readable.{IsReadable}
use Rattle.dcx_std.specs.declared.stop.RowStop.{RowStop}
use Rattle.dcx_std.specs.declared.stop.RowStop.TheVariants as rows
use Rattle.dcx_std.specs.IntegerRows.{IsStopOf}
use Rattle.dcx_lp_solve.specs.declared.solving.Solved.{Solved}
use Rattle.dcx_lp_solve.specs.declared.warming.WarmEnd.{WarmEnd}
use Rattle.dcx_lp_solve.specs.Solved.{rows_stop}
use Rattle.dcx_lp_solve.specs.Stops.{run_stop}
use Rattle.dcx_lp_solve.specs.Warm.{IsWarmRun, RunsWarm, IsWarmSolved, with_end}
use Rattle.dcx_lp_solve.proofs.OneSolution.{answers_are_one}
use Rattle.dcx_lp_solve.proofs.WarmRuns.{warm_readable, never_run, never_made, one_solution, warm_counts, warm_right as rows_right}
use Rattle.dcx_graph.specs.declared.stop.ReduceStop.{ReduceStop}
use Rattle.dcx_graph.specs.declared.stop.ReduceStop.TheVariants as reduces
use Rattle.dcx_graph.specs.Program.{Program}
use Rattle.dcx_graph.specs.Reduced.{Reduction}
use Rattle.dcx_graph.specs.Answers.{rows_of, IsAnswered, IsRead, PassesAt, IsSameAnswer}
use Rattle.dcx_right.specs.Answers.{IsRightFor}
use Rattle.dcx_graph.proofs.Mapped.{read_right}
use Rattle.dcx_graph.proofs.OneReading.{readings_are_one}
use Rattle.dcx_cache.specs.declared.rewarming.Warmed.{Warmed}
use Rattle.dcx_cache.specs.declared.session.Last.{Last}
use Rattle.dcx_cache.specs.Programs.{SessionGives, HasMap, IsScaledAt, ProgramStops}
use Rattle.dcx_cache.specs.Answers.{IsAnswerOf, Answers}
use Rattle.dcx_cache.specs.Warm.{IsWarmAnswer, IsWarm, NeverWarm, IsAnsweredBy, WarmAnswers, WarmAnswersAll, ReadsBack, ReadsWarm}
use Rattle.dcx_cache.specs.Laws.{WarmAnswersAreRight, WarmAnswersAgree, AnsweredStaysAnswered, HasOneWarmEnd, HaveOneWarmEnds}
use Rattle.dcx_cache.proofs.Answered.{answered_by, is_fitting, answers_are_right}
use Rattle.dcx_cache.proofs.OneEnd.{same_program, program_apart, same_answer, solved_by, unfit, memory_or, has_one_end}
use Rattle.dcx_cache.proofs.Agreeing.{right_answers_agree}
use Rattle.dcx_cache.proofs.Basics.{solved_readable, one_after}

-- ---- the answer to the problem
module _ (p : Problem) (setting : Pairs) (limit : ℕ) (columns : List ℕ) where
  pub warm_is_answered : (q : Program Frac) (s : Solved) → IsAccepted p → FitsParameters p.parameters setting → SessionGives p setting (Ok q) → IsWarmSolved limit columns (rows_of q) s →
      IsAnswered p (setting_of p setting) q s.answer
  warm_is_answered q s ok fits g h =
      answered_by p setting ok fits q s.program s.answer g h.made (warm_counts limit columns (rows_of q) s h) (rows_right limit columns (rows_of q) s h)

  -- so is what the run on the scaled program ends with
  pub end_is_answered : (q : Program Frac) (i : tab.Program) (e : WarmEnd) → IsAccepted p → IsScaledAt p setting q i → IsWarmRun limit columns i (table_of e.tableau) e.answer →
      IsAnswered p (setting_of p setting) q e.answer
  end_is_answered q i e ok at h = warm_is_answered q (with_end i e) ok at.fits at.gives (record { made = at.made; solved = h })

  warm_right : (q : Program Frac) (s : Solved) (a : Answer) → IsAccepted p → IsWarmAnswer p setting limit columns q s a → IsFitting p setting × IsRightFor p (setting_of p setting) a
  warm_right q s a ok h =
      (is_fitting p setting ok h.fits q h.program, read_right p (setting_of p setting) q s.answer h.known (warm_is_answered q s ok h.fits h.program h.is_solved) a h.read)

  -- ---- no answer
  solved_at : (q r : Program Frac) (s : Solved) → q ≡ r → IsWarmSolved limit columns (rows_of r) s → IsWarmSolved limit columns (rows_of q) s
  solved_at q r s e h = subst (λ (z : Program Frac). IsWarmSolved limit columns (rows_of z) s) (sym e) h

  -- the rows of the program are never solved so
  pub never_solved : (q : Program Frac) → SessionGives p setting (Ok q) → ((s : Solved) → ¬ (IsWarmSolved limit columns (rows_of q) s)) → NeverWarm p setting limit (Some columns)
  never_solved q g none r s a h = none s (solved_at q r s (same_program p setting limit q r g h.program) h.is_solved)

  -- as where the run on their scaled program gives nothing
  pub never_ends : (q : Program Frac) (i : tab.Program) → IsScaledAt p setting q i → RunsWarm limit columns i None → NeverWarm p setting limit (Some columns)
  never_ends q i at none = never_solved q at.gives (never_run limit columns (rows_of q) i at.made none)

  -- or a multiplier passes
  never_read : (q : Program Frac) (s : Solved) (site : Site) → SessionGives p setting (Ok q) → IsWarmSolved limit columns (rows_of q) s → PassesAt p s.answer site
      → NeverWarm p setting limit (Some columns)
  never_read q s site g h passes r t a x =
      let same = same_program p setting limit q r g x.program in
      let answer = (one_solution limit columns (rows_of q) s t h (solved_at q r t same x.is_solved)).answer in
      (readings_are_one p r.kinds s.answer).never_both a site (subst (λ (z : LpAnswer). IsRead p r.kinds z a) (sym answer) x.read) passes

  -- what is read back is the answer, or there is none
  reads : (q : Program Frac) (i : tab.Program) (e : WarmEnd) → HasMap p → IsScaledAt p setting q i → IsWarmRun limit columns i (table_of e.tableau) e.answer → (o : Option (Answer × WarmEnd)) →
      ReadsBack p q e o → ReadsWarm p setting limit columns q i o
  reads q i e mapped at h (Some (a, f)) (same, read) =
      let answer : IsWarmAnswer p setting limit columns q (with_end i e) a = record {
        mapped = mapped;
        fits = at.fits;
        program = at.gives;
        known = at.known;
        is_solved = record { made = at.made; solved = h };
        read = read;
      } in
      subst (λ (z : WarmEnd). IsWarmAnswer p setting limit columns q (with_end i z) a) (sym same) answer
  reads q i e mapped at h None (site, passes) = never_read q (with_end i e) site at.gives (record { made = at.made; solved = h }) passes

  pub reads_result : {E : Type 0} (q : Program Frac) (i : tab.Program) (e : WarmEnd) → HasMap p → IsScaledAt p setting q i → IsWarmRun limit columns i (table_of e.tableau) e.answer →
      (r : Result (Option (Answer × WarmEnd)) E) → IfOk r (ReadsBack p q e) → IfOk r (ReadsWarm p setting limit columns q i)
  reads_result q i e mapped at h (Ok o) back = reads q i e mapped at h o back
  reads_result q i e mapped at h (Err f) back = tt

  -- ---- one answer
  record IsSameWarm (a b : Answer) (s t : Solved) : Type 0 where
    answer : IsSameAnswer p a b
    table : table_of s.tableau ≡ table_of t.tableau

  one_warm : (q r : Program Frac) (s t : Solved) (a b : Answer) → IsWarmAnswer p setting limit columns q s a → IsWarmAnswer p setting limit columns r t b → IsSameWarm a b s t
  one_warm q r s t a b x y =
      let same = same_program p setting limit q r x.program y.program in
      let one = one_solution limit columns (rows_of q) s t x.is_solved (solved_at q r t same y.is_solved) in
      let kinds = ap (λ (z : Program Frac). z.kinds) same in
      let read = subst (λ k. IsRead p k s.answer b) (sym kinds) (subst (λ (z : LpAnswer). IsRead p r.kinds z b) (sym one.answer) y.read) in
      record { answer = (readings_are_one p q.kinds s.answer).same a b x.read read; table = one.table }

-- ---- warm or not
module _ (p : Problem) (setting : Pairs) (limit : ℕ) (before : Option (List ℕ)) where
  warm_right_from : (b : Option (List ℕ)) (q : Program Frac) (s : Solved) (a : Answer) → IsAccepted p → IsWarm p setting limit b q s a → IsFitting p setting × IsRightFor p (setting_of p setting) a
  warm_right_from (Some columns) q s a ok h = warm_right p setting limit columns q s a ok h
  warm_right_from None q s a ok h = absurd h

  right_by : (kept : Bool) (q : Program Frac) (s : Solved) (a : Answer) → IsAccepted p → IsAnsweredBy p setting limit before kept q s a → IsFitting p setting × IsRightFor p (setting_of p setting) a
  right_by true q s a ok h = warm_right_from before q s a ok h
  right_by false q s a ok h = answers_are_right p setting limit a ok (q, s, h.1)

  -- two ways of answering are one, and end at one tableau
  record IsSameWay (kept also : Bool) (a b : Answer) (s t : Solved) : Type 0 where
    way : kept ≡ also
    answer : IsSameAnswer p a b
    table : table_of s.tableau ≡ table_of t.tableau

  one_warm_from : (c : Option (List ℕ)) (q r : Program Frac) (s t : Solved) (a b : Answer) → IsWarm p setting limit c q s a → IsWarm p setting limit c r t b
      → IsSameAnswer p a b × (table_of s.tableau ≡ table_of t.tableau)
  one_warm_from (Some columns) q r s t a b x y = let w = one_warm p setting limit columns q r s t a b x y in (w.answer, w.table)
  one_warm_from None q r s t a b x y = absurd x

  one_cold : (q r : Program Frac) (s t : Solved) (a b : Answer) → IsAnswerOf p setting limit q s a → IsAnswerOf p setting limit r t b → table_of s.tableau ≡ table_of t.tableau
  one_cold q r s t a b x y =
      (answers_are_one limit (rows_of q) s t x.is_solved (solved_by p setting limit q r t (same_program p setting limit q r x.program y.program) y.is_solved)).table

  one_way : (kept also : Bool) (q r : Program Frac) (s t : Solved) (a b : Answer) → IsAnsweredBy p setting limit before kept q s a → IsAnsweredBy p setting limit before also r t b
      → IsSameWay kept also a b s t
  one_way true true q r s t a b x y = let w = one_warm_from before q r s t a b x y in record { way = refl; answer = w.0; table = w.1 }
  one_way true false q r s t a b x y = absurd (y.0 q s a x)
  one_way false true q r s t a b x y = absurd (x.0 r t b y)
  one_way false false q r s t a b x y = record { way = refl; answer = same_answer p setting limit a b q r s t x.1 y.1; table = one_cold q r s t a b x.1 y.1 }

  -- an answer and a stop
  stopped_by : (kept : Bool) (q : Program Frac) (s : Solved) (a : Answer) (e : Stop) → IsAccepted p → IsAnsweredBy p setting limit before kept q s a → Answers p setting limit (Err e) →
      (e ≢ why.Memory → NeverWarm p setting limit before) → (e ≡ why.Memory) ⊎ (e ≢ why.Memory) → e ≡ why.Memory
  stopped_by kept q s a e ok h stops never (inl is) = is
  stopped_by true q s a e ok h stops never (inr n) = absurd (never n q s a h)
  stopped_by false q s a e ok h stops never (inr n) = has_one_end p setting limit (Ok a) (Err e) ok (q, s, h.1) stops

-- ---- the tableau of an answer can be read
readable_from : (p : Problem) (setting : Pairs) (limit : ℕ) (before : Option (List ℕ)) (q : Program Frac) (s : Solved) (a : Answer) → IsWarm p setting limit before q s a
    → IsReadable (table_of s.tableau)
readable_from p setting limit (Some columns) q s a h = warm_readable limit columns s.program (table_of s.tableau) s.answer h.is_solved.solved
readable_from p setting limit None q s a h = absurd h

pub readable_by : (p : Problem) (setting : Pairs) (limit : ℕ) (before : Option (List ℕ)) (kept : Bool) (q : Program Frac) (s : Solved) (a : Answer) → IsAnsweredBy p setting limit before kept q s a
    → IsReadable (table_of s.tableau)
readable_by p setting limit before true q s a h = readable_from p setting limit before q s a h
readable_by p setting limit before false q s a h = solved_readable limit s h.1.is_solved.solved

-- ---- no warm answer
module _ (p : Problem) (setting : Pairs) (limit : ℕ) where
  -- without a map
  pub never_unmapped : (before : Option (List ℕ)) → ¬ (HasMap p) → NeverWarm p setting limit before
  never_unmapped (Some columns) none q s a h = none h.mapped
  never_unmapped None none q s a h = h

  -- without columns
  pub never_empty : NeverWarm p setting limit None
  never_empty q s a h = h

  -- without a program
  unformed : (e : Stop) → e ≢ why.Memory → ProgramStops p setting e → IsFirstMisfit p.parameters setting e ⊎ ((r : ReduceStop) × SessionGives p setting (Err r))
  unformed (why.UnknownParam name) n h = inl h
  unformed (why.MissingParam name) n h = inl h
  unformed (why.ParamShape name declared given) n h = inl h
  unformed (why.ParamSign name entry value) n h = inl h
  unformed (why.TooLarge rows columns) n h = inr (reduces.TooLarge rows columns, h.stops)
  unformed (why.ZeroDivisor node entry) n h = inr (reduces.ZeroDivisor node entry, h.stops)
  unformed (why.Wide site) n h = inr (reduces.Wide site, h.stops)
  unformed (why.PivotLimit count) n h = absurd h
  unformed why.Memory n h = absurd (n refl)

  never_by : (columns : List ℕ) (e : Stop) → IsFirstMisfit p.parameters setting e ⊎ ((r : ReduceStop) × SessionGives p setting (Err r)) → NeverWarm p setting limit (Some columns)
  never_by columns e (inl m) q s a h = unfit p setting limit e m h.fits
  never_by columns e (inr g) q s a h = program_apart p setting limit q g.0 h.program g.1

  pub never_formed : (before : Option (List ℕ)) (e : Stop) → ProgramStops p setting e → e ≢ why.Memory → NeverWarm p setting limit before
  never_formed (Some columns) e h n = never_by columns e (unformed e n h)
  never_formed None e h n = never_empty

  -- without a scaled program
  unscaled : (columns : List ℕ) (q : Program Frac) → SessionGives p setting (Ok q) → (e : RowStop) → e ≢ rows.Memory → IsStopOf (rows_of q) e → NeverWarm p setting limit (Some columns)
  unscaled columns q g e n is = never_solved p setting limit columns q g (never_made limit columns (rows_of q) e n is)

  pub never_scaled : (before : Option (List ℕ)) (q : Program Frac) → SessionGives p setting (Ok q) → (e : RowStop) → IsStopOf (rows_of q) e → (f : Stop) → f ≡ run_stop (rows_stop e) → f ≢ why.Memory →
      NeverWarm p setting limit before
  never_scaled (Some columns) q g e is f same n = unscaled columns q g e (λ d. n (same ∙ ap (λ (r : RowStop). run_stop (rows_stop r)) d)) is
  never_scaled None q g e is f same n = never_empty

  -- ---- answers without columns
  module _ (before : Option (List ℕ)) (never : NeverWarm p setting limit before) where
    pub fresh_answers : (q : Program Frac) (r : Result (Warmed × Last) Stop) → IfOk r (λ x. x.0.kept ≡ false) → IfOk r (λ x. IsAnswerOf p setting limit q x.1.solved x.0.answer) →
        IfOk r (λ x. IsAnsweredBy p setting limit before x.0.kept q x.1.solved x.0.answer)
    fresh_answers q (Ok x) kept h = subst (λ k. IsAnsweredBy p setting limit before k q x.1.solved x.0.answer) (sym kept) (never, h)
    fresh_answers q (Err e) kept h = tt

    pub fresh_never : {A : Type 0} (r : Result A Stop) → IfErr r (λ e. e ≢ why.Memory → NeverWarm p setting limit before)
    fresh_never (Ok x) = tt
    fresh_never (Err e) = λ n. never

  -- the program is that of what is shown
  pub at_last : (before : Option (List ℕ)) (reduced : Reduction Frac) (r : Result (Warmed × Last) Stop) → IfOk r (λ x. x.1.reduced ≡ reduced)
      → IfOk r (λ x. IsAnsweredBy p setting limit before x.0.kept reduced.program x.1.solved x.0.answer)
      → IfOk r (λ x. IsAnsweredBy p setting limit before x.0.kept x.1.reduced.program x.1.solved x.0.answer)
  at_last before reduced (Ok x) same h = subst (λ (z : Reduction Frac). IsAnsweredBy p setting limit before x.0.kept z.program x.1.solved x.0.answer) (sym same) h
  at_last before reduced (Err e) same h = tt

pub warm_answers_are_right : WarmAnswersAreRight
warm_answers_are_right p setting limit before w after ok (q, s, h) = right_by p setting limit before w.kept q s w.answer ok h.answer

pub warm_answers_agree : WarmAnswersAgree
warm_answers_agree p setting limit other before w after a ok h k =
    right_answers_agree p (setting_of p setting) w.answer a (warm_answers_are_right p setting limit before w after ok h).1 (answers_are_right p setting other a ok k).1

pub answered_stays_answered : AnsweredStaysAnswered
answered_stays_answered p setting limit before stop after a ok h k = has_one_end p setting limit (Err stop) (Ok a) ok h.stops k

only_memory : (p : Problem) (setting : Pairs) (limit : ℕ) (before : Option (List ℕ)) (w : Warmed) (e : Stop) (after later : Option (List ℕ)) → IsAccepted p →
    WarmAnswers p setting limit before (Ok w) after → WarmAnswers p setting limit before (Err e) later → e ≡ why.Memory
only_memory p setting limit before w e after later ok (q, s, h) k = stopped_by p setting limit before w.kept q s w.answer e ok h.answer k.stops k.never (memory_or e)

pub has_one_warm_end : HasOneWarmEnd
has_one_warm_end p setting limit before (Ok v) (Ok w) after later ok (q, s, x) (r, t, y) =
    let one = one_way p setting limit before v.kept w.kept q r s t v.answer w.answer x.answer y.answer in
    record {
      ends = (one.way, one.answer);
      columns = λ m n. x.columns ∙ one_after p before v.answer w.answer (table_of s.tableau) (table_of t.tableau) one.answer one.table ∙ sym y.columns;
    }
has_one_warm_end p setting limit before (Ok v) (Err e) after later ok h k = let is = only_memory p setting limit before v e after later ok h k in record { ends = is; columns = λ m n. absurd (n is) }
has_one_warm_end p setting limit before (Err e) (Ok w) after later ok h k = let is = only_memory p setting limit before w e later after ok k h in record { ends = is; columns = λ m n. absurd (m is) }
has_one_warm_end p setting limit before (Err e) (Err f) after later ok h k = record {
  ends = has_one_end p setting limit (Err e) (Err f) ok h.stops k.stops;
  columns = λ m n. h.columns ∙ sym k.columns;
}

pub have_one_warm_ends : HaveOneWarmEnds
have_one_warm_ends p limit before [] [] [] ok h k = tt
have_one_warm_ends p limit before [] [] (s ∷ ss) ok h k = absurd k
have_one_warm_ends p limit before [] (r ∷ rs) ss ok h k = absurd h
have_one_warm_ends p limit before (x ∷ xs) [] ss ok h k = absurd h
have_one_warm_ends p limit before (x ∷ xs) (r ∷ rs) [] ok h k = absurd k
have_one_warm_ends p limit before (x ∷ xs) (r ∷ rs) (s ∷ ss) ok (after, a, hs) (later, b, ks) =
    let one = has_one_warm_end p x limit before r s after later ok a b in
    (one.ends, λ m n. have_one_warm_ends p limit after xs rs ss ok hs (subst (λ c. WarmAnswersAll p limit c xs ss) (sym (one.columns m n)) ks))
