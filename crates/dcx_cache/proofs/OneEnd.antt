-- A setting has one end: one answer, or one stop.
use Rattle.std.proofs.Common.{◌≡◌, ◌≢◌, ◌⊎◌, inl, inr, ℕ, [], Result, Ok, Err, refl, sym, ap, subst, ◌∙◌}
use Rattle.dcx_frac.specs.declared.fraction.Frac.{Frac}
use Rattle.dcx_frac.specs.declared.fraction.Passes.{Passes}
use Rattle.dcx_point.specs.Pairs.{Pairs}
use Rattle.dcx_arena.proofs.Results.{same_Ok}
use Rattle.dcx_tree.specs.declared.problem.Problem.{Problem}
use Rattle.dcx_answer.specs.declared.answer.Answer.{Answer}
use Rattle.dcx_answer.specs.declared.site.Site.TheVariants as sites
use Rattle.dcx_answer.specs.declared.stop.Stop.{Stop}
use Rattle.dcx_answer.specs.declared.stop.Stop.TheVariants as why
use Rattle.dcx_linear.specs.declared.param_form.ParamForm.{ParamForm}
use Rattle.dcx_lp_answer.specs.declared.answer.LpAnswer.{LpAnswer}
use Rattle.dcx_fit.specs.Fit.{FitsParameters, IsFirstMisfit}
use Rattle.dcx_fit.proofs.First.{stops_hold}
use Rattle.dcx_lp_solve.specs.declared.solving.Solved.{Solved}
use Rattle.dcx_lp_solve.specs.declared.stop.SolveStop.TheVariants as solves
use Rattle.dcx_lp_solve.specs.Solved.{IsSolved, Stops as RowsStop}
use Rattle.dcx_lp_solve.proofs.OneSolution.{answers_are_one, solved_or_stopped, stops_are_one, few_pivots}
use Rattle.dcx_graph.specs.declared.stop.ReduceStop.{ReduceStop}
use Rattle.dcx_graph.specs.declared.stop.ReduceStop.TheVariants as reduces
use Rattle.dcx_graph.specs.declared.reading.AnswerStop.{AnswerStop}
use Rattle.dcx_graph.specs.declared.reading.AnswerStop.TheVariants as reads
use Rattle.dcx_graph.specs.Program.{Program}
use Rattle.dcx_graph.specs.Answers.{rows_of, IsRead, StopsReading, IsSameAnswer}
use Rattle.dcx_graph.proofs.OneReading.{readings_are_one}
use Rattle.dcx_graph.proofs.OneWay.{one_affine, one_numbers}
use Rattle.dcx_graph.proofs.Settings.{one_fixed}
use Rattle.dcx_cache.specs.Programs.{IsMapOf, Fixes, SessionGives, mapped, anew}
use Rattle.dcx_lp_solve.specs.Stops.{run_stop}
use Rattle.dcx_cache.specs.Stops.{program_stop, reading_stop}
use Rattle.dcx_cache.specs.Answers.{IsAnswerOf, StopsAt, at_program, at_run, at_reading, IsStopped, Stops, Answers}
use Rattle.dcx_cache.specs.Laws.{HasOneEnd, BoundsLimit, LimitsAreSmall}

-- ---- one program
same_err : {A E : Type 0} (x y : E) → ◌≡◌ {A = Result A E} (Err x) (Err y) → x ≡ y
same_err x y e = cc

never_both : {A E : Type 0} (x : A) (y : E) → ◌≡◌ {A = Result A E} (Ok x) (Err y) → ⊥
never_both x y e = cc

-- the map gives one program at a setting, or one stop
module _ (setting : Pairs) (q : Program ParamForm) where
  at_map : (row other : ℕ) (passes also : Passes) → ◌≡◌ {A = Result (Program Frac) (ℕ × Passes)} (Err (row, passes)) (Err (other, also)) →
      ◌≡◌ {A = Result (Program Frac) ReduceStop} (Err (reduces.Wide (sites.Map row passes))) (Err (reduces.Wide (sites.Map other also)))
  at_map row other passes also e = ap (λ (x : ℕ × Passes). Err (reduces.Wide (sites.Map x.0 x.1))) (same_err (row, passes) (other, also) e)

  one_fixes : (r s : Result (Program Frac) ReduceStop) → Fixes setting q r → Fixes setting q s → r ≡ s
  one_fixes (Ok a) (Ok b) h k = ap Ok (same_Ok a b (one_fixed setting q (Ok a) (Ok b) h k))
  one_fixes (Ok a) (Err (reduces.Wide (sites.Map row passes))) h k = absurd (never_both a (row, passes) (one_fixed setting q (Ok a) (Err (row, passes)) h k))
  one_fixes (Err (reduces.Wide (sites.Map row passes))) (Ok a) h k = absurd (never_both a (row, passes) (one_fixed setting q (Ok a) (Err (row, passes)) k h))
  one_fixes (Err (reduces.Wide (sites.Map row passes))) (Err (reduces.Wide (sites.Map other also))) h k =
      at_map row other passes also (one_fixed setting q (Err (row, passes)) (Err (other, also)) h k)
  one_fixes r (Err (reduces.Wide (sites.Node node entry passes))) h k = absurd k
  one_fixes r (Err (reduces.Wide (sites.Row row passes))) h k = absurd k
  one_fixes r (Err (reduces.Wide (sites.Pivot pivots row column))) h k = absurd k
  one_fixes r (Err (reduces.Wide (sites.Answer row passes))) h k = absurd k
  one_fixes r (Err (reduces.TooLarge rows columns)) h k = absurd k
  one_fixes r (Err (reduces.ZeroDivisor node entry)) h k = absurd k
  one_fixes r (Err reduces.Memory) h k = absurd k
  one_fixes (Err (reduces.Wide (sites.Node node entry passes))) s h k = absurd h
  one_fixes (Err (reduces.Wide (sites.Row row passes))) s h k = absurd h
  one_fixes (Err (reduces.Wide (sites.Pivot pivots row column))) s h k = absurd h
  one_fixes (Err (reduces.Wide (sites.Answer row passes))) s h k = absurd h
  one_fixes (Err (reduces.TooLarge rows columns)) s h k = absurd h
  one_fixes (Err (reduces.ZeroDivisor node entry)) s h k = absurd h
  one_fixes (Err reduces.Memory) s h k = absurd h

module _ (p : Problem) (setting : Pairs) where
  one_map : (q r : Program ParamForm) → IsMapOf p q → IsMapOf p r → q ≡ r
  one_map q r m n = same_Ok q r (one_affine p [] (Ok q) (Ok r) m.reduces n.reduces)

  pub one_program : (r s : Result (Program Frac) ReduceStop) → SessionGives p setting r → SessionGives p setting s → r ≡ s
  one_program r s (mapped q m f) (mapped t n g) = one_fixes setting q r s f (subst (λ z. Fixes setting z s) (sym (one_map q t m n)) g)
  one_program r s (mapped q m f) (anew none k) = absurd (none (q, m))
  one_program r s (anew none h) (mapped q m g) = absurd (none (q, m))
  one_program r s (anew none h) (anew also k) = one_numbers p setting r s h k

-- ---- one stop
-- one multiplier passes first
one_reading_stop : (p : Problem) (q : Program Frac) (a : LpAnswer) (e f : AnswerStop) → e ≢ reads.Memory → f ≢ reads.Memory → StopsReading p a e → StopsReading p a f → e ≡ f
one_reading_stop p q a (reads.Wide s) (reads.Wide t) n m h k = ap reads.Wide ((readings_are_one p q.kinds a).one_stop s t h k)
one_reading_stop p q a (reads.Wide s) reads.Memory n m h k = absurd (m refl)
one_reading_stop p q a reads.Memory f n m h k = absurd (n refl)

read_or_stopped : (p : Problem) (q : Program Frac) (a : LpAnswer) (x : Answer) (e : AnswerStop) → e ≢ reads.Memory → IsRead p q.kinds a x → StopsReading p a e → ⊥
read_or_stopped p q a x (reads.Wide s) n h k = (readings_are_one p q.kinds a).never_both x s h k
read_or_stopped p q a x reads.Memory n h k = n refl

module _ (p : Problem) (setting : Pairs) (limit : ℕ) where
  pub program_apart : (q : Program Frac) (e : ReduceStop) → SessionGives p setting (Ok q) → SessionGives p setting (Err e) → ⊥
  program_apart q e g h = never_both q e (one_program p setting (Ok q) (Err e) g h)

  pub same_program : (q r : Program Frac) → SessionGives p setting (Ok q) → SessionGives p setting (Ok r) → q ≡ r
  same_program q r g h = same_Ok q r (one_program p setting (Ok q) (Ok r) g h)

  pub solved_by : (q r : Program Frac) (s : Solved) → q ≡ r → IsSolved limit (rows_of r) s → IsSolved limit (rows_of q) s
  solved_by q r s e h = subst (λ (z : Program Frac). IsSolved limit (rows_of z) s) (sym e) h

  one_answer_of : (q r : Program Frac) (s t : Solved) → SessionGives p setting (Ok q) → SessionGives p setting (Ok r) → IsSolved limit (rows_of q) s → IsSolved limit (rows_of r) t
      → s.answer ≡ t.answer
  one_answer_of q r s t g h a b = (answers_are_one limit (rows_of q) s t a (solved_by q r t (same_program q r g h) b)).answer

  same_stop : (e f : Stop) → StopsAt p setting limit e → StopsAt p setting limit f → e ≡ f
  same_stop e f (at_program a g is) (at_program b h also) = is ∙ ap program_stop (same_err a b (one_program p setting (Err a) (Err b) g h)) ∙ sym also
  same_stop e f (at_program a g is) (at_run q h b n k also) = absurd (program_apart q a h g)
  same_stop e f (at_program a g is) (at_reading q h s k b n l also) = absurd (program_apart q a h g)
  same_stop e f (at_run q h b n k also) (at_program a g is) = absurd (program_apart q a h g)
  same_stop e f (at_run q g a n h is) (at_run r k b m l also) =
      let same = same_program q r g k in
      is ∙ ap run_stop (stops_are_one limit (rows_of q) a b h (subst (λ (z : Program Frac). RowsStop limit (rows_of z) b) (sym same) l) n m) ∙ sym also
  same_stop e f (at_run q g a n h is) (at_reading r k s l b m o also) = absurd (n (solved_or_stopped limit (rows_of q) s a (solved_by q r s (same_program q r g k) l) h))
  same_stop e f (at_reading q h s k b n l also) (at_program a g is) = absurd (program_apart q a h g)
  same_stop e f (at_reading r k s l b m o also) (at_run q g a n h is) = absurd (n (solved_or_stopped limit (rows_of q) s a (solved_by q r s (same_program q r g k) l) h))
  same_stop e f (at_reading q g s h a n k is) (at_reading r l t o b m x also) =
      is ∙ ap reading_stop (one_reading_stop p q s.answer a b n m k (subst (λ (z : LpAnswer). StopsReading p z b) (sym (one_answer_of q r s t g l h o)) x)) ∙ sym also

  -- where there is an answer, no part of the way stops
  answered_or_stopped : (a : Answer) (e : Stop) (q : Program Frac) (s : Solved) → IsAnswerOf p setting limit q s a → StopsAt p setting limit e → ⊥
  answered_or_stopped a e q s x (at_program b g is) = program_apart q b x.program g
  answered_or_stopped a e q s x (at_run r g b n h is) = n (solved_or_stopped limit (rows_of r) s b (solved_by r q s (same_program r q g x.program) x.is_solved) h)
  answered_or_stopped a e q s x (at_reading r g t h b n k is) =
      read_or_stopped p q s.answer a b n x.read (subst (λ (z : LpAnswer). StopsReading p z b) (sym (one_answer_of q r s t x.program g x.is_solved h)) k)

  -- one answer
  pub same_answer : (a b : Answer) (q r : Program Frac) (s t : Solved) → IsAnswerOf p setting limit q s a → IsAnswerOf p setting limit r t b → IsSameAnswer p a b
  same_answer a b q r s t x y =
      let kinds = ap (λ (z : Program Frac). z.kinds) (same_program q r x.program y.program) in
      let answer = one_answer_of q r s t x.program y.program x.is_solved y.is_solved in
      (readings_are_one p q.kinds s.answer).same a b x.read (subst (λ k. IsRead p k s.answer b) (sym kinds) (subst (λ (z : LpAnswer). IsRead p r.kinds z b) (sym answer) y.read))

  -- ---- all together
  -- what stops a setting, want of memory aside: a misfit, or a part of the way
  parted : (e : Stop) → e ≢ why.Memory → Stops p setting limit e → IsFirstMisfit p.parameters setting e ⊎ IsStopped p setting limit e
  parted (why.UnknownParam name) n h = inl h
  parted (why.MissingParam name) n h = inl h
  parted (why.ParamShape name declared given) n h = inl h
  parted (why.ParamSign name entry value) n h = inl h
  parted (why.TooLarge rows columns) n h = inr h
  parted (why.ZeroDivisor node entry) n h = inr h
  parted (why.Wide site) n h = inr h
  parted (why.PivotLimit count) n h = inr h
  parted why.Memory n h = absurd (n refl)

  pub unfit : (e : Stop) → IsFirstMisfit p.parameters setting e → FitsParameters p.parameters setting → ⊥
  unfit e m f = stops_hold.unfit p.parameters setting e m f

  one_stop : (e f : Stop) → e ≢ why.Memory → f ≢ why.Memory → IsFirstMisfit p.parameters setting e ⊎ IsStopped p setting limit e → IsFirstMisfit p.parameters setting f ⊎ IsStopped p setting limit f
      → e ≡ f
  one_stop e f n m (inl h) (inl k) = stops_hold.one p.parameters setting e f h k n m
  one_stop e f n m (inl h) (inr k) = absurd (unfit e h k.fits)
  one_stop e f n m (inr h) (inl k) = absurd (unfit f k h.fits)
  one_stop e f n m (inr h) (inr k) = same_stop e f h.stops k.stops

  no_stop : (a : Answer) (e : Stop) (q : Program Frac) (s : Solved) → IsAnswerOf p setting limit q s a → IsFirstMisfit p.parameters setting e ⊎ IsStopped p setting limit e → ⊥
  no_stop a e q s x (inl h) = unfit e h x.fits
  no_stop a e q s x (inr h) = answered_or_stopped a e q s x h.stops

pub memory_or : (e : Stop) → (e ≡ why.Memory) ⊎ (e ≢ why.Memory)
memory_or (why.UnknownParam name) = inr (λ d. cc)
memory_or (why.MissingParam name) = inr (λ d. cc)
memory_or (why.ParamShape name declared given) = inr (λ d. cc)
memory_or (why.ParamSign name entry value) = inr (λ d. cc)
memory_or (why.TooLarge rows columns) = inr (λ d. cc)
memory_or (why.ZeroDivisor node entry) = inr (λ d. cc)
memory_or (why.Wide site) = inr (λ d. cc)
memory_or (why.PivotLimit count) = inr (λ d. cc)
memory_or why.Memory = inl refl

only_memory : (p : Problem) (setting : Pairs) (limit : ℕ) (a : Answer) (e : Stop) → Answers p setting limit (Ok a) → Answers p setting limit (Err e) → e ≡ why.Memory
only_memory p setting limit a e (q, s, x) h = by (memory_or e)
  where
    by : (e ≡ why.Memory) ⊎ (e ≢ why.Memory) → e ≡ why.Memory
    by (inl is) = is
    by (inr n) = absurd (no_stop p setting limit a e q s x (parted p setting limit e n h))

pub has_one_end : HasOneEnd
has_one_end p setting limit (Ok a) (Ok b) ok (q, s, x) (r, t, y) = same_answer p setting limit a b q r s t x y
has_one_end p setting limit (Ok a) (Err e) ok h k = only_memory p setting limit a e h k
has_one_end p setting limit (Err e) (Ok a) ok h k = only_memory p setting limit a e k h
has_one_end p setting limit (Err e) (Err f) ok h k = λ n m. one_stop p setting limit e f n m (parted p setting limit e n h) (parted p setting limit f m k)

-- ---- limits
module _ (p : Problem) (setting : Pairs) (limit count : ℕ) where
  not_program : (e : ReduceStop) → why.PivotLimit count ≡ program_stop e → ⊥
  not_program (reduces.TooLarge rows columns) e = cc
  not_program (reduces.ZeroDivisor node entry) e = cc
  not_program (reduces.Wide site) e = cc
  not_program reduces.Memory e = cc

  not_reading : (e : AnswerStop) → why.PivotLimit count ≡ reading_stop e → ⊥
  not_reading (reads.Wide site) e = cc
  not_reading reads.Memory e = cc

  from_run : (q : Program Frac) → SessionGives p setting (Ok q) → (e : _) → RowsStop limit (rows_of q) e → why.PivotLimit count ≡ run_stop e → BoundsLimit p setting limit
  from_run q g (solves.TooLarge rows columns) h e = absurd cc
  from_run q g (solves.Wide site) h e = absurd cc
  from_run q g (solves.PivotLimit n) h e = let (i, made, small) = few_pivots limit (rows_of q) n h in record { program = q; gives = g; integer = i; made = made; small = small }
  from_run q g solves.Memory h e = absurd cc

  bounds : StopsAt p setting limit (why.PivotLimit count) → BoundsLimit p setting limit
  bounds (at_program e g is) = absurd (not_program e is)
  bounds (at_run q g e n h is) = from_run q g e h is
  bounds (at_reading q g s h e n k is) = absurd (not_reading e is)

pub limits_are_small : LimitsAreSmall
limits_are_small p setting limit count h = bounds p setting limit count h.stops
