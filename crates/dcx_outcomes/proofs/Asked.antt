-- What holds of the outcomes of settings at which a question is asked of a session's program.
use Rattle.std.proofs.Common.{◌≡◌, ◌≢◌, ◌⊎◌, inl, inr, List, Option, Result, Ok, Err, refl, sym, ap, ◌∙◌, subst}
use Rattle.std.specs.Prelude.{IfOk}
use Rattle.std.specs.List.{AllZip}
use Rattle.dcx_shape.specs.declared.place.Place.{Place}
use Rattle.dcx_frac.specs.declared.fraction.Frac.{Frac}
use Rattle.dcx_point.specs.Pairs.{Pairs}
use Rattle.dcx_tree.specs.declared.problem.Problem.{Problem}
use Rattle.dcx_tree.specs.Meaning.{IsFitting}
use Rattle.dcx_fit.specs.Fit.{FitsParameters, IsFirstMisfit}
use Rattle.dcx_fit.proofs.First.{stops_hold}
use Rattle.dcx_answer.specs.declared.stop.Stop.{Stop}
use Rattle.dcx_answer.specs.declared.stop.Stop.TheVariants as why
use Rattle.dcx_graph.specs.declared.stop.ReduceStop.{ReduceStop}
use Rattle.dcx_graph.specs.declared.stop.ReduceStop.TheVariants as reduces
use Rattle.dcx_graph.specs.Program.{Program}
use Rattle.dcx_cache.specs.InTurn.{EndInTurn}
use Rattle.dcx_cache.specs.Programs.{SessionGives, IsUnformed, ProgramStops}
use Rattle.dcx_cache.specs.Stops.{program_stop}
use Rattle.dcx_cache.proofs.InTurn.{each_in_turn}
use Rattle.dcx_cache.proofs.OneEnd.{one_program, program_apart, same_program, unfit}
use Rattle.dcx_outcomes.specs.Asking.{EndsAt, node_place, IsAskedOutcome, AreAskedOutcomes, IsRightAt, FindsRight, WantsMemory, IsSameEnd, AreOneEnd}
use Rattle.dcx_outcomes.specs.Outcomes.{stop_place}
use Rattle.dcx_outcomes.proofs.Zips.{zip_weaker, zip_both}

-- ---- the stops of a program
module _ (p : Problem) (setting : Pairs) where
  -- what stops a program, want of memory aside: a misfit, or a part of its forming
  parted : (e : Stop) → e ≢ why.Memory → ProgramStops p setting e → IsFirstMisfit p.parameters setting e ⊎ ((r : ReduceStop) × IsUnformed p setting r × (e ≡ program_stop r))
  parted (why.UnknownParam name) n h = inl h
  parted (why.MissingParam name) n h = inl h
  parted (why.ParamShape name declared given) n h = inl h
  parted (why.ParamSign name entry value) n h = inl h
  parted (why.TooLarge rows columns) n h = inr (reduces.TooLarge rows columns, h, refl)
  parted (why.ZeroDivisor node entry) n h = inr (reduces.ZeroDivisor node entry, h, refl)
  parted (why.Wide site) n h = inr (reduces.Wide site, h, refl)
  parted (why.PivotLimit count) n h = absurd h
  parted why.Memory n h = absurd (n refl)

  -- a setting that has a program isn't stopped
  given_apart : (q : Program Frac) (e : Stop) → e ≢ why.Memory → FitsParameters p.parameters setting → SessionGives p setting (Ok q) → ProgramStops p setting e → ⊥
  given_apart q e n fits g h = by (parted e n h)
    where
      by : IsFirstMisfit p.parameters setting e ⊎ ((r : ReduceStop) × IsUnformed p setting r × (e ≡ program_stop r)) → ⊥
      by (inl m) = unfit p setting 0 e m fits
      by (inr (r, k, is)) = program_apart p setting 0 q r g k.stops

  same_stop : (e f : Stop) → e ≢ why.Memory → f ≢ why.Memory → ProgramStops p setting e → ProgramStops p setting f → e ≡ f
  same_stop e f n m h k = by (parted e n h) (parted f m k)
    where
      by : IsFirstMisfit p.parameters setting e ⊎ ((r : ReduceStop) × IsUnformed p setting r × (e ≡ program_stop r)) → IsFirstMisfit p.parameters setting f
          ⊎ ((r : ReduceStop) × IsUnformed p setting r × (f ≡ program_stop r)) → e ≡ f
      by (inl a) (inl b) = stops_hold.one p.parameters setting e f a b n m
      by (inl a) (inr (r, b, is)) = absurd (unfit p setting 0 e a b.fits)
      by (inr (r, a, is)) (inl b) = absurd (unfit p setting 0 f b a.fits)
      by (inr (r, a, is)) (inr (t, b, also)) =
          let stops = one_program p setting (Err r) (Err t) a.stops b.stops in
          let same : r ≡ t = cc in
          is ∙ ap program_stop same ∙ sym also

-- ---- outcomes
-- an outcome that tells how a setting ends, with its place
pub outcome_of : {A O : Type 0} (Gives : Problem → Pairs → Program Frac → A → Type 0) (Tells : O → Result A Stop → Type 0) (place : O → Option Place) (p : Problem) (setting : Pairs)
    (e : Result A Stop) (o : O) → EndsAt Gives p setting e → Tells o e → place o ≡ node_place p e → IsAskedOutcome Gives Tells place p setting o
outcome_of Gives Tells place p setting e o h told placed = record { end = e; ends = h; tells = told; placed = placed }

-- outcomes of settings that end in turn
pub asked_in_turn : {A O K : Type 0} (Gives : Problem → Pairs → Program Frac → A → Type 0) (Tells : O → Result A Stop → Type 0) (place : O → Option Place) (p : Problem) (settings : List Pairs)
    (before : K) (os : List O) (after : K) → EndInTurn (λ (s : Pairs) (b : K) (o : O) (a : K). IsAskedOutcome Gives Tells place p s o) settings before os after
    → AreAskedOutcomes Gives Tells place p settings os
asked_in_turn {A} {O} {K} Gives Tells place p settings before os after h =
    each_in_turn (λ (s : Pairs) (b : K) (o : O) (a : K). IsAskedOutcome Gives Tells place p s o) (IsAskedOutcome Gives Tells place p) (λ s b o a k. k) settings before os after h

-- what is found is right, where each answer is
-- `Told` says what that is of an outcome
pub are_right : {F E O : Type 0} (Gives : Problem → Pairs → Program Frac → Result F E → Type 0) (Tells : O → Result (Result F E) Stop → Type 0) (place : O → Option Place) (p : Problem)
    (Right : Pairs → F → Type 0) (Told : Pairs → O → Type 0) →
    ((s : Pairs) (q : Program Frac) (r : Result F E) → FitsParameters p.parameters s → SessionGives p s (Ok q) → Gives p s q r → IfOk r (IsRightAt p s (Right s))) →
    ((s : Pairs) (o : O) (e : Result (Result F E) Stop) → Tells o e → FindsRight p s (Right s) e → Told s o) →
    (settings : List Pairs) (os : List O) → AreAskedOutcomes Gives Tells place p settings os → AllZip Told settings os
are_right {F} {E} Gives Tells place p Right Told right told settings os h =
    zip_weaker (IsAskedOutcome Gives Tells place p) Told (λ s o k. told s o k.end k.tells (by s k.end k.ends)) settings os h
  where
    by : (s : Pairs) (e : Result (Result F E) Stop) → EndsAt Gives p s e → FindsRight p s (Right s) e
    by s (Ok r) k = right s k.program r k.fits k.gives k.answers
    by s (Err stop) k = tt

-- where both ends are the same, so is the place
same_place : {F E : Type 0} (p : Problem) (Same : F → F → Type 0) (x y : Result (Result F E) Stop) → IsSameEnd Same x y → node_place p x ≡ node_place p y
same_place p Same (Ok (Ok a)) (Ok (Ok b)) h = refl
same_place p Same (Ok (Ok a)) (Ok (Err t)) h = absurd h
same_place p Same (Ok (Ok a)) (Err t) h = absurd h
same_place p Same (Ok (Err s)) (Ok (Ok b)) h = absurd h
same_place p Same (Ok (Err s)) (Ok (Err t)) h = refl
same_place p Same (Ok (Err s)) (Err t) h = absurd h
same_place p Same (Err s) (Ok (Ok b)) h = absurd h
same_place p Same (Err s) (Ok (Err t)) h = absurd h
same_place p Same (Err s) (Err t) h = ap (stop_place p) h

-- what has the same numbers is the same
same_end : {F E : Type 0} (x y : Result (Result F E) Stop) → IsSameEnd (λ (a b : F). a ≡ b) x y → x ≡ y
same_end (Ok (Ok a)) (Ok (Ok b)) h = ap (λ z. Ok (Ok z)) h
same_end (Ok (Ok a)) (Ok (Err t)) h = absurd h
same_end (Ok (Ok a)) (Err t) h = absurd h
same_end (Ok (Err s)) (Ok (Ok b)) h = absurd h
same_end (Ok (Err s)) (Ok (Err t)) h = ap (λ z. Ok (Err z)) h
same_end (Ok (Err s)) (Err t) h = absurd h
same_end (Err s) (Ok (Ok b)) h = absurd h
same_end (Err s) (Ok (Err t)) h = absurd h
same_end (Err s) (Err t) h = ap Err h

-- outcomes with one end are the same, where an outcome is its end and its place
pub alike : {F E O : Type 0} (end : O → Result (Result F E) Stop) (place : O → Option Place) (memory : E) → ((o q : O) → end o ≡ end q → place o ≡ place q → o ≡ q) →
    (o q : O) (x y : Result (Result F E) Stop) → end o ≡ x → end q ≡ y → AreOneEnd memory (λ (a b : F). a ≡ b) x y → (IsSameEnd (λ (a b : F). a ≡ b) x y → place o ≡ place q) →
    ¬ WantsMemory memory (end o) → ¬ WantsMemory memory (end q) → o ≡ q
alike end place memory made o q x y t u one places n m =
    let same = one (subst (λ e. ¬ WantsMemory memory e) t n) (subst (λ e. ¬ WantsMemory memory e) u m) in
    made o q (t ∙ same_end x y same ∙ sym u) (places same)

-- settings have one list of outcomes, where a program has one answer; `Alike` says what two outcomes with one end are
pub are_one : {F E O : Type 0} (Gives : Problem → Pairs → Program Frac → Result F E → Type 0) (Tells : O → Result (Result F E) Stop → Type 0) (place : O → Option Place) (p : Problem)
    (memory : E) (Same : F → F → Type 0) (Alike : O → O → Type 0) →
    ((s : Pairs) (q : Program Frac) (x y : Result F E) → FitsParameters p.parameters s → SessionGives p s (Ok q) → Gives p s q x → Gives p s q y → AreOneEnd memory Same (Ok x) (Ok y)) →
    ((o q : O) (x y : Result (Result F E) Stop) → Tells o x → Tells q y → AreOneEnd memory Same x y → (IsSameEnd Same x y → place o ≡ place q) → Alike o q) →
    (settings : List Pairs) (os qs : List O) → AreAskedOutcomes Gives Tells place p settings os → AreAskedOutcomes Gives Tells place p settings qs → AllZip Alike os qs
are_one {F} {E} {O} Gives Tells place p memory Same Alike one alike settings os qs h k =
    zip_both (IsAskedOutcome Gives Tells place p) (IsAskedOutcome Gives Tells place p) Alike (λ s o q x y. both s o q x y) settings os qs h k
  where
    by : (s : Pairs) (x y : Result (Result F E) Stop) → EndsAt Gives p s x → EndsAt Gives p s y → AreOneEnd memory Same x y
    by s (Ok x) (Ok y) h k n m =
        let same = same_program p s 0 h.program k.program h.gives k.gives in
        one s h.program x y h.fits h.gives h.answers (subst (λ (q : Program Frac). Gives p s q y) (sym same) k.answers) n m
    by s (Ok x) (Err e) h k n m = absurd (given_apart p s h.program e m h.fits h.gives k)
    by s (Err e) (Ok y) h k n m = absurd (given_apart p s k.program e n k.fits k.gives h)
    by s (Err e) (Err f) h k n m = same_stop p s e f n m h k

    both : (s : Pairs) (o q : O) → IsAskedOutcome Gives Tells place p s o → IsAskedOutcome Gives Tells place p s q → Alike o q
    both s o q x y = alike o q x.end y.end x.tells y.tells (by s x.end y.end x.ends y.ends) (λ same. x.placed ∙ same_place p Same x.end y.end same ∙ sym y.placed)

-- ---- answers
-- what is found is right, and the setting fits
pub right_there : {F E : Type 0} (p : Problem) (setting : Pairs) (Right : F → Type 0) (r : Result F E) → IsFitting p setting → IfOk r Right → IfOk r (IsRightAt p setting Right)
right_there p setting Right (Ok found) fits h = record { fits = fits; right = h }
right_there p setting Right (Err stop) fits h = tt
