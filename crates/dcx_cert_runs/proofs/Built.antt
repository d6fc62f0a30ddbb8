-- The certificate of an answer that a session found last.
use Rattle.std.proofs.Common.{◌≡◌, ◌≢◌, ◌⊎◌, inl, inr, ℕ, zero, suc, List, [], ◌∷◌, Bool, true, false, IsTrue, Option, Some, None, Result, Ok, Err, refl, sym, ap, ◌∙◌, subst, true≢false}
use Rattle.std.specs.List.{slice_get}
use Rattle.std.proofs.lemmas.Option.{none-some, same_Some}
use Rattle.std.specs.Prelude.{◌↔◌, IfOk, OnOk}
use Rattle.dcx_frac.specs.declared.fraction.Frac.{Frac}
use Rattle.dcx_point.specs.Pairs.{Pairs}
use Rattle.dcx_tree.specs.declared.problem.Problem.{Problem}
use Rattle.dcx_tree.specs.Meaning.{IsAccepted, setting_of}
use Rattle.dcx_answer.specs.declared.answer.Answer.{Answer}
use Rattle.dcx_answer.specs.declared.site.Site.{Site}
use Rattle.dcx_answer.specs.declared.stop.Stop.{Stop}
use Rattle.dcx_answer.specs.declared.stop.Stop.TheVariants as stops
use Rattle.dcx_lp_answer.specs.declared.answer.LpAnswer.{LpAnswer}
use Rattle.dcx_cert_sections.specs.declared.cert.Cert.{Cert}
use Rattle.dcx_cert_sections.specs.declared.section.Section.{Section}
use Rattle.dcx_cert_sections.specs.declared.section.Section.TheVariants as sections
use Rattle.dcx_graph.specs.declared.reading.AnswerStop.{AnswerStop}
use Rattle.dcx_graph.specs.declared.reading.AnswerStop.TheVariants as reads
use Rattle.dcx_graph.specs.Program.{Program}
use Rattle.dcx_graph.specs.Reduced.{Reduction}
use Rattle.dcx_graph.specs.Fixed.{HaveArrays}
use Rattle.dcx_graph.specs.Answers.{IsAnswered, IsRead}
use Rattle.dcx_cache.specs.declared.session.Last.{Last}
use Rattle.dcx_cache.specs.InTurn.{EndInTurn}
use Rattle.dcx_cache.specs.Programs.{SessionGives, mapped, anew}
use Rattle.dcx_cache.specs.Sessions.{IsFound, Shows}
use Rattle.dcx_cache.specs.Answers.{Stops}
use Rattle.dcx_cache.proofs.Answered.{is_answered}
use Rattle.dcx_cache.proofs.Arrays.{have_arrays}
use Rattle.dcx_cache.proofs.OneEnd.{has_one_end}
use Rattle.dcx_cert_build.specs.Origins.{IsLaidOut}
use Rattle.dcx_cert_build.specs.Built.{IsBuilt, PassesAt, StopsBuilding}
use Rattle.dcx_cert_build.proofs.Laid.{programs_are_laid_out}
use Rattle.dcx_cert_runs.specs.Sections.{IsCertAt, IsStoppedAt, StopsSomewhere, HasNoCert, stopped, passes, IsSectionAt, IsTold, AreSectionsAt}

-- the rows of a session's program are laid out as the problem has them
pub laid_out : (p : Problem) (setting : Pairs) (q : Program Frac) → SessionGives p setting (Ok q) → IsLaidOut p q
laid_out p setting q (mapped map m f) = programs_are_laid_out.fixed p setting map q (programs_are_laid_out.affine p _ map m.reduces) f
laid_out p setting q (anew n h) = programs_are_laid_out.numbers p setting q h

-- an answer was found last, where the session shows one
pub has_last : (p : Problem) (setting : Pairs) (limit : ℕ) (cached : Bool) (a : Answer) (last : Option Last) → Shows p setting limit cached a last → last ≡ None → ⊥
has_last p setting limit cached a last shows none = subst (Shows p setting limit cached a) none shows

-- and it shows the answer behind its solve
pub shows_last : (p q : Problem) (setting : Pairs) (limit : ℕ) (before now : Bool) (a : Answer) (r : Result Answer Stop) (last : Option Last)
    → IfOk r (λ x. Shows p setting limit before x last) → r ≡ Ok a → q ≡ p → now ≡ before → Shows q setting limit now a last
shows_last p q setting limit before now a r last shows is same kept =
    subst (λ (z : Problem). Shows z setting limit now a last) (sym same)
    (subst (λ b. Shows p setting limit b a last) (sym kept) (subst (λ z. IfOk z (λ x. Shows p setting limit before x last)) is shows))

module _ (p : Problem) (setting : Pairs) (limit : ℕ) (cached : Bool) (a : Answer) (last : Option Last) (l : Last) (reduced : Reduction Frac) (rows : LpAnswer)
    (shows : Shows p setting limit cached a last)
    (is : last ≡ Some l) (from : reduced ≡ l.reduced) (of : rows ≡ l.solved.answer) where
  found : IsFound p setting limit cached a l
  found = subst (Shows p setting limit cached a) is shows

  pub given : HaveArrays p setting
  given = have_arrays p setting found.answer.fits

  pub is_laid_out : IsLaidOut p reduced.program
  is_laid_out = subst (λ (z : Reduction Frac). IsLaidOut p z.program) (sym from) (laid_out p setting l.reduced.program found.answer.program)

  pub answered : IsAccepted p → IsAnswered p (setting_of p setting) reduced.program rows
  answered ok =
      subst (λ (z : Reduction Frac). IsAnswered p (setting_of p setting) z.program rows) (sym from)
      (subst (λ (z : LpAnswer). IsAnswered p (setting_of p setting) l.reduced.program z) (sym of)
      (is_answered p setting ok found.answer.fits limit l.reduced.program l.solved found.answer.program found.answer.is_solved))

  pub read : IsRead p reduced.program.kinds rows a
  read =
      subst (λ (z : Reduction Frac). IsRead p z.program.kinds rows a) (sym from)
      (subst (λ (z : LpAnswer). IsRead p l.reduced.program.kinds z a) (sym of) found.answer.read)

  -- a certificate that is built of the answer
  pub cert_at : (cert : Cert) → IsBuilt p setting reduced.program.origins rows a cert → IsCertAt p limit setting cert
  cert_at cert built = record {
    program = l.reduced.program;
    solved = l.solved;
    answer = a;
    answered = found.answer;
    built = subst (λ (z : Reduction Frac). IsBuilt p setting z.program.origins l.solved.answer a cert) from (subst (λ (z : LpAnswer). IsBuilt p setting reduced.program.origins z a cert) of built);
  }

  -- a weight of it passes
  pub none_at : (site : Site) → PassesAt p reduced.program.origins rows site → HasNoCert p limit setting
  none_at site h =
      passes l.reduced.program l.solved a site found.answer
      (subst (λ (z : Reduction Frac). PassesAt p z.program.origins l.solved.answer site) from (subst (λ (z : LpAnswer). PassesAt p reduced.program.origins z site) of h))

  -- the setting isn't stopped
  pub not_stopped : IsAccepted p → IsStoppedAt p limit setting → ⊥
  not_stopped ok h = h.not_memory (has_one_end p setting limit (Ok a) (Err h.stop) ok (l.reduced.program, l.solved, found.answer) h.stops)

  no_cert : (stop : AnswerStop) → stop ≢ reads.Memory → StopsBuilding p reduced.program.origins rows stop → HasNoCert p limit setting
  no_cert (reads.Wide site) n h = none_at site h
  no_cert reads.Memory n h = absurd (n refl)

  -- no certificate is built of the answer
  pub unbuilt_at : {E : Type 0} → (stop : AnswerStop) (r : Result Section E) → StopsBuilding p reduced.program.origins rows stop → IfOk r (λ x. x ≡ sections.None) → OnOk r (stop ≢ reads.Memory)
      → IfOk r (IsSectionAt p limit setting)
  unbuilt_at stop (Ok x) h is told = subst (IsSectionAt p limit setting) (sym is) (no_cert stop told h)
  unbuilt_at stop (Err e) h is told = tt

module _ (p : Problem) (limit : ℕ) (setting : Pairs) (before after : Option (List ℕ)) (flag : Bool) where
  -- a setting that is answered leaves the flag as it is
  pub answered_at : {E : Type 0} (r : Result Section E) → ¬ (IsStoppedAt p limit setting) → IfOk r (IsSectionAt p limit setting) → IfOk r (λ x. IsTold p limit setting (before, flag) x (after, flag))
  answered_at (Ok x) n h = record { is_section = h; flag = (λ t. inl t, by) }
    where
      by : IsTrue flag ⊎ IsStoppedAt p limit setting → IsTrue flag
      by (inl t) = t
      by (inr at) = absurd (n at)
  answered_at (Err e) n h = tt

  -- one that is stopped has no certificate, and sets it
  pub stopped_at : {E : Type 0} (stop : Stop) (r : Result Section E) → Stops p setting limit stop → IfOk r (λ x. x ≡ sections.None) → OnOk r (stop ≢ stops.Memory)
      → IfOk r (λ x. IsTold p limit setting (before, flag) x (after, true))
  stopped_at stop (Ok x) h is told =
      let at : IsStoppedAt p limit setting = record { stop = stop; not_memory = told; stops = h } in
      record { is_section = subst (IsSectionAt p limit setting) (sym is) (stopped at); flag = (λ t. inr at, λ w. refl) }
  stopped_at stop (Err e) h is told = tt

-- ---- setting after setting
module _ (p : Problem) (limit : ℕ) where
  next_section : (s : Pairs) (ss : List Pairs) (x : Section) (xs : List Section) → IsSectionAt p limit s x → AreSectionsAt p limit ss xs → AreSectionsAt p limit (s ∷ ss) (x ∷ xs)
  next_section s ss x xs h rest = record { count = ap suc rest.count; each = each }
    where
      each : (k : ℕ) (t : Pairs) (y : Section) → slice_get (s ∷ ss) k ≡ Some t → slice_get (x ∷ xs) k ≡ Some y → IsSectionAt p limit t y
      each zero t y at here = subst (λ (z : Pairs). IsSectionAt p limit z y) (same_Some s t at) (subst (IsSectionAt p limit s) (same_Some x y here) h)
      each (suc k) t y at here = rest.each k t y at here

  -- the sections are those of the settings
  pub sections_in_turn : (ss : List Pairs) (before : Option (List ℕ) × Bool) (xs : List Section) (after : Option (List ℕ) × Bool) → EndInTurn (IsTold p limit) ss before xs after
      → AreSectionsAt p limit ss xs
  sections_in_turn [] before [] after h = record { count = refl; each = λ k s x at here. absurd (none-some s at) }
  sections_in_turn (s ∷ ss) before (x ∷ xs) after (mid, e, h) = next_section s ss x xs e.is_section (sections_in_turn ss mid xs after h)
  sections_in_turn [] before (x ∷ xs) after h = absurd h
  sections_in_turn (s ∷ ss) before [] after h = absurd h

  first_or_later : (s : Pairs) (ss : List Pairs) → StopsSomewhere p limit (s ∷ ss) → IsStoppedAt p limit s ⊎ StopsSomewhere p limit ss
  first_or_later s ss w = by w.position w.there
    where
      by : (k : ℕ) → slice_get (s ∷ ss) k ≡ Some w.setting → IsStoppedAt p limit s ⊎ StopsSomewhere p limit ss
      by zero at = inl (subst (IsStoppedAt p limit) (sym (same_Some s w.setting at)) w.is)
      by (suc k) at = inr (record { position = k; setting = w.setting; there = at; is = w.is })

  next_flag : (s : Pairs) (ss : List Pairs) (had now has : Bool) → IsTrue now ↔ (IsTrue had ⊎ IsStoppedAt p limit s) → IsTrue has ↔ (IsTrue now ⊎ StopsSomewhere p limit ss)
      → IsTrue has ↔ (IsTrue had ⊎ StopsSomewhere p limit (s ∷ ss))
  next_flag s ss had now has e h = (λ t. later (h.0 t), back)
    where
      here : IsTrue had ⊎ IsStoppedAt p limit s → IsTrue had ⊎ StopsSomewhere p limit (s ∷ ss)
      here (inl t) = inl t
      here (inr at) = inr (record { position = 0; setting = s; there = refl; is = at })

      later : IsTrue now ⊎ StopsSomewhere p limit ss → IsTrue had ⊎ StopsSomewhere p limit (s ∷ ss)
      later (inl t) = here (e.0 t)
      later (inr w) = inr (record { position = suc w.position; setting = w.setting; there = w.there; is = w.is })

      by : IsStoppedAt p limit s ⊎ StopsSomewhere p limit ss → IsTrue has
      by (inl at) = h.1 (inl (e.1 (inr at)))
      by (inr w) = h.1 (inr w)

      back : IsTrue had ⊎ StopsSomewhere p limit (s ∷ ss) → IsTrue has
      back (inl t) = h.1 (inl (e.1 (inl t)))
      back (inr w) = by (first_or_later s ss w)

  -- the flag says whether one of the settings is stopped, or it was set before
  flag_in_turn : (ss : List Pairs) (before : Option (List ℕ) × Bool) (xs : List Section) (after : Option (List ℕ) × Bool) → EndInTurn (IsTold p limit) ss before xs after
      → IsTrue after.1 ↔ (IsTrue before.1 ⊎ StopsSomewhere p limit ss)
  flag_in_turn [] before [] after h = (λ t. inl (sym (ap (λ (z : Option (List ℕ) × Bool). z.1) h) ∙ t), by)
    where
      by : IsTrue before.1 ⊎ StopsSomewhere p limit [] → IsTrue after.1
      by (inl t) = ap (λ (z : Option (List ℕ) × Bool). z.1) h ∙ t
      by (inr w) = absurd (none-some w.setting w.there)
  flag_in_turn (s ∷ ss) before (x ∷ xs) after (mid, e, h) = next_flag s ss before.1 mid.1 after.1 e.flag (flag_in_turn ss mid xs after h)
  flag_in_turn [] before (x ∷ xs) after h = absurd h
  flag_in_turn (s ∷ ss) before [] after h = absurd h

  pub stops_in_turn : (ss : List Pairs) (columns : Option (List ℕ)) (xs : List Section) (after : Option (List ℕ) × Bool) → EndInTurn (IsTold p limit) ss (columns, false) xs after
      → IsTrue after.1 ↔ StopsSomewhere p limit ss
  stops_in_turn ss columns xs after h = (λ t. by ((flag_in_turn ss (columns, false) xs after h).0 t), λ w. (flag_in_turn ss (columns, false) xs after h).1 (inr w))
    where
      by : IsTrue false ⊎ StopsSomewhere p limit ss → StopsSomewhere p limit ss
      by (inl t) = absurd (true≢false (sym t))
      by (inr w) = w
