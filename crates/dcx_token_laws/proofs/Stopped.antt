-- Where a reading stops: what stands there, and all that is read so far.
use Rattle.std.proofs.Common.{◌≡◌, inl, ℕ, ◌-◌, List, [], ◌∷◌, ◌++◌, length, take, drop, Option, Some, None, refl, sym, ap, ◌∙◌, subst, append_assoc}
use Rattle.std.specs.Prelude.{Ok, Err, slice_get}
use Rattle.std.specs.Str.{chars}
use Rattle.std.proofs.lemmas.List.{take-append-drop, append-nil}
use Rattle.std.proofs.lemmas.List.Elements.{All-nil}
use Rattle.std.specs.Prelude.{IsTrue}
use Rattle.std.proofs.lemmas.Option.{none-some, same_Some}
use Rattle.dcx_shape.specs.declared.place.Place.{Place}
use Rattle.dcx_tokens.specs.declared.fault.ReadFault.{ReadFault}
use Rattle.dcx_tokens.specs.declared.fault.ReadFault.TheVariants as fault
use Rattle.dcx_tokens.specs.declared.token.Token.{Token}
use Rattle.dcx_tokens.specs.Front.{is_blank}
use Rattle.dcx_tokens.specs.Reading.{Reads, ends, stops, goes_on, IsLexed, fault_of}
use Rattle.dcx_tokens.specs.State.{State, Answer, finished, finished_at, step, start}
use Rattle.dcx_token_laws.specs.Cut.{Cut, ended}
use Rattle.dcx_token_laws.proofs.Forms.{IsFormed, Begins, begun, turned, deeper, back, begins, nests, over, inside, LineEnds, closes_it, empty, line_ends}
use Rattle.dcx_token_laws.proofs.Rising.{IsRising, deeper_rising, back_rising}
use Rattle.dcx_token_laws.proofs.Spots.{Spot, leads, spot_formed, leads_next}
use Rattle.dcx_token_laws.proofs.Stacks.{StacksOf, no_stacks}
use Rattle.dcx_token_laws.proofs.Steps.{Step, line_end, blank, comment, word, stepped}
use Rattle.dcx_token_laws.proofs.Stops.{stopped}
use Rattle.dcx_token_laws.proofs.Stretches.{IsBehind, next_behind, IsCut, step_cut, stop_cut, step_moved}

-- the reading of the text stands behind the characters of front
pub record Walks (text : List ℕ) (s : State) (front cs : List ℕ) : Type 0 where
  pub parts : chars text ≡ front ++ cs
  pub behind : IsBehind front s
  pub spot : Spot s front cs
  pub stacks : StacksOf s
  pub rising : IsRising 0 s.indents

-- it stops there in a step, or at the end of the text, where a bracket is open
pub data StopsAt (text : List ℕ) (ts : List Token) (f : ReadFault) (front rest : List ℕ) : Type 0 where
  in_step : (s t : State) (c : ℕ) (cs : List ℕ) → rest ≡ c ∷ cs → Walks text s front (c ∷ cs) → step s c cs ≡ (t, Err f) → t.tokens ≡ ts → StopsAt text ts f front rest
  at_end : (s : State) (opener : Place) → rest ≡ [] → Walks text s front [] → slice_get s.brackets (length s.brackets - 1) ≡ Some opener → f ≡ fault.Unclosed opener
      → s.tokens ≡ ts → StopsAt text ts f front rest

pub record Stopped (text : List ℕ) (s : State) (front cs : List ℕ) (ts : List Token) (f : ReadFault) : Type 0 where
  pub passed : List ℕ
  pub rest : List ℕ
  pub stop : StopsAt text ts f passed rest
  pub cut : IsCut s front cs rest ts

-- the end
pub record EndStops (s t : State) (f : ReadFault) : Type 0 where
  pub opener : Place
  pub last : slice_get s.brackets (length s.brackets - 1) ≡ Some opener
  pub is : f ≡ fault.Unclosed opener
  pub left : s.tokens ≡ t.tokens

abbrev pub EndIf : State → ReadFault → Answer (Unit {0}) → Type 0
EndIf s f answer = fault_of answer.1 ≡ Some f → EndStops s answer.0 f

pub end_stops : (s : State) (f : ReadFault) → EndIf s f (finished s)
unfolding finished
end_stops s f = by (slice_get s.brackets (length s.brackets - 1)) refl
  where
    by : (o : Option Place) → slice_get s.brackets (length s.brackets - 1) ≡ o → EndIf s f (finished_at s o)
    by (Some opener) e g = record { opener = opener; last = e; is = sym (same_Some (fault.Unclosed opener) f g); left = refl }
    by None e g = absurd (none-some f g)

-- the blocks that are open rise behind a step too
rising_next : (s t : State) (c : ℕ) (cs : List ℕ) (n : ℕ) → Step s t c cs n → IsFormed s → IsRising 0 s.indents → IsRising 0 t.indents
rising_next s t c cs n (line_end l count same) formed h = by (line_ends s t (take n (c ∷ cs)) formed same)
  where
    by : LineEnds s t (take n (c ∷ cs)) → IsRising 0 t.indents
    by (closes_it is (over none e)) = subst (λ (w : State). IsRising 0 w.indents) (sym e) h
    by (closes_it is (inside some e)) = subst (λ (w : State). IsRising 0 w.indents) (sym e) h
    by (empty blanks is e) = subst (λ (w : State). IsRising 0 w.indents) (sym e) h
rising_next s t c cs n (blank l b count same) formed h = subst (λ (w : State). IsRising 0 w.indents) (sym same) h
rising_next s t c cs n (comment l b count same) formed h = subst (λ (w : State). IsRising 0 w.indents) (sym same) h
rising_next s t c cs n (word u v k l b begins_so token nested_so same) formed h =
    subst (λ (w : State). IsRising 0 w.indents) (sym same) (subst (IsRising 0) (sym (nests u v k nested_so).indents) (by (begins s u formed begins_so)))
  where
    by : Begins s u → IsRising 0 u.indents
    by (begun is e) = subst (λ (w : State). IsRising 0 w.indents) (sym e) h
    by (turned blanks is (deeper d e)) = subst (λ (w : State). IsRising 0 w.indents) (sym e) (deeper_rising s.indents (length blanks) h d)
    by (turned blanks is (back st e)) = subst (λ (w : State). IsRising 0 w.indents) (sym e) (back_rising s.indents (length blanks) h)

-- behind a step
pub walks_next : (text : List ℕ) (s t : State) (front : List ℕ) (c : ℕ) (cs : List ℕ) (n : ℕ) → Walks text s front (c ∷ cs) → step s c cs ≡ (t, Ok n)
    → Walks text t (front ++ take n (c ∷ cs)) (drop n (c ∷ cs))
walks_next text s t front c cs n walks e =
    let next = leads_next s t front c cs n walks.stacks walks.spot (stepped s t c cs n e) in
    record {
      parts = walks.parts ∙ ap (λ xs. front ++ xs) (sym (take-append-drop n (c ∷ cs))) ∙ sym (append_assoc front (take n (c ∷ cs)) (drop n (c ∷ cs)));
      behind = next_behind s t front (take n (c ∷ cs)) walks.behind (step_moved s t c cs n e);
      spot = next.spot;
      stacks = next.stacks;
      rising = rising_next s t c cs n (stepped s t c cs n e) (spot_formed s front (c ∷ cs) walks.spot) walks.rising;
    }

-- before the first step
pub walks_first : (text : List ℕ) → Walks text start [] (chars text)
walks_first text = record { parts = refl; behind = refl; spot = leads [] [] refl refl refl (inl refl) (All-nil (λ d. IsTrue (is_blank d))) refl tt; stacks = no_stacks; rising = tt }

pub reads_stopped : {s : State} {cs : List ℕ} {ts : List Token} {g : Option ReadFault} (text : List ℕ) (f : ReadFault) (front : List ℕ) → g ≡ Some f → Walks text s front cs
    → Reads s cs ts g → Stopped text s front cs ts f
reads_stopped {s = s} {ts = ts} text f front some walks (ends {t = t} e are is) =
    let end = subst (EndIf s f) e (end_stops s f) (is ∙ some) in
    record {
      passed = front;
      rest = [];
      stop = at_end s end.opener refl walks end.last end.is (end.left ∙ are);
      cut = record { new = []; tokens = sym are ∙ sym end.left ∙ sym (append-nil s.tokens); cut = ended };
    }
reads_stopped {s = s} {cs = c ∷ cs} {ts = ts} text f front some walks (stops {t = t} {f = h} e are is) =
    let same : f ≡ h = same_Some f h (sym some ∙ sym is) in
    let formed = spot_formed s front (c ∷ cs) walks.spot in
    record {
      passed = front;
      rest = c ∷ cs;
      stop = in_step s t c cs refl walks (subst (λ (x : ReadFault). step s c cs ≡ (t, Err x)) (sym same) e) are;
      cut = subst (λ us. IsCut s front (c ∷ cs) (c ∷ cs) us) are (stop_cut s t front c cs walks.behind formed (stopped s t c cs h formed e));
    }
reads_stopped {s = s} {cs = c ∷ cs} {ts = ts} text f front some walks (goes_on {t = t} {n = n} e more) =
    let rest = reads_stopped text f (front ++ take n (c ∷ cs)) some (walks_next text s t front c cs n walks e) more in
    record {
      passed = rest.passed;
      rest = rest.rest;
      stop = rest.stop;
      cut = step_cut s t front c cs n rest.rest ts walks.behind
          (spot_formed s front (c ∷ cs) walks.spot) (stepped s t c cs n e) rest.cut;
    }

pub record StopsIn (text : List ℕ) (ts : List Token) (f : ReadFault) : Type 0 where
  pub front : List ℕ
  pub rest : List ℕ
  pub stop : StopsAt text ts f front rest
  pub cut : Cut [] (chars text) ts rest

pub stops_in : (text : List ℕ) (ts : List Token) (f : ReadFault) → IsLexed text ts (Some f) → StopsIn text ts f
stops_in text ts f lexed =
    let all = reads_stopped text f [] refl (walks_first text) lexed in
    record { front = all.passed; rest = all.rest; stop = all.stop; cut = subst (λ us. Cut [] (chars text) us all.rest) (sym all.cut.tokens) all.cut.cut }
