-- Each step of a reading cuts one stretch off the text.
use Rattle.std.proofs.Common.{◌≡◌, inl, inr, ℕ, zero, suc, ◌-◌, List, [], ◌∷◌, ◌++◌, length, take, drop, replicate, Option, Some, None, refl, sym, ap, ◌∙◌, subst, append_assoc, arith}
use Rattle.std.specs.Prelude.{Ok, Err, slice_get}
use Rattle.std.specs.Str.{chars}
use Rattle.std.proofs.lemmas.List.{append-nil, take-append-drop}
use Rattle.std.proofs.lemmas.List.Elements.{All-nil, All-cons, All-replicate}
use Rattle.dcx_shape.specs.declared.place.Place.{Place}
use Rattle.dcx_tokens.specs.declared.fault.ReadFault.{ReadFault}
use Rattle.dcx_tokens.specs.declared.token.Token.{Token}
use Rattle.dcx_tokens.specs.declared.token.TokenKind.{TokenKind}
use Rattle.dcx_tokens.specs.declared.token.TokenKind.TheVariants as kind
use Rattle.dcx_tokens.specs.Layout.{kept}
use Rattle.dcx_tokens.specs.Position.{bytes_of, start_of_text, moved_over, next_at, line_behind}
use Rattle.dcx_tokens.specs.Reading.{Reads, ends, stops, goes_on, IsLexed}
use Rattle.dcx_tokens.specs.State.{State, Answer, put, moved, dedent_at, line_supplied, all_ended, finished_at, finished, start, step}
use Rattle.dcx_tokens.proofs.Bytes.{offset_moved}
use Rattle.dcx_tokens.proofs.Kept.{token_of, step_moves}
use Rattle.dcx_token_laws.specs.Cut as cuts
use Rattle.dcx_token_laws.specs.Cut.{place_behind, Spans, IsMark, AreMarks, IsLast, Cut}
use Rattle.dcx_token_laws.specs.Words.{IsWord, IsLongest}
use Rattle.dcx_token_laws.proofs.Between.{are_blanks, is_line_end, is_comment}
use Rattle.dcx_token_laws.proofs.Forms.{IsFormed, Turned, deeper, back, Begins, begun, turned, begins, nests, over, inside, LineEnds, closes_it, empty, line_ends, formed_next}
use Rattle.dcx_token_laws.proofs.Spelled.{is_word, is_longest}
use Rattle.dcx_token_laws.proofs.Stops.{Stops, at_once, begun as stop_begun, stopped}
use Rattle.dcx_token_laws.proofs.Steps as steps
use Rattle.dcx_token_laws.proofs.Steps.{Step, stepped}
use Rattle.dcx_token_laws.proofs.Basics.{some_is}

-- ---- positions
-- the reading stands behind these characters
abbrev pub IsBehind : List ℕ → State → Type 0
IsBehind front s = s.at ≡ moved_over start_of_text front

moved_append : (s : State) (xs ys : List ℕ) → moved_over s.at (xs ++ ys) ≡ moved_over (moved_over s.at xs) ys
moved_append s [] ys = refl
moved_append s (x ∷ xs) ys = moved_append (record s { at = next_at s.at x }) xs ys

pub next_behind : (s t : State) (front cs : List ℕ) → IsBehind front s → t.at ≡ moved_over s.at cs → IsBehind (front ++ cs) t
next_behind s t front cs h e = e ∙ rw h (sym (moved_append start front cs))

offset_behind : (s : State) (front : List ℕ) → IsBehind front s → s.at.offset ≡ bytes_of front
offset_behind s front h = rw h (offset_moved start.at front ∙ omega arith)

pub token_spans : (s : State) (k : TokenKind) (front cs : List ℕ) → IsBehind front s → Spans (token_of s k cs) front cs
token_spans s k front cs h = record {
  place = rw h refl;
  start = offset_behind s front h;
  end = offset_behind (moved s cs) (front ++ cs) (next_behind s (moved s cs) front cs h refl);
}

abbrev Moves : State → ℕ → List ℕ → Answer ℕ → Type 0
Moves s c cs (t, Ok n) = t.at ≡ moved_over s.at (take n (c ∷ cs))
Moves s c cs (t, Err f) = t.at ≡ s.at

-- ---- marks
-- the marks of a line stand in front of its first token
pub record IsMarked (front : List ℕ) (s u : State) : Type 0 where
  pub marks : List Token
  pub tokens : u.tokens ≡ s.tokens ++ marks
  pub at : u.at ≡ s.at
  pub are : AreMarks front marks

dedents : (s : State) (front : List ℕ) (n : ℕ) → IsBehind front s → AreMarks front (replicate n (dedent_at s s.at.place))
dedents s front n h = All-replicate (λ m. IsMark m.kind × Spans m front []) n (dedent_at s s.at.place) (tt, token_spans s kind.Dedent front [] h)

turned_marks : (front : List ℕ) (s u : State) (spaces : ℕ) → IsBehind front s → Turned s u spaces → IsMarked front s u
turned_marks front s u spaces h (deeper d same) =
    subst (IsMarked front s) (sym same) (record {
      marks = token_of s kind.Indent [] ∷ [];
      tokens = refl;
      at = refl;
      are = All-cons (λ m. IsMark m.kind × Spans m front [])
          (token_of s kind.Indent []) [] (tt, token_spans s kind.Indent front [] h) (All-nil (λ m. IsMark m.kind × Spans m front []));
    })
turned_marks front s u spaces h (back st same) =
    let n = length s.indents - length (kept s.indents spaces) in
    subst (IsMarked front s) (sym same) (record { marks = replicate n (dedent_at s s.at.place); tokens = refl; at = refl; are = dedents s front n h })

pub marked : (front : List ℕ) (s u : State) → IsBehind front s → Begins s u → IsMarked front s u
marked front s u h (begun is same) = subst (IsMarked front s) (sym same) (record { marks = []; tokens = sym (append-nil s.tokens); at = refl; are = All-nil (λ m. IsMark m.kind × Spans m front []) })
marked front s u h (turned blanks is how) = turned_marks front s u (length blanks) h how

-- ---- a reading from a state on
-- the tokens that are read from there on, which cut the characters up to rest
pub record IsCut (s : State) (front cs rest : List ℕ) (ts : List Token) : Type 0 where
  pub new : List Token
  pub tokens : ts ≡ s.tokens ++ new
  pub cut : Cut front cs new rest

-- the same characters, cut in two
joined : (front : List ℕ) (n : ℕ) (cs : List ℕ) (ts : List Token) (rest : List ℕ) → Cut front (take n cs ++ drop n cs) ts rest → Cut front cs ts rest
joined front n cs ts rest h = subst (λ xs. Cut front xs ts rest) (take-append-drop n cs) h

-- a stretch without a token
passed : (s t : State) (front cs : List ℕ) (n : ℕ) (rest : List ℕ) (ts : List Token) → t.tokens ≡ s.tokens → cuts.IsBetween (take n cs) (drop n cs) →
    IsCut t (front ++ take n cs) (drop n cs) rest ts → IsCut s front cs rest ts
passed s t front cs n rest ts same between more = record {
  new = more.new;
  tokens = more.tokens ∙ ap (λ us. us ++ more.new) same;
  cut = joined front n cs more.new rest (cuts.between (take n cs) between more.cut);
}

-- a stretch with a token, behind marks
tokened : (s t : State) (marks : List Token) (token : Token) (front cs : List ℕ) (n : ℕ) (rest : List ℕ) (ts : List Token) → t.tokens ≡ (s.tokens ++ marks) ++ token ∷ [] → AreMarks front marks →
    IsWord token.kind (take n cs) → IsLongest (take n cs) (drop n cs) → Spans token front (take n cs) → IsCut t (front ++ take n cs) (drop n cs) rest ts → IsCut s front cs rest ts
tokened s t marks token front cs n rest ts same are word longest spans more = record {
  new = marks ++ token ∷ more.new;
  tokens = more.tokens ∙ ap (λ us. us ++ more.new) same ∙ append_assoc (s.tokens ++ marks) (token ∷ []) more.new ∙ append_assoc s.tokens marks (token ∷ more.new);
  cut = joined front n cs (marks ++ token ∷ more.new) rest (cuts.word marks (take n cs) are word longest spans more.cut);
}

lined : (s t : State) (token : Token) (front cs : List ℕ) (n : ℕ) (rest : List ℕ) (ts : List Token) → t.tokens ≡ s.tokens ++ token ∷ [] →
    token.kind ≡ kind.Newline → cuts.IsLineEnd (take n cs) → Spans token front (take n cs) → IsCut t (front ++ take n cs) (drop n cs) rest ts → IsCut s front cs rest ts
lined s t token front cs n rest ts same is end spans more = record {
  new = token ∷ more.new;
  tokens = more.tokens ∙ ap (λ us. us ++ more.new) same ∙ append_assoc s.tokens (token ∷ []) more.new;
  cut = joined front n cs (token ∷ more.new) rest (cuts.line_end (take n cs) is end spans more.cut);
}

-- a step cuts one stretch off
pub step_cut : (s t : State) (front : List ℕ) (c : ℕ) (cs : List ℕ) (n : ℕ) (rest : List ℕ) (ts : List Token) → IsBehind front s → IsFormed s → Step s t c cs n →
    IsCut t (front ++ take n (c ∷ cs)) (drop n (c ∷ cs)) rest ts → IsCut s front (c ∷ cs) rest ts
step_cut s t front c cs n rest ts h formed (steps.line_end l count same) more = by (line_ends s t (take n (c ∷ cs)) formed same)
  where
    end : cuts.IsLineEnd (take n (c ∷ cs))
    end = is_line_end c cs n l count

    by : LineEnds s t (take n (c ∷ cs)) → IsCut s front (c ∷ cs) rest ts
    by (closes_it is (over none e)) = lined s t (token_of s kind.Newline (take n (c ∷ cs))) front (c ∷ cs) n rest ts (ap (λ (w : State). w.tokens) e) refl end
        (token_spans s kind.Newline front (take n (c ∷ cs)) h) more
    by (closes_it is (inside some e)) = passed s t front (c ∷ cs) n rest ts (ap (λ (w : State). w.tokens) e) (inr (inr end)) more
    by (empty blanks is e) = passed s t front (c ∷ cs) n rest ts (ap (λ (w : State). w.tokens) e) (inr (inr end)) more
step_cut s t front c cs n rest ts h formed (steps.blank l b count same) more = passed s t front (c ∷ cs) n rest ts (ap (λ (w : State). w.tokens) same) (inl (are_blanks c cs n b count)) more
step_cut s t front c cs n rest ts h formed (steps.comment l is count same) more = passed s t front (c ∷ cs) n rest ts (ap (λ (w : State). w.tokens) same) (inr (inl (is_comment c cs n is count))) more
step_cut s t front c cs n rest ts h formed (steps.word u v k l b begins_so token nested_so same) more =
    let m = marked front s u h (begins s u formed begins_so) in
    let nest = nests u v k nested_so in
    let behind : IsBehind front v = nest.at ∙ m.at ∙ h in
    tokened s t m.marks (token_of v k (take n (c ∷ cs))) front (c ∷ cs) n rest ts
    (ap (λ (w : State). w.tokens) same ∙ ap (λ us. us ++ token_of v k (take n (c ∷ cs)) ∷ []) (nest.tokens ∙ m.tokens))
    m.are (is_word c cs k n token) (is_longest c cs k n token) (token_spans v k front (take n (c ∷ cs)) behind) more

-- ---- the end
lasts : (front : List ℕ) (n : ℕ) (d : Token) → IsLast d front → Cut front [] (replicate n d) []
lasts front zero d is = cuts.ended
lasts front (suc n) d is = cuts.last is (lasts front n d is)

-- the ends of all indentations
record Ends (s w : State) (front : List ℕ) : Type 0 where
  new : List Token
  tokens : w.tokens ≡ s.tokens ++ new
  cut : Cut front [] new []

pub last_is : (s : State) (front : List ℕ) → IsBehind front s → IsLast (dedent_at s (line_behind s.at.place)) front
last_is s front h = record { kind = refl; place = rw h refl; start = offset_behind s front h; end = offset_behind s front h }

line_supplied_cut : (s : State) (front : List ℕ) → IsBehind front s → IsFormed s → Ends s (all_ended (line_supplied s s.line)) front
line_supplied_cut s front h (inl is) =
    let w = put s kind.Newline [] in
    let same : line_supplied s s.line ≡ w = rw is refl in
    let ds = replicate (length s.indents) (dedent_at w (line_behind w.at.place)) in
    subst (λ (x : State). Ends s (all_ended x) front) (sym same) (record {
      new = token_of s kind.Newline [] ∷ ds;
      tokens = append_assoc s.tokens (token_of s kind.Newline [] ∷ []) ds;
      cut = cuts.supplied refl (token_spans s kind.Newline front [] h) (lasts front (length s.indents) (dedent_at w (line_behind w.at.place)) (last_is w front h));
    })
line_supplied_cut s front h (inr (blanks, is)) =
    let same : line_supplied s s.line ≡ s = rw is refl in
    subst (λ (x : State). Ends s (all_ended x) front) (sym same) (record {
      new = replicate (length s.indents) (dedent_at s (line_behind s.at.place));
      tokens = refl;
      cut = lasts front (length s.indents) (dedent_at s (line_behind s.at.place)) (last_is s front h);
    })

finished_cut : (s : State) (front : List ℕ) → IsBehind front s → IsFormed s → Ends s (finished s).0 front
unfolding finished
finished_cut s front h formed = by (slice_get s.brackets (length s.brackets - 1))
  where
    by : (o : Option Place) → Ends s (finished_at s o).0 front
    by (Some opener) = record { new = []; tokens = sym (append-nil s.tokens); cut = cuts.ended }
    by None = line_supplied_cut s front h formed

-- where a step stops, marks may stand
pub stop_cut : (s t : State) (front : List ℕ) (c : ℕ) (cs : List ℕ) → IsBehind front s → IsFormed s → Stops s t → IsCut s front (c ∷ cs) (c ∷ cs) t.tokens
stop_cut s t front c cs h formed (at_once same) = record { new = []; tokens = ap (λ (w : State). w.tokens) same ∙ sym (append-nil s.tokens); cut = cuts.ended }
stop_cut s t front c cs h formed (stop_begun e) =
    let m = marked front s t h (begins s t formed e) in
    record { new = m.marks; tokens = m.tokens; cut = cuts.stopped c cs m.are }

-- ---- a whole reading
pub step_moved : (s t : State) (c : ℕ) (cs : List ℕ) (n : ℕ) → step s c cs ≡ (t, Ok n) → t.at ≡ moved_over s.at (take n (c ∷ cs))
step_moved s t c cs n e = subst (Moves s c cs) e (step_moves s c cs)

-- the whole text, or what comes before a fault
record CutUpTo (s : State) (front cs : List ℕ) (ts : List Token) (f : Option ReadFault) : Type 0 where
  rest : List ℕ
  cut : IsCut s front cs rest ts
  whole : f ≡ None → rest ≡ []

reads_cut : {s : State} {cs : List ℕ} {ts : List Token} {f : Option ReadFault} (front : List ℕ) → IsBehind front s → IsFormed s → Reads s cs ts f → CutUpTo s front cs ts f
reads_cut {s = s} front h formed (ends {t = t} e are is) =
    let all = subst (λ (p : Answer (Unit {0})). Ends s p.0 front) e (finished_cut s front h formed) in
    record { rest = []; cut = record { new = all.new; tokens = sym are ∙ all.tokens; cut = all.cut }; whole = λ none. refl }
reads_cut {s = s} {cs = c ∷ cs} front h formed (stops {t = t} {f = f} {fault = g} e are is) =
    record {
      rest = c ∷ cs;
      cut = subst (λ us. IsCut s front (c ∷ cs) (c ∷ cs) us) are (stop_cut s t front c cs h formed (stopped s t c cs f formed e));
      whole = λ none. absurd (some_is f g is none);
    }
reads_cut {s = s} {cs = c ∷ cs} {ts = ts} front h formed (goes_on {t = t} {n = n} e more) =
    let one = stepped s t c cs n e in
    let moved_so : t.at ≡ moved_over s.at (take n (c ∷ cs)) = step_moved s t c cs n e in
    let rest = reads_cut (front ++ take n (c ∷ cs)) (next_behind s t front (take n (c ∷ cs)) h moved_so) (formed_next s t c cs n one formed) more in
    record { rest = rest.rest; cut = step_cut s t front c cs n rest.rest ts h formed one rest.cut; whole = rest.whole }

pub texts_are_cut : (text : List ℕ) (ts : List Token) (f : Option ReadFault) → IsLexed text ts f → (rest : List ℕ) × Cut [] (chars text) ts rest × (f ≡ None → rest ≡ [])
texts_are_cut text ts f lexed =
    let all = reads_cut [] refl (inr ([], refl)) lexed in
    (all.rest, subst (λ us. Cut [] (chars text) us all.rest) (sym all.cut.tokens) all.cut.cut, all.whole)
