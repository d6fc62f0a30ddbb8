-- The numbers that are read end as they must, and the lines that are read begin so.
use Rattle.std.proofs.Common.{◌≡◌, inl, inr, ℕ, ◌+◌, ◌-◌, Bool, true, false, List, [], ◌∷◌, ◌++◌, length, take, drop, replicate, Option, Some, None, refl, sym, ap, ◌∙◌, subst, append_assoc, arith}
use Rattle.std.specs.Prelude.{Ok, IsTrue, slice_get}
use Rattle.std.specs.Char.{len_utf8}
use Rattle.std.specs.List.{All}
use Rattle.std.specs.Str.{chars}
use Rattle.std.proofs.lemmas.List.{append-nil, take-append-drop}
use Rattle.std.proofs.lemmas.List.Sums.{sum_by-cons}
use Rattle.std.proofs.lemmas.List.Elements.{All-nil, All-cons, All-head, All-tail, All-replicate}
use Rattle.dcx_frac.specs.declared.fraction.Frac.{Frac}
use Rattle.dcx_shape.specs.declared.place.Place.{Place}
use Rattle.dcx_tokens.specs.declared.fault.ReadFault.{ReadFault}
use Rattle.dcx_tokens.specs.declared.fault.ReadFault.TheVariants as fault
use Rattle.dcx_tokens.specs.declared.token.Keyword.{Keyword}
use Rattle.dcx_tokens.specs.declared.token.Token.{Token}
use Rattle.dcx_tokens.specs.declared.token.TokenKind.{TokenKind}
use Rattle.dcx_tokens.specs.declared.token.TokenKind.TheVariants as kind
use Rattle.dcx_tokens.specs.Front.{is_blank, ends_line, tab_among}
use Rattle.dcx_tokens.specs.Laws.{brackets_left}
use Rattle.dcx_tokens.specs.Lexeme.{kind_if}
use Rattle.dcx_tokens.specs.Number.{is_spoiled, spelling_at, frac_of_spelling, number_at}
use Rattle.dcx_tokens.specs.Position.{bytes_of, line_behind}
use Rattle.dcx_tokens.specs.Reading.{Reads, ends, stops, goes_on, IsLexed}
use Rattle.dcx_tokens.specs.State.{State, Answer, put, dedent_at, begin_line, line_begun_at, line_supplied, all_ended, finished_at, finished}
use Rattle.dcx_tokens.proofs.Bytes.{length-le-bytes}
use Rattle.dcx_tokens.proofs.Kept.{token_of}
use Rattle.dcx_token_laws.specs.Cut.{AreBlanks, AreMarks, IsMark, Spans}
use Rattle.dcx_token_laws.specs.Fine.{NumbersEnd, SpacesLead, StartsLine, IsLedBy}
use Rattle.dcx_token_laws.specs.Faults.{open_blocks, LineFollows}
use Rattle.dcx_token_laws.specs.Lines.{IsOfWords, StandsAt}
use Rattle.dcx_token_laws.proofs.Basics.{never_both}
use Rattle.dcx_token_laws.proofs.Forms.{IsFormed, IsLed, Turned, deeper, back, turns, begun_is, begins, never_ok, nests, over, inside, LineEnds, closes_it, empty, line_ends}
use Rattle.dcx_token_laws.proofs.Heads.{Fronts, first_on, second_on, fronts}
use Rattle.dcx_token_laws.proofs.Numerals.{by_spelling, told}
use Rattle.dcx_token_laws.proofs.Rising.{IsRising, stands}
use Rattle.dcx_token_laws.proofs.Spots as spots
use Rattle.dcx_token_laws.proofs.Spelled.{all_left}
use Rattle.dcx_token_laws.proofs.Spots.{Spot, spot_formed, starts_more, ten_blank}
use Rattle.dcx_token_laws.proofs.Stacks.{stacks_turned, marks_outside, LastOf, is_last, is_inner, last_of, some_there}
use Rattle.dcx_token_laws.proofs.Steps as steps
use Rattle.dcx_token_laws.proofs.Steps.{IsToken, Step, stepped}
use Rattle.dcx_token_laws.proofs.Stopped.{Walks, walks_next, walks_first}
use Rattle.dcx_token_laws.proofs.Stops.{Stops, at_once, begun, stopped}
use Rattle.dcx_token_laws.proofs.Stretches.{token_spans, marked}

-- ---- characters and their bytes
bytes_append : (xs ys : List ℕ) → bytes_of (xs ++ ys) ≡ bytes_of xs + bytes_of ys
bytes_append [] ys = omega arith
bytes_append (x ∷ xs) ys = let more = bytes_append xs ys in omega (arith, more, sum_by-cons len_utf8 x (xs ++ ys), sum_by-cons len_utf8 x xs)

no_bytes : (xs : List ℕ) → bytes_of xs ≡ 0 → xs ≡ []
no_bytes [] e = refl
no_bytes (x ∷ xs) e = absurd (let some = length-le-bytes (x ∷ xs) in omega (arith, e, some))

-- fronts of one list that have as many bytes are one
same_front : (xs ys a b : List ℕ) → xs ++ a ≡ ys ++ b → bytes_of xs ≡ bytes_of ys → (xs ≡ ys) × (a ≡ b)
same_front xs ys a b e bytes = by (fronts xs ys a b e)
  where
    by : Fronts xs ys a b → (xs ≡ ys) × (a ≡ b)
    by (first_on more f g) =
        let count = ap (λ zs. bytes_of zs) f ∙ bytes_append xs more in
        let none = no_bytes more (omega (arith, bytes, count)) in
        (sym (f ∙ ap (λ zs. xs ++ zs) none ∙ append-nil xs), g ∙ ap (λ zs. zs ++ b) none)
    by (second_on more f g) =
        let count = ap (λ zs. bytes_of zs) f ∙ bytes_append ys more in
        let none = no_bytes more (omega (arith, bytes, count)) in
        (f ∙ ap (λ zs. ys ++ zs) none ∙ append-nil ys, sym (g ∙ ap (λ zs. zs ++ a) none))

-- ---- what holds of a token
record HoldsAt (text : List ℕ) (before : List Token) (t : Token) : Type 0 where
  number : (front word behind : List ℕ) (x : Frac) → chars text ≡ front ++ word ++ behind → Spans t front word → t.kind ≡ kind.Number x → is_spoiled behind ≡ false
  spaces : (front word behind blanks : List ℕ) → chars text ≡ front ++ word ++ behind → Spans t front word → IsOfWords t.kind → IsLedBy blanks before front → tab_among blanks ≡ false

abbrev AllHold : List ℕ → List Token → Type 0
AllHold text ts = (before : List Token) (t : Token) (after : List Token) → ts ≡ before ++ t ∷ after → HoldsAt text before t

hold_push : (text : List ℕ) (ts : List Token) (t : Token) → AllHold text ts → HoldsAt text ts t → AllHold text (ts ++ t ∷ [])
hold_push text ts t all one before u after e = by (last_of ts before t u after e)
  where
    by : LastOf ts before t u after → HoldsAt text before u
    by (is_last a b c) = subst (λ xs. HoldsAt text xs u) a (subst (HoldsAt text ts) (sym b) one)
    by (is_inner ms a b) = all before u ms a

-- neither a number nor a token that has characters
abbrev IsBare : TokenKind → Type 0
IsBare kind.Newline = Unit {0}
IsBare kind.Indent = Unit {0}
IsBare kind.Dedent = Unit {0}
IsBare _ = ⊥

bare_number : (k : TokenKind) (x : Frac) → IsBare k → k ≡ kind.Number x → ⊥
bare_number k x h e = subst IsBare e h

bare_word : (k : TokenKind) → IsBare k → IsOfWords k → ⊥
bare_word kind.Newline h w = w
bare_word kind.Indent h w = w
bare_word kind.Dedent h w = w
bare_word kind.Name h w = h
bare_word (kind.Keyword v) h w = h
bare_word (kind.Number x) h w = h
bare_word kind.Text h w = h
bare_word (kind.Sign s) h w = h

bare_holds : (text : List ℕ) (before : List Token) (t : Token) → IsBare t.kind → HoldsAt text before t
bare_holds text before t h = record {
  number = λ front word behind x parts spans is. absurd (bare_number t.kind x h is);
  spaces = λ front word behind blanks parts spans is led. absurd (bare_word t.kind h is);
}

hold_bare : (text : List ℕ) (ts us : List Token) → AllHold text ts → All (λ t. IsBare t.kind) us → AllHold text (ts ++ us)
hold_bare text ts [] all h = subst (AllHold text) (sym (append-nil ts)) all
hold_bare text ts (u ∷ us) all h =
    let one = hold_push text ts u all (bare_holds text ts u (All-head (λ t. IsBare t.kind) u us h)) in
    subst (AllHold text) (append_assoc ts (u ∷ []) us) (hold_bare text (ts ++ u ∷ []) us one (All-tail (λ t. IsBare t.kind) u us h))

mark_bare : (k : TokenKind) → IsMark k → IsBare k
mark_bare kind.Indent h = tt
mark_bare kind.Dedent h = tt
mark_bare kind.Newline h = absurd h
mark_bare kind.Name h = absurd h
mark_bare (kind.Keyword w) h = absurd h
mark_bare (kind.Number x) h = absurd h
mark_bare kind.Text h = absurd h
mark_bare (kind.Sign s) h = absurd h

marks_bare : (front : List ℕ) (ms : List Token) → AreMarks front ms → All (λ t. IsBare t.kind) ms
marks_bare front [] h = All-nil (λ t. IsBare t.kind)
marks_bare front (m ∷ ms) h =
    All-cons (λ t. IsBare t.kind) m ms (mark_bare m.kind (All-head (λ t. IsMark t.kind × Spans t front []) m ms h).0) (marks_bare front ms (All-tail (λ t. IsMark t.kind × Spans t front []) m ms h))

-- ---- a token that is read
-- a number
number_fine : (cs : List ℕ) (x : Frac) (n : ℕ) → number_at cs ≡ Some (x, n) → is_spoiled (drop n cs) ≡ false
number_fine cs x n e =
    let s = spelling_at cs in
    let t = told (is_spoiled (drop s.len cs)) (frac_of_spelling s) s.len (x, n) (sym (by_spelling cs) ∙ e) in
    ap (λ i. is_spoiled (drop i cs)) t.is ∙ t.fine

abbrev IsNumeral : TokenKind → Type 0
IsNumeral (kind.Number x) = Unit {0}
IsNumeral _ = ⊥

no_numeral : (o : Option Keyword) → IsNumeral (kind_if o) → ⊥
no_numeral None h = h
no_numeral (Some w) h = h

token_fine : (c : ℕ) (cs : List ℕ) (k : TokenKind) (n : ℕ) → IsToken c cs k n → IsNumeral k → is_spoiled (drop n (c ∷ cs)) ≡ false
token_fine c cs k n (steps.name b count is) h = absurd (no_numeral _ (subst IsNumeral is h))
token_fine c cs k n (steps.number x b d e is) h = number_fine (c ∷ cs) x n e
token_fine c cs k n (steps.text m b d q e count is) h = absurd (subst IsNumeral is h)
token_fine c cs k n (steps.sign s b d q e count is) h = absurd (subst IsNumeral is h)

-- blanks that lead a line are those that do
one_lead : (before ours b blanks : List ℕ) → before ++ ours ≡ b ++ blanks → StartsLine before → StartsLine b → AreBlanks ours → AreBlanks blanks → ours ≡ blanks
one_lead before ours b blanks e starts also are too = by (fronts before b ours blanks e)
  where
    none_more : (P : ℕ → Type 0) → (P 10 → ⊥) → (xs ys more : List ℕ) → ys ≡ xs ++ more → StartsLine ys → All P more → more ≡ []
    none_more P not xs ys [] f begin h = refl
    none_more P not xs ys (m ∷ ms) f begin h = absurd (starts_more P not ys xs m ms f begin h)

    by : Fronts before b ours blanks → ours ≡ blanks
    by (first_on more f g) =
        let none = none_more (λ d. IsTrue (is_blank d)) ten_blank before b more f also (all_left (λ d. IsTrue (is_blank d)) more blanks (subst AreBlanks g are)) in
        g ∙ ap (λ zs. zs ++ blanks) none
    by (second_on more f g) =
        let none = none_more (λ d. IsTrue (is_blank d)) ten_blank b before more f starts (all_left (λ d. IsTrue (is_blank d)) more ours (subst AreBlanks g too)) in
        sym (g ∙ ap (λ zs. zs ++ ours) none)

-- a line that begins has no tab in front
no_tab : (s u : State) (blanks : List ℕ) → IsLed blanks s → line_begun_at s s.line ≡ (u, Ok tt) → tab_among blanks ≡ false
no_tab s u blanks is e = by (tab_among blanks) refl (sym same ∙ e)
  where
    same : line_begun_at s s.line ≡ begin_line s (length blanks) (tab_among blanks)
    same = rw is refl

    by : (b : Bool) → tab_among blanks ≡ b → begin_line s (length blanks) b ≡ (u, Ok tt) → tab_among blanks ≡ false
    by true eb f = absurd (never_ok s u (fault.Indent s.at.place) tt f)
    by false eb f = eb

module _ (text : List ℕ) (s : State) (front : List ℕ) (c : ℕ) (cs : List ℕ) (walks : Walks text s front (c ∷ cs)) where
  token_holds : (u v : State) (k : TokenKind) (n : ℕ) (marks : List Token) → is_blank c ≡ false → (ends_line c cs ≡ false) → line_begun_at s s.line ≡ (u, Ok tt)
      → IsToken c cs k n → v.at ≡ s.at → brackets_left 0 (s.tokens ++ marks) ≡ length s.brackets →
      HoldsAt text (s.tokens ++ marks) (token_of v k (take n (c ∷ cs)))
  token_holds u v k n marks blank l first token at outside = record {
    number = λ other word behind x parts spans is.
        let same = spans_same other word behind parts spans in
        ap (λ xs. is_spoiled xs) same.1 ∙ token_fine c cs k n token (subst IsNumeral (sym is) tt);
    spaces = λ other word behind blanks parts spans is led.
        let same = spans_same other word behind parts spans in
        led_by blanks (subst (IsLedBy blanks (s.tokens ++ marks)) same.0 led) walks.spot;
  }
    where
      tok : Token
      tok = token_of v k (take n (c ∷ cs))

      ours : Spans tok front (take n (c ∷ cs))
      ours = token_spans v k front (take n (c ∷ cs)) (at ∙ walks.behind)

      parts_so : chars text ≡ (front ++ take n (c ∷ cs)) ++ drop n (c ∷ cs)
      parts_so = walks.parts ∙ ap (λ xs. front ++ xs) (sym (take-append-drop n (c ∷ cs))) ∙ sym (append_assoc front (take n (c ∷ cs)) (drop n (c ∷ cs)))

      spans_same : (other word behind : List ℕ) → chars text ≡ other ++ word ++ behind → Spans tok other word → (other ≡ front) × (behind ≡ drop n (c ∷ cs))
      spans_same other word behind parts spans =
          let whole = same_front (other ++ word) (front ++ take n (c ∷ cs)) behind (drop n (c ∷ cs)) (sym parts ∙ parts_so) (sym spans.end ∙ ours.end) in
          let starts = same_front other front word (take n (c ∷ cs)) whole.0 (sym spans.start ∙ ours.start) in
          (starts.0, whole.1)

      led_by : (blanks : List ℕ) → IsLedBy blanks (s.tokens ++ marks) front → Spot s front (c ∷ cs) → tab_among blanks ≡ false
      led_by blanks led (spots.within is apart) = absurd (apart (sym outside ∙ led.outside) led.before blanks led.parts led.starts led.are)
      led_by blanks led (spots.leads before found is none parts starts are column last) =
          ap (λ xs. tab_among xs) (sym (one_lead before found led.before blanks (sym parts ∙ led.parts) starts led.starts are led.are)) ∙ no_tab s u found is first
      led_by blanks led (spots.closing found is none end) = absurd (never_both (ends_line c cs) end l)

-- ---- a step
module _ (text : List ℕ) where
  step_holds : (s t : State) (front : List ℕ) (c : ℕ) (cs : List ℕ) (n : ℕ) → Walks text s front (c ∷ cs) → Step s t c cs n → AllHold text s.tokens → AllHold text t.tokens
  step_holds s t front c cs n walks (steps.line_end l count same) all = by (line_ends s t (take n (c ∷ cs)) (spot_formed s front (c ∷ cs) walks.spot) same)
    where
      by : LineEnds s t (take n (c ∷ cs)) → AllHold text t.tokens
      by (closes_it is (over none e)) =
          let token = token_of s kind.Newline (take n (c ∷ cs)) in
          subst (λ (w : State). AllHold text w.tokens) (sym e) (hold_push text s.tokens token all (bare_holds text s.tokens token tt))
      by (closes_it is (inside some e)) = subst (λ (w : State). AllHold text w.tokens) (sym e) all
      by (empty blanks is e) = subst (λ (w : State). AllHold text w.tokens) (sym e) all
  step_holds s t front c cs n walks (steps.blank l b count same) all = subst (λ (w : State). AllHold text w.tokens) (sym same) all
  step_holds s t front c cs n walks (steps.comment l h count same) all = subst (λ (w : State). AllHold text w.tokens) (sym same) all
  step_holds s t front c cs n walks (steps.word u v k l b begins_so token nested_so same) all =
      let m = marked front s u walks.behind (begins s u (spot_formed s front (c ∷ cs) walks.spot) begins_so) in
      let nest = nests u v k nested_so in
      let tok = token_of v k (take n (c ∷ cs)) in
      let outside = marks_outside front s.tokens m.marks m.are ∙ sym walks.stacks.count in
      let before = hold_bare text s.tokens m.marks all (marks_bare front m.marks m.are) in
      let one = token_holds text s front c cs walks u v k n m.marks b l begins_so token (nest.at ∙ m.at) outside in
      subst (λ (w : State). AllHold text w.tokens) (sym same) (subst (λ us. AllHold text (us ++ tok ∷ [])) (sym (nest.tokens ∙ m.tokens)) (hold_push text (s.tokens ++ m.marks) tok before one))

  -- the end
  finished_holds : (s : State) → IsFormed s → AllHold text s.tokens → AllHold text (finished s).0.tokens
  unfolding finished
  finished_holds s formed all = by (slice_get s.brackets (length s.brackets - 1))
    where
      ended : (w : State) → AllHold text w.tokens → AllHold text (all_ended w).tokens
      ended w h = hold_bare text w.tokens (replicate (length w.indents) (dedent_at w (line_behind w.at.place))) h
          (All-replicate (λ t. IsBare t.kind) (length w.indents) (dedent_at w (line_behind w.at.place)) tt)

      supplied : IsFormed s → AllHold text (line_supplied s s.line).tokens
      supplied (inl is) =
          let same : line_supplied s s.line ≡ put s kind.Newline [] = rw is refl in
          let token = token_of s kind.Newline [] in
          subst (λ (w : State). AllHold text w.tokens) (sym same) (hold_push text s.tokens token all (bare_holds text s.tokens token tt))
      supplied (inr (blanks, is)) = let same : line_supplied s s.line ≡ s = rw is refl in subst (λ (w : State). AllHold text w.tokens) (sym same) all

      by : (o : Option Place) → AllHold text (finished_at s o).0.tokens
      by (Some opener) = all
      by None = ended (line_supplied s s.line) (supplied formed)

  -- ---- a whole reading
  reads_hold : {s : State} {cs : List ℕ} {ts : List Token} {g : Option ReadFault} (front : List ℕ) → Walks text s front cs → AllHold text s.tokens → Reads s cs ts g → AllHold text ts
  reads_hold {s = s} front walks all (ends {t = t} e are is) =
      subst (AllHold text) are (subst (λ (p : Answer (Unit {0})). AllHold text p.0.tokens) e (finished_holds s (spot_formed s front [] walks.spot) all))
  reads_hold {s = s} {cs = c ∷ cs} front walks all (stops {t = t} {f = f} e are is) =
      subst (AllHold text) are (by (stopped s t c cs f formed e))
    where
      formed : IsFormed s
      formed = spot_formed s front (c ∷ cs) walks.spot

      by : Stops s t → AllHold text t.tokens
      by (at_once same) = subst (λ (w : State). AllHold text w.tokens) (sym same) all
      by (begun first) =
          let m = marked front s t walks.behind (begins s t formed first) in
          subst (AllHold text) (sym m.tokens) (hold_bare text s.tokens m.marks all (marks_bare front m.marks m.are))
  reads_hold {s = s} {cs = c ∷ cs} front walks all (goes_on {t = t} {n = n} e more) =
      reads_hold (front ++ take n (c ∷ cs)) (walks_next text s t front c cs n walks e) (step_holds s t front c cs n walks (stepped s t c cs n e) all) more

all_hold : (text : List ℕ) (ts : List Token) (f : Option ReadFault) → IsLexed text ts f → AllHold text ts
all_hold text ts f lexed = reads_hold text [] (walks_first text) (λ before t after e. absurd (some_there before t after e)) lexed

pub numbers_end : (text : List ℕ) (ts : List Token) (f : Option ReadFault) → IsLexed text ts f → NumbersEnd (chars text) ts
numbers_end text ts f lexed before t front behind x there is = (all_hold text ts f lexed before t there.after there.among).number front there.word behind x there.parts there.spans is

pub spaces_lead : (text : List ℕ) (ts : List Token) (f : Option ReadFault) → IsLexed text ts f → SpacesLead (chars text) ts
spaces_lead text ts f lexed before t front behind blanks there is led = (all_hold text ts f lexed before t there.after there.among).spaces front there.word behind blanks there.parts there.spans is led

-- ---- what isn't read
turned_stands : (s u : State) (spaces : ℕ) → IsRising 0 s.indents → Turned s u spaces → StandsAt u.indents spaces
turned_stands s u spaces rising (deeper d same) = subst (λ (w : State). StandsAt w.indents spaces) (sym same) (inr (s.indents, refl))
turned_stands s u spaces rising (back st same) = subst (λ (w : State). StandsAt w.indents spaces) (sym same) (stands s.indents spaces rising st)

-- its line has begun
pub line_follows : (text : List ℕ) (s u : State) (front : List ℕ) (c : ℕ) (cs : List ℕ) → Walks text s front (c ∷ cs) → ends_line c cs ≡ false
    → line_begun_at s s.line ≡ (u, Ok tt) → LineFollows u.tokens front
line_follows text s u front c cs walks l first blanks led = by walks.spot
  where
    by : Spot s front (c ∷ cs) → (tab_among blanks ≡ false) × StandsAt (open_blocks [] u.tokens) (length blanks)
    by (spots.within is apart) =
        let same = begun_is s u is first in
        absurd (apart (walks.stacks.count ∙ ap (λ (w : State). brackets_left 0 w.tokens) (sym same) ∙ led.outside) led.before blanks led.parts led.starts led.are)
    by (spots.leads before found is none parts starts are column last) =
        let how = turns s u found is first in
        let stack = stacks_turned s u (length found) column how walks.stacks in
        subst (λ bs. (tab_among bs ≡ false) × StandsAt (open_blocks [] u.tokens) (length bs)) (one_lead before found led.before blanks (sym parts ∙ led.parts) starts led.starts are led.are)
        (no_tab s u found is first, subst (λ bs. StandsAt bs (length found)) stack.blocks_are (turned_stands s u (length found) walks.rising how))
    by (spots.closing found is none end) = absurd (never_both (ends_line c cs) end l)
