-- A text that is cut into tokens of lines as it must be has no fault.
use Rattle.std.proofs.Common.{◌≡◌, inr, ℕ, zero, suc, ◌+◌, ◌-◌, ◌≤◌, Bool, true, false, eqb, ◌&&◌, List, [], ◌∷◌, ◌++◌, length, take}
use Rattle.std.proofs.Common.{drop, replicate, Option, Some, None, refl, sym, ap, ◌∙◌, subst, append_assoc, length-append, arith}
use Rattle.std.specs.Prelude.{slice_get}
use Rattle.std.specs.Char.{is_ascii_digit}
use Rattle.std.specs.List.{All}
use Rattle.std.specs.Str.{chars}
use Rattle.std.proofs.lemmas.List.{take-append-drop}
use Rattle.std.proofs.lemmas.List.Elements.{All-head}
use Rattle.std.proofs.lemmas.Bool.{eqb-true}
use Rattle.std.proofs.lemmas.Option.{none-some}
use Rattle.dcx_frac.specs.declared.fraction.Frac.{Frac}
use Rattle.dcx_shape.specs.declared.place.Place.{Place}
use Rattle.dcx_tokens.specs.declared.fault.ReadFault.{ReadFault}
use Rattle.dcx_tokens.specs.declared.token.Symbol.{Symbol}
use Rattle.dcx_tokens.specs.declared.token.Token.{Token}
use Rattle.dcx_tokens.specs.declared.token.TokenKind.{TokenKind}
use Rattle.dcx_tokens.specs.declared.token.TokenKind.TheVariants as kind
use Rattle.dcx_tokens.specs.Front.{is_quote, begins_name, begins_number, ends_line, tab_among}
use Rattle.dcx_tokens.specs.Laws.{brackets_behind, blocks_behind, brackets_left, blocks_left, StaysShallow}
use Rattle.dcx_tokens.specs.Layout.{kept, opens}
use Rattle.dcx_tokens.specs.Number.{is_spoiled, number_at}
use Rattle.dcx_tokens.specs.Quoted.{up_to_quote}
use Rattle.dcx_tokens.specs.Reading.{Reads, ends, stops, goes_on, IsLexed}
use Rattle.dcx_tokens.specs.State.{State, is_full, start}
use Rattle.dcx_tokens.proofs.Nesting.{kept_fewer}
use Rattle.dcx_token_laws.specs.Cut.{AreBlanks, AreMarks, IsMark, Spans, Cut}
use Rattle.dcx_token_laws.specs.Fine.{StandsThere, IsFine, FineTextsAreRead, StartsLine}
use Rattle.dcx_token_laws.specs.Lines.{IsOfWords, depth_of, kinds, Turns, AreLines}
use Rattle.dcx_token_laws.specs.Words.{IsNumber, IsSign, IsWord, IsLongest}
use Rattle.dcx_token_laws.proofs.Basics.{nil_not, never_both}
use Rattle.dcx_token_laws.proofs.Depths.{Stage, within, leads, closing, IsInside, Goes, next, no_mark_first, texts_are_lines, one_list}
use Rattle.dcx_token_laws.proofs.Faulty.{begins_nothing, no_between_by, place_is}
use Rattle.dcx_token_laws.proofs.Firsts.{number_not_quote}
use Rattle.dcx_token_laws.proofs.Follows.{no_turn, is_64}
use Rattle.dcx_token_laws.proofs.Forms.{HasBegun, IsLed, Turned, deeper, back, turns, begun_is}
use Rattle.dcx_token_laws.proofs.Halts as halts
use Rattle.dcx_token_laws.proofs.Halts.{IsBegun, LineHalts, Halts, halted}
use Rattle.dcx_token_laws.proofs.Heads.{Head, passes, has_word, has_end, head, Words, word_at}
use Rattle.dcx_token_laws.proofs.Longer.{number_longer}
use Rattle.dcx_token_laws.proofs.OneKind.{sign_not_number, sign_not_quote}
use Rattle.dcx_token_laws.proofs.Points.{point_number}
use Rattle.dcx_token_laws.proofs.Quotes.{quote_longer}
use Rattle.dcx_token_laws.proofs.Rising.{IsRising, deeper_turns, back_turns}
use Rattle.dcx_token_laws.proofs.Same.{IsLine, a_line, marks_kinds, AtEnd, at_end, no_word_there, one_turn}
use Rattle.dcx_token_laws.proofs.Spelled.{is_word, is_longest, begins_more}
use Rattle.dcx_token_laws.proofs.Spots as spots
use Rattle.dcx_token_laws.proofs.Spots.{Spot, spot_formed}
use Rattle.dcx_token_laws.proofs.Stacks as outside
use Rattle.dcx_token_laws.proofs.Stacks.{brackets_left-append, open_count}
use Rattle.dcx_token_laws.proofs.Steps.{stepped}
use Rattle.dcx_token_laws.proofs.Stopped.{Walks, walks_next, walks_first, EndStops, EndIf, end_stops}
use Rattle.dcx_token_laws.proofs.Shallow.{shallow}
use Rattle.dcx_token_laws.proofs.Standing.{numbers_end, spaces_lead}
use Rattle.dcx_token_laws.proofs.Stretches.{texts_are_cut}
use Rattle.dcx_token_laws.proofs.Totals.{reading}

-- ---- kinds
of_words : (k : TokenKind) (xs : List ℕ) → IsWord k xs → IsOfWords k
of_words kind.Name xs h = tt
of_words (kind.Keyword w) xs h = tt
of_words (kind.Number x) xs h = tt
of_words kind.Text xs h = tt
of_words (kind.Sign s) xs h = tt
of_words kind.Newline xs h = h
of_words kind.Indent xs h = h
of_words kind.Dedent xs h = h

-- how many blocks are open behind tokens of these kinds
abbrev blocks_after : ℕ → List TokenKind → ℕ
blocks_after n [] = n
blocks_after n (k ∷ ks) = blocks_after (blocks_behind n k) ks

blocks_of_kinds : (n : ℕ) (ts : List Token) → blocks_left n ts ≡ blocks_after n (kinds ts)
blocks_of_kinds n [] = refl
blocks_of_kinds n (t ∷ ts) = blocks_of_kinds (blocks_behind n t.kind) ts

after_dedents : (n m : ℕ) → blocks_after n (replicate m kind.Dedent) ≡ n - m
after_dedents n zero = omega arith
after_dedents n (suc m) = after_dedents (n - 1) m ∙ omega arith

blocks_left-append : (n : ℕ) (xs ys : List Token) → blocks_left n (xs ++ ys) ≡ blocks_left (blocks_left n xs) ys
blocks_left-append n [] ys = refl
blocks_left-append n (x ∷ xs) ys = blocks_left-append (blocks_behind n x.kind) xs ys

-- no more than 64 are open behind tokens in front
shallow_behind : (b i : ℕ) (xs ys : List Token) → StaysShallow b i (xs ++ ys) → brackets_left b xs + blocks_left i xs ≤ 64
shallow_behind b i [] [] h = h
shallow_behind b i [] (y ∷ ys) h = h.0
shallow_behind b i (x ∷ xs) ys h = shallow_behind (brackets_behind b x.kind) (blocks_behind i x.kind) xs ys h.2

-- ---- the token that stands ahead, where none between tokens does
record IsAhead (front : List ℕ) (c : ℕ) (cs : List ℕ) (left : List Token) : Type 0 where
  marks : List Token
  token : Token
  after : List Token
  ys : List ℕ
  behind : List ℕ
  are : left ≡ marks ++ token ∷ after
  parts : cs ≡ ys ++ behind
  are_marks : AreMarks front marks
  word : IsWord token.kind (c ∷ ys)
  longest : IsLongest (c ∷ ys) behind
  spans : Spans token front (c ∷ ys)

ahead : (front : List ℕ) (c : ℕ) (cs : List ℕ) (left : List Token) → IsBegun c cs → Cut front (c ∷ cs) left [] → IsAhead front c cs left
ahead front c cs left begun cut = by (head cut c cs refl refl)
  where
    by : Head front c cs left → IsAhead front c cs left
    by (passes ys behind e how more) = absurd (no_between_by c cs ys behind begun e how)
    by (has_word marks t ts ys behind is e are word longest spans more) =
        record { marks = marks; token = t; after = ts; ys = ys; behind = behind; are = is; parts = e; are_marks = are; word = word; longest = longest; spans = spans }
    by (has_end t ts ys behind is e newline end spans more) = absurd (no_between_by c cs ys behind begun e (inr (inr end)))

-- ---- what it isn't
-- where a number begins and none is, no token is spelled that ends as it must
no_point_sign : (c d : ℕ) (ds : List ℕ) → is_ascii_digit c ≡ false → begins_number c (d ∷ ds) ≡ true → IsLongest (c ∷ []) (d ∷ ds) → ⊥
no_point_sign c d ds other begins longest = by (eqb c 46) (is_ascii_digit d) refl refl (sym (rw other refl) ∙ begins)
  where
    by : (a b : Bool) → eqb c 46 ≡ a → is_ascii_digit d ≡ b → (a && b) ≡ true → ⊥
    by true true ea eb h =
        let point = eqb-true c 46 ea in
        let x = point_number d eb in
        let number_is : IsNumber x.0 (46 ∷ d ∷ []) = (rw eb refl, x.1) in
        nil_not d [] (sym (longest (d ∷ []) ds (kind.Number x.0) refl (subst (λ i. IsNumber x.0 (i ∷ d ∷ [])) (sym point) number_is)))
    by true false ea eb h = absurd (cc)
    by false b ea eb h = absurd (cc)

no_sign_there : (c : ℕ) (ys behind : List ℕ) (s : Symbol) → begins_number c (ys ++ behind) ≡ true → IsSign s (c ∷ ys) → IsLongest (c ∷ ys) behind → ⊥
no_sign_there c [] [] s begins h longest = sign_not_number s c [] h begins
no_sign_there c [] (d ∷ ds) s begins h longest = by (is_ascii_digit c) refl
  where
    by : (b : Bool) → is_ascii_digit c ≡ b → ⊥
    by true e = sign_not_number s c [] h e
    by false e = no_point_sign c d ds e begins longest
no_sign_there c (d ∷ ys) behind s begins h longest = sign_not_number s c (d ∷ ys) h begins

no_number_there : (c : ℕ) (ys behind : List ℕ) (k : TokenKind) → begins_name c ≡ false → begins_number c (ys ++ behind) ≡ true → number_at (c ∷ (ys ++ behind)) ≡ None
    → IsLongest (c ∷ ys) behind → ((x : Frac) → k ≡ kind.Number x → is_spoiled behind ≡ false) → IsWord k (c ∷ ys) → ⊥
no_number_there c ys behind kind.Name en ed none longest fine h = never_both (begins_name c) h.0.0 en
no_number_there c ys behind (kind.Keyword w) en ed none longest fine h = never_both (begins_name c) h.0.0 en
no_number_there c ys behind (kind.Number x) en ed none longest fine h = none-some (x, length (c ∷ ys)) (sym none ∙ number_longer (c ∷ ys) behind x h.1 (fine x refl))
no_number_there c ys behind kind.Text en ed none longest fine h = number_not_quote c (ys ++ behind) ed h.0
no_number_there c ys behind (kind.Sign s) en ed none longest fine h = no_sign_there c ys behind s ed h longest
no_number_there c ys behind kind.Newline en ed none longest fine h = h
no_number_there c ys behind kind.Indent en ed none longest fine h = h
no_number_there c ys behind kind.Dedent en ed none longest fine h = h

no_text_there : (c : ℕ) (ys behind : List ℕ) (k : TokenKind) → begins_name c ≡ false → begins_number c (ys ++ behind) ≡ false → is_quote c ≡ true
    → up_to_quote c false (ys ++ behind) ≡ None → IsWord k (c ∷ ys) → ⊥
no_text_there c ys behind kind.Name en ed eq none h = never_both (begins_name c) h.0.0 en
no_text_there c ys behind (kind.Keyword w) en ed eq none h = never_both (begins_name c) h.0.0 en
no_text_there c ys behind (kind.Number x) en ed eq none h = never_both (begins_number c (ys ++ behind)) (begins_more c ys behind h.0) ed
no_text_there c ys behind kind.Text en ed eq none h = none-some (length ys) (sym none ∙ quote_longer c false ys behind (length ys) h.1)
no_text_there c ys behind (kind.Sign s) en ed eq none h = sign_not_quote s c ys h eq
no_text_there c ys behind kind.Newline en ed eq none h = h
no_text_there c ys behind kind.Indent en ed eq none h = h
no_text_there c ys behind kind.Dedent en ed eq none h = h

-- ---- a whole reading
no_last_place : (ps : List Place) (p : Place) → length ps ≡ 0 → slice_get ps (length ps - 1) ≡ Some p → ⊥
no_last_place [] p none e = none-some p e
no_last_place (x ∷ xs) p none e = absurd (omega (arith, none))

-- at the end of the text no bracket is open
ends_closed : (s : State) (front : List ℕ) (row : ℕ) (left : List Token) → IsInside s.indents row (length s.brackets) left → All (AtEnd front) left → length s.brackets ≡ 0
ends_closed s front row left goes all = by goes.more goes.are goes.words goes.closed
  where
    by : (more : List Token) → left ≡ more ++ goes.end ∷ goes.behind → All (λ t. IsOfWords t.kind) more → brackets_left (length s.brackets) more ≡ 0 → length s.brackets ≡ 0
    by [] e words closed = closed
    by (x ∷ xs) e words closed =
        absurd (no_word_there front x (All-head (AtEnd front) x (xs ++ goes.end ∷ goes.behind) (subst (All (AtEnd front)) e all)) (All-head (λ t. IsOfWords t.kind) x xs words))

module _ (text : List ℕ) (us : List Token) (fine : IsFine text us) where
  -- where a step stops
  module _ (s : State) (front : List ℕ) (c : ℕ) (cs : List ℕ) (walks : Walks text s front (c ∷ cs)) (left : List Token) (all : s.tokens ++ left ≡ us) where
    -- the token that stands ahead
    there : (begun : IsBegun c cs) (a : IsAhead front c cs left) → StandsThere (chars text) us (s.tokens ++ a.marks) a.token front a.behind
    there begun a = record {
      word = c ∷ a.ys;
      after = a.after;
      among = sym all ∙ ap (λ ts. s.tokens ++ ts) a.are ∙ sym (append_assoc s.tokens a.marks (a.token ∷ a.after));
      parts = walks.parts ∙ ap (λ xs. front ++ c ∷ xs) a.parts ∙ sym (append_assoc front (c ∷ a.ys) a.behind);
      spans = a.spans;
    }

    marks_outside : (ms : List Token) → AreMarks front ms → brackets_left 0 (s.tokens ++ ms) ≡ length s.brackets
    marks_outside ms are = outside.marks_outside front s.tokens ms are ∙ sym walks.stacks.count

    marks_blocks : (ms : List Token) → blocks_left 0 (s.tokens ++ ms) ≡ blocks_after (length s.indents) (kinds ms)
    marks_blocks ms =
        let count : blocks_left 0 s.tokens ≡ length s.indents = sym (open_count [] s.tokens) ∙ ap (λ bs. length bs) (sym walks.stacks.blocks_are) in
        blocks_left-append 0 s.tokens ms ∙ ap (λ n. blocks_left n ms) count ∙ blocks_of_kinds (length s.indents) ms

    -- no more than 64 are open behind what is read and these
    few : (ms more : List Token) → left ≡ ms ++ more → brackets_left 0 (s.tokens ++ ms) + blocks_left 0 (s.tokens ++ ms) ≤ 64
    few ms more e = shallow_behind 0 0 (s.tokens ++ ms) more (subst (StaysShallow 0 0) (sym all ∙ ap (λ ts. s.tokens ++ ts) e ∙ sym (append_assoc s.tokens ms more)) fine.shallow)

    -- the first token of a line
    line_fine : (before blanks : List ℕ) (f : ReadFault) → IsBegun c cs → IsAhead front c cs left → IsRising 0 s.indents → length s.brackets ≡ 0 → front ≡ before ++ blanks
        → StartsLine before → AreBlanks blanks → s.at.place.column ≡ 1 + length blanks → AreLines s.indents left → LineHalts s blanks f → ⊥
    line_fine before blanks f begun a rising none parts starts are column lines how = by how
      where
        word : IsOfWords a.token.kind
        word = of_words a.token.kind (c ∷ a.ys) a.word

        depth : depth_of a.token ≡ length blanks
        depth =
            let there_at = ap (λ (p : Place). p.column) (a.spans.place ∙ sym (place_is s front walks.behind)) in
            omega (arith, there_at, column)

        found : IsLine s.indents a.marks a.token a.after
        found = a_line lines a.marks a.token a.after a.are (marks_kinds front a.marks a.are_marks) word

        turns_so : Turns s.indents (length blanks) (kinds a.marks) found.after
        turns_so = subst (λ d. Turns s.indents d (kinds a.marks) found.after) depth found.turns

        by : LineHalts s blanks f → ⊥
        by (halts.tab e is) =
            never_both (tab_among blanks) e (fine.spaces (s.tokens ++ a.marks) a.token front a.behind blanks (there begun a) word
            (record { before = before; parts = parts; starts = starts; are = are; outside = marks_outside a.marks a.are_marks ∙ none }))
        by (halts.full e d room is) =
            let one = (one_turn s.indents found.after (s.indents ++ length blanks ∷ []) (length blanks) (kinds a.marks) (kind.Indent ∷ []) turns_so (deeper_turns s.indents (length blanks) d)).marks in
            let brackets = marks_outside a.marks a.are_marks in
            let blocks : blocks_left 0 (s.tokens ++ a.marks) ≡ length s.indents + 1 = marks_blocks a.marks ∙ ap (λ ks. blocks_after (length s.indents) ks) one in
            let most = few a.marks (a.token ∷ a.after) a.are in
            let least = is_64 s room in
            omega (arith, brackets, blocks, most, least)
        by (halts.apart e d st is) = no_turn d st turns_so

    -- what a bracket finds open
    bracket_fine : (t : State) (symbol : Symbol) (marks : List Token) (token : Token) (after : List Token) → left ≡ marks ++ token ∷ after → AreMarks front marks
        → token.kind ≡ kind.Sign symbol → opens symbol ≡ true → is_full t ≡ true →
        length t.brackets ≡ length s.brackets → length t.indents ≡ blocks_after (length s.indents) (kinds marks) → ⊥
    bracket_fine t symbol marks token after e are is opener room brackets blocks =
        let all_marks = append_assoc s.tokens marks (token ∷ []) in
        let last : brackets_left 0 (s.tokens ++ (marks ++ token ∷ [])) ≡ length s.brackets + 1 =
        ap (λ ts. brackets_left 0 ts) (sym all_marks) ∙ brackets_left-append 0 (s.tokens ++ marks) (token ∷ [])
        ∙ ap (λ k. brackets_behind (brackets_left 0 (s.tokens ++ marks)) k) is ∙ (rw opener refl) ∙ ap (λ n. n + 1) (marks_outside marks are) in
        let same : blocks_left 0 (s.tokens ++ (marks ++ token ∷ [])) ≡ length t.indents =
        ap (λ ts. blocks_left 0 ts) (sym all_marks) ∙ blocks_left-append 0 (s.tokens ++ marks) (token ∷ [])
        ∙ ap (λ k. blocks_behind (blocks_left 0 (s.tokens ++ marks)) k) is ∙ marks_blocks marks ∙ sym blocks in
        let most = few (marks ++ token ∷ []) after (e ∙ sym (append_assoc marks (token ∷ []) after)) in
        let least = is_64 t room in
        omega (arith, last, same, most, least, brackets)

    turned_fine : (t : State) (blanks : List ℕ) (marks : List Token) (after : List ℕ) → IsRising 0 s.indents → Turned s t (length blanks)
        → Turns s.indents (length blanks) (kinds marks) after → (length t.brackets ≡ length s.brackets) × (length t.indents ≡ blocks_after (length s.indents) (kinds marks))
    turned_fine t blanks marks after rising (deeper d same) turns_so =
        let one = (one_turn s.indents after (s.indents ++ length blanks ∷ []) (length blanks) (kinds marks) (kind.Indent ∷ []) turns_so (deeper_turns s.indents (length blanks) d)).marks in (
          ap (λ (w : State). length w.brackets) same,
          ap (λ (w : State). length w.indents) same ∙ length-append s.indents (length blanks ∷ []) ∙ sym (ap (λ ks. blocks_after (length s.indents) ks) one),
        )
    turned_fine t blanks marks after rising (back st same) turns_so =
        let m = length s.indents - length (kept s.indents (length blanks)) in
        let fewer = kept_fewer s.indents (length blanks) in
        let one = (one_turn s.indents after (kept s.indents (length blanks)) (length blanks) (kinds marks) (replicate m kind.Dedent) turns_so (back_turns s.indents (length blanks) rising st)).marks in
        let behind : blocks_after (length s.indents) (kinds marks) ≡ length s.indents - m = ap (λ ks. blocks_after (length s.indents) ks) one ∙ after_dedents (length s.indents) m in
        (ap (λ (w : State). length w.brackets) same, ap (λ (w : State). length w.indents) same ∙ omega (arith, behind, fewer))

    -- the step doesn't stop
    step_fine : (t : State) (f : ReadFault) (stage : Stage s (c ∷ cs)) → IsRising 0 s.indents → Cut front (c ∷ cs) left [] → Goes s (c ∷ cs) stage left → Halts s t c cs f → ⊥
    step_fine t f stage rising cut goes (halts.char begun en ed eq eo same is) =
        let a = ahead front c cs left begun cut in
        let nothing = begins_nothing c cs begun en ed eq eo in
        nothing.no_word a.token.kind (c ∷ a.ys) a.behind (ap (λ xs. c ∷ xs) a.parts) a.word
    step_fine t f stage rising cut goes (halts.line begun starts not same how) = by walks.spot stage goes
      where
        a : IsAhead front c cs left
        a = ahead front c cs left begun cut

        by : Spot s front (c ∷ cs) → (here : Stage s (c ∷ cs)) → Goes s (c ∷ cs) here left → ⊥
        by (spots.within is apart) here goes = not is
        by (spots.closing blanks led none end) here goes = never_both (ends_line c cs) end begun.no_end
        by (spots.leads before blanks led none parts starts_so are column last) (within row is here) goes = not is
        by (spots.leads before blanks led none parts starts_so are column last) (leads blanks' led' none' column' last') goes =
            line_fine before blanks f begun a rising none parts starts_so are column goes (how blanks led)
        by (spots.leads before blanks led none parts starts_so are column last) (closing blanks' led' none' end) goes = never_both (ends_line c cs) end begun.no_end
    step_fine t f stage rising cut goes (halts.bad_number begun first en ed none is) =
        let a = ahead front c cs left begun cut in
        no_number_there c a.ys a.behind a.token.kind en (ap (λ xs. begins_number c xs) (sym a.parts) ∙ ed) (ap (λ xs. number_at (c ∷ xs)) (sym a.parts) ∙ none) a.longest
        (λ x k. fine.numbers (s.tokens ++ a.marks) a.token front a.behind x (there begun a) k) a.word
    step_fine t f stage rising cut goes (halts.open_text begun first en ed eq none is) =
        let a = ahead front c cs left begun cut in
        no_text_there c a.ys a.behind a.token.kind en (ap (λ xs. begins_number c xs) (sym a.parts) ∙ ed) eq (ap (λ xs. up_to_quote c false xs) (sym a.parts) ∙ none) a.word
    step_fine t f stage rising cut goes (halts.bracket symbol n begun first token opener room is) = by walks.spot stage goes
      where
        cut_so : Cut front (take n (c ∷ cs) ++ drop n (c ∷ cs)) left []
        cut_so = subst (λ xs. Cut front xs left []) (sym (take-append-drop n (c ∷ cs))) cut

        w : Words front (take n (c ∷ cs)) (drop n (c ∷ cs)) (kind.Sign symbol) left
        w = word_at front (take n (c ∷ cs)) (drop n (c ∷ cs)) (kind.Sign symbol) left (is_word c cs (kind.Sign symbol) n token) (is_longest c cs (kind.Sign symbol) n token) cut_so

        word : IsOfWords w.token.kind
        word = subst IsOfWords (sym w.is) tt

        in_line : HasBegun s → (row : ℕ) → IsInside s.indents row (length s.brackets) left → ⊥
        in_line has row goes = of w.marks w.are w.are_marks
          where
            same : t ≡ s
            same = begun_is s t has first

            of : (ms : List Token) → left ≡ ms ++ w.token ∷ w.behind → AreMarks front ms → ⊥
            of [] e are = bracket_fine t symbol [] w.token w.behind e are w.is opener room (ap (λ (x : State). length x.brackets) same) (ap (λ (x : State). length x.indents) same)
            of (m ∷ ms) e are =
                no_mark_first s.indents row (length s.brackets) goes.end goes.behind goes.newline m (ms ++ w.token ∷ w.behind) goes.more (sym e ∙ goes.are) goes.words
                (All-head (λ u. IsMark u.kind × Spans u front []) m ms are).0

        at_first : (blanks : List ℕ) → IsLed blanks s → s.at.place.column ≡ 1 + length blanks → AreLines s.indents left → ⊥
        at_first blanks led column lines =
            let there_at = ap (λ (p : Place). p.column) (w.spans.place ∙ sym (place_is s front walks.behind)) in
            let depth : depth_of w.token ≡ length blanks = omega (arith, there_at, column) in
            let found = a_line lines w.marks w.token w.behind w.are (marks_kinds front w.marks w.are_marks) word in
            let turned_so = turned_fine t blanks w.marks found.after rising (turns s t blanks led first) (subst (λ d. Turns s.indents d (kinds w.marks) found.after) depth found.turns) in
            bracket_fine t symbol w.marks w.token w.behind w.are w.are_marks w.is opener room turned_so.0 turned_so.1

        by : Spot s front (c ∷ cs) → (here : Stage s (c ∷ cs)) → Goes s (c ∷ cs) here left → ⊥
        by spot (within row has here) goes = in_line has row goes
        by spot (leads blanks led none column last) goes = at_first blanks led column goes
        by spot (closing blanks led none end) goes = never_both (ends_line c cs) end begun.no_end

  -- nor does the reading
  reads_fine : {s : State} {cs : List ℕ} {ts : List Token} {g : Option ReadFault} (f : ReadFault) (front : List ℕ) (stage : Stage s cs) → IsRising 0 s.indents
      → Walks text s front cs → (left : List Token) → Cut front cs left [] → Goes s cs stage left → s.tokens ++ left ≡ us → g ≡ Some f → Reads s cs ts g → ⊥
  reads_fine {s = s} f front stage rising walks left cut goes all some (ends {t = t} e are is) = by stage goes
    where
      end : EndStops s t f
      end = subst (EndIf s f) e (end_stops s f) (is ∙ some)

      by : (here : Stage s []) → Goes s [] here left → ⊥
      by (within row has here) goes = no_last_place s.brackets end.opener (ends_closed s front row left goes (at_end cut refl refl)) end.last
      by (leads blanks led none column last) goes = no_last_place s.brackets end.opener none end.last
      by (closing blanks led none closes) goes = no_last_place s.brackets end.opener none end.last
  reads_fine {s = s} {cs = c ∷ cs} f front stage rising walks left cut goes all some (stops {t = t} {f = h} e are is) =
      step_fine s front c cs walks left all t h stage rising cut goes (halted s t c cs h (spot_formed s front (c ∷ cs) walks.spot) e)
  reads_fine {s = s} {cs = c ∷ cs} f front stage rising walks left cut goes all some (goes_on {t = t} {n = n} e more) =
      let one = next s t c cs n rising stage (stepped s t c cs n e) in
      let l = one.after front walks.behind left cut goes in
      reads_fine f (front ++ take n (c ∷ cs)) one.here one.rising (walks_next text s t front c cs n walks e) l.left l.cut l.goes (sym l.tokens ∙ all) some more

fine_is_read : (text : List ℕ) (ts : List Token) → IsFine text ts → IsLexed text ts None
fine_is_read text ts fine =
    let all = reading (length (chars text)) start (chars text) (omega arith) in
    by all.tokens all.told all.told refl all.reads
  where
    by : (us : List Token) (g o : Option ReadFault) → g ≡ o → Reads start (chars text) us g → IsLexed text ts None
    by us g None is reads =
        let lexed : IsLexed text us None = subst (Reads start (chars text) us) is reads in
        subst (λ vs. IsLexed text vs None) (sym (one_list text us ts lexed fine.cut fine.lines)) lexed
    by us g (Some f) is reads = absurd (reads_fine text ts fine f [] (leads [] refl refl refl tt) tt (walks_first text) ts fine.cut fine.lines refl is reads)

read_is_fine : (text : List ℕ) (ts : List Token) → IsLexed text ts None → IsFine text ts
read_is_fine text ts lexed =
    let cut = texts_are_cut text ts None lexed in
    record {
      cut = subst (λ rest. Cut [] (chars text) ts rest) (cut.2 refl) cut.1;
      lines = texts_are_lines text ts lexed;
      shallow = shallow text ts None lexed;
      numbers = numbers_end text ts None lexed;
      spaces = spaces_lead text ts None lexed;
    }

pub fine_texts : FineTextsAreRead
fine_texts = record { fine_is_read = fine_is_read; read_is_fine = read_is_fine }
