-- Along a reading: how far the line stands from the first column, and that its tokens are those of lines.
use Rattle.std.proofs.Common.{◌≡◌, ◌≢◌, ◌⊎◌, inl, inr, ℕ, zero, suc, ◌+◌, ◌-◌, ◌<◌, Bool, true, false, cond, eqb, ◌||◌, List, [], ◌∷◌}
use Rattle.std.proofs.Common.{◌++◌, length, take, drop, replicate, Option, Some, None, refl, sym, ap, ◌∙◌, subst, append_assoc, arith}
use Rattle.std.specs.Prelude.{IsTrue, slice_get}
use Rattle.std.specs.List.{All, prefix_len}
use Rattle.std.specs.Str.{chars}
use Rattle.std.proofs.Math.Numerals.{one-add}
use Rattle.std.proofs.lemmas.Bool.Decides.{nat_tests}
use Rattle.std.proofs.lemmas.List.{take-append-drop}
use Rattle.std.proofs.lemmas.List.Elements.{All-nil, All-cons, All-head, All-tail, All-weaker, All-replicate}
use Rattle.std.proofs.lemmas.Option.{slice_get-get_or}
use Rattle.std.proofs.lemmas.Bool.{ne_eqb}
use Rattle.dcx_shape.specs.declared.place.Place.{Place}
use Rattle.dcx_tokens.specs.declared.fault.ReadFault.{ReadFault}
use Rattle.dcx_tokens.specs.declared.token.Keyword.{Keyword}
use Rattle.dcx_tokens.specs.declared.token.Token.{Token}
use Rattle.dcx_tokens.specs.declared.token.TokenKind.{TokenKind}
use Rattle.dcx_tokens.specs.declared.token.TokenKind.TheVariants as kind
use Rattle.dcx_tokens.specs.Front.{run_of, is_blank, ends_line, line_end_len}
use Rattle.dcx_tokens.specs.Lexeme.{kind_if}
use Rattle.dcx_tokens.specs.Laws.{brackets_behind, brackets_left}
use Rattle.dcx_tokens.specs.Layout.{kept}
use Rattle.dcx_tokens.specs.Position.{moved_over, next_at, line_behind}
use Rattle.dcx_tokens.specs.Reading.{Reads, ends, stops, goes_on, IsLexed, fault_of}
use Rattle.dcx_tokens.specs.State.{State, Answer, put, moved, dedent_at, line_supplied, all_ended, finished_at, finished, start, led}
use Rattle.dcx_tokens.proofs.Kept.{token_of, no_last}
use Rattle.dcx_token_laws.specs.Cut.{AreBlanks, IsLineEnd, IsComment, EndsLine, HasNoLineEnd, place_behind, Spans, IsMark, AreMarks, Cut}
use Rattle.dcx_token_laws.specs.Lines.{IsOfWords, depth_of, kinds, Turns, IsTogether, AreLines, ended, line}
use Rattle.dcx_token_laws.proofs.Between.{run_is, are_blanks, is_line_end, is_comment}
use Rattle.dcx_token_laws.proofs.Feeds.{HasNoFeed, not_end, token_feeds}
use Rattle.dcx_token_laws.proofs.Heads.{Ends as HeadEnds, passed as end_passed, ended as end_ended, ends_at, comment_at, word_at, blanks_cut}
use Rattle.dcx_token_laws.proofs.Same.{word_not_newline, mark_not_newline, word_not, same_span, same_marks, no_earlier, marks_kinds, a_line}
use Rattle.dcx_token_laws.proofs.Same.{not_newline, one_turn, AtEnd, at_end, end_lines, end_there, no_word_there, tokens_behind, token_among}
use Rattle.dcx_token_laws.proofs.Spelled.{is_word, is_longest}
use Rattle.dcx_token_laws.proofs.Stretches.{IsBehind, next_behind, token_spans, last_is, step_moved}
use Rattle.dcx_token_laws.proofs.Forms.{HasBegun, IsLed, Turned, deeper, back, turns, begun_is, IsNested, nests, Closes, over, inside, begun_closes, empty_ends}
use Rattle.dcx_token_laws.proofs.Rising.{IsRising, deeper_turns, deeper_rising, back_turns, back_rising}
use Rattle.dcx_token_laws.proofs.Steps as steps
use Rattle.dcx_token_laws.proofs.Steps.{IsToken, Step, stepped}
use Rattle.dcx_token_laws.proofs.Basics.{head_is, never_both, some_is, tail_is}

-- ---- columns
is_one : (c : ℕ) → is_blank c ≡ true → (c ≡ 32) ⊎ (c ≡ 9)
is_one c e = by (eqb c 32) (eqb c 9) refl refl e
  where
    by : (a b : Bool) → eqb c 32 ≡ a → eqb c 9 ≡ b → (a || b) ≡ true → (c ≡ 32) ⊎ (c ≡ 9)
    by true b ea eb h = inl (grind (arith, nat_tests))
    by false true ea eb h = inr (grind (arith, nat_tests))
    by false false ea eb h = absurd (cc)

next_column : (s : State) (c : ℕ) → is_blank c ≡ true → (next_at s.at c).place.column ≡ s.at.place.column + 1
next_column s c e = by (is_one c e)
  where
    by : (c ≡ 32) ⊎ (c ≡ 9) → (next_at s.at c).place.column ≡ s.at.place.column + 1
    by (inl is) = rw is refl
    by (inr is) = rw is refl

pub blanks_column : (s : State) (cs : List ℕ) → AreBlanks cs → (moved_over s.at cs).place.column ≡ s.at.place.column + length cs
blanks_column s [] h = omega arith
blanks_column s (c ∷ cs) h =
    let one = next_column s c (All-head (λ d. IsTrue (is_blank d)) c cs h) in
    let more = blanks_column (record s { at = next_at s.at c }) cs (All-tail (λ d. IsTrue (is_blank d)) c cs h) in
    omega (arith, one, more)

pub line_end_column : (s : State) (cs : List ℕ) → IsLineEnd cs → (moved_over s.at cs).place.column ≡ 1
line_end_column s cs (inl is) = rw is refl
line_end_column s cs (inr is) = rw is refl

-- without a line feed the row stays
same_row : (s : State) (cs : List ℕ) → HasNoFeed cs → (moved_over s.at cs).place.line ≡ s.at.place.line
same_row s [] h = refl
same_row s (c ∷ cs) h =
    let stays : (next_at s.at c).place.line ≡ s.at.place.line = let other = ne_eqb c 10 (All-head (λ d. d ≢ 10) c cs h) in rw other refl in
    same_row (record s { at = next_at s.at c }) cs (All-tail (λ d. d ≢ 10) c cs h) ∙ stays

blank_other : (c : ℕ) → is_blank c ≡ true → c ≢ 10
blank_other c e is = never_both (is_blank c) e (ap is_blank is)

blanks_feeds : (cs : List ℕ) → AreBlanks cs → HasNoFeed cs
blanks_feeds cs h = All-weaker (λ d. IsTrue (is_blank d)) (λ d. d ≢ 10) blank_other cs h

hash_other : (c : ℕ) → c ≡ 35 → c ≢ 10
hash_other c h is = let same : ◌≡◌ {A = ℕ} 35 10 = sym h ∙ is in omega arith

no_feeds : (cs behind : List ℕ) → HasNoLineEnd cs behind → HasNoFeed cs
no_feeds [] behind h = All-nil (λ d. d ≢ 10)
no_feeds (c ∷ cs) behind h = All-cons (λ d. d ≢ 10) c cs (not_end c (cs ++ behind) h.0) (no_feeds cs behind h.1)

pub comment_feeds : (front behind : List ℕ) → IsComment front behind → HasNoFeed front
comment_feeds [] behind h = absurd h
comment_feeds (x ∷ xs) behind h = All-cons (λ d. d ≢ 10) x xs (hash_other x h.0) (no_feeds xs behind h.1)

pub comment_ends : (front behind : List ℕ) → IsComment front behind → EndsLine behind
comment_ends [] behind h = absurd h
comment_ends (x ∷ xs) behind h = h.2

-- ---- where the reading stands in its line
-- behind blanks comes no other
abbrev pub NoMore : List ℕ → List ℕ → Type 0
NoMore [] cs = Unit {0}
NoMore (b ∷ bs) [] = Unit {0}
NoMore (b ∷ bs) (c ∷ cs) = is_blank c ≡ false

no_more_behind : (cs : List ℕ) (b : ℕ) (bs : List ℕ) → NoMore (b ∷ bs) (drop (prefix_len is_blank cs) cs)
no_more_behind [] b bs = tt
no_more_behind (c ∷ cs) b bs = by (is_blank c) refl (no_more_behind cs b bs)
  where
    by : (x : Bool) → is_blank c ≡ x → NoMore (b ∷ bs) (drop (prefix_len is_blank cs) cs) → NoMore (b ∷ bs) (drop (cond x (1 + prefix_len is_blank cs) 0) (c ∷ cs))
    by true e more = rw one-add more
    by false e more = e

pub no_more : (c : ℕ) (cs : List ℕ) (n : ℕ) → n ≡ 1 + run_of is_blank cs → NoMore (take n (c ∷ cs)) (drop n (c ∷ cs))
no_more c cs n count =
    let m : n ≡ suc (prefix_len is_blank cs) = count ∙ ap (λ i. 1 + i) (run_is is_blank cs) ∙ one-add (prefix_len is_blank cs) in
    rw m (no_more_behind cs c (take (prefix_len is_blank cs) cs))

-- the line has a token, the last on this row, which is the reading's too unless a bracket is open; or blanks alone, all of them; or it is at its end, and has none
pub data Stage (s : State) (cs : List ℕ) : Type 0 where
  within : (row : ℕ) → HasBegun s → (s.at.place.line ≡ row) ⊎ (0 < length s.brackets) → Stage s cs
  leads : (blanks : List ℕ) → IsLed blanks s → length s.brackets ≡ 0 → s.at.place.column ≡ 1 + length blanks → NoMore blanks cs → Stage s cs
  closing : (blanks : List ℕ) → IsLed blanks s → length s.brackets ≡ 0 → EndsLine cs → Stage s cs

-- ---- the tokens that come
pub kinds-replicate : (n : ℕ) (d : Token) → kinds (replicate n d) ≡ replicate n d.kind
kinds-replicate zero d = refl
kinds-replicate (suc n) d = ap (λ ks. d.kind ∷ ks) (kinds-replicate n d)

-- the rest of a line, and then lines
pub record IsInside (blocks : List ℕ) (row brackets : ℕ) (new : List Token) : Type 0 where
  pub more : List Token
  pub end : Token
  pub behind : List Token
  pub are : new ≡ more ++ end ∷ behind
  pub words : All (λ t. IsOfWords t.kind) more
  pub closed : brackets_left brackets more ≡ 0
  pub together : IsTogether row brackets (more ++ end ∷ [])
  pub newline : end.kind ≡ kind.Newline
  pub lines : AreLines blocks behind

abbrev pub Goes : (s : State) (cs : List ℕ) → Stage s cs → List Token → Type 0
Goes s cs (within row is here) new = IsInside s.indents row (length s.brackets) new
Goes s cs (leads blanks is none column last) new = AreLines s.indents new
Goes s cs (closing blanks is none end) new = AreLines s.indents new

pub record IsLined (s : State) (cs : List ℕ) (ts : List Token) (stage : Stage s cs) : Type 0 where
  pub new : List Token
  pub tokens : ts ≡ s.tokens ++ new
  pub goes : Goes s cs stage new

-- ---- the first token of the rest of a line
module _ (blocks : List ℕ) (row brackets : ℕ) (end : Token) (behind : List Token) (newline : end.kind ≡ kind.Newline) (t : Token) (ts : List Token) where
  end_first : (more : List Token) → t ∷ ts ≡ more ++ end ∷ behind → All (λ u. IsOfWords u.kind) more → brackets_left brackets more ≡ 0 → AreLines blocks behind
      → t.kind ≡ kind.Newline → (brackets ≡ 0) × AreLines blocks ts
  end_first [] e words closed lines is = (closed, subst (AreLines blocks) (sym (tail_is t end ts behind e)) lines)
  end_first (x ∷ xs) e words closed lines is =
      absurd (word_not_newline x.kind (All-head (λ u. IsOfWords u.kind) x xs words) (ap (λ (u : Token). u.kind) (sym (head_is t x ts (xs ++ end ∷ behind) e)) ∙ is))

  word_first : (more : List Token) → t ∷ ts ≡ more ++ end ∷ behind → All (λ u. IsOfWords u.kind) more → brackets_left brackets more ≡ 0
      → IsTogether row brackets (more ++ end ∷ []) → AreLines blocks behind → IsOfWords t.kind →
      IsInside blocks t.place.line (brackets_behind brackets t.kind) ts
  word_first [] e words closed together lines word = absurd (word_not_newline t.kind word (ap (λ (u : Token). u.kind) (head_is t end ts behind e) ∙ newline))
  word_first (x ∷ xs) e words closed together lines word =
      subst (λ (u : Token). IsInside blocks u.place.line (brackets_behind brackets u.kind) ts) (sym (head_is t x ts (xs ++ end ∷ behind) e)) (record {
        more = xs;
        end = end;
        behind = behind;
        are = tail_is t x ts (xs ++ end ∷ behind) e;
        words = All-tail (λ u. IsOfWords u.kind) x xs words;
        closed = closed;
        together = together.1;
        newline = newline;
        lines = lines;
      })

  pub no_mark_first : (more : List Token) → t ∷ ts ≡ more ++ end ∷ behind → All (λ u. IsOfWords u.kind) more → IsMark t.kind → ⊥
  no_mark_first [] e words mark = mark_not_newline t.kind mark (ap (λ (u : Token). u.kind) (head_is t end ts behind e) ∙ newline)
  no_mark_first (x ∷ xs) e words mark = word_not x t (sym (head_is t x ts (xs ++ end ∷ behind) e)) (All-head (λ u. IsOfWords u.kind) x xs words) mark

  row_first : (more : List Token) → t ∷ ts ≡ more ++ end ∷ behind → IsTogether row brackets (more ++ end ∷ []) → (t.place.line ≡ row) ⊎ (0 < brackets)
  row_first [] e together = subst (λ (u : Token). (u.place.line ≡ row) ⊎ (0 < brackets)) (sym (head_is t end ts behind e)) together.0
  row_first (x ∷ xs) e together = subst (λ (u : Token). (u.place.line ≡ row) ⊎ (0 < brackets)) (sym (head_is t x ts (xs ++ end ∷ behind) e)) together.0

some_left : (more : List Token) (end : Token) (behind : List Token) → ◌≡◌ {A = List Token} [] (more ++ end ∷ behind) → ⊥
some_left [] end behind e = cc
some_left (x ∷ xs) end behind e = cc

-- outside brackets a line does not go on behind the end of its row
rows_clash : (blocks : List ℕ) (row brackets : ℕ) (front rest : List ℕ) (us : List Token) → Cut front rest us [] → IsInside blocks row brackets us → brackets ≡ 0 → row < (place_behind front).line → ⊥
rows_clash blocks row brackets front rest [] cut held none later = some_left held.more held.end held.behind held.are
rows_clash blocks row brackets front rest (t ∷ ts) cut held none later = by (row_first blocks row brackets held.end held.behind held.newline t ts held.more held.are held.together)
  where
    by : (t.place.line ≡ row) ⊎ (0 < brackets) → ⊥
    by (inl e) = let no_less = no_earlier cut t ts refl in omega (arith, e, no_less, later)
    by (inr some) = omega (arith, some, none)

line_end_row : (s : State) (cs : List ℕ) → IsLineEnd cs → (moved_over s.at cs).place.line ≡ s.at.place.line + 1
line_end_row s cs (inl is) = rw is refl
line_end_row s cs (inr is) = rw is refl

row_behind : (s : State) (front cs : List ℕ) → IsBehind front s → (place_behind (front ++ cs)).line ≡ (moved_over s.at cs).place.line
row_behind s front cs h = let e = next_behind s (moved s cs) front cs h refl in rw e refl

-- ---- a step
-- the tokens that are left behind a step
pub record After (s t : State) (front rest : List ℕ) (us : List Token) (here : Stage t rest) : Type 0 where
  pub left : List Token
  pub cut : Cut front rest left []
  pub goes : Goes t rest here left
  pub tokens : s.tokens ++ us ≡ t.tokens ++ left

-- Where a step leads: lines that come behind it make lines that come before it, and of tokens that are those of lines and cut
-- the characters those are left that do so behind it.
pub record Next (s t : State) (cs taken rest : List ℕ) (stage : Stage s cs) : Type 0 where
  pub here : Stage t rest
  pub rising : IsRising 0 t.indents
  pub before : (ts : List Token) → IsLined t rest ts here → IsLined s cs ts stage
  pub after : (front : List ℕ) → IsBehind front s → (us : List Token) → Cut front cs us [] → Goes s cs stage us → After s t (front ++ taken) rest us here

word_if : (o : Option Keyword) → IsOfWords (kind_if o)
word_if (Some w) = tt
word_if None = tt

pub is_of_words : (c : ℕ) (cs : List ℕ) (k : TokenKind) (n : ℕ) → IsToken c cs k n → IsOfWords k
is_of_words c cs k n (steps.name b count is) = subst IsOfWords (sym is) (word_if _)
is_of_words c cs k n (steps.number x b d is same) = subst IsOfWords (sym same) tt
is_of_words c cs k n (steps.text m b d q is count same) = subst IsOfWords (sym same) tt
is_of_words c cs k n (steps.sign symbol b d q is count same) = subst IsOfWords (sym same) tt

module _ (s : State) (c : ℕ) (cs : List ℕ) (n : ℕ) (rising : IsRising 0 s.indents) where
  -- the characters in two
  cut_in_two : (front : List ℕ) (us : List Token) → Cut front (c ∷ cs) us [] → Cut front (take n (c ∷ cs) ++ drop n (c ∷ cs)) us []
  cut_in_two front us cut = subst (λ xs. Cut front xs us []) (sym (take-append-drop n (c ∷ cs))) cut

  -- the blanks
  blanks_at : (front : List ℕ) (us : List Token) → is_blank c ≡ true → n ≡ 1 + run_of is_blank cs → Cut front (c ∷ cs) us [] → Cut (front ++ take n (c ∷ cs)) (drop n (c ∷ cs)) us []
  blanks_at front us b count cut =
      let run : prefix_len is_blank (c ∷ cs) ≡ 1 + prefix_len is_blank cs = rw b refl in
      let same : n ≡ prefix_len is_blank (c ∷ cs) = count ∙ ap (λ i. 1 + i) (run_is is_blank cs) ∙ sym run in
      subst (λ i. Cut (front ++ take i (c ∷ cs)) (drop i (c ∷ cs)) us []) (sym same) (blanks_cut front (c ∷ cs) us cut)

  -- ---- in a line that has begun
  module _ (row : ℕ) (is : HasBegun s) (here : (s.at.place.line ≡ row) ⊎ (0 < length s.brackets)) where
    abbrev going : Stage s (c ∷ cs)
    going = within row is here

    -- without a line feed the row is the same
    stays_here : (ds : List ℕ) → HasNoFeed ds → ((moved_over s.at ds).place.line ≡ row) ⊎ (0 < length s.brackets)
    stays_here ds h = by here
      where
        by : (s.at.place.line ≡ row) ⊎ (0 < length s.brackets) → ((moved_over s.at ds).place.line ≡ row) ⊎ (0 < length s.brackets)
        by (inl e) = inl (same_row s ds h ∙ e)
        by (inr some) = inr some

    -- what is left behind a line end
    line_later : (front : List ℕ) → IsBehind front s → length s.brackets ≡ 0 → IsLineEnd (take n (c ∷ cs)) → row < (place_behind (front ++ take n (c ∷ cs))).line
    line_later front h none end = by here
      where
        next_row : (place_behind (front ++ take n (c ∷ cs))).line ≡ s.at.place.line + 1
        next_row = row_behind s front (take n (c ∷ cs)) h ∙ line_end_row s (take n (c ∷ cs)) end

        by : (s.at.place.line ≡ row) ⊎ (0 < length s.brackets) → row < (place_behind (front ++ take n (c ∷ cs))).line
        by (inl e) = let r = next_row in omega (arith, e, r)
        by (inr some) = absurd (omega (arith, some, none))

    over_after : (front : List ℕ) (us : List Token) → IsBehind front s → length s.brackets ≡ 0 → IsLineEnd (take n (c ∷ cs))
        → HeadEnds front (take n (c ∷ cs)) (drop n (c ∷ cs)) us → IsInside s.indents row (length s.brackets) us →
        (left : List Token) × Cut (front ++ take n (c ∷ cs)) (drop n (c ∷ cs)) left [] × AreLines s.indents left
        × (s.tokens ++ us ≡ (s.tokens ++ token_of s kind.Newline (take n (c ∷ cs)) ∷ []) ++ left)
    over_after front us h none end (end_passed more) goes =
        absurd (rows_clash s.indents row (length s.brackets) (front ++ take n (c ∷ cs)) (drop n (c ∷ cs)) us more goes none (line_later front h none end))
    over_after front us h none end (end_ended t ts is newline spans more) goes =
        let token = token_of s kind.Newline (take n (c ∷ cs)) in
        let first = end_first s.indents row (length s.brackets) goes.end goes.behind goes.newline t ts goes.more (sym is ∙ goes.are) goes.words goes.closed goes.lines newline in
        let same = same_span t token front (take n (c ∷ cs)) newline spans (token_spans s kind.Newline front (take n (c ∷ cs)) h) in
        (ts, more, first.1, ap (λ zs. s.tokens ++ zs) (is ∙ ap (λ u. u ∷ ts) same) ∙ sym (append_assoc s.tokens (token ∷ []) ts))

    inside_after : (front : List ℕ) (us : List Token) → 0 < length s.brackets → HeadEnds front (take n (c ∷ cs)) (drop n (c ∷ cs)) us
        → IsInside s.indents row (length s.brackets) us → Cut (front ++ take n (c ∷ cs)) (drop n (c ∷ cs)) us []
    inside_after front us some (end_passed more) goes = more
    inside_after front us some (end_ended t ts is newline spans more) goes =
        absurd (let first = end_first s.indents row (length s.brackets) goes.end goes.behind goes.newline t ts goes.more
        (sym is ∙ goes.are) goes.words goes.closed goes.lines newline in let none = first.0 in omega (arith, none, some))

    word_left : (front : List ℕ) (us : List Token) (v : State) (k : TokenKind) → IsBehind front s → IsToken c cs k n → IsNested s v k
        → IsInside s.indents row (length s.brackets) us → (marks : List Token) (t : Token) (behind : List Token) →
        us ≡ marks ++ t ∷ behind → AreMarks front marks → t.kind ≡ k → Spans t front (take n (c ∷ cs)) →
        IsInside v.indents v.at.place.line (length v.brackets) behind × (s.tokens ++ us ≡ (v.tokens ++ token_of v k (take n (c ∷ cs)) ∷ []) ++ behind)
    word_left front us v k h token nest goes (m ∷ ms) t behind is are same spans =
        absurd (no_mark_first s.indents row (length s.brackets) goes.end goes.behind goes.newline m (ms ++ t ∷ behind) goes.more (sym is ∙ goes.are) goes.words
        (All-head (λ u. IsMark u.kind × Spans u front []) m ms are).0)
    word_left front us v k h token nest goes [] t behind is are same spans =
        let tok = token_of v k (take n (c ∷ cs)) in
        let one : t ≡ tok = same_span t tok front (take n (c ∷ cs)) same spans (token_spans v k front (take n (c ∷ cs)) (nest.at ∙ h)) in
        let first = word_first s.indents row (length s.brackets) goes.end goes.behind goes.newline t behind goes.more
        (sym is ∙ goes.are) goes.words goes.closed goes.together goes.lines (subst IsOfWords (sym same) (is_of_words c cs k n token)) in
        let here_so = subst (λ (u : Token). IsInside s.indents u.place.line (brackets_behind (length s.brackets) u.kind) behind) one first in
        let nested_so = subst (λ b. IsInside s.indents v.at.place.line b behind) (sym nest.brackets) here_so in (
          subst (λ blocks. IsInside blocks v.at.place.line (length v.brackets) behind) (sym nest.indents) nested_so,
          ap (λ zs. s.tokens ++ zs) (is ∙ ap (λ u. u ∷ behind) one) ∙ ap (λ zs. zs ++ tok ∷ behind) (sym nest.tokens) ∙ sym (append_assoc v.tokens (tok ∷ []) behind),
        )

    line_over : (t : State) → ends_line c cs ≡ true → n ≡ line_end_len c → Closes s t (take n (c ∷ cs)) → Next s t (c ∷ cs) (take n (c ∷ cs)) (drop n (c ∷ cs)) going
    line_over t l count (over none e) =
        let end = take n (c ∷ cs) in
        let token = token_of s kind.Newline end in
        subst (λ (w : State). Next s w (c ∷ cs) (take n (c ∷ cs)) (drop n (c ∷ cs)) going) (sym e) (record {
          here = leads [] refl none (line_end_column s end (is_line_end c cs n l count)) tt;
          rising = rising;
          before = λ ts lined. record {
            new = token ∷ lined.new;
            tokens = lined.tokens ∙ append_assoc s.tokens (token ∷ []) lined.new;
            goes = record { more = []; end = token; behind = lined.new; are = refl; words = All-nil (λ t. IsOfWords t.kind); closed = none; together = (here, tt); newline = refl; lines = lined.goes };
          };
          after = λ front h us cut goes.
              let x = over_after front us h none (is_line_end c cs n l count) (ends_at front end (drop n (c ∷ cs)) us (is_line_end c cs n l count) (cut_in_two front us cut)) goes in
              record { left = x.0; cut = x.1; goes = x.2; tokens = x.3 };
        })
    line_over t l count (inside some e) =
        subst (λ (w : State). Next s w (c ∷ cs) (take n (c ∷ cs)) (drop n (c ∷ cs)) going) (sym e) (record {
          here = within row is (inr some);
          rising = rising;
          before = λ ts lined. record { new = lined.new; tokens = lined.tokens; goes = lined.goes };
          after = λ front h us cut goes. record {
            left = us;
            cut = inside_after front us some (ends_at front (take n (c ∷ cs)) (drop n (c ∷ cs)) us (is_line_end c cs n l count) (cut_in_two front us cut)) goes;
            goes = goes;
            tokens = refl;
          };
        })

    row_at : (v : State) → v.at ≡ s.at → v.at.place.line ≡ s.at.place.line
    row_at v at = rw at refl

    -- one token more
    next_word : (t v : State) (k : TokenKind) → ends_line c cs ≡ false → IsToken c cs k n → IsNested s v k → t ≡ put v k (take n (c ∷ cs)) → Next s t (c ∷ cs) (take n (c ∷ cs)) (drop n (c ∷ cs)) going
    next_word t v k l token nest same =
        let tok = token_of v k (take n (c ∷ cs)) in
        subst (λ (w : State). Next s w (c ∷ cs) (take n (c ∷ cs)) (drop n (c ∷ cs)) going) (sym same) (record {
          here = within tok.place.line (nest.line ∙ is) (inl (same_row v (take n (c ∷ cs)) (token_feeds c cs k n l token)));
          rising = subst (IsRising 0) (sym nest.indents) rising;
          before = λ ts lined. let rest = lined.goes in record {
            new = tok ∷ lined.new;
            tokens = lined.tokens ∙ append_assoc v.tokens (tok ∷ []) lined.new ∙ ap (λ us. us ++ tok ∷ lined.new) nest.tokens;
            goes = record {
              more = tok ∷ rest.more;
              end = rest.end;
              behind = rest.behind;
              are = ap (λ us. tok ∷ us) rest.are;
              words = All-cons (λ t. IsOfWords t.kind) tok rest.more (is_of_words c cs k n token) rest.words;
              closed = ap (λ m. brackets_left m rest.more) (sym nest.brackets) ∙ rest.closed;
              together = (
                subst (λ p. (p ≡ row) ⊎ (0 < length s.brackets)) (sym (row_at v nest.at)) here,
                subst (λ b. IsTogether tok.place.line b (rest.more ++ rest.end ∷ [])) nest.brackets rest.together,
              );
              newline = rest.newline;
              lines = subst (λ blocks. AreLines blocks rest.behind) nest.indents rest.lines;
            };
          };
          after = λ front h us cut goes.
              let w = word_at front (take n (c ∷ cs)) (drop n (c ∷ cs)) k us (is_word c cs k n token) (is_longest c cs k n token) (cut_in_two front us cut) in
              let x = word_left front us v k h token nest goes w.marks w.token w.behind w.are w.are_marks w.is w.spans in
              record { left = w.behind; cut = w.more; goes = x.0; tokens = x.1 };
        })

    next_within : (t : State) → Step s t c cs n → Next s t (c ∷ cs) (take n (c ∷ cs)) (drop n (c ∷ cs)) going
    next_within t (steps.line_end l count same) = line_over t l count (begun_closes s t (take n (c ∷ cs)) is same)
    next_within t (steps.blank l b count same) =
        subst (λ (w : State). Next s w (c ∷ cs) (take n (c ∷ cs)) (drop n (c ∷ cs)) going) (sym same) (record {
          here = within row (rw is refl) (stays_here (take n (c ∷ cs)) (blanks_feeds (take n (c ∷ cs)) (are_blanks c cs n b count)));
          rising = rising;
          before = λ ts lined. record { new = lined.new; tokens = lined.tokens; goes = lined.goes };
          after = λ front h us cut goes. record { left = us; cut = blanks_at front us b count cut; goes = goes; tokens = refl };
        })
    next_within t (steps.comment l h count same) =
        subst (λ (w : State). Next s w (c ∷ cs) (take n (c ∷ cs)) (drop n (c ∷ cs)) going) (sym same) (record {
          here = within row is (stays_here (take n (c ∷ cs)) (comment_feeds (take n (c ∷ cs)) (drop n (c ∷ cs)) (is_comment c cs n h count)));
          rising = rising;
          before = λ ts lined. record { new = lined.new; tokens = lined.tokens; goes = lined.goes };
          after = λ front e us cut goes. record
              { left = us; cut = comment_at front (take n (c ∷ cs)) (drop n (c ∷ cs)) us (is_comment c cs n h count) (cut_in_two front us cut); goes = goes; tokens = refl };
        })
    next_within t (steps.word u v k l b begins_so token nested_so same) =
        let nest = subst (λ (w : State). IsNested w v k) (begun_is s u is begins_so) (nests u v k nested_so) in
        next_word t v k l token nest same

  -- ---- in front of the first token of a line
  module _ (blanks : List ℕ) (is : IsLed blanks s) (none : length s.brackets ≡ 0) where
    -- what the first token finds
    pub record IsTurned (u : State) : Type 0 where
      pub marks : List Token
      pub tokens : u.tokens ≡ s.tokens ++ marks
      pub places : All (λ m. m.place ≡ s.at.place) marks
      pub turns_so : Turns s.indents (length blanks) (kinds marks) u.indents
      pub rises : IsRising 0 u.indents
      pub brackets : length u.brackets ≡ 0
      pub at : u.at ≡ s.at
      pub begun : HasBegun u
      pub spans : (front : List ℕ) → IsBehind front s → AreMarks front marks

    pub turned : (u : State) → Turned s u (length blanks) → IsTurned u
    turned u (deeper d same) =
        let token = token_of s kind.Indent [] in
        subst IsTurned (sym same) (record {
          marks = token ∷ [];
          tokens = refl;
          places = All-cons (λ m. m.place ≡ s.at.place) token [] refl (All-nil (λ m. m.place ≡ s.at.place));
          turns_so = deeper_turns s.indents (length blanks) d;
          rises = deeper_rising s.indents (length blanks) rising d;
          brackets = none;
          at = refl;
          begun = refl;
          spans = λ front h. All-cons (λ m. IsMark m.kind × Spans m front []) token [] (tt, token_spans s kind.Indent front [] h) (All-nil (λ m. IsMark m.kind × Spans m front []));
        })
    turned u (back st same) =
        let m = length s.indents - length (kept s.indents (length blanks)) in
        let token = dedent_at s s.at.place in
        subst IsTurned (sym same) (record {
          marks = replicate m token;
          tokens = refl;
          places = All-replicate (λ t. t.place ≡ s.at.place) m token refl;
          turns_so = subst (λ ks. Turns s.indents (length blanks) ks (kept s.indents (length blanks))) (sym (kinds-replicate m token)) (back_turns s.indents (length blanks) rising st);
          rises = back_rising s.indents (length blanks) rising;
          brackets = none;
          at = refl;
          begun = refl;
          spans = λ front h. All-replicate (λ m. IsMark m.kind × Spans m front []) m token (tt, token_spans s kind.Dedent front [] h);
        })

    -- a line without a token counts for nothing
    empty_after : (front : List ℕ) (us : List Token) → HeadEnds front (take n (c ∷ cs)) (drop n (c ∷ cs)) us → AreLines s.indents us → Cut (front ++ take n (c ∷ cs)) (drop n (c ∷ cs)) us []
    empty_after front us (end_passed more) lines = more
    empty_after front us (end_ended t ts is newline spans more) lines = absurd (not_newline lines t ts is newline)

    next_empty : (t : State) (stage : Stage s (c ∷ cs)) → ((new : List Token) → AreLines s.indents new → Goes s (c ∷ cs) stage new)
        → ((new : List Token) → Goes s (c ∷ cs) stage new → AreLines s.indents new) → ends_line c cs ≡ true → n ≡ line_end_len c →
        t ≡ record (moved s (take n (c ∷ cs))) { line = start.line } → Next s t (c ∷ cs) (take n (c ∷ cs)) (drop n (c ∷ cs)) stage
    next_empty t stage goes back_so l count same =
        subst (λ (w : State). Next s w (c ∷ cs) (take n (c ∷ cs)) (drop n (c ∷ cs)) stage) (sym same) (record {
          here = leads [] refl none (line_end_column s (take n (c ∷ cs)) (is_line_end c cs n l count)) tt;
          rising = rising;
          before = λ ts lined. record { new = lined.new; tokens = lined.tokens; goes = goes lined.new lined.goes };
          after = λ front h us cut given. record {
            left = us;
            cut = empty_after front us (ends_at front (take n (c ∷ cs)) (drop n (c ∷ cs)) us (is_line_end c cs n l count) (cut_in_two front us cut)) (back_so us given);
            goes = back_so us given;
            tokens = refl;
          };
        })

    next_closing : (t : State) (end : EndsLine (c ∷ cs)) → Step s t c cs n → Next s t (c ∷ cs) (take n (c ∷ cs)) (drop n (c ∷ cs)) (closing blanks is none end)
    next_closing t end (steps.line_end l count same) = next_empty t (closing blanks is none end) (λ new h. h) (λ new h. h) l count (empty_ends s t (take n (c ∷ cs)) blanks is same)
    next_closing t end (steps.blank l b count same) = absurd (never_both (ends_line c cs) end l)
    next_closing t end (steps.comment l h count same) = absurd (never_both (ends_line c cs) end l)
    next_closing t end (steps.word u v k l b begins_so token nested_so same) = absurd (never_both (ends_line c cs) end l)

    module _ (column : s.at.place.column ≡ 1 + length blanks) (last : NoMore blanks (c ∷ cs)) where
      abbrev ahead : Stage s (c ∷ cs)
      ahead = leads blanks is none column last

      -- the first token
      first_lines : (u v : State) (k : TokenKind) (new : List Token) (turned_so : IsTurned u) → IsToken c cs k n → IsNested u v k → IsInside v.indents v.at.place.line (length v.brackets) new →
          AreLines s.indents (turned_so.marks ++ token_of v k (take n (c ∷ cs)) ∷ new)
      first_lines u v k new turned_so token nest rest =
          let tok = token_of v k (take n (c ∷ cs)) in
          let at : v.at ≡ s.at = nest.at ∙ turned_so.at in
          let place : tok.place ≡ s.at.place = rw at refl in
          let depth : length blanks ≡ depth_of tok = let e = ap (λ (p : Place). p.column) place in omega (arith, e, column) in
          let turns_at : Turns s.indents (depth_of tok) (kinds turned_so.marks) v.indents =
          subst (λ blocks. Turns s.indents (depth_of tok) (kinds turned_so.marks) blocks) (sym nest.indents)
          (subst (λ d. Turns s.indents d (kinds turned_so.marks) u.indents) depth turned_so.turns_so) in
          let places : All (λ m. m.place ≡ tok.place) turned_so.marks = subst (λ p. All (λ m. m.place ≡ p) turned_so.marks) (sym place) turned_so.places in
          let closed : brackets_left 0 (tok ∷ rest.more) ≡ 0 =
          ap (λ b. brackets_left (brackets_behind b k) rest.more) (sym turned_so.brackets) ∙ ap (λ b. brackets_left b rest.more) (sym nest.brackets) ∙ rest.closed in
          let words = All-cons (λ t. IsOfWords t.kind) tok rest.more (is_of_words c cs k n token) rest.words in
          let brackets : length v.brackets ≡ brackets_behind 0 k = nest.brackets ∙ ap (λ b. brackets_behind b k) turned_so.brackets in
          let together = subst (λ b. IsTogether tok.place.line b (rest.more ++ rest.end ∷ [])) brackets rest.together in
          let made = line turned_so.marks tok rest.more rest.end rest.behind turns_at places words closed together rest.newline rest.lines in
          subst (AreLines s.indents) (append_assoc turned_so.marks (tok ∷ rest.more) (rest.end ∷ rest.behind) ∙ ap (λ us. turned_so.marks ++ tok ∷ us) (sym rest.are)) made

      -- what is left behind the first token
      first_left : (front : List ℕ) (us : List Token) (u v : State) (k : TokenKind) → IsBehind front s → (turned_so : IsTurned u) → IsToken c cs k n → IsNested u v k
          → AreLines s.indents us → (marks : List Token) (t : Token) (behind : List Token) →
          us ≡ marks ++ t ∷ behind → AreMarks front marks → t.kind ≡ k → Spans t front (take n (c ∷ cs)) →
          IsInside v.indents v.at.place.line (length v.brackets) behind × (s.tokens ++ us ≡ (v.tokens ++ token_of v k (take n (c ∷ cs)) ∷ []) ++ behind)
      first_left front us u v k h turned_so token nest lines marks t behind is are same spans =
          let tok = token_of v k (take n (c ∷ cs)) in
          let at : v.at ≡ s.at = nest.at ∙ turned_so.at in
          let place : tok.place ≡ s.at.place = rw at refl in
          let one : t ≡ tok = same_span t tok front (take n (c ∷ cs)) same spans (token_spans v k front (take n (c ∷ cs)) (at ∙ h)) in
          let found = a_line lines marks t behind is (marks_kinds front marks are) (subst IsOfWords (sym same) (is_of_words c cs k n token)) in
          let depth : depth_of t ≡ length blanks = ap depth_of one ∙ (let e = ap (λ (p : Place). p.column) place in omega (arith, e, column)) in
          let turn = one_turn s.indents found.after u.indents (length blanks) (kinds marks) (kinds turned_so.marks)
          (subst (λ d. Turns s.indents d (kinds marks) found.after) depth found.turns) turned_so.turns_so in
          let all_marks = same_marks front marks turned_so.marks turn.marks are (turned_so.spans front h) in
          let brackets : brackets_behind 0 t.kind ≡ length v.brackets = ap (λ j. brackets_behind 0 j) same ∙ ap (λ b. brackets_behind b k) (sym turned_so.brackets) ∙ sym nest.brackets in
          let row : t.place.line ≡ v.at.place.line = ap (λ (x : Token). x.place.line) one in
          let inside : IsInside v.indents v.at.place.line (length v.brackets) behind = record {
            more = found.more;
            end = found.end;
            behind = found.behind;
            are = found.are;
            words = found.words;
            closed = subst (λ b. brackets_left b found.more ≡ 0) brackets found.closed;
            together = subst (λ r. IsTogether r (length v.brackets) (found.more ++ found.end ∷ [])) row (subst (λ b. IsTogether t.place.line b (found.more ++ found.end ∷ [])) brackets found.together);
            newline = found.newline;
            lines = subst (λ blocks. AreLines blocks found.behind) (turn.after ∙ sym nest.indents) found.lines;
          } in (
            inside,
            ap (λ zs. s.tokens ++ zs) (is ∙ ap (λ ms. ms ++ t ∷ behind) all_marks ∙ ap (λ x. turned_so.marks ++ x ∷ behind) one) ∙ sym (append_assoc s.tokens turned_so.marks (tok ∷ behind))
                ∙ ap (λ zs. zs ++ tok ∷ behind) (sym (nest.tokens ∙ turned_so.tokens)) ∙ sym (append_assoc v.tokens (tok ∷ []) behind),
          )

      next_first : (t u v : State) (k : TokenKind) → ends_line c cs ≡ false → IsTurned u → IsToken c cs k n → IsNested u v k → t ≡ put v k (take n (c ∷ cs))
          → Next s t (c ∷ cs) (take n (c ∷ cs)) (drop n (c ∷ cs)) ahead
      next_first t u v k l turned_so token nest same =
          let tok = token_of v k (take n (c ∷ cs)) in
          subst (λ (w : State). Next s w (c ∷ cs) (take n (c ∷ cs)) (drop n (c ∷ cs)) ahead) (sym same) (record {
            here = within tok.place.line (nest.line ∙ turned_so.begun) (inl (same_row v (take n (c ∷ cs)) (token_feeds c cs k n l token)));
            rising = subst (IsRising 0) (sym nest.indents) turned_so.rises;
            before = λ ts lined. record {
              new = turned_so.marks ++ tok ∷ lined.new;
              tokens = lined.tokens ∙ append_assoc v.tokens (tok ∷ []) lined.new ∙ ap (λ us. us ++ tok ∷ lined.new) (nest.tokens ∙ turned_so.tokens)
                  ∙ append_assoc s.tokens turned_so.marks (tok ∷ lined.new);
              goes = first_lines u v k lined.new turned_so token nest lined.goes;
            };
            after = λ front h us cut goes.
                let w = word_at front (take n (c ∷ cs)) (drop n (c ∷ cs)) k us (is_word c cs k n token) (is_longest c cs k n token) (cut_in_two front us cut) in
                let x = first_left front us u v k h turned_so token nest goes w.marks w.token w.behind w.are w.are_marks w.is w.spans in
                record { left = w.behind; cut = w.more; goes = x.0; tokens = x.1 };
          })

      first_blanks : (m : List ℕ) → length m ≡ 0 → s.at.place.column ≡ 1 + length m → s.at.place.column ≡ 1
      first_blanks m z e = omega arith

      none_before : (bs : List ℕ) → NoMore bs (c ∷ cs) → is_blank c ≡ true → length bs ≡ 0
      none_before [] h b = refl
      none_before (x ∷ xs) h b = absurd (never_both (is_blank c) b h)

      next_blank : (t : State) → is_blank c ≡ true → n ≡ 1 + run_of is_blank cs → t ≡ record s { line = led s.line (take n (c ∷ cs)); at = moved_over s.at (take n (c ∷ cs)) }
          → Next s t (c ∷ cs) (take n (c ∷ cs)) (drop n (c ∷ cs)) ahead
      next_blank t b count same =
          let bl = take n (c ∷ cs) in
          let first = first_blanks blanks (none_before blanks last b) column in
          let more = blanks_column s bl (are_blanks c cs n b count) in
          subst (λ (w : State). Next s w (c ∷ cs) (take n (c ∷ cs)) (drop n (c ∷ cs)) ahead) (sym same) (record {
            here = leads bl (rw is refl) none (omega (arith, first, more)) (no_more c cs n count);
            rising = rising;
            before = λ ts lined. record { new = lined.new; tokens = lined.tokens; goes = lined.goes };
            after = λ front h us cut goes. record { left = us; cut = blanks_at front us b count cut; goes = goes; tokens = refl };
          })

      next_leads : (t : State) → Step s t c cs n → Next s t (c ∷ cs) (take n (c ∷ cs)) (drop n (c ∷ cs)) ahead
      next_leads t (steps.line_end l count same) = next_empty t ahead (λ new h. h) (λ new h. h) l count (empty_ends s t (take n (c ∷ cs)) blanks is same)
      next_leads t (steps.blank l b count same) = next_blank t b count same
      next_leads t (steps.comment l h count same) =
          subst (λ (w : State). Next s w (c ∷ cs) (take n (c ∷ cs)) (drop n (c ∷ cs)) ahead) (sym same) (record {
            here = closing blanks is none (comment_ends (take n (c ∷ cs)) (drop n (c ∷ cs)) (is_comment c cs n h count));
            rising = rising;
            before = λ ts lined. record { new = lined.new; tokens = lined.tokens; goes = lined.goes };
            after = λ front e us cut goes. record
                { left = us; cut = comment_at front (take n (c ∷ cs)) (drop n (c ∷ cs)) us (is_comment c cs n h count) (cut_in_two front us cut); goes = goes; tokens = refl };
          })
      next_leads t (steps.word u v k l b begins_so token nested_so same) =
          next_first t u v k l (turned u (turns s u blanks is begins_so)) token (nests u v k nested_so) same

pub next : (s t : State) (c : ℕ) (cs : List ℕ) (n : ℕ) → IsRising 0 s.indents → (stage : Stage s (c ∷ cs)) → Step s t c cs n → Next s t (c ∷ cs) (take n (c ∷ cs)) (drop n (c ∷ cs)) stage
next s t c cs n rising (within row is here) step = next_within s c cs n rising row is here t step
next s t c cs n rising (leads blanks is none column last) step = next_leads s c cs n rising blanks is none column last t step
next s t c cs n rising (closing blanks is none end) step = next_closing s c cs n rising blanks is none t end step

all_end : (n : ℕ) (d : Token) → d.kind ≡ kind.Dedent → kinds (replicate n d) ≡ replicate n kind.Dedent
all_end n d is = kinds-replicate n d ∙ ap (λ k. replicate n k) is

supplied_begun : (s : State) (row : ℕ) → HasBegun s → (s.at.place.line ≡ row) ⊎ (0 < length s.brackets) → length s.brackets ≡ 0
    → (new : List Token) × ((all_ended (line_supplied s s.line)).tokens ≡ s.tokens ++ new) × IsInside s.indents row (length s.brackets) new
supplied_begun s row is here closed =
    let w = put s kind.Newline [] in
    let same : line_supplied s s.line ≡ w = rw is refl in
    let end = token_of s kind.Newline [] in
    let ds = replicate (length s.indents) (dedent_at w (line_behind w.at.place)) in
    subst (λ (x : State). (new : List Token) × ((all_ended x).tokens ≡ s.tokens ++ new) × IsInside s.indents row (length s.brackets) new) (sym same) (
      end ∷ ds,
      append_assoc s.tokens (end ∷ []) ds,
      record {
        more = [];
        end = end;
        behind = ds;
        are = refl;
        words = All-nil (λ t. IsOfWords t.kind);
        closed = closed;
        together = (here, tt);
        newline = refl;
        lines = ended (all_end (length s.indents) (dedent_at w (line_behind w.at.place)) refl);
      },
    )

supplied_led : (s : State) (blanks : List ℕ) → IsLed blanks s → (new : List Token) × ((all_ended (line_supplied s s.line)).tokens ≡ s.tokens ++ new) × AreLines s.indents new
supplied_led s blanks is =
    let same : line_supplied s s.line ≡ s = rw is refl in
    let d = dedent_at s (line_behind s.at.place) in
    subst (λ (x : State). (new : List Token) × ((all_ended x).tokens ≡ s.tokens ++ new) × AreLines s.indents new) (sym same)
    (replicate (length s.indents) d, refl, ended (all_end (length s.indents) d refl))

ended_lined : (s : State) (cs : List ℕ) (stage : Stage s cs) → length s.brackets ≡ 0 → IsLined s cs (all_ended (line_supplied s s.line)).tokens stage
ended_lined s cs (within row is here) closed = let x = supplied_begun s row is here closed in record { new = x.0; tokens = x.1; goes = x.2 }
ended_lined s cs (leads blanks is none column last) closed = let x = supplied_led s blanks is in record { new = x.0; tokens = x.1; goes = x.2 }
ended_lined s cs (closing blanks is none end) closed = let x = supplied_led s blanks is in record { new = x.0; tokens = x.1; goes = x.2 }

finished_lined : (s : State) (cs : List ℕ) (stage : Stage s cs) → fault_of (finished s).1 ≡ None → IsLined s cs (finished s).0.tokens stage
unfolding finished
finished_lined s cs stage = by (slice_get s.brackets (length s.brackets - 1)) refl
  where
    by : (o : Option Place) → slice_get s.brackets (length s.brackets - 1) ≡ o → fault_of (finished_at s o).1 ≡ None → IsLined s cs (finished_at s o).0.tokens stage
    by (Some opener) e f = absurd (cc)
    by None e f = ended_lined s cs stage (no_last s.brackets e)

-- ---- a whole reading
reads_lined : {s : State} {cs : List ℕ} {ts : List Token} {f : Option ReadFault} (stage : Stage s cs) → IsRising 0 s.indents → f ≡ None → Reads s cs ts f → IsLined s cs ts stage
reads_lined {s = s} stage rising none (ends {t = t} e are is) =
    let all = subst (λ (p : Answer (Unit {0})). fault_of p.1 ≡ None → IsLined s [] p.0.tokens stage) e (finished_lined s [] stage) in
    subst (λ us. IsLined s [] us stage) are (all (is ∙ none))
reads_lined stage rising none (stops {f = f} {fault = g} e are is) = absurd (some_is f g is none)
reads_lined {s = s} {cs = c ∷ cs} {ts = ts} stage rising none (goes_on {t = t} {n = n} e more) =
    let one = next s t c cs n rising stage (stepped s t c cs n e) in
    one.before ts (reads_lined one.here one.rising none more)

pub texts_are_lines : (text : List ℕ) (ts : List Token) → IsLexed text ts None → AreLines [] ts
texts_are_lines text ts lexed =
    let all = reads_lined (leads [] refl refl refl tt) tt refl lexed in
    subst (AreLines []) (sym all.tokens) all.goes

-- ---- one list
-- at the end of the text no other tokens are cut and are those of lines
end_of_line : (s : State) (front : List ℕ) (row : ℕ) (us : List Token) → IsBehind front s → IsInside s.indents row (length s.brackets) us → All (AtEnd front) us →
    us ≡ token_of s kind.Newline [] ∷ replicate (length s.indents) (dedent_at s (line_behind s.at.place))
end_of_line s front row us h goes all = by goes.more goes.are goes.words
  where
    ends_so : (more : List Token) → us ≡ more ++ goes.end ∷ goes.behind → AtEnd front goes.end × All (AtEnd front) goes.behind
    ends_so more e =
        let each = subst (All (AtEnd front)) e all in
        (token_among (AtEnd front) more goes.end goes.behind each, All-tail (AtEnd front) goes.end goes.behind (tokens_behind (AtEnd front) more (goes.end ∷ goes.behind) each))

    by : (more : List Token) → us ≡ more ++ goes.end ∷ goes.behind → All (λ t. IsOfWords t.kind) more
        → us ≡ token_of s kind.Newline [] ∷ replicate (length s.indents) (dedent_at s (line_behind s.at.place))
    by [] e words =
        let found = ends_so [] e in
        let end = same_span goes.end (token_of s kind.Newline []) front [] goes.newline (end_there front goes.end found.0 goes.newline) (token_spans s kind.Newline front [] h) in
        let ds = end_lines goes.lines front (dedent_at s (line_behind s.at.place)) found.1 (last_is s front h) in
        e ∙ ap (λ t. t ∷ goes.behind) end ∙ ap (λ ts. token_of s kind.Newline [] ∷ ts) ds
    by (x ∷ xs) e words =
        let each = subst (All (AtEnd front)) e all in
        absurd (no_word_there front x (All-head (AtEnd front) x (xs ++ goes.end ∷ goes.behind) each) (All-head (λ t. IsOfWords t.kind) x xs words))

ended_one : (s : State) (front cs : List ℕ) (stage : Stage s cs) (us : List Token) → IsBehind front s → Goes s cs stage us → All (AtEnd front) us
    → (all_ended (line_supplied s s.line)).tokens ≡ s.tokens ++ us
ended_one s front cs (within row is here) us h goes all =
    let w = put s kind.Newline [] in
    let same : line_supplied s s.line ≡ w = rw is refl in
    let ds = replicate (length s.indents) (dedent_at s (line_behind s.at.place)) in
    subst (λ (x : State). (all_ended x).tokens ≡ s.tokens ++ us) (sym same)
    (append_assoc s.tokens (token_of s kind.Newline [] ∷ []) ds ∙ ap (λ ts. s.tokens ++ ts) (sym (end_of_line s front row us h goes all)))
ended_one s front cs (leads blanks is none column last) us h goes all =
    let same : line_supplied s s.line ≡ s = rw is refl in
    subst (λ (x : State). (all_ended x).tokens ≡ s.tokens ++ us) (sym same) (ap (λ ts. s.tokens ++ ts) (sym (end_lines goes front (dedent_at s (line_behind s.at.place)) all (last_is s front h))))
ended_one s front cs (closing blanks is none end) us h goes all =
    let same : line_supplied s s.line ≡ s = rw is refl in
    subst (λ (x : State). (all_ended x).tokens ≡ s.tokens ++ us) (sym same) (ap (λ ts. s.tokens ++ ts) (sym (end_lines goes front (dedent_at s (line_behind s.at.place)) all (last_is s front h))))

finished_one : (s : State) (front cs : List ℕ) (stage : Stage s cs) (us : List Token) → IsBehind front s → Goes s cs stage us → All (AtEnd front) us
    → fault_of (finished s).1 ≡ None → (finished s).0.tokens ≡ s.tokens ++ us
unfolding finished
finished_one s front cs stage us h goes all = by (slice_get s.brackets (length s.brackets - 1))
  where
    by : (o : Option Place) → fault_of (finished_at s o).1 ≡ None → (finished_at s o).0.tokens ≡ s.tokens ++ us
    by (Some opener) f = absurd (cc)
    by None f = ended_one s front cs stage us h goes all

reads_one : {s : State} {cs : List ℕ} {ts : List Token} {f : Option ReadFault} (stage : Stage s cs) → IsRising 0 s.indents → f ≡ None → Reads s cs ts f → (front : List ℕ)
    → IsBehind front s → (us : List Token) → Cut front cs us [] → Goes s cs stage us → ts ≡ s.tokens ++ us
reads_one {s = s} stage rising none (ends {t = t} e are is) front h us cut goes =
    let all = subst (λ (p : Answer (Unit {0})). fault_of p.1 ≡ None → p.0.tokens ≡ s.tokens ++ us) e (finished_one s front [] stage us h goes (at_end cut refl refl)) in
    sym are ∙ all (is ∙ none)
reads_one stage rising none (stops {f = f} {fault = g} e are is) front h us cut goes = absurd (some_is f g is none)
reads_one {s = s} {cs = c ∷ cs} stage rising none (goes_on {t = t} {n = n} e more) front h us cut goes =
    let one = next s t c cs n rising stage (stepped s t c cs n e) in
    let left = one.after front h us cut goes in
    reads_one one.here one.rising none more (front ++ take n (c ∷ cs)) (next_behind s t front (take n (c ∷ cs)) h (step_moved s t c cs n e)) left.left left.cut left.goes ∙ sym left.tokens

pub one_list : (text : List ℕ) (ts us : List Token) → IsLexed text ts None → Cut [] (chars text) us [] → AreLines [] us → us ≡ ts
one_list text ts us lexed cut lines = sym (reads_one (leads [] refl refl refl tt) tt refl lexed [] refl us cut lines)
