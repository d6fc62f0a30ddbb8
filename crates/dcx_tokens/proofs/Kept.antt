-- What each kind of change keeps, a whole reading keeps.
use Rattle.std.proofs.Common.{◌≡◌, ℕ, zero, suc, ◌+◌, ◌-◌, ◌<◌, ◌≤◌, Bool, true, false, cond, eqb, List, [], ◌∷◌, ◌++◌, length, take, drop, Option, Some, None, refl, sym, ap, ◌∙◌, subst, arith}
use Rattle.std.specs.Prelude.{Result, Ok, Err, IfOk, slice_get}
use Rattle.dcx_shape.specs.declared.place.Place.{Place}
use Rattle.dcx_frac.specs.declared.fraction.Frac.{Frac}
use Rattle.dcx_tokens.specs.declared.fault.ReadFault.{ReadFault}
use Rattle.dcx_tokens.specs.declared.fault.ReadFault.TheVariants as fault
use Rattle.dcx_tokens.specs.declared.front.Front.{Front}
use Rattle.dcx_tokens.specs.declared.front.Front.TheVariants as fronts
use Rattle.dcx_tokens.specs.declared.position.Position.{Position}
use Rattle.dcx_tokens.specs.declared.reader.Line.{Line}
use Rattle.dcx_tokens.specs.declared.reader.Line.TheVariants.{Lead, Begun}
use Rattle.dcx_tokens.specs.declared.token.Keyword.{Keyword}
use Rattle.dcx_tokens.specs.declared.token.Symbol.{Symbol}
use Rattle.dcx_tokens.specs.declared.token.Symbol.TheVariants as symbol
use Rattle.dcx_tokens.specs.declared.token.Token.{Token}
use Rattle.dcx_tokens.specs.declared.token.TokenKind.{TokenKind}
use Rattle.dcx_tokens.specs.declared.token.TokenKind.TheVariants as kind
use Rattle.dcx_tokens.specs.Front.{run_of, is_blank, is_quote, begins_name, begins_number, ends_line, line_end_len, up_to_line_end, sign_at, sign_len, sign_front, front_at}
use Rattle.dcx_tokens.specs.Layout.{is_deeper, is_standing, opens, closes}
use Rattle.dcx_tokens.specs.Lexeme.{token_at, kind_if, number_or, text_or}
use Rattle.dcx_tokens.specs.Number.{number_at}
use Rattle.dcx_tokens.specs.Position.{bytes_of, moved_over}
use Rattle.dcx_tokens.specs.Reading.{Reads, ends, stops, goes_on, fault_of}
use Rattle.dcx_tokens.specs.State.{State, Answer, and_then, moved, put, is_full, indented, dedented, begin_line, line_begun_at, nested}
use Rattle.dcx_tokens.specs.State.{token_read, line_ended, front_read, step, line_supplied, all_ended, finished_at, finished, led}
use Rattle.std.proofs.lemmas.Option.{slice_get-get_or}
use Rattle.dcx_tokens.proofs.Bytes.{bytes_split, offset_moved}
use Rattle.dcx_tokens.proofs.Lengths.{number_some}

-- a kind of token that has characters of its own
abbrev pub IsPlain : TokenKind → Type 0
IsPlain kind.Newline = ⊥
IsPlain kind.Indent = ⊥
IsPlain kind.Dedent = ⊥
IsPlain _ = Unit {0}

-- the token of these characters
abbrev pub token_of : State → TokenKind → List ℕ → Token
token_of s kind cs = record { kind = kind; start = s.at.offset; end = (moved_over s.at cs).offset; place = s.at.place }

-- a token that opens or closes its bracket
abbrev pub token_put : State → TokenKind → List ℕ → ℕ → Answer ℕ
token_put s kind cs n = and_then (nested s kind) (λ t _. (put t kind cs, Ok n))

-- the steps that follow a token that is read, and a line that has begun
abbrev pub token_next : ℕ → List ℕ → State → TokenKind × ℕ → Answer ℕ
token_next c cs s token = token_put s token.0 (take token.1 (c ∷ cs)) token.1

abbrev pub line_next : Front → ℕ → List ℕ → State → Unit {0} → Answer ℕ
line_next front c cs s begun = and_then (s, token_at s.at.place front c cs) (token_next c cs)

-- each kind of change keeps I, where total is the number of bytes of the text
pub record Kept (I : State → Type 0) (total : ℕ) : Type 0 where
  pub moves : (s : State) (line : Line) (cs : List ℕ) → I s → I (record s { line = line; at = moved_over s.at cs })
  pub line_ends : (s : State) (cs : List ℕ) → 0 < length cs → I s → I (record (put s kind.Newline cs) { line = Lead 0 false })
  pub indents : (s : State) (spaces : ℕ) → is_full s ≡ false → I s → I (record (put s kind.Indent []) { indents = s.indents ++ spaces ∷ []; line = Begun })
  pub dedents : (s : State) (spaces : ℕ) → I s → I (dedented s spaces)
  pub token : (s : State) (k : TokenKind) (cs : List ℕ) (n : ℕ) → IsPlain k → 0 < length cs → I s → I (token_put s k cs n).0
  pub supplies : (s : State) → s.at.offset ≡ total → I s → I (put s kind.Newline [])
  pub all_end : (s : State) → I s → I (all_ended s)

-- ---- what stands in front
-- a number in front begins as one
abbrev BeginsIf : Front → ℕ → List ℕ → Type 0
BeginsIf fronts.Number c cs = begins_number c cs ≡ true
BeginsIf _ c cs = Unit {0}

sign_begins : (c : ℕ) (cs : List ℕ) (o : Option Symbol) → BeginsIf (sign_front o) c cs
sign_begins c cs (Some s) = tt
sign_begins c cs None = tt

pub front_begins : (c : ℕ) (cs : List ℕ) → BeginsIf (front_at c cs) c cs
unfolding front_at
front_begins c cs = by (ends_line c cs) (is_blank c) (eqb c 35) (begins_name c) (begins_number c cs) (is_quote c) refl
  where
    by : (l b h n d q : Bool) → begins_number c cs ≡ d →
        BeginsIf (cond l fronts.LineEnd (cond b fronts.Blank (cond h fronts.Comment (cond n fronts.Name (cond d fronts.Number (cond q fronts.Text (sign_front (sign_at c cs)))))))) c cs
    by true b h n d q e = tt
    by false true h n d q e = tt
    by false false true n d q e = tt
    by false false false true d q e = tt
    by false false false false true q e = e
    by false false false false false true e = tt
    by false false false false false false e = sign_begins c cs (sign_at c cs)

-- a token has characters, and a kind that has them
abbrev IsGood : TokenKind × ℕ → Type 0
IsGood t = IsPlain t.0 × (0 < t.1)

word_plain : (o : Option Keyword) → IsPlain (kind_if o)
word_plain (Some k) = tt
word_plain None = tt

number_good : (place : Place) (c : ℕ) (cs : List ℕ) → begins_number c cs ≡ true → (o : Option (Frac × ℕ)) → number_at (c ∷ cs) ≡ o → IfOk (number_or place o) IsGood
number_good place c cs begins (Some n) e = (tt, number_some c cs n begins e)
number_good place c cs begins None e = tt

text_good : (place : Place) (o : Option ℕ) → IfOk (text_or place o) IsGood
text_good place (Some n) = (tt, omega arith)
text_good place None = tt

pub sign_some : (symbol : Symbol) → 0 < sign_len symbol
sign_some symbol.StarStar = omega arith
sign_some _ = omega arith

pub token_good : (place : Place) (front : Front) (c : ℕ) (cs : List ℕ) → BeginsIf front c cs → IfOk (token_at place front c cs) IsGood
unfolding token_at
token_good place fronts.Name c cs b = (word_plain _, omega arith)
token_good place fronts.Number c cs b = number_good place c cs b (number_at (c ∷ cs)) refl
token_good place fronts.Text c cs b = text_good place _
token_good place (fronts.Sign symbol) c cs b = (tt, sign_some symbol)
token_good place fronts.LineEnd c cs b = tt
token_good place fronts.Blank c cs b = tt
token_good place fronts.Comment c cs b = tt
token_good place fronts.Other c cs b = tt

take_some : (n c : ℕ) (cs : List ℕ) → 0 < n → 0 < length (take n (c ∷ cs))
take_some zero c cs h = absurd (omega arith)
take_some (suc n) c cs h = omega arith

pub line_end_some : (c : ℕ) → 0 < line_end_len c
line_end_some c = by (eqb c 13)
  where
    by : (b : Bool) → 0 < cond b 2 1
    by true = omega arith
    by false = omega arith

-- ---- what a step keeps
module _ (I : State → Type 0) (total : ℕ) (k : Kept I total) where
  and_then_keeps : {A B : Type 0} (answer : Answer A) (next : State → A → Answer B) → I answer.0 → ((t : State) (a : A) → I t → I (next t a).0) → I (and_then answer next).0
  and_then_keeps (t, Ok a) next i on = on t a i
  and_then_keeps (t, Err f) next i on = i

  and_then_good : {A B : Type 0} (s : State) (r : Result A ReadFault) (P : A → Type 0) (next : State → A → Answer B) → IfOk r P → I s → ((a : A) → P a → I (next s a).0) → I (and_then (s, r) next).0
  and_then_good s (Ok a) P next good i on = on a good
  and_then_good s (Err f) P next good i on = i

  begin_line_keeps : (s : State) (spaces : ℕ) (has_tab : Bool) → I s → I (begin_line s spaces has_tab).0
  begin_line_keeps s spaces has_tab i = by has_tab (is_deeper s.indents spaces) (is_standing s.indents spaces)
    where
      deeper : (f : Bool) → is_full s ≡ f
          → I (cond {A = Answer (Unit {0})} f (s, Err (fault.TooDeep s.at.place)) (record (put s kind.Indent []) { indents = s.indents ++ spaces ∷ []; line = Begun }, Ok tt)).0
      deeper true e = i
      deeper false e = k.indents s spaces e i

      by : (t d st : Bool) → I (cond {A = Answer (Unit {0})} t (s, Err (fault.Indent s.at.place))
          (cond {A = Answer (Unit {0})} d (indented s spaces) (cond {A = Answer (Unit {0})} st (dedented s spaces, Ok tt) (s, Err (fault.Indent s.at.place))))).0
      by true d st = i
      by false true st = deeper (is_full s) refl
      by false false true = k.dedents s spaces i
      by false false false = i

  line_begun_keeps : (s : State) (line : Line) → I s → I (line_begun_at s line).0
  line_begun_keeps s Begun i = i
  line_begun_keeps s (Lead spaces has_tab) i = begin_line_keeps s spaces has_tab i

  token_keeps : (s : State) (front : Front) (c : ℕ) (cs : List ℕ) → BeginsIf front c cs → I s → I (token_read s front c cs).0
  token_keeps s front c cs begins i =
      and_then_keeps (line_begun_at s s.line) (line_next front c cs) (line_begun_keeps s s.line i) (λ t begun it.
      and_then_good t (token_at t.at.place front c cs) IsGood (token_next c cs) (token_good t.at.place front c cs begins) it (λ token good.
      k.token t token.0 (take token.1 (c ∷ cs)) token.1 good.0 (take_some token.1 c cs good.1) it))

  line_ended_keeps : (s : State) (line : Line) (end : List ℕ) → 0 < length end → I s → I (line_ended s line end)
  line_ended_keeps s Begun end some i = by (eqb (length s.brackets) 0)
    where
      by : (b : Bool) → I (cond {A = State} b (record (put s kind.Newline end) { line = Lead 0 false }) (moved s end))
      by true = k.line_ends s end some i
      by false = k.moves s s.line end i
  line_ended_keeps s (Lead spaces has_tab) end some i = k.moves s (Lead 0 false) end i

  front_keeps : (s : State) (front : Front) (c : ℕ) (cs : List ℕ) → BeginsIf front c cs → I s → I (front_read s front c cs).0
  front_keeps s fronts.LineEnd c cs begins i = line_ended_keeps s s.line (take (line_end_len c) (c ∷ cs)) (take_some (line_end_len c) c cs (line_end_some c)) i
  front_keeps s fronts.Blank c cs begins i = k.moves s (led s.line (take (1 + run_of is_blank cs) (c ∷ cs))) (take (1 + run_of is_blank cs) (c ∷ cs)) i
  front_keeps s fronts.Comment c cs begins i = k.moves s s.line (take (1 + up_to_line_end cs) (c ∷ cs)) i
  front_keeps s fronts.Other c cs begins i = i
  front_keeps s fronts.Name c cs begins i = token_keeps s fronts.Name c cs begins i
  front_keeps s fronts.Number c cs begins i = token_keeps s fronts.Number c cs begins i
  front_keeps s fronts.Text c cs begins i = token_keeps s fronts.Text c cs begins i
  front_keeps s (fronts.Sign symbol) c cs begins i = token_keeps s (fronts.Sign symbol) c cs begins i

  step_keeps : (s : State) (c : ℕ) (cs : List ℕ) → I s → I (step s c cs).0
  unfolding step
  step_keeps s c cs i = front_keeps s (front_at c cs) c cs (front_begins c cs) i

  supplied_keeps : (s : State) (line : Line) → s.at.offset ≡ total → I s → I (line_supplied s line)
  supplied_keeps s Begun e i = k.supplies s e i
  supplied_keeps s (Lead spaces has_tab) e i = i

  finished_keeps : (s : State) → s.at.offset ≡ total → I s → I (finished s).0
  unfolding finished
  finished_keeps s e i = by (slice_get s.brackets (length s.brackets - 1))
    where
      by : (o : Option Place) → I (finished_at s o).0
      by (Some opener) = i
      by None = k.all_end (line_supplied s s.line) (supplied_keeps s s.line e i)

-- ---- how far a step moves
-- from this position, over as many of the characters as the answer tells
abbrev Moves : Position → List ℕ → Answer ℕ → Type 0
Moves at all (t, Ok n) = t.at ≡ moved_over at (take n all)
Moves at all (t, Err f) = t.at ≡ at

then_moves : {A : Type 0} (at : Position) (all : List ℕ) (answer : Answer A) (next : State → A → Answer ℕ) → answer.0.at ≡ at
    → ((t : State) (a : A) → t.at ≡ at → Moves at all (next t a)) → Moves at all (and_then answer next)
then_moves at all (t, Ok a) next e on = on t a e
then_moves at all (t, Err f) next e on = e

begin_line_stays : (s : State) (spaces : ℕ) (has_tab : Bool) → (begin_line s spaces has_tab).0.at ≡ s.at
begin_line_stays s spaces has_tab = by has_tab (is_deeper s.indents spaces) (is_full s) (is_standing s.indents spaces)
  where
    by : (t d f st : Bool) → (cond {A = Answer (Unit {0})} t (s, Err (fault.Indent s.at.place)) (cond {A = Answer (Unit {0})} d
        (cond {A = Answer (Unit {0})} f (s, Err (fault.TooDeep s.at.place)) (record (put s kind.Indent []) { indents = s.indents ++ spaces ∷ []; line = Begun }, Ok tt))
        (cond {A = Answer (Unit {0})} st (dedented s spaces, Ok tt) (s, Err (fault.Indent s.at.place))))).0.at ≡ s.at
    by true d f st = refl
    by false true true st = refl
    by false true false st = refl
    by false false f true = refl
    by false false f false = refl

line_begun_stays : (s : State) (line : Line) → (line_begun_at s line).0.at ≡ s.at
line_begun_stays s Begun = refl
line_begun_stays s (Lead spaces has_tab) = begin_line_stays s spaces has_tab

nested_by_stays : (s : State) (symbol : Symbol) → (nested s (kind.Sign symbol)).0.at ≡ s.at
nested_by_stays s symbol = by (opens symbol) (is_full s) (closes symbol)
  where
    by : (o f c : Bool)
        → (cond {A = Answer (Unit {0})} o (cond {A = Answer (Unit {0})} f (s, Err (fault.TooDeep s.at.place)) (record s { brackets = s.brackets ++ s.at.place ∷ [] }, Ok tt))
        (cond {A = Answer (Unit {0})} c (record s { brackets = take (length s.brackets - 1) s.brackets }, Ok tt) (s, Ok tt))).0.at ≡ s.at
    by true true c = refl
    by true false c = refl
    by false f true = refl
    by false f false = refl

nested_stays : (s : State) (k : TokenKind) → (nested s k).0.at ≡ s.at
nested_stays s (kind.Sign symbol) = nested_by_stays s symbol
nested_stays s kind.Name = refl
nested_stays s (kind.Keyword w) = refl
nested_stays s (kind.Number n) = refl
nested_stays s kind.Text = refl
nested_stays s kind.Newline = refl
nested_stays s kind.Indent = refl
nested_stays s kind.Dedent = refl

token_moves : (s : State) (front : Front) (c : ℕ) (cs : List ℕ) → Moves s.at (c ∷ cs) (token_read s front c cs)
token_moves s front c cs =
    then_moves s.at (c ∷ cs) (line_begun_at s s.line) (line_next front c cs) (line_begun_stays s s.line) (λ t begun et.
    then_moves s.at (c ∷ cs) (t, token_at t.at.place front c cs) (token_next c cs) et (λ u token eu.
    then_moves s.at (c ∷ cs) (nested u token.0) (λ v nest. (put v token.0 (take token.1 (c ∷ cs)), Ok token.1)) (nested_stays u token.0 ∙ eu) (λ v nest ev.
    ap (λ at. moved_over at (take token.1 (c ∷ cs))) ev)))

line_ended_moves : (s : State) (line : Line) (end : List ℕ) → (line_ended s line end).at ≡ moved_over s.at end
line_ended_moves s Begun end = by (eqb (length s.brackets) 0)
  where
    by : (b : Bool) → (cond {A = State} b (record (put s kind.Newline end) { line = Lead 0 false }) (moved s end)).at ≡ moved_over s.at end
    by true = refl
    by false = refl
line_ended_moves s (Lead spaces has_tab) end = refl

front_moves : (s : State) (front : Front) (c : ℕ) (cs : List ℕ) → Moves s.at (c ∷ cs) (front_read s front c cs)
front_moves s fronts.LineEnd c cs = line_ended_moves s s.line (take (line_end_len c) (c ∷ cs))
front_moves s fronts.Blank c cs = refl
front_moves s fronts.Comment c cs = refl
front_moves s fronts.Other c cs = refl
front_moves s fronts.Name c cs = token_moves s fronts.Name c cs
front_moves s fronts.Number c cs = token_moves s fronts.Number c cs
front_moves s fronts.Text c cs = token_moves s fronts.Text c cs
front_moves s (fronts.Sign symbol) c cs = token_moves s (fronts.Sign symbol) c cs

pub step_moves : (s : State) (c : ℕ) (cs : List ℕ) → Moves s.at (c ∷ cs) (step s c cs)
unfolding step
step_moves s c cs = front_moves s (front_at c cs) c cs

supplied_stays : (s : State) (line : Line) → (line_supplied s line).at ≡ s.at
supplied_stays s Begun = refl
supplied_stays s (Lead spaces has_tab) = refl

finished_stays : (s : State) → (finished s).0.at ≡ s.at
unfolding finished
finished_stays s = by (slice_get s.brackets (length s.brackets - 1))
  where
    by : (o : Option Place) → (finished_at s o).0.at ≡ s.at
    by (Some opener) = refl
    by None = supplied_stays s s.line

-- ---- a whole reading
-- the last state of a reading
pub record Final (I : State → Type 0) (total : ℕ) (tokens : List Token) (fault : Option ReadFault) : Type 0 where
  pub state : State
  pub keeps : I state
  pub are : state.tokens ≡ tokens
  pub offset : state.at.offset ≤ total
  pub closed : fault ≡ None → (length state.indents ≡ 0) × (length state.brackets ≡ 0)

pub no_last : (xs : List Place) → slice_get xs (length xs - 1) ≡ None → length xs ≡ 0
no_last [] e = refl
no_last (x ∷ xs) e =
    let some = slice_get-get_or (x ∷ xs) (length (x ∷ xs) - 1) x (omega arith) in
    let both = sym e ∙ some in
    cc

finished_closed : (s : State) → fault_of (finished s).1 ≡ None → (length (finished s).0.indents ≡ 0) × (length (finished s).0.brackets ≡ 0)
unfolding finished
finished_closed s = by (slice_get s.brackets (length s.brackets - 1)) refl
  where
    supplied_brackets : (line : Line) → (line_supplied s line).brackets ≡ s.brackets
    supplied_brackets Begun = refl
    supplied_brackets (Lead spaces has_tab) = refl

    by : (o : Option Place) → slice_get s.brackets (length s.brackets - 1) ≡ o → fault_of (finished_at s o).1 ≡ None
        → (length (finished_at s o).0.indents ≡ 0) × (length (finished_at s o).0.brackets ≡ 0)
    by (Some opener) e f = cc
    by None e f = (refl, ap length (supplied_brackets s.line) ∙ no_last s.brackets e)

module _ (I : State → Type 0) (total : ℕ) (k : Kept I total) where
  pub reads_keep : {s : State} {cs : List ℕ} {ts : List Token} {f : Option ReadFault} → I s → s.at.offset + bytes_of cs ≡ total → Reads s cs ts f → Final I total ts f
  reads_keep {s = s} i all (ends {t = t} {answer = answer} e are fault) =
      let stays : t.at ≡ s.at = subst (λ (p : Answer (Unit {0})). p.0.at ≡ s.at) e (finished_stays s) in
      let offset = ap (λ (at : Position). at.offset) stays in
      let end : s.at.offset ≡ total = omega arith in
      record {
        state = t;
        keeps = subst (λ (p : Answer (Unit {0})). I p.0) e (finished_keeps I total k s end i);
        are = are;
        offset = omega arith;
        closed = λ none. subst (λ (p : Answer (Unit {0})). fault_of p.1 ≡ None → (length p.0.indents ≡ 0) × (length p.0.brackets ≡ 0)) e (finished_closed s) (fault ∙ none);
      }
  reads_keep {s = s} {cs = c ∷ cs} i all (stops {t = t} e are fault) =
      let stays : t.at ≡ s.at = subst (Moves s.at (c ∷ cs)) e (step_moves s c cs) in
      let offset = ap (λ (at : Position). at.offset) stays in
      record {
        state = t;
        keeps = subst (λ (p : Answer ℕ). I p.0) e (step_keeps I total k s c cs i);
        are = are;
        offset = omega arith;
        closed = λ none. let some = fault ∙ none in cc;
      }
  reads_keep {s = s} {cs = c ∷ cs} i all (goes_on {t = t} {n = n} e more) =
      let moved : t.at ≡ moved_over s.at (take n (c ∷ cs)) = subst (Moves s.at (c ∷ cs)) e (step_moves s c cs) in
      let offset = ap (λ (at : Position). at.offset) moved ∙ offset_moved s.at (take n (c ∷ cs)) in
      let split = bytes_split n (c ∷ cs) in
      let rest : t.at.offset + bytes_of (drop n (c ∷ cs)) ≡ total = omega arith in
      reads_keep (subst (λ (p : Answer ℕ). I p.0) e (step_keeps I total k s c cs i)) rest more
