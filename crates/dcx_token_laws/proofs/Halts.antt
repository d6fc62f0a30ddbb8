-- What a step that stops has met.
use Rattle.std.proofs.Common.{◌≡◌, ℕ, ◌+◌, ◌-◌, Bool, true, false, cond, eqb, List, [], ◌∷◌, ◌++◌, length, take, Option, Some, None, refl, sym, ap, ◌∙◌, subst}
use Rattle.std.specs.Prelude.{Result, Ok, Err}
use Rattle.dcx_frac.specs.declared.fraction.Frac.{Frac}
use Rattle.dcx_shape.specs.declared.place.Place.{Place}
use Rattle.dcx_tokens.specs.declared.fault.ReadFault.{ReadFault}
use Rattle.dcx_tokens.specs.declared.fault.ReadFault.TheVariants as fault
use Rattle.dcx_tokens.specs.declared.token.Symbol.{Symbol}
use Rattle.dcx_tokens.specs.declared.token.TokenKind.{TokenKind}
use Rattle.dcx_tokens.specs.declared.token.TokenKind.TheVariants as kind
use Rattle.dcx_tokens.specs.Front.{run_of, is_blank, is_quote, begins_name, begins_number, ends_line, line_end_len, up_to_line_end, sign_at, sign_len, front_at, tab_among}
use Rattle.dcx_tokens.specs.Layout.{is_deeper, is_standing, opens, closes}
use Rattle.dcx_tokens.specs.Lexeme.{token_at, word_token_of, number_or, text_or}
use Rattle.dcx_tokens.specs.Number.{number_at}
use Rattle.dcx_tokens.specs.Position.{moved_over}
use Rattle.dcx_tokens.specs.Quoted.{up_to_quote}
use Rattle.dcx_tokens.specs.State.{State, Answer, and_then, moved, put, is_full, dedented, begin_line, line_begun_at, nested, token_read, line_ended, step, led, start}
use Rattle.dcx_tokens.proofs.Kept.{token_next, line_next}
use Rattle.dcx_token_laws.proofs.Forms.{IsFormed, HasBegun, IsLed}
use Rattle.dcx_token_laws.proofs.Steps.{IsToken, name, number, text, sign, line_end_front, blank_front, comment_front, name_front, number_front, text_front}
use Rattle.dcx_token_laws.proofs.Steps.{sign_front_is, front_is_sign, name_token, number_token, text_token, sign_token, as_token, number_is, text_is}
use Rattle.dcx_token_laws.proofs.Stops.{never_err, left_is, line_begun_left, nested_left}

-- a token of some kind begins, or what may be malformed: a number or a text
pub record IsBegun (c : ℕ) (cs : List ℕ) : Type 0 where
  pub no_end : ends_line c cs ≡ false
  pub no_blank : is_blank c ≡ false
  pub no_hash : eqb c 35 ≡ false

pub data Starts (c : ℕ) (cs : List ℕ) : Type 0 where
  starts_token : (k : TokenKind) (n : ℕ) → IsToken c cs k n → Starts c cs
  starts_number : begins_name c ≡ false → begins_number c cs ≡ true → number_at (c ∷ cs) ≡ None → Starts c cs
  starts_text : begins_name c ≡ false → begins_number c cs ≡ false → is_quote c ≡ true → up_to_quote c false cs ≡ None → Starts c cs

-- why the first token of a line isn't read, behind these blanks
pub data LineHalts (s : State) (blanks : List ℕ) (f : ReadFault) : Type 0 where
  tab : tab_among blanks ≡ true → f ≡ fault.Indent s.at.place → LineHalts s blanks f
  full : tab_among blanks ≡ false → is_deeper s.indents (length blanks) ≡ true → is_full s ≡ true → f ≡ fault.TooDeep s.at.place → LineHalts s blanks f
  apart : tab_among blanks ≡ false → is_deeper s.indents (length blanks) ≡ false → is_standing s.indents (length blanks) ≡ false → f ≡ fault.Indent s.at.place → LineHalts s blanks f

pub data Halts (s t : State) (c : ℕ) (cs : List ℕ) (f : ReadFault) : Type 0 where
  char : IsBegun c cs → begins_name c ≡ false → begins_number c cs ≡ false → is_quote c ≡ false → sign_at c cs ≡ None → t ≡ s → f ≡ fault.BadChar s.at.place → Halts s t c cs f
  line : IsBegun c cs → Starts c cs → (HasBegun s → ⊥) → t ≡ s → ((blanks : List ℕ) → IsLed blanks s → LineHalts s blanks f) → Halts s t c cs f
  bad_number : IsBegun c cs → line_begun_at s s.line ≡ (t, Ok tt) → begins_name c ≡ false → begins_number c cs ≡ true → number_at (c ∷ cs) ≡ None → f ≡ fault.BadNumber t.at.place → Halts s t c cs f
  open_text : IsBegun c cs → line_begun_at s s.line ≡ (t, Ok tt) → begins_name c ≡ false → begins_number c cs ≡ false → is_quote c ≡ true → up_to_quote c false cs ≡ None
      → f ≡ fault.Unclosed t.at.place → Halts s t c cs f
  bracket : (symbol : Symbol) (n : ℕ) → IsBegun c cs → line_begun_at s s.line ≡ (t, Ok tt) → IsToken c cs (kind.Sign symbol) n → opens symbol ≡ true → is_full t ≡ true
      → f ≡ fault.TooDeep t.at.place → Halts s t c cs f

fault_is : {A : Type 0} (s t : State) (g f : ReadFault) → ◌≡◌ {A = Answer A} (s, Err g) (t, Err f) → f ≡ g
fault_is {A = A} s t g f e = let same : ◌≡◌ {A = Result A ReadFault} (Err g) (Err f) = ap (λ (p : Answer A). p.1) e in cc

same_fault : {A : Type 0} (g f : ReadFault) → ◌≡◌ {A = Result A ReadFault} (Err g) (Err f) → f ≡ g
same_fault g f e = cc

line_halts : (s t : State) (blanks : List ℕ) (g : ReadFault) → begin_line s (length blanks) (tab_among blanks) ≡ (t, Err g) → LineHalts s blanks g
line_halts s t blanks g = by (tab_among blanks) (is_deeper s.indents (length blanks)) (is_full s) (is_standing s.indents (length blanks)) refl refl refl refl
  where
    by : (b d f st : Bool) → tab_among blanks ≡ b → is_deeper s.indents (length blanks) ≡ d → is_full s ≡ f → is_standing s.indents (length blanks) ≡ st →
        cond {A = Answer (Unit {0})} b (s, Err (fault.Indent s.at.place)) (cond {A = Answer (Unit {0})} d (cond {A = Answer (Unit {0})} f (s, Err (fault.TooDeep s.at.place))
        (record (put s kind.Indent []) { indents = s.indents ++ length blanks ∷ []; line = (dedented start 0).line }, Ok tt))
        (cond {A = Answer (Unit {0})} st (dedented s (length blanks), Ok tt) (s, Err (fault.Indent s.at.place)))) ≡ (t, Err g) → LineHalts s blanks g
    by true d f st eb ed ef es e = tab eb (fault_is s t (fault.Indent s.at.place) g e)
    by false true true st eb ed ef es e = full eb ed ef (fault_is s t (fault.TooDeep s.at.place) g e)
    by false true false st eb ed ef es e = absurd (never_err (record (put s kind.Indent []) { indents = s.indents ++ length blanks ∷ []; line = (dedented start 0).line }) t tt g e)
    by false false f true eb ed ef es e = absurd (never_err (dedented s (length blanks)) t tt g e)
    by false false f false eb ed ef es e = apart eb ed es (fault_is s t (fault.Indent s.at.place) g e)

-- a bracket that isn't read
record BracketHalts (u : State) (symbol : Symbol) (f : ReadFault) : Type 0 where
  opener : opens symbol ≡ true
  no_room : is_full u ≡ true
  is : f ≡ fault.TooDeep u.at.place

bracket_halts : (u t : State) (symbol : Symbol) (g : ReadFault) → nested u (kind.Sign symbol) ≡ (t, Err g) → BracketHalts u symbol g
bracket_halts u t symbol g = by (opens symbol) (is_full u) (closes symbol) refl refl
  where
    by : (o f c : Bool) → opens symbol ≡ o → is_full u ≡ f →
        cond {A = Answer (Unit {0})} o (cond {A = Answer (Unit {0})} f (u, Err (fault.TooDeep u.at.place)) (record u { brackets = u.brackets ++ u.at.place ∷ [] }, Ok tt))
        (cond {A = Answer (Unit {0})} c (record u { brackets = take (length u.brackets - 1) u.brackets }, Ok tt) (u, Ok tt)) ≡ (t, Err g) → BracketHalts u symbol g
    by true true c eo ef e = record { opener = eo; no_room = ef; is = fault_is u t (fault.TooDeep u.at.place) g e }
    by true false c eo ef e = absurd (never_err (record u { brackets = u.brackets ++ u.at.place ∷ [] }) t tt g e)
    by false f true eo ef e = absurd (never_err (record u { brackets = take (length u.brackets - 1) u.brackets }) t tt g e)
    by false f false eo ef e = absurd (never_err u t tt g e)

module _ (s t : State) (c : ℕ) (cs : List ℕ) (f : ReadFault) (formed : IsFormed s) (begins : IsBegun c cs) where
  nest_halts : (u : State) (k : TokenKind) (n : ℕ) → line_begun_at s s.line ≡ (u, Ok tt) → IsToken c cs k n → t ≡ u → (g : ReadFault) → nested u k ≡ (t, Err g) → f ≡ g → Halts s t c cs f
  nest_halts u (kind.Sign symbol) n first token left g e same =
      let h = bracket_halts u t symbol g e in
      bracket symbol n begins (subst (λ (w : State). line_begun_at s s.line ≡ (w, Ok tt)) (sym left) first) token h.opener
      (subst (λ (w : State). is_full w ≡ true) (sym left) h.no_room) (same ∙ h.is ∙ ap (λ (w : State). fault.TooDeep w.at.place) (sym left))
  nest_halts u kind.Name n first token left g e same = absurd (never_err u t tt g e)
  nest_halts u (kind.Keyword w) n first token left g e same = absurd (never_err u t tt g e)
  nest_halts u (kind.Number x) n first token left g e same = absurd (never_err u t tt g e)
  nest_halts u kind.Text n first token left g e same = absurd (never_err u t tt g e)
  nest_halts u kind.Newline n first token left g e same = absurd (never_err u t tt g e)
  nest_halts u kind.Indent n first token left g e same = absurd (never_err u t tt g e)
  nest_halts u kind.Dedent n first token left g e same = absurd (never_err u t tt g e)

  -- the token that stands there isn't read, or what stands there isn't one
  word_halts : (u : State) → line_begun_at s s.line ≡ (u, Ok tt) → ((place : Place) (token : TokenKind × ℕ) → token_at place (front_at c cs) c cs ≡ Ok token → IsToken c cs token.0 token.1) →
      ((g : ReadFault) → token_at u.at.place (front_at c cs) c cs ≡ Err g → t ≡ u → f ≡ g → Halts s t c cs f) → line_next (front_at c cs) c cs u tt ≡ (t, Err f) → Halts s t c cs f
  word_halts u first is none e = by (token_at u.at.place (front_at c cs) c cs) refl e
    where
      nest_by : (token : TokenKind × ℕ) → IsToken c cs token.0 token.1 → token_next c cs u token ≡ (t, Err f) → Halts s t c cs f
      nest_by token it h = of (nested u token.0) refl h
        where
          of : (answer : Answer (Unit {0})) → nested u token.0 ≡ answer → and_then answer (λ v nest. (put v token.0 (take token.1 (c ∷ cs)), Ok token.1)) ≡ (t, Err f) → Halts s t c cs f
          of (v, Ok a) en h = absurd (never_err (put v token.0 (take token.1 (c ∷ cs))) t token.1 f h)
          of (v, Err g) en h =
              let same : t ≡ v = left_is v t g f h in
              let to_t : nested u token.0 ≡ (t, Err g) = subst (λ (w : State). nested u token.0 ≡ (w, Err g)) (sym same) en in
              nest_halts u token.0 token.1 first it (nested_left u t token.0 g to_t) g to_t (fault_is v t g f h)

      by : (r : Result (TokenKind × ℕ) ReadFault) → token_at u.at.place (front_at c cs) c cs ≡ r → and_then (u, r) (token_next c cs) ≡ (t, Err f) → Halts s t c cs f
      by (Ok token) et h = nest_by token (is u.at.place token et) h
      by (Err g) et h = none g et (left_is u t g f h) (fault_is u t g f h)

  token_halts : Starts c cs → ((place : Place) (token : TokenKind × ℕ) → token_at place (front_at c cs) c cs ≡ Ok token → IsToken c cs token.0 token.1) →
      ((u : State) (g : ReadFault) → line_begun_at s s.line ≡ (u, Ok tt) → token_at u.at.place (front_at c cs) c cs ≡ Err g → t ≡ u → f ≡ g → Halts s t c cs f)
      → token_read s (front_at c cs) c cs ≡ (t, Err f) → Halts s t c cs f
  token_halts starts is none e = by (line_begun_at s s.line) refl e
    where
      line_by : (g : ReadFault) → line_begun_at s s.line ≡ (t, Err g) → f ≡ g → Halts s t c cs f
      line_by g e same = line begins starts not_begun (line_begun_left s t g formed e) how
        where
          not_begun : HasBegun s → ⊥
          not_begun is = let begun_so : line_begun_at s s.line ≡ (s, Ok tt) = rw is refl in never_err s t tt g (sym begun_so ∙ e)

          how : (blanks : List ℕ) → IsLed blanks s → LineHalts s blanks f
          how blanks is =
              let leads_so : line_begun_at s s.line ≡ begin_line s (length blanks) (tab_among blanks) = rw is refl in
              subst (LineHalts s blanks) (sym same) (line_halts s t blanks g (sym leads_so ∙ e))

      by : (answer : Answer (Unit {0})) → line_begun_at s s.line ≡ answer → and_then answer (line_next (front_at c cs) c cs) ≡ (t, Err f) → Halts s t c cs f
      by (u, Ok a) el h = word_halts u el is (λ g et left same. none u g el et left same) h
      by (u, Err g) el h =
          let same : t ≡ u = left_is u t g f h in
          line_by g (subst (λ (w : State). line_begun_at s s.line ≡ (w, Err g)) (sym same) el) (fault_is u t g f h)

ok_not : {A : Type 0} (a : A) (g : ReadFault) → ◌≡◌ {A = Result A ReadFault} (Ok a) (Err g) → ⊥
ok_not a g e = cc

-- a number or a text that isn't one
number_none : (place : Place) (o : Option (Frac × ℕ)) (g : ReadFault) → number_or place o ≡ Err g → (o ≡ None) × (g ≡ fault.BadNumber place)
number_none place (Some x) g e = absurd (ok_not (kind.Number x.0, x.1) g e)
number_none place None g e = (refl, same_fault {A = TokenKind × ℕ} (fault.BadNumber place) g e)

text_none : (place : Place) (o : Option ℕ) (g : ReadFault) → text_or place o ≡ Err g → (o ≡ None) × (g ≡ fault.Unclosed place)
text_none place (Some m) g e = absurd (ok_not (kind.Text, 1 + m) g e)
text_none place None g e = (refl, same_fault {A = TokenKind × ℕ} (fault.Unclosed place) g e)

number_starts : (c : ℕ) (cs : List ℕ) (o : Option (Frac × ℕ)) → begins_name c ≡ false → begins_number c cs ≡ true → number_at (c ∷ cs) ≡ o → Starts c cs
number_starts c cs (Some x) n d e = starts_token (kind.Number x.0) x.1 (number x.0 n d e refl)
number_starts c cs None n d e = starts_number n d e

text_starts : (c : ℕ) (cs : List ℕ) (o : Option ℕ) → begins_name c ≡ false → begins_number c cs ≡ false → is_quote c ≡ true → up_to_quote c false cs ≡ o → Starts c cs
text_starts c cs (Some m) n d q e = starts_token kind.Text (1 + m) (text m n d q e refl refl)
text_starts c cs None n d q e = starts_text n d q e

pub halted : (s t : State) (c : ℕ) (cs : List ℕ) (f : ReadFault) → IsFormed s → step s c cs ≡ (t, Err f) → Halts s t c cs f
halted s t c cs f formed e = by (ends_line c cs) (is_blank c) (eqb c 35) (begins_name c) (begins_number c cs) (is_quote c) (sign_at c cs) refl refl refl refl refl refl refl
  where
    by : (l b h n d q : Bool) (o : Option Symbol) → ends_line c cs ≡ l → is_blank c ≡ b → eqb c 35 ≡ h → begins_name c ≡ n → begins_number c cs ≡ d
        → is_quote c ≡ q → sign_at c cs ≡ o → Halts s t c cs f
    by true b h n d q o el eb eh en ed eq eo =
        absurd (never_err (line_ended s s.line (take (line_end_len c) (c ∷ cs))) t (line_end_len c) f (sym (line_end_front s c cs el) ∙ e))
    by false true h n d q o el eb eh en ed eq eo =
        let m = 1 + run_of is_blank cs in
        absurd (never_err (record s { line = led s.line (take m (c ∷ cs)); at = moved_over s.at (take m (c ∷ cs)) }) t m f (sym (blank_front s c cs el eb) ∙ e))
    by false false true n d q o el eb eh en ed eq eo =
        let m = 1 + up_to_line_end cs in
        absurd (never_err (moved s (take m (c ∷ cs))) t m f (sym (comment_front s c cs el eb eh) ∙ e))
    by false false false true d q o el eb eh en ed eq eo =
        let begins : IsBegun c cs = record { no_end = el; no_blank = eb; no_hash = eh } in
        let word = word_token_of (c ∷ cs) cs in
        token_halts s t c cs f formed begins (starts_token word.0 word.1 (name en refl refl))
        (λ place token g. as_token c cs word token (name en refl refl) (sym (name_token place c cs el eb eh en) ∙ g))
        (λ u g first et left same. absurd (ok_not word g (sym (name_token u.at.place c cs el eb eh en) ∙ et))) (sym (name_front s c cs el eb eh en) ∙ e)
    by false false false false true q o el eb eh en ed eq eo =
        let begins : IsBegun c cs = record { no_end = el; no_blank = eb; no_hash = eh } in
        token_halts s t c cs f formed begins (number_starts c cs (number_at (c ∷ cs)) en ed refl)
        (λ place token g. number_is c cs place token (number_at (c ∷ cs)) en ed refl (sym (number_token place c cs el eb eh en ed) ∙ g))
        (λ u g first et left same.
        let none = number_none u.at.place (number_at (c ∷ cs)) g (sym (number_token u.at.place c cs el eb eh en ed) ∙ et) in
        bad_number begins (subst (λ (w : State). line_begun_at s s.line ≡ (w, Ok tt)) (sym left) first) en ed none.0 (same ∙ none.1 ∙ ap (λ (w : State). fault.BadNumber w.at.place) (sym left)))
        (sym (number_front s c cs el eb eh en ed) ∙ e)
    by false false false false false true o el eb eh en ed eq eo =
        let begins : IsBegun c cs = record { no_end = el; no_blank = eb; no_hash = eh } in
        token_halts s t c cs f formed begins (text_starts c cs (up_to_quote c false cs) en ed eq refl)
        (λ place token g. text_is c cs place token (up_to_quote c false cs) en ed eq refl (sym (text_token place c cs el eb eh en ed eq) ∙ g))
        (λ u g first et left same.
        let none = text_none u.at.place (up_to_quote c false cs) g (sym (text_token u.at.place c cs el eb eh en ed eq) ∙ et) in
        open_text begins (subst (λ (w : State). line_begun_at s s.line ≡ (w, Ok tt)) (sym left) first) en ed eq none.0 (same ∙ none.1 ∙ ap (λ (w : State). fault.Unclosed w.at.place) (sym left)))
        (sym (text_front s c cs el eb eh en ed eq) ∙ e)
    by false false false false false false (Some symbol) el eb eh en ed eq eo =
        let begins : IsBegun c cs = record { no_end = el; no_blank = eb; no_hash = eh } in
        let front = front_is_sign c cs symbol el eb eh en ed eq eo in
        token_halts s t c cs f formed begins (starts_token (kind.Sign symbol) (sign_len symbol) (sign symbol en ed eq eo refl refl))
        (λ place token g. as_token c cs (kind.Sign symbol, sign_len symbol) token (sign symbol en ed eq eo refl refl) (sym (sign_token place c cs symbol) ∙ rw (← front) g))
        (λ u g first et left same. absurd (ok_not (kind.Sign symbol, sign_len symbol) g (sym (sign_token u.at.place c cs symbol) ∙ rw (← front) et)))
        (rw front (sym (sign_front_is s c cs (Some symbol) el eb eh en ed eq eo) ∙ e))
    by false false false false false false None el eb eh en ed eq eo =
        let stop : ◌≡◌ {A = Answer ℕ} (s, Err (fault.BadChar s.at.place)) (t, Err f) = sym (sign_front_is s c cs None el eb eh en ed eq eo) ∙ e in
        char (record { no_end = el; no_blank = eb; no_hash = eh }) en ed eq eo (left_is s t (fault.BadChar s.at.place) f stop) (fault_is s t (fault.BadChar s.at.place) f stop)
