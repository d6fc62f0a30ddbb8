-- Where a step stops: the state is as it was, or the line has begun.
use Rattle.std.proofs.Common.{◌≡◌, ◌⊎◌, inl, inr, ℕ, ◌+◌, ◌-◌, Bool, true, false, cond, eqb, List, [], ◌∷◌, ◌++◌, length, take, Option, Some, None, refl, sym, ap, ◌∙◌, subst}
use Rattle.std.specs.Prelude.{Result, Ok, Err}
use Rattle.dcx_tokens.specs.declared.fault.ReadFault.{ReadFault}
use Rattle.dcx_tokens.specs.declared.fault.ReadFault.TheVariants as fault
use Rattle.dcx_tokens.specs.declared.token.Symbol.{Symbol}
use Rattle.dcx_tokens.specs.declared.token.TokenKind.{TokenKind}
use Rattle.dcx_tokens.specs.declared.token.TokenKind.TheVariants as kind
use Rattle.dcx_tokens.specs.Front.{run_of, is_blank, is_quote, begins_name, begins_number, ends_line, line_end_len, up_to_line_end, sign_at, front_at, tab_among}
use Rattle.dcx_tokens.specs.Layout.{is_deeper, is_standing, opens, closes}
use Rattle.dcx_tokens.specs.Lexeme.{token_at}
use Rattle.dcx_tokens.specs.Position.{moved_over}
use Rattle.dcx_tokens.specs.State.{State, Answer, and_then, moved, put, is_full, dedented, begin_line, line_begun_at, nested, token_read, line_ended, step, led, start}
use Rattle.dcx_tokens.proofs.Kept.{token_next, line_next}
use Rattle.dcx_token_laws.proofs.Forms.{IsFormed}
use Rattle.dcx_token_laws.proofs.Steps.{line_end_front, blank_front, comment_front, name_front, number_front, text_front, sign_front_is, front_is_sign}

pub data Stops (s t : State) : Type 0 where
  at_once : t ≡ s → Stops s t
  begun : line_begun_at s s.line ≡ (t, Ok tt) → Stops s t

pub never_err : {A : Type 0} (s t : State) (a : A) (f : ReadFault) → ◌≡◌ {A = Answer A} (s, Ok a) (t, Err f) → ⊥
never_err {A = A} s t a f e = let no : ◌≡◌ {A = Result A ReadFault} (Ok a) (Err f) = ap (λ (p : Answer A). p.1) e in cc

pub left_is : {A : Type 0} (s t : State) (g f : ReadFault) → ◌≡◌ {A = Answer A} (s, Err g) (t, Err f) → t ≡ s
left_is {A = A} s t g f e = sym (ap (λ (p : Answer A). p.0) e)

abbrev stop_at : {A : Type 0} → State → ReadFault → Answer A
stop_at s f = (s, Err f)

-- of two acts the first stops, or the second behind it
pub record Second {A B : Type 0} (answer : Answer A) (next : State → A → Answer B) (t : State) (f : ReadFault) : Type 0 where
  pub state : State
  pub value : A
  pub first : answer ≡ (state, Ok value)
  pub then : next state value ≡ (t, Err f)

pub one_stops : {A B : Type 0} (answer : Answer A) (next : State → A → Answer B) (t : State) (f : ReadFault) → and_then answer next ≡ (t, Err f)
    → ((g : ReadFault) × (answer ≡ (t, Err g))) ⊎ Second answer next t f
one_stops (u, Ok a) next t f e = inr (record { state = u; value = a; first = refl; then = e })
one_stops {A = A} {B = B} (u, Err g) next t f e = inl (g, ap (λ (w : State). stop_at {A = A} w g) (ap (λ (p : Answer B). p.0) e))

begin_line_left : (s : State) (spaces : ℕ) (has_tab : Bool) (t : State) (f : ReadFault) → begin_line s spaces has_tab ≡ (t, Err f) → t ≡ s
begin_line_left s spaces has_tab t g = by has_tab (is_deeper s.indents spaces) (is_full s) (is_standing s.indents spaces)
  where
    by : (b d f st : Bool) → cond {A = Answer (Unit {0})} b (s, Err (fault.Indent s.at.place)) (cond {A = Answer (Unit {0})} d (cond {A = Answer (Unit {0})} f
        (s, Err (fault.TooDeep s.at.place)) (record (put s kind.Indent []) { indents = s.indents ++ spaces ∷ []; line = (dedented start 0).line }, Ok tt))
        (cond {A = Answer (Unit {0})} st (dedented s spaces, Ok tt) (s, Err (fault.Indent s.at.place)))) ≡ (t, Err g) → t ≡ s
    by true d f st e = left_is s t (fault.Indent s.at.place) g e
    by false true true st e = left_is s t (fault.TooDeep s.at.place) g e
    by false true false st e = absurd (never_err (record (put s kind.Indent []) { indents = s.indents ++ spaces ∷ []; line = (dedented start 0).line }) t tt g e)
    by false false f true e = absurd (never_err (dedented s spaces) t tt g e)
    by false false f false e = left_is s t (fault.Indent s.at.place) g e

-- a bracket too many leaves the state as it was
sign_left : (u t : State) (symbol : Symbol) (g : ReadFault) → nested u (kind.Sign symbol) ≡ (t, Err g) → t ≡ u
sign_left u t symbol g = by (opens symbol) (is_full u) (closes symbol)
  where
    by : (o f c : Bool) → cond {A = Answer (Unit {0})} o (cond {A = Answer (Unit {0})} f (u, Err (fault.TooDeep u.at.place))
        (record u { brackets = u.brackets ++ u.at.place ∷ [] }, Ok tt)) (cond {A = Answer (Unit {0})} c
        (record u { brackets = take (length u.brackets - 1) u.brackets }, Ok tt) (u, Ok tt)) ≡ (t, Err g) → t ≡ u
    by true true c e = left_is u t (fault.TooDeep u.at.place) g e
    by true false c e = absurd (never_err (record u { brackets = u.brackets ++ u.at.place ∷ [] }) t tt g e)
    by false f true e = absurd (never_err (record u { brackets = take (length u.brackets - 1) u.brackets }) t tt g e)
    by false f false e = absurd (never_err u t tt g e)

pub nested_left : (u t : State) (k : TokenKind) (g : ReadFault) → nested u k ≡ (t, Err g) → t ≡ u
nested_left u t (kind.Sign symbol) g e = sign_left u t symbol g e
nested_left u t kind.Name g e = absurd (never_err u t tt g e)
nested_left u t (kind.Keyword w) g e = absurd (never_err u t tt g e)
nested_left u t (kind.Number x) g e = absurd (never_err u t tt g e)
nested_left u t kind.Text g e = absurd (never_err u t tt g e)
nested_left u t kind.Newline g e = absurd (never_err u t tt g e)
nested_left u t kind.Indent g e = absurd (never_err u t tt g e)
nested_left u t kind.Dedent g e = absurd (never_err u t tt g e)

pub line_begun_left : (s t : State) (g : ReadFault) → IsFormed s → line_begun_at s s.line ≡ (t, Err g) → t ≡ s
line_begun_left s t g (inl is) e = let same : line_begun_at s s.line ≡ (s, Ok tt) = rw is refl in absurd (never_err s t tt g (sym same ∙ e))
line_begun_left s t g (inr (blanks, is)) e =
    let same : line_begun_at s s.line ≡ begin_line s (length blanks) (tab_among blanks) = rw is refl in
    begin_line_left s (length blanks) (tab_among blanks) t g (sym same ∙ e)

module _ (s t : State) (c : ℕ) (cs : List ℕ) (f : ReadFault) (formed : IsFormed s) where
  begun_at : (u : State) → line_begun_at s s.line ≡ (u, Ok tt) → t ≡ u → Stops s t
  begun_at u first same = begun (subst (λ (w : State). line_begun_at s s.line ≡ (w, Ok tt)) (sym same) first)

  bracket_stops : (u : State) (token : TokenKind × ℕ) → line_begun_at s s.line ≡ (u, Ok tt) → token_next c cs u token ≡ (t, Err f) → Stops s t
  bracket_stops u token first e = by (one_stops (nested u token.0) (λ v nest. (put v token.0 (take token.1 (c ∷ cs)), Ok token.1)) t f e)
    where
      by : ((g : ReadFault) × (nested u token.0 ≡ (t, Err g))) ⊎ Second (nested u token.0) (λ v nest. (put v token.0 (take token.1 (c ∷ cs)), Ok token.1)) t f → Stops s t
      by (inl (g, is)) = begun_at u first (nested_left u t token.0 g is)
      by (inr r) = absurd (never_err (put r.state token.0 (take token.1 (c ∷ cs))) t token.1 f r.then)

  word_stops : (u : State) → line_begun_at s s.line ≡ (u, Ok tt) → line_next (front_at c cs) c cs u tt ≡ (t, Err f) → Stops s t
  word_stops u first e = by (one_stops {A = TokenKind × ℕ} (u, token_at u.at.place (front_at c cs) c cs) (token_next c cs) t f e)
    where
      by : ((g : ReadFault) × (◌≡◌ {A = Answer (TokenKind × ℕ)} (u, token_at u.at.place (front_at c cs) c cs) (t, Err g)))
          ⊎ Second {A = TokenKind × ℕ} (u, token_at u.at.place (front_at c cs) c cs) (token_next c cs) t f → Stops s t
      by (inl (g, is)) = begun_at u first (sym (ap (λ (p : Answer (TokenKind × ℕ)). p.0) is))
      by (inr r) =
          let same : r.state ≡ u = sym (ap (λ (p : Answer (TokenKind × ℕ)). p.0) r.first) in
          bracket_stops u r.value first (subst (λ (w : State). token_next c cs w r.value ≡ (t, Err f)) same r.then)

  token_stops : token_read s (front_at c cs) c cs ≡ (t, Err f) → Stops s t
  token_stops e = by (one_stops (line_begun_at s s.line) (line_next (front_at c cs) c cs) t f e)
    where
      by : ((g : ReadFault) × (line_begun_at s s.line ≡ (t, Err g))) ⊎ Second (line_begun_at s s.line) (line_next (front_at c cs) c cs) t f → Stops s t
      by (inl (g, is)) = at_once (line_begun_left s t g formed is)
      by (inr r) = word_stops r.state r.first r.then

pub stopped : (s t : State) (c : ℕ) (cs : List ℕ) (f : ReadFault) → IsFormed s → step s c cs ≡ (t, Err f) → Stops s t
stopped s t c cs f formed e = by (ends_line c cs) (is_blank c) (eqb c 35) (begins_name c) (begins_number c cs) (is_quote c) (sign_at c cs) refl refl refl refl refl refl refl
  where
    by : (l b h n d q : Bool) (o : Option Symbol) → ends_line c cs ≡ l → is_blank c ≡ b → eqb c 35 ≡ h → begins_name c ≡ n → begins_number c cs ≡ d → is_quote c ≡ q → sign_at c cs ≡ o → Stops s t
    by true b h n d q o el eb eh en ed eq eo =
        absurd (never_err (line_ended s s.line (take (line_end_len c) (c ∷ cs))) t (line_end_len c) f (sym (line_end_front s c cs el) ∙ e))
    by false true h n d q o el eb eh en ed eq eo =
        let m = 1 + run_of is_blank cs in
        absurd (never_err (record s { line = led s.line (take m (c ∷ cs)); at = moved_over s.at (take m (c ∷ cs)) }) t m f (sym (blank_front s c cs el eb) ∙ e))
    by false false true n d q o el eb eh en ed eq eo =
        let m = 1 + up_to_line_end cs in
        absurd (never_err (moved s (take m (c ∷ cs))) t m f (sym (comment_front s c cs el eb eh) ∙ e))
    by false false false true d q o el eb eh en ed eq eo = token_stops s t c cs f formed (sym (name_front s c cs el eb eh en) ∙ e)
    by false false false false true q o el eb eh en ed eq eo = token_stops s t c cs f formed (sym (number_front s c cs el eb eh en ed) ∙ e)
    by false false false false false true o el eb eh en ed eq eo = token_stops s t c cs f formed (sym (text_front s c cs el eb eh en ed eq) ∙ e)
    by false false false false false false (Some symbol) el eb eh en ed eq eo =
        token_stops s t c cs f formed (rw (front_is_sign c cs symbol el eb eh en ed eq eo) (sym (sign_front_is s c cs (Some symbol) el eb eh en ed eq eo) ∙ e))
    by false false false false false false None el eb eh en ed eq eo = at_once (left_is s t (fault.BadChar s.at.place) f (sym (sign_front_is s c cs None el eb eh en ed eq eo) ∙ e))
