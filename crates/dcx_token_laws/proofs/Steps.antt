-- What a step reads, told from what it leaves.
use Rattle.std.proofs.Common.{◌≡◌, ℕ, ◌+◌, Bool, true, false, eqb, List, ◌∷◌, take, Option, Some, None, refl, sym, ap, ◌∙◌, subst}
use Rattle.std.specs.Prelude.{Result, Ok, Err}
use Rattle.unicode_ident.specs.Ident.{is_xid_continue}
use Rattle.dcx_frac.specs.declared.fraction.Frac.{Frac}
use Rattle.dcx_shape.specs.declared.place.Place.{Place}
use Rattle.dcx_tokens.specs.declared.fault.ReadFault.{ReadFault}
use Rattle.dcx_tokens.specs.declared.fault.ReadFault.TheVariants as fault
use Rattle.dcx_tokens.specs.declared.token.Symbol.{Symbol}
use Rattle.dcx_tokens.specs.declared.token.TokenKind.{TokenKind}
use Rattle.dcx_tokens.specs.declared.token.TokenKind.TheVariants as kind
use Rattle.dcx_tokens.specs.Front.{run_of, is_blank, is_quote, begins_name, begins_number, ends_line, line_end_len, up_to_line_end, sign_at, sign_len, sign_front, front_at}
use Rattle.dcx_tokens.specs.Lexeme.{word_kind, word_token_of, number_token_of, number_or, text_token_of, text_or, token_at}
use Rattle.dcx_tokens.specs.Number.{number_at}
use Rattle.dcx_tokens.specs.Quoted.{up_to_quote}
use Rattle.dcx_tokens.specs.Position.{moved_over}
use Rattle.dcx_tokens.specs.State.{State, Answer, and_then, moved, put, line_begun_at, nested, token_read, line_ended, blanks_read, comment_read, line_end_read, front_read, step, led}
use Rattle.dcx_tokens.proofs.Kept.{token_next, line_next}
use Rattle.dcx_tokens.proofs.OneReading.{count_of}

-- ---- what stands in front
pub line_end_front : (s : State) (c : ℕ) (cs : List ℕ) → ends_line c cs ≡ true → step s c cs ≡ line_end_read s c cs
unfolding step front_at
line_end_front s c cs l = rw l refl

pub blank_front : (s : State) (c : ℕ) (cs : List ℕ) → ends_line c cs ≡ false → is_blank c ≡ true → step s c cs ≡ blanks_read s c cs
unfolding step front_at
blank_front s c cs l b = rw (l, b) refl

pub comment_front : (s : State) (c : ℕ) (cs : List ℕ) → ends_line c cs ≡ false → is_blank c ≡ false → eqb c 35 ≡ true → step s c cs ≡ comment_read s c cs
unfolding step front_at
comment_front s c cs l b h = rw (l, b, h) refl

pub name_front : (s : State) (c : ℕ) (cs : List ℕ) → ends_line c cs ≡ false → is_blank c ≡ false → eqb c 35 ≡ false → begins_name c ≡ true → step s c cs ≡ token_read s (front_at c cs) c cs
unfolding step front_at
name_front s c cs l b h n = rw (l, b, h, n) refl

pub number_front : (s : State) (c : ℕ) (cs : List ℕ) → ends_line c cs ≡ false → is_blank c ≡ false → eqb c 35 ≡ false → begins_name c ≡ false → begins_number c cs ≡ true
    → step s c cs ≡ token_read s (front_at c cs) c cs
unfolding step front_at
number_front s c cs l b h n d = rw (l, b, h, n, d) refl

pub text_front : (s : State) (c : ℕ) (cs : List ℕ) → ends_line c cs ≡ false → is_blank c ≡ false → eqb c 35 ≡ false → begins_name c ≡ false → begins_number c cs ≡ false
    → is_quote c ≡ true → step s c cs ≡ token_read s (front_at c cs) c cs
unfolding step front_at
text_front s c cs l b h n d q = rw (l, b, h, n, d, q) refl

pub sign_front_is : (s : State) (c : ℕ) (cs : List ℕ) (o : Option Symbol) → ends_line c cs ≡ false → is_blank c ≡ false → eqb c 35 ≡ false → begins_name c ≡ false
    → begins_number c cs ≡ false → is_quote c ≡ false → sign_at c cs ≡ o → step s c cs ≡ front_read s (sign_front o) c cs
unfolding step front_at
sign_front_is s c cs o l b h n d q e = rw (l, b, h, n, d, q, e) refl

pub front_is_sign : (c : ℕ) (cs : List ℕ) (symbol : Symbol) → ends_line c cs ≡ false → is_blank c ≡ false → eqb c 35 ≡ false → begins_name c ≡ false
    → begins_number c cs ≡ false → is_quote c ≡ false → sign_at c cs ≡ Some symbol → front_at c cs ≡ sign_front (Some symbol)
unfolding front_at
front_is_sign c cs symbol l b h n d q e = rw (l, b, h, n, d, q, e) refl

pub name_token : (place : Place) (c : ℕ) (cs : List ℕ) → ends_line c cs ≡ false → is_blank c ≡ false → eqb c 35 ≡ false → begins_name c ≡ true
    → token_at place (front_at c cs) c cs ≡ Ok (word_token_of (c ∷ cs) cs)
unfolding front_at token_at
name_token place c cs l b h n = rw (l, b, h, n) refl

pub number_token : (place : Place) (c : ℕ) (cs : List ℕ) → ends_line c cs ≡ false → is_blank c ≡ false → eqb c 35 ≡ false → begins_name c ≡ false → begins_number c cs ≡ true
    → token_at place (front_at c cs) c cs ≡ number_token_of place (c ∷ cs)
unfolding front_at token_at
number_token place c cs l b h n d = rw (l, b, h, n, d) refl

pub text_token : (place : Place) (c : ℕ) (cs : List ℕ) → ends_line c cs ≡ false → is_blank c ≡ false → eqb c 35 ≡ false → begins_name c ≡ false → begins_number c cs ≡ false
    → is_quote c ≡ true → token_at place (front_at c cs) c cs ≡ text_token_of place c cs
unfolding front_at token_at
text_token place c cs l b h n d q = rw (l, b, h, n, d, q) refl

pub sign_token : (place : Place) (c : ℕ) (cs : List ℕ) (symbol : Symbol) → token_at place (sign_front (Some symbol)) c cs ≡ Ok (kind.Sign symbol, sign_len symbol)
unfolding token_at
sign_token place c cs symbol = refl

-- ---- answers
-- the first of two acts went well, and then the second
pub record Both {A B : Type 0} (answer : Answer A) (next : State → A → Answer B) (t : State) (b : B) : Type 0 where
  pub state : State
  pub value : A
  pub first : answer ≡ (state, Ok value)
  pub then : next state value ≡ (t, Ok b)

never_ok : {A : Type 0} (f : ReadFault) (a : A) → ◌≡◌ {A = Result A ReadFault} (Err f) (Ok a) → ⊥
never_ok f a e = cc

pub both : {A B : Type 0} (answer : Answer A) (next : State → A → Answer B) (t : State) (b : B) → and_then answer next ≡ (t, Ok b) → Both answer next t b
both (u, Ok a) next t b e = record { state = u; value = a; first = refl; then = e }
both {B = B} (u, Err f) next t b e = absurd (never_ok f b (ap (λ (p : Answer B). p.1) e))

state_is : (s t : State) (n m : ℕ) → ◌≡◌ {A = Answer ℕ} (s, Ok m) (t, Ok n) → t ≡ s
state_is s t n m e = sym (ap (λ (p : Answer ℕ). p.0) e)

count_is : (s t : State) (n m : ℕ) → ◌≡◌ {A = Answer ℕ} (s, Ok m) (t, Ok n) → n ≡ m
count_is s t n m e = sym (ap (λ (p : Answer ℕ). count_of p.1) e)

-- ---- a token
-- n characters from c on are a token of kind k
pub data IsToken (c : ℕ) (cs : List ℕ) (k : TokenKind) (n : ℕ) : Type 0 where
  name : begins_name c ≡ true → n ≡ 1 + run_of is_xid_continue cs → k ≡ word_kind (take n (c ∷ cs)) → IsToken c cs k n
  number : (x : Frac) → begins_name c ≡ false → begins_number c cs ≡ true → number_at (c ∷ cs) ≡ Some (x, n) → k ≡ kind.Number x → IsToken c cs k n
  text : (m : ℕ) → begins_name c ≡ false → begins_number c cs ≡ false → is_quote c ≡ true → up_to_quote c false cs ≡ Some m → n ≡ 1 + m → k ≡ kind.Text → IsToken c cs k n
  sign : (symbol : Symbol) → begins_name c ≡ false → begins_number c cs ≡ false → is_quote c ≡ false → sign_at c cs ≡ Some symbol → n ≡ sign_len symbol → k ≡ kind.Sign symbol → IsToken c cs k n

same_token : (a b : TokenKind × ℕ) → ◌≡◌ {A = Result (TokenKind × ℕ) ReadFault} (Ok a) (Ok b) → b ≡ a
same_token a b e = cc

-- ---- a step
pub data Step (s t : State) (c : ℕ) (cs : List ℕ) (n : ℕ) : Type 0 where
  line_end : ends_line c cs ≡ true → n ≡ line_end_len c → t ≡ line_ended s s.line (take n (c ∷ cs)) → Step s t c cs n
  blank : ends_line c cs ≡ false → is_blank c ≡ true → n ≡ 1 + run_of is_blank cs → t ≡ record s { line = led s.line (take n (c ∷ cs)); at = moved_over s.at (take n (c ∷ cs)) } → Step s t c cs n
  comment : ends_line c cs ≡ false → eqb c 35 ≡ true → n ≡ 1 + up_to_line_end cs → t ≡ moved s (take n (c ∷ cs)) → Step s t c cs n
  word : (u v : State) (k : TokenKind) → ends_line c cs ≡ false → is_blank c ≡ false → line_begun_at s s.line ≡ (u, Ok tt) → IsToken c cs k n → nested u k ≡ (v, Ok tt)
      → t ≡ put v k (take n (c ∷ cs)) → Step s t c cs n

module _ (s t : State) (c : ℕ) (cs : List ℕ) (n : ℕ) where
  step_line_end : ends_line c cs ≡ true → line_end_read s c cs ≡ (t, Ok n) → Step s t c cs n
  step_line_end l e =
      let count = count_is (line_ended s s.line (take (line_end_len c) (c ∷ cs))) t n (line_end_len c) e in
      let state = state_is (line_ended s s.line (take (line_end_len c) (c ∷ cs))) t n (line_end_len c) e in
      line_end l count (state ∙ ap (λ m. line_ended s s.line (take m (c ∷ cs))) (sym count))

  step_blank : ends_line c cs ≡ false → is_blank c ≡ true → blanks_read s c cs ≡ (t, Ok n) → Step s t c cs n
  step_blank l b e =
      let m = 1 + run_of is_blank cs in
      let left : State = record s { line = led s.line (take m (c ∷ cs)); at = moved_over s.at (take m (c ∷ cs)) } in
      let count = count_is left t n m e in
      blank l b count (state_is left t n m e ∙ ap (λ i. record s { line = led s.line (take i (c ∷ cs)); at = moved_over s.at (take i (c ∷ cs)) }) (sym count))

  step_comment : ends_line c cs ≡ false → eqb c 35 ≡ true → comment_read s c cs ≡ (t, Ok n) → Step s t c cs n
  step_comment l h e =
      let m = 1 + up_to_line_end cs in
      let count = count_is (moved s (take m (c ∷ cs))) t n m e in
      comment l h count (state_is (moved s (take m (c ∷ cs))) t n m e ∙ ap (λ i. moved s (take i (c ∷ cs))) (sym count))

  step_token : ends_line c cs ≡ false → is_blank c ≡ false → ((place : Place) (token : TokenKind × ℕ) → token_at place (front_at c cs) c cs ≡ Ok token → IsToken c cs token.0 token.1) →
      token_read s (front_at c cs) c cs ≡ (t, Ok n) → Step s t c cs n
  step_token l b is e =
      let one = both (line_begun_at s s.line) (line_next (front_at c cs) c cs) t n e in
      let two = both (one.state, token_at one.state.at.place (front_at c cs) c cs) (token_next c cs) t n one.then in
      let three = both (nested two.state two.value.0) (λ v nest. (put v two.value.0 (take two.value.1 (c ∷ cs)), Ok two.value.1)) t n two.then in
      let same : two.state ≡ one.state = sym (ap (λ (p : Answer (TokenKind × ℕ)). p.0) two.first) in
      let got : token_at one.state.at.place (front_at c cs) c cs ≡ Ok two.value = ap (λ (p : Answer (TokenKind × ℕ)). p.1) two.first in
      let left = put three.state two.value.0 (take two.value.1 (c ∷ cs)) in
      let count : n ≡ two.value.1 = count_is left t n two.value.1 three.then in
      word one.state three.state two.value.0 l b one.first
      (subst (λ m. IsToken c cs two.value.0 m) (sym count) (is one.state.at.place two.value got))
      (subst (λ (w : State). nested w two.value.0 ≡ (three.state, Ok tt)) same three.first)
      (state_is left t n two.value.1 three.then ∙ ap (λ m. put three.state two.value.0 (take m (c ∷ cs))) (sym count))

module _ (c : ℕ) (cs : List ℕ) where
  pub as_token : (a token : TokenKind × ℕ) → IsToken c cs a.0 a.1 → ◌≡◌ {A = Result (TokenKind × ℕ) ReadFault} (Ok a) (Ok token) → IsToken c cs token.0 token.1
  as_token a token is e = subst (λ (p : TokenKind × ℕ). IsToken c cs p.0 p.1) (sym (same_token a token e)) is

  pub number_is : (place : Place) (token : TokenKind × ℕ) (o : Option (Frac × ℕ)) → begins_name c ≡ false → begins_number c cs ≡ true → number_at (c ∷ cs) ≡ o
      → number_or place o ≡ Ok token → IsToken c cs token.0 token.1
  number_is place token (Some x) n d is e = as_token (kind.Number x.0, x.1) token (number x.0 n d is refl) e
  number_is place token None n d is e = absurd (never_ok (fault.BadNumber place) token e)

  pub text_is : (place : Place) (token : TokenKind × ℕ) (o : Option ℕ) → begins_name c ≡ false → begins_number c cs ≡ false → is_quote c ≡ true → up_to_quote c false cs ≡ o
      → text_or place o ≡ Ok token → IsToken c cs token.0 token.1
  text_is place token (Some m) n d q is e = as_token (kind.Text, 1 + m) token (text m n d q is refl refl) e
  text_is place token None n d q is e = absurd (never_ok (fault.Unclosed place) token e)

pub stepped : (s t : State) (c : ℕ) (cs : List ℕ) (n : ℕ) → step s c cs ≡ (t, Ok n) → Step s t c cs n
stepped s t c cs m e = by (ends_line c cs) (is_blank c) (eqb c 35) (begins_name c) (begins_number c cs) (is_quote c) (sign_at c cs) refl refl refl refl refl refl refl
  where
    by : (l b h n d q : Bool) (o : Option Symbol) → ends_line c cs ≡ l → is_blank c ≡ b → eqb c 35 ≡ h → begins_name c ≡ n → begins_number c cs ≡ d
        → is_quote c ≡ q → sign_at c cs ≡ o → Step s t c cs m
    by true b h n d q o el eb eh en ed eq eo = step_line_end s t c cs m el (sym (line_end_front s c cs el) ∙ e)
    by false true h n d q o el eb eh en ed eq eo = step_blank s t c cs m el eb (sym (blank_front s c cs el eb) ∙ e)
    by false false true n d q o el eb eh en ed eq eo = step_comment s t c cs m el eh (sym (comment_front s c cs el eb eh) ∙ e)
    by false false false true d q o el eb eh en ed eq eo =
        step_token s t c cs m el eb (λ place token f. as_token c cs (word_token_of (c ∷ cs) cs) token (name en refl refl) (sym (name_token place c cs el eb eh en) ∙ f))
        (sym (name_front s c cs el eb eh en) ∙ e)
    by false false false false true q o el eb eh en ed eq eo =
        step_token s t c cs m el eb (λ place token f. number_is c cs place token (number_at (c ∷ cs)) en ed refl (sym (number_token place c cs el eb eh en ed) ∙ f))
        (sym (number_front s c cs el eb eh en ed) ∙ e)
    by false false false false false true o el eb eh en ed eq eo =
        step_token s t c cs m el eb (λ place token f. text_is c cs place token (up_to_quote c false cs) en ed eq refl (sym (text_token place c cs el eb eh en ed eq) ∙ f))
        (sym (text_front s c cs el eb eh en ed eq) ∙ e)
    by false false false false false false (Some symbol) el eb eh en ed eq eo =
        let front = front_is_sign c cs symbol el eb eh en ed eq eo in
        step_token s t c cs m el eb
        (λ place token f. as_token c cs (kind.Sign symbol, sign_len symbol) token (sign symbol en ed eq eo refl refl) (sym (sign_token place c cs symbol) ∙ rw (← front) f))
        (rw front (sym (sign_front_is s c cs (Some symbol) el eb eh en ed eq eo) ∙ e))
    by false false false false false false None el eb eh en ed eq eo =
        absurd (never_ok (fault.BadChar s.at.place) m (ap (λ (p : Answer ℕ). p.1) (sym (sign_front_is s c cs None el eb eh en ed eq eo) ∙ e)))
