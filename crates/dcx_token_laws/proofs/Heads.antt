-- What a cut of a text begins with, where the text is not at its end.
use Rattle.std.proofs.Common.{◌≡◌, ◌≢◌, ◌⊎◌, inl, inr, ℕ, ◌+◌, Bool, true, false, cond, eqb, ◌||◌, List, [], ◌∷◌, ◌++◌, take, drop, refl, sym, ap, ◌∙◌, subst, append_assoc, arith}
use Rattle.std.specs.Prelude.{IsTrue}
use Rattle.std.specs.List.{prefix_len}
use Rattle.std.proofs.Math.Numerals.{one-add}
use Rattle.std.proofs.lemmas.List.{append-nil}
use Rattle.std.proofs.lemmas.List.Elements.{All-head, All-tail}
use Rattle.std.proofs.lemmas.Bool.{eqb-true}
use Rattle.dcx_tokens.specs.declared.token.Token.{Token}
use Rattle.dcx_tokens.specs.declared.token.TokenKind.{TokenKind}
use Rattle.dcx_tokens.specs.declared.token.TokenKind.TheVariants as kind
use Rattle.dcx_tokens.specs.Front.{is_blank, ends_line}
use Rattle.dcx_token_laws.specs.Cut as cuts
use Rattle.dcx_token_laws.specs.Cut.{AreBlanks, IsLineEnd, EndsLine, HasNoLineEnd, IsComment, IsBetween, Spans, AreMarks, IsLast, Cut}
use Rattle.dcx_token_laws.specs.Words.{IsWord, IsLongest}
use Rattle.dcx_token_laws.proofs.Basics.{head_is, never_both, nil_not, tail_is}
use Rattle.dcx_token_laws.proofs.OneKind.{IsBetweenTokens, space, tab, hash, feed, return, no_token, one_kind}

-- ---- the first stretch that has characters
pub data Head (front : List ℕ) (c : ℕ) (ds : List ℕ) (us : List Token) : Type 0 where
  passes : (ys behind : List ℕ) → ds ≡ ys ++ behind → IsBetween (c ∷ ys) behind → Cut (front ++ c ∷ ys) behind us [] → Head front c ds us
  has_word : (marks : List Token) (t : Token) (ts : List Token) (ys behind : List ℕ) → us ≡ marks ++ t ∷ ts → ds ≡ ys ++ behind → AreMarks front marks →
      IsWord t.kind (c ∷ ys) → IsLongest (c ∷ ys) behind → Spans t front (c ∷ ys) → Cut (front ++ c ∷ ys) behind ts [] → Head front c ds us
  has_end : (t : Token) (ts : List Token) (ys behind : List ℕ) → us ≡ t ∷ ts → ds ≡ ys ++ behind → t.kind ≡ kind.Newline → IsLineEnd (c ∷ ys) → Spans t front (c ∷ ys)
      → Cut (front ++ c ∷ ys) behind ts [] → Head front c ds us

pub none_word : (k : TokenKind) → IsWord k [] → ⊥
none_word kind.Name h = h.0
none_word (kind.Keyword w) h = h.0
none_word (kind.Number x) h = h
none_word kind.Text h = h
none_word (kind.Sign s) h = h
none_word kind.Newline h = h
none_word kind.Indent h = h
none_word kind.Dedent h = h

pub none_end : IsLineEnd [] → ⊥
none_end (inl e) = nil_not 10 [] e
none_end (inr e) = nil_not 13 (10 ∷ []) e

begun_with : (front : List ℕ) (x c : ℕ) (xs ds : List ℕ) (us : List Token) → ◌≡◌ {A = List ℕ} (x ∷ xs) (c ∷ ds) → Head front x xs us → Head front c ds us
begun_with front x c xs ds us e h = subst (λ zs. Head front c zs us) (tail_is x c xs ds e) (subst (λ z. Head front z xs us) (head_is x c xs ds e) h)

whole : {front cs rest : List ℕ} {us : List Token} → rest ≡ [] → Cut front cs us rest → Cut front cs us []
whole {front = front} {cs = cs} {us = us} f cut = subst (λ zs. Cut front cs us zs) f cut

pub head : {front cs rest : List ℕ} {us : List Token} → Cut front cs us rest → (c : ℕ) (ds : List ℕ) → cs ≡ c ∷ ds → rest ≡ [] → Head front c ds us
head cuts.ended c ds e f = absurd (nil_not c ds (sym f ∙ e))
head (cuts.stopped d rest are) c ds e f = absurd (nil_not d rest (sym f))
head {us = us} (cuts.between {front = front} {behind = behind} [] how more) c ds e f = subst (λ xs. Head xs c ds us) (append-nil front) (head more c ds e f)
head {us = us} (cuts.between {front = front} {behind = behind} (x ∷ xs) how more) c ds e f =
    begun_with front x c (xs ++ behind) ds us e (passes xs behind refl how (whole f more))
head (cuts.word {t = t} marks [] are word longest spans more) c ds e f = absurd (none_word t.kind word)
head (cuts.word {front = front} {behind = behind} {t = t} {ts = ts} marks (x ∷ xs) are word longest spans more) c ds e f =
    begun_with front x c (xs ++ behind) ds (marks ++ t ∷ ts) e (has_word marks t ts xs behind refl refl are word longest spans (whole f more))
head (cuts.line_end [] is end spans more) c ds e f = absurd (none_end end)
head (cuts.line_end {front = front} {behind = behind} {t = t} {ts = ts} (x ∷ xs) is end spans more) c ds e f =
    begun_with front x c (xs ++ behind) ds (t ∷ ts) e (has_end t ts xs behind refl refl is end spans (whole f more))
head (cuts.supplied is spans more) c ds e f = absurd (nil_not c ds e)
head (cuts.last is more) c ds e f = absurd (nil_not c ds e)

-- ---- blanks, a comment and a line end
between_blank : (c : ℕ) → is_blank c ≡ true → IsBetweenTokens c
between_blank c e = by (eqb c 32) (eqb c 9) refl refl e
  where
    by : (a b : Bool) → eqb c 32 ≡ a → eqb c 9 ≡ b → (a || b) ≡ true → IsBetweenTokens c
    by true b ea eb h = space (eqb-true c 32 ea)
    by false true ea eb h = tab (eqb-true c 9 eb)
    by false false ea eb h = absurd (cc)

end_first : (c : ℕ) (ys : List ℕ) → IsLineEnd (c ∷ ys) → (c ≡ 10) ⊎ (c ≡ 13)
end_first c ys (inl e) = inl (head_is c 10 ys [] e)
end_first c ys (inr e) = inr (head_is c 13 ys (10 ∷ []) e)

between_end : (c : ℕ) → (c ≡ 10) ⊎ (c ≡ 13) → IsBetweenTokens c
between_end c (inl e) = feed e
between_end c (inr e) = return e

blank_not : (c n : ℕ) → is_blank n ≡ false → is_blank c ≡ true → c ≡ n → ⊥
blank_not c n other b is = never_both (is_blank c) b (ap is_blank is ∙ other)

-- one blank
pub blank_cut : (front : List ℕ) (c : ℕ) (ds : List ℕ) (us : List Token) → is_blank c ≡ true → Cut front (c ∷ ds) us [] → Cut (front ++ c ∷ []) ds us []
blank_cut front c ds us b cut = by (head cut c ds refl refl)
  where
    by : Head front c ds us → Cut (front ++ c ∷ []) ds us []
    by (passes ys behind e (inl blanks) more) =
        subst (λ xs. Cut (front ++ c ∷ []) xs us []) (sym e)
        (cuts.between ys (inl (All-tail (λ d. IsTrue (is_blank d)) c ys blanks)) (subst (λ xs. Cut xs behind us []) (sym (append_assoc front (c ∷ []) ys)) more))
    by (passes ys behind e (inr (inl comment)) more) = absurd (blank_not c 35 refl b comment.0)
    by (passes ys behind e (inr (inr end)) more) = absurd (no_end (end_first c ys end))
      where
        no_end : (c ≡ 10) ⊎ (c ≡ 13) → ⊥
        no_end (inl is) = blank_not c 10 refl b is
        no_end (inr is) = blank_not c 13 refl b is
    by (has_word marks t ts ys behind is e are word longest spans more) = absurd (no_token c (between_blank c b) t.kind ys word)
    by (has_end t ts ys behind is e newline end spans more) = absurd (no_end (end_first c ys end))
      where
        no_end : (c ≡ 10) ⊎ (c ≡ 13) → ⊥
        no_end (inl is) = blank_not c 10 refl b is
        no_end (inr is) = blank_not c 13 refl b is

-- all of them
pub blanks_cut : (front ds : List ℕ) (us : List Token) → Cut front ds us [] → Cut (front ++ take (prefix_len is_blank ds) ds) (drop (prefix_len is_blank ds) ds) us []
blanks_cut front [] us cut = subst (λ xs. Cut xs [] us []) (sym (append-nil front)) cut
blanks_cut front (c ∷ ds) us cut = by (is_blank c) refl (λ b. blanks_cut (front ++ c ∷ []) ds us (blank_cut front c ds us b cut))
  where
    by : (b : Bool) → is_blank c ≡ b → (is_blank c ≡ true → Cut ((front ++ c ∷ []) ++ take (prefix_len is_blank ds) ds) (drop (prefix_len is_blank ds) ds) us []) →
        Cut (front ++ take (cond b (1 + prefix_len is_blank ds) 0) (c ∷ ds)) (drop (cond b (1 + prefix_len is_blank ds) 0) (c ∷ ds)) us []
    by true e more = rw one-add (subst (λ xs. Cut xs (drop (prefix_len is_blank ds) ds) us []) (append_assoc front (c ∷ []) (take (prefix_len is_blank ds) ds)) (more e))
    by false e more = subst (λ xs. Cut xs (c ∷ ds) us []) (sym (append-nil front)) cut

-- where a comment ends is one place
pub one_comment : (xs ys a b : List ℕ) → xs ++ a ≡ ys ++ b → HasNoLineEnd xs a → EndsLine a → HasNoLineEnd ys b → EndsLine b → (xs ≡ ys) × (a ≡ b)
one_comment [] [] a b e n m o p = (refl, e)
one_comment [] (y ∷ ys) [] b e n m o p = absurd (nil_not y (ys ++ b) e)
one_comment [] (y ∷ ys) (x ∷ a) b e n m o p =
    let tail = tail_is x y a (ys ++ b) e in
    let first = head_is x y a (ys ++ b) e in
    absurd (never_both (ends_line x a) m (ap (λ z. ends_line z a) first ∙ ap (λ zs. ends_line y zs) tail ∙ o.0))
one_comment (x ∷ xs) [] a [] e n m o p = absurd (nil_not x (xs ++ a) (sym e))
one_comment (x ∷ xs) [] a (y ∷ b) e n m o p =
    let tail = tail_is x y (xs ++ a) b e in
    let first = head_is x y (xs ++ a) b e in
    absurd (never_both (ends_line y b) p (ap (λ z. ends_line z b) (sym first) ∙ ap (λ zs. ends_line x zs) (sym tail) ∙ n.0))
one_comment (x ∷ xs) (y ∷ ys) a b e n m o p =
    let more = one_comment xs ys a b (tail_is x y (xs ++ a) (ys ++ b) e) n.1 m o.1 p in
    (ap (λ z. z ∷ xs) (head_is x y (xs ++ a) (ys ++ b) e) ∙ ap (λ zs. y ∷ zs) more.0, more.1)

-- a comment
pub comment_cut : (front : List ℕ) (c : ℕ) (xs a : List ℕ) (us : List Token) → IsComment (c ∷ xs) a → Cut front (c ∷ (xs ++ a)) us [] → Cut (front ++ c ∷ xs) a us []
comment_cut front c xs a us comment cut = by (head cut c (xs ++ a) refl refl)
  where
    not_blank : is_blank c ≡ true → ⊥
    not_blank b = blank_not c 35 refl b comment.0

    not_end : (n : ℕ) → n ≢ 35 → c ≡ n → ⊥
    not_end n other is = other (sym is ∙ comment.0)

    no_end : (c ≡ 10) ⊎ (c ≡ 13) → ⊥
    no_end (inl is) = not_end 10 (λ e. let same : ◌≡◌ {A = ℕ} 10 35 = e in omega arith) is
    no_end (inr is) = not_end 13 (λ e. let same : ◌≡◌ {A = ℕ} 13 35 = e in omega arith) is

    by : Head front c (xs ++ a) us → Cut (front ++ c ∷ xs) a us []
    by (passes ys behind e (inl blanks) more) = absurd (not_blank (All-head (λ d. IsTrue (is_blank d)) c ys blanks))
    by (passes ys behind e (inr (inl other)) more) =
        let one = one_comment xs ys a behind e comment.1 comment.2 other.1 other.2 in
        subst (λ zs. Cut (front ++ c ∷ zs) a us []) (sym one.0) (subst (λ zs. Cut (front ++ c ∷ ys) zs us []) (sym one.1) more)
    by (passes ys behind e (inr (inr end)) more) = absurd (no_end (end_first c ys end))
    by (has_word marks t ts ys behind is e are word longest spans more) = absurd (no_token c (hash comment.0) t.kind ys word)
    by (has_end t ts ys behind is e newline end spans more) = absurd (no_end (end_first c ys end))

-- ---- a line end
one_end : (c : ℕ) (xs ys : List ℕ) → IsLineEnd (c ∷ xs) → IsLineEnd (c ∷ ys) → xs ≡ ys
one_end c xs ys (inl e) (inl f) = tail_is c 10 xs [] e ∙ sym (tail_is c 10 ys [] f)
one_end c xs ys (inr e) (inr f) = tail_is c 13 xs (10 ∷ []) e ∙ sym (tail_is c 13 ys (10 ∷ []) f)
one_end c xs ys (inl e) (inr f) = absurd (let a = head_is c 10 xs [] e in let b = head_is c 13 ys (10 ∷ []) f in omega (arith, a, b))
one_end c xs ys (inr e) (inl f) = absurd (let a = head_is c 13 xs (10 ∷ []) e in let b = head_is c 10 ys [] f in omega (arith, a, b))

same_behind : (xs a b : List ℕ) → xs ++ a ≡ xs ++ b → a ≡ b
same_behind [] a b e = e
same_behind (x ∷ xs) a b e = same_behind xs a b (tail_is x x (xs ++ a) (xs ++ b) e)

-- it is passed, or ends a line
pub data Ends (front xs a : List ℕ) (us : List Token) : Type 0 where
  passed : Cut (front ++ xs) a us [] → Ends front xs a us
  ended : (t : Token) (ts : List Token) → us ≡ t ∷ ts → t.kind ≡ kind.Newline → Spans t front xs → Cut (front ++ xs) a ts [] → Ends front xs a us

pub end_cut : (front : List ℕ) (c : ℕ) (xs a : List ℕ) (us : List Token) → IsLineEnd (c ∷ xs) → Cut front (c ∷ (xs ++ a)) us [] → Ends front (c ∷ xs) a us
end_cut front c xs a us end cut = by (head cut c (xs ++ a) refl refl)
  where
    not_here : (c ≡ 10) ⊎ (c ≡ 13) → (n : ℕ) → n ≢ 10 → n ≢ 13 → c ≡ n → ⊥
    not_here (inl is) n f r e = f (sym e ∙ is)
    not_here (inr is) n f r e = r (sym e ∙ is)

    not_blank : (c ≡ 10) ⊎ (c ≡ 13) → is_blank c ≡ true → ⊥
    not_blank (inl is) b = blank_not c 10 refl b is
    not_blank (inr is) b = blank_not c 13 refl b is

    by : Head front c (xs ++ a) us → Ends front (c ∷ xs) a us
    by (passes ys behind e (inl blanks) more) = absurd (not_blank (end_first c xs end) (All-head (λ d. IsTrue (is_blank d)) c ys blanks))
    by (passes ys behind e (inr (inl other)) more) =
        absurd (not_here (end_first c xs end) 35 (λ f. let same : ◌≡◌ {A = ℕ} 35 10 = f in omega arith) (λ f. let same : ◌≡◌ {A = ℕ} 35 13 = f in omega arith) other.0)
    by (passes ys behind e (inr (inr other)) more) =
        let one = one_end c xs ys end other in
        let same : a ≡ behind = same_behind ys a behind (ap (λ zs. zs ++ a) (sym one) ∙ e) in
        passed (subst (λ zs. Cut (front ++ c ∷ zs) a us []) (sym one) (subst (λ zs. Cut (front ++ c ∷ ys) zs us []) (sym same) more))
    by (has_word marks t ts ys behind is e are word longest spans more) = absurd (no_token c (between_end c (end_first c xs end)) t.kind ys word)
    by (has_end t ts ys behind is e newline other spans more) =
        let one = one_end c xs ys end other in
        let same : a ≡ behind = same_behind ys a behind (ap (λ zs. zs ++ a) (sym one) ∙ e) in
        ended t ts is newline (subst (λ zs. Spans t front (c ∷ zs)) (sym one) spans)
        (subst (λ zs. Cut (front ++ c ∷ zs) a ts []) (sym one) (subst (λ zs. Cut (front ++ c ∷ ys) zs ts []) (sym same) more))

-- ---- a token
-- of two fronts of a list one goes on to the other
pub data Fronts (xs ys a b : List ℕ) : Type 0 where
  first_on : (more : List ℕ) → ys ≡ xs ++ more → a ≡ more ++ b → Fronts xs ys a b
  second_on : (more : List ℕ) → xs ≡ ys ++ more → b ≡ more ++ a → Fronts xs ys a b

pub fronts : (xs ys a b : List ℕ) → xs ++ a ≡ ys ++ b → Fronts xs ys a b
fronts [] ys a b e = first_on ys refl e
fronts (x ∷ xs) [] a b e = second_on (x ∷ xs) refl (sym e)
fronts (x ∷ xs) (y ∷ ys) a b e = by (fronts xs ys a b (tail_is x y (xs ++ a) (ys ++ b) e))
  where
    first : x ≡ y
    first = head_is x y (xs ++ a) (ys ++ b) e

    by : Fronts xs ys a b → Fronts (x ∷ xs) (y ∷ ys) a b
    by (first_on more f g) = first_on more (ap (λ z. z ∷ ys) (sym first) ∙ ap (λ zs. x ∷ zs) f) g
    by (second_on more f g) = second_on more (ap (λ z. z ∷ xs) first ∙ ap (λ zs. y ∷ zs) f) g

-- the token that stands there, behind marks
pub record Words (front xs a : List ℕ) (k : TokenKind) (us : List Token) : Type 0 where
  pub marks : List Token
  pub token : Token
  pub behind : List Token
  pub are : us ≡ marks ++ token ∷ behind
  pub are_marks : AreMarks front marks
  pub is : token.kind ≡ k
  pub spans : Spans token front xs
  pub more : Cut (front ++ xs) a behind []

first_is : (xs more : List ℕ) → more ≡ [] → xs ++ more ≡ xs
first_is xs more e = ap (λ zs. xs ++ zs) e ∙ append-nil xs

pub word_cut : (front : List ℕ) (c : ℕ) (xs a : List ℕ) (k : TokenKind) (us : List Token) → IsWord k (c ∷ xs) → IsLongest (c ∷ xs) a → Cut front (c ∷ (xs ++ a)) us [] → Words front (c ∷ xs) a k us
word_cut front c xs a k us word longest cut = by (head cut c (xs ++ a) refl refl)
  where
    same_stretch : (ys behind : List ℕ) (j : TokenKind) → IsWord j (c ∷ ys) → IsLongest (c ∷ ys) behind → Fronts xs ys a behind → (xs ≡ ys) × (a ≡ behind)
    same_stretch ys behind j other also (first_on more e f) =
        let none : more ≡ [] = longest more behind j f (subst (λ zs. IsWord j (c ∷ zs)) e other) in
        (sym (e ∙ first_is xs more none), f ∙ ap (λ zs. zs ++ behind) none)
    same_stretch ys behind j other also (second_on more e f) =
        let none : more ≡ [] = also more a k f (subst (λ zs. IsWord k (c ∷ zs)) e word) in
        (e ∙ first_is ys more none, sym (f ∙ ap (λ zs. zs ++ a) none))

    by : Head front c (xs ++ a) us → Words front (c ∷ xs) a k us
    by (passes ys behind e (inl blanks) more) = absurd (no_token c (between_blank c (All-head (λ d. IsTrue (is_blank d)) c ys blanks)) k xs word)
    by (passes ys behind e (inr (inl comment)) more) = absurd (no_token c (hash comment.0) k xs word)
    by (passes ys behind e (inr (inr end)) more) = absurd (no_token c (between_end c (end_first c ys end)) k xs word)
    by (has_word marks t ts ys behind is e are other also spans more) =
        let same = same_stretch ys behind t.kind other also (fronts xs ys a behind e) in
        record {
          marks = marks;
          token = t;
          behind = ts;
          are = is;
          are_marks = are;
          is = one_kind c xs t.kind k (subst (λ zs. IsWord t.kind (c ∷ zs)) (sym same.0) other) word;
          spans = subst (λ zs. Spans t front (c ∷ zs)) (sym same.0) spans;
          more = subst (λ zs. Cut (front ++ c ∷ zs) a ts []) (sym same.0) (subst (λ zs. Cut (front ++ c ∷ ys) zs ts []) (sym same.1) more);
        }
    by (has_end t ts ys behind is e newline end spans more) = absurd (no_token c (between_end c (end_first c ys end)) k xs word)

-- ---- at a front of the characters
pub ends_at : (front xs a : List ℕ) (us : List Token) → IsLineEnd xs → Cut front (xs ++ a) us [] → Ends front xs a us
ends_at front [] a us end cut = absurd (none_end end)
ends_at front (c ∷ xs) a us end cut = end_cut front c xs a us end cut

pub comment_at : (front xs a : List ℕ) (us : List Token) → IsComment xs a → Cut front (xs ++ a) us [] → Cut (front ++ xs) a us []
comment_at front [] a us comment cut = absurd comment
comment_at front (c ∷ xs) a us comment cut = comment_cut front c xs a us comment cut

pub word_at : (front xs a : List ℕ) (k : TokenKind) (us : List Token) → IsWord k xs → IsLongest xs a → Cut front (xs ++ a) us [] → Words front xs a k us
word_at front [] a k us word longest cut = absurd (none_word k word)
word_at front (c ∷ xs) a k us word longest cut = word_cut front c xs a k us word longest cut
