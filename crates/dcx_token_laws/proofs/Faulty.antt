-- The fault of a text says what stands at its place.
use Rattle.std.proofs.Common.{◌≡◌, ◌⊎◌, inl, inr, ℕ, ◌-◌, true, false, eqb, List, [], ◌∷◌, ◌++◌, length, take, drop, Option, Some, None, refl, sym, ap, ◌∙◌, subst, arith}
use Rattle.std.specs.Prelude.{IsTrue, Ok, slice_get}
use Rattle.std.specs.Str.{chars}
use Rattle.std.proofs.lemmas.Bool.Decides.{nat_tests}
use Rattle.std.proofs.lemmas.List.{append-nil, take-append-drop}
use Rattle.std.proofs.lemmas.List.Elements.{All-head}
use Rattle.std.proofs.lemmas.Option.{none-some}
use Rattle.dcx_shape.specs.declared.place.Place.{Place}
use Rattle.dcx_tokens.specs.declared.fault.ReadFault.{ReadFault}
use Rattle.dcx_tokens.specs.declared.fault.ReadFault.TheVariants as fault
use Rattle.dcx_tokens.specs.declared.token.Symbol.{Symbol}
use Rattle.dcx_tokens.specs.declared.token.Token.{Token}
use Rattle.dcx_tokens.specs.declared.token.TokenKind.{TokenKind}
use Rattle.dcx_tokens.specs.declared.token.TokenKind.TheVariants as kind
use Rattle.dcx_tokens.specs.Front.{is_blank, is_quote, begins_name, begins_number, ends_line, long_sign, short_sign, or_else, sign_at}
use Rattle.dcx_tokens.specs.Reading.{IsLexed}
use Rattle.dcx_tokens.specs.State.{State, line_begun_at}
use Rattle.dcx_token_laws.specs.Cut.{IsLineEnd, IsBetween, place_behind, Cut}
use Rattle.dcx_token_laws.specs.Faults.{LineFollows, BadCharsBeginNothing, BeginsNothing, BeginsToken}
use Rattle.dcx_token_laws.specs.Fine.{IsFineUpTo}
use Rattle.dcx_token_laws.specs.Words.{IsSign, IsWord}
use Rattle.dcx_token_laws.proofs.Basics.{feed_ends, head_is, tail_is, never_both}
use Rattle.dcx_token_laws.proofs.Begun.{lines_begin}
use Rattle.dcx_token_laws.proofs.Forms.{IsFormed, HasBegun, IsLed}
use Rattle.dcx_token_laws.proofs.Halts.{IsBegun, Starts, starts_token, starts_number, starts_text, LineHalts, tab, full, apart, Halts, char, line, bad_number, open_text, bracket, halted}
use Rattle.dcx_token_laws.proofs.Heads.{none_word}
use Rattle.dcx_token_laws.proofs.Shallow.{shallow}
use Rattle.dcx_token_laws.proofs.Spelled.{begins_more, is_word}
use Rattle.dcx_token_laws.proofs.Spots.{spot_formed}
use Rattle.dcx_token_laws.proofs.Stacks.{Stacks}
use Rattle.dcx_token_laws.proofs.Standing.{numbers_end, spaces_lead, line_follows}
use Rattle.dcx_token_laws.proofs.Stopped.{Walks, StopsAt, in_step, at_end, stops_in}
use Rattle.dcx_token_laws.proofs.Stretches.{IsBehind}

-- ---- a character that begins nothing
-- where no name, number, text and sign begins, no token is spelled
no_word_by : (c : ℕ) (rest ws behind : List ℕ) → begins_name c ≡ false → begins_number c rest ≡ false → is_quote c ≡ false → sign_at c rest ≡ None → rest ≡ ws ++ behind
    → (k : TokenKind) → IsWord k (c ∷ ws) → ⊥
unfolding sign_at
no_word_by c rest ws behind en ed eq eo e kind.Name h = never_both (begins_name c) h.0.0 en
no_word_by c rest ws behind en ed eq eo e (kind.Keyword w) h = never_both (begins_name c) h.0.0 en
no_word_by c rest ws behind en ed eq eo e (kind.Number x) h = never_both (begins_number c rest) (ap (λ xs. begins_number c xs) e ∙ begins_more c ws behind h.0) ed
no_word_by c rest ws behind en ed eq eo e kind.Text h = never_both (is_quote c) h.0 eq
no_word_by c rest ws behind en ed eq eo e (kind.Sign s) h = no_sign ws e h
  where
    short_none : (xs : List ℕ) → sign_at c xs ≡ None → short_sign c ≡ Some s → ⊥
    short_none [] none some = none-some s (sym none ∙ some)
    short_none (x ∷ xs) none some = by (long_sign c x) none
      where
        by : (o : Option Symbol) → or_else o (short_sign c) ≡ None → ⊥
        by (Some t) f = none-some t (sym f)
        by None f = none-some s (sym f ∙ some)

    long_none : (d : ℕ) (xs : List ℕ) → sign_at c (d ∷ xs) ≡ None → long_sign c d ≡ Some s → ⊥
    long_none d xs none some = none-some s (sym none ∙ ap (λ o. or_else o (short_sign c)) some)

    no_sign : (us : List ℕ) → rest ≡ us ++ behind → IsSign s (c ∷ us) → ⊥
    no_sign [] f i = short_none rest eo i
    no_sign (d ∷ []) f i = long_none d behind (ap (λ xs. sign_at c xs) (sym f) ∙ eo) i
    no_sign (d ∷ g ∷ us) f i = i
no_word_by c rest ws behind en ed eq eo e kind.Newline h = h
no_word_by c rest ws behind en ed eq eo e kind.Indent h = h
no_word_by c rest ws behind en ed eq eo e kind.Dedent h = h

-- where no line end, blank and comment begins, nothing stands that comes between tokens
end_begins : (c : ℕ) (ys behind : List ℕ) → IsLineEnd (c ∷ ys) → ends_line c (ys ++ behind) ≡ true
end_begins c ys behind (inl e) =
    let first = head_is c 10 ys [] e in
    let rest = tail_is c 10 ys [] e in
    subst (λ d. ends_line d (ys ++ behind) ≡ true) (sym first) (subst (λ zs. ends_line 10 (zs ++ behind) ≡ true) (sym rest) (feed_ends behind))
end_begins c ys behind (inr e) =
    let first = head_is c 13 ys (10 ∷ []) e in
    let rest = tail_is c 13 ys (10 ∷ []) e in
    subst (λ d. ends_line d (ys ++ behind) ≡ true) (sym first) (subst (λ zs. ends_line 13 (zs ++ behind) ≡ true) (sym rest) refl)

not_hash : (c : ℕ) → eqb c 35 ≡ false → c ≡ 35 → ⊥
not_hash c e is = never_both (eqb c 35) (ap (λ d. eqb d 35) is) e

pub no_between_by : (c : ℕ) (rest ys behind : List ℕ) → IsBegun c rest → rest ≡ ys ++ behind → IsBetween (c ∷ ys) behind → ⊥
no_between_by c rest ys behind begun e (inl blanks) = never_both (is_blank c) (All-head (λ d. IsTrue (is_blank d)) c ys blanks) begun.no_blank
no_between_by c rest ys behind begun e (inr (inl comment)) = not_hash c begun.no_hash comment.0
no_between_by c rest ys behind begun e (inr (inr end)) = never_both (ends_line c rest) (ap (λ xs. ends_line c xs) e ∙ end_begins c ys behind end) begun.no_end

pub begins_nothing : (c : ℕ) (rest : List ℕ) → IsBegun c rest → begins_name c ≡ false → begins_number c rest ≡ false → is_quote c ≡ false → sign_at c rest ≡ None → BeginsNothing c rest
begins_nothing c rest begun en ed eq eo = record { no_word = no_word; no_between = no_between; no_number = ed; no_text = eq }
  where
    no_word : (k : TokenKind) (ws behind : List ℕ) → c ∷ rest ≡ ws ++ behind → IsWord k ws → ⊥
    no_word k [] behind e h = none_word k h
    no_word k (w ∷ ws) behind e h = no_word_by c rest ws behind en ed eq eo (tail_is c w rest (ws ++ behind) e) k (subst (λ d. IsWord k (d ∷ ws)) (sym (head_is c w rest (ws ++ behind) e)) h)

    no_between : (cs behind : List ℕ) → c ∷ rest ≡ cs ++ behind → IsBetween cs behind → cs ≡ []
    no_between [] behind e h = refl
    no_between (d ∷ ds) behind e h =
        absurd (no_between_by c rest ds behind begun (tail_is c d rest (ds ++ behind) e) (subst (λ x. IsBetween (x ∷ ds) behind) (sym (head_is c d rest (ds ++ behind) e)) h))

-- where a token begins
pub token_begins : (c : ℕ) (rest : List ℕ) → Starts c rest → BeginsToken c rest
token_begins c rest (starts_token k n token) = inl (k, take n (c ∷ rest), drop n (c ∷ rest), sym (take-append-drop n (c ∷ rest)), is_word c rest k n token)
token_begins c rest (starts_number n d none) = inr (inl d)
token_begins c rest (starts_text n d q none) = inr (inr q)

-- ---- what stops a reading, and where
pub place_is : (s : State) (front : List ℕ) → IsBehind front s → s.at.place ≡ place_behind front
place_is s front h = rw h refl

pub record Stopping (text : List ℕ) (ts : List Token) (f : ReadFault) : Type 0 where
  pub front : List ℕ
  pub state : State
  pub left : State
  pub first : ℕ
  pub rest : List ℕ
  pub up_to : IsFineUpTo text ts front (first ∷ rest)
  pub walks : Walks text state front (first ∷ rest)
  pub tokens : left.tokens ≡ ts
  pub halts : Halts state left first rest f

-- a bracket that is open at the end
pub record AtEnd (text : List ℕ) (ts : List Token) (f : ReadFault) : Type 0 where
  pub state : State
  pub opener : Place
  pub up_to : IsFineUpTo text ts (chars text) []
  pub stacks : Stacks ts state.indents state.brackets
  pub last : slice_get state.brackets (length state.brackets - 1) ≡ Some opener
  pub is : f ≡ fault.Unclosed opener

pub stopping : (text : List ℕ) (ts : List Token) (f : ReadFault) → IsLexed text ts (Some f) → Stopping text ts f ⊎ AtEnd text ts f
stopping text ts f lexed =
    let all = stops_in text ts f lexed in
    by all.front all.rest all.cut all.stop
  where
    by : (front rest : List ℕ) → Cut [] (chars text) ts rest → StopsAt text ts f front rest → Stopping text ts f ⊎ AtEnd text ts f
    by front rest cut (in_step s t c cs is walks e tokens) =
        inl (record {
          front = front;
          state = s;
          left = t;
          first = c;
          rest = cs;
          up_to = record {
            parts = walks.parts;
            cut = subst (λ xs. Cut [] (chars text) ts xs) is cut;
            lines = lines_begin text ts f lexed;
            shallow = shallow text ts
                (Some f) lexed;
            numbers = numbers_end text ts (Some f) lexed;
            spaces = spaces_lead text ts (Some f) lexed;
          };
          walks = walks;
          tokens = tokens;
          halts = halted s t c cs f (spot_formed s front (c ∷ cs) walks.spot) e;
        })
    by front rest cut (at_end s opener is walks last f_is tokens) =
        inr (record {
          state = s;
          opener = opener;
          up_to = record {
            parts = sym (append-nil (chars text));
            cut = subst (λ xs. Cut [] (chars text) ts xs) is cut;
            lines = lines_begin text ts f lexed;
            shallow = shallow text ts (Some f) lexed;
            numbers = numbers_end text ts (Some f) lexed;
            spaces = spaces_lead text ts
                (Some f) lexed;
          };
          stacks = subst (λ us. Stacks us s.indents s.brackets) tokens walks.stacks;
          last = last;
          is = f_is;
        })

-- its line has begun, where it is one that does
pub follows_at : (text : List ℕ) (ts : List Token) (f : ReadFault) (x : Stopping text ts f) → IsBegun x.first x.rest → line_begun_at x.state x.state.line ≡ (x.left, Ok tt) → LineFollows ts x.front
follows_at text ts f x begun first = subst (λ us. LineFollows us x.front) x.tokens (line_follows text x.state x.left x.front x.first x.rest x.walks begun.no_end first)

-- the faults differ
abbrev pub place_in : ReadFault → Place
place_in (fault.BadChar p) = p
place_in (fault.BadNumber p) = p
place_in (fault.Unclosed p) = p
place_in (fault.Indent p) = p
place_in (fault.TooDeep p) = p
place_in _ = record { line = 0; column = 0 }

-- which of the faults it is
abbrev pub tag : ReadFault → ℕ
tag (fault.BadChar p) = 2
tag (fault.BadNumber p) = 3
tag (fault.Unclosed p) = 4
tag (fault.Indent p) = 5
tag (fault.TooDeep p) = 7
tag _ = 0

pub clash : (f g : ReadFault) → f ≡ g → eqb (tag f) (tag g) ≡ false → ⊥
clash f g e other = never_both (eqb (tag f) (tag g)) (ap (λ h. eqb (tag f) (tag h)) (sym e) ∙ same (tag f)) other
  where
    same : (n : ℕ) → eqb n n ≡ true
    same n = grind (arith, nat_tests)

-- the first token of a line is refused for its indentation, or as one block too many
pub no_line : (s : State) (f : ReadFault) → IsFormed s → (HasBegun s → ⊥) → ((blanks : List ℕ) → IsLed blanks s → LineHalts s blanks f) → eqb (tag f) 5 ≡ false → eqb (tag f) 7 ≡ false → ⊥
no_line s f (inl is) not how five seven = not is
no_line s f (inr (blanks, is)) not how five seven = by (how blanks is)
  where
    by : LineHalts s blanks f → ⊥
    by (tab e same) = clash f (fault.Indent s.at.place) same five
    by (full e d r same) = clash f (fault.TooDeep s.at.place) same seven
    by (apart e d st same) = clash f (fault.Indent s.at.place) same five

-- ---- characters
pub bad_chars : BadCharsBeginNothing
bad_chars text ts p lexed = by (stopping text ts (fault.BadChar p) lexed)
  where
    Goal : Type 0
    Goal = (front : List ℕ) × (c : ℕ) × (rest : List ℕ) × IsFineUpTo text ts front (c ∷ rest) × (p ≡ place_behind front) × BeginsNothing c rest

    of : (x : Stopping text ts (fault.BadChar p)) → Halts x.state x.left x.first x.rest (fault.BadChar p) → Goal
    of x (char begun en ed eq eo same is) = (x.front, x.first, x.rest, x.up_to, ap place_in is ∙ place_is x.state x.front x.walks.behind, begins_nothing x.first x.rest begun en ed eq eo)
    of x (line begun starts not same how) = absurd (no_line x.state (fault.BadChar p) (spot_formed x.state x.front (x.first ∷ x.rest) x.walks.spot) not how refl refl)
    of x (bad_number begun first en ed none is) = absurd (clash (fault.BadChar p) (fault.BadNumber x.left.at.place) is refl)
    of x (open_text begun first en ed eq none is) = absurd (clash (fault.BadChar p) (fault.Unclosed x.left.at.place) is refl)
    of x (bracket symbol n begun first token opener room is) = absurd (clash (fault.BadChar p) (fault.TooDeep x.left.at.place) is refl)

    by : Stopping text ts (fault.BadChar p) ⊎ AtEnd text ts (fault.BadChar p) → Goal
    by (inl x) = of x x.halts
    by (inr x) = absurd (clash (fault.BadChar p) (fault.Unclosed x.opener) x.is refl)
