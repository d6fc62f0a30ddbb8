-- Pieces in front of a text are read, and the grammar sees these terminals in them.
use Rattle.std.proofs.Common.{◌≡◌, ℕ, ◌+◌, ◌-◌, ◌^◌, ◌<◌, pos, Bool, true, false, eqb, not, ◌&&◌, List, [], ◌∷◌, ◌++◌, length, take, drop, decimal}
use Rattle.std.proofs.Common.{append_assoc, append-nil, drop-drop, Option, Some, None, is_some, is_none, refl, sym, ap, ap₂, ◌∙◌, subst, arith}
use Rattle.std.specs.Prelude.{Ok, nat_lt}
use Rattle.std.specs.List.{list_all}
use Rattle.std.proofs.Math.Seq.{take-append_seam, drop-append_seam}
use Rattle.std.proofs.lemmas.List.{map-append}
use Rattle.std.proofs.lemmas.Bool.Decides.{nat_tests}
use Rattle.std.proofs.lemmas.Fmt.{decimal_is_IsNumeral}
use Rattle.std.proofs.lemmas.Bool.{and_parts, not-true}
use Rattle.dcx_math.specs.Rational.{whole}
use Rattle.dcx_atom.specs.Formed.{frac_at}
use Rattle.dcx_shape.specs.declared.place.Place.{Place}
use Rattle.dcx_tokens.specs.declared.fault.ReadFault.{ReadFault}
use Rattle.dcx_tokens.specs.declared.token.Symbol.{Symbol}
use Rattle.dcx_tokens.specs.declared.token.Token.{Token}
use Rattle.dcx_tokens.specs.declared.token.TokenKind.{TokenKind}
use Rattle.dcx_tokens.specs.declared.token.TokenKind.TheVariants as kind
use Rattle.dcx_tokens.specs.Front.{is_blank, is_quote, begins_number, long_sign, short_sign}
use Rattle.dcx_tokens.specs.Layout.{opens, closes}
use Rattle.dcx_tokens.specs.Laws.{brackets_behind}
use Rattle.dcx_tokens.specs.Lexeme.{word_kind}
use Rattle.dcx_tokens.specs.Reading.{Reads, goes_on}
use Rattle.dcx_tokens.specs.State.{step}
use Rattle.dcx_syntax.specs.Terminal.{Terminal, plain, newline}
use Rattle.dcx_read.specs.Role.{role_of}
use Rattle.dcx_read.specs.Terminals.{terminal, terminal_of, terminals}
use Rattle.dcx_trial_laws.proofs.Pieces.{
  Piece,
  word,
  number,
  sign,
  blank,
  line_end,
  spelled,
  joined,
  Spot,
  further,
  moved_by,
  depth_behind,
  behind,
  behind_all,
  next_of,
  begins_token,
  is_single,
  begins_word,
  word_goes_on,
  ends_word,
  ends_number,
  is_sign,
  fits,
  all_fit,
}
use Rattle.dcx_trial_laws.proofs.Steps.{state_at, token_from, brackets_by, depth_by, word_step, number_step, sign_step, blank_step, line_end_step}

-- ---- what the grammar sees
abbrev pub sign_terms : Option Symbol → ℕ → Place → List Terminal
sign_terms None c place = []
sign_terms (Some symbol) c place = terminal (role_of (kind.Sign symbol)) (c ∷ []) place ∷ []

abbrev pub piece_terms : Spot → Piece → List Terminal
piece_terms s (word w) = terminal (role_of (word_kind w)) w s.place ∷ []
piece_terms s (number k) = terminal (role_of (kind.Number (frac_at (whole (pos k))))) (decimal k) s.place ∷ []
piece_terms s (sign c) = sign_terms (short_sign c) c s.place
piece_terms s blank = []
piece_terms s line_end = plain newline ∷ []

abbrev pub all_terms : Spot → List Piece → List Terminal
all_terms s [] = []
all_terms s (p ∷ ps) = piece_terms s p ++ all_terms (behind s p) ps

-- ---- on the way
-- behind these tokens, with cs left, reading goes on to the spot t, with the rest left, and meets these terminals
pub record Arrives (source : List ℕ) (ts : List Token) (bs : List Place) (o : ℕ) (s : Spot) (cs : List ℕ) (us : List Terminal) (t : Spot) (rest : List ℕ) : Type 0 where
  pub tokens : List Token
  pub brackets : List Place
  pub offset : ℕ
  pub reads : (vs : List Token) (f : Option ReadFault) → Reads (state_at tokens brackets offset t) rest vs f → Reads (state_at ts bs o s) cs vs f
  pub seen : terminals source tokens ≡ terminals source ts ++ us
  pub depth : length brackets ≡ t.depth
  pub here : drop offset source ≡ rest

module _ (source : List ℕ) where
  pub stays : (ts : List Token) (bs : List Place) (o : ℕ) (s : Spot) (cs : List ℕ) → length bs ≡ s.depth → drop o source ≡ cs → Arrives source ts bs o s cs [] s cs
  stays ts bs o s cs depth here = record {
    tokens = ts;
    brackets = bs;
    offset = o;
    reads = λ vs f r. r;
    seen = sym (append-nil (terminals source ts));
    depth = depth;
    here = here;
  }

  pub onwards : (ts : List Token) (bs : List Place) (o : ℕ) (s t u : Spot) (cs mid rest : List ℕ) (us vs : List Terminal) (a : Arrives source ts bs o s cs us t mid)
      → Arrives source a.tokens a.brackets a.offset t mid vs u rest → Arrives source ts bs o s cs (us ++ vs) u rest
  onwards ts bs o s t u cs mid rest us vs a b = record {
    tokens = b.tokens;
    brackets = b.brackets;
    offset = b.offset;
    reads = λ ws f r. a.reads ws f (b.reads ws f r);
    seen = b.seen ∙ ap (λ (x : List Terminal). x ++ vs) a.seen ∙ append_assoc (terminals source ts) us vs;
    depth = b.depth;
    here = b.here;
  }

  module _ (ts : List Token) (bs : List Place) (o : ℕ) (s : Spot) where
    -- by one step
    one_step : (c : ℕ) (cs rest : List ℕ) (us : List Terminal) (n : ℕ) (ts' : List Token) (bs' : List Place) (t : Spot)
        → step (state_at ts bs o s) c cs ≡ (state_at ts' bs' (o + n) t, Ok n) → drop n (c ∷ cs) ≡ rest → terminals source ts' ≡ terminals source ts ++ us
        → length bs' ≡ t.depth → drop o source ≡ c ∷ cs → Arrives source ts bs o s (c ∷ cs) us t rest
    one_step c cs rest us n ts' bs' t goes left seen depth here = record {
      tokens = ts';
      brackets = bs';
      offset = o + n;
      reads = λ vs f r. goes_on goes (subst (λ (x : List ℕ). Reads (state_at ts' bs' (o + n) t) x vs f) (sym left) r);
      seen = seen;
      depth = depth;
      here = sym (drop-drop n o source) ∙ ap (drop n) here ∙ left;
    }

    -- by a token
    token_seen : (w rest : List ℕ) (k : TokenKind) (place : Place) → drop o source ≡ w ++ rest
        → terminals source (ts ++ token_from k o (length w) place ∷ []) ≡ terminals source ts ++ terminal (role_of k) w place ∷ []
    token_seen w rest k place here =
        let n : o + length w - o ≡ length w = omega arith in
        let spells : take (o + length w - o) (drop o source) ≡ w = ap₂ take n here ∙ take-append_seam w rest in
        map-append (terminal_of source) ts (token_from k o (length w) place ∷ [])
        ∙ ap (λ (x : List ℕ). terminals source ts ++ terminal (role_of k) x place ∷ []) spells

    -- ---- one piece
    word_read : (c : ℕ) (w rest : List ℕ) → length bs ≡ s.depth → drop o source ≡ (c ∷ w) ++ rest → fits s (word (c ∷ w)) (next_of rest) ≡ true
        → Arrives source ts bs o s ((c ∷ w) ++ rest) (piece_terms s (word (c ∷ w))) (behind s (word (c ∷ w))) rest
    word_read c w rest depth here e =
        let d = next_of rest in
        let one = and_parts (begins_token c) (begins_word c && (list_all word_goes_on w && (list_all is_single (c ∷ w) && ends_word d))) e in
        let two = and_parts (begins_word c) (list_all word_goes_on w && (list_all is_single (c ∷ w) && ends_word d)) one.1 in
        let three = and_parts (list_all word_goes_on w) (list_all is_single (c ∷ w) && ends_word d) two.1 in
        let four = and_parts (list_all is_single (c ∷ w)) (ends_word d) three.1 in
        one_step c (w ++ rest) rest (piece_terms s (word (c ∷ w))) (length (c ∷ w)) (ts ++ token_from (word_kind (c ∷ w)) o (length (c ∷ w)) s.place ∷ []) bs (moved_by s (length (c ∷ w)))
        (word_step ts bs o s c w rest one.0 two.0 three.0 four.0 four.1) (drop-append_seam (c ∷ w) rest) (token_seen (c ∷ w) rest (word_kind (c ∷ w)) s.place here) depth here

    number_read : (k : ℕ) (rest : List ℕ) → length bs ≡ s.depth → drop o source ≡ decimal k ++ rest → fits s (number k) (next_of rest) ≡ true
        → Arrives source ts bs o s (decimal k ++ rest) (piece_terms s (number k)) (behind s (number k)) rest
    number_read k rest depth here e = by (decimal k) refl
      where
        both : (nat_lt k (2 ^ 64) ≡ true) × (ends_number (next_of rest) ≡ true)
        both = and_parts (nat_lt k (2 ^ 64)) (ends_number (next_of rest)) e

        small : k < 2 ^ 64
        small = let t = both.0 in grind (arith, nat_tests, t)

        f : TokenKind
        f = kind.Number (frac_at (whole (pos k)))

        by : (ds : List ℕ) → decimal k ≡ ds → Arrives source ts bs o s (decimal k ++ rest) (piece_terms s (number k)) (behind s (number k)) rest
        by [] is = absurd (let some = (decimal_is_IsNumeral k small).0.0 in let none = ap (λ (x : List ℕ). length x) is in omega (arith, some, none))
        by (c ∷ w) is =
            subst (λ (ds : List ℕ). Arrives source ts bs o s (ds ++ rest) (terminal (role_of (kind.Number (frac_at (whole (pos k))))) ds s.place ∷ []) (moved_by s (length ds)) rest) (sym is)
            (one_step c (w ++ rest) rest (terminal (role_of (kind.Number (frac_at (whole (pos k))))) (c ∷ w) s.place ∷ []) (length (c ∷ w))
            (ts ++ token_from (kind.Number (frac_at (whole (pos k)))) o (length (c ∷ w)) s.place ∷ []) bs (moved_by s (length (c ∷ w)))
            (number_step ts bs o s k c w rest small is both.1) (drop-append_seam (c ∷ w) rest)
            (token_seen (c ∷ w) rest (kind.Number (frac_at (whole (pos k)))) s.place (here ∙ ap (λ (x : List ℕ). x ++ rest) is)) depth (here ∙ ap (λ (x : List ℕ). x ++ rest) is))

    sign_read : (c : ℕ) (rest : List ℕ) → length bs ≡ s.depth → drop o source ≡ (c ∷ []) ++ rest → fits s (sign c) (next_of rest) ≡ true
        → Arrives source ts bs o s ((c ∷ []) ++ rest) (piece_terms s (sign c)) (behind s (sign c)) rest
    sign_read c rest depth here e =
        let d = next_of rest in
        let one = and_parts (begins_token c) (not (begins_word c) && (is_single c && (not (begins_number c (d ∷ [])) && (not (is_quote c) && (is_sign c d && nat_lt s.depth 64))))) e in
        let two = and_parts (not (begins_word c)) (is_single c && (not (begins_number c (d ∷ [])) && (not (is_quote c) && (is_sign c d && nat_lt s.depth 64)))) one.1 in
        let three = and_parts (is_single c) (not (begins_number c (d ∷ [])) && (not (is_quote c) && (is_sign c d && nat_lt s.depth 64))) two.1 in
        let four = and_parts (not (begins_number c (d ∷ []))) (not (is_quote c) && (is_sign c d && nat_lt s.depth 64)) three.1 in
        let five = and_parts (not (is_quote c)) (is_sign c d && nat_lt s.depth 64) four.1 in
        let six = and_parts (is_sign c d) (nat_lt s.depth 64) five.1 in
        let seven = and_parts (is_some (short_sign c)) (is_none (long_sign c d)) six.0 in
        by (short_sign c) refl one.0 (not-true (begins_word c) two.0) three.0 (not-true (begins_number c (d ∷ [])) four.0) (not-true (is_quote c) five.0) seven.0 seven.1 (room six.1)
      where
        room : nat_lt s.depth 64 ≡ true → s.depth < 64
        room t = grind (arith, nat_tests, t)

        by : (found : Option Symbol) → short_sign c ≡ found → begins_token c ≡ true → begins_word c ≡ false → is_single c ≡ true → begins_number c (next_of rest ∷ []) ≡ false
            → is_quote c ≡ false → is_some found ≡ true → is_none (long_sign c (next_of rest)) ≡ true → s.depth < 64
            → Arrives source ts bs o s ((c ∷ []) ++ rest) (sign_terms found c s.place) (record { depth = depth_behind s.depth found; begun = true; place = further s.place 1 }) rest
        by None is first no_word single no_digit no_quote some none shallow = absurd (cc)
        by (Some symbol) is first no_word single no_digit no_quote some none shallow =
            one_step c rest rest (terminal (role_of (kind.Sign symbol)) (c ∷ []) s.place ∷ []) 1 (ts ++ token_from (kind.Sign symbol) o 1 s.place ∷ [])
            (brackets_by ts bs o s (opens symbol) (closes symbol))
            (record { depth = brackets_behind s.depth (kind.Sign symbol); begun = true; place = further s.place 1 })
            (sign_step ts bs o s c rest symbol first no_word single no_digit no_quote is none depth shallow) refl
            (token_seen (c ∷ []) rest (kind.Sign symbol) s.place here) (depth_by ts bs o s symbol depth) here

    blank_read : (rest : List ℕ) → length bs ≡ s.depth → drop o source ≡ 32 ∷ rest → fits s blank (next_of rest) ≡ true → Arrives source ts bs o s (32 ∷ rest) [] (behind s blank) rest
    blank_read rest depth here e = by s.begun refl
      where
        both : (s.begun ≡ true) × (not (is_blank (next_of rest)) ≡ true)
        both = and_parts s.begun (not (is_blank (next_of rest))) e

        by : (b : Bool) → s.begun ≡ b → Arrives source ts bs o s (32 ∷ rest) [] (behind s blank) rest
        by false is = absurd (let no = sym both.0 ∙ is in cc)
        by true is =
            one_step 32 rest rest [] 1 ts bs (moved_by s 1)
            (ap (λ (b : Bool). step (state_at ts bs o (record { depth = s.depth; begun = b; place = s.place })) 32 rest) is ∙ blank_step ts bs o s.depth s.place rest
            (not-true (is_blank (next_of rest)) both.1)) refl
            (sym (append-nil (terminals source ts))) depth here

    line_end_read : (rest : List ℕ) → length bs ≡ s.depth → drop o source ≡ 10 ∷ rest → fits s line_end (next_of rest) ≡ true
        → Arrives source ts bs o s (10 ∷ rest) (plain newline ∷ []) (behind s line_end) rest
    line_end_read rest depth here e = by s.begun refl
      where
        both : (s.begun ≡ true) × (eqb s.depth 0 ≡ true)
        both = and_parts s.begun (eqb s.depth 0) e

        by : (b : Bool) → s.begun ≡ b → Arrives source ts bs o s (10 ∷ rest) (plain newline ∷ []) (behind s line_end) rest
        by false is = absurd (let no = sym both.0 ∙ is in cc)
        by true is =
            one_step 10 rest rest (plain newline ∷ []) 1 (ts ++ token_from kind.Newline o 1 s.place ∷ []) bs (behind s line_end)
            (ap (λ (b : Bool). step (state_at ts bs o (record { depth = s.depth; begun = b; place = s.place })) 10 rest) is ∙ line_end_step ts bs o s.depth s.place rest depth both.1) refl
            (map-append (terminal_of source) ts (token_from kind.Newline o 1 s.place ∷ [])) depth here

    pub piece_read : (p : Piece) (rest : List ℕ) → length bs ≡ s.depth → drop o source ≡ spelled p ++ rest → fits s p (next_of rest) ≡ true
        → Arrives source ts bs o s (spelled p ++ rest) (piece_terms s p) (behind s p) rest
    piece_read (word []) rest depth here e = absurd (cc)
    piece_read (word (c ∷ w)) rest depth here e = word_read c w rest depth here e
    piece_read (number k) rest depth here e = number_read k rest depth here e
    piece_read (sign c) rest depth here e = sign_read c rest depth here e
    piece_read blank rest depth here e = blank_read rest depth here e
    piece_read line_end rest depth here e = line_end_read rest depth here e

  -- ---- all pieces
  pub pieces_read : (ps : List Piece) (ts : List Token) (bs : List Place) (o : ℕ) (s : Spot) (rest : List ℕ) → length bs ≡ s.depth → drop o source ≡ joined ps rest → all_fit s ps rest ≡ true
      → Arrives source ts bs o s (joined ps rest) (all_terms s ps) (behind_all s ps) rest
  pieces_read [] ts bs o s rest depth here e = stays ts bs o s rest depth here
  pieces_read (p ∷ ps) ts bs o s rest depth here e =
      let h = and_parts (fits s p (next_of (joined ps rest))) (all_fit (behind s p) ps rest) e in
      let a = piece_read ts bs o s p (joined ps rest) depth here h.0 in
      onwards ts bs o s (behind s p) (behind_all (behind s p) ps) (joined (p ∷ ps) rest) (joined ps rest) rest (piece_terms s p) (all_terms (behind s p) ps) a
      (pieces_read ps a.tokens a.brackets a.offset (behind s p) rest a.depth a.here h.1)
