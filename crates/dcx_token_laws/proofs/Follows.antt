-- An indentation that doesn't follow, and a bracket or a block above the 64.
use Rattle.std.proofs.Common.{◌≡◌, ◌⊎◌, inl, inr, ℕ, zero, suc, ◌+◌, ◌<◌, ◌≤◌, Bool, true, false, eqb, ◌||◌, List, [], ◌∷◌, ◌++◌, length, take, Option, Some, refl, sym, ap, ◌∙◌, subst, arith}
use Rattle.std.specs.Prelude.{nat_lt}
use Rattle.std.specs.List.{All, list_all, list_any}
use Rattle.std.proofs.lemmas.Bool.{lt-ltb, and_parts}
use Rattle.std.proofs.lemmas.Bool.Decides.{nat_tests}
use Rattle.std.proofs.lemmas.List.Elements.{All-head, All-tail}
use Rattle.dcx_tokens.specs.declared.fault.ReadFault.{ReadFault}
use Rattle.dcx_tokens.specs.declared.fault.ReadFault.TheVariants as fault
use Rattle.dcx_tokens.specs.declared.token.Symbol.{Symbol}
use Rattle.dcx_tokens.specs.declared.token.Symbol.TheVariants as symbols
use Rattle.dcx_tokens.specs.declared.token.Token.{Token}
use Rattle.dcx_tokens.specs.declared.token.TokenKind.{TokenKind}
use Rattle.dcx_tokens.specs.declared.token.TokenKind.TheVariants as kind
use Rattle.dcx_tokens.specs.Front.{ends_line, sign_len, tab_among}
use Rattle.dcx_tokens.specs.Laws.{brackets_left, blocks_left}
use Rattle.dcx_tokens.specs.Layout.{is_deeper, is_standing, opens}
use Rattle.dcx_tokens.specs.Reading.{IsLexed}
use Rattle.dcx_tokens.specs.State.{State, is_full}
use Rattle.dcx_tokens.proofs.Nesting.{shallow_end}
use Rattle.dcx_token_laws.specs.Cut.{place_behind}
use Rattle.dcx_token_laws.specs.Faults.{LineFollows, IndentsDoNotFollow, TooDeepAreAbove64, BeginsToken, DoesNotFollow, OpensBracket, BeginsBlock, open_blocks}
use Rattle.dcx_token_laws.specs.Fine.{IsFineUpTo, IsLedBy}
use Rattle.dcx_token_laws.specs.Lines.{StandsAt, Turns, deeper, back}
use Rattle.dcx_token_laws.specs.Words.{IsSign}
use Rattle.dcx_token_laws.proofs.Basics.{head_is, never_both, nil_not}
use Rattle.dcx_token_laws.proofs.Faulty.{Stopping, AtEnd, stopping, follows_at, place_is, place_in, clash, token_begins}
use Rattle.dcx_token_laws.proofs.Firsts.{long_len}
use Rattle.dcx_token_laws.proofs.Forms.{HasBegun, IsLed}
use Rattle.dcx_token_laws.proofs.Halts.{IsBegun, LineHalts, tab, full, apart, Halts, char, line, bad_number, open_text, bracket}
use Rattle.dcx_token_laws.proofs.Rising.{all_below}
use Rattle.dcx_token_laws.proofs.Shallow.{shallow}
use Rattle.dcx_token_laws.proofs.Spelled.{is_word}
use Rattle.dcx_token_laws.proofs.Spots.{Spot, within, leads, closing, spot_formed, stacks_begun}
use Rattle.dcx_token_laws.proofs.Stacks.{Stacks, open_count}
use Rattle.dcx_token_laws.proofs.Unread.{begun_place}

-- ---- no line of this depth follows
all_true : (depth : ℕ) (blocks : List ℕ) → All (λ d. d < depth) blocks → list_all (λ i. nat_lt i depth) blocks ≡ true
all_true depth [] h = refl
all_true depth (b ∷ bs) h =
    let first = lt-ltb b depth (All-head (λ d. d < depth) b bs h) in
    let more = all_true depth bs (All-tail (λ d. d < depth) b bs h) in
    rw (first, more) refl

is_self : (n : ℕ) → eqb n n ≡ true
is_self n = grind (arith, nat_tests)

any_true : (depth : ℕ) (outer rest : List ℕ) → list_any (λ i. eqb i depth) ((outer ++ depth ∷ []) ++ rest) ≡ true
any_true depth [] rest = let same = is_self depth in rw same refl
any_true depth (x ∷ outer) rest = let more = any_true depth outer rest in by (eqb x depth) more
  where
    by : (b : Bool) → list_any (λ i. eqb i depth) ((outer ++ depth ∷ []) ++ rest) ≡ true → (b || list_any (λ i. eqb i depth) ((outer ++ depth ∷ []) ++ rest)) ≡ true
    by true e = refl
    by false e = e

stands_true : (stay gone : List ℕ) (depth : ℕ) → StandsAt stay depth → is_standing (stay ++ gone) depth ≡ true
stands_true stay gone depth (inl at) = let zero_is : eqb depth 0 ≡ true = ap (λ d. eqb d 0) at.1 in rw zero_is refl
stands_true stay gone depth (inr (outer, e)) = by (eqb depth 0)
  where
    among : list_any (λ i. eqb i depth) (stay ++ gone) ≡ true
    among = ap (λ xs. list_any (λ i. eqb i depth) (xs ++ gone)) e ∙ any_true depth outer gone

    by : (b : Bool) → (b || list_any (λ i. eqb i depth) (stay ++ gone)) ≡ true
    by true = refl
    by false = among

pub no_turn : {blocks after : List ℕ} {depth : ℕ} {marks : List TokenKind} → is_deeper blocks depth ≡ false → is_standing blocks depth ≡ false → Turns blocks depth marks after → ⊥
no_turn {depth = depth} d st (deeper {blocks = blocks} some all) =
    let one = lt-ltb 0 depth some in
    let more = all_true depth blocks all in
    let yes : is_deeper blocks depth ≡ true = rw (one, more) refl in
    never_both (is_deeper blocks depth) yes d
no_turn {depth = depth} d st (back {stay = stay} gone at all) = never_both (is_standing (stay ++ gone) depth) (stands_true stay gone depth at) st

-- ---- the first token of a line
record IsFirst (ts : List Token) (f : ReadFault) (s : State) (front : List ℕ) : Type 0 where
  blanks : List ℕ
  led : IsLedBy blanks ts front
  halts : LineHalts s blanks f
  stacks : Stacks ts s.indents s.brackets

is_first : (text : List ℕ) (ts : List Token) (f : ReadFault) (x : Stopping text ts f) → IsBegun x.first x.rest → (HasBegun x.state → ⊥) → x.left ≡ x.state
    → ((blanks : List ℕ) → IsLed blanks x.state → LineHalts x.state blanks f) → IsFirst ts f x.state x.front
is_first text ts f x begun not same how = by x.walks.spot
  where
    stack : Stacks ts x.state.indents x.state.brackets
    stack = subst (λ us. Stacks us x.state.indents x.state.brackets) (ap (λ (w : State). w.tokens) (sym same) ∙ x.tokens) x.walks.stacks

    by : Spot x.state x.front (x.first ∷ x.rest) → IsFirst ts f x.state x.front
    by (within has led_not) = absurd (not has)
    by (leads before blanks led none parts starts are column last) =
        record { blanks = blanks; led = record { before = before; parts = parts; starts = starts; are = are; outside = sym stack.count ∙ none }; halts = how blanks led; stacks = stack }
    by (closing blanks led none end) = absurd (never_both (ends_line x.first x.rest) end begun.no_end)

-- ---- indentations
pub indents : IndentsDoNotFollow
indents text ts p lexed = by (stopping text ts (fault.Indent p) lexed)
  where
    Goal : Type 0
    Goal = (front : List ℕ) × (c : ℕ) × (rest : List ℕ) × (blanks : List ℕ) × IsFineUpTo text ts front (c ∷ rest) × (p ≡ place_behind front) × BeginsToken c rest
        × IsLedBy blanks ts front × DoesNotFollow blanks ts

    follows_not : (s : State) (blanks : List ℕ) → s.indents ≡ open_blocks [] ts → LineHalts s blanks (fault.Indent p) → (p ≡ s.at.place) × DoesNotFollow blanks ts
    follows_not s blanks blocks (tab e is) = (ap place_in is, inl e)
    follows_not s blanks blocks (full e d r is) = absurd (clash (fault.Indent p) (fault.TooDeep s.at.place) is refl)
    follows_not s blanks blocks (apart e d st is) = (
      ap place_in is,
      inr (λ marks after turn. no_turn (ap (λ bs. is_deeper bs (length blanks)) (sym blocks) ∙ d) (ap (λ bs. is_standing bs (length blanks)) (sym blocks) ∙ st) turn),
    )

    of : (x : Stopping text ts (fault.Indent p)) → Halts x.state x.left x.first x.rest (fault.Indent p) → Goal
    of x (char begun en ed eq eo same is) = absurd (clash (fault.Indent p) (fault.BadChar x.state.at.place) is refl)
    of x (line begun starts not same how) =
        let first = is_first text ts (fault.Indent p) x begun not same how in
        let apart_so = follows_not x.state first.blanks first.stacks.blocks_are first.halts in
        (x.front, x.first, x.rest, first.blanks, x.up_to, apart_so.0 ∙ place_is x.state x.front x.walks.behind, token_begins x.first x.rest starts, first.led, apart_so.1)
    of x (bad_number begun first en ed none is) = absurd (clash (fault.Indent p) (fault.BadNumber x.left.at.place) is refl)
    of x (open_text begun first en ed eq none is) = absurd (clash (fault.Indent p) (fault.Unclosed x.left.at.place) is refl)
    of x (bracket symbol n begun first token opener room is) = absurd (clash (fault.Indent p) (fault.TooDeep x.left.at.place) is refl)

    by : Stopping text ts (fault.Indent p) ⊎ AtEnd text ts (fault.Indent p) → Goal
    by (inl x) = of x x.halts
    by (inr x) = absurd (clash (fault.Indent p) (fault.Unclosed x.opener) x.is refl)

-- ---- 64
pub is_64 : (s : State) → is_full s ≡ true → 64 ≤ length s.indents + length s.brackets
is_64 s e = grind (arith, nat_tests)

all_64 : (text : List ℕ) (ts : List Token) (f : Option ReadFault) (s : State) → IsLexed text ts f → Stacks ts s.indents s.brackets → is_full s ≡ true → brackets_left 0 ts + blocks_left 0 ts ≡ 64
all_64 text ts f s lexed stacks room =
    let most = shallow_end 0 0 ts (shallow text ts f lexed) in
    let least = is_64 s room in
    let brackets = stacks.count in
    let blocks = ap (λ bs. length bs) stacks.blocks_are ∙ open_count [] ts in
    omega (arith, most, least, brackets, blocks)

opener_short : (s : Symbol) → opens s ≡ true → sign_len s ≡ 1
opener_short symbols.OpenRound e = refl
opener_short symbols.OpenSquare e = refl
opener_short symbols.OpenCurly e = refl
opener_short _ e = absurd (cc)

opener_alone : (s : Symbol) (c : ℕ) (cs xs : List ℕ) (n : ℕ) → opens s ≡ true → take n (c ∷ cs) ≡ xs → IsSign s xs → IsSign s (c ∷ [])
opener_alone s c cs [] n opener e h = absurd h
opener_alone s c cs (x ∷ []) zero opener e h = absurd (nil_not x [] e)
opener_alone s c cs (x ∷ []) (suc n) opener e h = subst (λ d. IsSign s (d ∷ [])) (sym (head_is c x (take n cs) [] e)) h
opener_alone s c cs (x ∷ y ∷ []) n opener e h = absurd (let two = long_len x y s h in let one = opener_short s opener in omega (arith, two, one))
opener_alone s c cs (x ∷ y ∷ z ∷ zs) n opener e h = absurd h

pub too_deep : TooDeepAreAbove64
too_deep text ts p lexed = by (stopping text ts (fault.TooDeep p) lexed)
  where
    Goal : Type 0
    Goal = (front : List ℕ) × (c : ℕ) × (rest : List ℕ) × IsFineUpTo text ts front (c ∷ rest) × (p ≡ place_behind front) × (brackets_left 0 ts + blocks_left 0 ts ≡ 64)
        × ((LineFollows ts front × OpensBracket c) ⊎ BeginsBlock c rest ts front)

    one_block : (s : State) (blanks : List ℕ) → s.indents ≡ open_blocks [] ts → LineHalts s blanks (fault.TooDeep p)
        → (p ≡ s.at.place) × (is_full s ≡ true) × (tab_among blanks ≡ false) × All (λ d. d < length blanks) (open_blocks [] ts)
    one_block s blanks blocks (tab e is) = absurd (clash (fault.TooDeep p) (fault.Indent s.at.place) is refl)
    one_block s blanks blocks (full e d r is) = (
      ap place_in is,
      r,
      e,
      all_below (open_blocks [] ts) (length blanks)
          (and_parts (nat_lt 0 (length blanks)) (list_all (λ i. nat_lt i (length blanks)) (open_blocks [] ts)) (ap (λ bs. is_deeper bs (length blanks)) (sym blocks) ∙ d)).1,
    )
    one_block s blanks blocks (apart e d st is) = absurd (clash (fault.TooDeep p) (fault.Indent s.at.place) is refl)

    of : (x : Stopping text ts (fault.TooDeep p)) → Halts x.state x.left x.first x.rest (fault.TooDeep p) → Goal
    of x (char begun en ed eq eo same is) = absurd (clash (fault.TooDeep p) (fault.BadChar x.state.at.place) is refl)
    of x (line begun starts not same how) =
        let first = is_first text ts (fault.TooDeep p) x begun not same how in
        let one = one_block x.state first.blanks first.stacks.blocks_are first.halts in (
          x.front,
          x.first,
          x.rest,
          x.up_to,
          one.0 ∙ place_is x.state x.front x.walks.behind,
          all_64 text ts (Some (fault.TooDeep p)) x.state lexed first.stacks one.1,
          inr (first.blanks, token_begins x.first x.rest starts, first.led, one.2, one.3),
        )
    of x (bad_number begun first en ed none is) = absurd (clash (fault.TooDeep p) (fault.BadNumber x.left.at.place) is refl)
    of x (open_text begun first en ed eq none is) = absurd (clash (fault.TooDeep p) (fault.Unclosed x.left.at.place) is refl)
    of x (bracket symbol n begun first token opener room is) =
        let formed = spot_formed x.state x.front (x.first ∷ x.rest) x.walks.spot in
        let begun_so = stacks_begun x.state x.left x.front (x.first ∷ x.rest) x.walks.spot first x.walks.stacks (λ end. never_both (ends_line x.first x.rest) end begun.no_end) in
        let stacks = subst (λ us. Stacks us x.left.indents x.left.brackets) x.tokens begun_so in
        let sign = opener_alone symbol x.first x.rest (take n (x.first ∷ x.rest)) n opener refl (is_word x.first x.rest (kind.Sign symbol) n token) in (
          x.front,
          x.first,
          x.rest,
          x.up_to,
          ap place_in is
              ∙ begun_place x.state x.left x.front x.walks.behind formed first,
          all_64 text ts (Some (fault.TooDeep p)) x.left lexed stacks room,
          inl (follows_at text ts (fault.TooDeep p) x begun first, (symbol, opener, sign)),
        )

    by : Stopping text ts (fault.TooDeep p) ⊎ AtEnd text ts (fault.TooDeep p) → Goal
    by (inl x) = of x x.halts
    by (inr x) = absurd (clash (fault.TooDeep p) (fault.Unclosed x.opener) x.is refl)
