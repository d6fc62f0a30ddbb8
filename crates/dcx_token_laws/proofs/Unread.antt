-- A malformed number, and a text that isn't closed on its line.
use Rattle.std.proofs.Common.{◌≡◌, ◌⊎◌, inl, inr, ℕ, ◌-◌, Bool, true, false, List, [], ◌∷◌, ◌++◌, length, Option, Some, None, refl, sym, ap, ◌∙◌, subst, arith, length-append}
use Rattle.std.specs.Prelude.{Ok, get_or, slice_get}
use Rattle.std.specs.Str.{chars}
use Rattle.std.proofs.lemmas.Option.{slice_get-get_or, none-some}
use Rattle.dcx_frac.specs.declared.fraction.Frac.{Frac}
use Rattle.dcx_shape.specs.declared.place.Place.{Place}
use Rattle.dcx_tokens.specs.declared.fault.ReadFault.TheVariants as fault
use Rattle.dcx_tokens.specs.declared.token.Token.{Token}
use Rattle.dcx_tokens.specs.Front.{is_quote, begins_number}
use Rattle.dcx_tokens.specs.Number.{is_spoiled, number_at}
use Rattle.dcx_tokens.specs.Quoted.{up_to_quote}
use Rattle.dcx_tokens.specs.State.{State, line_begun_at}
use Rattle.dcx_token_laws.specs.Cut.{place_behind}
use Rattle.dcx_token_laws.specs.Faults.{LineFollows, BadNumbersAreNone, UnclosedAreOpen, BeginsBadNumber, OpensText, IsLeftOpen}
use Rattle.dcx_token_laws.specs.Fine.{IsFineUpTo}
use Rattle.dcx_token_laws.specs.Words.{IsNumber, IsQuoted}
use Rattle.dcx_token_laws.proofs.Basics.{head_is, tail_is}
use Rattle.dcx_token_laws.proofs.Faulty.{Stopping, AtEnd, stopping, follows_at, place_is, place_in, clash, no_line}
use Rattle.dcx_token_laws.proofs.Forms.{IsFormed, begins}
use Rattle.dcx_token_laws.proofs.Halts.{Halts, char, line, bad_number, open_text, bracket}
use Rattle.dcx_token_laws.proofs.Longer.{number_longer}
use Rattle.dcx_token_laws.proofs.Quotes.{quote_longer}
use Rattle.dcx_token_laws.proofs.Spots.{spot_formed}
use Rattle.dcx_token_laws.proofs.Stacks.{AreOpen, unsnoc, place_same}
use Rattle.dcx_token_laws.proofs.Stretches.{IsBehind, marked}

-- where the line has begun the place is the same
pub begun_place : (s t : State) (front : List ℕ) → IsBehind front s → IsFormed s → line_begun_at s s.line ≡ (t, Ok tt) → t.at.place ≡ place_behind front
begun_place s t front h formed e = place_same s t (marked front s t h (begins s t formed e)).at ∙ place_is s front h

-- ---- numbers
bad_number_at : (c : ℕ) (rest : List ℕ) → begins_number c rest ≡ true → number_at (c ∷ rest) ≡ None → BeginsBadNumber c rest
bad_number_at c rest d none = record { begins = d; none = λ x word behind e h. by x word behind e h (is_spoiled behind) refl }
  where
    whole : (x : Frac) (word : List ℕ) → IsNumber x word → number_at word ≡ Some (x, length word)
    whole x [] h = absurd h
    whole x (w ∷ ws) h = h.1

    by : (x : Frac) (word behind : List ℕ) → c ∷ rest ≡ word ++ behind → IsNumber x word → (b : Bool) → is_spoiled behind ≡ b → is_spoiled behind ≡ true
    by x word behind e h true is = is
    by x word behind e h false is = absurd (none-some (x, length word) (sym none ∙ ap (λ cs. number_at cs) e ∙ number_longer word behind x (whole x word h) is))

pub bad_numbers : BadNumbersAreNone
bad_numbers text ts p lexed = by (stopping text ts (fault.BadNumber p) lexed)
  where
    Goal : Type 0
    Goal = (front : List ℕ) × (c : ℕ) × (rest : List ℕ) × IsFineUpTo text ts front (c ∷ rest) × (p ≡ place_behind front) × LineFollows ts front × BeginsBadNumber c rest

    of : (x : Stopping text ts (fault.BadNumber p)) → Halts x.state x.left x.first x.rest (fault.BadNumber p) → Goal
    of x (char begun en ed eq eo same is) = absurd (clash (fault.BadNumber p) (fault.BadChar x.state.at.place) is refl)
    of x (line begun starts not same how) = absurd (no_line x.state (fault.BadNumber p) (spot_formed x.state x.front (x.first ∷ x.rest) x.walks.spot) not how refl refl)
    of x (bad_number begun first en ed none is) =
        let formed = spot_formed x.state x.front (x.first ∷ x.rest) x.walks.spot in
        let at = ap place_in is ∙ begun_place x.state x.left x.front x.walks.behind formed first in
        (x.front, x.first, x.rest, x.up_to, at, follows_at text ts (fault.BadNumber p) x begun first, bad_number_at x.first x.rest ed none)
    of x (open_text begun first en ed eq none is) = absurd (clash (fault.BadNumber p) (fault.Unclosed x.left.at.place) is refl)
    of x (bracket symbol n begun first token opener room is) = absurd (clash (fault.BadNumber p) (fault.TooDeep x.left.at.place) is refl)

    by : Stopping text ts (fault.BadNumber p) ⊎ AtEnd text ts (fault.BadNumber p) → Goal
    by (inl x) = of x x.halts
    by (inr x) = absurd (clash (fault.BadNumber p) (fault.Unclosed x.opener) x.is refl)

-- ---- texts
opens_text : (c : ℕ) (rest : List ℕ) → is_quote c ≡ true → up_to_quote c false rest ≡ None → OpensText c rest
opens_text c rest q none = record { quote = q; none = no_text }
  where
    no_text : (word behind : List ℕ) → c ∷ rest ≡ word ++ behind → IsQuoted word → ⊥
    no_text [] behind e h = h
    no_text (w ∷ ws) behind e h =
        let first = head_is c w rest (ws ++ behind) e in
        let longer = quote_longer w false ws behind (length ws) h.1 in
        none-some (length ws) (sym none ∙ ap (λ d. up_to_quote d false rest) first ∙ ap (λ cs. up_to_quote w false cs) (tail_is c w rest (ws ++ behind) e) ∙ longer)

-- ---- brackets
at_last : (front : List Place) (last d : Place) → get_or (front ++ last ∷ []) (length front) d ≡ last
at_last [] last d = refl
at_last (x ∷ xs) last d = at_last xs last d

last_place : (front : List Place) (last : Place) → slice_get (front ++ last ∷ []) (length (front ++ last ∷ []) - 1) ≡ Some last
last_place front last =
    let count = length-append front (last ∷ []) in
    let index : length (front ++ last ∷ []) - 1 ≡ length front = omega (arith, count) in
    ap (λ i. slice_get (front ++ last ∷ []) i) index ∙ slice_get-get_or (front ++ last ∷ []) (length front) last (omega (arith, count)) ∙ ap (λ x. Some x) (at_last front last last)

left_open : (ts : List Token) (brackets : List Place) (p : Place) → AreOpen ts brackets → slice_get brackets (length brackets - 1) ≡ Some p → IsLeftOpen ts p
left_open ts [] p are e = absurd (none-some p e)
left_open ts (x ∷ xs) p are e =
    let u = unsnoc x xs in
    let same : u.last ≡ p = same_place u.last p (sym (last_place u.front u.last) ∙ ap (λ zs. slice_get zs (length zs - 1)) (sym u.are) ∙ e) in
    let found = are u.front p [] (u.are ∙ ap (λ z. u.front ++ z ∷ []) same) in
    record { before = found.before; opener = found.opener; behind = found.behind; among = found.among; opens_one = found.opens_one; place = found.place; stays = found.stays; innermost = found.left }
  where
    same_place : (a b : Place) → ◌≡◌ {A = Option Place} (Some a) (Some b) → a ≡ b
    same_place a b e = cc

pub unclosed : UnclosedAreOpen
unclosed text ts p lexed = by (stopping text ts (fault.Unclosed p) lexed)
  where
    Goal : Type 0
    Goal = ((front : List ℕ) × (c : ℕ) × (rest : List ℕ) × IsFineUpTo text ts front (c ∷ rest) × (p ≡ place_behind front) × LineFollows ts front × OpensText c rest)
        ⊎ (IsFineUpTo text ts (chars text) [] × IsLeftOpen ts p)

    of : (x : Stopping text ts (fault.Unclosed p)) → Halts x.state x.left x.first x.rest (fault.Unclosed p) → Goal
    of x (char begun en ed eq eo same is) = absurd (clash (fault.Unclosed p) (fault.BadChar x.state.at.place) is refl)
    of x (line begun starts not same how) = absurd (no_line x.state (fault.Unclosed p) (spot_formed x.state x.front (x.first ∷ x.rest) x.walks.spot) not how refl refl)
    of x (bad_number begun first en ed none is) = absurd (clash (fault.Unclosed p) (fault.BadNumber x.left.at.place) is refl)
    of x (open_text begun first en ed eq none is) =
        let formed = spot_formed x.state x.front (x.first ∷ x.rest) x.walks.spot in
        let at = ap place_in is ∙ begun_place x.state x.left x.front x.walks.behind formed first in
        inl (x.front, x.first, x.rest, x.up_to, at, follows_at text ts (fault.Unclosed p) x begun first, opens_text x.first x.rest eq none)
    of x (bracket symbol n begun first token opener room is) = absurd (clash (fault.Unclosed p) (fault.TooDeep x.left.at.place) is refl)

    by : Stopping text ts (fault.Unclosed p) ⊎ AtEnd text ts (fault.Unclosed p) → Goal
    by (inl x) = of x x.halts
    by (inr x) = inr (x.up_to, subst (IsLeftOpen ts) (sym (ap place_in x.is)) (left_open ts x.state.brackets x.opener x.stacks.are_open x.last))
