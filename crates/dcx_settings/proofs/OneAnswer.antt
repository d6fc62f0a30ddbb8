-- A file is read one way.
use Rattle.std.proofs.Common.{◌≡◌, ℕ, ◌+◌, ◌-◌, ◌<◌, ◌≤◌, List, ◌∷◌, ◌++◌, length, take, drop, Option, Some, None, sym, ap, ◌∙◌, subst, arith, append_assoc, length-append, ◌⊎◌, ⊎_elim}
use Rattle.std.proofs.lemmas.List.{length-map, length-drop}
use Rattle.std.proofs.lemmas.Option.{slice_get_past}
use Rattle.dcx_tokens.specs.declared.fault.ReadFault.{ReadFault}
use Rattle.dcx_tokens.specs.declared.fault.ReadFault.TheVariants as fault
use Rattle.dcx_tokens.specs.declared.token.Token.{Token}
use Rattle.dcx_tokens.proofs.Fronts.{further}
use Rattle.dcx_tokens.proofs.OneReading.{one_reading}
use Rattle.dcx_tokens.proofs.Texts.{text_apart, no_text_one}
use Rattle.dcx_settings.specs.declared.settings.SettingItem.{SettingItem}
use Rattle.dcx_settings.specs.Terminal.{Terminal, terminals, terminal_of}
use Rattle.dcx_settings.specs.Grammar.{settings_text}
use Rattle.dcx_settings.specs.Reading.{GoesOn, IsUnexpected}
use Rattle.dcx_settings.specs.File.{most_settings, place_at, place_or_end, HasFault, divided, ended, AreNoSettings, unexpected, too_many}
use Rattle.dcx_settings.specs.File.{AreFewSettings, HasTokens, HasAllTokens, IsRefused, no_text, no_tokens, no_settings, SpellSettings}
use Rattle.dcx_settings.proofs.OneReading.{spelled_apart}
use Rattle.dcx_settings.proofs.Viability.{one_spelling}
use Rattle.dcx_settings.proofs.Files.{before_or_from, length-lines}

-- ---- the token that is unexpected
no_further : (us rest other : List Terminal) (u : IsUnexpected us rest) (v : IsUnexpected us other) → length u.front < length v.front → ⊥
no_further us rest other u v l =
    let r = further u.front v.front rest other (sym u.parts ∙ v.parts) l in
    let on : settings_text v.lines ≡ u.front ++ r.token ∷ (r.more ++ v.more) = v.begun ∙ ap (λ x. x ++ v.more) r.longer_is ∙ append_assoc u.front (r.token ∷ r.more) v.more in
    u.never v.lines v.good (subst (GoesOn (settings_text v.lines) u.front) (sym r.rest_is) (r.more ++ v.more, on))

same_front : (us rest other : List Terminal) (u : IsUnexpected us rest) (v : IsUnexpected us other) → length u.front ≡ length v.front
same_front us rest other u v =
    let low = no_less u v (before_or_from (length v.front) (length u.front)) in
    let high = no_less v u (before_or_from (length u.front) (length v.front)) in
    omega (arith, low, high)
  where
    no_less : {a b : List Terminal} (p : IsUnexpected us a) (q : IsUnexpected us b) → (length p.front < length q.front) ⊎ (length q.front ≤ length p.front) → length q.front ≤ length p.front
    no_less {a} {b} p q h = ⊎_elim (λ l. absurd (no_further us a b p q l)) (λ g. g) h

left : (us : List Terminal) (i : ℕ) (u : IsUnexpected us (drop i us)) → length us ≡ length u.front + (length us - i)
left us i u = ap length u.parts ∙ length-append u.front (drop i us) ∙ ap (λ n. length u.front + n) (length-drop i us)

same_place : (text : List ℕ) (ts : List Token) (i j : ℕ) → IsUnexpected (terminals text ts) (drop i (terminals text ts))
    → IsUnexpected (terminals text ts) (drop j (terminals text ts)) → place_at text ts i ≡ place_at text ts j
same_place text ts i j u v = ⊎_elim inside behind (before_or_from (length ts) i)
  where
    all : length (terminals text ts) ≡ length ts
    all = length-map ts (terminal_of text)

    same : length ts - i ≡ length ts - j
    same = let a = left (terminals text ts) i u in let b = left (terminals text ts) j v in let f = same_front _ _ _ u v in let c = all in omega (arith, a, b, f, c)

    inside : i < length ts → place_at text ts i ≡ place_at text ts j
    inside l = let e : i ≡ j = (let s = same in omega (arith, s, l)) in ap (place_at text ts) e

    behind : length ts ≤ i → place_at text ts i ≡ place_at text ts j
    behind l = let m : length ts ≤ j = (let s = same in omega (arith, s, l)) in ap (place_or_end text) (slice_get_past ts i l ∙ sym (slice_get_past ts j m))

-- ---- faults
no_settings_one : (text : List ℕ) (ts : List Token) (f g : ReadFault) → AreNoSettings text ts f → AreNoSettings text ts g → f ≡ g
no_settings_one text ts f g (unexpected i u e) (unexpected j v d) = e ∙ ap fault.Unexpected (same_place text ts i j u v) ∙ sym d
no_settings_one text ts f g (too_many lines s m e) (too_many others t n d) =
    e ∙ ap (λ ls. fault.TooLong (place_at text ts (length (settings_text (take most_settings ls))))) (one_spelling (terminals text ts) lines others s t) ∙ sym d
no_settings_one text ts f g (unexpected i u e) (too_many lines s m d) = absurd (spelled_apart _ _ lines s u)
no_settings_one text ts f g (too_many lines s m e) (unexpected i u d) = absurd (spelled_apart _ _ lines s u)

fault_one : (text : List ℕ) (ts : List Token) (end : Option ReadFault) (f g : ReadFault) → HasFault text ts end f → HasFault text ts end g → f ≡ g
fault_one text ts end f g (divided i h e) (divided j k d) =
    let a = h.first j k.divides in
    let b = k.first i h.divides in
    let same : i ≡ j = omega (arith, a, b) in
    e ∙ ap (λ n. fault.BadNumber (place_at text ts n)) same ∙ sym d
fault_one text ts end f g (ended n e) (ended m d) = let s : Some f ≡ Some g = sym e ∙ d in cc
fault_one text ts end f g (divided i h e) (ended n d) = absurd (n i h.divides)
fault_one text ts end f g (ended n d) (divided i h e) = absurd (n i h.divides)

-- tokens to the end have no fault
whole_apart : (bytes : List ℕ) (ts us : List Token) (end : Option ReadFault) (f : ReadFault) → HasTokens bytes ts end → HasAllTokens bytes us → HasFault bytes ts end f → ⊥
whole_apart bytes ts us end f t a h =
    let s = one_reading t.lexed a.tokens.lexed in
    by (subst (λ x. HasFault bytes us x f) s.1 (subst (λ x. HasFault bytes x end f) s.0 h))
  where
    by : HasFault bytes us None f → ⊥
    by (divided i k e) = a.never i k.divides
    by (ended n e) = cc

pub refused_one : (bytes : List ℕ) (f g : ReadFault) → IsRefused bytes f → IsRefused bytes g → f ≡ g
refused_one bytes f g (no_text h) (no_text k) = no_text_one bytes f g h k
refused_one bytes f g (no_tokens ts end t h) (no_tokens us other u k) =
    let s = one_reading u.lexed t.lexed in
    fault_one bytes ts end f g h (subst (λ x. HasFault bytes x end g) s.0 (subst (λ x. HasFault bytes us x g) s.1 k))
refused_one bytes f g (no_settings ts t h) (no_settings us u k) =
    let s = one_reading u.tokens.lexed t.tokens.lexed in
    no_settings_one bytes ts f g h (subst (λ x. AreNoSettings bytes x g) s.0 k)
refused_one bytes f g (no_text h) (no_tokens ts end t k) = absurd (text_apart bytes f t.text h)
refused_one bytes f g (no_text h) (no_settings ts t k) = absurd (text_apart bytes f t.tokens.text h)
refused_one bytes f g (no_tokens ts end t h) (no_text k) = absurd (text_apart bytes g t.text k)
refused_one bytes f g (no_settings ts t h) (no_text k) = absurd (text_apart bytes g t.tokens.text k)
refused_one bytes f g (no_tokens ts end t h) (no_settings us u k) = absurd (whole_apart bytes ts us end f t u h)
refused_one bytes f g (no_settings ts t h) (no_tokens us end u k) = absurd (whole_apart bytes us ts end g u t k)

few_apart : (text : List ℕ) (ts : List Token) (settings : List (List SettingItem)) (f : ReadFault) → AreFewSettings (terminals text ts) settings → AreNoSettings text ts f → ⊥
few_apart text ts settings f s (unexpected i u e) = spelled_apart _ _ s.spelled.lines s.spelled.spelled u
few_apart text ts settings f s (too_many lines t m e) =
    let same = ap length (one_spelling (terminals text ts) lines s.spelled.lines t s.spelled.spelled) in
    let count = length-lines s.spelled.lines settings s.spelled.lines_are in
    let few = s.few in
    omega (arith, same, count, few, m)

pub settings_apart : (bytes : List ℕ) (settings : List (List SettingItem)) (f : ReadFault) → SpellSettings bytes settings → IsRefused bytes f → ⊥
settings_apart bytes settings f s (no_text h) = text_apart bytes f s.all.tokens.text h
settings_apart bytes settings f s (no_tokens ts end t h) = whole_apart bytes ts s.tokens end f t s.all h
settings_apart bytes settings f s (no_settings ts t h) =
    let r = one_reading t.tokens.lexed s.all.tokens.lexed in
    few_apart bytes s.tokens settings f s.settings_are (subst (λ x. AreNoSettings bytes x f) r.0 h)
