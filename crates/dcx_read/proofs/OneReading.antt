-- Bytes are read one way: as one script, or with one first fault.
use Rattle.std.proofs.Common.{◌≡◌, ℕ, ◌+◌, ◌<◌, List, [], ◌∷◌, ◌++◌, length, Some, Ok, Err, refl, sym, ap, ◌∙◌, subst, arith, append_assoc, length-append}
use Rattle.std.proofs.lemmas.List.{length-map}
use Rattle.dcx_shape.specs.declared.place.Place.{Place}
use Rattle.dcx_tokens.specs.declared.fault.ReadFault.{ReadFault}
use Rattle.dcx_tokens.specs.declared.fault.ReadFault.TheVariants as fault
use Rattle.dcx_tokens.specs.declared.token.Token.{Token}
use Rattle.dcx_tokens.specs.Position.{end_of}
use Rattle.dcx_tokens.proofs.Fronts.{further}
use Rattle.dcx_tokens.proofs.OneReading.{one_reading}
use Rattle.dcx_tokens.proofs.Texts.{text_apart, no_text_one}
use Rattle.dcx_syntax.specs.declared.tree.Script.{Script}
use Rattle.dcx_syntax.specs.Terminal.{Terminal}
use Rattle.dcx_read.specs.Terminals.{terminals, terminal_of}
use Rattle.dcx_syntax.specs.Statements.{lines_text, trimmed_all}
use Rattle.dcx_syntax.specs.View.{script_view}
use Rattle.dcx_read.specs.Whole.{GoesOn, IsUnexpected}
use Rattle.dcx_read.specs.Parses.{first_place, IsUnexpectedAt, HasTokens, HasNoTokens, no_text, no_tokens, IsReading}
use Rattle.dcx_read.proofs.Whole.{apart}

-- ---- the token that is unexpected
no_further : (us rest other : List Terminal) (u : IsUnexpected us rest) (v : IsUnexpected us other) → length u.front < length v.front → ⊥
no_further us rest other u v l =
    let r = further u.front v.front rest other (sym u.parts ∙ v.parts) l in
    let on : lines_text v.tree ≡ u.front ++ r.token ∷ (r.more ++ v.more) = v.begun ∙ ap (λ x. x ++ v.more) r.longer_is ∙ append_assoc u.front (r.token ∷ r.more) v.more in
    u.never v.tree (subst (GoesOn (lines_text v.tree) u.front) (sym r.rest_is) (r.more ++ v.more, on))

-- what is left from the first unexpected terminal on is as long
one_length : (us rest other : List Terminal) → IsUnexpected us rest → IsUnexpected us other → length rest ≡ length other
one_length us rest other u v =
    let low = no_further us rest other u v in
    let high = no_further us other rest v u in
    let a : length us ≡ length u.front + length rest = ap length u.parts ∙ length-append u.front rest in
    let b : length us ≡ length v.front + length other = ap length v.parts ∙ length-append v.front other in
    omega (arith, low, high, a, b)

-- ends of one list that are as long are one
one_end : {A : Type 0} (xs ys us vs : List A) → xs ++ us ≡ ys ++ vs → length us ≡ length vs → us ≡ vs
one_end [] [] us vs e l = e
one_end [] (y ∷ ys) us vs e l = absurd (let n : length us ≡ length (y ∷ ys) + length vs = ap length e ∙ length-append (y ∷ ys) vs in omega (arith, n, l))
one_end (x ∷ xs) [] us vs e l = absurd (let n : length vs ≡ length (x ∷ xs) + length us = ap length (sym e) ∙ length-append (x ∷ xs) us in omega (arith, n, l))
one_end (x ∷ xs) (y ∷ ys) us vs e l = let rest : xs ++ us ≡ ys ++ vs = cc in one_end xs ys us vs rest l

one_place : (text : List ℕ) (tokens : List Token) (end p q : Place) → IsUnexpectedAt text tokens end p → IsUnexpectedAt text tokens end q → p ≡ q
one_place text tokens end p q h k =
    let count = one_length (terminals text tokens) (terminals text h.rest) (terminals text k.rest) h.unexpected k.unexpected in
    let long : length h.rest ≡ length k.rest = sym (length-map h.rest (terminal_of text)) ∙ count ∙ length-map k.rest (terminal_of text) in
    let rest = one_end h.before k.before h.rest k.rest (sym h.parts ∙ k.parts) long in
    h.at ∙ ap (λ ts. first_place ts end) rest ∙ sym k.at

-- ---- faults
-- why reading a script has a fault
data Cause (bytes : List ℕ) (f : ReadFault) : Type 0 where
  unexpected : (place : Place) → f ≡ fault.Unexpected place → (tokens : List Token) → HasTokens bytes tokens → IsUnexpectedAt bytes tokens (end_of bytes) place → Cause bytes f
  unlexed : HasNoTokens bytes f → Cause bytes f
  no_memory : f ≡ fault.Memory → Cause bytes f

cause : (bytes : List ℕ) (f : ReadFault) → IsReading bytes (Err f) → Cause bytes f
cause bytes (fault.NotText p) h = unlexed h
cause bytes (fault.BadChar p) h = unlexed h
cause bytes (fault.BadNumber p) h = unlexed h
cause bytes (fault.Unclosed p) h = unlexed h
cause bytes (fault.Indent p) h = unlexed h
cause bytes (fault.Unexpected p) h = unexpected p refl h.0 h.1.0 h.1.1
cause bytes (fault.TooDeep p) h = unlexed h
cause bytes (fault.TooLong p) h = unlexed h
cause bytes fault.Memory h = no_memory refl

-- all tokens of a text are not those up to a fault
tokens_apart : (bytes : List ℕ) (tokens : List Token) (f : ReadFault) → HasTokens bytes tokens → HasNoTokens bytes f → ⊥
tokens_apart bytes tokens f t (no_text h) = text_apart bytes f t.text h
tokens_apart bytes tokens f t (no_tokens us text lexed) = let ends = (one_reading t.lexed lexed).1 in cc

no_tokens_one : (bytes : List ℕ) (f g : ReadFault) → HasNoTokens bytes f → HasNoTokens bytes g → f ≡ g
no_tokens_one bytes f g (no_text h) (no_text k) = no_text_one bytes f g h k
no_tokens_one bytes f g (no_text h) (no_tokens us text lexed) = absurd (text_apart bytes f text h)
no_tokens_one bytes f g (no_tokens ts text lexed) (no_text k) = absurd (text_apart bytes g text k)
no_tokens_one bytes f g (no_tokens ts text lexed) (no_tokens us other also) = let ends : Some f ≡ Some g = (one_reading lexed also).1 in cc

one_cause : (bytes : List ℕ) (f g : ReadFault) → ¬ (f ≡ fault.Memory) → ¬ (g ≡ fault.Memory) → Cause bytes f → Cause bytes g → f ≡ g
one_cause bytes f g m n (no_memory e) c = absurd (m e)
one_cause bytes f g m n (unlexed h) (no_memory e) = absurd (n e)
one_cause bytes f g m n (unlexed h) (unlexed k) = no_tokens_one bytes f g h k
one_cause bytes f g m n (unlexed h) (unexpected q d us u k) = absurd (tokens_apart bytes us f u h)
one_cause bytes f g m n (unexpected p e ts t h) (no_memory d) = absurd (n d)
one_cause bytes f g m n (unexpected p e ts t h) (unlexed k) = absurd (tokens_apart bytes ts g t k)
one_cause bytes f g m n (unexpected p e ts t h) (unexpected q d us u k) =
    let tokens : us ≡ ts = (one_reading u.lexed t.lexed).0 in
    let place = one_place bytes ts (end_of bytes) p q h (subst (λ x. IsUnexpectedAt bytes x (end_of bytes) q) tokens k) in
    e ∙ ap fault.Unexpected place ∙ sym d

-- bytes have one first fault
pub one_fault : (bytes : List ℕ) (f g : ReadFault) → ¬ (f ≡ fault.Memory) → ¬ (g ≡ fault.Memory) → IsReading bytes (Err f) → IsReading bytes (Err g) → f ≡ g
one_fault bytes f g m n h k = one_cause bytes f g m n (cause bytes f h) (cause bytes g k)

-- ---- scripts
-- bytes that are a script have no fault
pub script_apart : (bytes : List ℕ) (script : Script) (f : ReadFault) → ¬ (f ≡ fault.Memory) → IsReading bytes (Ok script) → IsReading bytes (Err f) → ⊥
script_apart bytes script f m h k = by (cause bytes f k)
  where
    by : Cause bytes f → ⊥
    by (no_memory e) = m e
    by (unlexed n) = tokens_apart bytes h.0 f h.1.0 n
    by (unexpected q d us u v) =
        let tokens : h.0 ≡ us = (one_reading h.1.0.lexed u.lexed).0 in
        let spelled : lines_text h.1.1.tree ≡ terminals bytes us = h.1.1.spelled.spelled ∙ ap (terminals bytes) tokens in
        apart (terminals bytes us) (terminals bytes v.rest) h.1.1.tree v.unexpected spelled

-- bytes spell one script
pub one_script : (bytes : List ℕ) (script other : Script) → IsReading bytes (Ok script) → IsReading bytes (Ok other) → script_view script ≡ script_view other
one_script bytes script other h k =
    let tokens : h.0 ≡ k.0 = (one_reading h.1.0.lexed k.1.0.lexed).0 in
    let spelled : lines_text h.1.1.tree ≡ terminals bytes k.0 = h.1.1.spelled.spelled ∙ ap (terminals bytes) tokens in
    h.1.1.kept ∙ ap trimmed_all (k.1.1.spelled.only h.1.1.tree spelled) ∙ sym k.1.1.kept
