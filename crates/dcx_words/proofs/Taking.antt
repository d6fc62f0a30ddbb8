-- The option is taken out of the words.
use Rattle.std.proofs.Common.{◌≡◌, ℕ, suc, ◌+◌, ◌-◌, ◌<◌, add-one, true, false, cond, List, [], ◌∷◌, ◌++◌, length, map, take, drop, get_or}
use Rattle.std.proofs.Common.{Option, Some, None, MatchOption, option_map, refl, sym, ap, ◌∙◌, subst, append_assoc, Bor}
use Rattle.std.specs.Prelude.{nat_eq, bytes_eq}
use Rattle.std.specs.List.{starts_with}
use Rattle.std.specs.Str.Pattern.{FindsTextPrefix, StripsPrefix}
use Rattle.std.specs.Str.{IsCharBoundary}
use Rattle.std.proofs.lemmas.List.{take_more, map-append, length-drop}
use Rattle.std.proofs.Math.Seq.{drop-cons, take-length}
use Rattle.std.proofs.lemmas.Str.Pattern.{starts_text}
use Rattle.dcx_words.specs.Commands.{Operands, option_word, option_front, put_before, limited, limited_by_next, without_option}

-- what is stripped off a text
pub front_stripped : (n s : List ℕ) (r : Option (Bor (List ℕ))) → MatchOption r (FindsTextPrefix n s None) (λ x. StripsPrefix (FindsTextPrefix n) s x.now)
    → MatchOption r (starts_with nat_eq s n ≡ false) (λ x. (starts_with nat_eq s n ≡ true) × (x.now ≡ drop (length n) s))
front_stripped n s None h = sym (starts_text false n s h)
front_stripped n s (Some x) h = (sym (starts_text true n s (h.0, h.1, subst (IsCharBoundary s) (sym h.1.0) h.1.2)), h.2 ∙ ap (λ k. drop k s) h.1.0)

-- ---- the first word
at_word : (w : List ℕ) (ws : List (List ℕ)) → bytes_eq w option_word ≡ true → without_option (w ∷ ws) ≡ limited_by_next ws
at_word w ws e = ap (λ b. cond b (limited_by_next ws) (cond (starts_with nat_eq w option_front) (limited (drop (length option_front) w) ws) (option_map (put_before (w ∷ [])) (without_option ws)))) e

at_front : (w : List ℕ) (ws : List (List ℕ)) → bytes_eq w option_word ≡ false → starts_with nat_eq w option_front ≡ true → without_option (w ∷ ws) ≡ limited (drop (length option_front) w) ws
at_front w ws e d = rw (e, d)

pub at_operand : (w : List ℕ) (ws : List (List ℕ)) → bytes_eq w option_word ≡ false → starts_with nat_eq w option_front ≡ false
    → without_option (w ∷ ws) ≡ option_map (put_before (w ∷ [])) (without_option ws)
at_operand w ws e d = rw (e, d)

pub put_twice : (xs ys : List (List ℕ)) (o : Option Operands) → option_map (put_before xs) (option_map (put_before ys) o) ≡ option_map (put_before (xs ++ ys)) o
put_twice xs ys None = refl
put_twice xs ys (Some o) = ap (λ ws. let p : Operands = record { words = ws; limit = o.limit } in Some p) (sym (append_assoc xs ys o.words))

-- ---- the word at a place
-- the words from a place on, where this word stands
record StandsAt {X : Type 0} (f : X → List ℕ) (words : List X) (i : ℕ) (w : List ℕ) : Type 0 where
  from : map f (drop i words) ≡ w ∷ map f (drop (i + 1) words)
  to : map f (take (i + 1) words) ≡ map f (take i words) ++ w ∷ []

stands_at : {X : Type 0} (f : X → List ℕ) (words : List X) (i : ℕ) (x : X) → i < length words → x ≡ get_or words i x → StandsAt f words i (f x)
stands_at f words i x l e = record {
  from = ap (map f) (by (drop-cons words i x l ∙ ap (λ y. y ∷ drop (suc i) words) (sym e)));
  to = ap (map f) (take_more words i x l) ∙ map-append f (take i words) (get_or words i x ∷ []) ∙ ap (λ y. map f (take i words) ++ f y ∷ []) (sym e);
}
  where
    by : drop i words ≡ x ∷ drop (suc i) words → drop i words ≡ x ∷ drop (i + 1) words
    by h = rw add-one h

behind : {X : Type 0} (words : List X) (i : ℕ) → take (length words - i) (drop i words) ≡ drop i words
behind words i = ap (λ n. take n (drop i words)) (sym (length-drop i words)) ∙ take-length (drop i words)

-- what the words before i stand before
abbrev pub StandBefore : {X : Type 0} → (X → List ℕ) → List X → ℕ → Type 0
StandBefore f words i = without_option (map f words) ≡ option_map (put_before (map f (take i words))) (without_option (map f (drop i words)))

-- this word is read at a place
pub record IsReadAt {X : Type 0} (f : X → List ℕ) (words : List X) (i : ℕ) (x : X) (word : List ℕ) : Type 0 where
  pub within : i < length words
  pub is : x ≡ get_or words i x
  pub text : word ≡ f x
  pub before : StandBefore f words i

pub found_word : {X : Type 0} (f : X → List ℕ) (words : List X) (i : ℕ) (x : X) (word : List ℕ) → IsReadAt f words i x word → bytes_eq word option_word ≡ true
    → without_option (map f words) ≡ option_map (put_before (map f (take i words))) (limited_by_next (map f (take (length words - (i + 1)) (drop (i + 1) words))))
found_word f words i x word h d =
    h.before ∙ ap (λ ws. option_map (put_before (map f (take i words))) (without_option ws)) (stands_at f words i x h.within h.is).from
    ∙ ap (option_map (put_before (map f (take i words)))) (at_word (f x) (map f (drop (i + 1) words)) (subst (λ w. bytes_eq w option_word ≡ true) h.text d))
    ∙ ap (λ ws. option_map (put_before (map f (take i words))) (limited_by_next (map f ws))) (sym (behind words (i + 1)))

pub found_front : {X : Type 0} (f : X → List ℕ) (words : List X) (i : ℕ) (x : X) (word text : List ℕ) → IsReadAt f words i x word → bytes_eq word option_word ≡ false
    → (starts_with nat_eq word option_front ≡ true) × (text ≡ drop (length option_front) word)
    → without_option (map f words) ≡ option_map (put_before (map f (take i words))) (limited text (map f (take (length words - (i + 1)) (drop (i + 1) words))))
found_front f words i x word text h d b =
    let front = at_front (f x) (map f (drop (i + 1) words)) (subst (λ w. bytes_eq w option_word ≡ false) h.text d) (subst (λ w. starts_with nat_eq w option_front ≡ true) h.text b.0) in
    h.before ∙ ap (λ ws. option_map (put_before (map f (take i words))) (without_option ws)) (stands_at f words i x h.within h.is).from
    ∙ ap (option_map (put_before (map f (take i words)))) front
    ∙ ap (λ t. option_map (put_before (map f (take i words))) (limited t (map f (drop (i + 1) words)))) (ap (drop (length option_front)) (sym h.text) ∙ sym b.1)
    ∙ ap (λ ws. option_map (put_before (map f (take i words))) (limited text (map f ws))) (sym (behind words (i + 1)))

pub found_operand : {X : Type 0} (f : X → List ℕ) (words : List X) (i : ℕ) (x : X) (word : List ℕ) → IsReadAt f words i x word → bytes_eq word option_word ≡ false
    → starts_with nat_eq word option_front ≡ false
    → StandBefore f words (i + 1)
found_operand f words i x word h d b =
    let s = stands_at f words i x h.within h.is in
    let operand = at_operand (f x) (map f (drop (i + 1) words)) (subst (λ w. bytes_eq w option_word ≡ false) h.text d) (subst (λ w. starts_with nat_eq w option_front ≡ false) h.text b) in
    h.before ∙ ap (λ ws. option_map (put_before (map f (take i words))) (without_option ws)) s.from
    ∙ ap (option_map (put_before (map f (take i words)))) operand
    ∙ put_twice (map f (take i words)) (f x ∷ []) (without_option (map f (drop (i + 1) words)))
    ∙ ap (λ front. option_map (put_before front) (without_option (map f (drop (i + 1) words)))) (sym s.to)
