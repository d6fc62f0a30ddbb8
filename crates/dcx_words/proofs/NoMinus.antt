-- Operands begin with no minus, so none of them is the option or `--warm`.
use Rattle.std.proofs.Common.{◌≡◌, ◌≢◌, ℕ, ◌+◌, Bool, true, false, not, cond, ◌&&◌, ◌||◌, List, [], ◌∷◌, ◌++◌, Option, Some, None, refl, ap, ◌∙◌, arith, zero-add}
use Rattle.std.specs.Prelude.{nat_le, ◌==◌, option_map}
use Rattle.std.specs.Char.{is_ascii_digit}
use Rattle.std.specs.List.{list_all, list_any, count_by}
use Rattle.std.specs.Str.Parse.{digits_value}
use Rattle.std.proofs.lemmas.Bool.{and_parts, or_parts}
use Rattle.std.proofs.lemmas.Bool.Decides.{nat_tests}
use Rattle.std.proofs.lemmas.List.Sums.{sum_by-cons}
use Rattle.std.proofs.lemmas.Slice.Eq.{bytes_eq-Decides}
use Rattle.dcx_words.specs.Commands.{is_numeral, number_within, without_warm, file_of, files_of, warm_files_of, three_files_of, size_of, is_file, warm_word}
use Rattle.dcx_words.specs.Laws.{is_option, is_warm}

-- a test that no word passes which begins with no minus
pub record IsOfMinus (t : List ℕ → Bool) : Type 0 where
  pub empty : t [] ≡ false
  pub other : (b : ℕ) (bs : List ℕ) → b ≢ 45 → t (b ∷ bs) ≡ false

pub option_of_minus : IsOfMinus is_option
option_of_minus = record { empty = refl; other = by }
  where
    by : (b : ℕ) (bs : List ℕ) → b ≢ 45 → is_option (b ∷ bs) ≡ false
    by b bs h =
        let d : (b == 45) ≡ false = grind (arith, nat_tests) in
        let e : (45 == b) ≡ false = grind (arith, nat_tests) in
        rw (d, e)

pub warm_of_minus : IsOfMinus is_warm
warm_of_minus = record { empty = refl; other = by }
  where
    by : (b : ℕ) (bs : List ℕ) → b ≢ 45 → is_warm (b ∷ bs) ≡ false
    by b bs h =
        let d : (b == 45) ≡ false = grind (arith, nat_tests) in
        rw d

-- ---- words that no word passes
-- no word passes the test
abbrev pub HasNone : (List ℕ → Bool) → List (List ℕ) → Type 0
HasNone t words = list_any t words ≡ false

pub first_counted : (t : List ℕ → Bool) (w : List ℕ) (ws : List (List ℕ)) (b : Bool) → t w ≡ b → count_by t (w ∷ ws) ≡ cond b 1 0 + count_by t ws
first_counted t w ws b h = sum_by-cons (λ x. cond (t x) 1 0) w ws ∙ ap (λ x. cond x 1 0 + count_by t ws) h

pub not_counted : (t : List ℕ → Bool) (w : List ℕ) (ws : List (List ℕ)) → t w ≡ false → count_by t (w ∷ ws) ≡ count_by t ws
not_counted t w ws h = first_counted t w ws false h ∙ zero-add (count_by t ws)

pub none_counted : (t : List ℕ → Bool) (words : List (List ℕ)) → HasNone t words → count_by t words ≡ 0
none_counted t [] h = refl
none_counted t (w ∷ ws) h = let p = or_parts (t w) (list_any t ws) h in not_counted t w ws p.0 ∙ none_counted t ws p.1

pub not_none : (t : List ℕ → Bool) (front back : List (List ℕ)) (word : List ℕ) → t word ≡ true → HasNone t (front ++ word ∷ back) → ⊥
not_none t [] back word d e = let p = or_parts (t word) (list_any t back) e in cc
not_none t (w ∷ ws) back word d e = not_none t ws back word d (or_parts (t w) (list_any t (ws ++ word ∷ back)) e).1

pub none_in : (t : List ℕ → Bool) (front back : List (List ℕ)) → HasNone t (front ++ back) → HasNone t front × HasNone t back
none_in t [] back h = (refl, h)
none_in t (w ∷ ws) back h =
    let p = or_parts (t w) (list_any t (ws ++ back)) h in
    let q = none_in t ws back p.1 in
    (ap (λ b. b || list_any t ws) p.0 ∙ q.0, q.1)

-- ---- operands
digit_is_no_minus : (b : ℕ) → is_ascii_digit b ≡ true → b ≢ 45
digit_is_no_minus b h = grind (arith, nat_tests)

when_some : (b : Bool) (m n : ℕ) → cond b (Some m) None ≡ Some n → b ≡ true
when_some true m n h = refl
when_some false m n h = cc

module _ (t : List ℕ → Bool) (minus : IsOfMinus t) where
  file_passes_none : (word : List ℕ) → is_file word ≡ true → t word ≡ false
  file_passes_none [] h = minus.empty
  file_passes_none (b ∷ bs) h = minus.other b bs (λ e. by (b == 45) (grind (arith, nat_tests)) h)
    where
      by : (t : Bool) → t ≡ true → not t ≡ true → ⊥
      by true e d = cc
      by false e d = cc

  digits_pass_none : (word : List ℕ) → list_all is_ascii_digit word ≡ true → t word ≡ false
  digits_pass_none [] h = minus.empty
  digits_pass_none (b ∷ bs) h = minus.other b bs (digit_is_no_minus b (and_parts _ _ h).0)

  pub number_passes_none : (longest least most n : ℕ) (word : List ℕ) → number_within longest least most word ≡ Some n → t word ≡ false
  number_passes_none longest least most n word h =
      let t = when_some (is_numeral longest word && nat_le least (digits_value 10 word) && nat_le (digits_value 10 word) most) (digits_value 10 word) n h in
      digits_pass_none word (and_parts _ _ (and_parts _ _ (and_parts _ _ t).0).0).1

  alone : (word : List ℕ) → t word ≡ false → HasNone t (word ∷ [])
  alone word h = ap (λ b. b || false) h

  pair : (first second : List ℕ) → t first ≡ false → t second ≡ false → HasNone t (first ∷ second ∷ [])
  pair first second h k = ap (λ b. b || (t second || false)) h ∙ ap (λ b. b || false) k

  triple : (first second third : List ℕ) → t first ≡ false → t second ≡ false → t third ≡ false → HasNone t (first ∷ second ∷ third ∷ [])
  triple first second third h k l = ap (λ b. b || (t second || (t third || false))) h ∙ pair second third k l

  pub file_operand : (words : List (List ℕ)) (script : List ℕ) → file_of words ≡ Some script → HasNone t words
  file_operand [] script h = cc
  file_operand (w ∷ []) script h = by (is_file w) refl h
    where
      by : (b : Bool) → is_file w ≡ b → cond b (Some w) None ≡ Some script → HasNone t (w ∷ [])
      by true e d = alone w (file_passes_none w e)
      by false e d = cc
  file_operand (w ∷ v ∷ ws) script h = cc

  pub file_operands : (words : List (List ℕ)) (files : List ℕ × List ℕ) → files_of words ≡ Some files → HasNone t words
  file_operands [] files h = cc
  file_operands (w ∷ []) files h = cc
  file_operands (w ∷ v ∷ []) files h = by (is_file w && is_file v) refl h
    where
      by : (b : Bool) → (is_file w && is_file v) ≡ b → cond b (Some (w, v)) None ≡ Some files → HasNone t (w ∷ v ∷ [])
      by true e d = let p = and_parts _ _ e in pair w v (file_passes_none w p.0) (file_passes_none v p.1)
      by false e d = cc
  file_operands (w ∷ v ∷ u ∷ ws) files h = cc

  pub three_file_operands : (words : List (List ℕ)) (files : List ℕ × List ℕ × List ℕ) → three_files_of words ≡ Some files → HasNone t words
  three_file_operands [] files h = cc
  three_file_operands (w ∷ []) files h = cc
  three_file_operands (w ∷ v ∷ []) files h = cc
  three_file_operands (w ∷ v ∷ u ∷ []) files h = by (is_file w && is_file v && is_file u) refl h
    where
      by : (b : Bool) → (is_file w && is_file v && is_file u) ≡ b → cond b (Some (w, v, u)) None ≡ Some files → HasNone t (w ∷ v ∷ u ∷ [])
      by true e d = let p = and_parts _ _ e in let q = and_parts _ _ p.0 in triple w v u (file_passes_none w q.0) (file_passes_none v q.1) (file_passes_none u p.1)
      by false e d = cc
  three_file_operands (w ∷ v ∷ u ∷ s ∷ ws) files h = cc

  pub size_operand : (words : List (List ℕ)) (n : ℕ) → size_of words ≡ Some n → HasNone t words
  size_operand [] n h = cc
  size_operand (w ∷ []) n h = alone w (number_passes_none 4 1 1000 n w h)
  size_operand (w ∷ v ∷ ws) n h = cc

-- ---- operands beside `--warm`
-- the files beside `--warm`
pub beside_warm : (words : List (List ℕ)) (files : List ℕ × List ℕ × Bool) → warm_files_of words ≡ Some files
    → (files_of (without_warm words).0 ≡ Some (files.0, files.1)) × ((without_warm words).1 ≡ files.2)
beside_warm words files = by (files_of (without_warm words).0) refl
  where
    by : (f : Option (List ℕ × List ℕ)) → files_of (without_warm words).0 ≡ f → option_map (λ (x : List ℕ × List ℕ). (x.0, x.1, (without_warm words).1)) f ≡ Some files
        → (files_of (without_warm words).0 ≡ Some (files.0, files.1)) × ((without_warm words).1 ≡ files.2)
    by None d e = cc
    by (Some f) d e =
        let is : (f.0, f.1, (without_warm words).1) ≡ files = cc in
        (d ∙ ap (λ (x : List ℕ × List ℕ × Bool). Some (x.0, x.1)) is, ap (λ (x : List ℕ × List ℕ × Bool). x.2) is)

-- `--warm` is taken out: where the first word is it, and where it isn't
abbrev pub first_taken : (w : List ℕ) (ws : List (List ℕ)) → Bool → List (List ℕ) × Bool
first_taken w ws b = cond b (ws, true) (w ∷ (without_warm ws).0, (without_warm ws).1)

-- a test that `--warm` doesn't pass
pub kept : (t : List ℕ → Bool) → t warm_word ≡ false → (words : List (List ℕ)) → HasNone t (without_warm words).0 → HasNone t words
kept t fails [] h = refl
kept t fails (w ∷ ws) h = by (kept t fails ws) (is_warm w) refl h
  where
    by : (HasNone t (without_warm ws).0 → HasNone t ws) → (b : Bool) → is_warm w ≡ b → HasNone t (first_taken w ws b).0 → HasNone t (w ∷ ws)
    by rest true e k = let same : w ≡ warm_word = (bytes_eq-Decides w warm_word).0 e in ap (λ b. b || list_any t ws) (ap t same ∙ fails) ∙ k
    by rest false e k = let p = or_parts (t w) (list_any t (without_warm ws).0) k in ap (λ b. b || list_any t ws) p.0 ∙ rest p.1

-- ---- words of which one begins with a minus
-- no operands are words of which one passes
pub none_with : {X : Type 0} (t : List ℕ → Bool) (f : List (List ℕ) → Option X) (front back : List (List ℕ)) (word : List ℕ) → ((words : List (List ℕ)) (x : X) → f words ≡ Some x → HasNone t words)
    → t word ≡ true → f (front ++ word ∷ back) ≡ None
none_with {X = X} t f front back word h d = by (f (front ++ word ∷ back)) refl
  where
    by : (o : Option X) → f (front ++ word ∷ back) ≡ o → o ≡ None
    by None e = refl
    by (Some x) e = absurd (not_none t front back word d (h (front ++ word ∷ back) x e))
