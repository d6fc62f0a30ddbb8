-- The sizes that a command line asks for lie from 1 to 1,000.
use Rattle.std.proofs.Common.{◌≡◌, ℕ, ◌≤◌, Bool, true, false, cond, ◌&&◌, nat_le, List, [], ◌∷◌, Some, None, refl, arith}
use Rattle.std.specs.Str.Parse.{digits_value}
use Rattle.std.proofs.lemmas.Bool.{and_parts, leb-true}
use Rattle.dcx_words.specs.Commands.{is_numeral, size_of}

pub record IsBounded (size : ℕ) : Type 0 where
  pub some : 1 ≤ size
  pub most : size ≤ 1000

-- the test of a word, and the number that it spells
abbrev number_of : List ℕ → ℕ
number_of word = digits_value 10 word

abbrev passes : List ℕ → Bool
passes word = is_numeral 4 word && nat_le 1 (number_of word) && nat_le (number_of word) 1000

pub bounded : (words : List (List ℕ)) (size : ℕ) → size_of words ≡ Some size → IsBounded size
bounded [] size e = absurd cc
bounded (word ∷ v ∷ words) size e = absurd cc
bounded (word ∷ []) size e = by (passes word) refl e
  where
    by : (b : Bool) → passes word ≡ b → cond b (Some (number_of word)) None ≡ Some size → IsBounded size
    by false t s = absurd cc
    by true t s =
        let same : number_of word ≡ size = cc in
        let both = and_parts (is_numeral 4 word && nat_le 1 (number_of word)) (nat_le (number_of word) 1000) t in
        let least = and_parts (is_numeral 4 word) (nat_le 1 (number_of word)) both.0 in
        let some : 1 ≤ number_of word = leb-true 1 (number_of word) least.1 in
        let most : number_of word ≤ 1000 = leb-true (number_of word) 1000 both.1 in
        record { some = omega (arith, same, some); most = omega (arith, same, most) }
