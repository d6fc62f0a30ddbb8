-- The bytes of characters.
use Rattle.std.proofs.Common.{◌≡◌, ℕ, suc, ◌+◌, ◌<◌, ◌≤◌, List, [], ◌∷◌, length, take, drop, get_or, IsUtf8, refl, sym, ap, ◌∙◌, subst, add-one, arith, length-append}
use Rattle.std.specs.Char.{len_utf8}
use Rattle.std.proofs.lemmas.List.Sums.{sum_by-take-drop, sum_by-cons}
use Rattle.std.specs.Str.{chars, encode_utf8_all}
use Rattle.std.proofs.Math.Seq.{drop-cons}
use Rattle.std.proofs.lemmas.Str.{len_utf8_bounds, length-encode, encodes-chars}
use lib.Utf8.{encode}
use Rattle.dcx_tokens.specs.declared.position.Position.{Position}
use Rattle.dcx_tokens.specs.Position.{bytes_of, moved_over, next_at}

-- a list has the bytes of its two parts
pub bytes_split : (n : ℕ) (cs : List ℕ) → bytes_of (take n cs) + bytes_of (drop n cs) ≡ bytes_of cs
bytes_split n cs = sum_by-take-drop len_utf8 cs n

-- the bytes are those of the text that the characters spell
length-encodes : (cs : List ℕ) → length (encode_utf8_all cs) ≡ bytes_of cs
length-encodes [] = refl
length-encodes (c ∷ cs) = omega (arith, length-append (encode c) (encode_utf8_all cs), length-encode c, length-encodes cs, sum_by-cons len_utf8 c cs)

pub bytes_of-chars : (text : List ℕ) → IsUtf8 text → bytes_of (chars text) ≡ length text
bytes_of-chars text utf8 = sym (length-encodes (chars text)) ∙ ap length (encodes-chars text utf8)

-- one character more, at its index
pub record MovesOn (at : Position) (c : ℕ) (xs ys : List ℕ) : Type 0 where
  pub moved : moved_over at xs ≡ moved_over (next_at at c) ys
  pub bytes : bytes_of xs ≡ len_utf8 c + bytes_of ys

pub moves_on : (at : Position) (cs : List ℕ) (i c : ℕ) → (i < length cs) × (c ≡ get_or cs i c) → MovesOn at c (drop i cs) (drop (i + 1) cs)
moves_on at cs i c turn =
    let e : drop i cs ≡ c ∷ drop (i + 1) cs = rw add-one (drop-cons cs i c turn.0 ∙ ap (λ x. x ∷ drop (suc i) cs) (sym turn.1)) in
    subst (λ xs. MovesOn at c xs (drop (i + 1) cs)) (sym e) (record { moved = refl; bytes = sum_by-cons len_utf8 c (drop (i + 1) cs) })

-- each character has a byte
pub length-le-bytes : (cs : List ℕ) → length cs ≤ bytes_of cs
length-le-bytes [] = omega arith
length-le-bytes (c ∷ cs) = omega (arith, length-le-bytes cs, (len_utf8_bounds c).0, sum_by-cons len_utf8 c cs)

-- the offset moves by the bytes
pub offset_moved : (at : Position) (cs : List ℕ) → (moved_over at cs).offset ≡ at.offset + bytes_of cs
offset_moved at [] = omega arith
offset_moved at (c ∷ cs) = omega (arith, offset_moved (next_at at c) cs, sum_by-cons len_utf8 c cs)
