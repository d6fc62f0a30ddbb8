-- Bytes are a text, or none for one reason.
use Rattle.std.proofs.Common.{◌≡◌, ℕ, List, length, take, sym, ap, ◌∙◌, subst, arith}
use Rattle.std.specs.Str.{IsUtf8, IsValidUpTo}
use Rattle.std.proofs.Math.Seq.{take-length}
use Rattle.std.proofs.lemmas.Str.{utf8_valid_len-IsValidUpTo}
use Rattle.dcx_tokens.specs.declared.fault.ReadFault.{ReadFault}
use Rattle.dcx_tokens.specs.declared.fault.ReadFault.TheVariants as fault
use Rattle.dcx_tokens.specs.File.{IsText, IsNoText}
use Rattle.dcx_tokens.specs.Position.{position_behind}

pub text_apart : (bytes : List ℕ) (f : ReadFault) → IsText bytes → IsNoText bytes f → ⊥
text_apart bytes (fault.TooLong place) t h = let a = t.short in let b = h.0 in omega (arith, a, b)
text_apart bytes (fault.NotText place) t h = h.1.valid.longest (length bytes) h.1.valid.short (subst IsUtf8 (sym (take-length bytes)) t.utf8)
text_apart bytes f t h = h

same_count : (bytes : List ℕ) (n m : ℕ) → IsValidUpTo bytes n → IsValidUpTo bytes m → n ≡ m
same_count bytes n m h k = sym (utf8_valid_len-IsValidUpTo bytes n h) ∙ utf8_valid_len-IsValidUpTo bytes m k

pub no_text_one : (bytes : List ℕ) (f g : ReadFault) → IsNoText bytes f → IsNoText bytes g → f ≡ g
no_text_one bytes (fault.TooLong p) (fault.TooLong q) h k = ap fault.TooLong (h.1 ∙ sym k.1)
no_text_one bytes (fault.TooLong p) (fault.NotText q) h k = absurd (let a = h.0 in let b = k.0 in omega (arith, a, b))
no_text_one bytes (fault.NotText p) (fault.TooLong q) h k = absurd (let a = h.0 in let b = k.0 in omega (arith, a, b))
no_text_one bytes (fault.NotText p) (fault.NotText q) h k =
    let count = same_count bytes h.1.count k.1.count h.1.valid k.1.valid in
    ap fault.NotText (h.1.place_is ∙ ap (λ n. (position_behind (take n bytes)).place) count ∙ sym k.1.place_is)
no_text_one bytes (fault.TooLong p) g h k = absurd k
no_text_one bytes (fault.NotText p) g h k = absurd k
no_text_one bytes f g h k = absurd h
