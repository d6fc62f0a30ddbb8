-- Numbers that are read one after another.
use Rattle.std.proofs.Common.{◌≡◌, ℕ, ◌+◌, ◌<◌, List, [], ◌∷◌, ◌++◌, length, Option, Some, None, Bor, IfSome, refl, sym, ap, ◌∙◌, subst, arith, append_assoc}
use Rattle.std.proofs.lemmas.List.{append-nil}
use Rattle.std.proofs.lemmas.Grind.{flat_map-append}
use Rattle.std.specs.List.{flat_map}
use Rattle.dcx_frac.specs.declared.fraction.Frac.{Frac}
use Rattle.dcx_frac.specs.Text.{frac_text}
use Rattle.dcx_lines.specs.Pieces.{entry_text}
use Rattle.dcx_lines.specs.Reading.{BeginsWithout, HasEntries, IsInk}
use Rattle.dcx_lines.proofs.Reading.{entries_end}

-- of numbers ns that stand there before r, those behind the ones that are read
pub record IsLeft (count done : ℕ) (read : List Frac) (rest : List ℕ) (ns : List Frac) (r : List ℕ) : Type 0 where
  pub left : List Frac
  pub all : ns ≡ read ++ left
  pub counted : done + length left ≡ count
  pub written : rest ≡ flat_map entry_text left ++ 10 ∷ r

-- a number behind a blank
pub ink_read : (bytes ink : List ℕ) (o : Option (Frac × Bor (List ℕ))) → bytes ≡ 32 ∷ ink → IfSome o (λ p. ink ≡ frac_text p.0 ++ p.1.now) → IfSome o (λ p. bytes ≡ entry_text p.0 ++ p.1.now)
unfolding entry_text
ink_read bytes ink None e h = tt
ink_read bytes ink (Some p) e h = e ∙ ap (λ t. 32 ∷ t) h

-- nothing is read at first
pub left_first : (count : ℕ) (bytes : List ℕ) (ns : List Frac) (r : List ℕ) → HasEntries count bytes ns r → IsLeft count 0 [] bytes ns r
left_first count bytes ns r h = record { left = ns; all = refl; counted = omega (arith, h.counted); written = h.written }

-- where fewer are read than stand there, one more stands there
pub record HasNext (count done : ℕ) (read : List Frac) (rest : List ℕ) (ns : List Frac) (r : List ℕ) : Type 0 where
  pub next : Frac
  pub behind : List ℕ
  pub begins : BeginsWithout IsInk behind
  pub written : rest ≡ entry_text next ++ behind
  pub left : IsLeft count (done + 1) (read ++ next ∷ []) behind ns r

pub next_left : (count done : ℕ) (read : List Frac) (rest : List ℕ) (ns : List Frac) (r : List ℕ) → done < count → IsLeft count done read rest ns r → HasNext count done read rest ns r
next_left count done read rest ns r below h = by h.left h.all h.counted h.written
  where
    by : (xs : List Frac) → ns ≡ read ++ xs → done + length xs ≡ count → rest ≡ flat_map entry_text xs ++ 10 ∷ r → HasNext count done read rest ns r
    by [] all counted written = absurd (omega (arith, counted, below))
    by (x ∷ xs) all counted written = record {
      next = x;
      behind = flat_map entry_text xs ++ 10 ∷ r;
      begins = entries_end xs r;
      written = written ∙ append_assoc (entry_text x) (flat_map entry_text xs) (10 ∷ r);
      left = record { left = xs; all = all ∙ sym (append_assoc read (x ∷ []) xs); counted = omega (arith, counted); written = refl };
    }

-- the one that is read is the next
pub more_left : (count done : ℕ) (read : List Frac) (rest : List ℕ) (f : Frac) (behind : List ℕ) (ns : List Frac) (r : List ℕ)
    → ((g : Frac) (t : List ℕ) → BeginsWithout IsInk t → rest ≡ entry_text g ++ t → (f ≡ g) × (behind ≡ t))
    → done < count → IsLeft count done read rest ns r → IsLeft count (done + 1) (read ++ f ∷ []) behind ns r
more_left count done read rest f behind ns r one below h =
    let n = next_left count done read rest ns r below h in
    let same = one n.next n.behind n.begins n.written in
    subst (λ t. IsLeft count (done + 1) (read ++ f ∷ []) t ns r) (sym same.1) (subst (λ g. IsLeft count (done + 1) (read ++ g ∷ []) n.behind ns r) (sym same.0) n.left)

-- where nothing can be read, nothing stands there
pub none_left : (count done : ℕ) (read : List Frac) (rest : List ℕ) (ns : List Frac) (r : List ℕ)
    → ((g : Frac) (t : List ℕ) → BeginsWithout IsInk t → rest ≡ entry_text g ++ t → ⊥)
    → done < count → IsLeft count done read rest ns r → ⊥
none_left count done read rest ns r none below h =
    let n = next_left count done read rest ns r below h in
    none n.next n.behind n.begins n.written

-- where all are read, the line feed stands next
pub last_left : (count : ℕ) (read : List Frac) (rest : List ℕ) (ns : List Frac) (r : List ℕ) → IsLeft count count read rest ns r → rest ≡ 10 ∷ r
last_left count read rest ns r h = by h.left h.counted h.written
  where
    by : (xs : List Frac) → count + length xs ≡ count → rest ≡ flat_map entry_text xs ++ 10 ∷ r → rest ≡ 10 ∷ r
    by [] counted written = written
    by (x ∷ xs) counted written = absurd (omega (arith, counted))

-- one more number is written
pub read_more : (bytes : List ℕ) (read : List Frac) (rest : List ℕ) (f : Frac) (behind : List ℕ) → bytes ≡ flat_map entry_text read ++ rest → rest ≡ entry_text f ++ behind
    → bytes ≡ flat_map entry_text (read ++ f ∷ []) ++ behind
read_more bytes read rest f behind e h =
    e ∙ ap (λ t. flat_map entry_text read ++ t) h ∙ sym (append_assoc (flat_map entry_text read) (entry_text f) behind)
    ∙ ap (λ t. t ++ behind) (sym (flat_map-append entry_text read (f ∷ []) ∙ ap (λ t. flat_map entry_text read ++ t) (append-nil (entry_text f))))
