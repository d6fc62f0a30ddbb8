-- Lines that are read one after another, and where reading stops.
use Rattle.std.proofs.Common.{◌≡◌, ℕ, zero, suc, ◌+◌, ◌-◌, ◌^◌, ◌<◌, true, false, nat_eq, List, [], ◌∷◌, ◌++◌, length, take, drop, get_or, map, min, refl, sym}
use Rattle.std.proofs.Common.{ap, ◌∙◌, subst, arith, append_assoc, length-append}
use Rattle.std.proofs.Math.Seq.{take-append_seam}
use Rattle.std.proofs.lemmas.Bool.{false≢true}
use Rattle.std.proofs.lemmas.List.Folds.{concat-append}
use Rattle.std.proofs.lemmas.List.{append-nil, take-append-drop, take_more, map-append}
use Rattle.std.specs.List.{AllZip, concat, flat_map}
use Rattle.std.specs.Cmp.Lexicographic.{pointwise, bytes_decides}
use Rattle.dcx_frac.specs.declared.fraction.Frac.{Frac}
use Rattle.dcx_lines.specs.Pieces.{entry_text}
use Rattle.dcx_lines.specs.Reading.{HasEntries}
use Rattle.dcx_cert_lines.specs.CertText.{Line}
use Rattle.dcx_cert_lines.specs.Templates.{Template, filled, AreFilled, HasNoLine, Stuck, IsRead, IsStopped}

-- ---- one line
-- where the front stands, it stands first
pub front_read : (front before : List ℕ) → pointwise nat_eq (take (length front) before) front ≡ true → before ≡ front ++ drop (length front) before
front_read front before h =
    sym (take-append-drop (length front) before) ∙ ap (λ t. t ++ drop (length front) before) ((bytes_decides (take (length front) before) front).0 h)

-- the front and the numbers behind it are a line
pub line_read : (front before behind rest : List ℕ) (count line : ℕ) (ns : List Frac) → before ≡ front ++ behind → HasEntries count behind ns rest
    → IsRead (filled front ns ∷ []) before line rest (min (line + 1) (2 ^ 32 - 1))
line_read front before behind rest count line ns e h = record {
  written =
      let whole : concat (filled front ns ∷ []) ++ rest ≡ front ++ (flat_map entry_text ns ++ 10 ∷ rest) = simp (append-nil, append_assoc) in
      e ∙ ap (λ t. front ++ t) h.written ∙ sym whole;
  counted = refl;
}

line_parts : (front before rest : List ℕ) (ns : List Frac) → before ≡ filled front ns ++ rest → before ≡ front ++ (flat_map entry_text ns ++ 10 ∷ rest)
line_parts front before rest ns e =
    let whole : filled front ns ++ rest ≡ front ++ (flat_map entry_text ns ++ 10 ∷ rest) = simp append_assoc in
    e ∙ whole

-- where the front doesn't stand, no line does
pub no_front : (front before : List ℕ) (count : ℕ) → pointwise nat_eq (take (length front) before) front ≡ false → HasNoLine (record { front = front; count = count }) before
no_front front before count h = record {
  none = λ line rest fits e.
      let parts = line_parts front before rest fits.numbers (e ∙ ap (λ l. l ++ rest) fits.is) in
      let begins : take (length front) before ≡ front = ap (take (length front)) parts ∙ take-append_seam front (flat_map entry_text fits.numbers ++ 10 ∷ rest) in
      false≢true (sym h ∙ (bytes_decides (take (length front) before) front).1 begins);
}

-- reading stops at the first line
pub stops_here : (t : Template) (ts : List Template) (before : List ℕ) (line : ℕ) → line < 2 ^ 32 → HasNoLine t before → IsStopped (t ∷ ts) before line line
stops_here t ts before line small h = record { done = 0; stuck = h; counted = omega arith }

-- ---- lines one after another
pub read_then : (ls ms : List Line) (b : List ℕ) (n : ℕ) (r : List ℕ) (k : ℕ) (s : List ℕ) (m : ℕ) → IsRead ls b n r k → IsRead ms r k s m → IsRead (ls ++ ms) b n s m
read_then ls ms b n r k s m h g = record {
  written = h.written ∙ ap (λ t. concat ls ++ t) g.written ∙ sym (append_assoc (concat ls) (concat ms) s) ∙ ap (λ t. t ++ s) (sym (concat-append ls ms));
  counted = omega (arith, h.counted, g.counted, length-append ls ms);
}

pub read_none : (b : List ℕ) (n : ℕ) → n < 2 ^ 32 → IsRead [] b n b n
read_none b n small = record { written = refl; counted = omega arith }

pub zip_append : {A B : Type 0} (R : A → B → Type 0) (xs us : List A) (ys vs : List B) → AllZip R xs ys → AllZip R us vs → AllZip R (xs ++ us) (ys ++ vs)
zip_append R [] us [] vs h k = k
zip_append R [] us (y ∷ ys) vs h k = absurd h
zip_append R (x ∷ xs) us [] vs h k = absurd h
zip_append R (x ∷ xs) us (y ∷ ys) vs h k = (h.0, zip_append R xs us ys vs h.1 k)

pub zip_length : {A B : Type 0} (R : A → B → Type 0) (xs : List A) (ys : List B) → AllZip R xs ys → length ys ≡ length xs
zip_length R [] [] h = refl
zip_length R [] (y ∷ ys) h = absurd h
zip_length R (x ∷ xs) [] h = absurd h
zip_length R (x ∷ xs) (y ∷ ys) h = ap suc (zip_length R xs ys h.1)

-- ---- where reading stops
stuck_front : (ts us : List Template) (b : List ℕ) (j : ℕ) → Stuck ts b j → Stuck (ts ++ us) b j
stuck_front [] us b j h = absurd h
stuck_front (t ∷ ts) us b zero h = h
stuck_front (t ∷ ts) us b (suc j) h = (h.0, h.1, stuck_front ts us h.0 j h.2)

stuck_behind : (ts us : List Template) (ls : List Line) (b r : List ℕ) (j : ℕ) → AreFilled ts ls → b ≡ concat ls ++ r → Stuck us r j → Stuck (ts ++ us) b (length ls + j)
stuck_behind [] us [] b r j h e s =
    let same : b ≡ r = e in
    let number : j ≡ 0 + j = omega arith in
    subst (λ x. Stuck us x (0 + j)) (sym same) (subst (λ n. Stuck us r n) number s)
stuck_behind [] us (l ∷ ls) b r j h e s = absurd h
stuck_behind (t ∷ ts) us [] b r j h e s = absurd h
stuck_behind (t ∷ ts) us (l ∷ ls) b r j h e s =
    let rest : b ≡ l ++ (concat ls ++ r) = e ∙ append_assoc l (concat ls) r in
    let deeper : Stuck (t ∷ (ts ++ us)) b (suc (length ls + j)) = (concat ls ++ r, record { line = l; fits = h.0; begins = rest }, stuck_behind ts us ls (concat ls ++ r) r j h.1 refl s) in
    let number : suc (length ls + j) ≡ suc (length ls) + j = omega arith in
    subst (λ n. Stuck (t ∷ (ts ++ us)) b n) number deeper

pub stop_front : (ts us : List Template) (b : List ℕ) (n s : ℕ) → IsStopped ts b n s → IsStopped (ts ++ us) b n s
stop_front ts us b n s h = record { done = h.done; stuck = stuck_front ts us b h.done h.stuck; counted = h.counted }

pub stop_behind : (ts us : List Template) (ls : List Line) (b : List ℕ) (n : ℕ) (r : List ℕ) (k s : ℕ) → AreFilled ts ls → IsRead ls b n r k → IsStopped us r k s → IsStopped (ts ++ us) b n s
stop_behind ts us ls b n r k s h read stop = record {
  done = length ls + stop.done;
  stuck = stuck_behind ts us ls b r stop.done h read.written stop.stuck;
  counted = omega (arith, read.counted, stop.counted);
}

-- ---- items of a list, each with its line
-- one more is read
pub read_more : {A : Type 0} (f : A → Line) (xs : List A) (x : A) (b : List ℕ) (n : ℕ) (r : List ℕ) (k : ℕ) (s : List ℕ) (m : ℕ) → IsRead (map f xs) b n r k
    → IsRead (f x ∷ []) r k s m → IsRead (map f (xs ++ x ∷ [])) b n s m
read_more f xs x b n r k s m h g = subst (λ ls. IsRead ls b n s m) (sym (map-append f xs (x ∷ []))) (read_then (map f xs) (f x ∷ []) b n r k s m h g)

-- the next isn't: the items before it are read
pub stop_among : {S : Type 0} (f : S → Template) (slots : List S) (i : ℕ) (x : S) (ls : List Line) (b : List ℕ) (n : ℕ) (r : List ℕ) (k s : ℕ)
    → i < length slots → x ≡ get_or slots i x → AreFilled (map f (take i slots)) ls → IsRead ls b n r k → IsStopped (f x ∷ []) r k s → IsStopped (map f slots) b n s
stop_among {S} f slots i x ls b n r k s within at h read stop =
    let more = stop_behind (map f (take i slots)) (f x ∷ []) ls b n r k s h read stop in
    let here : map f (take i slots) ++ f x ∷ [] ≡ map f (take (i + 1) slots) =
    sym (map-append f (take i slots) (x ∷ [])) ∙ ap (map f) (ap (λ y. take i slots ++ y ∷ []) at ∙ sym (take_more slots i x within)) in
    let whole : map f (take (i + 1) slots) ++ map f (drop (i + 1) slots) ≡ map f slots = sym (map-append f (take (i + 1) slots) (drop (i + 1) slots)) ∙ ap (map f) (take-append-drop (i + 1) slots) in
    subst (λ ts. IsStopped ts b n s) (ap (λ t. t ++ map f (drop (i + 1) slots)) here ∙ whole) (stop_front (map f (take i slots) ++ f x ∷ []) (map f (drop (i + 1) slots)) b n s more)
