-- Templates tell the lines: bytes begin with lines of templates in one way only.
use Rattle.std.proofs.Common.{◌≡◌, ℕ, zero, suc, ◌+◌, ◌<◌, List, [], ◌∷◌, ◌++◌, length, take, refl, sym, ap, ◌∙◌, arith, append_assoc}
use Rattle.std.proofs.lemmas.List.{append_cancel_left, append-nil}
use Rattle.std.specs.Prelude.{codes, decimal}
use Rattle.std.specs.List.{concat, flat_map}
use Rattle.dcx_frac.specs.declared.fraction.Frac.{Frac}
use Rattle.dcx_lines.specs.Pieces.{entry_text}
use Rattle.dcx_lines.proofs.Reading.{entries_read, first_same}
use Rattle.dcx_cert_lines.specs.declared.kind.Kind.{Kind}
use Rattle.dcx_cert_lines.specs.declared.kind.Kind.TheVariants.{Optimal, Infeasible, Unbounded, Empty}
use Rattle.dcx_cert_lines.specs.CertText.{Line}
use Rattle.dcx_cert_lines.specs.Templates.{Template, filled, IsFilled, AreFilled, Stuck, kind_text, head_front, head_template}

parts : (front : List ℕ) (l r : List ℕ) (ns : List Frac) → l ≡ filled front ns → l ++ r ≡ front ++ (flat_map entry_text ns ++ 10 ∷ r)
parts front l r ns e =
    let whole : filled front ns ++ r ≡ front ++ (flat_map entry_text ns ++ 10 ∷ r) = simp append_assoc in
    ap (λ x. x ++ r) e ∙ whole

-- one line of a template
pub one_line : (t : Template) (l m : Line) (r s : List ℕ) → IsFilled t l → IsFilled t m → l ++ r ≡ m ++ s → (l ≡ m) × (r ≡ s)
one_line t l m r s h k e =
    let both = entries_read h.numbers k.numbers r s (append_cancel_left t.front _ _ (sym (parts t.front l r h.numbers h.is) ∙ e ∙ parts t.front m s k.numbers k.is)) in
    (h.is ∙ ap (filled t.front) both.0 ∙ sym k.is, both.1)

-- the lines of all templates
pub one_list : (ts : List Template) (ls ms : List Line) (r s : List ℕ) → AreFilled ts ls → AreFilled ts ms → concat ls ++ r ≡ concat ms ++ s → r ≡ s
one_list [] [] [] r s h k e = e
one_list [] [] (m ∷ ms) r s h k e = absurd k
one_list [] (l ∷ ls) ms r s h k e = absurd h
one_list (t ∷ ts) [] ms r s h k e = absurd h
one_list (t ∷ ts) (l ∷ ls) [] r s h k e = absurd k
one_list (t ∷ ts) (l ∷ ls) (m ∷ ms) r s h k e =
    let both = one_line t l m (concat ls ++ r) (concat ms ++ s) h.0 k.0 (sym (append_assoc l (concat ls) r) ∙ e ∙ append_assoc m (concat ms) s) in
    one_list ts ls ms r s h.1 k.1 both.1

-- where bytes are stuck, they don't begin with one more line
pub not_stuck : (ts : List Template) (ls : List Line) (b : List ℕ) (j : ℕ) → AreFilled ts ls → Stuck ts b j → (z : List ℕ) → b ≡ concat (take (suc j) ls) ++ z → ⊥
not_stuck [] ls b j h stuck z e = stuck
not_stuck (t ∷ ts) [] b j h stuck z e = absurd h
not_stuck (t ∷ ts) (l ∷ ls) b zero h stuck z e = stuck.none l z h.0 (e ∙ ap (λ x. x ++ z) (append-nil l))
not_stuck (t ∷ ts) (l ∷ ls) b (suc j) h stuck z e =
    let line = stuck.1 in
    let both = one_line t line.line l stuck.0 (concat (take (suc j) ls) ++ z) line.fits h.0 (sym line.begins ∙ e ∙ append_assoc l (concat (take (suc j) ls)) z) in
    not_stuck ts ls stuck.0 j h.1 stuck.2 z both.1

pub stuck_within : (ts : List Template) (b : List ℕ) (j : ℕ) → Stuck ts b j → j < length ts
stuck_within [] b j h = absurd h
stuck_within (t ∷ ts) b zero h = omega arith
stuck_within (t ∷ ts) b (suc j) h = let rest = stuck_within ts h.0 j h.2 in omega (arith, rest)

-- ---- the first lines of sections
head_bytes : (kind : Kind) (n : ℕ) (l : Line) (r : List ℕ) → IsFilled (head_template kind n) l → l ++ r ≡ (codes "section " ++ decimal n ++ codes " ") ++ (kind_text kind ++ 10 ∷ r)
head_bytes kind n l r h = by h.numbers h.counted h.is
  where
    by : (ns : List Frac) → length ns ≡ 0 → l ≡ filled (head_front kind n) ns → l ++ r ≡ (codes "section " ++ decimal n ++ codes " ") ++ (kind_text kind ++ 10 ∷ r)
    by [] count is =
        let group = λ (a k : List ℕ). let same : ((a ++ k) ++ 10 ∷ []) ++ r ≡ a ++ (k ++ 10 ∷ r) = simp append_assoc in same in
        ap (λ x. x ++ r) is ∙ group (codes "section " ++ decimal n ++ codes " ") (kind_text kind)
    by (x ∷ xs) count is = absurd (omega (arith, count))

-- words of two kinds differ in their first byte
words_apart : (a b : Kind) (r s : List ℕ) → kind_text a ++ 10 ∷ r ≡ kind_text b ++ 10 ∷ s → a ≡ b
words_apart Optimal Optimal r s e = refl
words_apart Optimal Infeasible r s e = absurd (omega (arith, first_same 111 105 _ _ e))
words_apart Optimal Unbounded r s e = absurd (omega (arith, first_same 111 117 _ _ e))
words_apart Optimal Empty r s e = absurd (omega (arith, first_same 111 110 _ _ e))
words_apart Infeasible Optimal r s e = absurd (omega (arith, first_same 105 111 _ _ e))
words_apart Infeasible Infeasible r s e = refl
words_apart Infeasible Unbounded r s e = absurd (omega (arith, first_same 105 117 _ _ e))
words_apart Infeasible Empty r s e = absurd (omega (arith, first_same 105 110 _ _ e))
words_apart Unbounded Optimal r s e = absurd (omega (arith, first_same 117 111 _ _ e))
words_apart Unbounded Infeasible r s e = absurd (omega (arith, first_same 117 105 _ _ e))
words_apart Unbounded Unbounded r s e = refl
words_apart Unbounded Empty r s e = absurd (omega (arith, first_same 117 110 _ _ e))
words_apart Empty Optimal r s e = absurd (omega (arith, first_same 110 111 _ _ e))
words_apart Empty Infeasible r s e = absurd (omega (arith, first_same 110 105 _ _ e))
words_apart Empty Unbounded r s e = absurd (omega (arith, first_same 110 117 _ _ e))
words_apart Empty Empty r s e = refl

-- the first line of a section tells its kind
pub one_kind : (a b : Kind) (n : ℕ) (l m : Line) (r s : List ℕ) → IsFilled (head_template a n) l → IsFilled (head_template b n) m → l ++ r ≡ m ++ s → a ≡ b
one_kind a b n l m r s h k e =
    words_apart a b r s (append_cancel_left (codes "section " ++ decimal n ++ codes " ") _ _ (sym (head_bytes a n l r h) ∙ e ∙ head_bytes b n m s k))
