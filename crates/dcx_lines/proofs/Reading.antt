-- What the lines of an answer tell, where the names and the shapes are known.
use Rattle.std.proofs.Common.{◌≡◌, ℕ, ◌+◌, List, [], ◌∷◌, ◌++◌, map, refl, sym, ap, ◌∙◌, arith, append_assoc}
use Rattle.std.proofs.lemmas.List.{append_cancel_left}
use Rattle.std.specs.List.{AllZip, flat_map, enumerate_from}
use Rattle.std.specs.Prelude.{codes, decimal}
use Rattle.dcx_shape.specs.declared.shape.Shape.{Shape}
use Rattle.dcx_frac.specs.declared.fraction.Frac.{Frac}
use Rattle.dcx_frac.specs.Text.{frac_text}
use Rattle.dcx_atom.specs.declared.array.Array.{Array}
use Rattle.dcx_point.specs.Pairs.{Pairs}
use Rattle.dcx_lines.specs.Pieces.{shape_text, entry_text, array_text}
use Rattle.dcx_lines.specs.Lines.{named_line, dual_line, number_line}
use Rattle.dcx_lines.specs.Shown.{variables_of, constraints_of}
use Rattle.dcx_lines.specs.Reading.{IsInk, BeginsWithout}
use Rattle.dcx_lines.proofs.FracText.{same_before, frac_ink, frac_text_injective}
use Rattle.dcx_atom.proofs.OneArray.{array_from_parts}

-- equal lists have one first byte
pub first_same : (m n : ℕ) (r s : List ℕ) → m ∷ r ≡ n ∷ s → m ≡ n
first_same m n r s e = cc

-- a line feed or a blank ends a fraction
feed_ends : (xs : List ℕ) → BeginsWithout IsInk (10 ∷ xs)
feed_ends xs = record { byte = 10; tail = xs; is = refl; without = λ h. omega (arith, h.above) }

pub entries_end : (xs : List Frac) (r : List ℕ) → BeginsWithout IsInk (flat_map entry_text xs ++ 10 ∷ r)
unfolding entry_text
entries_end [] r = feed_ends r
entries_end (x ∷ xs) r =
    record { byte = 32; tail = (frac_text x ++ flat_map entry_text xs) ++ 10 ∷ r; is = refl; without = λ h. omega (arith, h.above) }

-- a fraction, and what stands behind it
pub frac_read : (f g : Frac) (r s : List ℕ) → BeginsWithout IsInk r → BeginsWithout IsInk s → frac_text f ++ r ≡ frac_text g ++ s → (f ≡ g) × (r ≡ s)
frac_read f g r s first second e =
    let parts = same_before IsInk (frac_text f) (frac_text g) r s (frac_ink f) (frac_ink g) first second e in
    (frac_text_injective f g parts.0, parts.1)

-- the entries of an array, and what stands behind their line
pub entries_read : (xs ys : List Frac) (r s : List ℕ) → flat_map entry_text xs ++ 10 ∷ r ≡ flat_map entry_text ys ++ 10 ∷ s → (xs ≡ ys) × (r ≡ s)
unfolding entry_text
entries_read [] [] r s e = (refl, (cc))
entries_read [] (y ∷ ys) r s e = absurd (omega (arith, first_same 10 32 _ _ e))
entries_read (x ∷ xs) [] r s e = absurd (omega (arith, first_same 32 10 _ _ e))
entries_read (x ∷ xs) (y ∷ ys) r s e =
    let tail : (frac_text x ++ flat_map entry_text xs) ++ 10 ∷ r ≡ (frac_text y ++ flat_map entry_text ys) ++ 10 ∷ s = cc in
    let parts = frac_read x y (flat_map entry_text xs ++ 10 ∷ r) (flat_map entry_text ys ++ 10 ∷ s) (entries_end xs r) (entries_end ys s)
    (sym (append_assoc (frac_text x) (flat_map entry_text xs) (10 ∷ r)) ∙ tail ∙ append_assoc (frac_text y) (flat_map entry_text ys) (10 ∷ s)) in
    let rest = entries_read xs ys r s parts.1 in
    let head : x ≡ y = parts.0 in
    let others : xs ≡ ys = rest.0 in
    ((cc), rest.1)

-- a line that ends with an array, and what stands behind it
pub line_read : (front other : List ℕ) (a b : Array) (r s : List ℕ) → front ≡ other → a.shape ≡ b.shape → ((front ++ array_text a) ++ 10 ∷ []) ++ r ≡ ((other ++ array_text b) ++ 10 ∷ []) ++ s
    → (a ≡ b) × (r ≡ s)
unfolding array_text
line_read front other a b r s same shapes e =
    let whole = λ (p : List ℕ) (c : Array) (t : List ℕ).
    let regrouped : ((p ++ array_text c) ++ 10 ∷ []) ++ t ≡ (p ++ (shape_text c.shape ++ codes " =")) ++ (flat_map entry_text c.entries ++ 10 ∷ t) = simp append_assoc in
    regrouped in
    let fronts : front ++ (shape_text a.shape ++ codes " =") ≡ other ++ (shape_text b.shape ++ codes " =") = cc in
    let rest : (other ++ (shape_text b.shape ++ codes " =")) ++ (flat_map entry_text a.entries ++ 10 ∷ r) ≡ (other ++ (shape_text b.shape ++ codes " =")) ++ (flat_map entry_text b.entries ++ 10 ∷ s) =
    ap (λ p. p ++ (flat_map entry_text a.entries ++ 10 ∷ r)) (sym fronts) ∙ sym (whole front a r) ∙ e ∙ whole other b s in
    let parts = entries_read a.entries b.entries r s (append_cancel_left (other ++ (shape_text b.shape ++ codes " =")) _ _ rest) in
    (array_from_parts a b shapes parts.0, parts.1)

-- a line of a word and a number, and what stands behind it
pub number_read : (word : List ℕ) (f g : Frac) (r s : List ℕ) → number_line word f ++ r ≡ number_line word g ++ s → (f ≡ g) × (r ≡ s)
unfolding number_line
number_read word f g r s e =
    let whole = λ (h : Frac) (t : List ℕ).
    let regrouped : (((word ++ codes " ") ++ frac_text h) ++ 10 ∷ []) ++ t ≡ (word ++ codes " ") ++ (frac_text h ++ 10 ∷ t) = simp append_assoc in
    regrouped in
    let rest = append_cancel_left (word ++ codes " ") _ _ (sym (whole f r) ∙ e ∙ whole g s) in
    let parts = frac_read f g (10 ∷ r) (10 ∷ s) (feed_ends r) (feed_ends s) rest in
    let behind : 10 ∷ r ≡ 10 ∷ s = parts.1 in
    (parts.0, (cc))

-- lines of two lists that can be read one by one can be read together
pub lines_read : {A : Type 0} (f : A → List ℕ) (R : A → A → Type 0) → ((a b : A) (r s : List ℕ) → R a b → f a ++ r ≡ f b ++ s → (a ≡ b) × (r ≡ s)) → (xs ys : List A) (r s : List ℕ) → AllZip R xs ys
    → flat_map f xs ++ r ≡ flat_map f ys ++ s → (xs ≡ ys) × (r ≡ s)
lines_read f R read [] [] r s h e = (refl, e)
lines_read f R read [] (y ∷ ys) r s h e = absurd h
lines_read f R read (x ∷ xs) [] r s h e = absurd h
lines_read f R read (x ∷ xs) (y ∷ ys) r s h e =
    let parts = read x y (flat_map f xs ++ r) (flat_map f ys ++ s) h.0 (sym (append_assoc (f x) (flat_map f xs) r) ∙ e ∙ append_assoc (f y) (flat_map f ys) s) in
    let rest = lines_read f R read xs ys r s h.1 parts.1 in
    let head : x ≡ y = parts.0 in
    let tail : xs ≡ ys = rest.0 in
    ((cc), rest.1)

-- a variable of one name and one shape
pub record SameVariable (a b : List ℕ × Array) : Type 0 where
  pub name : a.0 ≡ b.0
  pub shape : a.1.shape ≡ b.1.shape

named_read : (word : List ℕ) (a b : List ℕ × Array) (r s : List ℕ) → SameVariable a b → named_line word a ++ r ≡ named_line word b ++ s → (a ≡ b) × (r ≡ s)
unfolding named_line
named_read word (n, a) (m, b) r s same e =
    let parts = line_read (word ++ codes " " ++ n ++ codes " ") (word ++ codes " " ++ m ++ codes " ") a b r s (ap (λ x. word ++ codes " " ++ x ++ codes " ") same.name) same.shape e in
    let name : n ≡ m = same.name in
    let array : a ≡ b = parts.0 in
    (λ i. (name i, array i), parts.1)

abbrev shown : List ℕ × Array → List ℕ × Shape
shown p = (p.0, p.1.shape)

same_variables : (xs ys : Pairs) → variables_of xs ≡ variables_of ys → AllZip SameVariable xs ys
same_variables [] [] e = tt
same_variables [] (y ∷ ys) e = cc
same_variables (x ∷ xs) [] e = cc
same_variables (x ∷ xs) (y ∷ ys) e =
    let head : shown x ≡ shown y = cc in
    let tail : variables_of xs ≡ variables_of ys = cc in
    (record { name = ap (λ p. p.0) head; shape = ap (λ p. p.1) head }, same_variables xs ys tail)

-- the lines of variables under a word, and what stands behind them
pub points_read : (word : List ℕ) (xs ys : Pairs) (r s : List ℕ) → variables_of xs ≡ variables_of ys → flat_map (named_line word) xs ++ r ≡ flat_map (named_line word) ys ++ s → (xs ≡ ys) × (r ≡ s)
points_read word xs ys r s same e =
    lines_read (named_line word) SameVariable (λ a b. named_read word a b) xs ys r s (same_variables xs ys same) e

-- multipliers under one number and of one shape
pub record SameConstraint (a b : ℕ × Array) : Type 0 where
  pub number : a.0 ≡ b.0
  pub shape : a.1.shape ≡ b.1.shape

dual_read : (a b : ℕ × Array) (r s : List ℕ) → SameConstraint a b → dual_line a ++ r ≡ dual_line b ++ s → (a ≡ b) × (r ≡ s)
unfolding dual_line
dual_read (i, a) (j, b) r s same e =
    let parts = line_read (codes "dual " ++ decimal i ++ codes " ") (codes "dual " ++ decimal j ++ codes " ") a b r s (ap (λ n. codes "dual " ++ decimal n ++ codes " ") same.number) same.shape e in
    let array : a ≡ b = parts.0 in
    let number : i ≡ j = same.number in
    (λ k. (number k, array k), parts.1)

same_constraints : (n : ℕ) (xs ys : List Array) → constraints_of xs ≡ constraints_of ys → AllZip SameConstraint (enumerate_from n xs) (enumerate_from n ys)
same_constraints n [] [] e = tt
same_constraints n [] (y ∷ ys) e = cc
same_constraints n (x ∷ xs) [] e = cc
same_constraints n (x ∷ xs) (y ∷ ys) e =
    let head : x.shape ≡ y.shape = cc in
    let tail : constraints_of xs ≡ constraints_of ys = cc in
    (record { number = refl; shape = head }, same_constraints (n + 1) xs ys tail)

items_of : {A : Type 0} (n : ℕ) (xs : List A) → map (λ (p : ℕ × A). p.1) (enumerate_from n xs) ≡ xs
items_of n [] = refl
items_of n (x ∷ xs) = ap (λ t. x ∷ t) (items_of (n + 1) xs)

-- the lines of the multipliers, and what stands behind them
pub duals_read : (xs ys : List Array) (r s : List ℕ) → constraints_of xs ≡ constraints_of ys → flat_map dual_line (enumerate_from 1 xs) ++ r ≡ flat_map dual_line (enumerate_from 1 ys) ++ s
    → (xs ≡ ys) × (r ≡ s)
duals_read xs ys r s same e =
    let parts = lines_read dual_line SameConstraint (λ a b. dual_read a b) (enumerate_from 1 xs) (enumerate_from 1 ys) r s (same_constraints 1 xs ys same) e in
    (sym (items_of 1 xs) ∙ ap (map (λ (p : ℕ × Array). p.1)) parts.0 ∙ items_of 1 ys, parts.1)
