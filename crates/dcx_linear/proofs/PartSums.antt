-- Laws of sums of parts: the sum of the changed numbers, one answer, and no wider than the parts.
use Rattle.std.proofs.Common.{◌≡◌, ℕ, ◌≤◌, List, [], ◌∷◌, Option, Result, Ok, Err, inl, inr, sym, ap, ◌∙◌, subst}
use Rattle.std.specs.List.{All}
use Rattle.std.proofs.lemmas.List.Elements.{All-head, All-tail}
use Rattle.dcx_math.specs.Rational.{ℚ, ◌+ℚ◌}
use Rattle.dcx_math.proofs.Orders.{+ℚ_idr, +ℚ_assoc}
use Rattle.dcx_frac.specs.declared.fraction.Frac.{Frac}
use Rattle.dcx_frac.specs.declared.fraction.Passes.{Passes}
use Rattle.dcx_linear.specs.declared.change.Change.{Change}
use Rattle.dcx_linear.specs.declared.form.Form.{Form}
use Rattle.dcx_linear.specs.Changes.{changed}
use Rattle.dcx_linear.specs.Parameters.{Parameters}
use Rattle.dcx_linear.specs.FormTerms.{Unknowns}
use Rattle.dcx_linear.specs.Forms.{linear_value, sum_gives_linear, change_gives_linear}
use Rattle.dcx_linear.specs.FormLaws.{one_linear_sum, one_linear_change}
use Rattle.dcx_linear.specs.Parts.{Follows, adds_part, adds_parts, parts_value, part_width}
use Rattle.dcx_linear.specs.Widths.{form_width}
use Rattle.dcx_linear.proofs.Widths.{sum_width, change_width}
use Rattle.dcx_linear.proofs.Coefficients.{OfAll, sum_keeps, change_keeps}

-- where each of two operations has one answer, the one after the other has one
pub one_follows : {A B : Type 0} (First : Result A Passes → Type 0) (Second : A → Result B Passes → Type 0) → ((r s : Result A Passes) → First r → First s → r ≡ s)
    → ((x : A) (r s : Result B Passes) → Second x r → Second x s → r ≡ s)
    → (r s : Result B Passes) → Follows First Second r → Follows First Second s → r ≡ s
one_follows First Second one two (Ok y) (Ok z) h k =
    let e = one (Ok h.0) (Ok k.0) h.1 k.1 in
    let d : h.0 ≡ k.0 = cc in
    two k.0 (Ok y) (Ok z) (subst (λ x. Second x (Ok y)) d h.2) k.2
one_follows First Second one two (Ok y) (Err q) h (inl k) = let e = one (Ok h.0) (Err q) h.1 k in cc
one_follows First Second one two (Ok y) (Err q) h (inr k) =
    let e = one (Ok h.0) (Ok k.0) h.1 k.1 in
    let d : h.0 ≡ k.0 = cc in
    two k.0 (Ok y) (Err q) (subst (λ x. Second x (Ok y)) d h.2) k.2
one_follows First Second one two (Err p) (Ok z) (inl h) k = let e = one (Err p) (Ok k.0) h k.1 in cc
one_follows First Second one two (Err p) (Ok z) (inr h) k =
    let e = one (Ok h.0) (Ok k.0) h.1 k.1 in
    let d : h.0 ≡ k.0 = cc in
    two k.0 (Err p) (Ok z) (subst (λ x. Second x (Err p)) d h.2) k.2
one_follows First Second one two (Err p) (Err q) (inl h) (inl k) = let e = one (Err p) (Err q) h k in cc
one_follows First Second one two (Err p) (Err q) (inl h) (inr k) = let e = one (Err p) (Ok k.0) h k.1 in cc
one_follows First Second one two (Err p) (Err q) (inr h) (inl k) = let e = one (Ok h.0) (Err q) h.1 k in cc
one_follows First Second one two (Err p) (Err q) (inr h) (inr k) =
    let e = one (Ok h.0) (Ok k.0) h.1 k.1 in
    let d : h.0 ≡ k.0 = cc in
    two k.0 (Err p) (Err q) (subst (λ x. Second x (Err p)) d h.2) k.2

module _ {C : Type 0} (number_of : C → Option Frac) (Sums : C → C → Result C Passes → Type 0) (Changes : Change → C → Result C Passes → Type 0) where
  module _ (one_sum : (a b : C) (r s : Result C Passes) → Sums a b r → Sums a b s → r ≡ s)
      (one_change : (change : Change) (a : C) (r s : Result C Passes) → Changes change a r → Changes change a s → r ≡ s) where
    -- a part has one sum
    pub one_part : (f g : Form C) (change : Change) (r s : Result (Form C) Passes) → adds_part number_of Sums Changes f change g r → adds_part number_of Sums Changes f change g s → r ≡ s
    one_part f g change r s h k =
        one_follows (change_gives_linear number_of Changes change g) (sum_gives_linear number_of Sums f) (one_linear_change number_of Changes one_change change g)
        (λ x. one_linear_sum number_of Sums one_sum f x) r s h k

    -- parts have one sum
    pub one_parts : (ps : List (Change × Form C)) (f : Form C) (r s : Result (Form C) Passes) → adds_parts number_of Sums Changes ps f r → adds_parts number_of Sums Changes ps f s → r ≡ s
    one_parts [] f r s h k = h ∙ sym k
    one_parts (p ∷ ps) f r s h k =
        one_follows (adds_part number_of Sums Changes f p.0 p.1) (λ g q. adds_parts number_of Sums Changes ps g q) (one_part f p.1 p.0) (λ g. one_parts ps g) r s h k

  module _ (value_at : C → Parameters → ℚ) (x : Unknowns) (p : Parameters)
      (sum_value : (f g h : Form C) → sum_gives_linear number_of Sums f g (Ok h) → linear_value value_at h x p ≡ linear_value value_at f x p +ℚ linear_value value_at g x p)
      (change_value : (change : Change) (f h : Form C) → change_gives_linear number_of Changes change f (Ok h) → linear_value value_at h x p ≡ changed change (linear_value value_at f x p)) where
    -- the sum of parts is the sum of their numbers
    pub parts_sum_value : (ps : List (Change × Form C)) (f h : Form C) → adds_parts number_of Sums Changes ps f (Ok h)
        → linear_value value_at h x p ≡ linear_value value_at f x p +ℚ parts_value value_at ps x p
    parts_sum_value [] f h s = let d : h ≡ f = cc in ap (λ g. linear_value value_at g x p) d ∙ sym (+ℚ_idr (linear_value value_at f x p))
    parts_sum_value (q ∷ qs) f h s =
        let first : linear_value value_at s.0 x p ≡ linear_value value_at f x p +ℚ changed q.0 (linear_value value_at q.1 x p) =
        sum_value f s.1.0 s.0 s.1.2 ∙ ap (λ y. linear_value value_at f x p +ℚ y) (change_value q.0 q.1 s.1.0 s.1.1) in
        parts_sum_value qs s.0 h s.2 ∙ ap (λ y. y +ℚ parts_value value_at qs x p) first
        ∙ +ℚ_assoc (linear_value value_at f x p) (changed q.0 (linear_value value_at q.1 x p)) (parts_value value_at qs x p)

  -- the sum is no wider than the parts
  pub parts_sum_width : (n : ℕ) (ps : List (Change × Form C)) (f h : Form C) → adds_parts number_of Sums Changes ps f (Ok h) → All (λ q. part_width q ≤ n) ps → form_width f ≤ n → form_width h ≤ n
  parts_sum_width n [] f h s a b = let d : h ≡ f = cc in subst (λ g. form_width g ≤ n) (sym d) b
  parts_sum_width n (q ∷ qs) f h s a b =
      parts_sum_width n qs s.0 h s.2 (All-tail (λ r. part_width r ≤ n) q qs a)
      (sum_width number_of n Sums f s.1.0 s.0 s.1.2 b (change_width number_of n Changes q.0 q.1 s.1.0 s.1.1 (All-head (λ r. part_width r ≤ n) q qs a)))

  -- a fact of all coefficients that sums and changes keep
  pub parts_keep : (Q : C → Type 0) → ((a b c : C) → Sums a b (Ok c) → Q a → Q b → Q c) → ((change : Change) (a c : C) → Changes change a (Ok c) → Q a → Q c)
      → (ps : List (Change × Form C)) (f h : Form C) → adds_parts number_of Sums Changes ps f (Ok h) → All (λ q. OfAll number_of Q q.1) ps → OfAll number_of Q f → OfAll number_of Q h
  parts_keep Q sums changes [] f h s a b = let d : h ≡ f = cc in subst (OfAll number_of Q) (sym d) b
  parts_keep Q sums changes (q ∷ qs) f h s a b =
      parts_keep Q sums changes qs s.0 h s.2 (All-tail (λ r. OfAll number_of Q r.1) q qs a)
      (sum_keeps number_of Q Sums sums f s.1.0 s.0 s.1.2 b (change_keeps number_of Q Changes changes q.0 q.1 s.1.0 s.1.1 (All-head (λ r. OfAll number_of Q r.1) q qs a)))
