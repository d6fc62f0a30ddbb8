-- Widths of forms: they bound the unknowns, and sums and changed forms keep them.
use Rattle.std.proofs.Common.{◌≡◌, ℕ, ◌<◌, ◌≤◌, Bool, true, false, if◌then◌else◌, List, [], ◌∷◌, Option, Some, None, Result, Ok, refl, sym, subst, arith}
use Rattle.std.specs.List.{All}
use Rattle.std.proofs.lemmas.List.Elements.{All-nil, All-cons, All-head, All-tail}
use Rattle.dcx_frac.specs.declared.fraction.Frac.{Frac}
use Rattle.dcx_frac.specs.declared.fraction.Passes.{Passes}
use Rattle.dcx_linear.specs.declared.change.Change.{Change}
use Rattle.dcx_linear.specs.declared.form.FormTerm.{FormTerm}
use Rattle.dcx_linear.specs.declared.form.Form.{Form}
use Rattle.dcx_linear.specs.Terms.{term_at, SumsAt, ChangesAt, Keeps}
use Rattle.dcx_linear.specs.TermLaws.{each_formed, term_at-All}
use Rattle.dcx_linear.specs.FormTerms.{unknown_of, has_zero_coefficient, sum_gives_unknown, change_gives_unknown}
use Rattle.dcx_linear.specs.Forms.{sum_gives_linear, change_gives_linear}
use Rattle.dcx_linear.specs.Widths.{terms_width, form_width}

-- the width is above each unknown
pub width_bounds : {C : Type 0} (ts : List (FormTerm C)) (n : ℕ) → terms_width ts ≤ n → All (λ t. t.unknown < n) ts
width_bounds [] n h = All-nil (λ t. t.unknown < n)
width_bounds (t ∷ ts) n h = All-cons (λ u. u.unknown < n) t ts (omega (arith, h)) (width_bounds ts n (omega (arith, h)))

-- and it is the least such number
pub width_least : {C : Type 0} (ts : List (FormTerm C)) (n : ℕ) → All (λ t. t.unknown < n) ts → terms_width ts ≤ n
width_least [] n h = omega arith
width_least (t ∷ ts) n h =
    let first : t.unknown < n = All-head (λ u. u.unknown < n) t ts h in
    let rest : terms_width ts ≤ n = width_least ts n (All-tail (λ u. u.unknown < n) t ts h) in omega arith

module _ {C : Type 0} (number_of : C → Option Frac) (n : ℕ) where
  kept_below : (Forms : Result (FormTerm C) Passes → Type 0) → ((v : FormTerm C) → Forms (Ok v) → v.unknown < n) → (v : FormTerm C) → Keeps (has_zero_coefficient number_of) Forms (Ok (Some v))
      → v.unknown < n
  kept_below Forms each v h = by (has_zero_coefficient number_of h.0) h.2
    where
      by : (b : Bool) → Some v ≡ (if b then None else Some h.0) → v.unknown < n
      by true e = cc
      by false e = let d : h.0 ≡ v = cc in subst (λ u. u.unknown < n) d (each h.0 h.1)

  sum_below : (Sums : C → C → Result C Passes → Type 0) (x y : Option (FormTerm C)) (v : FormTerm C) → ((t : FormTerm C) → x ≡ Some t → t.unknown < n) → ((t : FormTerm C) → y ≡ Some t → t.unknown < n)
      → SumsAt (has_zero_coefficient number_of) (sum_gives_unknown Sums) x y (Ok (Some v)) → v.unknown < n
  sum_below Sums None y v h k s = k v (cc)
  sum_below Sums (Some t) None v h k s = h v (cc)
  sum_below Sums (Some t) (Some u) v h k s = kept_below (sum_gives_unknown Sums t u) (λ w q. subst (λ i. i < n) (sym q.1.0) (h t refl)) v s

  pub change_below : (Changes : FormTerm C → Result (FormTerm C) Passes → Type 0) → ((t v : FormTerm C) → Changes t (Ok v) → v.unknown ≡ t.unknown) → (x : Option (FormTerm C)) (v : FormTerm C)
      → ((t : FormTerm C) → x ≡ Some t → t.unknown < n)
      → ChangesAt (has_zero_coefficient number_of) Changes x (Ok (Some v)) → v.unknown < n
  change_below Changes keeps None v h s = cc
  change_below Changes keeps (Some t) v h s = kept_below (Changes t) (λ w q. subst (λ i. i < n) (sym (keeps t w q)) (h t refl)) v s

  -- a sum is no wider than its summands
  pub sum_width : (Sums : C → C → Result C Passes → Type 0) (f g h : Form C) → sum_gives_linear number_of Sums f g (Ok h) → form_width f ≤ n → form_width g ≤ n → form_width h ≤ n
  sum_width Sums f g h s a b =
      width_least h.terms n
      (each_formed unknown_of (has_zero_coefficient number_of) (λ k. SumsAt (has_zero_coefficient number_of) (sum_gives_unknown Sums) (term_at unknown_of f.terms k) (term_at unknown_of g.terms k))
      (λ t. t.unknown < n)
      (λ k v q. sum_below Sums (term_at unknown_of f.terms k) (term_at unknown_of g.terms k) v (λ t e. term_at-All unknown_of (λ t. t.unknown < n) f.terms k t (width_bounds f.terms n a) e)
      (λ t e. term_at-All unknown_of (λ t. t.unknown < n) g.terms k t (width_bounds g.terms n b) e) q)
      h.terms s.1.1)

  -- a changed form is no wider
  pub change_width : (Changes : Change → C → Result C Passes → Type 0) (change : Change) (f h : Form C) → change_gives_linear number_of Changes change f (Ok h) → form_width f ≤ n → form_width h ≤ n
  change_width Changes change f h s a =
      width_least h.terms n
      (each_formed unknown_of (has_zero_coefficient number_of) (λ k. ChangesAt (has_zero_coefficient number_of) (change_gives_unknown Changes change) (term_at unknown_of f.terms k))
      (λ t. t.unknown < n)
      (λ k v q. change_below (change_gives_unknown Changes change) (λ t w z. z.0) (term_at unknown_of f.terms k) v
      (λ t e. term_at-All unknown_of (λ t. t.unknown < n) f.terms k t (width_bounds f.terms n a) e) q)
      h.terms s.1.1)
