-- The laws of affine numbers as coefficients.
use Rattle.std.proofs.Common.{◌≡◌, ℕ, Bool, true, false, if◌then◌else◌, List, [], ◌∷◌, Option, Some, None, Result, Ok, refl, sym, ap, ap₂, ◌∙◌, subst, pos}
use Rattle.std.proofs.lemmas.List.Elements.{All-nil, All-cons}
use Rattle.dcx_math.specs.Rational.{whole, ◌+ℚ◌, ◌*ℚ◌}
use Rattle.dcx_math.specs.Sums.{rat_sum_by}
use Rattle.dcx_math.proofs.Orders.{+ℚ_idr, zero-*ℚ}
use Rattle.dcx_math.proofs.Ring.{ring, reads}
use Rattle.dcx_math.proofs.Ratios.{IsTrue-rat_eq}
use Rattle.dcx_frac.specs.declared.fraction.Frac.{Frac}
use Rattle.dcx_frac.specs.declared.fraction.Passes.{Passes}
use Rattle.dcx_frac.specs.Frac.{value}
use Rattle.dcx_frac.specs.Results.{sum_of}
use Rattle.dcx_atom.proofs.FormedSums.{value-zero_frac}
use Rattle.dcx_point.specs.Pairs.{Pairs}
use Rattle.dcx_linear.specs.declared.change.Change.{Change}
use Rattle.dcx_linear.specs.declared.param_term.ParamTerm.{ParamTerm}
use Rattle.dcx_linear.specs.declared.param_form.ParamForm.{ParamForm}
use Rattle.dcx_linear.specs.Affine.{one_in_turn}
use Rattle.dcx_linear.specs.Changes.{changed, changed_frac}
use Rattle.dcx_linear.specs.ChangeLaws.{changed_product, changed_sum, changed_zero, changed_sums}
use Rattle.dcx_linear.specs.NumberLaws.{one_answer, sum_value_lem, change_value_lem}
use Rattle.dcx_linear.specs.Parameters.{Parameters, Names, IsNameOf}
use Rattle.dcx_linear.specs.Terms.{term_at, SumsAt, ChangesAt}
use Rattle.dcx_linear.specs.TermLaws.{each_formed, term_at-All, one_sum_of_terms, one_change_of_terms}
use Rattle.dcx_linear.specs.TermSums.{sum_of_terms, change_of_terms}
use Rattle.dcx_linear.specs.ParamTerms.{key_of, has_zero, with_coefficient, sum_gives_term, change_gives_term, term_value, IsNamed}
use Rattle.dcx_linear.specs.ParamTermLaws.{renewed_is}
use Rattle.dcx_linear.specs.ParamForms.{told_number, constant_of, terms_of, form_value, number_of_form, form_of_number, IsEntryForm, sum_gives_form, change_gives_form, IsNamedForm}

-- ---- numbers
pub form_number_value : (x : Frac) (p : Parameters) → form_value (form_of_number x) p ≡ value x
form_number_value x p = +ℚ_idr (value x)

pub form_told_number : (f : ParamForm) (x : Frac) → number_of_form f ≡ Some x → f ≡ form_of_number x
form_told_number f x e = by f.terms refl e
  where
    by : (ts : List ParamTerm) → f.terms ≡ ts → told_number f.constant ts ≡ Some x → f ≡ form_of_number x
    by [] is e = let d : f.constant ≡ x = cc in ap₂ (λ c ts. let g : ParamForm = record { constant = c; terms = ts } in g) d is
    by (t ∷ ts) is e = cc

-- ---- entries
pub form_entry_value : (position : ℕ) (name : List ℕ) (entry : ℕ) (setting : Pairs) (f : ParamForm) (p : Parameters) → IsEntryForm position name entry f → Unit {0} → form_value f p ≡ p position entry
form_entry_value position name entry setting f p h u =
    ap (λ g. form_value g p) h.is
    ∙ ap₂ (λ z x. z +ℚ (x *ℚ p position entry +ℚ whole (pos 0))) value-zero_frac h.is_one
    ∙ ring (p position entry ∷ []) (search reads depth 30) tt

-- ---- terms
-- a term with the coefficient 0 stands for 0
zero_term : (p : Parameters) (t : ParamTerm) → has_zero t ≡ true → term_value p t ≡ whole (pos 0)
zero_term p t e = ap (λ x. x *ℚ p t.position t.entry) ((IsTrue-rat_eq (value t.coefficient) (whole (pos 0))).0 e) ∙ zero-*ℚ (p t.position t.entry)

-- a sum of terms stands for the sum
term_sum : (p : Parameters) (t u v : ParamTerm) → sum_gives_term t u (Ok v) → term_value p v ≡ term_value p t +ℚ term_value p u
term_sum p t u v h =
    let r = renewed_is t v (sum_of t.coefficient u.coefficient) h.1 in
    ap₂ (λ x e. x *ℚ e) (sum_value_lem t.coefficient u.coefficient v.coefficient p (sym r.0)) (ap (λ w. p w.position w.entry) r.1)
    ∙ ring (value t.coefficient ∷ value u.coefficient ∷ p t.position t.entry ∷ []) (search reads depth 30) tt
    ∙ ap (λ e. term_value p t +ℚ value u.coefficient *ℚ e) (ap₂ p (sym h.0.0) (sym h.0.1))

-- a changed term stands for the changed number
term_change : (p : Parameters) (change : Change) (t v : ParamTerm) → change_gives_term change t (Ok v) → term_value p v ≡ changed change (term_value p t)
term_change p change t v h =
    let r = renewed_is t v (changed_frac change t.coefficient) h in
    ap₂ (λ x e. x *ℚ e) (change_value_lem change t.coefficient v.coefficient p (sym r.0)) (ap (λ w. p w.position w.entry) r.1)
    ∙ changed_product change (value t.coefficient) (p t.position t.entry)

-- ---- sums, products and quotients
pub form_sum_value : (f g h : ParamForm) (p : Parameters) → sum_gives_form f g (Ok h) → form_value h p ≡ form_value f p +ℚ form_value g p
form_sum_value f g h p s =
    ap₂ ◌+ℚ◌ (sum_value_lem f.constant g.constant h.constant p s.1.0) (sum_of_terms key_of (term_value p) has_zero (zero_term p) sum_gives_term
    (term_sum p) f.terms g.terms h.terms s.0.0.rising s.0.1.rising s.1.1)
    ∙ ring (value f.constant ∷ value g.constant ∷ rat_sum_by (term_value p) f.terms ∷ rat_sum_by (term_value p) g.terms ∷ []) (search reads depth 30) tt

pub form_change_value : (change : Change) (f h : ParamForm) (p : Parameters) → change_gives_form change f (Ok h) → form_value h p ≡ changed change (form_value f p)
form_change_value change f h p s =
    ap₂ ◌+ℚ◌ (change_value_lem change f.constant h.constant p s.1.0)
    (change_of_terms key_of (term_value p) has_zero (zero_term p) (change_gives_term change) (changed change) (term_change p change) (changed_zero change)
    (changed_sums change) f.terms h.terms s.0.rising s.1.1)
    ∙ changed_sum change (value f.constant) (rat_sum_by (term_value p) f.terms)

-- ---- one answer
same_parts : (f g : ParamForm) → f.constant ≡ g.constant → f.terms ≡ g.terms → f ≡ g
same_parts f g d e = ap₂ (λ c ts. let h : ParamForm = record { constant = c; terms = ts } in h) d e

one_term_sum : (t u : ParamTerm) (r s : Result ParamTerm Passes) → sum_gives_term t u r → sum_gives_term t u s → r ≡ s
one_term_sum t u r s h k = h.1 ∙ sym k.1

pub one_form_sum : (f g : ParamForm) (r s : Result ParamForm Passes) → sum_gives_form f g r → sum_gives_form f g s → r ≡ s
one_form_sum f g r s h k =
    one_in_turn constant_of terms_of same_parts _ _ (one_answer (sum_of f.constant g.constant)) (one_sum_of_terms key_of has_zero sum_gives_term one_term_sum f.terms g.terms) r s h.1 k.1

pub one_form_change : (change : Change) (f : ParamForm) (r s : Result ParamForm Passes) → change_gives_form change f r → change_gives_form change f s → r ≡ s
one_form_change change f r s h k =
    one_in_turn constant_of terms_of same_parts _ _ (one_answer (changed_frac change f.constant))
    (one_change_of_terms key_of has_zero (change_gives_term change) (λ t r s h k. h ∙ sym k) f.terms) r s h.1 k.1

-- ---- names
pub form_number_named : (names : Names) (x : Frac) → IsNamedForm names (form_of_number x)
form_number_named names x = All-nil (IsNamed names)

pub form_entry_named : (names : Names) (position : ℕ) (name : List ℕ) (entry : ℕ) (setting : Pairs) (f : ParamForm) → IsNameOf names position name → IsEntryForm position name entry f
    → IsNamedForm names f
form_entry_named names position name entry setting f n h =
    subst (λ g. IsNamedForm names g) (sym h.is) (All-cons (IsNamed names) _ [] n (All-nil (IsNamed names)))

sum_at_named : (names : Names) (x y : Option ParamTerm) (v : ParamTerm) → ((t : ParamTerm) → x ≡ Some t → IsNamed names t) → ((t : ParamTerm) → y ≡ Some t → IsNamed names t)
    → SumsAt has_zero sum_gives_term x y (Ok (Some v)) → IsNamed names v
sum_at_named names None y v h k s = k v (cc)
sum_at_named names (Some t) None v h k s = h v (cc)
sum_at_named names (Some t) (Some u) v h k s = by (has_zero s.0) s.2
  where
    by : (b : Bool) → Some v ≡ (if b then None else Some s.0) → IsNamed names v
    by true e = cc
    by false e =
        let r = renewed_is t s.0 (sum_of t.coefficient u.coefficient) s.1.1 in
        let d : v ≡ with_coefficient t s.0.coefficient = cc in
        subst (IsNamed names) (sym d) (h t refl)

pub form_sum_named : (names : Names) (f g h : ParamForm) → sum_gives_form f g (Ok h) → IsNamedForm names f → IsNamedForm names g → IsNamedForm names h
form_sum_named names f g h s n m =
    each_formed key_of has_zero (λ k. SumsAt has_zero sum_gives_term (term_at key_of f.terms k) (term_at key_of g.terms k)) (IsNamed names)
    (λ k v q. sum_at_named names (term_at key_of f.terms k) (term_at key_of g.terms k) v (λ t e. term_at-All key_of (IsNamed names) f.terms k t n e)
    (λ t e. term_at-All key_of (IsNamed names) g.terms k t m e) q)
    h.terms s.1.1

change_at_named : (names : Names) (change : Change) (x : Option ParamTerm) (v : ParamTerm) → ((t : ParamTerm) → x ≡ Some t → IsNamed names t)
    → ChangesAt has_zero (change_gives_term change) x (Ok (Some v)) → IsNamed names v
change_at_named names change None v h s = cc
change_at_named names change (Some t) v h s = by (has_zero s.0) s.2
  where
    by : (b : Bool) → Some v ≡ (if b then None else Some s.0) → IsNamed names v
    by true e = cc
    by false e =
        let r = renewed_is t s.0 (changed_frac change t.coefficient) s.1 in
        let d : v ≡ with_coefficient t s.0.coefficient = cc in
        subst (IsNamed names) (sym d) (h t refl)

pub form_change_named : (names : Names) (change : Change) (f h : ParamForm) → change_gives_form change f (Ok h) → IsNamedForm names f → IsNamedForm names h
form_change_named names change f h s n =
    each_formed key_of has_zero (λ k. ChangesAt has_zero (change_gives_term change) (term_at key_of f.terms k)) (IsNamed names)
    (λ k v q. change_at_named names change (term_at key_of f.terms k) v (λ t e. term_at-All key_of (IsNamed names) f.terms k t n e) q)
    h.terms s.1.1
