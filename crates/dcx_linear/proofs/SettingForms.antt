-- Forms at a setting: their terms, their width, and the number that they are.
use Rattle.std.proofs.Common.{◌≡◌, ℕ, ◌+◌, ◌<◌, ◌≤◌, Bool, true, false, if◌then◌else◌, List, [], ◌∷◌, ◌++◌, Some, None, Result, Ok}
use Rattle.std.proofs.Common.{Err, length, get_or, drop, append_assoc, refl, sym, ap, ap₂, ◌∙◌, subst, pos}
use Rattle.std.specs.List.{All}
use Rattle.std.specs.Option.{option_to_list}
use Rattle.std.proofs.lemmas.List.{append-nil, drop_all}
use Rattle.std.proofs.lemmas.List.Elements.{All-nil, All-cons, All-head, All-tail}
use Rattle.dcx_math.specs.Rational.{ℚ, whole, ◌+ℚ◌, ◌*ℚ◌}
use Rattle.dcx_math.specs.Sums.{rat_sum_by}
use Rattle.dcx_math.proofs.Orders.{+ℚ_idl, zero-*ℚ}
use Rattle.dcx_math.proofs.Ratios.{IsTrue-rat_eq}
use Rattle.dcx_math.specs.Rising.{IsRising}
use Rattle.dcx_frac.specs.declared.fraction.Frac.{Frac}
use Rattle.dcx_frac.specs.declared.fraction.Passes.{Passes}
use Rattle.dcx_frac.specs.Frac.{value}
use Rattle.dcx_atom.specs.Formed.{and_then}
use Rattle.dcx_point.specs.Pairs.{Pairs}
use Rattle.dcx_linear.specs.declared.param_form.ParamForm.{ParamForm}
use Rattle.dcx_linear.specs.declared.form.FormTerm.{FormTerm}
use Rattle.dcx_linear.specs.declared.form.Form.{Form}
use Rattle.dcx_linear.specs.Changes.{zero_test}
use Rattle.dcx_linear.specs.Parameters.{Parameters, Names}
use Rattle.dcx_linear.specs.ParamForms.{form_value, IsListedBy, IsNamedForm, StandsFor, number_at}
use Rattle.dcx_linear.specs.FormTerms.{Unknowns, unknown_of, has_zero_coefficient, HoldsUnknowns, unknown_value}
use Rattle.dcx_linear.specs.Forms.{linear_value}
use Rattle.dcx_linear.specs.Widths.{form_width}
use Rattle.dcx_linear.specs.Slots.{kept_term}
use Rattle.dcx_linear.specs.NamedForms.{IsNamedTerm, IsNamedLinear}
use Rattle.dcx_linear.specs.FormsAt.{told, frac_value, IsListedTerm, IsListedForm, terms_at, form_at, with_terms}
use Rattle.dcx_linear.proofs.Formed.{drop_at}
use Rattle.dcx_linear.proofs.Settings.{plus_value}
use Rattle.dcx_linear.proofs.Widths.{width_bounds, width_least}

abbrev numbered : ℕ → Frac → FormTerm Frac
numbered unknown x = record { unknown = unknown; coefficient = x }

-- goes on with a number: its term stands before the others, unless it is 0
abbrev pub before : ℕ → Result (List (FormTerm Frac)) Passes → Frac → Result (List (FormTerm Frac)) Passes
before unknown r x = and_then r (λ us. Ok (option_to_list (kept_term told unknown x) ++ us))

-- ---- what the terms at a setting are, by the first number and the rest
first_number : (unknown : ℕ) (r : Result Frac Passes) (rest : Result (List (FormTerm Frac)) Passes) (us : List (FormTerm Frac)) → and_then r (before unknown rest) ≡ Ok us
    → (x : Frac) × (r ≡ Ok x) × (before unknown rest x ≡ Ok us)
first_number unknown (Ok x) rest us e = (x, refl, e)
first_number unknown (Err passes) rest us e = cc

then_rest : (unknown : ℕ) (x : Frac) (rest : Result (List (FormTerm Frac)) Passes) (us : List (FormTerm Frac)) → before unknown rest x ≡ Ok us
    → (vs : List (FormTerm Frac)) × (rest ≡ Ok vs) × (us ≡ option_to_list (kept_term told unknown x) ++ vs)
then_rest unknown x (Ok vs) us e = (vs, refl, cc)
then_rest unknown x (Err passes) us e = cc

abbrev Splits : Pairs → FormTerm ParamForm → List (FormTerm ParamForm) → List (FormTerm Frac) → Type 0
Splits setting t ts us =
    (x : Frac) × (number_at setting t.coefficient ≡ Ok x) × ((vs : List (FormTerm Frac)) × (terms_at setting ts ≡ Ok vs) × (us ≡ option_to_list (kept_term told t.unknown x) ++ vs))

split : (setting : Pairs) (t : FormTerm ParamForm) (ts : List (FormTerm ParamForm)) (us : List (FormTerm Frac)) → terms_at setting (t ∷ ts) ≡ Ok us → Splits setting t ts us
split setting t ts us e =
    let a = first_number t.unknown (number_at setting t.coefficient) (terms_at setting ts) us e in
    (a.0, a.1, then_rest t.unknown a.0 (terms_at setting ts) us a.2)

with_kept : (P : ℕ → Type 0) (t : FormTerm Frac) (us : List (FormTerm Frac)) (b : Bool) → P t.unknown → All (λ u. P (unknown_of u)) us
    → All (λ u. P (unknown_of u)) (option_to_list (if b then None else Some t) ++ us)
with_kept P t us true p h = h
with_kept P t us false p h = All-cons (λ u. P (unknown_of u)) t us p h

-- the unknowns are among those of the form
pub terms_at-unknowns : (setting : Pairs) (P : ℕ → Type 0) (ts : List (FormTerm ParamForm)) (us : List (FormTerm Frac)) → terms_at setting ts ≡ Ok us → All (λ t. P (unknown_of t)) ts
    → All (λ u. P (unknown_of u)) us
terms_at-unknowns setting P [] us e h = let d : us ≡ [] = cc in subst (λ l. All (λ u. P (unknown_of u)) l) (sym d) (All-nil (λ u. P (unknown_of u)))
terms_at-unknowns setting P (t ∷ ts) us e h =
    let s = split setting t ts us e in
    subst (λ l. All (λ u. P (unknown_of u)) l) (sym s.2.2)
    (with_kept P (numbered t.unknown s.0) s.2.0 (zero_test s.0) (All-head (λ u. P (unknown_of u)) t ts h) (terms_at-unknowns setting P ts s.2.0 s.2.1 (All-tail (λ u. P (unknown_of u)) t ts h)))

with_sparse : (t : FormTerm Frac) (us : List (FormTerm Frac)) (b : Bool) → zero_test t.coefficient ≡ b → All (λ u. t.unknown < unknown_of u) us → HoldsUnknowns told us
    → HoldsUnknowns told (option_to_list (if b then None else Some t) ++ us)
with_sparse t us true e above h = h
with_sparse t us false e above h = record { rising = (above, h.rising); nonzero = All-cons (λ u. has_zero_coefficient told u ≡ false) t us e h.nonzero }

-- they rise, and no coefficient is 0
pub terms_at-sparse : (setting : Pairs) (ts : List (FormTerm ParamForm)) (us : List (FormTerm Frac)) → terms_at setting ts ≡ Ok us → IsRising unknown_of ts → HoldsUnknowns told us
terms_at-sparse setting [] us e h =
    let d : us ≡ [] = cc in
    subst (λ l. HoldsUnknowns told l) (sym d) (record { rising = tt; nonzero = All-nil (λ u. has_zero_coefficient told u ≡ false) })
terms_at-sparse setting (t ∷ ts) us e h =
    let s = split setting t ts us e in
    subst (λ l. HoldsUnknowns told l) (sym s.2.2)
    (with_sparse (numbered t.unknown s.0) s.2.0 (zero_test s.0) refl (terms_at-unknowns setting (λ n. t.unknown < n) ts s.2.0 s.2.1 h.0) (terms_at-sparse setting ts s.2.0 s.2.1 h.1))

-- ---- one after the other
joined : (unknown : ℕ) (x : Frac) (r : Result (List (FormTerm Frac)) Passes) (so_far : List (FormTerm Frac))
    → and_then (before unknown r x) (λ us. Ok (so_far ++ us)) ≡ and_then r (λ us. Ok ((so_far ++ option_to_list (kept_term told unknown x)) ++ us))
joined unknown x (Ok vs) so_far = ap Ok (sym (append_assoc so_far (option_to_list (kept_term told unknown x)) vs))
joined unknown x (Err passes) so_far = refl

-- the terms from i on, behind those so far, are all
abbrev pub LeadsTo : Pairs → List (FormTerm ParamForm) → ℕ → List (FormTerm Frac) → Type 0
LeadsTo setting ts i so_far = and_then (terms_at setting (drop i ts)) (λ us. Ok (so_far ++ us)) ≡ terms_at setting ts

module _ (setting : Pairs) (ts : List (FormTerm ParamForm)) (i : ℕ) (t : FormTerm ParamForm) (lt : i < length ts) (is : t ≡ get_or ts i t) (so_far : List (FormTerm Frac)) where
  abbrev From : Result Frac Passes → Result (List (FormTerm Frac)) Passes
  From r = and_then (and_then r (before t.unknown (terms_at setting (drop (i + 1) ts)))) (λ us. Ok (so_far ++ us))

  first_of_rest : From (number_at setting t.coefficient) ≡ and_then (terms_at setting (drop i ts)) (λ us. Ok (so_far ++ us))
  first_of_rest = ap (λ l. and_then (terms_at setting l) (λ us. Ok (so_far ++ us))) (sym (drop_at ts i t lt is))

  -- a number is formed
  pub number_goes : (zs : List (FormTerm Frac)) (x : Frac) → number_at setting t.coefficient ≡ Ok x → zs ≡ so_far ++ option_to_list (kept_term told t.unknown x) → LeadsTo setting ts i so_far
      → LeadsTo setting ts (i + 1) zs
  number_goes zs x e d h =
      ap (λ l. and_then (terms_at setting (drop (i + 1) ts)) (λ us. Ok (l ++ us))) d
      ∙ sym (joined t.unknown x (terms_at setting (drop (i + 1) ts)) so_far)
      ∙ ap From (sym e) ∙ first_of_rest ∙ h

  -- or its first operation passes
  pub number_stops : (passes : Passes) → number_at setting t.coefficient ≡ Err passes → LeadsTo setting ts i so_far → Err passes ≡ terms_at setting ts
  number_stops passes e h = ap From (sym e) ∙ first_of_rest ∙ h

-- after the last term all are formed
pub numbers_end : (setting : Pairs) (ts : List (FormTerm ParamForm)) (i : ℕ) (so_far : List (FormTerm Frac)) → length ts ≤ i → LeadsTo setting ts i so_far → Ok so_far ≡ terms_at setting ts
numbers_end setting ts i so_far le h = ap Ok (sym (append-nil so_far)) ∙ ap (λ l. and_then (terms_at setting l) (λ us. Ok (so_far ++ us))) (sym (drop_all i ts le)) ∙ h

-- ---- forms
first_constant : (r : Result Frac Passes) (rest : Result (List (FormTerm Frac)) Passes) (g : Form Frac) → and_then r (λ x. and_then rest (λ us. Ok (with_terms x us))) ≡ Ok g
    → (r ≡ Ok g.constant) × (rest ≡ Ok g.terms)
first_constant (Ok x) (Ok us) g e =
    let d : with_terms x us ≡ g = cc in
    (ap (λ f. Ok f.constant) d, ap (λ f. Ok f.terms) d)
first_constant (Ok x) (Err passes) g e = cc
first_constant (Err passes) rest g e = cc

-- the constant and the terms of a form at a setting
pub form_at-parts : (setting : Pairs) (f : Form ParamForm) (g : Form Frac) → form_at setting f ≡ Ok g → (number_at setting f.constant ≡ Ok g.constant) × (terms_at setting f.terms ≡ Ok g.terms)
form_at-parts setting f g e = first_constant (number_at setting f.constant) (terms_at setting f.terms) g e

-- it is no wider
pub form_at-width : (setting : Pairs) (n : ℕ) (f : Form ParamForm) (g : Form Frac) → form_at setting f ≡ Ok g → form_width f ≤ n → form_width g ≤ n
form_at-width setting n f g e h =
    width_least g.terms n (terms_at-unknowns setting (λ u. u < n) f.terms g.terms (form_at-parts setting f g e).1 (width_bounds f.terms n h))

module _ (names : Names) (setting : Pairs) (p : Parameters) (stands : StandsFor names setting p) (x : Unknowns) where
  abbrev at_number : FormTerm Frac → ℚ
  at_number u = unknown_value frac_value x p u

  abbrev at_parameters : FormTerm ParamForm → ℚ
  at_parameters t = unknown_value form_value x p t

  kept_value : (t : FormTerm Frac) (us : List (FormTerm Frac)) (b : Bool) → zero_test t.coefficient ≡ b
      → rat_sum_by at_number (option_to_list (if b then None else Some t) ++ us) ≡ at_number t +ℚ rat_sum_by at_number us
  kept_value t us true e =
      sym (+ℚ_idl (rat_sum_by at_number us))
      ∙ ap (λ q. q +ℚ rat_sum_by at_number us) (sym (ap (λ q. q *ℚ x t.unknown) ((IsTrue-rat_eq (value t.coefficient) (whole (pos 0))).0 e) ∙ zero-*ℚ (x t.unknown)))
  kept_value t us false e = refl

  number_value : (c : ParamForm) (y : Frac) → number_at setting c ≡ Ok y → IsNamedForm names c → IsListedBy setting c → value y ≡ form_value c p
  number_value c y e named listed = plus_value names setting p stands c.constant c.terms y named listed e

  terms_value : (ts : List (FormTerm ParamForm)) (us : List (FormTerm Frac)) → terms_at setting ts ≡ Ok us → All (IsNamedTerm IsNamedForm names) ts → All (IsListedTerm setting) ts
      → rat_sum_by at_number us ≡ rat_sum_by at_parameters ts
  terms_value [] us e named listed = let d : us ≡ [] = cc in ap (rat_sum_by at_number) d
  terms_value (t ∷ ts) us e named listed =
      let s = split setting t ts us e in
      ap (rat_sum_by at_number) s.2.2
      ∙ kept_value (numbered t.unknown s.0) s.2.0 (zero_test s.0) refl
      ∙ ap₂ ◌+ℚ◌ (ap (λ q. q *ℚ x t.unknown) (number_value t.coefficient s.0 s.1 (All-head (IsNamedTerm IsNamedForm names) t ts named) (All-head (IsListedTerm setting) t ts listed)))
      (terms_value ts s.2.0 s.2.1 (All-tail (IsNamedTerm IsNamedForm names) t ts named) (All-tail (IsListedTerm setting) t ts listed))

  -- it is the number that the form is, where the setting's entries stand for the parameters
  pub form_at-value : (f : Form ParamForm) (g : Form Frac) → form_at setting f ≡ Ok g → IsNamedLinear IsNamedForm names f → IsListedForm setting f
      → linear_value frac_value g x p ≡ linear_value form_value f x p
  form_at-value f g e named listed =
      let s = form_at-parts setting f g e in
      ap₂ ◌+ℚ◌ (number_value f.constant g.constant s.0 named.0 listed.0) (terms_value f.terms g.terms s.1 named.1 listed.1)
