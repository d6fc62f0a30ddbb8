-- Rows at a setting, one after the other, and their width.
use Rattle.std.proofs.Common.{◌≡◌, ℕ, suc, ◌+◌, ◌<◌, ◌≤◌, max, List, [], ◌∷◌, ◌++◌, Result, Ok, Err, length, get_or, drop, append_assoc, add-one, refl, sym, ap, ◌∙◌, subst, arith}
use Rattle.std.proofs.lemmas.List.{append-nil, drop_all}
use Rattle.dcx_frac.specs.declared.fraction.Frac.{Frac}
use Rattle.dcx_frac.specs.declared.fraction.Passes.{Passes}
use Rattle.dcx_point.specs.Pairs.{Pairs}
use Rattle.dcx_linear.specs.declared.param_form.ParamForm.{ParamForm}
use Rattle.dcx_linear.specs.declared.form.Form.{Form}
use Rattle.dcx_linear.specs.declared.row.Row.{Row}
use Rattle.dcx_linear.specs.Widths.{form_width, rows_width}
use Rattle.dcx_linear.specs.FormsAt.{with_form, at_row, form_on_row, then_row, rows_at, form_at}
use Rattle.dcx_linear.proofs.Formed.{drop_at}
use Rattle.dcx_linear.proofs.SettingForms.{form_at-width}

-- goes on with a form: its row stands before the others
abbrev before_rows : Row ParamForm → Result (List (Row Frac)) (ℕ × Passes) → Form Frac → Result (List (Row Frac)) (ℕ × Passes)
before_rows r rest f = then_row rest (λ us. Ok (with_form r f ∷ us))

joined_rows : (r : Row ParamForm) (f : Form Frac) (rest : Result (List (Row Frac)) (ℕ × Passes)) (so_far : List (Row Frac))
    → then_row (before_rows r rest f) (λ us. Ok (so_far ++ us)) ≡ then_row rest (λ us. Ok ((so_far ++ with_form r f ∷ []) ++ us))
joined_rows r f (Ok vs) so_far = ap Ok (sym (append_assoc so_far (with_form r f ∷ []) vs))
joined_rows r f (Err stop) so_far = refl

-- the rows from i on, behind those so far, are all
abbrev pub RowsLeadTo : Pairs → List (Row ParamForm) → ℕ → List (Row Frac) → Type 0
RowsLeadTo setting rs i so_far = then_row (rows_at setting i (drop i rs)) (λ us. Ok (so_far ++ us)) ≡ rows_at setting 0 rs

module _ (setting : Pairs) (rs : List (Row ParamForm)) (i : ℕ) (r : Row ParamForm) (lt : i < length rs) (is : r ≡ get_or rs i r) (so_far : List (Row Frac)) where
  abbrev From : Result (Form Frac) (ℕ × Passes) → Result (List (Row Frac)) (ℕ × Passes)
  From f = then_row (then_row f (before_rows r (rows_at setting (suc i) (drop (i + 1) rs)))) (λ us. Ok (so_far ++ us))

  first_of_rest : From (form_on_row setting i r.form) ≡ then_row (rows_at setting i (drop i rs)) (λ us. Ok (so_far ++ us))
  first_of_rest = ap (λ l. then_row (rows_at setting i l) (λ us. Ok (so_far ++ us))) (sym (drop_at rs i r lt is))

  -- a row is formed
  pub row_goes : (zs : List (Row Frac)) (f : Form Frac) → Ok f ≡ form_on_row setting i r.form → zs ≡ so_far ++ with_form r f ∷ [] → RowsLeadTo setting rs i so_far → RowsLeadTo setting rs (i + 1) zs
  row_goes zs f e d h =
      ap (λ l. then_row (rows_at setting (i + 1) (drop (i + 1) rs)) (λ us. Ok (l ++ us))) d
      ∙ ap (λ n. then_row (rows_at setting n (drop (i + 1) rs)) (λ us. Ok ((so_far ++ with_form r f ∷ []) ++ us))) (add-one i)
      ∙ sym (joined_rows r f (rows_at setting (suc i) (drop (i + 1) rs)) so_far)
      ∙ ap From e ∙ first_of_rest ∙ h

  -- or an operation of it passes
  pub row_stops : (stop : ℕ × Passes) → Err stop ≡ form_on_row setting i r.form → RowsLeadTo setting rs i so_far → Err stop ≡ rows_at setting 0 rs
  row_stops stop e h = ap From e ∙ first_of_rest ∙ h

-- after the last row all are formed
pub rows_end : (setting : Pairs) (rs : List (Row ParamForm)) (i : ℕ) (so_far : List (Row Frac)) → length rs ≤ i → RowsLeadTo setting rs i so_far → Ok so_far ≡ rows_at setting 0 rs
rows_end setting rs i so_far le h = ap Ok (sym (append-nil so_far)) ∙ ap (λ l. then_row (rows_at setting i l) (λ us. Ok (so_far ++ us))) (sym (drop_all i rs le)) ∙ h

-- ---- widths
max_left : (a b n : ℕ) → max a b ≤ n → a ≤ n
max_left a b n h = omega (arith, h)

max_right : (a b n : ℕ) → max a b ≤ n → b ≤ n
max_right a b n h = omega (arith, h)

max_within : (a b n : ℕ) → a ≤ n → b ≤ n → max a b ≤ n
max_within a b n h k = omega (arith, h, k)

-- what is answered is one value
ok_is_one : {A E : Type 0} (x y : A) (r : Result A E) → r ≡ Ok x → r ≡ Ok y → y ≡ x
ok_is_one x y r e d = cc

ok_or_stop : {A E P : Type 0} (x : A) (stop : E) (r : Result A E) → r ≡ Ok x → r ≡ Err stop → P
ok_or_stop x stop r e d = cc

-- a form that is told by its row is the form
pub on_row : (n : ℕ) (r : Result (Form Frac) Passes) (f : Form Frac) → at_row n r ≡ Ok f → r ≡ Ok f
on_row n (Ok g) f e = ap Ok (ok_is_one f g (at_row n (Ok g)) e refl)
on_row n (Err passes) f e = ok_or_stop f (n, passes) (at_row n (Err passes)) e refl

-- a form of a row at a setting is no wider
pub form_on_row-width : (setting : Pairs) (row n : ℕ) (f : Form ParamForm) (g : Form Frac) → form_on_row setting row f ≡ Ok g → form_width f ≤ n → form_width g ≤ n
form_on_row-width setting row n f g e h = form_at-width setting n f g (on_row row (form_at setting f) g e) h

abbrev Splits : Pairs → ℕ → Row ParamForm → List (Row ParamForm) → List (Row Frac) → Type 0
Splits setting m r rs us = (f : Form Frac) × (form_on_row setting m r.form ≡ Ok f) × ((vs : List (Row Frac)) × (rows_at setting (suc m) rs ≡ Ok vs) × (us ≡ with_form r f ∷ vs))

split : (setting : Pairs) (m : ℕ) (r : Row ParamForm) (rs : List (Row ParamForm)) (us : List (Row Frac)) (first : Result (Form Frac) (ℕ × Passes)) (rest : Result (List (Row Frac)) (ℕ × Passes))
    → form_on_row setting m r.form ≡ first → rows_at setting (suc m) rs ≡ rest → then_row first (before_rows r rest) ≡ Ok us → Splits setting m r rs us
split setting m r rs us (Ok f) (Ok vs) d q e = (f, d, (vs, q, ok_is_one (with_form r f ∷ vs) us (Ok (with_form r f ∷ vs)) refl e))
split setting m r rs us (Ok f) (Err stop) d q e = ok_or_stop us stop (Err stop) e refl
split setting m r rs us (Err stop) rest d q e = ok_or_stop us stop (Err stop) e refl

-- rows at a setting are no wider
pub rows_at-width : (setting : Pairs) (m n : ℕ) (rs : List (Row ParamForm)) (us : List (Row Frac)) → rows_at setting m rs ≡ Ok us → rows_width rs ≤ n → rows_width us ≤ n
rows_at-width setting m n [] us e h = subst (λ l. rows_width l ≤ n) (sym (ok_is_one [] us (rows_at setting m []) refl e)) h
rows_at-width setting m n (r ∷ rs) us e h =
    let s = split setting m r rs us (form_on_row setting m r.form) (rows_at setting (suc m) rs) refl refl e in
    let first : form_width s.0 ≤ n = form_on_row-width setting m n r.form s.0 s.1 (max_left (form_width r.form) (rows_width rs) n h) in
    let rest : rows_width s.2.0 ≤ n = rows_at-width setting (suc m) n rs s.2.0 s.2.1 (max_right (form_width r.form) (rows_width rs) n h) in
    subst (λ l. rows_width l ≤ n) (sym s.2.2) (max_within (form_width s.0) (rows_width s.2.0) n first rest)

-- so they stay within the kinds of the unknowns
pub known_rows : {K : Type 0} (setting : Pairs) (rs ts : List (Row ParamForm)) (us vs : List (Row Frac)) (kinds others : List K) → Ok us ≡ rows_at setting 0 ts → ts ≡ rs → vs ≡ us → others ≡ kinds
    → rows_width rs ≤ length kinds
    → rows_width vs ≤ length others
known_rows setting rs ts us vs kinds others e d f k h =
    subst (λ l. rows_width l ≤ length others) (sym f)
    (subst (λ l. rows_width us ≤ length l) (sym k) (rows_at-width setting 0 (length kinds) rs us (ap (rows_at setting 0) (sym d) ∙ sym e) h))

pub known_form : {K : Type 0} (setting : Pairs) (row : ℕ) (f : Form ParamForm) (g : Form Frac) (kinds others : List K) → Ok g ≡ form_on_row setting row f → others ≡ kinds
    → form_width f ≤ length kinds → form_width g ≤ length others
known_form setting row f g kinds others e k h = subst (λ l. form_width g ≤ length l) (sym k) (form_on_row-width setting row (length kinds) f g (sym e) h)
