-- Which row stops a program at a setting, and how many rows there are.
use Rattle.std.proofs.Common.{◌≡◌, ℕ, suc, ◌+◌, ◌<◌, ◌≤◌, List, [], ◌∷◌, length, Result, Ok, Err, inl, inr, refl, sym, ap, ap₂, ◌∙◌, subst, arith}
use Rattle.dcx_frac.specs.declared.fraction.Frac.{Frac}
use Rattle.dcx_frac.specs.declared.fraction.Passes.{Passes}
use Rattle.dcx_point.specs.Pairs.{Pairs}
use Rattle.dcx_linear.specs.declared.param_form.ParamForm.{ParamForm}
use Rattle.dcx_linear.specs.declared.form.Form.{Form}
use Rattle.dcx_linear.specs.declared.row.Row.{Row}
use Rattle.dcx_linear.specs.declared.row.UnknownKind.{UnknownKind}
use Rattle.dcx_linear.specs.declared.map_stop.MapStop.{MapStop}
use Rattle.dcx_linear.specs.declared.map_stop.MapStop.TheVariants as stops
use Rattle.dcx_linear.specs.MapStops.{OnRow}
use Rattle.dcx_graph.specs.Program.{Program}
use Rattle.dcx_graph.specs.Fixing.{linear_in, FixGives}
use Rattle.dcx_graph.proofs.OneProgram.{same_program}
use Rattle.dcx_linear.specs.FormsAt.{with_form, at_row, form_on_row, then_row, rows_at, form_at, ProgramOf, program_gives}

-- the operation passes at the row of the form
on_row-stop : (n : ℕ) (r : Result (Form Frac) Passes) (s : ℕ × Passes) → at_row n r ≡ Err s → s.0 ≡ n
on_row-stop n (Ok f) s e = cc
on_row-stop n (Err passes) s e = let d : (n, passes) ≡ s = cc in sym (ap (λ t. t.0) d)

module _ (setting : Pairs) where
  abbrev Behind : ℕ → Row ParamForm → List (Row ParamForm) → Result (Form Frac) (ℕ × Passes) → Result (List (Row Frac)) (ℕ × Passes) → Result (List (Row Frac)) (ℕ × Passes)
  Behind n r rs first rest = then_row first (λ f. then_row rest (λ us. Ok (with_form r f ∷ us)))

  -- rows at a setting are as many
  pub rows_at-length : (n : ℕ) (rs : List (Row ParamForm)) (us : List (Row Frac)) → rows_at setting n rs ≡ Ok us → length us ≡ length rs
  rows_at-length n [] us e = let d : us ≡ [] = cc in ap length d
  rows_at-length n (r ∷ rs) us e = by (form_on_row setting n r.form) (rows_at setting (suc n) rs) (rows_at-length (suc n) rs) e
    where
      by : (first : Result (Form Frac) (ℕ × Passes)) (rest : Result (List (Row Frac)) (ℕ × Passes)) → ((vs : List (Row Frac)) → rest ≡ Ok vs → length vs ≡ length rs)
          → Behind n r rs first rest ≡ Ok us → length us ≡ length (r ∷ rs)
      by (Ok f) (Ok vs) q d = let d' : us ≡ with_form r f ∷ vs = cc in ap length d' ∙ ap suc (q vs refl)
      by (Ok f) (Err stop) q d = cc
      by (Err stop) rest q d = cc

  -- an operation passes at one of them
  pub rows_at-stop : (n : ℕ) (rs : List (Row ParamForm)) (s : ℕ × Passes) → rows_at setting n rs ≡ Err s → s.0 < n + length rs
  rows_at-stop n [] s e = cc
  rows_at-stop n (r ∷ rs) s e = by (form_on_row setting n r.form) (rows_at setting (suc n) rs) (on_row-stop n (form_at setting r.form)) (rows_at-stop (suc n) rs) e
    where
      by : (first : Result (Form Frac) (ℕ × Passes)) (rest : Result (List (Row Frac)) (ℕ × Passes)) → ((t : ℕ × Passes) → first ≡ Err t → t.0 ≡ n)
          → ((t : ℕ × Passes) → rest ≡ Err t → t.0 < suc n + length rs)
          → Behind n r rs first rest ≡ Err s → s.0 < n + length (r ∷ rs)
      by (Ok f) (Ok vs) p q d = cc
      by (Ok f) (Err stop) p q d = let d' : stop ≡ s = cc in let b = q stop refl in let k : stop.0 ≡ s.0 = ap (λ t. t.0) d' in omega (arith, b, k)
      by (Err stop) rest p q d = let d' : stop ≡ s = cc in let b = p stop refl in let k : stop.0 ≡ s.0 = ap (λ t. t.0) d' in omega (arith, b, k)

  -- an operation passes at a row, or at what is to be small
  pub program-stop : (q : ProgramOf ParamForm) (s : ℕ × Passes) → program_gives setting q (Err s) → s.0 ≤ length q.0
  program-stop q s (inl h) = let b = rows_at-stop 0 q.0 s h in omega (arith, b)
  program-stop q s (inr h) = let b = on_row-stop (length q.0) (form_at setting q.1) s h.1 in omega (arith, b)

  -- what passes is told with its row
  pub told-stop : (q : ProgramOf ParamForm) (stop : MapStop) (row : ℕ) (passes : Passes) → stop ≡ stops.Passes row passes → OnRow stop (λ s. program_gives setting q (Err s))
      → program_gives setting q (Err (row, passes))
  told-stop q stop row passes e h = subst (λ t. OnRow t (λ s. program_gives setting q (Err s))) e h

  -- the same of a program with the same parts
  pub same_parts : (rows others : List (Row ParamForm)) (f g : Form ParamForm) (kinds more : List UnknownKind) → rows ≡ others → f ≡ g → kinds ≡ more → (r : Result (ProgramOf Frac) (ℕ × Passes))
      → program_gives setting (rows, f, kinds) r → program_gives setting (others, g, more) r
  same_parts rows others f g kinds more a b d r h =
      subst (λ ks. program_gives setting (others, g, ks) r) d (subst (λ x. program_gives setting (others, x, kinds) r) b (subst (λ rs. program_gives setting (rs, f, kinds) r) a h))

  same_linear : (a b : ProgramOf Frac) → a.0 ≡ b.0 → a.1 ≡ b.1 → a.2 ≡ b.2 → a ≡ b
  same_linear a b rows objective kinds = ap₂ (λ (rs : List (Row Frac)) (f : Form Frac). (rs, f, a.2)) rows objective ∙ ap (λ (ks : List UnknownKind). (b.0, b.1, ks)) kinds

  -- there is one answer at a setting
  pub one_at_setting : (q : ProgramOf ParamForm) (r s : Result (ProgramOf Frac) (ℕ × Passes)) → program_gives setting q r → program_gives setting q s → r ≡ s
  one_at_setting q (Ok a) (Ok b) h k =
      let rows : a.0 ≡ b.0 = let x = h.0 in let y = k.0 in cc in
      let objective : a.1 ≡ b.1 = let x = h.1 in let y = k.1 in cc in
      ap Ok (same_linear a b rows objective (h.2 ∙ sym k.2))
  one_at_setting q (Ok a) (Err s) h (inl k) = let x = h.0 in cc
  one_at_setting q (Ok a) (Err s) h (inr k) = let x = h.1 in let y = k.1 in cc
  one_at_setting q (Err s) (Ok b) (inl h) k = let x = k.0 in cc
  one_at_setting q (Err s) (Ok b) (inr h) k = let x = h.1 in let y = k.1 in cc
  one_at_setting q (Err s) (Err t) (inl h) (inl k) = cc
  one_at_setting q (Err s) (Err t) (inl h) (inr k) = let x = k.0.1 in cc
  one_at_setting q (Err s) (Err t) (inr h) (inl k) = let x = h.0.1 in cc
  one_at_setting q (Err s) (Err t) (inr h) (inr k) = let x = h.1 in let y = k.1 in cc

  pub one_fixed : (q : Program ParamForm) (r s : Result (Program Frac) (ℕ × Passes)) → FixGives setting q r → FixGives setting q s → r ≡ s
  one_fixed q (Ok a) (Ok b) h k =
      let e = one_at_setting (linear_in q) (Ok (linear_in a)) (Ok (linear_in b)) h.0 k.0 in
      let d : linear_in a ≡ linear_in b = cc in
      ap Ok (same_program a b (ap (λ (x : ProgramOf Frac). x.0) d) (ap (λ (x : ProgramOf Frac). x.1) d) (ap (λ (x : ProgramOf Frac). x.2) d) (h.1 ∙ sym k.1))
  one_fixed q (Ok a) (Err s) h k = let e = one_at_setting (linear_in q) (Ok (linear_in a)) (Err s) h.0 k in cc
  one_fixed q (Err s) (Ok b) h k = let e = one_at_setting (linear_in q) (Err s) (Ok (linear_in b)) h k.0 in cc
  one_fixed q (Err s) (Err t) h k = let e = one_at_setting (linear_in q) (Err s) (Err t) h k in let d : s ≡ t = cc in ap Err d
