-- A program with affine coefficients at a setting.
use Rattle.std.proofs.Common.{◌≡◌, ℕ, zero, suc, ◌<◌, arith, List, [], ◌∷◌, length, map, get_or, Option, Some, None, option_map, IsSome, Result, Ok, Err, slice_get, refl, sym, ap, ap₂, ◌∙◌, subst}
use Rattle.std.specs.Option.{unwrap_or, option_and_then}
use Rattle.std.proofs.Math.Path.{fun_ext}
use Rattle.std.proofs.lemmas.Option.{none-some, slice_get-map, slice_get_within, get_or_from_slice_get}
use Rattle.dcx_math.specs.Rational.{ℚ}
use Rattle.dcx_math.proofs.Lists.{element_at, mapped}
use Rattle.dcx_frac.specs.declared.fraction.Frac.{Frac}
use Rattle.dcx_frac.specs.declared.fraction.Passes.{Passes}
use Rattle.dcx_frac.specs.Frac.{value}
use Rattle.dcx_shape.specs.Shape.{sides_of}
use Rattle.dcx_shape.specs.Sides.{entries_of}
use Rattle.dcx_atom.specs.declared.array.Array.{Array}
use Rattle.dcx_atom.specs.Arrays.{number_at}
use Rattle.dcx_point.specs.Pairs.{Pairs, array_of}
use Rattle.dcx_call.specs.declared.attribute.Parameter.{Parameter}
use Rattle.dcx_call.specs.Values.{given_by, HasArray}
use Rattle.dcx_tree.specs.declared.problem.Problem.{Problem}
use Rattle.dcx_tree.specs.Meaning.{names_in, setting_of}
use Rattle.dcx_tree.proofs.NodeValues.{number_there}
use Rattle.dcx_linear.specs.declared.form.Form.{Form}
use Rattle.dcx_linear.specs.declared.row.Row.{Row}
use Rattle.dcx_linear.specs.declared.param_form.ParamForm.{ParamForm}
use Rattle.dcx_linear.specs.declared.param_term.ParamTerm.{ParamTerm}
use Rattle.dcx_linear.specs.declared.row.UnknownKind.{UnknownKind}
use Rattle.dcx_linear.specs.Parameters.{Parameters, array_entry, entry_of}
use Rattle.dcx_linear.specs.ParamForms.{form_value, IsNamedForm, IsListedBy, StandsFor}
use Rattle.dcx_linear.specs.NamedForms.{IsNamedLinear}
use Rattle.dcx_linear.specs.FormTerms.{Unknowns}
use Rattle.dcx_linear.specs.Forms.{linear_value}
use Rattle.dcx_linear.specs.FormsAt.{frac_value, with_form, form_on_row, then_row, rows_at, form_at, IsListedForm}
use Rattle.dcx_linear.specs.Rows.{RowAt, LinearProgram}
use Rattle.dcx_linear.proofs.SettingForms.{form_at-value}
use Rattle.dcx_linear.proofs.SettingRows.{on_row}
use Rattle.dcx_formed.specs.Within.{IsKnown, IsKnownNumber, IsKnownTerm}
use Rattle.dcx_graph.specs.Program.{Program}
use Rattle.dcx_graph.specs.AsLinear.{row_at, linear_at, IsReductionAt}
use Rattle.dcx_graph.specs.Fixing.{FixGives}
use Rattle.dcx_graph.specs.Fixed.{IsKnownProgram, HaveArrays, KnownAreListed, FixedAreReductions}

-- ---- arrays
module _ (p : Problem) (setting : Pairs) where
  abbrev names : List (List ℕ)
  names = (names_in p).parameters

  abbrev numbers : Parameters
  numbers = setting_of p setting

  -- the numbers of the setting stand for the parameters
  pub stands_for : StandsFor names setting numbers
  stands_for position name entry x named found =
      ap (λ n. given_by setting n entry) (get_or_from_slice_get names position name [] named) ∙ by (array_of setting name) found
    where
      by : (o : Option Array) → option_and_then (array_entry entry) o ≡ Some x → number_at (unwrap_or (option_map (λ (a : Array). a.entries) o) []) entry ≡ value x
      by None e = absurd (none-some x e)
      by (Some a) e = number_there a.entries entry x e

  -- ---- what is known is named, and listed
  number_named : (c : ParamForm) → IsKnownNumber p c → IsNamedForm names c
  number_named c h i d b = (h i d b).name

  form_named : (f : Form ParamForm) → IsKnown p f → IsNamedLinear IsNamedForm names f
  form_named f h = (number_named f.constant h.0, λ i d b. number_named (get_or f.terms i d).coefficient (h.1 i d b))

  module _ (arrays : HaveArrays p setting) where
    term_listed : (t : ParamTerm) → IsKnownTerm p t → IsSome (entry_of setting t.name t.entry)
    term_listed t h =
        let (q, at, same) = mapped (λ (r : Parameter). r.name) p.parameters t.position t.name h.name in
        let has = subst (λ (r : Parameter). HasArray setting r.name (sides_of r.shape)) (get_or_from_slice_get p.parameters t.position q q at)
        (arrays t.position q (slice_get_within p.parameters t.position q at)) in
        let size = get_or_from_slice_get (map (λ (r : Parameter). entries_of (sides_of r.shape)) p.parameters) t.position (entries_of (sides_of q.shape)) 0
        (slice_get-map (λ (r : Parameter). entries_of (sides_of r.shape)) p.parameters t.position ∙ ap (option_map (λ (r : Parameter). entries_of (sides_of r.shape))) at) in
        let inside : t.entry < length has.array.entries = let full = has.array.full in let sides = ap entries_of has.shape in let below = h.entry in omega (arith, full, sides, below, size) in
        let (x, found) = element_at has.array.entries t.entry inside in
        subst IsSome (sym (ap (option_and_then (array_entry t.entry)) (ap (array_of setting) (sym same) ∙ has.there) ∙ found)) refl

    number_listed : (c : ParamForm) → IsKnownNumber p c → IsListedBy setting c
    number_listed c h i d b = term_listed (get_or c.terms i d) (h i d b)

    pub form_listed : (f : Form ParamForm) → IsKnown p f → IsListedForm setting f
    form_listed f h = (number_listed f.constant h.0, λ i d b. number_listed (get_or f.terms i d).coefficient (h.1 i d b))

    -- ---- at the setting
    module _ (params : Parameters) where
      pub form_same : (f : Form ParamForm) (g : Form Frac) (u : Unknowns) → IsKnown p f → form_at setting f ≡ Ok g → linear_value frac_value g u params ≡ linear_value form_value f u numbers
      form_same f g u known e = form_at-value names setting numbers stands_for u f g e (form_named f known) (form_listed f known)

      row_same : (r : Row ParamForm) (g : Form Frac) → IsKnown p r.form → form_at setting r.form ≡ Ok g → row_at frac_value params (with_form r g) ≡ row_at form_value numbers r
      row_same r g known e = ap (λ (f : Unknowns → ℚ). let a : RowAt = record { kind = r.kind; number = f } in a) (fun_ext (λ u. form_same r.form g u known e))

      pub rows_same : (n : ℕ) (rs : List (Row ParamForm)) (us : List (Row Frac)) → ((k : ℕ) (r : Row ParamForm) → slice_get rs k ≡ Some r → IsKnown p r.form) → rows_at setting n rs ≡ Ok us →
          map (row_at frac_value params) us ≡ map (row_at form_value numbers) rs
      rows_same n [] us known e = let d : us ≡ [] = cc in ap (map (row_at frac_value params)) d
      rows_same n (r ∷ rs) us known e =
          by (form_on_row setting n r.form) (rows_at setting (suc n) rs) (on_row n (form_at setting r.form)) (λ vs q. rows_same (suc n) rs vs (λ k. known (suc k)) q) e
        where
          by : (first : Result (Form Frac) (ℕ × Passes)) (rest : Result (List (Row Frac)) (ℕ × Passes)) → ((g : Form Frac) → first ≡ Ok g → form_at setting r.form ≡ Ok g) →
              ((vs : List (Row Frac)) → rest ≡ Ok vs → map (row_at frac_value params) vs ≡ map (row_at form_value numbers) rs) →
              then_row first (λ f. then_row rest (λ vs. Ok (with_form r f ∷ vs))) ≡ Ok us → map (row_at frac_value params) us ≡ map (row_at form_value numbers) (r ∷ rs)
          by (Ok g) (Ok vs) f h q =
              let d : us ≡ with_form r g ∷ vs = cc in
              ap (map (row_at frac_value params)) d ∙ ap₂ ◌∷◌ (row_same r g (known 0 r refl) (f g refl)) (h vs refl)
          by (Ok g) (Err stop) f h q = absurd cc
          by (Err stop) rest f h q = absurd cc

      -- the program at the setting is the same linear program
      pub same_program : (q : Program ParamForm) (r : Program Frac) → IsKnownProgram p q → FixGives setting q (Ok r) → linear_at form_value numbers q ≡ linear_at frac_value params r
      same_program q r known fixed =
          ap₂ (λ (kinds : List UnknownKind) (rows : List RowAt). let l : LinearProgram = record { kinds = kinds; rows = rows; objective = λ u. linear_value form_value q.objective u numbers } in l)
          (sym fixed.0.2) (sym (rows_same 0 q.rows r.rows known.rows fixed.0.0))
          ∙ ap (λ (f : Unknowns → ℚ). let l : LinearProgram = record { kinds = r.kinds; rows = map (row_at frac_value params) r.rows; objective = f } in l)
          (sym (fun_ext (λ u. form_same q.objective r.objective u known.objective (on_row (length q.rows) (form_at setting q.objective) r.objective fixed.0.1))))

pub known_are_listed : KnownAreListed
known_are_listed p setting q known arrays = record {
  rows = λ i d b. form_listed p setting arrays (get_or q.rows i d).form (known.rows i (get_or q.rows i d) (there q.rows i d b));
  objective = form_listed p setting arrays q.objective known.objective;
}
  where
    there : (xs : List (Row ParamForm)) (i : ℕ) (d : Row ParamForm) → i < length xs → slice_get xs i ≡ Some (get_or xs i d)
    there [] i d b = absurd (omega (arith, b))
    there (x ∷ xs) zero d b = refl
    there (x ∷ xs) (suc i) d b = there xs i d (omega (arith, b))

pub fixed_are_reductions : FixedAreReductions
fixed_are_reductions rules p setting q r params known arrays fixed is = subst (IsReductionAt rules p (setting_of p setting)) (same_program p setting arrays params q r known fixed) is
