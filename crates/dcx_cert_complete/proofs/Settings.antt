-- The checks of a setting that fits, with the values that a certificate has of it, fail with nothing but an operation that passes.
use Rattle.std.proofs.Common.{◌≡◌, inl, inr, ℕ, zero, suc, ◌<◌, Bool, true, false, List, [], ◌∷◌, ◌++◌, map, Option, Some, None, option_map, slice_get, refl, sym, ap, ◌∙◌, subst, true≢false}
use Rattle.std.specs.Prelude.{get_or}
use Rattle.std.specs.List.{flat_map}
use Rattle.std.specs.Option.{unwrap_or}
use Rattle.std.proofs.lemmas.Option.{none-some, same_Some, slice_get-map, get_or_from_slice_get, slice_get-get_or}
use Rattle.dcx_shape.specs.declared.shape.Sides.TheVariants.{Scalar}
use Rattle.dcx_shape.specs.Sides.{entries_of}
use Rattle.dcx_atom.specs.declared.array.Array.{Array}
use Rattle.dcx_atom.specs.Arrays.{number_at}
use Rattle.dcx_point.specs.Pairs.{Pairs, same_name, array_of}
use Rattle.dcx_point.proofs.Puts.{same_name-refl, same_name-true}
use Rattle.dcx_arena.specs.Nodes.{sides_at}
use Rattle.dcx_call.specs.declared.attribute.Parameter.{Parameter}
use Rattle.dcx_convex.specs.Nodes.{Numbers, arguments, zeros}
use Rattle.dcx_tree.specs.declared.problem.Problem.{Problem}
use Rattle.dcx_tree.specs.Nodes.{Node, source_value}
use Rattle.dcx_tree.specs.Meaning.{names_in, setting_of, Fits}
use Rattle.dcx_fit.specs.Fit.{FitsParameters}
use Rattle.dcx_fit.proofs.Misfits.{misfit_unfit}
use Rattle.dcx_answer.specs.declared.cert_fault.CertFault.{CertFault}
use Rattle.dcx_cert_sections.specs.Shown.{AreParams}
use Rattle.dcx_cert_outline.specs.Drawn.{problem_outline}
use Rattle.dcx_cert_values.specs.Forming.{divisor_in, dividing_if}
use Rattle.dcx_cert_values.proofs.Fixed.{divisor_found}
use Rattle.dcx_cert_check.specs.SingleChecks.{setting_fits, setting_is}
use Rattle.dcx_cert_check.proofs.SingleSettled.{checks_settled}
use Rattle.dcx_cert_check.proofs.Sound.{checks_sound}
use Rattle.dcx_cert_check.specs.Checks.{setting_checks}
use Rattle.dcx_cert_build.specs.Built.{value_if, values_in}
use Rattle.dcx_cert_build.proofs.Shown.{values_shown}
use Rattle.dcx_cert_complete.specs.Bounded.{IsWide}
use Rattle.dcx_cert_complete.proofs.Checked.{divisor_nonzero, unformed_wide}

-- ---- the setting fits
module _ (p : Problem) (setting : Pairs) (fits : Fits p (setting_of p setting)) where
  -- no entry of a divisor is 0
  dividing_never : (i : ℕ) (o : Option ℕ) → divisor_in p.tree i ≡ o → (f : CertFault) → (dividing_if p setting i o).fails f → ⊥
  dividing_never i None e f h = h
  dividing_never i (Some d) e f h =
      let (n, at, is, second) = divisor_found p.tree i d e in
      let source = source_value p.tree (names_in p) setting [] in
      let argument : arguments (map source n.args) 1 ≡ source d = get_or_from_slice_get (map source n.args) 1 (source d) zeros (slice_get-map source n.args 1 ∙ ap (option_map source) second) in
      let sides : sides_at p.tree i ≡ n.sides = ap (λ (o : Option Node). unwrap_or (option_map (λ (k : Node). k.sides) o) Scalar) at in
      divisor_nonzero p setting [] fits i n at is h.position (subst (λ s. h.position < entries_of s) sides h.there) (ap (λ (v : Numbers). v h.position) argument ∙ h.here.0)

  fit_wide : FitsParameters p.parameters setting → (f : CertFault) → (setting_fits p setting).fails f → IsWide f
  fit_wide met f (inl h) = absurd (misfit_unfit p.parameters setting h.stop h.first met)
  fit_wide met f (inr (passed, h)) = elim h.here [
    | inl k ↦ unformed_wide p setting [] fits h.position f k.1
    | inr k ↦ absurd (dividing_never h.position (divisor_in p.tree h.position) refl f k.1)
  ]

-- ---- the values are those of the setting
module _ (setting : Pairs) where
  abbrev told : List Parameter → Pairs
  told qs = flat_map (λ q. value_if q.name (array_of setting q.name)) qs

  -- a parameter that the setting gives no array has none
  none_told : (qs : List Parameter) (name : List ℕ) → array_of setting name ≡ None → array_of (told qs) name ≡ None
  none_told [] name none = refl
  none_told (q ∷ qs) name none = by (array_of setting q.name) refl (none_told qs name none)
    where
      apart : (x : Array) → array_of setting q.name ≡ Some x → (t : Bool) → same_name name q.name ≡ t → array_of (told qs) name ≡ None → array_of ((q.name, x) ∷ told qs) name ≡ None
      apart x e true s rest = absurd (none-some x (sym none ∙ ap (array_of setting) (same_name-true name q.name s) ∙ e))
      apart x e false s rest = rw s rest

      by : (o : Option Array) → array_of setting q.name ≡ o → array_of (told qs) name ≡ None → array_of (value_if q.name o ++ told qs) name ≡ None
      by None e rest = rest
      by (Some x) e rest = apart x e (same_name name q.name) refl rest

  abbrev ToldAmong : List Parameter → Parameter → Type 0
  ToldAmong qs q = (k : ℕ) → slice_get qs k ≡ Some q → array_of (told qs) q.name ≡ array_of setting q.name

  -- and else that one
  told_at : (qs : List Parameter) (q : Parameter) → ToldAmong qs q
  told_at [] q k at = absurd (none-some q at)
  told_at (r ∷ qs) q k at = by (array_of setting r.name) refl k at (told_at qs q)
    where
      behind : (x : Array) → same_name q.name r.name ≡ false → (k : ℕ) → slice_get (r ∷ qs) k ≡ Some q → ToldAmong qs q → array_of ((r.name, x) ∷ told qs) q.name ≡ array_of setting q.name
      behind x s zero at rest = absurd (true≢false (sym (same_name-refl q.name) ∙ ap (λ (z : Parameter). same_name q.name z.name) (sym (same_Some r q at)) ∙ s))
      behind x s (suc j) at rest = rw s (rest j at)

      here : (x : Array) → array_of setting r.name ≡ Some x → (t : Bool) → same_name q.name r.name ≡ t → (k : ℕ) → slice_get (r ∷ qs) k ≡ Some q → ToldAmong qs q
          → array_of ((r.name, x) ∷ told qs) q.name ≡ array_of setting q.name
      here x e true s k at rest = rw s (sym e ∙ ap (array_of setting) (sym (same_name-true q.name r.name s)))
      here x e false s k at rest = behind x s k at rest

      by : (o : Option Array) → array_of setting r.name ≡ o → (k : ℕ) → slice_get (r ∷ qs) k ≡ Some q → ToldAmong qs q → array_of (value_if r.name o ++ told qs) q.name ≡ array_of setting q.name
      by None e zero at rest = let none : array_of setting q.name ≡ None = ap (λ (z : Parameter). array_of setting z.name) (sym (same_Some r q at)) ∙ e in none_told qs q.name none ∙ sym none
      by None e (suc j) at rest = rest j at
      by (Some x) e k at rest = here x e (same_name q.name r.name) refl k at rest

module _ (p : Problem) (setting : Pairs) where
  pub told_passes : (setting_is p (Some (values_in p setting)) setting).passes
  told_passes = (checks_sound.told p (values_in p setting) setting).1 (λ i d b j l.
      ap (λ (o : Option Array). number_at (unwrap_or (option_map (λ (x : Array). x.entries) o) []) j) (told_at setting p.parameters (get_or p.parameters i d) i (slice_get-get_or p.parameters i d b)))

  -- they have the names and the shapes of the parameters
  pub told_shown : FitsParameters p.parameters setting → AreParams (problem_outline p) (Some (values_in p setting))
  told_shown met = values_shown p setting (λ i d b. (met.met i d b).shaped)

  pub setting_wide : FitsParameters p.parameters setting → Fits p (setting_of p setting) → (f : CertFault) → (setting_checks p setting (Some (values_in p setting))).fails f → IsWide f
  setting_wide met fits f (inl h) = fit_wide p setting fits met f h
  setting_wide met fits f (inr (passed, h)) = absurd ((checks_settled.setting_is p (Some (values_in p setting)) setting).apart f told_passes h)
