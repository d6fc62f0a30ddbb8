-- Slopes whose steps don't stop are formed, and a difference that is formed is a fraction of 128 bits.
use Rattle.std.proofs.Common.{◌≡◌, ℕ, ◌<◌, arith, List, [], ◌∷◌, ◌++◌, map, length, All, sym, ap, ap₂, ◌∙◌, subst, None, Result, Ok, Err, IfOk}
use Rattle.std.proofs.lemmas.List.Elements.{All-cons, All-nil}
use Rattle.dcx_math.specs.Rational.{ℚ, ◌-ℚ◌}
use Rattle.dcx_frac.specs.declared.fraction.Frac.{Frac}
use Rattle.dcx_frac.specs.declared.fraction.Passes.{Passes}
use Rattle.dcx_frac.specs.Frac.{value}
use Rattle.dcx_frac.specs.Fits.{IsRepresentable}
use Rattle.dcx_frac.specs.Results.{difference_of}
use Rattle.dcx_frac.proofs.Parts.{value_representable}
use Rattle.dcx_frac.proofs.Results.{difference_of_is}
use Rattle.dcx_shape.specs.declared.shape.Sides.{Sides}
use Rattle.dcx_atom.specs.Arrays.{list_below}
use Rattle.dcx_atom.specs.Formed.{difference, formed, frac_at}
use Rattle.dcx_atom.specs.Meaning.{Meaning, Coefficients, Weights, ArgumentEntry}
use Rattle.dcx_atom.specs.Steps.{test, form, is_weight, slope_stop, first_stop, entry_stop}
use Rattle.dcx_atom.proofs.Accepted.{earlier-none}
use Rattle.dcx_atom.proofs.FirstStops.{first_stop-append}
use Rattle.dcx_atom.proofs.Fractions.{value-frac_at}

-- a difference that is formed
pub difference_fits : (x y : ℚ) → IsRepresentable x → IsRepresentable y → slope_stop (formed (difference x y)) ≡ None → IsRepresentable (x -ℚ y)
difference_fits x y hx hy e = by (difference_of (frac_at x) (frac_at y)) (difference_of_is (frac_at x) (frac_at y)).exact e
  where
    by : (r : Result Frac Passes) → IfOk r (λ z. value z ≡ value (frac_at x) -ℚ value (frac_at y)) → slope_stop r ≡ None → IsRepresentable (x -ℚ y)
    by (Ok z) is h = subst IsRepresentable (is ∙ ap₂ ◌-ℚ◌ (value-frac_at x hx) (value-frac_at y hy)) (value_representable z)
    by (Err passes) is h = cc

-- ---- the slopes of an entry that doesn't stop are formed
all_formed : (m : Meaning) (args : List Sides) (w : Weights) (j : ℕ) (xs : List ArgumentEntry) → first_stop j (map (λ x. form (m.slope args w x.argument x.entry)) xs) ≡ None →
    All (λ x. slope_stop (formed (m.slope args w x.argument x.entry)) ≡ None) xs
all_formed m args w j [] e = All-nil (λ x. slope_stop (formed (m.slope args w x.argument x.entry)) ≡ None)
all_formed m args w j (x ∷ xs) e =
    let both = earlier-none (slope_stop (formed (m.slope args w x.argument x.entry))) (first_stop j (map (λ x. form (m.slope args w x.argument x.entry)) xs)) e in
    All-cons (λ x. slope_stop (formed (m.slope args w x.argument x.entry)) ≡ None) x xs both.0 (all_formed m args w j xs both.1)

pub entry_formed : (m : Meaning) (args : List Sides) (c : Coefficients) (w : Weights) (j : ℕ) → entry_stop m args c w j ≡ None →
    All (λ x. slope_stop (formed (m.slope args w x.argument x.entry)) ≡ None) (m.slope_entries args j)
entry_formed m args c w j e =
    let ws = map (λ x. test (is_weight x)) (list_below (length (m.rows args j)) (w j)) in
    let ks = map test (m.conditions args c w j) in
    let fs = map (λ (x : ArgumentEntry). form (m.slope args w x.argument x.entry)) (m.slope_entries args j) in
    all_formed m args w j (m.slope_entries args j) (earlier-none (first_stop j (ws ++ ks)) (first_stop j fs) (sym (first_stop-append j (ws ++ ks) fs) ∙ e)).1

-- the only argument is the first
pub only_first : (args : List Sides) (s : Sides) → args ≡ s ∷ [] → (k : ℕ) → k < length args → k ≡ 0
only_first args s e k b = let one : length args ≡ 1 = ap length e in omega (arith, b, one)
