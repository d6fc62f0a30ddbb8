-- The number at a setting is that of the affine number, where the setting's entries stand for the parameters.
use Rattle.std.proofs.Common.{◌≡◌, List, [], ◌∷◌, Option, Some, None, Result, Ok, Err, IsSome, unwrap_or, refl, sym, ap, ◌∙◌}
use Rattle.std.specs.List.{All}
use Rattle.std.proofs.lemmas.List.Elements.{All-head, All-tail}
use Rattle.dcx_math.specs.Rational.{◌+ℚ◌, ◌*ℚ◌}
use Rattle.dcx_math.specs.Sums.{rat_sum_by}
use Rattle.dcx_math.proofs.Orders.{+ℚ_idr, +ℚ_assoc}
use Rattle.dcx_frac.specs.declared.fraction.Frac.{Frac}
use Rattle.dcx_frac.specs.declared.fraction.Passes.{Passes}
use Rattle.dcx_frac.specs.declared.fraction.Frac.{Frac}
use Rattle.dcx_frac.specs.Frac.{value}
use Rattle.dcx_frac.specs.Results.{sum_of, product_of}
use Rattle.dcx_frac.proofs.Results.{sum_of_is, product_of_is}
use Rattle.dcx_atom.specs.Formed.{zero_frac, and_then}
use Rattle.dcx_point.specs.Pairs.{Pairs}
use Rattle.dcx_linear.specs.declared.param_term.ParamTerm.{ParamTerm}
use Rattle.dcx_linear.specs.NumberLaws.{exact_value}
use Rattle.dcx_linear.specs.Parameters.{Parameters, Names, entry_of}
use Rattle.dcx_linear.specs.ParamTerms.{term_value, IsNamed}
use Rattle.dcx_linear.specs.ParamForms.{entry_for, plus_terms, StandsFor}

module _ (names : Names) (setting : Pairs) (p : Parameters) (stands : StandsFor names setting p) where
  -- the setting's entry for a term is what stands for it
  entry_value : (t : ParamTerm) → IsNamed names t → (o : Option Frac) → entry_of setting t.name t.entry ≡ o → IsSome o → p t.position t.entry ≡ value (unwrap_or o zero_frac)
  entry_value t named None e h = cc
  entry_value t named (Some x) e h = stands t.position t.name t.entry x named e

  -- one term is added, and then the others
  pub plus_value : (x : Frac) (ts : List ParamTerm) (y : Frac) → All (IsNamed names) ts → All (λ t. IsSome (entry_of setting t.name t.entry)) ts → plus_terms setting x ts ≡ Ok y
      → value y ≡ value x +ℚ rat_sum_by (term_value p) ts
  plus_value x [] y named listed e = let d : x ≡ y = cc in ap value (sym d) ∙ sym (+ℚ_idr (value x))
  plus_value x (t ∷ ts) y named listed e =
      by (product_of t.coefficient (entry_for setting t)) refl e
      (λ z d. plus_value z ts y (All-tail (IsNamed names) t ts named) (All-tail (λ t. IsSome (entry_of setting t.name t.entry)) t ts listed) d)
    where
      entry_is : p t.position t.entry ≡ value (entry_for setting t)
      entry_is = entry_value t (All-head (IsNamed names) t ts named) (entry_of setting t.name t.entry) refl (All-head (λ t. IsSome (entry_of setting t.name t.entry)) t ts listed)

      added : (w : Frac) → product_of t.coefficient (entry_for setting t) ≡ Ok w → (r : Result Frac Passes) → sum_of x w ≡ r → and_then r (λ z. plus_terms setting z ts) ≡ Ok y
          → ((z : Frac) → plus_terms setting z ts ≡ Ok y → value y ≡ value z +ℚ rat_sum_by (term_value p) ts) → value y ≡ value x +ℚ (term_value p t +ℚ rat_sum_by (term_value p) ts)
      added w product (Err passes) s e rest = cc
      added w product (Ok z) s e rest =
          rest z e
          ∙ ap (λ q. q +ℚ rat_sum_by (term_value p) ts)
          (exact_value (sum_of x w) (value x +ℚ value w) z (sym s) (sum_of_is x w).exact
          ∙ ap (λ q. value x +ℚ q) (exact_value (product_of t.coefficient (entry_for setting t)) (value t.coefficient *ℚ value (entry_for setting t)) w (sym product)
          (product_of_is t.coefficient (entry_for setting t)).exact
          ∙ ap (λ q. value t.coefficient *ℚ q) (sym entry_is)))
          ∙ +ℚ_assoc (value x) (term_value p t) (rat_sum_by (term_value p) ts)

      by : (r : Result Frac Passes) → product_of t.coefficient (entry_for setting t) ≡ r → and_then r (λ m. and_then (sum_of x m) (λ z. plus_terms setting z ts)) ≡ Ok y
          → ((z : Frac) → plus_terms setting z ts ≡ Ok y → value y ≡ value z +ℚ rat_sum_by (term_value p) ts) → value y ≡ value x +ℚ (term_value p t +ℚ rat_sum_by (term_value p) ts)
      by (Err passes) product e rest = cc
      by (Ok w) product e rest = added w product (sum_of x w) refl e rest
