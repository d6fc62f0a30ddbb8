-- The parameter of a name, and that one thing is told of a name.
use Rattle.std.proofs.Common.{◌≡◌, ◌≢◌, ℕ, ◌<◌, Bool, true, false, List, [], ◌∷◌, length, get_or, Option, Some, None, Ok, Err, slice_get, refl, sym, ap, ◌∙◌, subst}
use Rattle.std.proofs.lemmas.List.Quantifiers.{position-Some}
use Rattle.std.specs.Option.{option_and_then}
use Rattle.std.proofs.lemmas.Option.{none-some, same_Some, slice_get-get_or, get_or_from_slice_get}
use Rattle.dcx_math.proofs.Lists.{holds_at}
use Rattle.dcx_frac.specs.declared.fraction.Frac.{Frac}
use Rattle.dcx_shape.specs.declared.shape.Sides.TheVariants.{Scalar}
use Rattle.dcx_shape.specs.Shape.{sides_of}
use Rattle.dcx_atom.specs.declared.array.Array.{Array}
use Rattle.dcx_point.specs.Pairs.{Pairs, same_name, array_of}
use Rattle.dcx_point.proofs.Puts.{same_name-true}
use Rattle.dcx_call.specs.declared.attribute.Parameter.{Parameter}
use Rattle.dcx_call.specs.Values.{HasArray}
use Rattle.dcx_tree.specs.declared.problem.Problem.{Problem}
use Rattle.dcx_linear.specs.declared.param_form.ParamForm.{ParamForm}
use Rattle.dcx_linear.specs.Parameters.{array_entry}
use Rattle.dcx_graph.specs.Program.{Program}
use Rattle.dcx_graph.specs.Fixed.{HaveArrays}
use Rattle.dcx_answer.specs.declared.not_ranged.NotRanged.TheVariants as faults
use Rattle.dcx_range.specs.declared.asked.Asked.{Asked}
use Rattle.dcx_range.specs.Range.{IsAsked}
use Rattle.dcx_range.specs.Parameters.{scales, HasSides, IsRanged, IsScaling, TellsOnce}
use Rattle.dcx_right.specs.Ranges.{place_of, HasParameter, IsNumber}

-- the position is that of a parameter
pub place_low : (parameters : List Parameter) (name : List ℕ) (k : ℕ) → place_of parameters name ≡ Some k → k < length parameters
place_low [] name k e = absurd (none-some k e)
place_low (q ∷ qs) name k e = (position-Some (λ r. same_name name r.name) (q ∷ qs) k q e).0

-- the parameter at the position of a name
module _ (p : Problem) (name : List ℕ) (xs : List Parameter) (k : ℕ) (q : Parameter) (same : xs ≡ p.parameters) (place : Some k ≡ place_of xs name) (is : q ≡ get_or xs k q) where
  named : HasParameter p name k q
  named = record {
    place = subst (λ ys. place_of ys name ≡ Some k) same (sym place);
    there = subst (λ ys. slice_get ys k ≡ Some q) same (slice_get-get_or xs k q (place_low xs name k (sym place)) ∙ ap Some (sym is));
  }

  pub number_there : sides_of q.shape ≡ Scalar → (n : IsNumber p name) × (n.at ≡ k)
  number_there s = (record { at = k; parameter = q; named = named; scalar = s }, refl)

  pub sides_there : sides_of q.shape ≢ Scalar → HasSides p name
  sides_there s = record { at = k; parameter = q; named = named; sides = s }

-- whether it stands in a coefficient, as a test tells
pub scaling : (p : Problem) (q : Program ParamForm) (name : List ℕ) (k : ℕ) (b : Bool) (n : IsNumber p name) → n.at ≡ k → b ≡ scales k q → b ≡ true → IsScaling p q name
scaling p q name k b n e f t = record { number = n; scaled = ap (λ i. scales i q) e ∙ sym f ∙ t }

pub free : (p : Problem) (q : Program ParamForm) (name : List ℕ) (k : ℕ) (b : Bool) (n : IsNumber p name) → n.at ≡ k → b ≡ scales k q → b ≡ false → IsRanged p q name
free p q name k b n e f t = record { number = n; free = ap (λ i. scales i q) e ∙ sym f ∙ t }

-- ---- one parameter
same_parameter : (parameters : List Parameter) (k l : ℕ) (q r : Parameter) → k ≡ l → slice_get parameters k ≡ Some q → slice_get parameters l ≡ Some r → q ≡ r
same_parameter parameters k l q r e f g = same_Some q r (sym f ∙ ap (slice_get parameters) e ∙ g)

module _ (p : Problem) (name : List ℕ) where
  pub same_place : (k l : ℕ) → place_of p.parameters name ≡ Some k → place_of p.parameters name ≡ Some l → k ≡ l
  same_place k l e f = same_Some k l (sym e ∙ f)

  there : (k : ℕ) → place_of p.parameters name ≡ Some k → place_of p.parameters name ≡ None → ⊥
  there k e f = none-some k (sym f ∙ e)

  clash : IsNumber p name → HasSides p name → ⊥
  clash n h =
      let k = same_place n.at h.at n.named.place h.named.place in
      h.sides (ap (λ (q : Parameter). sides_of q.shape) (sym (same_parameter p.parameters n.at h.at n.parameter h.parameter k n.named.there h.named.there)) ∙ n.scalar)

  turned : (q : Program ParamForm) → IsRanged p q name → IsScaling p q name → ⊥
  turned q h k =
      let e = ap (λ i. scales i q) (same_place h.number.at k.number.at h.number.named.place k.number.named.place) in
      let f : false ≡ true = sym h.free ∙ e ∙ k.scaled in cc

same_program : (o : Option (Program ParamForm)) (q r : Program ParamForm) → o ≡ Some q → o ≡ Some r → q ≡ r
same_program o q r e f = same_Some q r (sym e ∙ f)

no_program : (o : Option (Program ParamForm)) (q : Program ParamForm) → o ≡ Some q → o ≡ None → ⊥
no_program o q e f = none-some q (sym f ∙ e)

pub tells_once : TellsOnce
tells_once p o name (Ok u) (Ok v) h k = refl
tells_once p o name (Ok u) (Err faults.Unknown) h k = absurd (there p name h.2.number.at h.2.number.named.place k)
tells_once p o name (Ok u) (Err faults.Shape) h k = absurd (clash p name h.2.number k)
tells_once p o name (Ok u) (Err faults.Map) h k = absurd (no_program o h.0 h.1 k.1)
tells_once p o name (Ok u) (Err faults.Coefficient) h k = absurd (turned p name k.0 (subst (λ (q : Program ParamForm). IsRanged p q name) (same_program o h.0 k.0 h.1 k.1) h.2) k.2)
tells_once p o name (Err faults.Unknown) (Ok v) h k = absurd (there p name k.2.number.at k.2.number.named.place h)
tells_once p o name (Err faults.Unknown) (Err faults.Unknown) h k = refl
tells_once p o name (Err faults.Unknown) (Err faults.Shape) h k = absurd (there p name k.at k.named.place h)
tells_once p o name (Err faults.Unknown) (Err faults.Map) h k = absurd (there p name k.0.at k.0.named.place h)
tells_once p o name (Err faults.Unknown) (Err faults.Coefficient) h k = absurd (there p name k.2.number.at k.2.number.named.place h)
tells_once p o name (Err faults.Shape) (Ok v) h k = absurd (clash p name k.2.number h)
tells_once p o name (Err faults.Shape) (Err faults.Unknown) h k = absurd (there p name h.at h.named.place k)
tells_once p o name (Err faults.Shape) (Err faults.Shape) h k = refl
tells_once p o name (Err faults.Shape) (Err faults.Map) h k = absurd (clash p name k.0 h)
tells_once p o name (Err faults.Shape) (Err faults.Coefficient) h k = absurd (clash p name k.2.number h)
tells_once p o name (Err faults.Map) (Ok v) h k = absurd (no_program o k.0 k.1 h.1)
tells_once p o name (Err faults.Map) (Err faults.Unknown) h k = absurd (there p name h.0.at h.0.named.place k)
tells_once p o name (Err faults.Map) (Err faults.Shape) h k = absurd (clash p name h.0 k)
tells_once p o name (Err faults.Map) (Err faults.Map) h k = refl
tells_once p o name (Err faults.Map) (Err faults.Coefficient) h k = absurd (no_program o k.0 k.1 h.1)
tells_once p o name (Err faults.Coefficient) (Ok v) h k = absurd (turned p name h.0 (subst (λ (q : Program ParamForm). IsRanged p q name) (same_program o k.0 h.0 k.1 h.1) k.2) h.2)
tells_once p o name (Err faults.Coefficient) (Err faults.Unknown) h k = absurd (there p name h.2.number.at h.2.number.named.place k)
tells_once p o name (Err faults.Coefficient) (Err faults.Shape) h k = absurd (clash p name h.2.number k)
tells_once p o name (Err faults.Coefficient) (Err faults.Map) h k = absurd (no_program o h.0 h.1 k.1)
tells_once p o name (Err faults.Coefficient) (Err faults.Coefficient) h k = refl

-- ---- what a setting has under a name
-- the parameter at the position of a name has it
pub name_is : (parameters : List Parameter) (name : List ℕ) (k : ℕ) (q : Parameter) → place_of parameters name ≡ Some k → slice_get parameters k ≡ Some q → q.name ≡ name
name_is parameters name k q e there =
    let place = position-Some (λ (r : Parameter). same_name name r.name) parameters k q e in
    sym (same_name-true name q.name (ap (λ (r : Parameter). same_name name r.name) (sym (get_or_from_slice_get parameters k q q there)) ∙ place.1))

module _ (p : Problem) (setting : Pairs) (name : List ℕ) (arrays : HaveArrays p setting) (n : IsNumber p name) where
  pub array_there : HasArray setting name Scalar
  array_there =
      let has = holds_at (λ (q : Parameter). HasArray setting q.name (sides_of q.shape)) p.parameters n.at n.parameter arrays n.named.there in
      subst (λ z. HasArray setting name z) n.scalar (subst (λ z. HasArray setting z (sides_of n.parameter.shape)) (name_is p.parameters name n.at n.parameter n.named.place n.named.there) has)

  -- what is read of both
  pub is_asked : (k : ℕ) (q : Parameter) (array : Array) (x : Frac) → place_of p.parameters name ≡ Some k → slice_get p.parameters k ≡ Some q → array_of setting name ≡ Some array
      → slice_get array.entries 0 ≡ Some x
      → (a : Asked) → a.position ≡ k → a.attribute ≡ q.attribute → a.at ≡ x → IsAsked p setting name a
  is_asked k q array x e f g h a position attribute at = record {
    number = record {
      at = k;
      parameter = q;
      named = record { place = e; there = f };
      scalar = ap (λ (z : Parameter). sides_of z.shape) (same_parameter p.parameters k n.at q n.parameter (same_place p name k n.at e n.named.place) f n.named.there) ∙ n.scalar;
    };
    position = position;
    attribute = attribute;
    at_is = ap (option_and_then (array_entry 0)) g ∙ h ∙ ap Some (sym at);
  }
