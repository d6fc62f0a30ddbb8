-- The parts of a certificate have the names and the shapes of the problem.
use Rattle.std.proofs.Common.{◌≡◌, ℕ, suc, true, false, cond, List, [], ◌∷◌, ◌++◌, map, Option, Some, None, option_map, refl, sym, ap, ap₂, ◌∙◌, subst}
use Rattle.std.specs.Prelude.{slice_get}
use Rattle.std.specs.List.{All, IsDistinct, flat_map}
use Rattle.std.proofs.Props.{props}
use Rattle.std.proofs.Math.Logic.{∥∥₁_elim}
use Rattle.std.proofs.lemmas.List.Elements.{All-head, All-tail}
use Rattle.std.proofs.lemmas.Option.{same_Some, slice_get-map, slice_get_within, get_or_from_slice_get}
use Rattle.dcx_math.proofs.Lists.{map-map}
use Rattle.dcx_frac.specs.declared.fraction.Frac.{Frac}
use Rattle.dcx_shape.specs.declared.shape.Shape.{Shape}
use Rattle.dcx_shape.specs.Shape.{sides_of}
use Rattle.dcx_atom.specs.declared.array.Array.{Array}
use Rattle.dcx_point.specs.Pairs.{Pairs, same_name, names_of, array_of}
use Rattle.dcx_point.proofs.Puts.{same_name-refl}
use Rattle.dcx_point.proofs.Names.{unlike}
use Rattle.dcx_call.specs.declared.attribute.Variable.{Variable}
use Rattle.dcx_call.specs.declared.attribute.Parameter.{Parameter}
use Rattle.dcx_call.specs.Values.{HasArray}
use Rattle.dcx_tree.specs.declared.problem.Problem.{Problem}
use Rattle.dcx_tree.specs.declared.constraint.Constraint.{Constraint}
use Rattle.dcx_tree.proofs.Sublists.{distinct_front, distinct_back}
use Rattle.dcx_lp_answer.specs.declared.answer.LpStatus.{LpStatus}
use Rattle.dcx_lp_answer.specs.declared.answer.RowNote.{RowNote}
use Rattle.dcx_lines.specs.Shown.{variables_of, constraints_of}
use Rattle.dcx_graph.proofs.FormedLists.{all_at}
use Rattle.dcx_graph.specs.Points.{IsPointOf}
use Rattle.dcx_graph.specs.Duals.{AreDuals}
use Rattle.dcx_graph.specs.Fixed.{HaveArrays}
use Rattle.dcx_cert_build.specs.Built.{value_if, values_in}
use Rattle.dcx_cert_build.proofs.Copied.{value_of}
use Rattle.dcx_shape.proofs.OneShape.{shape_from_sides}

-- ---- names that stand once
pub variables_distinct : (p : Problem) → IsDistinct same_name (map (λ v. v.name) p.variables)
variables_distinct p = ∥∥₁_elim p.declared (hlevel props) (λ d. distinct_front (map (λ (v : Variable). v.name) p.variables) (map (λ (q : Parameter). q.name) p.parameters) d.distinct)

pub parameters_distinct : (p : Problem) → IsDistinct same_name (map (λ q. q.name) p.parameters)
parameters_distinct p = ∥∥₁_elim p.declared (hlevel props) (λ d. distinct_back (map (λ (v : Variable). v.name) p.variables) (map (λ (q : Parameter). q.name) p.parameters) d.distinct)

-- ---- points
-- the pairs have an array of this shape under the name
abbrev HasShape : Pairs → List ℕ × Shape → Type 0
HasShape ps e = (a : Array) × (array_of ps e.0 ≡ Some a) × (a.shape ≡ e.1)

-- arrays of these names and shapes
shapes_are : (ps : Pairs) (es : List (List ℕ × Shape)) → IsDistinct same_name (names_of ps) → names_of ps ≡ map (λ e. e.0) es
    → ((i : ℕ) (e : List ℕ × Shape) → slice_get es i ≡ Some e → HasShape ps e) → variables_of ps ≡ es
unfolding IsDistinct
shapes_are [] [] d n h = refl
shapes_are [] (e ∷ es) d n h = absurd cc
shapes_are (p ∷ ps) [] d n h = absurd cc
shapes_are (p ∷ ps) (e ∷ es) d n h =
    let same : p.0 ≡ e.0 = cc in
    let rest : names_of ps ≡ map (λ (x : List ℕ × Shape). x.0) es = cc in
    let (a, at, shape) = h 0 e refl in
    let s : same_name e.0 p.0 ≡ true = ap (same_name e.0) same ∙ same_name-refl e.0 in
    let here : p.1 ≡ a = same_Some p.1 a (ap (λ b. cond b (Some p.1) (array_of ps e.0)) (sym s) ∙ at) in
    ap₂ ◌∷◌ (ap₂ (λ x y. (x, y)) same (ap (λ (x : Array). x.shape) here ∙ shape))
    (shapes_are ps es d.1 rest (λ i x stands.
    let (b, there, shaped) = h (suc i) x stands in
    let named : slice_get (names_of ps) i ≡ Some x.0 = ap (λ l. slice_get l i) rest ∙ slice_get-map (λ (x : List ℕ × Shape). x.0) es i ∙ ap (option_map (λ (x : List ℕ × Shape). x.0)) stands in
    let t = unlike p.0 x.0 (all_at (λ y. same_name p.0 y ≡ false) (names_of ps) d.0 i x.0 named) in
    (b, ap (λ b. cond b (Some p.1) (array_of ps x.0)) (sym t) ∙ there, shaped)))

-- the name and the shape of a variable
abbrev shown_variable : Variable → List ℕ × Shape
shown_variable v = (v.name, v.shape)

module _ (vs : List Variable) (distinct : IsDistinct same_name (map (λ v. v.name) vs)) (us : List Frac) (point : Pairs) (of : IsPointOf vs us point) where
  shaped_at : (i : ℕ) (e : List ℕ × Shape) (o : Option Variable) → slice_get vs i ≡ o → option_map shown_variable o ≡ Some e → HasShape point e
  shaped_at i e None at is = absurd cc
  shaped_at i e (Some v) at is =
      let has : HasArray point v.name (sides_of v.shape) =
      subst (λ (w : Variable). HasArray point w.name (sides_of w.shape)) (get_or_from_slice_get vs i v v at) (of.shaped i v (slice_get_within vs i v at)) in
      subst (HasShape point) (same_Some (shown_variable v) e is) (has.array, has.there, shape_from_sides has.array.shape v.shape has.shape)

  pub point_shown : variables_of point ≡ map shown_variable vs
  point_shown =
      shapes_are point (map shown_variable vs) (subst (IsDistinct same_name) (sym of.names) distinct) (of.names ∙ sym (map-map shown_variable (λ (e : List ℕ × Shape). e.0) vs))
      (λ i e at. shaped_at i e (slice_get vs i) refl (sym (slice_get-map shown_variable vs i) ∙ at))

-- ---- multipliers
pub duals_shown : (status : LpStatus) (cs : List Constraint) (notes : List RowNote) (duals : List Array) → AreDuals status cs notes duals → constraints_of duals ≡ map (λ c. c.shape) cs
duals_shown status [] notes [] h = refl
duals_shown status [] notes (x ∷ duals) h = absurd h
duals_shown status (c ∷ cs) notes [] h = absurd h
duals_shown status (c ∷ cs) notes (x ∷ duals) h = ap₂ ◌∷◌ (shape_from_sides x.shape c.shape h.0.shape) (duals_shown status cs _ duals h.1)

-- ---- settings
value_shown : (setting : Pairs) (q : Parameter) → HasArray setting q.name (sides_of q.shape) → (rest : Pairs) → variables_of (value_of setting q ++ rest) ≡ (q.name, q.shape) ∷ variables_of rest
value_shown setting q has rest =
    ap (λ o. variables_of (value_if q.name o ++ rest)) has.there ∙ ap (λ s. (q.name, s) ∷ variables_of rest) (shape_from_sides has.array.shape q.shape has.shape)

values_shown_of : (setting : Pairs) (qs : List Parameter) → All (λ q. HasArray setting q.name (sides_of q.shape)) qs → variables_of (flat_map (value_of setting) qs) ≡ map (λ q. (q.name, q.shape)) qs
values_shown_of setting [] h = refl
values_shown_of setting (q ∷ qs) h =
    let P : Parameter → Type 0 = λ (r : Parameter). HasArray setting r.name (sides_of r.shape) in
    value_shown setting q (All-head P q qs h) (flat_map (value_of setting) qs) ∙ ap (λ ys. (q.name, q.shape) ∷ ys) (values_shown_of setting qs (All-tail P q qs h))

pub values_shown : (p : Problem) (setting : Pairs) → HaveArrays p setting → variables_of (values_in p setting) ≡ map (λ q. (q.name, q.shape)) p.parameters
values_shown p setting h = values_shown_of setting p.parameters h
