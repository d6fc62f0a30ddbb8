-- A right answer has the names and the shapes of its problem.
use Rattle.std.proofs.Common.{◌≡◌, ℕ, arith, List, [], ◌∷◌, map, length, Option, Some, None, Ok, option_map, refl, sym, ap, ap₂, subst, ◌∙◌}
use Rattle.std.specs.Prelude.{slice_get}
use Rattle.std.specs.List.{IsDistinct}
use Rattle.std.specs.Cmp.Lexicographic.{nat_list_eq_equiv}
use Rattle.std.proofs.lemmas.List.{length-map}
use Rattle.std.proofs.lemmas.Map.Entries.{lookup_from_place}
use Rattle.std.proofs.lemmas.Option.{same_Some, slice_get-map, slice_get_within, get_or_from_slice_get}
use Rattle.dcx_shape.specs.declared.shape.Shape.{Shape}
use Rattle.dcx_shape.specs.Shape.{sides_of}
use Rattle.dcx_shape.proofs.OneShape.{shape_from_sides}
use Rattle.dcx_atom.specs.declared.array.Array.{Array}
use Rattle.dcx_point.specs.Pairs.{Pairs, same_name, names_of, array_of}
use Rattle.dcx_arena.proofs.OneGathering.{one_list}
use Rattle.dcx_call.specs.declared.attribute.Variable.{Variable}
use Rattle.dcx_call.specs.Values.{HasArray}
use Rattle.dcx_tree.specs.declared.constraint.Constraint.{Constraint}
use Rattle.dcx_tree.specs.declared.problem.Problem.{Problem}
use Rattle.dcx_answer.specs.declared.answer.Answer.{Answer}
use Rattle.dcx_answer.specs.declared.answer.Answer.TheVariants.{Optimal, Infeasible, Unbounded}
use Rattle.dcx_answer.specs.declared.whole_answer.WholeAnswer.{WholeAnswer}
use Rattle.dcx_answer.specs.declared.whole_answer.WholeAnswer.TheVariants as whole
use Rattle.dcx_right.specs.Answers.{IsPointFor, SpeaksOf}
use Rattle.dcx_right.specs.WholeAnswers.{SpeaksWhole}
use Rattle.dcx_outcomes.specs.Asking.{IsAnswered}
use Rattle.dcx_outcomes.specs.Wholes.{WholeGives}
use Rattle.dcx_outcomes.proofs.Same.{variables_distinct}
use Rattle.dcx_lines.specs.Shown.{variables_of, constraints_of}
use Rattle.dcx_report.specs.SameText.{Layout, IsAnswerOf, IsWholeAnswerOf}

-- the name and the shape of a variable
abbrev shown : Variable → List ℕ × Shape
shown v = (v.name, v.shape)

abbrev pub layout_of : Problem → Layout
layout_of p = record { variables = map shown p.variables; constraints = map (λ c. c.shape) p.constraints }

-- ---- points
module _ (p : Problem) (x : Pairs) (h : IsPointFor p x) where
  -- what stands at a place
  at_place : (k : ℕ) (e : List ℕ × Array) (v : Variable) → slice_get x k ≡ Some e → slice_get p.variables k ≡ Some v → (e.0, e.1.shape) ≡ shown v
  at_place k (n, a) v here there =
      let named : slice_get (names_of x) k ≡ Some n = slice_get-map (λ (e : List ℕ × Array). e.0) x k ∙ ap (option_map (λ (e : List ℕ × Array). e.0)) here in
      let called : slice_get (map (λ (w : Variable). w.name) p.variables) k ≡ Some v.name =
      slice_get-map (λ (w : Variable). w.name) p.variables k ∙ ap (option_map (λ (w : Variable). w.name)) there in
      let name : n ≡ v.name = same_Some n v.name (sym named ∙ ap (λ l. slice_get l k) h.names ∙ called) in
      let distinct : IsDistinct same_name (names_of x) = subst (IsDistinct same_name) (sym h.names) (variables_distinct p) in
      let has : HasArray x v.name (sides_of v.shape) =
      subst (λ (w : Variable). HasArray x w.name (sides_of w.shape)) (get_or_from_slice_get p.variables k v v there) (h.shaped k v (slice_get_within p.variables k v there)) in
      let found : array_of x v.name ≡ Some a = subst (λ z. array_of x z ≡ Some a) name (lookup_from_place nat_list_eq_equiv x k n a distinct here) in
      let sides : sides_of a.shape ≡ sides_of v.shape = subst (λ (z : Array). sides_of z.shape ≡ sides_of v.shape) (same_Some has.array a (sym has.there ∙ found)) has.shape in
      let shape = shape_from_sides a.shape v.shape sides in
      λ i. (name i, shape i)

  point_layout : variables_of x ≡ map shown p.variables
  point_layout = one_list (variables_of x) (map shown p.variables) long at
    where
      long : length (variables_of x) ≡ length (map shown p.variables)
      long =
          length-map x (λ (e : List ℕ × Array). (e.0, e.1.shape)) ∙ sym (length-map x (λ (e : List ℕ × Array). e.0)) ∙ ap length h.names
          ∙ length-map p.variables (λ (v : Variable). v.name) ∙ sym (length-map p.variables shown)

      at : (k : ℕ) (e f : List ℕ × Shape) → slice_get (variables_of x) k ≡ Some e → slice_get (map shown p.variables) k ≡ Some f → e ≡ f
      at k e f here there =
          by (slice_get x k) refl (slice_get p.variables k) refl (sym (slice_get-map (λ (q : List ℕ × Array). (q.0, q.1.shape)) x k) ∙ here) (sym (slice_get-map shown p.variables k) ∙ there)
        where
          by : (o : Option (List ℕ × Array)) → slice_get x k ≡ o → (u : Option Variable) → slice_get p.variables k ≡ u
              → option_map (λ (q : List ℕ × Array). (q.0, q.1.shape)) o ≡ Some e → option_map shown u ≡ Some f → e ≡ f
          by None a u b g i = absurd cc
          by (Some q) a None b g i = absurd cc
          by (Some q) a (Some v) b g i = sym (same_Some (q.0, q.1.shape) e g) ∙ at_place k q v a b ∙ same_Some (shown v) f i

-- ---- multipliers
duals_layout : (ds : List Array) (cs : List Constraint) → map (λ (a : Array). sides_of a.shape) ds ≡ map (λ (c : Constraint). sides_of c.shape) cs → constraints_of ds ≡ map (λ c. c.shape) cs
duals_layout [] [] e = refl
duals_layout [] (c ∷ cs) e = absurd cc
duals_layout (d ∷ ds) [] e = absurd cc
duals_layout (d ∷ ds) (c ∷ cs) e =
    let sides : sides_of d.shape ≡ sides_of c.shape = cc in
    let rest : map (λ (a : Array). sides_of a.shape) ds ≡ map (λ (c : Constraint). sides_of c.shape) cs = cc in
    ap₂ ◌∷◌ (shape_from_sides d.shape c.shape sides) (duals_layout ds cs rest)

-- ---- answers
pub answer_layout : (p : Problem) (a : Answer) → SpeaksOf p a → IsAnswerOf (layout_of p) a
answer_layout p (Optimal value point duals) (at, are) = (point_layout p point at, duals_layout duals p.constraints are)
answer_layout p (Infeasible duals gap) are = duals_layout duals p.constraints are
answer_layout p (Unbounded point ray bound slope) (at, along) = (point_layout p point at, point_layout p ray along)

-- so has one in whole numbers, with no more nodes than a run may have
pub whole_layout : (p : Problem) (limit : ℕ) (s : Pairs) (a : WholeAnswer) → SpeaksWhole p a → IsAnswered (WholeGives limit) p s (Ok a) → IsWholeAnswerOf (layout_of p) a
whole_layout p limit s (whole.Optimal value point tree nodes) at h = let few = h.answers.0 in (point_layout p point at, omega (arith, few))
whole_layout p limit s (whole.Infeasible tree nodes) at h = let few = h.answers.0 in omega (arith, few)
