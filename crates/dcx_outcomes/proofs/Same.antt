-- What has the same numbers is the same: points and multipliers have the arrays of the problem, no name of a variable stands twice, and
-- an array has as many entries as its shape.
use Rattle.std.proofs.Common.{◌≡◌, ℕ, zero, suc, List, [], ◌∷◌, map, length, Option, Some, refl, sym, ap, ap₂, subst, ◌∙◌}
use Rattle.std.specs.Prelude.{slice_get, option_map}
use Rattle.std.specs.Option.{unwrap_or}
use Rattle.std.specs.List.{AllZip, IsDistinct}
use Rattle.std.specs.Cmp.Lexicographic.{nat_list_eq_equiv}
use Rattle.std.proofs.Math.Logic.{∥∥₁_elim}
use Rattle.std.proofs.lemmas.Option.{none-some, same_Some, slice_get_within, get_or_from_slice_get}
use Rattle.std.proofs.lemmas.List.{length-map}
use Rattle.std.proofs.lemmas.Map.Keys.{IsDistinct-prop}
use Rattle.std.proofs.lemmas.Map.Entries.{lookup_from_place}
use Rattle.dcx_shape.specs.declared.shape.Sides.{Sides}
use Rattle.dcx_shape.specs.Shape.{sides_of}
use Rattle.dcx_shape.proofs.OneShape.{shape_from_sides}
use Rattle.dcx_atom.specs.declared.array.Array.{Array}
use Rattle.dcx_atom.specs.Arrays.{number_at}
use Rattle.dcx_atom.proofs.OneArray.{array_from_parts, array_from_numbers}
use Rattle.dcx_point.specs.Pairs.{Pairs, names_of, array_of, same_name}
use Rattle.dcx_arena.proofs.OneGathering.{one_list}
use Rattle.dcx_call.specs.declared.attribute.Parameter.{Parameter}
use Rattle.dcx_call.specs.declared.attribute.Variable.{Variable}
use Rattle.dcx_call.specs.Values.{given_by, HasArray}
use Rattle.dcx_tree.specs.declared.constraint.Constraint.{Constraint}
use Rattle.dcx_tree.specs.declared.problem.Problem.{Problem}
use Rattle.dcx_tree.proofs.Sublists.{distinct_front}
use Rattle.dcx_answer.specs.declared.answer.Answer.{Answer}
use Rattle.dcx_answer.specs.declared.answer.Answer.TheVariants.{Optimal, Infeasible, Unbounded}
use Rattle.dcx_right.specs.Answers.{multipliers_in, IsPointFor, SpeaksOf}
use Rattle.dcx_right.specs.Filters.{HasShapeOf}
use Rattle.dcx_graph.specs.Answers.{IsSamePoint, IsSameAnswer}

-- ---- pairs
name_at : (ps : Pairs) (k : ℕ) (p : List ℕ × Array) → slice_get ps k ≡ Some p → slice_get (names_of ps) k ≡ Some p.0
name_at [] k p e = absurd (none-some p e)
name_at (q ∷ ps) zero p e = ap (λ (r : List ℕ × Array). Some r.0) (same_Some q p e)
name_at (q ∷ ps) (suc k) p e = name_at ps k p e

-- pairs with the same names, of which none stands twice, whose arrays have the same sides place by place and the same numbers name by name
module _ (x y : Pairs) (names : names_of x ≡ names_of y) (distinct : IsDistinct same_name (names_of x))
    (sides : (k : ℕ) (p q : List ℕ × Array) → slice_get x k ≡ Some p → slice_get y k ≡ Some q → sides_of p.1.shape ≡ sides_of q.1.shape)
    (numbers : (k : ℕ) (n : List ℕ) → slice_get (names_of x) k ≡ Some n → (j : ℕ) → given_by x n j ≡ given_by y n j) where
  same_at : (k : ℕ) (p q : List ℕ × Array) → slice_get x k ≡ Some p → slice_get y k ≡ Some q → p ≡ q
  same_at k (n, a) (m, b) h l =
      let here : slice_get (names_of x) k ≡ Some n = name_at x k (n, a) h in
      let there : slice_get (names_of x) k ≡ Some m = subst (λ ns. slice_get ns k ≡ Some m) (sym names) (name_at y k (m, b) l) in
      let called : n ≡ m = same_Some n m (sym here ∙ there) in
      let first : array_of x n ≡ Some a = lookup_from_place nat_list_eq_equiv x k n a distinct h in
      let second : array_of y m ≡ Some b = lookup_from_place nat_list_eq_equiv y k m b (subst (IsDistinct same_name) names distinct) l in
      let of_y : array_of y n ≡ Some b = subst (λ z. array_of y z ≡ Some b) (sym called) second in
      let number = λ (o : Option Array) (j : ℕ). number_at (unwrap_or (option_map (λ (z : Array). z.entries) o) []) j in
      let arrays : a ≡ b = array_from_numbers a b (sides k (n, a) (m, b) h l) (λ j. sym (ap (λ o. number o j) first) ∙ numbers k n here j ∙ ap (λ o. number o j) of_y) in
      λ i. (called i, arrays i)

  pub same_pairs : x ≡ y
  same_pairs = one_list x y (sym (length-map x (λ (p : List ℕ × Array). p.0)) ∙ ap length names ∙ length-map y (λ (p : List ℕ × Array). p.0)) same_at

-- ---- points
-- the variable whose name stands at a place
pub named_at : (vs : List Variable) (k : ℕ) (name : List ℕ) → slice_get (map (λ (v : Variable). v.name) vs) k ≡ Some name → (v : Variable) × (slice_get vs k ≡ Some v) × (v.name ≡ name)
named_at [] k name e = absurd (none-some name e)
named_at (v ∷ vs) zero name e = (v, refl, same_Some v.name name e)
named_at (v ∷ vs) (suc k) name e = named_at vs k name e

pub variables_distinct : (p : Problem) → IsDistinct same_name (map (λ (v : Variable). v.name) p.variables)
variables_distinct p =
    ∥∥₁_elim p.declared (IsDistinct-prop same_name (map (λ (v : Variable). v.name) p.variables))
    (λ d. distinct_front (map (λ (v : Variable). v.name) p.variables) (map (λ (q : Parameter). q.name) p.parameters) d.distinct)

-- the numbers of a point, name by name
pub by_names : (p : Problem) (x y : Pairs) → names_of x ≡ map (λ (v : Variable). v.name) p.variables → IsSamePoint p x y → (k : ℕ) (n : List ℕ) → slice_get (names_of x) k ≡ Some n
    → (j : ℕ) → given_by x n j ≡ given_by y n j
by_names p x y e same k n at j =
    let (v, there, is) = named_at p.variables k n (subst (λ ns. slice_get ns k ≡ Some n) e at) in
    subst (λ z. given_by x z j ≡ given_by y z j) is (same.numbers k v there j)

-- the sides of the array at a place of a point for the problem
sides_there : (p : Problem) (x : Pairs) → IsPointFor p x → (k : ℕ) (v : Variable) (n : List ℕ) (a : Array) → slice_get p.variables k ≡ Some v → v.name ≡ n
    → slice_get x k ≡ Some (n, a) → sides_of a.shape ≡ sides_of v.shape
sides_there p x h k v n a there is at =
    let distinct : IsDistinct same_name (names_of x) = subst (IsDistinct same_name) (sym h.names) (variables_distinct p) in
    let has : HasArray x v.name (sides_of v.shape) =
    subst (λ (w : Variable). HasArray x w.name (sides_of w.shape)) (get_or_from_slice_get p.variables k v v there) (h.shaped k v (slice_get_within p.variables k v there)) in
    let found : array_of x v.name ≡ Some a = subst (λ z. array_of x z ≡ Some a) (sym is) (lookup_from_place nat_list_eq_equiv x k n a distinct at) in
    subst (λ (z : Array). sides_of z.shape ≡ sides_of v.shape) (same_Some has.array a (sym has.there ∙ found)) has.shape

pub same_point : (p : Problem) (x y : Pairs) → IsPointFor p x → IsPointFor p y → IsSamePoint p x y → x ≡ y
same_point p x y h k same = same_pairs x y same.names (subst (IsDistinct same_name) (sym h.names) (variables_distinct p)) sides (by_names p x y h.names same)
  where
    sides : (i : ℕ) (f g : List ℕ × Array) → slice_get x i ≡ Some f → slice_get y i ≡ Some g → sides_of f.1.shape ≡ sides_of g.1.shape
    sides i (n, a) (m, b) at also =
        let (v, there, is) = named_at p.variables i n (subst (λ ns. slice_get ns i ≡ Some n) h.names (name_at x i (n, a) at)) in
        let (w, here, are) = named_at p.variables i m (subst (λ ns. slice_get ns i ≡ Some m) k.names (name_at y i (m, b) also)) in
        let one : v ≡ w = same_Some v w (sym there ∙ here) in
        sides_there p x h i v n a there is at ∙ ap (λ (z : Variable). sides_of z.shape) one ∙ sym (sides_there p y k i w m b here are also)

-- ---- multipliers
pub same_duals : (ds es : List Array) → map (λ (a : Array). sides_of a.shape) ds ≡ map (λ (a : Array). sides_of a.shape) es → map (λ (a : Array). a.entries) ds
    ≡ map (λ (a : Array). a.entries) es → ds ≡ es
same_duals [] [] s e = refl
same_duals [] (y ∷ es) s e = absurd cc
same_duals (d ∷ ds) [] s e = absurd cc
same_duals (d ∷ ds) (y ∷ es) s e =
    let sides : sides_of d.shape ≡ sides_of y.shape = cc in
    let entries : d.entries ≡ y.entries = cc in
    let rest : map (λ (a : Array). sides_of a.shape) ds ≡ map (λ (a : Array). sides_of a.shape) es = cc in
    let others : map (λ (a : Array). a.entries) ds ≡ map (λ (a : Array). a.entries) es = cc in
    ap₂ ◌∷◌ (array_from_parts d y (shape_from_sides d.shape y.shape sides) entries) (same_duals ds es rest others)

pub same_multipliers : (cs : List Constraint) (ds es : List Array) → AllZip HasShapeOf cs ds → AllZip HasShapeOf cs es → ((k j : ℕ) → multipliers_in ds k j ≡ multipliers_in es k j) → ds ≡ es
same_multipliers [] [] [] h k e = refl
same_multipliers [] [] (y ∷ es) h k e = absurd k
same_multipliers [] (d ∷ ds) es h k e = absurd h
same_multipliers (c ∷ cs) [] es h k e = absurd h
same_multipliers (c ∷ cs) (d ∷ ds) [] h k e = absurd k
same_multipliers (c ∷ cs) (d ∷ ds) (y ∷ es) h k e = ap₂ ◌∷◌ (array_from_numbers d y (h.0 ∙ sym k.0) (λ j. e 0 j)) (same_multipliers cs ds es h.1 k.1 (λ i. e (suc i)))

-- ---- answers
pub same_answer : (p : Problem) (a b : Answer) → SpeaksOf p a → SpeaksOf p b → IsSameAnswer p a b → a ≡ b
same_answer p (Optimal n x ds) (Optimal m y es) (at, are) (there, also) (e, same, duals) =
    let points = same_point p x y at there same in
    let multipliers = same_duals ds es (are ∙ sym also) duals in
    λ i. Optimal (e i) (points i) (multipliers i)
same_answer p (Optimal n x ds) (Infeasible es g) s t h = absurd h
same_answer p (Optimal n x ds) (Unbounded y q b u) s t h = absurd h
same_answer p (Infeasible ds g) (Optimal m y es) s t h = absurd h
same_answer p (Infeasible ds g) (Infeasible es f) are also (e, duals) =
    let multipliers = same_duals ds es (are ∙ sym also) duals in
    λ i. Infeasible (multipliers i) (e i)
same_answer p (Infeasible ds g) (Unbounded y q b u) s t h = absurd h
same_answer p (Unbounded x r b u) (Optimal m y es) s t h = absurd h
same_answer p (Unbounded x r b u) (Infeasible es g) s t h = absurd h
same_answer p (Unbounded x r b u) (Unbounded y q c w) (at, along) (there, beside) (e, f, same, too) =
    let points = same_point p x y at there same in
    let rays = same_point p r q along beside too in
    λ i. Unbounded (points i) (rays i) (e i) (f i)
