-- A setting that fits, and a point with the names and the shapes of the variables, give arrays.
use Rattle.std.proofs.Common.{◌≡◌, ℕ, zero, suc, Bool, true, false, List, [], ◌∷◌, get_or, map, Some, refl, sym, ap, ◌∙◌, true≢false}
use Rattle.std.specs.List.{slice_get, IsDistinct}
use Rattle.std.proofs.lemmas.Option.{none-some, same_Some, slice_get-get_or}
use Rattle.dcx_shape.specs.declared.shape.Shape.{Shape}
use Rattle.dcx_shape.specs.Shape.{sides_of}
use Rattle.dcx_atom.specs.declared.array.Array.{Array}
use Rattle.dcx_point.specs.Pairs.{Pairs, same_name, array_of}
use Rattle.dcx_point.proofs.Puts.{same_name-refl, same_name-true}
use Rattle.dcx_call.specs.declared.attribute.Variable.{Variable}
use Rattle.dcx_call.specs.Values.{HasArray}
use Rattle.dcx_tree.specs.declared.problem.Problem.{Problem}
use Rattle.dcx_tree.proofs.Sublists.{one_name, distinct_front}
use Rattle.dcx_lines.specs.Shown.{variables_of}
use Rattle.dcx_cert_values.specs.Forming.{GivesVariables}
use Rattle.dcx_cert_check.specs.CheckLaws.{AreGivenArrays}
use Rattle.dcx_call.proofs.Given.{one_array}

abbrev shown : Variable → List ℕ × Shape
shown v = (v.name, v.shape)

-- what stands after the first
rest_of : {X : Type 0} → List X → List X
rest_of [] = []
rest_of (x ∷ xs) = xs

-- the pair that is found has the name, and the shape of some variable of this name
record IsFound (point : Pairs) (vs : List Variable) (name : List ℕ) : Type 0 where
  pub array : Array
  pub there : array_of point name ≡ Some array
  pub position : ℕ
  pub variable : Variable
  pub stands : slice_get vs position ≡ Some variable
  pub named : variable.name ≡ name
  pub shaped : array.shape ≡ variable.shape

found : (point : Pairs) (vs : List Variable) → variables_of point ≡ map shown vs → (k : ℕ) (v : Variable) → slice_get vs k ≡ Some v → IsFound point vs v.name
unfolding rest_of
found point [] e k v at = absurd (none-some v at)
found [] (w ∷ ws) e k v at = absurd (none-some (shown w) (ap (λ (l : List (List ℕ × Shape)). slice_get l 0) e))
found (p ∷ ps) (w ∷ ws) e k v at = by (same_name v.name p.0) refl (λ j later. found ps ws (ap rest_of e) j v later) k at
  where
    head : (p.0, p.1.shape) ≡ shown w
    head = same_Some (p.0, p.1.shape) (shown w) (ap (λ (l : List (List ℕ × Shape)). slice_get l 0) e)

    by : (t : Bool) → same_name v.name p.0 ≡ t → ((j : ℕ) → slice_get ws j ≡ Some v → IsFound ps ws v.name) → (i : ℕ) → slice_get (w ∷ ws) i ≡ Some v → IsFound (p ∷ ps) (w ∷ ws) v.name
    by true t later i here = record {
      array = p.1;
      there = rw t refl;
      position = 0;
      variable = w;
      stands = refl;
      named = sym (ap (λ (s : List ℕ × Shape). s.0) head) ∙ sym (same_name-true v.name p.0 t);
      shaped = ap (λ (s : List ℕ × Shape). s.1) head;
    }
    by false t later zero here =
        let same : v.name ≡ p.0 = ap (λ (x : Variable). x.name) (sym (same_Some w v here)) ∙ sym (ap (λ (s : List ℕ × Shape). s.0) head) in
        absurd (true≢false (sym (same_name-refl v.name) ∙ ap (same_name v.name) same ∙ t))
    by false t later (suc i) here =
        let f = later i here in
        record { array = f.array; there = rw t f.there; position = suc f.position; variable = f.variable; stands = f.stands; named = f.named; shaped = f.shaped }

has_array : (point : Pairs) (vs : List Variable) → IsDistinct same_name (map (λ v. v.name) vs) → variables_of point ≡ map shown vs → (k : ℕ) (v : Variable) → slice_get vs k ≡ Some v
    → HasArray point v.name (sides_of v.shape)
has_array point vs distinct e k v at =
    let f = found point vs e k v at in
    let same : f.variable ≡ v = one_name (λ (x : Variable). x.name) vs distinct f.position k f.variable v f.stands at f.named in
    record { array = f.array; there = f.there; shape = ap sides_of (f.shaped ∙ ap (λ (x : Variable). x.shape) same) }

variables_given : (p : Problem) (point : Pairs) → variables_of point ≡ map (λ v. (v.name, v.shape)) p.variables → GivesVariables p point
variables_given p point e k d lt =
    let v = get_or p.variables k d in
    one_array point v.name (sides_of v.shape) (array_of point v.name) refl p.declared (λ d'.
    has_array point p.variables (distinct_front (map (λ (x : Variable). x.name) p.variables) (map (λ q. q.name) p.parameters) d'.distinct) e k v (slice_get-get_or p.variables k d lt))

pub arrays_given : AreGivenArrays
arrays_given = record {
  parameters = λ p setting fits k d lt. (fits.met k d lt).shaped;
  variables = variables_given;
}
