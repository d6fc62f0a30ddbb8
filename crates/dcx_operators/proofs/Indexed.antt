-- What indices give of nodes, plain arrays and lists, and that numbers in 64 bits give the same.
use Rattle.std.specs.Prelude.{◌≡◌, ℕ, ◌-◌, ◌≤◌, ◌^◌, min, ℤ, pos, negsuc, ◌+ℤ◌, List, [], ◌∷◌, map, length, Option, Some, None, option_map, Result, Ok, Err}
use Rattle.std.specs.List.{All}
use Rattle.std.proofs.Common.{refl, sym, ap, ◌∙◌, subst, arith, inl, inr}
use Rattle.std.proofs.lemmas.Int.{ints}
use Rattle.std.proofs.lemmas.Bool.{cases_lt}
use Rattle.std.proofs.lemmas.Option.{slice_get_past}
use Rattle.dcx_shape.specs.declared.place.Place.{Place}
use Rattle.dcx_shape.specs.declared.shape.Shape.{Shape}
use Rattle.dcx_shape.specs.declared.index.Pick.{Pick}
use Rattle.dcx_shape.specs.declared.index.Pick.TheVariants.{At, Range as Along}
use Rattle.dcx_shape.specs.Shape.{sides_of}
use Rattle.dcx_shape.specs.Slice.{counted}
use Rattle.dcx_shape.specs.Index.{HasStep}
use Rattle.dcx_atom.specs.declared.array.Array.{Array}
use Rattle.dcx_affine.specs.declared.places.Index.{Index}
use Rattle.dcx_arena.specs.Nodes.{sides_at}
use Rattle.dcx_call.specs.declared.call.Call.TheVariants as calls
use Rattle.dcx_call.specs.declared.linears.LinearCall.TheVariants as linears
use Rattle.dcx_array.specs.declared.fault.ArrayFault.{ArrayFault}
use Rattle.dcx_array.specs.declared.fault.ArrayFault.TheVariants as array_faults
use Rattle.dcx_array.specs.Answers.{Gives as Answers}
use Rattle.dcx_array.specs.Shapes.{shape_with}
use Rattle.dcx_array.specs.Picks.{indexed}
use Rattle.dcx_array.proofs.AllowedShapes.{shape_with-is}
use Rattle.dcx_script_values.specs.declared.fault.ElabFault.{ElabFault}
use Rattle.dcx_script_values.specs.declared.fault.ElabFault.TheVariants.{BadArgument, ShapeClash, IndexRange, Memory}
use Rattle.dcx_script_values.specs.Faults.{array_fault_at}
use Rattle.dcx_script_values.specs.Values.{Value, State, Act, and_then, ◌>>=◌, or_fault, or_array_fault}
use Rattle.dcx_script_values.specs.Nodes.{push}
use Rattle.dcx_script_values.specs.View.{Fails, Gives}
use Rattle.dcx_script_values.proofs.Acts.{Fails-then}
use Rattle.dcx_operators.specs.Indices.{index_node, index_plain, item_at, index_list}
use Rattle.dcx_operators.specs.View.{nearest, nearest_pick}
use Rattle.dcx_operators.proofs.NearestPicks.{indexed_nearest, picked_array-nearest, steps_back}

-- ---- nodes
-- what is left once the shape of the node is known
abbrev with_shape : Place → ℕ → List Pick → State → Option Shape → Result (ℕ × State) ElabFault
with_shape place i ps s o = and_then (or_fault (ShapeClash place) o s)
    (λ (from : Shape). or_array_fault place (indexed from ps) >>= λ (call : Index). push place (calls.Linear (linears.Index call)) (i ∷ []))

-- and once the call is
abbrev with_call : Place → ℕ → State → Result Index ArrayFault → Result (ℕ × State) ElabFault
with_call place i s r = and_then (or_array_fault place r s) (λ (call : Index). push place (calls.Linear (linears.Index call)) (i ∷ []))

node_of : (place : Place) (i : ℕ) (ps : List Pick) (s : State) (from : Shape) → sides_of from ≡ sides_at s.nodes i → index_node place i ps s ≡ with_call place i s (indexed from ps)
node_of place i ps s from is = ap (with_shape place i ps s) (shape_with-is (sides_at s.nodes i) from is)

pub index_node-is : (place : Place) (i : ℕ) (ps : List Pick) (s : State) (from : Shape) (call : Index) → sides_of from ≡ sides_at s.nodes i → Answers (Ok call) (indexed from ps)
    → index_node place i ps s ≡ push place (calls.Linear (linears.Index call)) (i ∷ []) s
index_node-is place i ps s from call is (inl e) = absurd cc
index_node-is place i ps s from call is (inr e) = node_of place i ps s from is ∙ ap (with_call place i s) (sym e)

fails_with : (place : Place) (i : ℕ) (s : State) (fault : ArrayFault) (meant : Result Index ArrayFault) → Answers (Err fault) meant → Fails (array_fault_at place fault) (with_call place i s meant)
fails_with place i s array_faults.Memory meant a = tt
fails_with place i s fault meant (inl e) = absurd cc
fails_with place i s fault meant (inr e) = ap (with_call place i s) (sym e)

pub index_node-fails : (place : Place) (i : ℕ) (ps : List Pick) (s : State) (from : Shape) (fault : ArrayFault) → sides_of from ≡ sides_at s.nodes i → Answers (Err fault) (indexed from ps)
    → Fails (array_fault_at place fault) (index_node place i ps s)
index_node-fails place i ps s from fault is a = subst (Fails (array_fault_at place fault)) (sym (node_of place i ps s from is)) (fails_with place i s fault (indexed from ps) a)

pub index_node-nearest : (place : Place) (i : ℕ) (ps : List Pick) (s : State) → All HasStep ps → index_node place i (map nearest_pick ps) s ≡ index_node place i ps s
index_node-nearest place i ps s h = by (shape_with (sides_at s.nodes i))
  where
    by : (o : Option Shape) → with_shape place i (map nearest_pick ps) s o ≡ with_shape place i ps s o
    by None = refl
    by (Some from) = ap (with_call place i s) (indexed_nearest from ps h)

-- ---- plain arrays
pub index_plain-nearest : (place : Place) (a : Array) (ps : List Pick) (s : State) → All HasStep ps → index_plain place a (map nearest_pick ps) s ≡ index_plain place a ps s
index_plain-nearest place a ps s h = rw (picked_array-nearest a ps h) refl

-- ---- lists
item_nearest : (place : Place) (vs : List Value) (z : ℤ) (s : State) → length vs ≤ 20000 → item_at place vs (counted (length vs) (nearest z)) s ≡ item_at place vs (counted (length vs) z) s
item_nearest place vs (pos k) s few = elim (cases_lt 20000 k) [
  | inl far ↦
      ap (λ o. or_fault (IndexRange place) o s) (slice_get_past vs (min k (2 ^ 63 - 1)) (omega arith) ∙ sym (slice_get_past vs k (omega arith)))
  | inr near ↦ let same : min k (2 ^ 63 - 1) ≡ k = omega arith in ap (λ j. item_at place vs (pos j) s) same
]
item_nearest place vs (negsuc k) s few = elim (cases_lt 20000 k) [
  | inl far ↦
      let before : negsuc k +ℤ pos (length vs) ≡ negsuc (k - length vs) = omega (arith, ints) in
      let near : negsuc (min k (2 ^ 63 - 1)) +ℤ pos (length vs) ≡ negsuc (min k (2 ^ 63 - 1) - length vs) = omega (arith, ints) in
      ap (λ z. item_at place vs z s) near ∙ sym (ap (λ z. item_at place vs z s) before)
  | inr near ↦ let same : min k (2 ^ 63 - 1) ≡ k = omega arith in ap (λ j. item_at place vs (counted (length vs) (negsuc j)) s) same
]

pub index_list-nearest : (place : Place) (vs : List Value) (ps : List Pick) (s : State) → length vs ≤ 20000 → index_list place vs (map nearest_pick ps) s ≡ index_list place vs ps s
index_list-nearest place vs [] s few = refl
index_list-nearest place vs (At z ∷ []) s few = item_nearest place vs z s few
index_list-nearest place vs (Along t ∷ []) s few = refl
index_list-nearest place vs (p ∷ q ∷ ps) s few = refl

-- ---- picks
-- the indices don't pick
pub unpicked : {A : Type 0} (e : ElabFault) (place : Place) (o : Option (List Pick)) (f : List Pick → Act A) (s : State) → Fails e (or_fault (BadArgument place) (option_map (map nearest_pick) o) s)
    → Fails e (and_then (or_fault (BadArgument place) o s) f)
unpicked Memory place o f s h = tt
unpicked e place None f s h = Fails-then e (or_fault (BadArgument place) None s) f h
unpicked e place (Some ps) f s h = absurd cc

-- what was got
abbrev got : List Pick → Result (List Pick × State) ElabFault → List Pick
got qs (Ok x) = x.0
got qs (Err e) = qs

-- they pick, and numbers of 64 bits give the same
pub picked_then : {A : Type 0} (place : Place) (o : Option (List Pick)) (qs : List Pick) (f : List Pick → Act A) (s : State)
    → or_fault (BadArgument place) (option_map (map nearest_pick) o) s ≡ Ok (qs, s)
    → ((ps : List Pick) → map nearest_pick ps ≡ qs → f (map nearest_pick ps) s ≡ f ps s) → and_then (or_fault (BadArgument place) o s) f ≡ f qs s
picked_then place None qs f s h same = absurd cc
picked_then place (Some ps) qs f s h same = let e : map nearest_pick ps ≡ qs = ap (got qs) h in sym (same ps e) ∙ ap (λ rs. f rs s) e

-- of a plain array, a node and a list
pub plain_picked : (place : Place) (o : Option (List Pick)) (qs : List Pick) (a : Array) (s : State) → or_fault (BadArgument place) (option_map (map nearest_pick) o) s ≡ Ok (qs, s) → All HasStep qs
    → and_then (or_fault (BadArgument place) o s) (index_plain place a) ≡ index_plain place a qs s
plain_picked place o qs a s h steps =
    picked_then place o qs (index_plain place a) s h (λ ps e. index_plain-nearest place a ps s (steps_back ps (subst (All HasStep) (sym e) steps)))

pub node_picked : (place : Place) (o : Option (List Pick)) (qs : List Pick) (i : ℕ) (s : State) → or_fault (BadArgument place) (option_map (map nearest_pick) o) s ≡ Ok (qs, s) → All HasStep qs
    → and_then (or_fault (BadArgument place) o s) (index_node place i) ≡ index_node place i qs s
node_picked place o qs i s h steps =
    picked_then place o qs (index_node place i) s h (λ ps e. index_node-nearest place i ps s (steps_back ps (subst (All HasStep) (sym e) steps)))

pub list_picked : (place : Place) (o : Option (List Pick)) (qs : List Pick) (vs : List Value) (s : State)
    → or_fault (BadArgument place) (option_map (map nearest_pick) o) s ≡ Ok (qs, s) → length vs ≤ 20000
    → and_then (or_fault (BadArgument place) o s) (index_list place vs) ≡ index_list place vs qs s
list_picked place o qs vs s h few = picked_then place o qs (index_list place vs) s h (λ ps e. index_list-nearest place vs ps s few)
