-- The values of nodes at a point: what stands at the place of an argument's entry.
use Rattle.std.proofs.Common.{◌≡◌, ℕ, zero, suc, ◌+◌, ◌-◌, ◌<◌, ◌≤◌, arith, Bool, true, false, nat_lt, if◌then◌else◌, List}
use Rattle.std.proofs.Common.{map, length, All, refl, sym, ap, ◌∙◌, subst, Option, Some, None, slice_get, pos}
use Rattle.std.specs.Prelude.{option_map, unwrap_or}
use Rattle.std.proofs.lemmas.Bool.{false≢true, le-ltb, ltb-true, ltb-false}
use Rattle.std.proofs.lemmas.List.{length-map, get_or_past}
use Rattle.std.proofs.lemmas.Option.{slice_get-map, slice_get-get_or, get_or_from_slice_get, slice_get_within}
use Rattle.dcx_math.specs.Rational.{whole}
use Rattle.dcx_shape.specs.declared.shape.Sides.{Sides}
use Rattle.dcx_shape.specs.declared.shape.Sides.TheVariants.{Scalar}
use Rattle.dcx_shape.specs.Shape.{sides_of}
use Rattle.dcx_shape.specs.Sides.{entries_of}
use Rattle.dcx_arena.specs.Nodes.{AreNodes, IsNode, sides_at}
use Rattle.dcx_convex.specs.Nodes.{Numbers, Setting, Point, first_of, arguments, zeros, value_by, value_at}
use Rattle.dcx_convex.proofs.Told.{value_tells}
use Rattle.dcx_call.specs.declared.call.Call.{Call}
use Rattle.dcx_call.specs.declared.call.Call.TheVariants as calls
use Rattle.dcx_call.specs.Calls.{shape_of}
use Rattle.dcx_call.specs.Atoms.{atom_meaning}
use Rattle.dcx_call.specs.Linears.{linear_meaning}
use Rattle.dcx_call.proofs.CallLaws.{own_is}
use Rattle.dcx_convex.specs.Pairs.{products_at, quotients_at}
use Rattle.dcx_affine.specs.declared.pairing.Pairing.TheVariants.{Times, MatTimes, Over}
use Rattle.dcx_tree.specs.Nodes.{Names, Node, number_in, pairs_of, head_of, arg_sides, convex_node, convex_nodes}
use Rattle.dcx_tree.proofs.Lawful.{tree_lawful}
use Rattle.dcx_tree.proofs.NodeValues.{number_past}
use Rattle.dcx_cert_collect.specs.Starts.{start_of, place_of}
use Rattle.dcx_cert_collect.proofs.Starting.{some_node, start_next}
use Rattle.dcx_cert_collect.proofs.Flat.{flat, flat-place}
use Rattle.dcx_cert_collect.proofs.Bound.{number_of, IsBefore}

-- ---- numbers are 0 from their size on
pub first_past : (n : ℕ) (g : Numbers) (j : ℕ) → n ≤ j → first_of n g j ≡ whole (pos 0)
first_past n g j b = by (nat_lt j n) (le-ltb j n b)
  where
    by : (t : Bool) → t ≡ false → (if t then g j else whole (pos 0)) ≡ whole (pos 0)
    by true e = absurd (false≢true (sym e))
    by false e = refl

-- the value of a call is 0 from its size on
pub past_size : (names : Names) (s : Setting) (y : Point) (call : Call) (args : List Sides) (sides : Sides) (values : List Numbers) → shape_of call args ≡ Some sides → (j : ℕ) → entries_of sides ≤ j →
    value_by s y (head_of names call args sides) values j ≡ whole (pos 0)
past_size names s y (calls.Variable v) args sides values e j b =
    first_past (entries_of (sides_of v.shape)) (y (number_in names.variables v.name)) j (omega (arith, ap entries_of (own_is (sides_of v.shape) args sides e), b))
past_size names s y (calls.Parameter q) args sides values e j b =
    first_past (entries_of (sides_of q.shape)) (s (number_in names.parameters q.name)) j (omega (arith, ap entries_of (own_is (sides_of q.shape) args sides e), b))
past_size names s y (calls.Constant x) args sides values e j b = number_past x.entries j (omega (arith, x.full, ap entries_of (own_is (sides_of x.shape) args sides e), b))
past_size names s y (calls.Atom m) args sides values e j b = first_past (entries_of sides) ((atom_meaning m).value args (arguments values)) j b
past_size names s y (calls.Linear l) args sides values e j b = first_past (entries_of sides) ((linear_meaning l).value args (arguments values)) j b
past_size names s y (calls.Pairing Times) args sides values e j b = first_past (entries_of sides) (λ k. products_at (pairs_of Times args k) (arguments values)) j b
past_size names s y (calls.Pairing MatTimes) args sides values e j b = first_past (entries_of sides) (λ k. products_at (pairs_of MatTimes args k) (arguments values)) j b
past_size names s y (calls.Pairing Over) args sides values e j b = first_past (entries_of sides) (λ k. quotients_at (pairs_of Over args k) (arguments values)) j b

-- ---- what stands in a list
some_there : {A : Type 0} (xs : List A) (k : ℕ) (d : A) → k < length xs → slice_get xs k ≡ None → ⊥
some_there xs k d b h = let g = sym h ∙ slice_get-get_or xs k d b in cc

among : (n : ℕ) (xs : List ℕ) (j a : ℕ) → All (λ i. i < n) xs → slice_get xs j ≡ Some a → a < n
among n xs j a all h = subst (λ i. i < n) (get_or_from_slice_get xs j a 0 h) (all j 0 (slice_get_within xs j a h))

none_past : (f : ℕ → Numbers) (xs : List ℕ) (j : ℕ) → slice_get xs j ≡ None → length (map f xs) ≤ j
none_past f xs j h = by (nat_lt j (length xs)) refl
  where
    by : (t : Bool) → nat_lt j (length xs) ≡ t → length (map f xs) ≤ j
    by true c = absurd (some_there xs j 0 (ltb-true j _ c) h)
    by false c = omega (arith, length-map xs f, ltb-false j _ c)

-- arrays that are 0 past the ends of their nodes
abbrev pub End : List Node → (ℕ → Numbers) → Type 0
End nodes f = (i e : ℕ) → i < length nodes → entries_of (sides_at nodes i) ≤ e → f i e ≡ whole (pos 0)

-- what stands at the place of an argument's entry is its number
pub argument_place : (nodes : List Node) (f : ℕ → Numbers) → End nodes f → (args : List ℕ) → All (λ a. a < length nodes) args → (k e : ℕ) →
    number_of (flat nodes f) (place_of nodes (slice_get args k) e) ≡ arguments (map f args) k e
argument_place nodes f ends args there k e = by (slice_get args k) refl
  where
    in_place : (a : ℕ) → a < length nodes → number_of (flat nodes f) (place_of nodes (Some a) e) ≡ f a e
    in_place a b = inner (nat_lt e (entries_of (sides_at nodes a))) refl
      where
        inner : (t : Bool) → nat_lt e (entries_of (sides_at nodes a)) ≡ t → number_of (flat nodes f) (if t then Some (start_of nodes a + e) else None) ≡ f a e
        inner true h = flat-place nodes f a e b (ltb-true e _ h)
        inner false h = sym (ends a e b (ltb-false e _ h))

    by : (o : Option ℕ) → slice_get args k ≡ o → number_of (flat nodes f) (place_of nodes o e) ≡ arguments (map f args) k e
    by None h = ap (λ (v : Numbers). v e) (sym (get_or_past (map f args) k zeros (none_past f args k h)))
    by (Some a) h =
        in_place a (among (length nodes) args k a there h)
        ∙ ap (λ (v : Numbers). v e) (sym (get_or_from_slice_get (map f args) k (f a) zeros (slice_get-map f args k ∙ ap (option_map f) h)))

module _ (names : Names) (nodes : List Node) (are : AreNodes shape_of nodes) (s : Setting) (y : Point) where
  -- the value of each node
  abbrev pub at_point : ℕ → Numbers
  at_point i = value_at (convex_nodes names nodes) s y i

  pub node_value : (i : ℕ) (n : Node) → IsNode nodes i n → at_point i ≡ value_by s y (head_of names n.call (arg_sides nodes n) n.sides) (map at_point n.args)
  node_value i n at =
      value_tells (convex_nodes names nodes) (tree_lawful names nodes are).ordered s y i (convex_node names nodes n)
      (slice_get-map (convex_node names nodes) nodes i ∙ ap (option_map (convex_node names nodes)) at)

  vanishes : (i e : ℕ) → i < length nodes → entries_of (sides_at nodes i) ≤ e → at_point i e ≡ whole (pos 0)
  vanishes i e b past = by (slice_get nodes i) refl past
    where
      by : (o : Option Node) → slice_get nodes i ≡ o → entries_of (unwrap_or (option_map (λ (n : Node). n.sides) o) Scalar) ≤ e → at_point i e ≡ whole (pos 0)
      by (Some n) at k = ap (λ (v : Numbers). v e) (node_value i n at) ∙ past_size names s y n.call (arg_sides nodes n) n.sides (map at_point n.args) (are.shaped i n at) e k
      by None at k = absurd (some_there nodes i (some_node nodes i b) b at)

  -- what stands at the place of an argument's entry is its value
  pub place_number : (args : List ℕ) → All (λ a. a < length nodes) args → (k e : ℕ) → number_of (flat nodes at_point) (place_of nodes (slice_get args k) e) ≡ arguments (map at_point args) k e
  place_number = argument_place nodes at_point vanishes

-- ---- the places of arguments stand before their node
starts_rise : (nodes : List Node) (a d : ℕ) → a + d ≤ length nodes → start_of nodes a ≤ start_of nodes (a + d)
starts_rise nodes a zero b = let e : a + 0 ≡ a = omega arith in subst (λ k. start_of nodes a ≤ start_of nodes k) (sym e) (omega arith)
starts_rise nodes a (suc d) b =
    let e : a + suc d ≡ (a + d) + 1 = omega arith in
    let h : a + d < length nodes = omega (arith, b) in
    subst (λ k. start_of nodes a ≤ start_of nodes k) (sym e) (omega (arith, starts_rise nodes a d (omega (arith, b)), start_next nodes (a + d) h))

pub place_before : (nodes : List Node) (args : List ℕ) (i : ℕ) → i ≤ length nodes → All (λ a. a < i) args → (k e : ℕ) → IsBefore (start_of nodes i) (place_of nodes (slice_get args k) e)
place_before nodes args i within all k e = by (slice_get args k) refl
  where
    one : (a : ℕ) → a < i → e < entries_of (sides_at nodes a) → start_of nodes a + e < start_of nodes i
    one a b c =
        let h : a < length nodes = omega (arith, b, within) in
        let d = i - (a + 1) in
        let end : (a + 1) + d ≡ i = omega (arith, b) in
        omega (arith, start_next nodes a h, starts_rise nodes (a + 1) d (omega (arith, within, b)), ap (start_of nodes) end, c)

    there : (a : ℕ) → a < i → (t : Bool) → nat_lt e (entries_of (sides_at nodes a)) ≡ t → IsBefore (start_of nodes i) (if t then Some (start_of nodes a + e) else None)
    there a b true h = one a b (ltb-true e _ h)
    there a b false h = tt

    by : (o : Option ℕ) → slice_get args k ≡ o → IsBefore (start_of nodes i) (place_of nodes o e)
    by None h = tt
    by (Some a) h = there a (among i args k a all h) (nat_lt e (entries_of (sides_at nodes a))) refl
