-- What is formed of a node from the values of its arguments is the node's value.
use Rattle.std.proofs.Common.{◌≡◌, ℕ, zero, suc, ◌<◌, ◌≤◌, inl, inr, IsOk, Bool, true, false, if◌then◌else◌, List, [], ◌∷◌}
use Rattle.std.proofs.Common.{map, replicate, get_or, Option, Some, option_map, refl, sym, ap, ap₂, ◌∙◌, subst, arith, pos}
use Rattle.std.specs.Prelude.{nat_lt}
use Rattle.std.specs.List.{slice_get}
use Rattle.std.specs.Option.{unwrap_or}
use Rattle.std.proofs.Math.Path.{fun_ext}
use Rattle.std.proofs.lemmas.Bool.{ltb-true, ltb-false}
use Rattle.std.proofs.lemmas.Option.{none-some, same_Some, slice_get-map}
use Rattle.dcx_math.specs.Rational.{ℚ, whole, ◌+ℚ◌, ◌*ℚ◌, ◌/ℚ◌}
use Rattle.dcx_math.specs.Sums.{rat_sum_by}
use Rattle.dcx_frac.specs.declared.fraction.Frac.{Frac}
use Rattle.dcx_frac.specs.Frac.{value}
use Rattle.dcx_shape.specs.declared.shape.Sides.{Sides}
use Rattle.dcx_shape.specs.declared.shape.Sides.TheVariants.{Scalar}
use Rattle.dcx_shape.specs.Shape.{sides_of}
use Rattle.dcx_shape.specs.Sides.{entries_of}
use Rattle.dcx_atom.specs.declared.array.Array.{Array}
use Rattle.dcx_atom.specs.declared.stops.ValueStop.{ValueStop}
use Rattle.dcx_atom.specs.Arrays as atom_arrays
use Rattle.dcx_atom.specs.Arrays.{Entries, number_at, numbers_of, array_sides}
pub use Rattle.dcx_atom.proofs.Lists.{number_past}
use Rattle.dcx_call.specs.pairing.Pairing.TheVariants.{Times, MatTimes, Over}
use Rattle.dcx_call.specs.pairing.Pair.{Pair}
use Rattle.dcx_call.specs.AffinePairing.{pairs_at}
use Rattle.dcx_point.specs.Pairs.{Pairs}
use Rattle.dcx_arena.specs.Nodes.{IsNode, AreNodes, call_at, args_at, sides_at}
use Rattle.dcx_arena.specs.Gather.{has}
use Rattle.dcx_arena.proofs.Orders.{has_one, tail_has, head_or}
use Rattle.dcx_convex.specs.Pairs as convex_pairs
use Rattle.dcx_convex.specs.Nodes.{Numbers, first_of, arguments, value_by}
use Rattle.dcx_convex.proofs.LawsHold.{nodes_are_told}
use Rattle.dcx_call.specs.declared.call.Call.{Call}
use Rattle.dcx_call.specs.declared.call.Call.TheVariants as calls
use Rattle.dcx_call.specs.Calls.{shape_of}
use Rattle.dcx_call.specs.Values as call_values
use Rattle.dcx_call.specs.Values.{given_by, call_value, entry_formed, formed_at, IsValue}
use Rattle.dcx_call.specs.Forming.{IsStop}
use Rattle.dcx_call.proofs.Entries.{stop_alike}
use Rattle.dcx_call.proofs.CallLaws.{own_is}
use Rattle.dcx_tree.specs.Nodes.{Names, Node, head_of, arg_sides, convex_node, convex_nodes, numbers_by, source_value}
use Rattle.dcx_tree.specs.Values.{IsNamed, AreNamed, node_formed, IsFormed, IsValueOf, AreArguments, IsNodeStop}
use Rattle.dcx_tree.proofs.Lawful.{tree_lawful}
use Rattle.dcx_tree.proofs.Names.{found_in}
use Rattle.dcx_tree.proofs.Values.{taken}
use Rattle.dcx_tree.proofs.Marks.{reached_self, reached_arg, reached_through, reached_cases}

-- ---- entries
pub number_there : (xs : List Frac) (j : ℕ) (x : Frac) → slice_get xs j ≡ Some x → number_at xs j ≡ value x
number_there [] j x e = absurd (none-some x e)
number_there (y ∷ xs) zero x e = ap value (same_Some y x e)
number_there (y ∷ xs) (suc j) x e = number_there xs j x e

-- zeros alone are 0 past their end too
pub all_zero : (n : ℕ) (x : Frac) → value x ≡ whole (pos 0) → (j : ℕ) → number_at (replicate n x) j ≡ whole (pos 0)
all_zero zero x e j = refl
all_zero (suc n) x e zero = e
all_zero (suc n) x e (suc j) = all_zero n x e j

-- a number that is that of f below a size, and 0 from there on
pub first_alike : (n : ℕ) (f : Numbers) (x : ℚ) (j : ℕ) → (j < n → x ≡ f j) → (n ≤ j → x ≡ whole (pos 0)) → x ≡ first_of n f j
first_alike n f x j below past = by (nat_lt j n) refl
  where
    by : (b : Bool) → nat_lt j n ≡ b → x ≡ (if b then f j else whole (pos 0))
    by true e = below (ltb-true j n e)
    by false e = past (ltb-false j n e)

-- ---- the value of a call
pub products_same : (a : Entries) (xs : List Pair) → convex_pairs.products_at (map (λ x. record { left = x.left; right = x.right }) xs) a ≡ rat_sum_by (λ p. a 0 p.left *ℚ a 1 p.right) xs
products_same a [] = refl
products_same a (x ∷ xs) = ap (λ u. a 0 x.left *ℚ a 1 x.right +ℚ u) (products_same a xs)

pub quotients_same : (a : Entries) (xs : List Pair) → convex_pairs.quotients_at (map (λ x. record { left = x.left; right = x.right }) xs) a ≡ rat_sum_by (λ p. a 0 p.left /ℚ a 1 p.right) xs
quotients_same a [] = refl
quotients_same a (x ∷ xs) = ap (λ u. a 0 x.left /ℚ a 1 x.right +ℚ u) (quotients_same a xs)

-- a head's value is that of its call
head_value : (names : Names) (setting point : Pairs) (call : Call) (args : List Sides) (sides : Sides) (values : List Numbers) → shape_of call args ≡ Some sides → IsNamed names call → (j : ℕ) →
    value_by (numbers_by names.parameters setting) (numbers_by names.variables point) (head_of names call args sides) values j
    ≡ first_of (entries_of sides) (call_value call (given_by setting) (given_by point) args (arguments values)) j
head_value names setting point (calls.Variable v) args sides values e (k, at) j =
    ap₂ (λ (s : Sides) (f : Numbers). first_of (entries_of s) f j) (own_is (sides_of v.shape) args sides e) (taken names.variables point k v.name at)
head_value names setting point (calls.Parameter p) args sides values e (k, at) j =
    ap₂ (λ (s : Sides) (f : Numbers). first_of (entries_of s) f j) (own_is (sides_of p.shape) args sides e) (taken names.parameters setting k p.name at)
head_value names setting point (calls.Constant x) args sides values e named j =
    let own : entries_of (sides_of x.shape) ≡ entries_of sides = ap entries_of (own_is (sides_of x.shape) args sides e) in
    first_alike (entries_of sides) (number_at x.entries) (number_at x.entries j) j (λ below. refl) (λ past. number_past x.entries j (omega (arith, x.full, own, past)))
head_value names setting point (calls.Atom m) args sides values e named j = refl
head_value names setting point (calls.Linear l) args sides values e named j = refl
head_value names setting point (calls.Pairing Times) args sides values e named j =
    ap (λ (x : ℚ). if nat_lt j (entries_of sides) then x else whole (pos 0)) (products_same (arguments values) (pairs_at Times (atom_arrays.sides_at args 0) (atom_arrays.sides_at args 1) j))
head_value names setting point (calls.Pairing MatTimes) args sides values e named j =
    ap (λ (x : ℚ). if nat_lt j (entries_of sides) then x else whole (pos 0)) (products_same (arguments values) (pairs_at MatTimes (atom_arrays.sides_at args 0) (atom_arrays.sides_at args 1) j))
head_value names setting point (calls.Pairing Over) args sides values e named j =
    ap (λ (x : ℚ). if nat_lt j (entries_of sides) then x else whole (pos 0)) (quotients_same (arguments values) (pairs_at Over (atom_arrays.sides_at args 0) (atom_arrays.sides_at args 1) j))

-- ---- arguments
entry_same : (args : List Array) (i : ℕ) → number_at (get_or (map (λ x. x.entries) args) i []) ≡ arguments (map (λ x. number_at x.entries) args) i
entry_same [] i = refl
entry_same (x ∷ xs) zero = refl
entry_same (x ∷ xs) (suc i) = entry_same xs i

-- arrays as arguments
arguments_are : (args : List Array) (values : List Numbers) → map (λ x. number_at x.entries) args ≡ values → numbers_of args ≡ arguments values
arguments_are args values e = fun_ext (λ i. entry_same args i ∙ ap (λ vs. arguments vs i) e)

pub args_are : (nodes : List Node) (i : ℕ) (n : Node) → IsNode nodes i n → args_at nodes i ≡ n.args
args_are nodes i n at = ap (λ (o : Option Node). unwrap_or (option_map (λ m. m.args) o) []) at

pub sides_are : (nodes : List Node) (i : ℕ) (n : Node) → IsNode nodes i n → sides_at nodes i ≡ n.sides
sides_are nodes i n at = ap (λ (o : Option Node). unwrap_or (option_map (λ m. m.sides) o) Scalar) at

module _ (nodes : List Node) (are : AreNodes shape_of nodes) (setting point : Pairs) where
  -- the equation of a node's value
  pub node_told : (names : Names) (i : ℕ) (n : Node) → IsNode nodes i n → IsNamed names n.call → (j : ℕ) →
      source_value nodes names setting point i j
      ≡ first_of (entries_of n.sides) (call_value n.call (given_by setting) (given_by point) (arg_sides nodes n) (arguments (map (source_value nodes names setting point) n.args))) j
  node_told names i n at named j =
      let law = (nodes_are_told (convex_nodes names nodes) (tree_lawful names nodes are).ordered).values (numbers_by names.parameters setting) (numbers_by names.variables point) in
      let here = law i (convex_node names nodes n) (slice_get-map (convex_node names nodes) nodes i ∙ ap (option_map (convex_node names nodes)) at) in
      ap (λ (f : Numbers). f j) here ∙ head_value names setting point n.call (arg_sides nodes n) n.sides (map (source_value nodes names setting point) n.args) (are.shaped i n at) named j

  -- arguments have their sides
  sides_alike : (ids : List ℕ) (args : List Array) → AreArguments nodes setting point ids args → array_sides args ≡ map (sides_at nodes) ids
  sides_alike [] [] h = refl
  sides_alike [] (v ∷ args) h = absurd h
  sides_alike (a ∷ ids) [] h = absurd h
  sides_alike (a ∷ ids) (v ∷ args) h = ap₂ (λ (x : Sides) (xs : List Sides). x ∷ xs) h.0.shape (sides_alike ids args h.1)

  -- and their numbers
  numbers_alike : (names : Names) (ids : List ℕ) (args : List Array) → AreArguments nodes setting point ids args → ((a : ℕ) → has ids a ≡ true → AreNamed nodes names a) →
      map (λ x. number_at x.entries) args ≡ map (source_value nodes names setting point) ids
  numbers_alike names [] [] h named = refl
  numbers_alike names [] (v ∷ args) h named = absurd h
  numbers_alike names (a ∷ ids) [] h named = absurd h
  numbers_alike names (a ∷ ids) (v ∷ args) h named =
      let here : number_at v.entries ≡ source_value nodes names setting point a = fun_ext (λ j. h.0.numbers names (named a (has_one a ids)) j) in
      ap₂ (λ (x : Numbers) (xs : List Numbers). x ∷ xs) here (numbers_alike names ids args h.1 (λ b of. named b (tail_has a b ids of)))

  -- each of them is there
  argument_of : (ids : List ℕ) (args : List Array) → AreArguments nodes setting point ids args → (a : ℕ) → has ids a ≡ true → (v : Array) × IsValueOf nodes setting point a v
  argument_of [] args h a of = absurd (cc)
  argument_of (b ∷ ids) [] h a of = absurd h
  argument_of (b ∷ ids) (v ∷ args) h a of = elim (head_or b a ids of) [
    | inl e ↦ (v, subst (λ z. IsValueOf nodes setting point z v) e h.0)
    | inr rest ↦ argument_of ids args h.1 a rest
  ]

  module _ (i : ℕ) (n : Node) (at : IsNode nodes i n) (args : List Array) (h : AreArguments nodes setting point n.args args) where
    shape_is : shape_of n.call (array_sides args) ≡ Some n.sides
    shape_is = ap (shape_of n.call) (sides_alike n.args args h) ∙ are.shaped i n at

    named_arg : (names : Names) → AreNamed nodes names i → (a : ℕ) → has n.args a ≡ true → AreNamed nodes names a
    named_arg names named a of k m r there =
        named k m (reached_through nodes i a k (reached_arg nodes i a (subst (λ xs. has xs a ≡ true) (sym (args_are nodes i n at)) of)) r) there

    numbers_are : (names : Names) → AreNamed nodes names i → numbers_of args ≡ arguments (map (source_value nodes names setting point) n.args)
    numbers_are names named = arguments_are args (map (source_value nodes names setting point) n.args) (numbers_alike names n.args args h (named_arg names named))

    formed_is : (names : Names) → AreNamed nodes names i → (j : ℕ) → formed_at n.call setting point args j ≡ node_formed nodes names setting point n j
    formed_is names named j =
        ap₂ (λ (ss : List Sides) (a : Entries). entry_formed n.call (given_by setting) (given_by point) ss a j) (sides_alike n.args args h) (numbers_are names named)

    -- the value
    value_is : (v : Array) → IsValue n.call setting point args v → IsValueOf nodes setting point i v
    value_is v is =
        let same : sides_of v.shape ≡ n.sides = same_Some (sides_of v.shape) n.sides (sym is.shape ∙ shape_is) in
        let size : entries_of (sides_of v.shape) ≡ entries_of n.sides = ap entries_of same in
        record {
          shape = same ∙ sym (sides_are nodes i n at);
          numbers = λ names named j.
              first_alike (entries_of n.sides) (call_value n.call (given_by setting) (given_by point) (arg_sides nodes n)
              (arguments (map (source_value nodes names setting point) n.args))) (number_at v.entries j) j
              (λ below. is.numbers j (omega (arith, size, below))
              ∙ ap₂ (λ (ss : List Sides) (a : Entries). call_value n.call (given_by setting) (given_by point) ss a j) (sides_alike n.args args h) (numbers_are names named))
              (λ past. number_past v.entries j (omega (arith, v.full, size, past)))
              ∙ sym (node_told names i n at (named i n (reached_self nodes i) at) j);
          formed = λ names named k m r there. elim (reached_cases nodes i k r) [
            | inl z ↦
                let w : n ≡ m = same_Some n m (sym at ∙ subst (λ q. IsNode nodes q m) (sym z) there) in
                subst (IsFormed nodes names setting point) w (λ j b. subst IsOk (formed_is names named j) (is.forms j (omega (arith, size, b))))
            | inr q ↦
                let of : has n.args q.0 ≡ true = subst (λ xs. has xs q.0 ≡ true) (args_are nodes i n at) q.1 in
                let (w, its) = argument_of n.args args h q.0 of in
                its.formed names (named_arg names named q.0 of) k m q.2 there
          ];
        }

    -- why it isn't formed
    stop_is : (stop : ValueStop) → IsStop (formed_at n.call setting point args) (entries_of n.sides) stop → IsNodeStop nodes setting point i stop
    stop_is stop why names named m there =
        let w : n ≡ m = same_Some n m (sym at ∙ there) in
        subst (λ (z : Node). IsStop (node_formed nodes names setting point z) (entries_of z.sides) stop) w
        (stop_alike (formed_at n.call setting point args) (node_formed nodes names setting point n) (entries_of n.sides) stop (λ j b. formed_is names named j) why)

  -- ---- the call of a node as it is read
  module _ (i : ℕ) (call : Call) (read : call_at nodes i ≡ Some call) (args : List Array) (h : AreArguments nodes setting point (args_at nodes i) args) where
    own_args : (n : Node) → IsNode nodes i n → AreArguments nodes setting point n.args args
    own_args n at = subst (λ ids. AreArguments nodes setting point ids args) (args_are nodes i n at) h

    pub apply_shape : shape_of call (array_sides args) ≡ Some (sides_at nodes i)
    apply_shape =
        let (n, at, is) = found_in (slice_get nodes i) call read in
        subst (λ c. shape_of c (array_sides args) ≡ Some (sides_at nodes i)) is (shape_is i n at args (own_args n at) ∙ ap Some (sym (sides_are nodes i n at)))

    pub apply_value : (v : Array) → IsValue call setting point args v → IsValueOf nodes setting point i v
    apply_value v its =
        let (n, at, is) = found_in (slice_get nodes i) call read in
        value_is i n at args (own_args n at) v (subst (λ c. IsValue c setting point args v) (sym is) its)

    pub apply_stop : (stop : ValueStop) → call_values.IsValueStop call setting point args (entries_of (sides_at nodes i)) stop → IsNodeStop nodes setting point i stop
    apply_stop stop why =
        let (n, at, is) = found_in (slice_get nodes i) call read in
        stop_is i n at args (own_args n at) stop
        (subst (λ (s : Sides). IsStop (formed_at n.call setting point args) (entries_of s) stop) (sides_are nodes i n at)
        (subst (λ c. call_values.IsValueStop c setting point args (entries_of (sides_at nodes i)) stop) (sym is) why))
