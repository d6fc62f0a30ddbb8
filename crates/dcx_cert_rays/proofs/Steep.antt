-- What is formed of a node at the arrays of its arguments is its steepness.
use Rattle.std.proofs.Common.{◌≡◌, ℕ, zero, suc, ◌<◌, Bool, true, false, if◌then◌else◌, List, [], ◌∷◌, length, map, get_or, Some}
use Rattle.std.proofs.Common.{slice_get, Result, Ok, Err, IsOk, IfOk, refl, sym, ap, ap₂, ◌∙◌, subst, arith, pos}
use Rattle.std.specs.Prelude.{nat_lt, IsTrue, IsFalse}
use Rattle.std.proofs.Math.Path.{fun_ext}
use Rattle.std.proofs.lemmas.Option.{same_Some}
use Rattle.dcx_math.specs.Rational.{ℚ, whole}
use Rattle.dcx_frac.specs.declared.fraction.Passes.{Passes}
use Rattle.dcx_shape.specs.declared.shape.Sides.{Sides}
use Rattle.dcx_shape.specs.declared.shape.Shape.{Shape}
use Rattle.dcx_shape.specs.Shape.{sides_of}
use Rattle.dcx_shape.specs.Sides.{entries_of}
use Rattle.dcx_atom.specs.declared.array.Array.{Array}
use Rattle.dcx_atom.specs.declared.stops.ValueStop.TheVariants as stops
use Rattle.dcx_atom.specs.Arrays as atom_arrays
use Rattle.dcx_atom.specs.Arrays.{Entries, number_at, numbers_of, array_sides}
use Rattle.dcx_atom.specs.Formed.{zero_frac}
use Rattle.dcx_affine.specs.declared.pairing.Pairing.TheVariants.{Times, MatTimes, Over}
use Rattle.dcx_affine.specs.Pairing.{pairs_at}
use Rattle.dcx_point.specs.Pairs.{Pairs}
use Rattle.dcx_arena.specs.Nodes.{IsNode, sides_at}
use Rattle.dcx_convex.specs.Nodes.{Numbers, zeros, first_of, arguments}
use Rattle.dcx_convex.specs.Rules.{Plain, argument, judgement_at}
use Rattle.dcx_call.specs.declared.call.Call.{Call}
use Rattle.dcx_call.specs.declared.call.Call.TheVariants as calls
use Rattle.dcx_call.specs.Calls.{shape_of}
use Rattle.dcx_call.specs.Values as call_values
use Rattle.dcx_call.specs.Values.{given_by, call_value, entry_formed, formed_at, IsValue}
use Rattle.dcx_call.specs.Forming.{IsFirst}
use Rattle.dcx_call.proofs.Entries.{stop_alike}
use Rattle.dcx_call.proofs.CallLaws.{own_is}
use Rattle.dcx_tree.specs.declared.problem.Problem.{Problem}
use Rattle.dcx_tree.specs.Nodes.{Node, number_in, head_of, arg_sides, convex_node}
use Rattle.dcx_tree.specs.Meaning.{names_in, convex_problem, setting_of, point_of}
use Rattle.dcx_tree.proofs.Lawful.{problem_lawful}
use Rattle.dcx_tree.proofs.NodeValues.{number_past, first_alike, products_same, quotients_same, sides_are}
use Rattle.dcx_tree.proofs.AllReached.{convex_at}
use Rattle.dcx_right.specs.Fixed.{is_fixed}
use Rattle.dcx_right.specs.Steepness.{steep_by}
use Rattle.dcx_right.proofs.Told.{level as steep_level}
use Rattle.dcx_right.proofs.RayLawsHold.{steepness_is_told}
use Rattle.dcx_answer.specs.declared.cert_fault.CertFault.TheVariants.{Wide}
use Rattle.dcx_cert_rays.specs.Steepness.{fixed_value, steepness_at, value_side, is_side, taken_numbers, is_first_fixed}
use Rattle.dcx_cert_rays.specs.Steepness.{node_numbers, steepness_formed, IsUnformed, IsSteepness, IsArgument, AreArguments}
use Rattle.dcx_cert_rays.proofs.Known.{MayMove, IsTaken, may_move, node_taken}

-- ---- arrays as arguments
sides_alike : (f : ℕ → Sides) (ids : List ℕ) (args : List Array) → length args ≡ length ids → ((k a : ℕ) (v : Array) → slice_get ids k ≡ Some a → slice_get args k ≡ Some v → sides_of v.shape ≡ f a) →
    array_sides args ≡ map f ids
sides_alike f [] [] count each = refl
sides_alike f [] (v ∷ args) count each = absurd (omega (arith, count))
sides_alike f (a ∷ ids) [] count each = absurd (omega (arith, count))
sides_alike f (a ∷ ids) (v ∷ args) count each =
    ap₂ (λ (x : Sides) (xs : List Sides). x ∷ xs) (each 0 a v refl refl) (sides_alike f ids args (omega (arith, count)) (λ k b w e g. each (suc k) b w e g))

either : (b : Bool) → zeros ≡ (if b then zeros else zeros)
either true = refl
either false = refl

numbers_alike : (b : ℕ → Bool) (f h : ℕ → Numbers) (ids : List ℕ) (args : List Array) → length args ≡ length ids →
    ((k a : ℕ) (v : Array) → slice_get ids k ≡ Some a → slice_get args k ≡ Some v → number_at v.entries ≡ (if b k then f a else h a)) →
    (i : ℕ) → number_at (get_or (map (λ x. x.entries) args) i []) ≡ (if b i then arguments (map f ids) i else arguments (map h ids) i)
numbers_alike b f h [] [] count each i = fun_ext (λ j. refl) ∙ either (b i)
numbers_alike b f h [] (v ∷ args) count each i = absurd (omega (arith, count))
numbers_alike b f h (a ∷ ids) [] count each i = absurd (omega (arith, count))
numbers_alike b f h (a ∷ ids) (v ∷ args) count each zero = each 0 a v refl refl
numbers_alike b f h (a ∷ ids) (v ∷ args) count each (suc i) =
    numbers_alike (λ k. b (suc k)) f h ids args (omega (arith, count)) (λ k c w e g. each (suc k) c w e g) i

module _ (p : Problem) (setting ray : Pairs) where
  -- ---- the equation of a node
  -- the numbers at which a call of these arguments is taken
  abbrev numbers_for : Call → List ℕ → Entries
  numbers_for call ids =
      taken_numbers (value_side call (argument (map (judgement_at Plain (convex_problem p).nodes) ids) 0).fixed) (arguments (map (fixed_value p setting) ids))
      (arguments (map (steepness_at p setting ray) ids))

  -- a head's steepness is the value of its call at the numbers at which it is taken
  head_steep : (call : Call) (args : List Sides) (sides : Sides) (ids : List ℕ) → shape_of call args ≡ Some sides → MayMove call → IsTaken p ray call → (j : ℕ) →
      steep_by (convex_problem p).nodes (setting_of p setting) (point_of p ray) (head_of (names_in p) call args sides) ids (steepness_at p setting ray) j
      ≡ first_of (entries_of sides) (call_value call (given_by setting) (given_by ray) args (numbers_for call ids)) j
  head_steep (calls.Variable v) args sides ids e may is j =
      ap (λ (s : Sides). first_of (entries_of s) (point_of p ray (number_in (names_in p).variables v.name)) j) (own_is (sides_of v.shape) args sides e)
      ∙ ap (λ (x : ℚ). if nat_lt j (entries_of sides) then x else whole (pos 0)) (is j)
  head_steep (calls.Parameter q) args sides ids e may is j = absurd may
  head_steep (calls.Constant x) args sides ids e may is j = absurd may
  head_steep (calls.Atom m) args sides ids e may is j = refl
  head_steep (calls.Linear l) args sides ids e may is j = refl
  head_steep (calls.Pairing Times) args sides ids e may is j =
      ap (λ (x : ℚ). if nat_lt j (entries_of sides) then x else whole (pos 0))
      (products_same (numbers_for (calls.Pairing Times) ids) (pairs_at Times (atom_arrays.sides_at args 0) (atom_arrays.sides_at args 1) j))
  head_steep (calls.Pairing MatTimes) args sides ids e may is j =
      ap (λ (x : ℚ). if nat_lt j (entries_of sides) then x else whole (pos 0))
      (products_same (numbers_for (calls.Pairing MatTimes) ids) (pairs_at MatTimes (atom_arrays.sides_at args 0) (atom_arrays.sides_at args 1) j))
  head_steep (calls.Pairing Over) args sides ids e may is j =
      ap (λ (x : ℚ). if nat_lt j (entries_of sides) then x else whole (pos 0))
      (quotients_same (numbers_for (calls.Pairing Over) ids) (pairs_at Over (atom_arrays.sides_at args 0) (atom_arrays.sides_at args 1) j))

  -- a node that has no variable below it is level
  pub level : (i : ℕ) → i < length p.tree → IsTrue (is_fixed p i) → (j : ℕ) → steepness_at p setting ray i j ≡ whole (pos 0)
  level i below t j = ap (λ f. f j) (steep_level (convex_problem p).nodes (setting_of p setting) (point_of p ray) i t)

  module _ (i : ℕ) (n : Node) (at : IsNode p.tree i n) (moves : IsFalse (is_fixed p i)) where
    pub node_steep : (j : ℕ) → steepness_at p setting ray i j
        ≡ first_of (entries_of n.sides) (call_value n.call (given_by setting) (given_by ray) (arg_sides p.tree n) (node_numbers p setting ray n)) j
    node_steep j =
        let nodes = (convex_problem p).nodes in
        let told = (steepness_is_told nodes (problem_lawful p).ordered (setting_of p setting) (point_of p ray)).told i (convex_node (names_in p) p.tree n) (convex_at p i n at) in
        ap (λ f. f j) (told ∙ ap (λ b. if b then zeros else steep_by nodes (setting_of p setting) (point_of p ray) (head_of (names_in p) n.call (arg_sides p.tree n) n.sides) n.args
        (steepness_at p setting ray)) moves)
        ∙ head_steep n.call (arg_sides p.tree n) n.sides n.args (p.nodes.shaped i n at) (may_move p i n at moves) (node_taken p ray i n at) j

    pub node_formed : (j : ℕ) → entry_formed n.call (given_by setting) (given_by ray) (arg_sides p.tree n) (node_numbers p setting ray n) j ≡ steepness_formed p setting ray i n j
    node_formed j = sym (ap (λ b. if b then Ok zero_frac else entry_formed n.call (given_by setting) (given_by ray) (arg_sides p.tree n) (node_numbers p setting ray n) j) moves)

    -- ---- at arrays
    module _ (args : List Array) (h : AreArguments p setting ray (value_side n.call (is_first_fixed p n)) n.args args) where
      sides_taken : array_sides args ≡ arg_sides p.tree n
      sides_taken = sides_alike (sides_at p.tree) n.args args h.count (λ k a v e g. (h.each k a v e g).shape)

      numbers_taken : numbers_of args ≡ node_numbers p setting ray n
      numbers_taken = fun_ext (numbers_alike (is_side (value_side n.call (is_first_fixed p n))) (fixed_value p setting) (steepness_at p setting ray) n.args args h.count
          (λ k a v e g. fun_ext (h.each k a v e g).numbers))

      pub shape_is : shape_of n.call (array_sides args) ≡ Some n.sides
      shape_is = ap (shape_of n.call) sides_taken ∙ p.nodes.shaped i n at

      formed_is : (j : ℕ) → formed_at n.call setting ray args j ≡ steepness_formed p setting ray i n j
      formed_is j = ap₂ (λ (ss : List Sides) (a : Entries). entry_formed n.call (given_by setting) (given_by ray) ss a j) sides_taken numbers_taken ∙ node_formed j

      pub steepness_is : (v : Array) → IsValue n.call setting ray args v → IsSteepness p setting ray i v
      steepness_is v is =
          let same : sides_of v.shape ≡ n.sides = same_Some (sides_of v.shape) n.sides (sym is.shape ∙ shape_is) in
          let size : entries_of (sides_of v.shape) ≡ entries_of n.sides = ap entries_of same in
          record {
            shape = same ∙ sym (sides_are p.tree i n at);
            numbers = λ j.
                first_alike (entries_of n.sides) (call_value n.call (given_by setting) (given_by ray) (arg_sides p.tree n) (node_numbers p setting ray n)) (number_at v.entries j) j
                (λ below. is.numbers j (omega (arith, size, below))
                ∙ ap₂ (λ (ss : List Sides) (a : Entries). call_value n.call (given_by setting) (given_by ray) ss a j) sides_taken numbers_taken)
                (λ past. number_past v.entries j (omega (arith, v.full, size, past)))
                ∙ sym (node_steep j);
            formed = λ m there.
                let w : n ≡ m = same_Some n m (sym at ∙ there) in
                subst (λ (z : Node). (j : ℕ) → j < entries_of z.sides → IsOk (steepness_formed p setting ray i z j)) w
                (λ j b. subst IsOk (formed_is j) (is.forms j (omega (arith, size, b))));
          }

      pub passes_is : (entry : ℕ) (passes : Passes) → call_values.IsValueStop n.call setting ray args (entries_of n.sides) (stops.Passes entry passes) → IsUnformed p setting ray i (Wide passes)
      passes_is entry passes why = record {
        node = n;
        there = at;
        entry = entry;
        passes = passes;
        here = stop_alike (formed_at n.call setting ray args) (steepness_formed p setting ray i n) (entries_of n.sides) (stops.Passes entry passes) (λ j b. formed_is j) why;
        told = refl;
      }

      pub divides_first : (entry : ℕ) → call_values.IsValueStop n.call setting ray args (entries_of n.sides) (stops.ZeroDivisor entry) →
          IsFirst (λ j. entry_formed n.call (given_by setting) (given_by ray) (arg_sides p.tree n) (node_numbers p setting ray n) j) (entries_of n.sides) (stops.ZeroDivisor entry)
      divides_first entry why =
          stop_alike (formed_at n.call setting ray args) (λ j. entry_formed n.call (given_by setting) (given_by ray) (arg_sides p.tree n) (node_numbers p setting ray n) j) (entries_of n.sides)
          (stops.ZeroDivisor entry)
          (λ j b. ap₂ (λ (ss : List Sides) (a : Entries). entry_formed n.call (given_by setting) (given_by ray) ss a j) sides_taken numbers_taken) why

  -- zeros are the array of a node that has no variable below it
  pub level_argument : (i : ℕ) → i < length p.tree → IsTrue (is_fixed p i) → (counts : Bool) → counts ≡ false → {E : Type 0} (made : Result Array E) (shape : Shape)
      → sides_of shape ≡ sides_at p.tree i
      → IfOk made (λ v. sides_of v.shape ≡ sides_of shape) → IfOk made (λ v. (j : ℕ) → number_at v.entries j ≡ whole (pos 0)) → IfOk made (IsArgument p setting ray counts i)
  level_argument i below t counts e (Ok v) shape own same each = record {
    shape = same ∙ own;
    numbers = λ j. each j ∙ sym (level i below t j) ∙ ap (λ (b : Bool). (if b then fixed_value p setting i else steepness_at p setting ray i) j) (sym e);
  }
  level_argument i below t counts e (Err f) shape own same each = same
