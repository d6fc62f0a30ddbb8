-- What a node that has a variable below it needs to be formed: arguments that are known, a side whose value counts that has no
-- variable below it, and divisors that aren't 0.
use Rattle.std.proofs.Common.{◌≡◌, ℕ, ◌<◌, ◌≢◌, Bool, true, false, if◌then◌else◌, nat_eq, List, map, All, Option, Some}
use Rattle.std.proofs.Common.{option_map, slice_get, Result, Ok, Err, refl, sym, ap, ◌∙◌, arith, pos, eqb-true}
use Rattle.std.specs.Prelude.{IsTrue, IsFalse}
use Rattle.std.proofs.lemmas.Option.{slice_get-map, slice_get_within, get_or_from_slice_get}
use Rattle.dcx_math.specs.Rational.{ℚ, whole, rat_eq}
use Rattle.dcx_math.proofs.Ratios.{IsTrue-rat_eq}
use Rattle.dcx_frac.specs.declared.fraction.Frac.{Frac}
use Rattle.dcx_frac.specs.declared.fraction.Passes.{Passes}
use Rattle.dcx_frac.specs.Results.{quotient_of}
use Rattle.dcx_shape.specs.declared.shape.Sides.{Sides}
use Rattle.dcx_shape.specs.Sides.{entries_of}
use Rattle.dcx_atom.specs.declared.array.Array.{Array}
use Rattle.dcx_atom.specs.declared.stops.ValueStop.TheVariants as stops
use Rattle.dcx_atom.specs.Arrays.{Entries}
use Rattle.dcx_atom.specs.Formed.{frac_at}
use Rattle.dcx_affine.specs.declared.pairing.Pairing.TheVariants.{Times, MatTimes, Over}
use Rattle.dcx_point.specs.Pairs.{Pairs}
use Rattle.dcx_arena.specs.Nodes.{IsNode}
use Rattle.dcx_convex.specs.Nodes.{zeros, arguments, HasNoZeroDivisor}
use Rattle.dcx_convex.specs.Rules.{Plain, Judgement, no_argument, argument, judgement_at}
use Rattle.dcx_call.specs.declared.call.Call.{Call}
use Rattle.dcx_call.specs.declared.call.Call.TheVariants as calls
use Rattle.dcx_call.specs.Forming.{or_passes, divided, IsFirst}
use Rattle.dcx_call.specs.Values.{given_by, entry_formed}
use Rattle.dcx_tree.specs.declared.problem.Problem.{Problem}
use Rattle.dcx_tree.specs.Nodes.{Node, head_of, arg_sides, convex_node}
use Rattle.dcx_tree.specs.Meaning.{names_in, convex_problem, IsAccepted, IsFitting}
use Rattle.dcx_tree.proofs.AllReached.{convex_at}
use Rattle.dcx_right.proofs.Reached.{tree_side_fixed}
use Rattle.dcx_right.specs.Fixed.{is_fixed}
use Rattle.dcx_cert_rays.specs.Steepness.{fixed_value, steepness_at, value_side, is_side, taken_numbers, is_first_fixed, node_numbers, IsKnown, AreReady}
use Rattle.dcx_math.proofs.Lists.{holds_at}

-- ---- divisors
passes_alone : (j e : ℕ) (r : Result Frac Passes) → or_passes j r ≡ Err (stops.ZeroDivisor e) → ⊥
passes_alone j e (Ok x) h = cc
passes_alone j e (Err passes) h = cc

not_divided : (j e : ℕ) (x y : ℚ) → y ≢ whole (pos 0) → divided j x y ≡ Err (stops.ZeroDivisor e) → ⊥
not_divided j e x y ne h = by (rat_eq y (whole (pos 0))) refl h
  where
    by : (t : Bool) → rat_eq y (whole (pos 0)) ≡ t → (if t then Err (stops.ZeroDivisor j) else or_passes j (quotient_of (frac_at x) (frac_at y))) ≡ Err (stops.ZeroDivisor e) → ⊥
    by true d g = ne ((IsTrue-rat_eq y (whole (pos 0))).0 d)
    by false d g = passes_alone j e (quotient_of (frac_at x) (frac_at y)) g

module _ (p : Problem) (setting ray : Pairs) where
  call_divides : (call : Call) (args : List Sides) (sides : Sides) (ids : List ℕ) (first_fixed : Bool) (steepness : Entries)
      → HasNoZeroDivisor (head_of (names_in p) call args sides) (map (fixed_value p setting) ids)
      → (j e : ℕ) → j < entries_of sides →
      entry_formed call (given_by setting) (given_by ray) args (taken_numbers (value_side call first_fixed) (arguments (map (fixed_value p setting) ids)) steepness) j ≡ Err (stops.ZeroDivisor e) → ⊥
  call_divides (calls.Variable v) args sides ids first_fixed steepness none j e below h = cc
  call_divides (calls.Parameter q) args sides ids first_fixed steepness none j e below h = cc
  call_divides (calls.Constant x) args sides ids first_fixed steepness none j e below h = cc
  call_divides (calls.Atom m) args sides ids first_fixed steepness none j e below h = passes_alone j e _ h
  call_divides (calls.Linear l) args sides ids first_fixed steepness none j e below h = passes_alone j e _ h
  call_divides (calls.Pairing Times) args sides ids first_fixed steepness none j e below h = passes_alone j e _ h
  call_divides (calls.Pairing MatTimes) args sides ids first_fixed steepness none j e below h = passes_alone j e _ h
  call_divides (calls.Pairing Over) args sides ids first_fixed steepness none j e below h =
      not_divided j e (steepness 0 j) (arguments (map (fixed_value p setting) ids) 1 j) (none j below) h

  -- where the setting fits, nothing is divided by 0
  pub never_divides : IsFitting p setting → (i : ℕ) (n : Node) → IsNode p.tree i n → (entry : ℕ) →
      IsFirst (λ j. entry_formed n.call (given_by setting) (given_by ray) (arg_sides p.tree n) (node_numbers p setting ray n) j) (entries_of n.sides) (stops.ZeroDivisor entry) → ⊥
  never_divides fitting i n at entry f =
      call_divides n.call (arg_sides p.tree n) n.sides n.args (is_first_fixed p n) (arguments (map (steepness_at p setting ray) n.args))
      (fitting.fits.divisors (λ number. zeros) i (convex_node (names_in p) p.tree n) (convex_at p i n at)) f.entry entry f.within f.here

  -- ---- arguments
  judged : (ids : List ℕ) (k a : ℕ) → slice_get ids k ≡ Some a → argument (map (judgement_at Plain (convex_problem p).nodes) ids) k ≡ judgement_at Plain (convex_problem p).nodes a
  judged ids k a e =
      let f = judgement_at Plain (convex_problem p).nodes in
      get_or_from_slice_get (map f ids) k (f a) no_argument (slice_get-map f ids k ∙ ap (option_map f) e)

  fixed_at : (ids : List ℕ) (side k a : ℕ) → IsTrue (argument (map (judgement_at Plain (convex_problem p).nodes) ids) side).fixed → slice_get ids k ≡ Some a → IsTrue (nat_eq k side)
      → IsTrue (is_fixed p a)
  fixed_at ids side k a t e same =
      ap (λ (g : Judgement). g.fixed) (sym (judged ids k a e)) ∙ ap (λ s. (argument (map (judgement_at Plain (convex_problem p).nodes) ids) s).fixed) (eqb-true k side same) ∙ t

  module _ (accepted : IsAccepted p) (i : ℕ) (n : Node) (at : IsNode p.tree i n) (moves : IsFalse (is_fixed p i)) where
    side_fixed : (call : Call) → n.call ≡ call → (k a : ℕ) → slice_get n.args k ≡ Some a → IsTrue (is_side (value_side call (is_first_fixed p n)) k) → IsTrue (is_fixed p a)
    side_fixed (calls.Variable v) is k a e s = cc
    side_fixed (calls.Parameter q) is k a e s = cc
    side_fixed (calls.Constant x) is k a e s = cc
    side_fixed (calls.Atom m) is k a e s = cc
    side_fixed (calls.Linear l) is k a e s = cc
    side_fixed (calls.Pairing Times) is k a e s = fixed_at n.args _ k a (tree_side_fixed p accepted i n Times at is moves) e s
    side_fixed (calls.Pairing MatTimes) is k a e s = fixed_at n.args _ k a (tree_side_fixed p accepted i n MatTimes at is moves) e s
    side_fixed (calls.Pairing Over) is k a e s = fixed_at n.args 1 k a (tree_side_fixed p accepted i n Over at is moves) e s

    pub ready : (arrays : List (Option Array)) → All (IsKnown p arrays) n.args → AreReady p (value_side n.call (is_first_fixed p n)) n.args arrays
    ready arrays known = record {
      there = λ k a e. let low = holds_at (λ b. b < i) n.args k a (p.nodes.earlier i n at) e in let below = slice_get_within p.tree i n at in omega (arith, low, below);
      known = λ k a e. holds_at (IsKnown p arrays) n.args k a known e;
      fixed = side_fixed n.call refl;
    }
