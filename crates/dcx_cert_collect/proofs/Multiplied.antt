-- The coefficients at the start times the numbers of the nodes are the Lagrangian.
use Rattle.std.proofs.Common.{◌≡◌, ℕ, suc, ◌+◌, ◌<◌, arith, Bool, true, false, nat_lt, if◌then◌else◌, List, [], ◌∷◌, map, length}
use Rattle.std.proofs.Common.{replicate, refl, sym, ap, ap₂, ◌∙◌, subst, Option, Some, None, Ok, slice_get, pos, negsuc}
use Rattle.std.specs.Prelude.{option_map}
use Rattle.std.proofs.lemmas.Bool.{false≢true, lt-ltb}
use Rattle.std.proofs.lemmas.List.{length-map, length-replicate}
use Rattle.std.proofs.lemmas.Option.{slice_get-map, get_or_from_slice_get}
use Rattle.dcx_math.specs.Rational.{ℚ, whole, ◌+ℚ◌, ◌-ℚ◌, ◌*ℚ◌, neg_ℚ}
use Rattle.dcx_math.specs.Sums.{rat_sum_below}
use Rattle.dcx_math.proofs.Ring.{ring, reads}
use Rattle.dcx_math.proofs.Orders.{+ℚ_idl, *ℚ_idl, minus_one-*ℚ}
use Rattle.dcx_math.proofs.Sums.{rat_sum_below-same, rat_sum_below-first, rat_sum_below-+ℚ}
use Rattle.dcx_frac.specs.declared.fraction.Frac.{Frac}
use Rattle.dcx_frac.specs.Frac.{value}
use Rattle.dcx_shape.specs.Shape.{sides_of}
use Rattle.dcx_shape.specs.Sides.{entries_of}
use Rattle.dcx_atom.specs.declared.array.Array.{Array}
use Rattle.dcx_atom.specs.Arrays.{number_at, numbers_of, joined_below}
use Rattle.dcx_atom.specs.Formed.{zero_frac, frac_at}
use Rattle.dcx_arena.specs.Nodes.{sides_at, entries_in}
use Rattle.dcx_convex.specs.Nodes.{Numbers}
use Rattle.dcx_convex.specs.Problems as convex
use Rattle.dcx_convex.specs.Problems.{minimized, gap_of, objective_of}
use Rattle.dcx_convex.specs.Answers.{Multipliers, weighed, penalty_of, lagrangian_of}
use Rattle.dcx_atom.proofs.Fractions.{value-frac_at, negative_fits, value-one_frac, minus_one_fits}
use Rattle.dcx_frac.proofs.Parts.{value_representable}
use Rattle.dcx_tree.specs.declared.constraint.Sense.{Sense}
use Rattle.dcx_tree.specs.declared.constraint.Sense.TheVariants.{Minimize, Maximize}
use Rattle.dcx_tree.specs.declared.constraint.Constraint.{Constraint}
use Rattle.dcx_tree.specs.declared.problem.Problem.{Problem}
use Rattle.dcx_tree.specs.Nodes.{Node}
use Rattle.dcx_tree.specs.Meaning.{sense_of, convex_constraint, convex_problem}
use Rattle.dcx_cert_collect.specs.Shares.{frac_in, share_of, with_shares}
use Rattle.dcx_cert_collect.specs.Starts.{start_of, place_of}
use Rattle.dcx_cert_collect.specs.Laws.{table_times, StartIsLagrangian}
use Rattle.dcx_cert_collect.specs.Multipliers.{objective_number, objective_shares, array_shares, negated_shares, constraint_shares, all_shares, start_table, AreDuals}
use Rattle.dcx_cert_collect.proofs.Starting.{start_next, start_within}
use Rattle.dcx_cert_collect.proofs.Passing.{shares_count}
use Rattle.dcx_cert_collect.proofs.Flat.{frac_value, dot, dot-zeros, dot-table, flat, flat-place}
use Rattle.dcx_cert_collect.proofs.Bound.{number_of, IsBefore, IsWorth, worth_of, share_dot, below_dot, joined_dot, first_then, single, more}
use Rattle.dcx_math.proofs.Lists.{element_at}

-- ---- arithmetic
gap_of_two : (m a b : ℚ) → m *ℚ a +ℚ neg_ℚ m *ℚ b ≡ m *ℚ (a -ℚ b)
gap_of_two m a b = ring (m ∷ a ∷ b ∷ []) (search reads depth 30) tt

-- ---- the sum over constraints, by their numbers
row_of : (convex.Constraint → ℕ → ℚ) → (ℕ → ℚ) → Option convex.Constraint → ℚ
row_of gap m None = whole (pos 0)
row_of gap m (Some c) = rat_sum_below c.size (λ j. m j *ℚ gap c j)

weighed_below : (gap : convex.Constraint → ℕ → ℚ) (cs : List convex.Constraint) (m : Multipliers) → weighed gap cs m ≡ rat_sum_below (length cs) (λ k. row_of gap (m k) (slice_get cs k))
unfolding row_of
weighed_below gap [] m = refl
weighed_below gap (c ∷ cs) m =
    ap (λ r. rat_sum_below c.size (λ j. m 0 j *ℚ gap c j) +ℚ r) (weighed_below gap cs (λ k. m (suc k)))
    ∙ sym (rat_sum_below-first (length cs) (λ k. row_of gap (m k) (slice_get (c ∷ cs) k)))

-- ---- what is there
number_there : (duals : List Array) (k : ℕ) (x : Array) → slice_get duals k ≡ Some x → (j : ℕ) → numbers_of duals k j ≡ number_at x.entries j
number_there duals k x at j =
    ap (λ xs. number_at xs j) (get_or_from_slice_get (map (λ (y : Array). y.entries) duals) k x.entries []
    (slice_get-map (λ (y : Array). y.entries) duals k ∙ ap (option_map (λ (y : Array). y.entries)) at))

module _ (nodes : List Node) (f : ℕ → Numbers) where
  abbrev F : Numbers
  F = flat nodes f

  abbrev L : ℕ
  L = entries_in nodes

  -- an entry of a node has its place
  place_is : (i e : ℕ) → e < entries_of (sides_at nodes i) → place_of nodes (Some i) e ≡ Some (start_of nodes i + e)
  place_is i e b = by (nat_lt e (entries_of (sides_at nodes i))) (lt-ltb e _ b)
    where
      by : (t : Bool) → t ≡ true → (if t then Some (start_of nodes i + e) else None) ≡ Some (start_of nodes i + e)
      by true h = refl
      by false h = absurd (false≢true h)

  entry_worth : (i e : ℕ) (x : Frac) (w : ℚ) → i < length nodes → e < entries_of (sides_at nodes i) → value x *ℚ f i e ≡ w → IsWorth F L (share_of (place_of nodes (Some i) e) (Ok x)) w
  entry_worth i e x w b c h =
      let place = place_is i e c in
      let inside : start_of nodes i + e < L = omega (arith, start_next nodes i b, start_within nodes (i + 1), c) in
      worth_of F L (share_of (place_of nodes (Some i) e) (Ok x)) w (subst (IsBefore L) (sym place) inside)
      (ap (λ o. value x *ℚ number_of F o) place ∙ ap (λ z. value x *ℚ z) (flat-place nodes f i e b c) ∙ h)

  -- ---- a constraint
  constraint_dot : (c : Constraint) (x : Array) → c.left.0 < length nodes → c.right.0 < length nodes → sides_at nodes c.left.0 ≡ sides_of c.shape → sides_at nodes c.right.0 ≡ sides_of c.shape
      → sides_of x.shape ≡ sides_of c.shape
      → (t u : List Frac) → length t ≡ L → with_shares t (constraint_shares nodes (Some c) (Some x)) ≡ Ok u →
      dot u F ≡ dot t F +ℚ rat_sum_below (entries_of (sides_of c.shape)) (λ j. number_at x.entries j *ℚ (f c.left.0 j -ℚ f c.right.0 j))
  constraint_dot c x l r left right shape t u count e =
      let (v, first, rest) = first_then t u (array_shares nodes c.left.0 x) (negated_shares nodes c.right.0 x) e in
      let same : length v ≡ L = shares_count t v (array_shares nodes c.left.0 x) first ∙ count in
      let n = entries_of (sides_of x.shape) in
      let a = λ (j : ℕ). number_at x.entries j *ℚ f c.left.0 j in
      let b = λ (j : ℕ). neg_ℚ (number_at x.entries j) *ℚ f c.right.0 j in
      more (dot u F) (dot v F) (dot t F) (rat_sum_below n a) (rat_sum_below n b)
      (below_dot F L (λ j. share_of (place_of nodes (Some c.right.0) j) (Ok (frac_at (neg_ℚ (value (frac_in x.entries j)))))) b n
      (λ j k. entry_worth c.right.0 j (frac_at (neg_ℚ (value (frac_in x.entries j)))) (b j) r (omega (arith, k, ap entries_of (right ∙ sym shape)))
      (ap (λ z. z *ℚ f c.right.0 j) (value-frac_at (neg_ℚ (value (frac_in x.entries j))) (negative_fits (value (frac_in x.entries j)) (value_representable (frac_in x.entries j)))
      ∙ ap neg_ℚ (frac_value x.entries j)))) v u same rest)
      (below_dot F L (λ j. share_of (place_of nodes (Some c.left.0) j) (Ok (frac_in x.entries j))) a n
      (λ j k. entry_worth c.left.0 j (frac_in x.entries j) (a j) l (omega (arith, k, ap entries_of (left ∙ sym shape))) (ap (λ z. z *ℚ f c.left.0 j) (frac_value x.entries j))) t v count first)
      ∙ ap (λ z. dot t F +ℚ z) (sym (rat_sum_below-+ℚ n a b) ∙ rat_sum_below-same n _ _ (λ j k. gap_of_two (number_at x.entries j) (f c.left.0 j) (f c.right.0 j))
      ∙ ap (λ m. rat_sum_below m (λ j. number_at x.entries j *ℚ (f c.left.0 j -ℚ f c.right.0 j))) (ap entries_of shape))

module _ (p : Problem) (duals : List Array) (are : AreDuals p duals) (f : ℕ → Numbers) where
  abbrev G : Numbers
  G = flat p.tree f

  abbrev row : ℕ → ℚ
  row k = row_of (gap_of f) (numbers_of duals k) (slice_get (map convex_constraint p.constraints) k)

  row_is : (k : ℕ) (c : Constraint) (x : Array) → slice_get p.constraints k ≡ Some c → slice_get duals k ≡ Some x →
      row k ≡ rat_sum_below (entries_of (sides_of c.shape)) (λ j. number_at x.entries j *ℚ (f c.left.0 j -ℚ f c.right.0 j))
  unfolding row_of
  row_is k c x at given =
      ap (row_of (gap_of f) (numbers_of duals k)) (slice_get-map convex_constraint p.constraints k ∙ ap (option_map convex_constraint) at)
      ∙ rat_sum_below-same (entries_of (sides_of c.shape)) _ _ (λ j b. ap (λ z. z *ℚ (f c.left.0 j -ℚ f c.right.0 j)) (number_there duals k x given j))

  -- constraint k
  each_dot : (k : ℕ) → k < length p.constraints → (t u : List Frac) → length t ≡ entries_in p.tree → with_shares t (constraint_shares p.tree (slice_get p.constraints k) (slice_get duals k)) ≡ Ok u
      → dot u G ≡ dot t G +ℚ row k
  each_dot k b t u count e =
      let (c, at) = element_at p.constraints k b in
      let (x, given) = element_at duals k (omega (arith, b, are.count)) in
      let kept = p.constraints_kept in
      constraint_dot p.tree f c x (kept.left k c at).there (kept.right k c at).there (kept.left k c at).same (kept.right k c at).same (are.shaped k c x at given) t u count
      (ap₂ (λ o q. with_shares t (constraint_shares p.tree o q)) (sym at) (sym given) ∙ e)
      ∙ ap (λ z. dot t G +ℚ z) (sym (row_is k c x at given))

  penalty_dot : (t u : List Frac) → length t ≡ entries_in p.tree → with_shares t
      (joined_below (length p.constraints) (λ k. constraint_shares p.tree (slice_get p.constraints k) (slice_get duals k))) ≡ Ok u
      → dot u G ≡ dot t G +ℚ penalty_of (convex_problem p) (numbers_of duals) f
  penalty_dot t u count e =
      joined_dot G (entries_in p.tree) (λ k. constraint_shares p.tree (slice_get p.constraints k) (slice_get duals k)) row (length p.constraints)
      (λ k b t u count e. each_dot k b t u count e) t u count e
      ∙ ap (λ z. dot t G +ℚ z) (ap (λ n. rat_sum_below n row) (sym (length-map p.constraints convex_constraint))
      ∙ sym (weighed_below (gap_of f) (map convex_constraint p.constraints) (numbers_of duals)))

  -- the objective
  sense_worth : (sense : Sense) (z : ℚ) → value (objective_number sense) *ℚ z ≡ minimized (sense_of sense) z
  sense_worth Minimize z = ap (λ v. v *ℚ z) value-one_frac ∙ *ℚ_idl z
  sense_worth Maximize z = ap (λ v. v *ℚ z) (value-frac_at (whole (negsuc 0)) minus_one_fits) ∙ minus_one-*ℚ z

  objective_dot : (t u : List Frac) → length t ≡ entries_in p.tree → with_shares t (objective_shares true p) ≡ Ok u → dot u G ≡ dot t G +ℚ objective_of (convex_problem p) f
  objective_dot t u count e =
      let kept = p.objective_kept in
      let s = share_of (place_of p.tree (Some p.objective.0) 0) (Ok (objective_number p.sense)) in
      share_dot G t u s (objective_of (convex_problem p) f)
      (subst (λ n. IsWorth G n s (objective_of (convex_problem p) f)) (sym count)
      (entry_worth p.tree f p.objective.0 0 (objective_number p.sense) (objective_of (convex_problem p) f) kept.there (omega (arith, kept.one_entry)) (sense_worth p.sense (f p.objective.0 0))))
      (single t u s e)

  zeros_count : length (replicate (entries_in p.tree) zero_frac) ≡ entries_in p.tree
  zeros_count = length-replicate (entries_in p.tree) zero_frac

  pub start_lagrangian : (table : List Frac) → start_table true p duals ≡ Ok table → table_times p.tree table f ≡ lagrangian_of (convex_problem p) (numbers_of duals) f
  start_lagrangian table e =
      let zeros = replicate (entries_in p.tree) zero_frac in
      let (v, first, rest) = first_then zeros table (objective_shares true p) (joined_below (length p.constraints) (λ k. constraint_shares p.tree (slice_get p.constraints k) (slice_get duals k))) e in
      let same : length v ≡ entries_in p.tree = shares_count zeros v (objective_shares true p) first ∙ zeros_count in
      let all : length table ≡ entries_in p.tree = shares_count zeros table (all_shares true p duals) e ∙ zeros_count in
      sym (dot-table p.tree f table all)
      ∙ more (dot table G) (dot v G) (dot zeros G) (objective_of (convex_problem p) f) (penalty_of (convex_problem p) (numbers_of duals) f) (penalty_dot v table same rest)
      (objective_dot zeros v zeros_count first)
      ∙ ap (λ z. z +ℚ lagrangian_of (convex_problem p) (numbers_of duals) f) (dot-zeros (entries_in p.tree) G) ∙ +ℚ_idl _

  pub start_penalty : (table : List Frac) → start_table false p duals ≡ Ok table → table_times p.tree table f ≡ penalty_of (convex_problem p) (numbers_of duals) f
  start_penalty table e =
      let zeros = replicate (entries_in p.tree) zero_frac in
      let all : length table ≡ entries_in p.tree = shares_count zeros table (all_shares false p duals) e ∙ zeros_count in
      sym (dot-table p.tree f table all) ∙ penalty_dot zeros table zeros_count e
      ∙ ap (λ z. z +ℚ penalty_of (convex_problem p) (numbers_of duals) f) (dot-zeros (entries_in p.tree) G) ∙ +ℚ_idl _

-- there is a coefficient for each entry
pub start_count : (p : Problem) (duals : List Array) (b : Bool) (table : List Frac) → start_table b p duals ≡ Ok table → length table ≡ entries_in p.tree
start_count p duals b table e = shares_count (replicate (entries_in p.tree) zero_frac) table (all_shares b p duals) e ∙ length-replicate (entries_in p.tree) zero_frac

pub starts_are_lagrangians : (p : Problem) (duals : List Array) → AreDuals p duals → StartIsLagrangian p duals
starts_are_lagrangians p duals are = record { lagrangian = λ table e f. start_lagrangian p duals are f table e; penalty = λ table e f. start_penalty p duals are f table e }
