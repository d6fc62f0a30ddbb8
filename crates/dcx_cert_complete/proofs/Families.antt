-- Families are determined by the point and the unknowns, those of the first nodes by the first unknowns; and where their numbers stand.
use Rattle.std.proofs.Common.{◌≡◌, ◌≢◌, ℕ, zero, suc, ◌+◌, ◌<◌, ◌≤◌, arith, List, map, length, refl, sym, ap, ap₂, ◌∙◌, subst, Option, Some, None, slice_get, pos}
use Rattle.std.specs.Prelude.{option_map}
use native.Mathlib.Decide.{ℕ_discrete}
use Rattle.std.proofs.Math.Path.{fun_ext}
use Rattle.std.proofs.lemmas.Option.{slice_get-map}
use Rattle.dcx_math.specs.Rational.{whole, ◌*ℚ◌}
use Rattle.dcx_math.specs.Sums.{rat_sum_below}
use Rattle.dcx_math.proofs.Sums.{rat_sum_below-same}
use Rattle.dcx_frac.specs.declared.fraction.Frac.{Frac}
use Rattle.dcx_shape.specs.Sides.{entries_of}
use Rattle.dcx_atom.specs.declared.array.Array.{Array}
use Rattle.dcx_atom.specs.Arrays.{number_at}
use Rattle.dcx_atom.specs.Rows.{Filling}
use Rattle.dcx_arena.specs.Nodes.{AreNodes, IsNode, sides_at}
use Rattle.dcx_arena.proofs.Unfolds.{node_there}
use Rattle.dcx_convex.specs.Nodes.{Numbers, Setting, Point, first_of, arguments, value_by, value_at}
use Rattle.dcx_convex.proofs.Told.{map-same, value_tells}
use Rattle.dcx_call.specs.Calls.{shape_of}
use Rattle.dcx_tree.specs.Nodes.{Names, Node, head_of, arg_sides, convex_node, convex_nodes}
use Rattle.dcx_tree.specs.Values.{array_at}
use Rattle.dcx_tree.proofs.Lawful.{tree_lawful}
use Rattle.dcx_tree.proofs.NodeValues.{sides_are}
use Rattle.dcx_unknowns.specs.Equations.{call_entry}
use Rattle.dcx_cert_collect.specs.Starts.{start_of}
use Rattle.dcx_cert_collect.proofs.Flat.{dot, dot-sum, flat, flat-place, by_nodes}
use Rattle.dcx_cert_collect.proofs.Points.{first_past, past_size, End}
use Rattle.dcx_cert_complete.specs.Families.{IsFamily, call_rows, rows_if, rows_below}

-- ---- unknowns that are changed at one node
picked : {i k : ℕ} → Dec (i ≡ k) → Filling → Filling → Filling
picked (yes e) u t = u
picked (no d) u t = t

pub changed : (ℕ → Filling) → ℕ → Filling → ℕ → Filling
changed t k u i = picked (ℕ_discrete i k) u (t i)

pub changed_itself : (t : ℕ → Filling) (k : ℕ) (u : Filling) → changed t k u k ≡ u
unfolding changed picked
changed_itself t k u = by (ℕ_discrete k k)
  where
    by : (d : Dec (k ≡ k)) → picked d u (t k) ≡ u
    by (yes e) = refl
    by (no d) = absurd (d refl)

pub changed_other : (t : ℕ → Filling) (k : ℕ) (u : Filling) (i : ℕ) → i ≢ k → changed t k u i ≡ t i
unfolding changed picked
changed_other t k u i n = by (ℕ_discrete i k)
  where
    by : (d : Dec (i ≡ k)) → picked d u (t i) ≡ t i
    by (yes e) = absurd (n e)
    by (no d) = refl

-- ---- what is there
-- ---- where numbers stand
-- coefficients of the first nodes alone
pub first_dots : (nodes : List Node) (i : ℕ) → i ≤ length nodes → (t : List Frac) → length t ≡ start_of nodes i → (f g : ℕ → Numbers) → ((k : ℕ) → k < i → f k ≡ g k)
    → dot t (flat nodes f) ≡ dot t (flat nodes g)
first_dots nodes i b t count f g same =
    sums f ∙ rat_sum_below-same i _ _ (λ k l. ap (λ (v : Numbers). rat_sum_below (entries_of (sides_at nodes k)) (λ e. number_at t (start_of nodes k + e) *ℚ v e)) (same k l)) ∙ sym (sums g)
  where
    sums : (f : ℕ → Numbers) → dot t (flat nodes f) ≡ rat_sum_below i (λ k. rat_sum_below (entries_of (sides_at nodes k)) (λ e. number_at t (start_of nodes k + e) *ℚ f k e))
    sums f =
        dot-sum t (flat nodes f) ∙ ap (λ n. rat_sum_below n (λ q. number_at t q *ℚ flat nodes f q)) count
        ∙ by_nodes nodes (λ q. number_at t q *ℚ flat nodes f q) i b
        ∙ rat_sum_below-same i _ _ (λ k l. rat_sum_below-same (entries_of (sides_at nodes k)) _ _ (λ e c. ap (λ z. number_at t (start_of nodes k + e) *ℚ z)
        (flat-place nodes f k e (omega (arith, l, b)) c)))

module _ (names : Names) (nodes : List Node) (are : AreNodes shape_of nodes) (s : Setting) (values : List (Option Array)) where
  -- a family is 0 past the ends
  node_ends : (x : Point) (t : ℕ → Filling) (g : ℕ → Numbers) → IsFamily names nodes s values x t g → (i e : ℕ) → i < length nodes → (n : Node) → IsNode nodes i n → entries_of n.sides ≤ e
      → g i e ≡ whole (pos 0)
  node_ends x t g family i e b n at beyond = by (array_at values i) refl
    where
      told : value_at (convex_nodes names nodes) s x i ≡ value_by s x (head_of names n.call (arg_sides nodes n) n.sides) (map (value_at (convex_nodes names nodes) s x) n.args)
      told =
          value_tells (convex_nodes names nodes) (tree_lawful names nodes are).ordered s x i (convex_node names nodes n)
          (slice_get-map (convex_node names nodes) nodes i ∙ ap (option_map (convex_node names nodes)) at)

      by : (o : Option Array) → array_at values i ≡ o → g i e ≡ whole (pos 0)
      by (Some y) h =
          family.known i b y h e ∙ ap (λ (v : Numbers). v e) told
          ∙ past_size names s x n.call (arg_sides nodes n) n.sides (map (value_at (convex_nodes names nodes) s x) n.args) (are.shaped i n at) e beyond
      by None h = family.others i n at h e ∙ first_past (entries_of n.sides) (call_entry names s x n.call (arg_sides nodes n) (arguments (map g n.args)) (t i)) e beyond

  pub ends : (x : Point) (t : ℕ → Filling) (g : ℕ → Numbers) → IsFamily names nodes s values x t g → End nodes g
  ends x t g family i e b past = let (n, at) = node_there nodes i b in node_ends x t g family i e b n at (subst (λ r. entries_of r ≤ e) (sides_are nodes i n at) past)

  module _ (x : Point) (t u : ℕ → Filling) (g h : ℕ → Numbers) (G : IsFamily names nodes s values x t g) (H : IsFamily names nodes s values x u h) where
    node_same : (i : ℕ) → i < length nodes → t i ≡ u i → ((a : ℕ) → a < i → g a ≡ h a) → g i ≡ h i
    node_same i b same earlier = fun_ext (λ j. by (array_at values i) refl j)
      where
        by : (o : Option Array) → array_at values i ≡ o → (j : ℕ) → g i j ≡ h i j
        by (Some y) e j = G.known i b y e j ∙ sym (H.known i b y e j)
        by None e j =
            let (n, at) = node_there nodes i b in
            G.others i n at e j
            ∙ ap₂ (λ (fs : List Numbers) (v : Filling). first_of (entries_of n.sides) (call_entry names s x n.call (arg_sides nodes n) (arguments fs) v) j)
            (map-same (λ a. a < i) g h earlier n.args (are.earlier i n at)) same
            ∙ sym (H.others i n at e j)

    -- families at the same point and the same first unknowns have the same first arrays
    pub first_same : (b : ℕ) → b ≤ length nodes → ((i : ℕ) → i < b → t i ≡ u i) → (i : ℕ) → i < b → g i ≡ h i
    first_same zero within same i l = absurd (omega arith)
    first_same (suc b) within same i l =
        node_same i (omega (arith, l, within)) (same i l) (λ a k. first_same b (omega (arith, within)) (λ c m. same c (omega (arith, m))) a (omega (arith, k, l)))

-- rows of the first nodes are the same where their arrays and unknowns are
pub first_rows : (nodes : List Node) (are : AreNodes shape_of nodes) (values : List (Option Array)) (weights : ℕ → List Frac) (b : ℕ) → b ≤ length nodes → (g h : ℕ → Numbers) (t u : ℕ → Filling) →
    ((i : ℕ) → i < b → g i ≡ h i) → ((i : ℕ) → i < b → t i ≡ u i) → rows_below nodes values weights b g t ≡ rows_below nodes values weights b h u
first_rows nodes are values weights b within g h t u arrays unknowns = rat_sum_below-same b _ _ (λ i l. by i l (array_at values i) (slice_get nodes i) refl)
  where
    by : (i : ℕ) → i < b → (a : Option Array) (o : Option Node) → slice_get nodes i ≡ o → rows_if nodes a o (weights i) g (t i) ≡ rows_if nodes a o (weights i) h (u i)
    by i l (Some y) o e = refl
    by i l None None e = refl
    by i l None (Some n) e =
        ap₂ (λ (fs : List Numbers) (v : Filling). call_rows n.call (arg_sides nodes n) (entries_of n.sides) (weights i) (arguments fs) v)
        (map-same (λ a. a < i) g h (λ a k. arrays a (omega (arith, k, l))) n.args (are.earlier i n e)) (unknowns i l)
