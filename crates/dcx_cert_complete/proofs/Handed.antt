-- One node of the pass: what bounds the coefficients of the nodes up to it, with the weighted rows of their graphs, bounds those of the
-- nodes before it, and its weights meet the conditions of slopes.
use Rattle.std.proofs.Common.{◌≡◌, ◌⊎◌, ℕ, ◌+◌, ◌<◌, ◌≤◌, arith, List, [], ◌∷◌, ◌++◌, map, length, get_or, All, refl, sym, ap, ap₂, ◌∙◌}
use Rattle.std.proofs.Common.{subst, append-nil, Option, Some, None, Result, Ok, Err, slice_get, pos, ⊎_elim}
use Rattle.std.proofs.lemmas.Bool.{false≢true}
use Rattle.std.proofs.lemmas.List.{get_or-map}
use Rattle.std.specs.Prelude.{option_map}
use Rattle.dcx_math.specs.Rational.{ℚ, whole, ◌+ℚ◌, ◌*ℚ◌, ◌-ℚ◌, ◌≤ℚ◌}
use Rattle.dcx_math.specs.Sums.{rat_sum_below}
use Rattle.dcx_math.proofs.Ring.{reads}
use Rattle.dcx_math.proofs.Orders.{≤ℚ_refl, ≤ℚ-from_≡, +ℚ_idr, +ℚ_left_comm, zero-*ℚ, +ℚ-≤ℚ, linear}
use Rattle.dcx_math.proofs.Products.{*ℚ-nonnegative}
use native.Mathlib.Decide.{ℕ_discrete}
use Rattle.std.proofs.lemmas.Option.{same_Some}
use Rattle.dcx_math.proofs.Sums.{rat_sum_below-same, rat_sum_below-+ℚ, rat_sum_by-++}
use Rattle.dcx_frac.specs.declared.fraction.Frac.{Frac}
use Rattle.dcx_frac.specs.declared.fraction.Passes.{Passes}
use Rattle.dcx_shape.specs.declared.shape.Sides.{Sides}
use Rattle.dcx_shape.specs.Sides.{entries_of}
use Rattle.dcx_atom.specs.declared.array.Array.{Array}
use Rattle.dcx_atom.specs.declared.stops.SlopeStop.{SlopeStop}
use Rattle.dcx_atom.specs.declared.stops.SlopeStop.TheVariants as slope_stops
use Rattle.dcx_atom.specs.Arrays.{number_at, list_below, sides_at}
use Rattle.dcx_atom.specs.Rows.{Filling, form_at, KindsHold, weighted}
use Rattle.dcx_atom.specs.Formed.{exact}
use Rattle.dcx_atom.specs.Meaning.{Meaning}
use Rattle.dcx_atom.specs.Laws.{slopes_times}
use Rattle.dcx_atom.specs.Steps.{entry_stop, weights_of}
use Rattle.dcx_atom.proofs.Duality.{weighted_parts}
use Rattle.dcx_atom.specs.Duality.{no_entries, no_filling, balance}
use Rattle.dcx_affine.specs.declared.pairing.Pairing.{Pairing}
use Rattle.dcx_affine.specs.declared.pairing.Pairing.TheVariants.{Times, MatTimes, Over}
use Rattle.dcx_affine.specs.Pairing.{pairs_at}
use Rattle.dcx_arena.specs.Nodes.{AreNodes, IsNode}
use Rattle.dcx_arena.proofs.Results.{same_Ok}
use Rattle.dcx_convex.specs.Nodes.{Numbers, Setting, Point, arguments, zeros}
use Rattle.dcx_convex.proofs.Told.{map-same}
use Rattle.dcx_convex.proofs.Signs.{first_in}
use Rattle.dcx_call.specs.declared.atoms.AtomCall.{AtomCall}
use Rattle.dcx_call.specs.declared.call.Call.{Call}
use Rattle.dcx_call.specs.declared.call.Call.TheVariants as calls
use Rattle.dcx_call.specs.Atoms.{atom_meaning, atom_lawful}
use Rattle.dcx_call.specs.Linears.{linear_meaning, linear_lawful}
use Rattle.dcx_call.specs.Calls.{shape_of}
use Rattle.dcx_atom.proofs.Fractions.{value-frac_at}
use Rattle.dcx_call.proofs.CallLaws.{own_is}
use Rattle.dcx_atom.specs.Fractions.{HasFractionSlopes}
use Rattle.dcx_call.proofs.Coefficients.{coefficients_fit}
use Rattle.dcx_tree.specs.Nodes.{Names, Node, arg_sides, number_in}
use Rattle.dcx_shape.specs.Shape.{sides_of}
use Rattle.dcx_tree.specs.Values.{array_at}
use Rattle.dcx_unknowns.specs.Equations.{call_entry}
use Rattle.dcx_cert_collect.specs.declared.collected.Reached.{Reached}
use Rattle.dcx_cert_collect.specs.declared.stop.CollectStop.{CollectStop}
use Rattle.dcx_cert_collect.specs.declared.stop.CollectStop.TheVariants as stops
use Rattle.dcx_cert_collect.specs.Shares.{Share, with_shares}
use Rattle.dcx_cert_collect.specs.Starts.{start_of, place_of}
use Rattle.dcx_cert_collect.specs.Calls.{share_to, unless, slopes_stop, slope_shares, slope_frac, linear_shares}
use Rattle.dcx_cert_collect.specs.Pass.{reached_by, call_shares, pairing_hands}
use Rattle.dcx_cert_collect.specs.Laws.{reached_times, HasKnownSide, AreKnown}
use Rattle.dcx_cert_collect.proofs.Flat.{dot, flat}
use Rattle.dcx_cert_collect.proofs.Bound.{number_of, IsBefore, worth_of, below_dot, joined_dot, IsWorth}
use Rattle.dcx_cert_collect.proofs.Points.{argument_place}
use Rattle.dcx_cert_collect.proofs.ArgSides.{as_many, args_before, args_there, few_sides, two_args}
use Rattle.dcx_cert_collect.proofs.Worth.{linear_worth, products_worth_right, products_worth_left, quotients_worth, none_stopped}
use Rattle.dcx_cert_complete.specs.Families.{IsFamily, AreFilled, AreWeighed, atom_rows, call_rows, rows_below, variable_if, variable_numbers}
use Rattle.dcx_cert_complete.proofs.Scaling.{times_filling, balance_times, nothing_lowers}
use Rattle.dcx_cert_complete.proofs.Soft.{IsSoft, soft_entry, soft_entries}
use Rattle.dcx_cert_complete.proofs.Families.{changed, changed_itself, changed_other, first_dots, ends, first_same, first_rows}

-- the stop is an operation that passes
abbrev pub IsPassing : CollectStop → Type 0
IsPassing (stops.Slope node entry stated found) = ⊥
IsPassing (stops.Passes passes) = Unit {0}
IsPassing stops.Memory = ⊥

carried : (v c r d o q u l z : ℚ) → v ≤ℚ c +ℚ r +ℚ (d +ℚ o) +ℚ (l +ℚ z) → u +ℚ q ≡ d +ℚ o → z ≡ whole (pos 0) → v ≤ℚ c +ℚ (r +ℚ q) +ℚ u +ℚ l
carried v c r d o q u l z h e f = linear (v ∷ c ∷ r ∷ d ∷ o ∷ q ∷ u ∷ l ∷ z ∷ []) (+ℚ-≤ℚ h (+ℚ-≤ℚ (≤ℚ-from_≡ (sym e)) (≤ℚ-from_≡ f))) (search reads depth 40 fits 20000) tt

module _ (names : Names) (nodes : List Node) (are : AreNodes shape_of nodes) (s : Setting) (values : List (Option Array)) (known : AreKnown names nodes s values) (weights : ℕ → List Frac)
    (D : Point → Type 0) (v : ℚ) where
  -- P holds at each point of the domain, all unknowns of their kinds and the arrays that stand there
  abbrev pub Everywhere : (Point → (ℕ → Filling) → (ℕ → Numbers) → Type 0) → Type 0
  Everywhere P = (x : Point) → D x → (t : ℕ → Filling) → AreFilled nodes values t → (g : ℕ → Numbers) → IsFamily names nodes s values x t g → P x t g

  module _ (i : ℕ) (b : i < length nodes) (n : Node) (at : IsNode nodes i n) (none : array_at values i ≡ None) (cs t0 : List Frac) (size : length cs ≡ entries_of n.sides)
      (start : length t0 ≡ start_of nodes i)
      (counted : ℚ) (reached : List Reached) where
    abbrev ss : List Sides
    ss = arg_sides nodes n

    abbrev a : (ℕ → Numbers) → ℕ → Numbers
    a g = arguments (map g n.args)

    abbrev own_times : (ℕ → Numbers) → ℚ
    own_times g = rat_sum_below (length cs) (λ j. number_at cs j *ℚ g i j)

    -- the bound before the node hands on, and after it
    abbrev pub Before : Call → Type 0
    Before call = Everywhere (λ x t g. v ≤ℚ counted +ℚ reached_times reached (variable_numbers names nodes x) +ℚ (dot t0 (flat nodes g) +ℚ own_times g)
        +ℚ (rows_below nodes values weights i g t +ℚ call_rows call ss (entries_of n.sides) (weights i) (a g) (t i)))

    abbrev pub After : List Frac → List Reached → Type 0
    After u more = Everywhere (λ x t g. v ≤ℚ counted +ℚ reached_times (reached ++ more) (variable_numbers names nodes x) +ℚ dot u (flat nodes g) +ℚ rows_below nodes values weights i g t)

    -- no condition is broken, and where no operation passes the bound holds after
    abbrev pub AreFair : Call → Result (List Share) CollectStop → Type 0
    AreFair call (Ok shares) = (u : List Frac) → with_shares t0 shares ≡ Ok u → After u (reached_by i call cs)
    AreFair call (Err stop) = IsPassing stop

    -- ---- where the arguments stand
    before : (k e : ℕ) → IsBefore (start_of nodes i) (place_of nodes (slice_get n.args k) e)
    before = args_before nodes are i b n at

    there : All (λ k. k < length nodes) n.args
    there = args_there nodes are i b n at

    many : length n.args ≡ length ss
    many = as_many nodes n

    shaped : (call : Call) → n.call ≡ call → shape_of call ss ≡ Some n.sides
    shaped call same = subst (λ c. shape_of c ss ≡ Some n.sides) same (are.shaped i n at)

    module _ (x : Point) (t : ℕ → Filling) (g : ℕ → Numbers) (family : IsFamily names nodes s values x t g) where
      placed : (k e : ℕ) → number_of (flat nodes g) (place_of nodes (slice_get n.args k) e) ≡ a g k e
      placed = argument_place nodes g (ends names nodes are s values x t g family) n.args there

      -- what stands for the node
      told : (call : Call) → n.call ≡ call → (j : ℕ) → j < entries_of n.sides → g i j ≡ call_entry names s x call ss (a g) (t i) j
      told call same j c =
          family.others i n at none j ∙ first_in (entries_of n.sides) (call_entry names s x n.call ss (a g) (t i)) j c
          ∙ ap (λ k. call_entry names s x k ss (a g) (t i) j) same

      entries_are : (w : Numbers) → ((j : ℕ) → j < entries_of n.sides → g i j ≡ w j) → rat_sum_below (length cs) (λ j. number_at cs j *ℚ w j) ≡ own_times g
      entries_are w is = rat_sum_below-same (length cs) _ _ (λ j c. ap (λ z. number_at cs j *ℚ z) (sym (is j (omega (arith, c, size)))))

      -- a known value is that of its node
      side_is : (k : ℕ) (y : Array) → k < length n.args → array_at values (get_or n.args k 0) ≡ Some y → (e : ℕ) → number_at y.entries e ≡ a g k e
      side_is k y c is e =
          known.known (get_or n.args k 0) y is x e ∙ sym (family.known (get_or n.args k 0) (there k 0 c) y is e) ∙ ap (λ (f : Numbers). f e) (sym (get_or-map g n.args k 0 zeros c))

      two : (p : Pairing) → n.call ≡ calls.Pairing p → length n.args ≡ 2
      two = two_args nodes are i b n at

      exact_of : (u : List Frac) (w : Numbers) → ((j : ℕ) → j < entries_of n.sides → g i j ≡ w j)
          → dot u (flat nodes g) ≡ dot t0 (flat nodes g) +ℚ rat_sum_below (length cs) (λ j. number_at cs j *ℚ w j)
          → dot u (flat nodes g) +ℚ whole (pos 0) ≡ dot t0 (flat nodes g) +ℚ own_times g
      exact_of u w is e = +ℚ_idr _ ∙ e ∙ ap (λ z. dot t0 (flat nodes g) +ℚ z) (entries_are w is)

      pub linear_exact : (l : _) → n.call ≡ calls.Linear l → (u : List Frac) → with_shares t0 (linear_shares nodes n.args cs ((linear_meaning l).terms ss)) ≡ Ok u →
          dot u (flat nodes g) +ℚ whole (pos 0) ≡ dot t0 (flat nodes g) +ℚ own_times g
      linear_exact l same u e =
          let m = linear_meaning l in
          let shape : m.shape ss ≡ Some n.sides = shaped (calls.Linear l) same in
          let law : (j : ℕ) → j < entries_of n.sides → m.value ss (a g) j ≡ _ = λ j c. (linear_lawful l).linearity ss n.sides shape j c (a g) in
          exact_of u (m.value ss (a g)) (λ j c. told (calls.Linear l) same j c ∙ sym (law j c))
          (linear_worth nodes n.args (flat nodes g) (start_of nodes i) (a g) before placed m ss cs (λ j c. coefficients_fit l ss n.sides j shape (omega (arith, c, size))
          (few_sides nodes are i b n at))
          (λ j c. law j (omega (arith, c, size))) t0 u start e)

      pub times_exact : (o r : Option Array) → array_at values (get_or n.args 0 0) ≡ o → array_at values (get_or n.args 1 0) ≡ r → n.call ≡ calls.Pairing Times → HasKnownSide Times o r
          → (u : List Frac)
          → with_shares t0 (pairing_hands nodes n.args Times ss o r cs) ≡ Ok u → dot u (flat nodes g) +ℚ whole (pos 0) ≡ dot t0 (flat nodes g) +ℚ own_times g
      times_exact (Some y) r left right same h u e =
          exact_of u (call_entry names s x (calls.Pairing Times) ss (a g) (t i)) (told (calls.Pairing Times) same)
          (products_worth_left nodes n.args (flat nodes g) (start_of nodes i) (a g) before placed y.entries cs (pairs_at Times (sides_at ss 0) (sides_at ss 1))
          (side_is 0 y (omega (arith, two Times same)) left) t0 u start e)
      times_exact None (Some y) left right same h u e =
          exact_of u (call_entry names s x (calls.Pairing Times) ss (a g) (t i)) (told (calls.Pairing Times) same)
          (products_worth_right nodes n.args (flat nodes g) (start_of nodes i) (a g) before placed y.entries cs (pairs_at Times (sides_at ss 0) (sides_at ss 1))
          (side_is 1 y (omega (arith, two Times same)) right) t0 u start e)
      times_exact None None left right same h u e = absurd (⊎_elim false≢true false≢true h)

      pub mat_times_exact : (o r : Option Array) → array_at values (get_or n.args 0 0) ≡ o → array_at values (get_or n.args 1 0) ≡ r → n.call ≡ calls.Pairing MatTimes → HasKnownSide MatTimes o r
          → (u : List Frac)
          → with_shares t0 (pairing_hands nodes n.args MatTimes ss o r cs) ≡ Ok u → dot u (flat nodes g) +ℚ whole (pos 0) ≡ dot t0 (flat nodes g) +ℚ own_times g
      mat_times_exact (Some y) r left right same h u e =
          exact_of u (call_entry names s x (calls.Pairing MatTimes) ss (a g) (t i)) (told (calls.Pairing MatTimes) same)
          (products_worth_left nodes n.args (flat nodes g) (start_of nodes i) (a g) before placed y.entries cs (pairs_at MatTimes (sides_at ss 0) (sides_at ss 1))
          (side_is 0 y (omega (arith, two MatTimes same)) left) t0 u start e)
      mat_times_exact None (Some y) left right same h u e =
          exact_of u (call_entry names s x (calls.Pairing MatTimes) ss (a g) (t i)) (told (calls.Pairing MatTimes) same)
          (products_worth_right nodes n.args (flat nodes g) (start_of nodes i) (a g) before placed y.entries cs (pairs_at MatTimes (sides_at ss 0) (sides_at ss 1))
          (side_is 1 y (omega (arith, two MatTimes same)) right) t0 u start e)
      mat_times_exact None None left right same h u e = absurd (⊎_elim false≢true false≢true h)

      pub over_exact : (o r : Option Array) → array_at values (get_or n.args 1 0) ≡ r → n.call ≡ calls.Pairing Over → HasKnownSide Over o r → (u : List Frac) →
          with_shares t0 (pairing_hands nodes n.args Over ss o r cs) ≡ Ok u → dot u (flat nodes g) +ℚ whole (pos 0) ≡ dot t0 (flat nodes g) +ℚ own_times g
      over_exact o (Some y) right same h u e =
          exact_of u (call_entry names s x (calls.Pairing Over) ss (a g) (t i)) (told (calls.Pairing Over) same)
          (quotients_worth nodes n.args (flat nodes g) (start_of nodes i) (a g) before placed y.entries cs (pairs_at Over (sides_at ss 0) (sides_at ss 1))
          (side_is 1 y (omega (arith, two Over same)) right) t0 u start e)
      over_exact o None right same h u e = cc

    -- ---- calls that hand on all that they are worth
    pub hands_all : (call : Call) (u : List Frac) (more : List Reached) →
        ((x : Point) (t : ℕ → Filling) (g : ℕ → Numbers) → IsFamily names nodes s values x t g
        → dot u (flat nodes g) +ℚ reached_times more (variable_numbers names nodes x) ≡ dot t0 (flat nodes g) +ℚ own_times g)
        → ((g : ℕ → Numbers) (t : ℕ → Filling) → call_rows call ss (entries_of n.sides) (weights i) (a g) (t i) ≡ whole (pos 0)) → Before call → After u more
    hands_all call u more exact rows bound x d t filled g family =
        let vn = variable_numbers names nodes x in
        subst (λ q. v ≤ℚ counted +ℚ q +ℚ dot u (flat nodes g) +ℚ rows_below nodes values weights i g t)
        (sym (rat_sum_by-++ (λ (r : Reached). rat_sum_below (length r.coefficients) (λ e. number_at r.coefficients e *ℚ vn r.node.0 e)) reached more))
        (carried v counted (reached_times reached vn) (dot t0 (flat nodes g)) (own_times g) (reached_times more vn) (dot u (flat nodes g)) (rows_below nodes values weights i g t)
        (call_rows call ss (entries_of n.sides) (weights i) (a g) (t i)) (bound x d t filled g family) (exact x t g family) (rows g t))

    -- a variable keeps its coefficients
    pub variable_exact : (var : _) → n.call ≡ calls.Variable var → (u : List Frac) → with_shares t0 [] ≡ Ok u → (x : Point) (t : ℕ → Filling) (g : ℕ → Numbers) → IsFamily names nodes s values x t g →
        dot u (flat nodes g) +ℚ reached_times (reached_by i (calls.Variable var) cs) (variable_numbers names nodes x) ≡ dot t0 (flat nodes g) +ℚ own_times g
    variable_exact var same u e x t g family =
        ap₂ ◌+ℚ◌ (ap (λ xs. dot xs (flat nodes g)) (sym (same_Ok {E = Passes} t0 u e)))
        (+ℚ_idr _ ∙ entries_are x t g family (variable_numbers names nodes x i) (λ j c. told x t g family (calls.Variable var) same j c ∙ sym (shown j c)))
      where
        shown : (j : ℕ) → j < entries_of n.sides → variable_numbers names nodes x i j ≡ call_entry names s x (calls.Variable var) ss (a g) (t i) j
        shown j c =
            ap (λ (o : Option Call). variable_if names x o j) (ap (option_map (λ (k : Node). k.call)) at ∙ ap Some same)
            ∙ first_in (entries_of (sides_of var.shape)) (x (number_in names.variables var.name)) j
            (subst (λ (r : Sides). j < entries_of r) (sym (own_is (sides_of var.shape) ss n.sides (shaped (calls.Variable var) same))) c)

    -- ---- a nonlinear call
    module _ (m : AtomCall) (same : n.call ≡ calls.Atom m) where
      abbrev M : Meaning
      M = atom_meaning m

      abbrev w : ℕ → ℕ → ℚ
      w = weights_of M ss (weights i)

      abbrev slopes : (ℕ → Numbers) → ℚ
      slopes g = slopes_times M ss w (a g)

      abbrev left : Filling → ℚ
      left u = balance M ss (entries_of n.sides) (number_at cs) w u

      -- what the node has with its rows is its slopes' part and what its unknowns leave
      parts : (x : Point) (t : ℕ → Filling) (g : ℕ → Numbers) → IsFamily names nodes s values x t g
          → own_times g +ℚ atom_rows M ss (entries_of n.sides) (weights i) (a g) (t i) ≡ slopes g +ℚ left (t i)
      parts x t g family =
          let count = entries_of n.sides in
          let c = number_at cs in
          let f = λ (j : ℕ). c j *ℚ form_at (M.result ss j) (t i) in
          let whole_rows = λ (j : ℕ). weighted (M.rows ss j) (w j) (a g) (t i) in
          let over_arguments = λ (j : ℕ). weighted (M.rows ss j) (w j) (a g) no_filling in
          let over_unknowns = λ (j : ℕ). weighted (M.rows ss j) (w j) no_entries (t i) in
          ap (λ z. z +ℚ rat_sum_below count whole_rows)
          (sym (entries_are x t g family (λ j. form_at (M.result ss j) (t i)) (told x t g family (calls.Atom m) same)) ∙ ap (λ k. rat_sum_below k f) size)
          ∙ sym (rat_sum_below-+ℚ count f whole_rows)
          ∙ rat_sum_below-same count _ _ (λ j _. ap (λ z. f j +ℚ z) (weighted_parts (M.rows ss j) (w j) (a g) (t i)) ∙ +ℚ_left_comm (f j) (over_arguments j) (over_unknowns j))
          ∙ rat_sum_below-+ℚ count over_arguments (λ j. f j +ℚ over_unknowns j)
          ∙ ap (λ z. z +ℚ left (t i)) (sym ((atom_lawful m).duality.slopes ss n.sides (shaped (calls.Atom m) same) w (a g)))

      -- the bound, where the unknowns of the node are apart
      abbrev Apart : Point → (ℕ → Filling) → (ℕ → Numbers) → Filling → Type 0
      Apart x t g u = v ≤ℚ counted +ℚ reached_times reached (variable_numbers names nodes x) +ℚ (dot t0 (flat nodes g) +ℚ slopes g) +ℚ (rows_below nodes values weights i g t +ℚ left u)

      apart : Before (calls.Atom m) → Everywhere (λ x t g. Apart x t g (t i))
      apart bound x d t filled g family =
          swapped v counted (reached_times reached (variable_numbers names nodes x)) (dot t0 (flat nodes g)) (own_times g) (rows_below nodes values weights i g t)
          (atom_rows M ss (entries_of n.sides) (weights i) (a g) (t i)) (slopes g) (left (t i))
          (bound x d t filled g family) (parts x t g family)
        where
          swapped : (v c r d o l z p q : ℚ) → v ≤ℚ c +ℚ r +ℚ (d +ℚ o) +ℚ (l +ℚ z) → o +ℚ z ≡ p +ℚ q → v ≤ℚ c +ℚ r +ℚ (d +ℚ p) +ℚ (l +ℚ q)
          swapped v c r d o l z p q h e = linear (v ∷ c ∷ r ∷ d ∷ o ∷ l ∷ z ∷ p ∷ q ∷ []) (+ℚ-≤ℚ h (≤ℚ-from_≡ e)) (search reads depth 40 fits 20000) tt

      -- unknowns that are changed at the node
      abbrev FilledBy : Call → List Sides → Filling → Type 0
      FilledBy (calls.Variable q) args u = Unit {0}
      FilledBy (calls.Parameter q) args u = Unit {0}
      FilledBy (calls.Constant q) args u = Unit {0}
      FilledBy (calls.Atom q) args u = KindsHold ((atom_meaning q).kinds args) u
      FilledBy (calls.Linear q) args u = Unit {0}
      FilledBy (calls.Pairing q) args u = Unit {0}

      changed_filled : (t : ℕ → Filling) → AreFilled nodes values t → (u : Filling) → KindsHold (M.kinds ss) u → AreFilled nodes values (changed t i u)
      changed_filled t filled u kinds k o at' none' q is = by (ℕ_discrete k i)
        where
          by : Dec (k ≡ i) → KindsHold ((atom_meaning q).kinds (arg_sides nodes o)) (changed t i u k)
          by (yes e) =
              let here : n ≡ o = same_Some n o (sym at ∙ ap (slice_get nodes) (sym e) ∙ at') in
              let own : FilledBy n.call ss u = subst (λ c. FilledBy c ss u) (sym same) kinds in
              subst (KindsHold ((atom_meaning q).kinds (arg_sides nodes o))) (sym (ap (changed t i u) e ∙ changed_itself t i u))
              (subst (λ c. FilledBy c (arg_sides nodes o) u) is (subst (λ (h : Node). FilledBy h.call (arg_sides nodes h) u) here own))
          by (no d) = subst (KindsHold ((atom_meaning q).kinds (arg_sides nodes o))) (sym (changed_other t i u k d)) (filled k o at' none' q is)

      module _ (make : (x : Point) → D x → (t : ℕ → Filling) → AreFilled nodes values t → (g : ℕ → Numbers) × IsFamily names nodes s values x t g) where
        -- at all unknowns of the node, whatever they are beside
        any_unknowns : Before (calls.Atom m) → Everywhere (λ x t g. (u : Filling) → KindsHold (M.kinds ss) u → Apart x t g u)
        any_unknowns bound x d t filled g family u kinds =
            let t' = changed t i u in
            let filled' = changed_filled t filled u kinds in
            let (h, family') = make x d t' filled' in
            let unknowns : (k : ℕ) → k < i → t' k ≡ t k = λ k l. changed_other t i u k (λ e. absurd (omega (arith, l, e))) in
            let arrays : (k : ℕ) → k < i → h k ≡ g k = first_same names nodes are s values x t' t h g family' family i (omega (arith, b)) unknowns in
            let c = counted +ℚ reached_times reached (variable_numbers names nodes x) in
            subst (λ z. v ≤ℚ c +ℚ (dot t0 (flat nodes g) +ℚ slopes g) +ℚ (z +ℚ left u)) (first_rows nodes are values weights i (omega (arith, b)) h g t' t arrays unknowns)
            (subst (λ z. v ≤ℚ c +ℚ (z +ℚ slopes g) +ℚ (rows_below nodes values weights i h t' +ℚ left u)) (first_dots nodes i (omega (arith, b)) t0 start h g arrays)
            (subst (λ (fs : List Numbers). v ≤ℚ c +ℚ (dot t0 (flat nodes h) +ℚ slopes_times M ss w (arguments fs)) +ℚ (rows_below nodes values weights i h t' +ℚ left u))
            (map-same (λ k. k < i) h g arrays n.args (are.earlier i n at))
            (subst (λ (f : Filling). v ≤ℚ c +ℚ (dot t0 (flat nodes h) +ℚ slopes h) +ℚ (rows_below nodes values weights i h t' +ℚ left f)) (changed_itself t i u)
            (apart bound x d t' filled' h family'))))

        -- at unknowns that are 0 they leave nothing
        no_unknowns : Filling
        no_unknowns = times_filling (whole (pos 0)) no_filling

        nothing_left : left no_unknowns ≡ whole (pos 0)
        unfolding no_unknowns
        nothing_left = balance_times M ss (entries_of n.sides) (number_at cs) w (whole (pos 0)) no_filling ∙ zero-*ℚ (left no_filling)

        zero_kinds : KindsHold (M.kinds ss) no_unknowns
        unfolding no_unknowns
        zero_kinds k e = *ℚ-nonnegative (≤ℚ_refl (whole (pos 0))) (≤ℚ_refl (whole (pos 0)))

        -- the slopes' part alone is bounded
        slopes_bound : Before (calls.Atom m) → Everywhere (λ x t g. v ≤ℚ counted +ℚ reached_times reached (variable_numbers names nodes x) +ℚ (dot t0 (flat nodes g) +ℚ slopes g)
            +ℚ rows_below nodes values weights i g t)
        slopes_bound bound x d t filled g family =
            subst (λ z. v ≤ℚ counted +ℚ reached_times reached (variable_numbers names nodes x) +ℚ (dot t0 (flat nodes g) +ℚ slopes g) +ℚ z)
            (ap (λ z. rows_below nodes values weights i g t +ℚ z) nothing_left ∙ +ℚ_idr _)
            (any_unknowns bound x d t filled g family no_unknowns zero_kinds)

        module _ (origin : Point) (inside : D origin) (weighed : AreWeighed nodes values weights) (bound : Before (calls.Atom m)) where
          -- no condition is broken
          soft : IsSoft (slopes_stop M ss cs (weights i))
          soft =
              let t : ℕ → Filling = λ k. no_filling in
              let filled : AreFilled nodes values t = λ k o at' none' q is h e. ≤ℚ_refl (whole (pos 0)) in
              let (g, family) = make origin inside t filled in
              let c = counted +ℚ reached_times reached (variable_numbers names nodes origin) +ℚ (dot t0 (flat nodes g) +ℚ slopes g) in
              let r = rows_below nodes values weights i g t in
              let lowers = nothing_lowers M ss (entries_of n.sides) (number_at cs) w (v -ℚ (c +ℚ r)) (λ u kinds. moved v c r (left u) (any_unknowns bound origin inside t filled g family u kinds)) in
              soft_entries (length cs) (entry_stop M ss (number_at cs) w) (λ j k.
              let l : j < entries_of n.sides = omega (arith, k, size) in
              soft_entry M ss (number_at cs) w j (λ e h. weighed i n at none m same j e l h) ((atom_lawful m).duality.demanded ss n.sides (shaped (calls.Atom m) same) (number_at cs) w lowers j l))
            where
              moved : (v c r q : ℚ) → v ≤ℚ c +ℚ (r +ℚ q) → v -ℚ (c +ℚ r) ≤ℚ q
              moved v c r q h = linear (v ∷ c ∷ r ∷ q ∷ []) h (search reads depth 30) tt

          -- what the slopes are worth
          slopes_exact : HasFractionSlopes M → slopes_stop M ss cs (weights i) ≡ None → (u : List Frac) → with_shares t0 (slope_shares nodes n.args ss (slope_frac M ss (weights i))) ≡ Ok u →
              (x : Point) (t : ℕ → Filling) (g : ℕ → Numbers) → IsFamily names nodes s values x t g → dot u (flat nodes g) ≡ dot t0 (flat nodes g) +ℚ slopes g
          slopes_exact fractions none u e x t g family =
              let ws = weights i in
              let F = flat nodes g in
              let L = start_of nodes i in
              let slope = λ (k e : ℕ). exact (M.slope ss w k e) in
              let fit = fractions ss n.sides (shaped (calls.Atom m) same) (number_at cs) ws (λ j k. none_stopped (length cs) (entry_stop M ss (number_at cs) w) none j (omega (arith, k, size))) in
              let one : (k : ℕ) → k < length n.args → (e : ℕ) → e < entries_of (sides_at ss k) → IsWorth F L (share_to nodes n.args k e (Ok (slope_frac M ss ws k e))) (slope k e *ℚ a g k e) =
              λ k c e l. worth_of F L (share_to nodes n.args k e (Ok (slope_frac M ss ws k e))) (slope k e *ℚ a g k e) (before k e)
              (ap₂ ◌*ℚ◌ (value-frac_at (slope k e) (fit k e (omega (arith, c, many)) l)) (placed x t g family k e)) in
              joined_dot F L (λ k. list_below (entries_of (sides_at ss k)) (λ e. share_to nodes n.args k e (Ok (slope_frac M ss ws k e))))
              (λ k. rat_sum_below (entries_of (sides_at ss k)) (λ e. slope k e *ℚ a g k e)) (length n.args)
              (λ k c t u count e. below_dot F L (λ e. share_to nodes n.args k e (Ok (slope_frac M ss ws k e))) (λ e. slope k e *ℚ a g k e) (entries_of (sides_at ss k)) (one k c) t u count e) t0 u
              start e
              ∙ ap (λ z. dot t0 F +ℚ rat_sum_below z (λ k. rat_sum_below (entries_of (sides_at ss k)) (λ e. slope k e *ℚ a g k e))) many

          pub atom_fair : HasFractionSlopes M → AreFair (calls.Atom m) (call_shares nodes values i (calls.Atom m) n.args ss cs (weights i))
          atom_fair fractions = by (slopes_stop M ss cs (weights i)) refl soft
            where
              by : (o : Option SlopeStop) → slopes_stop M ss cs (weights i) ≡ o → IsSoft o → AreFair (calls.Atom m) (unless i o (slope_shares nodes n.args ss (slope_frac M ss (weights i))))
              by None is h = λ u e x d t filled g family.
                  subst (λ (rs : List Reached). v ≤ℚ counted +ℚ reached_times rs (variable_numbers names nodes x) +ℚ dot u (flat nodes g) +ℚ rows_below nodes values weights i g t)
                  (sym (append-nil reached))
                  (subst (λ z. v ≤ℚ counted +ℚ reached_times reached (variable_numbers names nodes x) +ℚ z +ℚ rows_below nodes values weights i g t)
                  (sym (slopes_exact fractions is u e x t g family)) (slopes_bound bound x d t filled g family))
              by (Some (slope_stops.Refused entry stated found)) is h = h
              by (Some (slope_stops.Passes passes)) is h = tt
              by (Some slope_stops.Memory) is h = h
