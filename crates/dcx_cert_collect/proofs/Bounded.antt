-- The pass raises no bound: the total, what reaches the variables and what isn't handed on yet, times the values, never rise.
use Rattle.std.proofs.Common.{◌≡◌, ◌⊎◌, ℕ, zero, suc, ◌+◌, ◌<◌, ◌≤◌, arith, Bool, true, false, List, [], ◌∷◌, ◌++◌, map, length, take, drop, get_or, refl, sym}
use Rattle.std.proofs.Common.{ap, ap₂, ◌∙◌, subst, inl, inr, Option, Some, None, IsSome, Result, Ok, Err, IfOk, slice_get, pos}
use Rattle.std.specs.Prelude.{option_map, unwrap_or}
use Rattle.std.proofs.lemmas.List.{length-take-le, take-append-drop, get_or-map}
use Rattle.dcx_math.specs.Rational.{ℚ, whole, ◌+ℚ◌, ◌*ℚ◌, ◌/ℚ◌, ◌≤ℚ◌}
use Rattle.dcx_math.specs.Sums.{rat_sum_below, rat_sum_by}
use Rattle.dcx_math.proofs.Ring.{ring, reads}
use Rattle.dcx_math.proofs.Orders.{≤ℚ_trans, ≤ℚ-from_≡, +ℚ_idr, linear}
use Rattle.dcx_math.proofs.Sums.{rat_sum_below-same, rat_sum_by-++}
use Rattle.dcx_frac.specs.declared.fraction.Frac.{Frac}
use Rattle.dcx_frac.specs.declared.fraction.Passes.{Passes}
use Rattle.dcx_frac.specs.Frac.{value}
use Rattle.dcx_shape.specs.declared.shape.Sides.{Sides}
use Rattle.dcx_shape.specs.Sides.{entries_of}
use Rattle.dcx_atom.proofs.FormedSums.{value-zero_frac}
use Rattle.dcx_atom.specs.declared.array.Array.{Array}
use Rattle.dcx_atom.specs.declared.stops.SlopeStop.{SlopeStop}
use Rattle.dcx_atom.specs.Arrays.{number_at, list_below, sides_at}
use Rattle.dcx_atom.specs.Entrywise.{products_from}
use Rattle.dcx_atom.proofs.Entrywise.{products_from-exact}
use Rattle.dcx_affine.specs.declared.pairing.Pairing.{Pairing}
use Rattle.dcx_affine.specs.declared.pairing.Pairing.TheVariants.{Times, MatTimes, Over}
use Rattle.dcx_affine.specs.declared.pairing.Pair.{Pair}
use Rattle.dcx_affine.specs.Pairing.{pairs_at}
use Rattle.dcx_arena.specs.Nodes.{AreNodes, IsNode, call_at, args_at, entries_in, sides_at as sides_of_node}
use Rattle.dcx_arena.proofs.Unfolds.{node_there}
use Rattle.dcx_arena.proofs.Results.{same_Ok}
use Rattle.dcx_convex.specs.Nodes.{Numbers, Setting, Point, arguments, zeros, value_by}
use Rattle.dcx_convex.specs.Pairs.{products_at, quotients_at, Pair as CallPair}
use Rattle.dcx_convex.proofs.Signs.{first_in}
use Rattle.dcx_call.specs.declared.atoms.AtomCall.{AtomCall}
use Rattle.dcx_call.specs.declared.call.Call.{Call}
use Rattle.dcx_call.specs.declared.call.Call.TheVariants as calls
use Rattle.dcx_call.specs.Atoms.{atom_meaning, atom_lawful}
use Rattle.dcx_call.specs.Linears.{linear_meaning, linear_lawful}
use Rattle.dcx_call.specs.Calls.{shape_of}
use Rattle.dcx_atom.specs.Fractions.{AreFractionSlopes}
use Rattle.dcx_call.proofs.Coefficients.{coefficients_fit}
use Rattle.dcx_tree.specs.Nodes.{Names, Node, pairs_of, head_of, arg_sides}
use Rattle.dcx_tree.specs.Values.{array_at}
use Rattle.dcx_tree.proofs.NodeValues.{sides_are}
use Rattle.dcx_cert_collect.specs.declared.collected.Reached.{Reached}
use Rattle.dcx_cert_collect.specs.declared.stop.CollectStop.{CollectStop}
use Rattle.dcx_cert_collect.specs.Shares.{frac_in, Share, with_shares}
use Rattle.dcx_cert_collect.specs.Starts.{start_of, place_of}
use Rattle.dcx_cert_collect.specs.Calls.{unless, slopes_stop, slope_shares, slope_frac, linear_shares, pairing_shares}
use Rattle.dcx_cert_collect.specs.declared.pairs.Scaling.TheVariants.{ByRight, ByLeft, Divided}
use Rattle.dcx_cert_collect.specs.Pass.{Kept, begin, or_passes, handed, with_below, with_total, counted, reached_by, reached_if, call_shares, pairing_hands}
use Rattle.dcx_cert_collect.specs.Pass.{shares_if, node_reached, node_shares, HaveFractions, passed, step, then_on, pass_down}
use Rattle.dcx_cert_collect.specs.Laws.{table_times, reached_times, HasKnownSide, MayHandOn, AreKnown}
use Rattle.dcx_cert_collect.proofs.Starting.{start_all}
use Rattle.dcx_cert_collect.proofs.Passing.{own_count, start_inside, passed_count}
use Rattle.dcx_cert_collect.proofs.Flat.{frac_value, dot, dot-nil, dot-append, dot-sum, dot-table, flat, flat-place}
use Rattle.dcx_cert_collect.proofs.Bound.{number_of, IsBefore}
use Rattle.dcx_cert_collect.proofs.Points.{at_point, node_value, place_number}
use Rattle.dcx_cert_collect.proofs.ArgSides.{as_many, args_before, args_there, few_sides, two_args}
use Rattle.dcx_cert_collect.proofs.Worth.{linear_worth, products_worth_right, products_worth_left, quotients_worth, slopes_worth}

-- ---- sums
pub sum_listed : {A : Type 0} (g : A → ℚ) (n : ℕ) (h : ℕ → A) → rat_sum_by g (list_below n h) ≡ rat_sum_below n (λ e. g (h e))
sum_listed g zero h = refl
sum_listed g (suc n) h = rat_sum_by-++ g (list_below n h) (h n ∷ []) ∙ ap₂ ◌+ℚ◌ (sum_listed g n h) (+ℚ_idr (g (h n)))

sum_mapped : {A B : Type 0} (g : B → ℚ) (h : A → B) (xs : List A) → rat_sum_by g (map h xs) ≡ rat_sum_by (λ x. g (h x)) xs
sum_mapped g h [] = refl
sum_mapped g h (x ∷ xs) = ap (λ r. g (h x) +ℚ r) (sum_mapped g h xs)

-- products and quotients over pairs
products_are : (p : Pairing) (ss : List Sides) (a : ℕ → Numbers) (j : ℕ) → products_at (pairs_of p ss j) a ≡ rat_sum_by (λ (q : Pair). a 0 q.left *ℚ a 1 q.right)
    (pairs_at p (sides_at ss 0) (sides_at ss 1) j)
products_are p ss a j = sum_mapped (λ (x : CallPair). a 0 x.left *ℚ a 1 x.right) (λ (q : Pair). record { left = q.left; right = q.right }) (pairs_at p (sides_at ss 0) (sides_at ss 1) j)

quotients_are : (ss : List Sides) (a : ℕ → Numbers) (j : ℕ) → quotients_at (pairs_of Over ss j) a ≡ rat_sum_by (λ (q : Pair). a 0 q.left /ℚ a 1 q.right)
    (pairs_at Over (sides_at ss 0) (sides_at ss 1) j)
quotients_are ss a j = sum_mapped (λ (x : CallPair). a 0 x.left /ℚ a 1 x.right) (λ (q : Pair). record { left = q.left; right = q.right }) (pairs_at Over (sides_at ss 0) (sides_at ss 1) j)

-- neither of two is there
neither : (IsSome {T = Array} None ⊎ IsSome {T = Array} None) → ⊥
neither (inl h) = cc
neither (inr h) = cc

moved : (v o r d : ℚ) → v +ℚ o +ℚ r +ℚ d ≡ v +ℚ r +ℚ (d +ℚ o)
moved v o r d = ring (v ∷ o ∷ r ∷ d ∷ []) (search reads depth 30) tt

joined : (v r q u t o : ℚ) → u +ℚ q ≤ℚ t +ℚ o → v +ℚ (r +ℚ q) +ℚ u ≤ℚ v +ℚ r +ℚ (t +ℚ o)
joined v r q u t o h = linear (v ∷ r ∷ q ∷ u ∷ t ∷ o ∷ []) h (search reads depth 30) tt

alone : (v d : ℚ) → v ≡ whole (pos 0) → v +ℚ whole (pos 0) +ℚ d ≡ d
alone v d e = ap (λ z. z +ℚ whole (pos 0) +ℚ d) e ∙ ring (d ∷ []) (search reads depth 30) tt

-- ---- what is handed on
below_of : (t u : List Frac) (shares : List Share) → handed t (Ok shares) ≡ Ok u → with_shares t shares ≡ Ok u
below_of t u shares e = by (with_shares t shares) e
  where
    by : (r : Result (List Frac) Passes) → or_passes r ≡ Ok u → r ≡ Ok u
    by (Ok x) h = ap Ok (same_Ok {E = CollectStop} x u h)
    by (Err p) h = cc

-- no weight was refused
not_stopped : (t u : List Frac) (i : ℕ) (o : Option SlopeStop) (shares : List Share) → handed t (unless i o shares) ≡ Ok u → (o ≡ None) × (with_shares t shares ≡ Ok u)
not_stopped t u i None shares e = (refl, below_of t u shares e)
not_stopped t u i (Some stop) shares e = cc

-- the shares of a node by its call and its arguments
abbrev shares_at : List Node → List (Option Array) → ℕ → Option Call → List ℕ → (cs ws : List Frac) → Result (List Share) CollectStop
shares_at nodes values i None args cs ws = Ok []
shares_at nodes values i (Some call) args cs ws = call_shares nodes values i call args (map (sides_of_node nodes) args) cs ws

same_shares : (nodes : List Node) (values : List (Option Array)) (i : ℕ) (o : Option Call) (cs ws : List Frac) → shares_if nodes values i o cs ws ≡ shares_at nodes values i o (args_at nodes i) cs ws
same_shares nodes values i None cs ws = refl
same_shares nodes values i (Some call) cs ws = refl

pub shares_told : (nodes : List Node) (values : List (Option Array)) (i : ℕ) (n : Node) (cs ws : List Frac) → IsNode nodes i n → node_shares nodes values i cs ws
    ≡ call_shares nodes values i n.call n.args (arg_sides nodes n) cs ws
shares_told nodes values i n cs ws at =
    same_shares nodes values i (call_at nodes i) cs ws
    ∙ ap (λ (o : Option Node). shares_at nodes values i (option_map (λ (m : Node). m.call) o) (unwrap_or (option_map (λ (m : Node). m.args) o) []) cs ws) at

pub reached_told : (nodes : List Node) (i : ℕ) (n : Node) (cs : List Frac) → IsNode nodes i n → node_reached nodes i cs ≡ reached_by i n.call cs
reached_told nodes i n cs at = ap (λ (o : Option Node). reached_if i (option_map (λ (m : Node). m.call) o) cs) at

-- ---- one node
level : (u t v w : ℚ) → u ≡ t +ℚ w → w ≡ v → u +ℚ whole (pos 0) ≤ℚ t +ℚ v
level u t v w e h = ≤ℚ-from_≡ (+ℚ_idr u ∙ e ∙ ap (λ z. t +ℚ z) h)

level_below : (u t v w : ℚ) → u ≤ℚ t +ℚ w → w ≡ v → u +ℚ whole (pos 0) ≤ℚ t +ℚ v
level_below u t v w e h = ≤ℚ_trans (≤ℚ-from_≡ (+ℚ_idr u)) (≤ℚ_trans e (≤ℚ-from_≡ (ap (λ z. t +ℚ z) h)))

module _ (names : Names) (nodes : List Node) (are : AreNodes shape_of nodes) (s : Setting) (values : List (Option Array)) (known : AreKnown names nodes s values) (y : Point) where
  -- the values at the point, and where they stand
  abbrev f : ℕ → Numbers
  f = at_point names nodes are s y

  abbrev F : Numbers
  F = flat nodes f

  -- coefficients of node i times its value
  abbrev own_times : ℕ → List Frac → ℚ
  own_times i cs = rat_sum_below (length cs) (λ j. number_at cs j *ℚ f i j)

  -- the value of a call at its arguments
  entries_are : (size : ℕ) (cs : List Frac) (i : ℕ) (v : Numbers) → length cs ≡ size → ((j : ℕ) → j < size → f i j ≡ v j) → rat_sum_below (length cs) (λ j. number_at cs j *ℚ v j) ≡ own_times i cs
  entries_are size cs i v count is = rat_sum_below-same (length cs) _ _ (λ j b. ap (λ z. number_at cs j *ℚ z) (sym (is j (omega (arith, b, count)))))

  -- a known value is that of its node
  side_is : (args : List ℕ) (k : ℕ) (x : Array) → k < length args → array_at values (get_or args k 0) ≡ Some x → (e : ℕ) → number_at x.entries e ≡ arguments (map f args) k e
  side_is args k x b at e = known.known (get_or args k 0) x at y e ∙ ap (λ (v : Numbers). v e) (sym (get_or-map f args k 0 zeros b))

  module _ (i : ℕ) (b : i < length nodes) (n : Node) (at : IsNode nodes i n) (cs ws t u : List Frac) (size : length cs ≡ entries_of n.sides) (start : length t ≡ start_of nodes i) where
    abbrev ss : List Sides
    ss = arg_sides nodes n

    abbrev a : ℕ → Numbers
    a = arguments (map f n.args)

    before : (k e : ℕ) → IsBefore (start_of nodes i) (place_of nodes (slice_get n.args k) e)
    before = args_before nodes are i b n at

    placed : (k e : ℕ) → number_of F (place_of nodes (slice_get n.args k) e) ≡ a k e
    placed = place_number names nodes are s y n.args (args_there nodes are i b n at)

    many : length n.args ≡ length ss
    many = as_many nodes n

    shaped : shape_of n.call ss ≡ Some n.sides
    shaped = are.shaped i n at

    value_is : (call : Call) → n.call ≡ call → (j : ℕ) → f i j ≡ value_by s y (head_of names call ss n.sides) (map f n.args) j
    value_is call same j = ap (λ (v : Numbers). v j) (node_value names nodes are s y i n at ∙ ap (λ c. value_by s y (head_of names c ss n.sides) (map f n.args)) same)

    -- a product, by the side that is known
    product_bound : (p : Pairing) (right : Bool) → ((j : ℕ) → j < entries_of n.sides → f i j ≡ rat_sum_by (λ (q : Pair). a 0 q.left *ℚ a 1 q.right) (pairs_at p (sides_at ss 0) (sides_at ss 1) j)) →
        dot u F ≡ dot t F +ℚ rat_sum_below (length cs) (λ j. number_at cs j *ℚ rat_sum_by (λ (q : Pair). a 0 q.left *ℚ a 1 q.right) (pairs_at p (sides_at ss 0) (sides_at ss 1) j)) →
        dot u F +ℚ whole (pos 0) ≤ℚ dot t F +ℚ own_times i cs
    product_bound p right is e = level _ _ _ _ e (entries_are (entries_of n.sides) cs i (λ j. rat_sum_by (λ (q : Pair). a 0 q.left *ℚ a 1 q.right)
        (pairs_at p (sides_at ss 0) (sides_at ss 1) j)) size is)

    quotient_bound : ((j : ℕ) → j < entries_of n.sides → f i j ≡ rat_sum_by (λ (q : Pair). a 0 q.left /ℚ a 1 q.right) (pairs_at Over (sides_at ss 0) (sides_at ss 1) j)) →
        dot u F ≡ dot t F +ℚ rat_sum_below (length cs) (λ j. number_at cs j *ℚ rat_sum_by (λ (q : Pair). a 0 q.left /ℚ a 1 q.right) (pairs_at Over (sides_at ss 0) (sides_at ss 1) j)) →
        dot u F +ℚ whole (pos 0) ≤ℚ dot t F +ℚ own_times i cs
    quotient_bound is e = level _ _ _ _ e (entries_are (entries_of n.sides) cs i (λ j. rat_sum_by (λ (q : Pair). a 0 q.left /ℚ a 1 q.right) (pairs_at Over (sides_at ss 0) (sides_at ss 1) j)) size is)

    -- both arguments are there
    two : (p : Pairing) → n.call ≡ calls.Pairing p → length n.args ≡ 2
    two = two_args nodes are i b n at

    times_bound : (o r : Option Array) → array_at values (get_or n.args 0 0) ≡ o → array_at values (get_or n.args 1 0) ≡ r → n.call ≡ calls.Pairing Times → HasKnownSide Times o r →
        handed t (Ok (pairing_hands nodes n.args Times ss o r cs)) ≡ Ok u → dot u F +ℚ whole (pos 0) ≤ℚ dot t F +ℚ own_times i cs
    times_bound (Some x) r left right same h e =
        product_bound Times false
        (λ j c. value_is (calls.Pairing Times) same j ∙ first_in (entries_of n.sides) (λ k. products_at (pairs_of Times ss k) a) j c ∙ products_are Times ss a j)
        (products_worth_left nodes n.args F (start_of nodes i) a before placed x.entries cs (pairs_at Times (sides_at ss 0) (sides_at ss 1))
        (side_is n.args 0 x (omega (arith, two Times same)) left) t u start (below_of t u (pairing_shares nodes n.args ByLeft x.entries cs (pairs_at Times (sides_at ss 0) (sides_at ss 1))) e))
    times_bound None (Some x) left right same h e =
        product_bound Times true
        (λ j c. value_is (calls.Pairing Times) same j ∙ first_in (entries_of n.sides) (λ k. products_at (pairs_of Times ss k) a) j c ∙ products_are Times ss a j)
        (products_worth_right nodes n.args F (start_of nodes i) a before placed x.entries cs (pairs_at Times (sides_at ss 0) (sides_at ss 1))
        (side_is n.args 1 x (omega (arith, two Times same)) right) t u start (below_of t u (pairing_shares nodes n.args ByRight x.entries cs (pairs_at Times (sides_at ss 0) (sides_at ss 1))) e))
    times_bound None None left right same h e = absurd (neither h)

    mat_times_bound : (o r : Option Array) → array_at values (get_or n.args 0 0) ≡ o → array_at values (get_or n.args 1 0) ≡ r → n.call ≡ calls.Pairing MatTimes → HasKnownSide MatTimes o r →
        handed t (Ok (pairing_hands nodes n.args MatTimes ss o r cs)) ≡ Ok u → dot u F +ℚ whole (pos 0) ≤ℚ dot t F +ℚ own_times i cs
    mat_times_bound (Some x) r left right same h e =
        product_bound MatTimes false
        (λ j c. value_is (calls.Pairing MatTimes) same j ∙ first_in (entries_of n.sides) (λ k. products_at (pairs_of MatTimes ss k) a) j c ∙ products_are MatTimes ss a j)
        (products_worth_left nodes n.args F (start_of nodes i) a before placed x.entries cs (pairs_at MatTimes (sides_at ss 0) (sides_at ss 1))
        (side_is n.args 0 x (omega (arith, two MatTimes same)) left) t u start
        (below_of t u (pairing_shares nodes n.args ByLeft x.entries cs (pairs_at MatTimes (sides_at ss 0) (sides_at ss 1))) e))
    mat_times_bound None (Some x) left right same h e =
        product_bound MatTimes true
        (λ j c. value_is (calls.Pairing MatTimes) same j ∙ first_in (entries_of n.sides) (λ k. products_at (pairs_of MatTimes ss k) a) j c ∙ products_are MatTimes ss a j)
        (products_worth_right nodes n.args F (start_of nodes i) a before placed x.entries cs (pairs_at MatTimes (sides_at ss 0) (sides_at ss 1))
        (side_is n.args 1 x (omega (arith, two MatTimes same)) right) t u start
        (below_of t u (pairing_shares nodes n.args ByRight x.entries cs (pairs_at MatTimes (sides_at ss 0) (sides_at ss 1))) e))
    mat_times_bound None None left right same h e = absurd (neither h)

    over_bound : (o r : Option Array) → array_at values (get_or n.args 1 0) ≡ r → n.call ≡ calls.Pairing Over → HasKnownSide Over o r →
        handed t (Ok (pairing_hands nodes n.args Over ss o r cs)) ≡ Ok u → dot u F +ℚ whole (pos 0) ≤ℚ dot t F +ℚ own_times i cs
    over_bound o (Some x) right same h e =
        quotient_bound
        (λ j c. value_is (calls.Pairing Over) same j ∙ first_in (entries_of n.sides) (λ k. quotients_at (pairs_of Over ss k) a) j c ∙ quotients_are ss a j)
        (quotients_worth nodes n.args F (start_of nodes i) a before placed x.entries cs (pairs_at Over (sides_at ss 0) (sides_at ss 1))
        (side_is n.args 1 x (omega (arith, two Over same)) right) t u start (below_of t u (pairing_shares nodes n.args Divided x.entries cs (pairs_at Over (sides_at ss 0) (sides_at ss 1))) e))
    over_bound o None right same h e = cc

    -- what a node hands on or keeps is worth at most what its coefficients are
    pub call_bound : (call : Call) → n.call ≡ call → MayHandOn values call n.args → ((m : AtomCall) → call ≡ calls.Atom m → AreFractionSlopes (atom_meaning m) ss ws)
        → handed t (call_shares nodes values i call n.args ss cs ws) ≡ Ok u →
        dot u F +ℚ reached_times (reached_by i call cs) f ≤ℚ dot t F +ℚ own_times i cs
    call_bound (calls.Variable v) same may fit e = ≤ℚ-from_≡ (ap₂ ◌+ℚ◌ (ap (λ xs. dot xs F) (sym (same_Ok {E = CollectStop} t u e))) (+ℚ_idr (own_times i cs)))
    call_bound (calls.Parameter q) same may fit e = absurd may
    call_bound (calls.Constant x) same may fit e = absurd may
    call_bound (calls.Linear l) same may fit e =
        let m = linear_meaning l in
        let shape : m.shape ss ≡ Some n.sides = subst (λ c. shape_of c ss ≡ Some n.sides) same shaped in
        level _ _ _ _
        (linear_worth nodes n.args F (start_of nodes i) a before placed m ss cs (λ j c. coefficients_fit l ss n.sides j shape (omega (arith, c, size)) (few_sides nodes are i b n at))
        (λ j c. (linear_lawful l).linearity ss n.sides shape j (omega (arith, c, size)) a) t u start (below_of t u (linear_shares nodes n.args cs (m.terms ss)) e))
        (entries_are (entries_of n.sides) cs i (m.value ss a) size (λ j c. value_is (calls.Linear l) same j ∙ first_in (entries_of n.sides) (m.value ss a) j c))
    call_bound (calls.Atom g) same may fit e =
        let m = atom_meaning g in
        let shape : m.shape ss ≡ Some n.sides = subst (λ c. shape_of c ss ≡ Some n.sides) same shaped in
        let both = not_stopped t u i (slopes_stop m ss cs ws) (slope_shares nodes n.args ss (slope_frac m ss ws)) e in
        level_below _ _ _ _
        (slopes_worth nodes n.args F (start_of nodes i) a before placed m (atom_lawful g).subgradient ss n.sides shape many cs ws size (fit g refl) both.0 t u start both.1)
        (entries_are (entries_of n.sides) cs i (m.value ss a) size (λ j c. value_is (calls.Atom g) same j ∙ first_in (entries_of n.sides) (m.value ss a) j c))
    call_bound (calls.Pairing Times) same may fit e = times_bound (array_at values (get_or n.args 0 0)) (array_at values (get_or n.args 1 0)) refl refl same may e
    call_bound (calls.Pairing MatTimes) same may fit e = mat_times_bound (array_at values (get_or n.args 0 0)) (array_at values (get_or n.args 1 0)) refl refl same may e
    call_bound (calls.Pairing Over) same may fit e = over_bound (array_at values (get_or n.args 0 0)) (array_at values (get_or n.args 1 0)) refl same may e

  -- ---- what is kept, times the values
  abbrev worth : Kept → ℚ
  worth k = value k.total +ℚ reached_times k.reached f +ℚ dot k.below F

  abbrev pub HasOwnFractions : (weights : ℕ → List Frac) → Type 0
  HasOwnFractions weights = HaveFractions nodes values weights

  own_dot : (i : ℕ) → i < length nodes → (t cs : List Frac) → length t ≡ start_of nodes i → length cs ≡ entries_of (sides_of_node nodes i) → dot cs (λ p. F (length t + p)) ≡ own_times i cs
  own_dot i b t cs start size =
      dot-sum cs (λ p. F (length t + p))
      ∙ rat_sum_below-same (length cs) _ _ (λ j c. ap (λ z. number_at cs j *ℚ z) (ap (λ k. F (k + j)) start ∙ flat-place nodes f i j b (omega (arith, c, size))))

  -- where its value is known, it counts
  counted_bound : (i : ℕ) (x : Array) (cs t : List Frac) (kept after : Kept) → array_at values i ≡ Some x → kept.below ≡ t
      → with_total kept (or_passes (products_from kept.total (counted cs x.entries))) ≡ Ok after →
      worth after ≡ value kept.total +ℚ reached_times kept.reached f +ℚ (dot t F +ℚ own_times i cs)
  counted_bound i x cs t kept after at is e = by (products_from kept.total (counted cs x.entries)) (products_from-exact kept.total (counted cs x.entries)) e
    where
      sums : rat_sum_by (λ (g : Frac × Frac). value g.0 *ℚ value g.1) (counted cs x.entries) ≡ own_times i cs
      sums =
          sum_listed (λ (g : Frac × Frac). value g.0 *ℚ value g.1) (length cs) (λ e. (frac_in cs e, frac_in x.entries e))
          ∙ rat_sum_below-same (length cs) _ _ (λ j c. ap₂ ◌*ℚ◌ (frac_value cs j) (frac_value x.entries j ∙ known.known i x at y j))

      by : (r : Result Frac Passes) → IfOk r (λ z. value z ≡ value kept.total +ℚ rat_sum_by (λ (g : Frac × Frac). value g.0 *ℚ value g.1) (counted cs x.entries))
          → with_total kept (or_passes r) ≡ Ok after →
          worth after ≡ value kept.total +ℚ reached_times kept.reached f +ℚ (dot t F +ℚ own_times i cs)
      by (Ok z) exact h =
          ap worth (sym (same_Ok {E = CollectStop} (record { below = kept.below; reached = kept.reached; total = z }) after h))
          ∙ ap (λ q. q +ℚ reached_times kept.reached f +ℚ dot kept.below F) (exact ∙ ap (λ q. value kept.total +ℚ q) sums)
          ∙ moved (value kept.total) (own_times i cs) (reached_times kept.reached f) (dot kept.below F)
          ∙ ap (λ (xs : List Frac). value kept.total +ℚ reached_times kept.reached f +ℚ (dot xs F +ℚ own_times i cs)) is
      by (Err p) exact h = cc

  -- and else it hands on
  handed_bound : (i : ℕ) → i < length nodes → (n : Node) → IsNode nodes i n → array_at values i ≡ None → (cs ws : List Frac) (kept after : Kept) → length cs ≡ entries_of n.sides
      → length kept.below ≡ start_of nodes i →
      ((m : AtomCall) → n.call ≡ calls.Atom m → AreFractionSlopes (atom_meaning m) (arg_sides nodes n) ws) →
      with_below kept (node_reached nodes i cs) (handed kept.below (node_shares nodes values i cs ws)) ≡ Ok after →
      worth after ≤ℚ value kept.total +ℚ reached_times kept.reached f +ℚ (dot kept.below F +ℚ own_times i cs)
  handed_bound i b n at none cs ws kept after size start fit e =
      by (handed kept.below (node_shares nodes values i cs ws)) (sym (ap (handed kept.below) (shares_told nodes values i n cs ws at))) e
    where
      by : (r : Result (List Frac) CollectStop) → handed kept.below (call_shares nodes values i n.call n.args (arg_sides nodes n) cs ws) ≡ r → with_below kept (node_reached nodes i cs) r ≡ Ok after →
          worth after ≤ℚ value kept.total +ℚ reached_times kept.reached f +ℚ (dot kept.below F +ℚ own_times i cs)
      by (Ok u) is h =
          ≤ℚ_trans
          (≤ℚ-from_≡ (ap worth (sym (same_Ok {E = CollectStop} (record { below = u; reached = kept.reached ++ node_reached nodes i cs; total = kept.total }) after h))
          ∙ ap (λ q. value kept.total +ℚ q +ℚ dot u F) (rat_sum_by-++ _ kept.reached (node_reached nodes i cs)
          ∙ ap (λ (rs : List Reached). reached_times kept.reached f +ℚ reached_times rs f) (reached_told nodes i n cs at))))
          (joined (value kept.total) (reached_times kept.reached f) (reached_times (reached_by i n.call cs) f) (dot u F) (dot kept.below F) (own_times i cs)
          (call_bound i b n at cs ws kept.below u size start n.call refl (known.others i n at none) fit is))
      by (Err stop) is h = cc

  -- what is told of a node
  own_fractions : (weights : ℕ → List Frac) → HasOwnFractions weights → (i : ℕ) → i < length nodes → array_at values i ≡ None → (n : Node) → IsNode nodes i n → (m : AtomCall) → n.call ≡ calls.Atom m →
      AreFractionSlopes (atom_meaning m) (arg_sides nodes n) (weights i)
  own_fractions weights fractions i b none n at m same =
      subst (λ xs. AreFractionSlopes (atom_meaning m) (map (sides_of_node nodes) xs) (weights i)) (ap (λ (o : Option Node). unwrap_or (option_map (λ (k : Node). k.args) o) []) at)
      (fractions i b none m (ap (option_map (λ (k : Node). k.call)) at ∙ ap Some same))

  passed_bound : (weights : ℕ → List Frac) → HasOwnFractions weights → (i : ℕ) → i < length nodes → (o : Option Array) → array_at values i ≡ o
      → (cs : List Frac) (kept after : Kept) → length cs ≡ entries_of (sides_of_node nodes i) →
      length kept.below ≡ start_of nodes i → passed nodes values weights i o cs kept ≡ Ok after → worth after ≤ℚ value kept.total +ℚ reached_times kept.reached f +ℚ
      (dot kept.below F +ℚ own_times i cs)
  passed_bound weights fractions i b (Some x) at cs kept after size start e = ≤ℚ-from_≡ (counted_bound i x cs kept.below kept after at refl e)
  passed_bound weights fractions i b None none cs kept after size start e =
      let (n, at) = node_there nodes i b in
      handed_bound i b n at none cs (weights i) kept after (size ∙ ap entries_of (sides_are nodes i n at)) start (own_fractions weights fractions i b none n at) e

  -- the coefficients of the nodes before node i, and those of its own
  pub parts : (i : ℕ) → i < length nodes → (below : List Frac) → length below ≡ start_of nodes (i + 1) →
      (length (take (start_of nodes i) below) ≡ start_of nodes i) × (length (drop (start_of nodes i) below) ≡ entries_of (sides_of_node nodes i))
  parts i b below count = (
    length-take-le (start_of nodes i) below (start_inside nodes below i (start_of nodes i) b refl count),
    own_count nodes below
        (drop (start_of nodes i) below) i (start_of nodes i) b refl count refl,
  )

  step_bound : (weights : ℕ → List Frac) → HasOwnFractions weights → (i : ℕ) → i < length nodes → (kept after : Kept) → length kept.below ≡ start_of nodes (i + 1)
      → step nodes values weights i kept ≡ Ok after → worth after ≤ℚ worth kept
  step_bound weights fractions i b kept after count e =
      let t = take (start_of nodes i) kept.below in
      let cs = drop (start_of nodes i) kept.below in
      let both = parts i b kept.below count in
      ≤ℚ_trans
      (passed_bound weights fractions i b (array_at values i) refl cs (record { below = t; reached = kept.reached; total = kept.total }) after both.1 both.0 e)
      (≤ℚ-from_≡ (ap (λ z. value kept.total +ℚ reached_times kept.reached f +ℚ z)
      (ap (λ z. dot t F +ℚ z) (sym (own_dot i b t cs both.0 both.1)) ∙ sym (dot-append t cs F) ∙ ap (λ xs. dot xs F) (take-append-drop (start_of nodes i) kept.below))))

  pub step_count : (weights : ℕ → List Frac) (i : ℕ) → i < length nodes → (kept after : Kept) → length kept.below ≡ start_of nodes (i + 1) → step nodes values weights i kept
      ≡ Ok after → length after.below ≡ start_of nodes i
  step_count weights i b kept after count e =
      passed_count nodes values weights i (array_at values i) (drop (start_of nodes i) kept.below)
      (record { below = take (start_of nodes i) kept.below; reached = kept.reached; total = kept.total }) after e
      ∙ (parts i b kept.below count).0

  pass_bound : (weights : ℕ → List Frac) → HasOwnFractions weights → (m : ℕ) → m ≤ length nodes → (kept after : Kept) → length kept.below ≡ start_of nodes m
      → pass_down nodes values weights m kept ≡ Ok after → worth after ≤ℚ worth kept
  pass_bound weights fractions zero b kept after count e = ≤ℚ-from_≡ (ap worth (sym (same_Ok {E = CollectStop} kept after e)))
  pass_bound weights fractions (suc m) b kept after count e =
      by (step nodes values weights m kept) refl (λ mid k h. pass_bound weights fractions m (omega (arith, b)) mid after k h) e
    where
      more : suc m ≡ m + 1
      more = omega arith

      counted_more : length kept.below ≡ start_of nodes (m + 1)
      counted_more = count ∙ ap (start_of nodes) more

      by : (r : Result Kept CollectStop) → step nodes values weights m kept ≡ r → ((mid : Kept) → length mid.below ≡ start_of nodes m → pass_down nodes values weights m mid
          ≡ Ok after → worth after ≤ℚ worth mid) →
          then_on nodes values weights r (pass_down nodes values weights m) ≡ Ok after → worth after ≤ℚ worth kept
      by (Ok mid) is rest h = ≤ℚ_trans (rest mid (step_count weights m (omega (arith, b)) kept mid counted_more is) h) (step_bound weights fractions m (omega (arith, b)) kept mid counted_more is)
      by (Err stop) is rest h = cc

  -- at the start nothing is counted or kept
  begin_worth : (table : List Frac) → length table ≡ entries_in nodes → worth (begin table) ≡ table_times nodes table f
  begin_worth table count =
      alone (value (begin table).total) (dot table F) value-zero_frac
      ∙ dot-table nodes f table count

  pub total_bounds : (weights : ℕ → List Frac) → HasOwnFractions weights → (table : List Frac) → length table ≡ entries_in nodes → (reached : List Reached) (total : Frac) →
      pass_down nodes values weights (length nodes) (begin table) ≡ Ok (record { below = []; reached = reached; total = total }) → value total +ℚ reached_times reached f ≤ℚ table_times nodes table f
  total_bounds weights fractions table count reached total e =
      ≤ℚ_trans (≤ℚ-from_≡ (sym (ap (λ z. value total +ℚ reached_times reached f +ℚ z) (dot-nil F) ∙ +ℚ_idr _)))
      (≤ℚ_trans (pass_bound weights fractions (length nodes) (omega arith) (begin table) (record { below = []; reached = reached; total = total })
      (count ∙ sym (start_all nodes)) e) (≤ℚ-from_≡ (begin_worth table count)))
