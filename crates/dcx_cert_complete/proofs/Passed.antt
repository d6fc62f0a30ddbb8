-- The pass keeps a bound of the coefficients and the weighted rows, and breaks no condition: it ends, or stops at an operation that passes.
use Rattle.std.proofs.Common.{◌≡◌, ℕ, zero, suc, ◌+◌, ◌<◌, ◌≤◌, arith, List, [], ◌∷◌, ◌++◌, length, get_or, take, drop, refl, sym}
use Rattle.std.proofs.Common.{ap, ap₂, ◌∙◌, subst, Option, Some, None, Result, Ok, Err, IfOk, slice_get, pos}
use Rattle.std.proofs.lemmas.List.{length-take-le, take-append-drop, nil_from_length}
use Rattle.dcx_math.specs.Rational.{ℚ, whole, ◌+ℚ◌, ◌*ℚ◌, ◌≤ℚ◌}
use Rattle.dcx_math.specs.Sums.{rat_sum_below, rat_sum_by}
use Rattle.dcx_math.proofs.Ring.{reads}
use Rattle.dcx_math.proofs.Orders.{≤ℚ_refl, ≤ℚ-from_≡, +ℚ-≤ℚ, linear}
use Rattle.dcx_math.proofs.Sums.{rat_sum_below-same}
use Rattle.dcx_frac.specs.declared.fraction.Frac.{Frac}
use Rattle.dcx_frac.specs.declared.fraction.Passes.{Passes}
use Rattle.dcx_frac.specs.Frac.{value}
use Rattle.dcx_shape.specs.Sides.{entries_of}
use Rattle.dcx_atom.specs.declared.array.Array.{Array}
use Rattle.dcx_atom.specs.Arrays.{number_at}
use Rattle.dcx_atom.specs.Entrywise.{products_from}
use Rattle.dcx_atom.specs.Rows.{Filling}
use Rattle.dcx_atom.specs.Duality.{no_filling}
use Rattle.dcx_atom.proofs.Entrywise.{products_from-exact}
use Rattle.dcx_atom.proofs.FormedSums.{value-zero_frac}
use Rattle.dcx_affine.specs.declared.pairing.Pairing.TheVariants.{Times, MatTimes, Over}
use Rattle.dcx_arena.specs.Nodes.{AreNodes, IsNode, entries_in}
use Rattle.dcx_arena.proofs.Unfolds.{node_there}
use Rattle.dcx_arena.specs.Nodes.{sides_at as sides_of_node}
use Rattle.dcx_convex.specs.Nodes.{Numbers, Setting, Point}
use Rattle.dcx_call.specs.declared.atoms.AtomCall.{AtomCall}
use Rattle.dcx_call.specs.declared.call.Call.{Call}
use Rattle.dcx_call.specs.declared.call.Call.TheVariants as calls
use Rattle.dcx_call.specs.Atoms.{atom_meaning}
use Rattle.dcx_call.specs.Calls.{shape_of}
use Rattle.dcx_tree.specs.Nodes.{Names, Node, arg_sides}
use Rattle.dcx_tree.specs.Values.{array_at}
use Rattle.dcx_tree.proofs.NodeValues.{sides_are}
use Rattle.dcx_cert_collect.specs.declared.collected.Reached.{Reached}
use Rattle.dcx_cert_collect.specs.declared.stop.CollectStop.{CollectStop}
use Rattle.dcx_cert_collect.specs.Shares.{frac_in, Share, with_shares}
use Rattle.dcx_cert_collect.specs.Starts.{start_of}
use Rattle.dcx_cert_collect.specs.Pass.{Kept, begin, or_passes, handed, with_below, with_total, counted, reached_by, call_shares, node_reached, node_shares, passed, step, then_on, pass_down}
use Rattle.dcx_cert_collect.specs.Laws.{table_times, reached_times, MayHandOn, AreKnown}
use Rattle.dcx_cert_collect.proofs.Starting.{start_all}
use Rattle.dcx_cert_collect.proofs.Passing.{own_count, start_inside, shares_count}
use Rattle.dcx_cert_collect.proofs.Bounded.{sum_listed, shares_told, reached_told}
use Rattle.dcx_cert_collect.proofs.Flat.{frac_value, dot, dot-nil, dot-append, dot-sum, dot-table, flat, flat-place}
use Rattle.dcx_atom.specs.Fractions.{HasFractionSlopes}
use Rattle.dcx_cert_complete.specs.Families.{IsFamily, AreFilled, AreWeighed, rows_if, rows_below, variable_numbers}
use Rattle.dcx_cert_complete.proofs.Handed.{IsPassing, Everywhere, Before, AreFair, hands_all, linear_exact, times_exact, mat_times_exact, over_exact, variable_exact, atom_fair}

-- ---- arithmetic of a bound
known_moved : (v t r d o l : ℚ) → v ≤ℚ t +ℚ r +ℚ (d +ℚ o) +ℚ (l +ℚ whole (pos 0)) → v ≤ℚ (t +ℚ o) +ℚ r +ℚ d +ℚ l
known_moved v t r d o l h = linear (v ∷ t ∷ r ∷ d ∷ o ∷ l ∷ []) h (search reads depth 30) tt

at_start : (v t d l : ℚ) → t ≡ whole (pos 0) → v ≤ℚ d +ℚ l → v ≤ℚ t +ℚ whole (pos 0) +ℚ d +ℚ l
at_start v t d l e h = linear (v ∷ t ∷ d ∷ l ∷ []) (+ℚ-≤ℚ h (≤ℚ-from_≡ (sym e))) (search reads depth 30) tt

at_end : (v t r d : ℚ) → d ≡ whole (pos 0) → v ≤ℚ t +ℚ r +ℚ d +ℚ whole (pos 0) → v ≤ℚ t +ℚ r
at_end v t r d e h = linear (v ∷ t ∷ r ∷ d ∷ []) (+ℚ-≤ℚ h (≤ℚ-from_≡ e)) (search reads depth 30) tt

module _ (names : Names) (nodes : List Node) (are : AreNodes shape_of nodes) (s : Setting) (values : List (Option Array)) (known : AreKnown names nodes s values) (weights : ℕ → List Frac)
    (D : Point → Type 0) (v : ℚ) (make : (x : Point) → D x → (t : ℕ → Filling) → AreFilled nodes values t → (g : ℕ → Numbers) × IsFamily names nodes s values x t g)
    (origin : Point) (inside : D origin) (weighed : AreWeighed nodes values weights) (fractions : (m : AtomCall) → HasFractionSlopes (atom_meaning m)) where
  abbrev All : (Point → (ℕ → Filling) → (ℕ → Numbers) → Type 0) → Type 0
  All P = Everywhere names nodes are s values known weights D v P

  -- the bound where the first m nodes are left
  abbrev pub Holds : Kept → ℕ → Type 0
  Holds k m = All (λ x t g. v ≤ℚ value k.total +ℚ reached_times k.reached (variable_numbers names nodes x) +ℚ dot k.below (flat nodes g) +ℚ rows_below nodes values weights m g t)

  pub record IsLeft (k : Kept) (m : ℕ) : Type 0 where
    pub bound : Holds k m
    pub count : length k.below ≡ start_of nodes m

  abbrev pub Fair : ℕ → Result Kept CollectStop → Type 0
  Fair m (Ok k) = IsLeft k m
  Fair m (Err stop) = IsPassing stop

  module _ (i : ℕ) (b : i < length nodes) where
    -- ---- where the value is known
    known_fair : (y : Array) → array_at values i ≡ Some y → (cs : List Frac) (kept : Kept) → length cs ≡ entries_of (sides_of_node nodes i) → length kept.below ≡ start_of nodes i →
        All (λ x t g. v ≤ℚ value kept.total +ℚ reached_times kept.reached (variable_numbers names nodes x)
        +ℚ (dot kept.below (flat nodes g) +ℚ rat_sum_below (length cs) (λ j. number_at cs j *ℚ g i j))
        +ℚ (rows_below nodes values weights i g t +ℚ whole (pos 0))) → Fair i (with_total kept (or_passes (products_from kept.total (counted cs y.entries))))
    known_fair y is cs kept size start bound = by (products_from kept.total (counted cs y.entries)) (products_from-exact kept.total (counted cs y.entries))
      where
        sums : (x : Point) (t : ℕ → Filling) (g : ℕ → Numbers) → IsFamily names nodes s values x t g
            → rat_sum_by (λ (q : Frac × Frac). value q.0 *ℚ value q.1) (counted cs y.entries) ≡ rat_sum_below (length cs) (λ j. number_at cs j *ℚ g i j)
        sums x t g family =
            sum_listed (λ (q : Frac × Frac). value q.0 *ℚ value q.1) (length cs) (λ e. (frac_in cs e, frac_in y.entries e))
            ∙ rat_sum_below-same (length cs) _ _ (λ j c. ap₂ ◌*ℚ◌ (frac_value cs j) (frac_value y.entries j ∙ known.known i y is x j ∙ sym (family.known i b y is j)))

        by : (r : Result Frac Passes) → IfOk r (λ z. value z ≡ value kept.total +ℚ rat_sum_by (λ (q : Frac × Frac). value q.0 *ℚ value q.1) (counted cs y.entries))
            → Fair i (with_total kept (or_passes r))
        by (Ok z) exact = record {
          bound = λ x d t filled g family.
              subst (λ q. v ≤ℚ q +ℚ reached_times kept.reached (variable_numbers names nodes x) +ℚ dot kept.below (flat nodes g) +ℚ rows_below nodes values weights i g t)
              (sym (exact ∙ ap (λ q. value kept.total +ℚ q) (sums x t g family)))
              (known_moved v (value kept.total) (reached_times kept.reached (variable_numbers names nodes x)) (dot kept.below (flat nodes g))
              (rat_sum_below (length cs) (λ j. number_at cs j *ℚ g i j)) (rows_below nodes values weights i g t)
              (bound x d t filled g family));
          count = start;
        }
        by (Err p) exact = tt

    -- ---- where it isn't
    module _ (n : Node) (at : IsNode nodes i n) (unknown : array_at values i ≡ None) (cs : List Frac) (kept : Kept) (size : length cs ≡ entries_of n.sides)
        (start : length kept.below ≡ start_of nodes i) where
      abbrev Bound : Call → Type 0
      Bound call = Before names nodes are s values known weights D v i b n at unknown cs kept.below size start (value kept.total) kept.reached call

      abbrev FairShares : Call → Result (List Share) CollectStop → Type 0
      FairShares call r = AreFair names nodes are s values known weights D v i b n at unknown cs kept.below size start (value kept.total) kept.reached call r

      call_fair : (call : Call) → n.call ≡ call → MayHandOn values call n.args → Bound call → FairShares call (call_shares nodes values i call n.args (arg_sides nodes n) cs (weights i))
      call_fair (calls.Variable q) same may bound = λ u e.
          hands_all names nodes are s values known weights D v i b n at unknown cs kept.below size start (value kept.total) kept.reached (calls.Variable q) u (reached_by i (calls.Variable q) cs)
          (variable_exact names nodes are s values known weights D v i b n at unknown cs kept.below size start (value kept.total) kept.reached q same u e) (λ g t. refl) bound
      call_fair (calls.Parameter q) same may bound = absurd may
      call_fair (calls.Constant y) same may bound = absurd may
      call_fair (calls.Linear l) same may bound = λ u e.
          hands_all names nodes are s values known weights D v i b n at unknown cs kept.below size start (value kept.total) kept.reached (calls.Linear l) u []
          (λ x t g family. linear_exact names nodes are s values known weights D v i b n at unknown cs kept.below size start (value kept.total) kept.reached x t g family l same u e)
          (λ g t. refl) bound
      call_fair (calls.Atom m) same may bound =
          atom_fair names nodes are s values known weights D v i b n at unknown cs kept.below size start (value kept.total) kept.reached m same make origin inside weighed bound (fractions m)
      call_fair (calls.Pairing Times) same may bound = λ u e.
          hands_all names nodes are s values known weights D v i b n at unknown cs kept.below size start (value kept.total) kept.reached (calls.Pairing Times) u []
          (λ x t g family. times_exact names nodes are s values known weights D v i b n at unknown cs kept.below size start (value kept.total) kept.reached x t g family
          (array_at values (get_or n.args 0 0)) (array_at values (get_or n.args 1 0)) refl refl same may u e) (λ g t. refl) bound
      call_fair (calls.Pairing MatTimes) same may bound = λ u e.
          hands_all names nodes are s values known weights D v i b n at unknown cs kept.below size start (value kept.total) kept.reached (calls.Pairing MatTimes) u []
          (λ x t g family. mat_times_exact names nodes are s values known weights D v i b n at unknown cs kept.below size start (value kept.total) kept.reached x t g family
          (array_at values (get_or n.args 0 0)) (array_at values (get_or n.args 1 0)) refl refl same may u e) (λ g t. refl) bound
      call_fair (calls.Pairing Over) same may bound = λ u e.
          hands_all names nodes are s values known weights D v i b n at unknown cs kept.below size start (value kept.total) kept.reached (calls.Pairing Over) u []
          (λ x t g family. over_exact names nodes are s values known weights D v i b n at unknown cs kept.below size start (value kept.total) kept.reached x t g family
          (array_at values (get_or n.args 0 0)) (array_at values (get_or n.args 1 0)) refl same may u e) (λ g t. refl) bound

      -- the shares are added
      shares_fair : (more : List Reached) (r : Result (List Share) CollectStop) → more ≡ reached_by i n.call cs → FairShares n.call r → Fair i (with_below kept more (handed kept.below r))
      shares_fair more (Err stop) is fair = fair
      shares_fair more (Ok shares) is fair = by (with_shares kept.below shares) refl
        where
          by : (r : Result (List Frac) Passes) → with_shares kept.below shares ≡ r → Fair i (with_below kept more (or_passes r))
          by (Ok u) e = record {
            bound = λ x d t filled g family.
                subst (λ (rs : List Reached). v ≤ℚ value kept.total +ℚ reached_times (kept.reached ++ rs) (variable_numbers names nodes x) +ℚ dot u (flat nodes g)
                +ℚ rows_below nodes values weights i g t) (sym is)
                (fair u e x d t filled g family);
            count = shares_count kept.below u shares e ∙ start;
          }
          by (Err p) e = tt

      unknown_fair : Bound n.call → Fair i (with_below kept (node_reached nodes i cs) (handed kept.below (node_shares nodes values i cs (weights i))))
      unknown_fair bound =
          shares_fair (node_reached nodes i cs) (node_shares nodes values i cs (weights i)) (reached_told nodes i n cs at)
          (subst (FairShares n.call) (sym (shares_told nodes values i n cs (weights i) at)) (call_fair n.call refl (known.others i n at unknown) bound))

    -- ---- one node
    own_dot : (t cs : List Frac) (g : ℕ → Numbers) → length t ≡ start_of nodes i → length cs ≡ entries_of (sides_of_node nodes i)
        → dot cs (λ p. flat nodes g (length t + p)) ≡ rat_sum_below (length cs) (λ j. number_at cs j *ℚ g i j)
    own_dot t cs g start size =
        dot-sum cs (λ p. flat nodes g (length t + p))
        ∙ rat_sum_below-same (length cs) _ _ (λ j c. ap (λ z. number_at cs j *ℚ z) (ap (λ k. flat nodes g (k + j)) start ∙ flat-place nodes g i j b (omega (arith, c, size))))

    -- the coefficients are taken apart
    split : (below : List Frac) (g : ℕ → Numbers) → length below ≡ start_of nodes (i + 1) →
        dot below (flat nodes g) ≡ dot (take (start_of nodes i) below) (flat nodes g)
        +ℚ rat_sum_below (length (drop (start_of nodes i) below)) (λ j. number_at (drop (start_of nodes i) below) j *ℚ g i j)
    split below g count =
        let t = take (start_of nodes i) below in
        let cs = drop (start_of nodes i) below in
        let first : length t ≡ start_of nodes i = length-take-le (start_of nodes i) below (start_inside nodes below i (start_of nodes i) b refl count) in
        ap (λ xs. dot xs (flat nodes g)) (sym (take-append-drop (start_of nodes i) below)) ∙ dot-append t cs (flat nodes g)
        ∙ ap (λ z. dot t (flat nodes g) +ℚ z) (own_dot t cs g first (own_count nodes below cs i (start_of nodes i) b refl count refl))

    step_fair : (kept : Kept) → IsLeft kept (suc i) → Fair i (step nodes values weights i kept)
    step_fair kept h = by (array_at values i) refl
      where
        t0 : List Frac
        t0 = take (start_of nodes i) kept.below

        more : suc i ≡ i + 1
        more = omega arith

        count : length kept.below ≡ start_of nodes (i + 1)
        count = h.count ∙ ap (start_of nodes) more

        by : (o : Option Array) → array_at values i ≡ o
            → Fair i (passed nodes values weights i o (drop (start_of nodes i) kept.below) (record { below = take (start_of nodes i) kept.below; reached = kept.reached; total = kept.total }))
        by (Some y) e =
            known_fair y e (drop (start_of nodes i) kept.below) (record { below = take (start_of nodes i) kept.below; reached = kept.reached; total = kept.total })
            (own_count nodes kept.below (drop (start_of nodes i) kept.below) i (start_of nodes i) b refl count refl)
            (length-take-le (start_of nodes i) kept.below (start_inside nodes kept.below i (start_of nodes i) b refl count))
            (λ x d t filled g family.
            subst (λ q. v ≤ℚ value kept.total +ℚ reached_times kept.reached (variable_numbers names nodes x) +ℚ q +ℚ (rows_below nodes values weights i g t +ℚ whole (pos 0)))
            (split kept.below g count)
            (subst (λ o. v ≤ℚ value kept.total +ℚ reached_times kept.reached (variable_numbers names nodes x) +ℚ dot kept.below (flat nodes g)
            +ℚ (rows_below nodes values weights i g t +ℚ rows_if nodes o (slice_get nodes i) (weights i) g (t i))) e
            (h.bound x d t filled g family)))
        by None e =
            let (n, at) = node_there nodes i b in
            unknown_fair n at e (drop (start_of nodes i) kept.below) (record { below = take (start_of nodes i) kept.below; reached = kept.reached; total = kept.total })
            (own_count nodes kept.below (drop (start_of nodes i) kept.below) i (start_of nodes i) b refl count refl ∙ ap entries_of (sides_are nodes i n at))
            (length-take-le (start_of nodes i) kept.below (start_inside nodes kept.below i (start_of nodes i) b refl count))
            (λ x d t filled g family.
            subst (λ q. v ≤ℚ value kept.total +ℚ reached_times kept.reached (variable_numbers names nodes x) +ℚ q
            +ℚ (rows_below nodes values weights i g t +ℚ rows_if nodes None (Some n) (weights i) g (t i))) (split kept.below g count)
            (subst (λ (o : Option Node). v ≤ℚ value kept.total +ℚ reached_times kept.reached (variable_numbers names nodes x) +ℚ dot kept.below (flat nodes g)
            +ℚ (rows_below nodes values weights i g t +ℚ rows_if nodes None o (weights i) g (t i))) at
            (subst (λ o. v ≤ℚ value kept.total +ℚ reached_times kept.reached (variable_numbers names nodes x) +ℚ dot kept.below (flat nodes g)
            +ℚ (rows_below nodes values weights i g t +ℚ rows_if nodes o (slice_get nodes i) (weights i) g (t i))) e
            (h.bound x d t filled g family))))

  -- ---- all nodes
  pass_fair : (m : ℕ) → m ≤ length nodes → (kept : Kept) → IsLeft kept m → Fair 0 (pass_down nodes values weights m kept)
  pass_fair zero b kept h = h
  pass_fair (suc m) b kept h = by (step nodes values weights m kept) (step_fair m (omega (arith, b)) kept h) (λ mid l. pass_fair m (omega (arith, b)) mid l)
    where
      by : (r : Result Kept CollectStop) → Fair m r → ((mid : Kept) → IsLeft mid m → Fair 0 (pass_down nodes values weights m mid))
          → Fair 0 (then_on nodes values weights r (pass_down nodes values weights m))
      by (Ok mid) l rest = rest mid l
      by (Err stop) l rest = l

  -- what is told at the end: at each point of the domain the bound holds of the total and what reaches the variables
  abbrev pub IsEnd : Result Kept CollectStop → Type 0
  IsEnd (Ok k) = (x : Point) → D x → v ≤ℚ value k.total +ℚ reached_times k.reached (variable_numbers names nodes x)
  IsEnd (Err stop) = IsPassing stop

  ended : (r : Result Kept CollectStop) → Fair 0 r → IsEnd r
  ended (Ok k) h = λ x d.
      let t : ℕ → Filling = λ i. no_filling in
      let filled : AreFilled nodes values t = λ i n at unknown m same k e. ≤ℚ_refl (whole (pos 0)) in
      let (g, family) = make x d t filled in
      at_end v (value k.total) (reached_times k.reached (variable_numbers names nodes x)) (dot k.below (flat nodes g))
      (ap (λ xs. dot xs (flat nodes g)) (nil_from_length k.below h.count) ∙ dot-nil (flat nodes g)) (h.bound x d t filled g family)
  ended (Err stop) h = h

  -- the pass from coefficients that are bounded with all weighted rows
  pub passes_down : (table : List Frac) → length table ≡ entries_in nodes → All (λ x t g. v ≤ℚ table_times nodes table g +ℚ rows_below nodes values weights (length nodes) g t) →
      IsEnd (pass_down nodes values weights (length nodes) (begin table))
  passes_down table count bound =
      ended (pass_down nodes values weights (length nodes) (begin table))
      (pass_fair (length nodes) (omega arith) (begin table) (record {
        bound = λ x d t filled g family.
            at_start v (value (begin table).total) (dot table (flat nodes g)) (rows_below nodes values weights (length nodes) g t) value-zero_frac
            (subst (λ q. v ≤ℚ q +ℚ rows_below nodes values weights (length nodes) g t) (sym (dot-table nodes g table count)) (bound x d t filled g family));
        count = count ∙ sym (start_all nodes);
      }))
