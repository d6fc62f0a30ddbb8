-- What a node hands on, times the values of its arguments, is at most its coefficients times its value.
use Rattle.std.proofs.Common.{◌≡◌, ℕ, zero, suc, ◌<◌, arith, List, [], ◌∷◌, map, length, get_or, All, sym, ap, ap₂, ◌∙◌, subst, ⊎_elim, Option, Some, None, Result, Ok, IfOk, slice_get}
use Rattle.std.proofs.lemmas.Result.{IfOk-weaker}
use Rattle.dcx_math.specs.Rational.{ℚ, inverse, ◌+ℚ◌, ◌*ℚ◌, ◌/ℚ◌, ◌≤ℚ◌}
use Rattle.dcx_math.specs.Sums.{rat_sum_below, rat_sum_by}
use Rattle.dcx_math.proofs.Ring.{ring, reads, /ℚ-is}
use Rattle.dcx_math.proofs.Orders.{≤ℚ_trans, ≤ℚ-from_≡, +ℚ-≤ℚ_left}
use Rattle.dcx_math.proofs.Sums.{rat_sum_below-same, rat_sum_by-*ℚ}
use Rattle.dcx_frac.specs.declared.fraction.Frac.{Frac}
use Rattle.dcx_frac.specs.declared.fraction.Passes.{Passes}
use Rattle.dcx_frac.specs.Fits.{IsRepresentable}
use Rattle.dcx_frac.specs.Frac.{value}
use Rattle.dcx_frac.specs.Results.{product_of, quotient_of}
use Rattle.dcx_frac.proofs.Results.{product_of_is, quotient_of_is}
use Rattle.dcx_shape.specs.declared.shape.Sides.{Sides}
use Rattle.dcx_shape.specs.Sides.{entries_of}
use Rattle.dcx_atom.specs.declared.stops.SlopeStop.{SlopeStop}
use Rattle.dcx_atom.specs.Arrays.{Entries, number_at, sides_at, list_below}
use Rattle.dcx_atom.specs.Formed.{frac_at, exact}
use Rattle.dcx_atom.specs.Linear.{LinearTerm, LinearMeaning, terms_at}
use Rattle.dcx_atom.specs.Meaning.{Meaning}
use Rattle.dcx_atom.specs.Steps.{entry_stop, weights_of}
use Rattle.dcx_atom.specs.Laws.{HasSubgradients}
use Rattle.dcx_atom.proofs.Accepted.{accepted_of, earlier-none}
use Rattle.dcx_atom.proofs.BoundRows.{below_or_last}
use Rattle.dcx_affine.specs.declared.pairing.Pair.{Pair}
use Rattle.dcx_convex.specs.Nodes.{Numbers}
use Rattle.dcx_atom.proofs.Fractions.{value-frac_at}
use Rattle.dcx_tree.specs.Nodes.{Node}
use Rattle.dcx_cert_collect.specs.declared.pairs.Scaling.{Scaling}
use Rattle.dcx_cert_collect.specs.declared.pairs.Scaling.TheVariants.{ByRight, ByLeft, Divided}
use Rattle.dcx_cert_collect.specs.Shares.{frac_in, with_shares}
use Rattle.dcx_cert_collect.specs.Starts.{place_of}
use Rattle.dcx_cert_collect.specs.Calls.{share_to, term_share, linear_shares, pair_share, pairing_shares, first_of_entries, slopes_stop, slope_frac, slope_shares}
use Rattle.dcx_atom.specs.Fractions.{AreFractionSlopes}
use Rattle.dcx_cert_collect.proofs.Flat.{dot, frac_value}
use Rattle.dcx_cert_collect.proofs.Bound.{number_of, IsBefore, IsWorth, worth_of, map_dot, below_dot, joined_dot}

-- ---- a fact of each item
each_item : {A : Type 0} (P Q : A → Type 0) (xs : List A) → ((a : A) → P a → Q a) → All P xs → All Q xs
each_item P Q xs g h = λ k d b. g (get_or xs k d) (h k d b)

all_items : {A : Type 0} (Q : A → Type 0) (xs : List A) → ((a : A) → Q a) → All Q xs
all_items Q xs g = λ k d b. g (get_or xs k d)

-- ---- arithmetic of a share
scaled : (v c q n : ℚ) → v ≡ c *ℚ q → v *ℚ n ≡ c *ℚ (q *ℚ n)
scaled v c q n e = ap (λ z. z *ℚ n) e ∙ ring (c ∷ q ∷ n ∷ []) (search reads depth 30) tt

scaled_turned : (v c q n : ℚ) → v ≡ c *ℚ q → v *ℚ n ≡ c *ℚ (n *ℚ q)
scaled_turned v c q n e = ap (λ z. z *ℚ n) e ∙ ring (c ∷ q ∷ n ∷ []) (search reads depth 30) tt

divided : (v c q n : ℚ) → v ≡ c /ℚ q → v *ℚ n ≡ c *ℚ (n /ℚ q)
divided v c q n e = ap (λ z. z *ℚ n) (e ∙ /ℚ-is c q) ∙ turn c (inverse q) n ∙ ap (λ z. c *ℚ z) (sym (/ℚ-is n q))
  where
    turn : (a b d : ℚ) → a *ℚ b *ℚ d ≡ a *ℚ (d *ℚ b)
    turn a b d = ring (a ∷ b ∷ d ∷ []) (search reads depth 30) tt

product_worth : (c x : Frac) (q n : ℚ) → value x ≡ q → IfOk (product_of c x) (λ v. value v *ℚ n ≡ value c *ℚ (q *ℚ n))
product_worth c x q n e = IfOk-weaker (product_of c x) _ _ (λ v h. scaled (value v) (value c) q n (h ∙ ap (λ z. value c *ℚ z) e)) (product_of_is c x).exact

product_worth_turned : (c x : Frac) (q n : ℚ) → value x ≡ q → IfOk (product_of c x) (λ v. value v *ℚ n ≡ value c *ℚ (n *ℚ q))
product_worth_turned c x q n e = IfOk-weaker (product_of c x) _ _ (λ v h. scaled_turned (value v) (value c) q n (h ∙ ap (λ z. value c *ℚ z) e)) (product_of_is c x).exact

quotient_worth : (c x : Frac) (q n : ℚ) → value x ≡ q → IfOk (quotient_of c x) (λ v. value v *ℚ n ≡ value c *ℚ (n /ℚ q))
quotient_worth c x q n e = IfOk-weaker (quotient_of c x) _ _ (λ v h. divided (value v) (value c) q n (h ∙ ap (λ z. value c /ℚ z) e)) (quotient_of_is c x).exact

-- a number at a place
at_place : (F : Numbers) (place : Option ℕ) (r : Result Frac Passes) (n w : ℚ) → number_of F place ≡ n → IfOk r (λ v. value v *ℚ n ≡ w) → IfOk r (λ v. value v *ℚ number_of F place ≡ w)
at_place F place r n w e h = subst (λ m. IfOk r (λ v. value v *ℚ m ≡ w)) (sym e) h

-- ---- stops
-- where no entry has the first, none has one
pub none_stopped : (n : ℕ) (f : ℕ → Option SlopeStop) → first_of_entries n f ≡ None → (j : ℕ) → j < n → f j ≡ None
none_stopped zero f e j b = absurd (omega arith)
none_stopped (suc n) f e j b =
    let both = earlier-none (first_of_entries n f) (f n) e in
    ⊎_elim (λ l. none_stopped n f both.0 j l) (λ r. ap f r ∙ both.1) (below_or_last j n b)

-- ---- what the arguments of a node are: the numbers at their places are a, and these places are among the first L
module _ (nodes : List Node) (args : List ℕ) (F : Numbers) (L : ℕ) (a : Entries) (before : (k e : ℕ) → IsBefore L (place_of nodes (slice_get args k) e))
    (numbers : (k e : ℕ) → number_of F (place_of nodes (slice_get args k) e) ≡ a k e) where
  -- a share of an argument
  to_argument : (k e : ℕ) (r : Result Frac Passes) (w : ℚ) → IfOk r (λ v. value v *ℚ a k e ≡ w) → IsWorth F L (share_to nodes args k e r) w
  to_argument k e r w h = worth_of F L (share_to nodes args k e r) w (before k e) (at_place F (place_of nodes (slice_get args k) e) r (a k e) w (numbers k e) h)

  -- ---- linear calls
  terms_worth : (c : Frac) (terms : List LinearTerm) → All (λ t. IsRepresentable t.coefficient) terms → (t u : List Frac) → length t ≡ L → with_shares t (map (term_share nodes args c) terms) ≡ Ok u →
      dot u F ≡ dot t F +ℚ value c *ℚ terms_at terms a
  terms_worth c terms fit t u count e =
      let w = λ (x : LinearTerm). value c *ℚ (x.coefficient *ℚ a x.argument x.entry) in
      map_dot F L (term_share nodes args c) w terms
      (each_item (λ x. IsRepresentable x.coefficient) (λ x. IsWorth F L (term_share nodes args c x) (w x)) terms
      (λ x h. to_argument x.argument x.entry (product_of c (frac_at x.coefficient)) (w x) (product_worth c (frac_at x.coefficient) x.coefficient (a x.argument x.entry)
      (value-frac_at x.coefficient h))) fit)
      t u count e
      ∙ ap (λ r. dot t F +ℚ r) (rat_sum_by-*ℚ (value c) (λ x. x.coefficient *ℚ a x.argument x.entry) terms)

  pub linear_worth : (m : LinearMeaning) (ss : List Sides) (cs : List Frac) → ((j : ℕ) → j < length cs → All (λ t. IsRepresentable t.coefficient) (m.terms ss j)) →
      ((j : ℕ) → j < length cs → m.value ss a j ≡ terms_at (m.terms ss j) a) → (t u : List Frac) → length t ≡ L → with_shares t (linear_shares nodes args cs (m.terms ss)) ≡ Ok u →
      dot u F ≡ dot t F +ℚ rat_sum_below (length cs) (λ j. number_at cs j *ℚ m.value ss a j)
  linear_worth m ss cs fit law t u count e =
      joined_dot F L (λ j. map (term_share nodes args (frac_in cs j)) (m.terms ss j)) (λ j. value (frac_in cs j) *ℚ terms_at (m.terms ss j) a) (length cs)
      (λ j b t u count e. terms_worth (frac_in cs j) (m.terms ss j) (fit j b) t u count e) t u count e
      ∙ ap (λ r. dot t F +ℚ r) (rat_sum_below-same (length cs) _ _ (λ j b. ap₂ ◌*ℚ◌ (frac_value cs j) (sym (law j b))))

  -- ---- products and quotients
  -- what a pair is worth
  pair_value : Scaling → Pair → ℚ
  pair_value ByRight p = a 0 p.left *ℚ a 1 p.right
  pair_value ByLeft p = a 0 p.left *ℚ a 1 p.right
  pair_value Divided p = a 0 p.left /ℚ a 1 p.right

  -- the numbers are those of the side that scales
  IsScaledBy : Scaling → List Frac → Type 0
  IsScaledBy ByRight numbers = (e : ℕ) → number_at numbers e ≡ a 1 e
  IsScaledBy ByLeft numbers = (e : ℕ) → number_at numbers e ≡ a 0 e
  IsScaledBy Divided numbers = (e : ℕ) → number_at numbers e ≡ a 1 e

  pair_worth : (scaling : Scaling) (xs : List Frac) (c : Frac) (p : Pair) → IsScaledBy scaling xs → IsWorth F L (pair_share nodes args scaling xs c p) (value c *ℚ pair_value scaling p)
  unfolding pair_value IsScaledBy
  pair_worth ByRight xs c p h = to_argument 0 p.left (product_of c (frac_in xs p.right)) _ (product_worth_turned c (frac_in xs p.right) (a 1 p.right) (a 0 p.left) (frac_value xs p.right ∙ h p.right))
  pair_worth ByLeft xs c p h = to_argument 1 p.right (product_of c (frac_in xs p.left)) _ (product_worth c (frac_in xs p.left) (a 0 p.left) (a 1 p.right) (frac_value xs p.left ∙ h p.left))
  pair_worth Divided xs c p h = to_argument 0 p.left (quotient_of c (frac_in xs p.right)) _ (quotient_worth c (frac_in xs p.right) (a 1 p.right) (a 0 p.left) (frac_value xs p.right ∙ h p.right))

  pairs_worth : (scaling : Scaling) (xs : List Frac) (cs : List Frac) (pairs : ℕ → List Pair) → IsScaledBy scaling xs → (t u : List Frac) → length t ≡ L →
      with_shares t (pairing_shares nodes args scaling xs cs pairs) ≡ Ok u → dot u F ≡ dot t F +ℚ rat_sum_below (length cs) (λ j. number_at cs j *ℚ rat_sum_by (pair_value scaling) (pairs j))
  pairs_worth scaling xs cs pairs h t u count e =
      joined_dot F L (λ j. map (pair_share nodes args scaling xs (frac_in cs j)) (pairs j)) (λ j. number_at cs j *ℚ rat_sum_by (pair_value scaling) (pairs j)) (length cs)
      (λ j b t u count e. map_dot F L (pair_share nodes args scaling xs (frac_in cs j)) (λ p. value (frac_in cs j) *ℚ pair_value scaling p) (pairs j)
      (all_items (λ p. IsWorth F L (pair_share nodes args scaling xs (frac_in cs j) p) (value (frac_in cs j) *ℚ pair_value scaling p)) (pairs j)
      (λ p. pair_worth scaling xs (frac_in cs j) p h)) t u count e
      ∙ ap (λ r. dot t F +ℚ r) (rat_sum_by-*ℚ (value (frac_in cs j)) (pair_value scaling) (pairs j) ∙ ap (λ z. z *ℚ rat_sum_by (pair_value scaling) (pairs j)) (frac_value cs j))) t u count e

  pub products_worth_right : (xs cs : List Frac) (pairs : ℕ → List Pair) → ((e : ℕ) → number_at xs e ≡ a 1 e) → (t u : List Frac) → length t ≡ L
      → with_shares t (pairing_shares nodes args ByRight xs cs pairs) ≡ Ok u →
      dot u F ≡ dot t F +ℚ rat_sum_below (length cs) (λ j. number_at cs j *ℚ rat_sum_by (λ p. a 0 p.left *ℚ a 1 p.right) (pairs j))
  unfolding pair_value IsScaledBy
  products_worth_right xs cs pairs h t u count e = pairs_worth ByRight xs cs pairs h t u count e

  pub products_worth_left : (xs cs : List Frac) (pairs : ℕ → List Pair) → ((e : ℕ) → number_at xs e ≡ a 0 e) → (t u : List Frac) → length t ≡ L
      → with_shares t (pairing_shares nodes args ByLeft xs cs pairs) ≡ Ok u →
      dot u F ≡ dot t F +ℚ rat_sum_below (length cs) (λ j. number_at cs j *ℚ rat_sum_by (λ p. a 0 p.left *ℚ a 1 p.right) (pairs j))
  unfolding pair_value IsScaledBy
  products_worth_left xs cs pairs h t u count e = pairs_worth ByLeft xs cs pairs h t u count e

  pub quotients_worth : (xs cs : List Frac) (pairs : ℕ → List Pair) → ((e : ℕ) → number_at xs e ≡ a 1 e) → (t u : List Frac) → length t ≡ L
      → with_shares t (pairing_shares nodes args Divided xs cs pairs) ≡ Ok u →
      dot u F ≡ dot t F +ℚ rat_sum_below (length cs) (λ j. number_at cs j *ℚ rat_sum_by (λ p. a 0 p.left /ℚ a 1 p.right) (pairs j))
  unfolding pair_value IsScaledBy
  quotients_worth xs cs pairs h t u count e = pairs_worth Divided xs cs pairs h t u count e

  -- ---- nonlinear calls
  pub slopes_worth : (m : Meaning) → HasSubgradients m → (ss : List Sides) (sides : Sides) → m.shape ss ≡ Some sides → length args ≡ length ss → (cs ws : List Frac)
      → length cs ≡ entries_of sides → AreFractionSlopes m ss ws →
      slopes_stop m ss cs ws ≡ None → (t u : List Frac) → length t ≡ L → with_shares t (slope_shares nodes args ss (slope_frac m ss ws)) ≡ Ok u →
      dot u F ≤ℚ dot t F +ℚ rat_sum_below (length cs) (λ j. number_at cs j *ℚ m.value ss a j)
  slopes_worth m law ss sides is same cs ws size fit none t u count e =
      let w = weights_of m ss ws in
      let slope = λ (k i : ℕ). exact (m.slope ss w k i) in
      let sums = joined_dot F L (λ k. list_below (entries_of (sides_at ss k)) (λ i. share_to nodes args k i (Ok (slope_frac m ss ws k i))))
      (λ k. rat_sum_below (entries_of (sides_at ss k)) (λ i. slope k i *ℚ a k i)) (length args)
      (λ k b t u count e. below_dot F L (λ i. share_to nodes args k i (Ok (slope_frac m ss ws k i))) (λ i. slope k i *ℚ a k i) (entries_of (sides_at ss k))
      (λ i c. to_argument k i (Ok (slope_frac m ss ws k i)) (slope k i *ℚ a k i) (ap (λ z. z *ℚ a k i) (value-frac_at (slope k i) (fit k i (omega (arith, b, same)) c)))) t u count e) t u count e in
      let bound = law ss sides is (number_at cs) w (accepted_of m ss (entries_of sides) (number_at cs) w (λ j b. none_stopped (length cs) (entry_stop m ss (number_at cs) w) none j
      (omega (arith, b, size)))) a in
      ≤ℚ_trans (≤ℚ-from_≡ (sums ∙ ap (λ n. dot t F +ℚ rat_sum_below n (λ k. rat_sum_below (entries_of (sides_at ss k)) (λ i. slope k i *ℚ a k i))) same))
      (+ℚ-≤ℚ_left (dot t F) (≤ℚ_trans bound (≤ℚ-from_≡ (ap (λ n. rat_sum_below n (λ j. number_at cs j *ℚ m.value ss a j)) (sym size)))))
