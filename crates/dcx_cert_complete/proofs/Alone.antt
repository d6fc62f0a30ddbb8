-- What bounds the total and all that reaches the variables, at all points of the domain: the total is bounded, and what reaches each
-- variable is in the dual cone of its attribute.
use Rattle.std.proofs.Common.{◌≡◌, ◌≢◌, ℕ, ◌+◌, ◌<◌, arith, Bool, true, false, List, [], ◌∷◌, length, Option, Some, None, refl, sym, ap, ap₂, ◌∙◌, subst, pos}
use Rattle.std.specs.Prelude.{if◌then◌else◌, nat_lt}
use Rattle.std.specs.List.{All, slice_get}
use native.Mathlib.Decide.{ℕ_discrete}
use Rattle.std.proofs.lemmas.Bool.{false≢true}
use Rattle.std.proofs.lemmas.List.Elements.{All-head, All-tail}
use Rattle.std.proofs.lemmas.Option.{same_Some}
use Rattle.dcx_math.specs.Rational.{ℚ, whole, ◌+ℚ◌, ◌-ℚ◌, ◌*ℚ◌, ◌≤ℚ◌}
use Rattle.dcx_math.specs.Sums.{IsNonnegative, rat_sum_below}
use Rattle.dcx_math.proofs.Ring.{ring, reads}
use Rattle.dcx_math.proofs.Orders.{+ℚ_idl, +ℚ_idr, *ℚ-zero, zero-*ℚ, linear}
use Rattle.dcx_math.proofs.Products.{*ℚ-nonnegative, *ℚ-nonpositive}
use Rattle.dcx_math.proofs.Sums.{rat_sum_below-same, rat_sum_below-zero, rat_sum_below-*ℚ}
use Rattle.dcx_frac.specs.declared.fraction.Frac.{Frac}
use Rattle.dcx_shape.specs.declared.shape.Sides.{Sides}
use Rattle.dcx_shape.specs.Shape.{sides_of}
use Rattle.dcx_shape.specs.Sides.{entries_of}
use Rattle.dcx_atom.specs.Arrays.{number_at}
use Rattle.dcx_point.proofs.Puts.{same_name-refl, same_name-true}
use Rattle.dcx_arena.specs.Nodes.{call_at}
use Rattle.dcx_convex.specs.Nodes.{Attribute, Free, Nonneg, Nonpos, Symmetric, Diag, Numbers, Point, Keeps, first_of, zeros}
use Rattle.dcx_convex.specs.Certificates.{times, IsInDualCone}
use Rattle.dcx_convex.proofs.Signs.{first_in}
use Rattle.dcx_call.specs.declared.attribute.Variable.{Variable}
use Rattle.dcx_call.specs.declared.call.Call.{Call}
use Rattle.dcx_call.specs.declared.call.Call.TheVariants as calls
use Rattle.dcx_tree.specs.declared.problem.Problem.{Problem}
use Rattle.dcx_tree.specs.Nodes.{number_in, variable_attribute}
use Rattle.dcx_tree.specs.Problems.{AreDeclared}
use Rattle.dcx_tree.specs.Meaning.{names_in, IsInDomain}
use Rattle.dcx_tree.proofs.Names.{found_in}
use Rattle.dcx_tree.proofs.NodeValues.{number_past}
use Rattle.dcx_unknowns.specs.Unknowns.{sides_in}
use Rattle.dcx_unknowns.proofs.Domains.{number_is, to_domain}
use Rattle.dcx_cert_collect.specs.declared.collected.Reached.{Reached}
use Rattle.dcx_cert_collect.specs.Laws.{reached_times}
use Rattle.dcx_cert_collect.proofs.Points.{first_past}
use Rattle.dcx_cert_bound.specs.Variables.{is_named, reaching}
use Rattle.dcx_cert_bound.proofs.Falling.{AreFalling}
use Rattle.dcx_cert_bound.proofs.Reaching.{bare, listed}
use Rattle.dcx_cert_complete.specs.Families.{variable_by, variable_if, variable_numbers}
use Rattle.dcx_cert_complete.proofs.Scaling.{bounded_multiples}
use Rattle.dcx_cert_complete.proofs.Steep.{keeps_zeros}
use Rattle.dcx_cert_complete.proofs.Sums.{further_zero}

-- ---- an array for one variable alone
picked : {i k : ℕ} → Dec (i ≡ k) → Numbers → Numbers
picked (yes e) y = y
picked (no d) y = zeros

pub alone : ℕ → Numbers → Point
alone k y i = picked (ℕ_discrete i k) y

pub alone_itself : (k : ℕ) (y : Numbers) → alone k y k ≡ y
unfolding alone picked
alone_itself k y = by (ℕ_discrete k k)
  where
    by : (d : Dec (k ≡ k)) → picked d y ≡ y
    by (yes e) = refl
    by (no d) = absurd (d refl)

pub alone_other : (k : ℕ) (y : Numbers) (i : ℕ) → i ≢ k → alone k y i ≡ zeros
unfolding alone picked
alone_other k y i n = by (ℕ_discrete i k)
  where
    by : (d : Dec (i ≡ k)) → picked d y ≡ zeros
    by (yes e) = absurd (n e)
    by (no d) = refl

-- multiples keep each attribute
multiples_kept : (a : Attribute) (s : Sides) (q : ℚ) (y : Numbers) → IsNonnegative q → Keeps a s y → Keeps a s (λ j. q *ℚ y j)
multiples_kept Free s q y n h = tt
multiples_kept Nonneg s q y n h = λ j b. *ℚ-nonnegative n (h j b)
multiples_kept Nonpos s q y n h = λ j b. *ℚ-nonpositive n (h j b)
multiples_kept Symmetric s q y n h = λ i j e. ap (λ z. q *ℚ z) (h i j e)
multiples_kept Diag s q y n h = λ i j e d. ap (λ z. q *ℚ z) (h i j e d) ∙ *ℚ-zero q

first_zeros : (n j : ℕ) → first_of n zeros j ≡ whole (pos 0)
first_zeros n j = by (nat_lt j n)
  where
    by : (t : Bool) → (if t then whole (pos 0) else whole (pos 0)) ≡ whole (pos 0)
    by true = refl
    by false = refl

zero_times : (cs : List Frac) (y : Numbers) → ((j : ℕ) → y j ≡ whole (pos 0)) → times (length cs) (number_at cs) y ≡ whole (pos 0)
zero_times cs y h = rat_sum_below-same (length cs) _ (λ _. whole (pos 0)) (λ j b. ap (λ z. number_at cs j *ℚ z) (h j) ∙ *ℚ-zero (number_at cs j)) ∙ rat_sum_below-zero (length cs)

module _ (p : Problem) (d : AreDeclared p.tree p.variables p.parameters) where
  -- variables of one name are one, with one node
  one_variable : (j : ℕ) (k : ℕ) (v w : Variable) → slice_get p.variables k ≡ Some v → call_at p.tree j ≡ Some (calls.Variable w) → v.name ≡ w.name → v ≡ w
  one_variable j k v w at c same =
      let (m, there) = listed p d j w c in
      let number : k ≡ m = sym (number_is p d k v at) ∙ ap (number_in (names_in p).variables) same ∙ number_is p d m w there in
      same_Some v w (sym at ∙ ap (slice_get p.variables) number ∙ there)

  one_node : (i j : ℕ) (v : Variable) → call_at p.tree i ≡ Some (calls.Variable v) → call_at p.tree j ≡ Some (calls.Variable v) → i ≡ j
  one_node i j v a b =
      let (m, here, is) = found_in (slice_get p.tree i) (calls.Variable v) a in
      let (n, there, are) = found_in (slice_get p.tree j) (calls.Variable v) b in
      p.nodes.distinct i j m n here there (record { same_call = is ∙ sym are; same_args = bare p i m v here is ∙ sym (bare p j n v there are) })

  module _ (k : ℕ) (v : Variable) (at : slice_get p.variables k ≡ Some v) where
    -- a node of its name is its node
    named_is : (o : Option Call) → is_named v.name o ≡ true → (j : ℕ) → call_at p.tree j ≡ o → o ≡ Some (calls.Variable v)
    named_is None e j c = absurd (false≢true e)
    named_is (Some (calls.Variable w)) e j c = ap (λ u. Some (calls.Variable u)) (sym (one_variable j k v w at c (same_name-true v.name w.name e)))
    named_is (Some (calls.Parameter q)) e j c = absurd (false≢true e)
    named_is (Some (calls.Constant x)) e j c = absurd (false≢true e)
    named_is (Some (calls.Atom m)) e j c = absurd (false≢true e)
    named_is (Some (calls.Linear l)) e j c = absurd (false≢true e)
    named_is (Some (calls.Pairing q)) e j c = absurd (false≢true e)

    module _ (y : Numbers) where
      abbrev x : Point
      x = alone k y

      -- what its node has, and what each other node has
      own_numbers : (j : ℕ) → variable_by (names_in p) x (calls.Variable v) j ≡ first_of (entries_of (sides_in v)) y j
      own_numbers j = ap (λ (f : Numbers). first_of (entries_of (sides_in v)) f j) (ap x (number_is p d k v at) ∙ alone_itself k y)

      other_numbers : (o : Option Call) → is_named v.name o ≡ false → (i : ℕ) → call_at p.tree i ≡ o → (j : ℕ) → variable_if (names_in p) x o j ≡ whole (pos 0)
      other_numbers None e i c j = refl
      other_numbers (Some (calls.Variable w)) e i c j =
          let (m, there) = listed p d i w c in
          let apart : number_in (names_in p).variables w.name ≢ k =
          λ h.
          let number : m ≡ k = sym (number_is p d m w there) ∙ h in
          let same : w ≡ v = same_Some w v (sym there ∙ ap (slice_get p.variables) number ∙ at) in
          false≢true (sym e ∙ ap (λ (u : Variable). is_named v.name (Some (calls.Variable u))) same ∙ same_name-refl v.name) in
          ap (λ (f : Numbers). first_of (entries_of (sides_of w.shape)) f j) (alone_other k y (number_in (names_in p).variables w.name) apart) ∙ first_zeros (entries_of (sides_of w.shape)) j
      other_numbers (Some (calls.Parameter q)) e i c j = refl
      other_numbers (Some (calls.Constant z)) e i c j = refl
      other_numbers (Some (calls.Atom m)) e i c j = refl
      other_numbers (Some (calls.Linear l)) e i c j = refl
      other_numbers (Some (calls.Pairing q)) e i c j = refl

      abbrev vn : ℕ → Numbers
      vn = variable_numbers (names_in p) p.tree x

      -- nodes before its node have nothing
      none_behind : (i : ℕ) → call_at p.tree i ≡ Some (calls.Variable v) → (reached : List Reached) → All (λ q. q.node.0 < i) reached → reached_times reached vn ≡ whole (pos 0)
      none_behind i here [] before = refl
      none_behind i here (r ∷ reached) before =
          ap₂ ◌+ℚ◌ (zero_times r.coefficients (vn r.node.0) (by (is_named v.name (call_at p.tree r.node.0)) refl)) (none_behind i here reached (All-tail (λ q. q.node.0 < i) r reached before))
          ∙ +ℚ_idr _
        where
          less : r.node.0 < i
          less = All-head (λ q. q.node.0 < i) r reached before

          by : (t : Bool) → is_named v.name (call_at p.tree r.node.0) ≡ t → (j : ℕ) → vn r.node.0 j ≡ whole (pos 0)
          by true e = let same = one_node r.node.0 i v (named_is (call_at p.tree r.node.0) e r.node.0 refl) here in absurd (omega (arith, same, less))
          by false e = other_numbers (call_at p.tree r.node.0) e r.node.0 refl

      -- all that is reached, at this array alone
      reached_alone : (reached : List Reached) → AreFalling reached → reached_times reached vn
          ≡ times (length (reaching p.tree reached v.name)) (number_at (reaching p.tree reached v.name)) (first_of (entries_of (sides_in v)) y)
      reached_alone [] falling = refl
      reached_alone (r ∷ reached) falling = by (is_named v.name (call_at p.tree r.node.0)) refl (reached_alone reached falling.1)
        where
          by : (t : Bool) → is_named v.name (call_at p.tree r.node.0) ≡ t →
              reached_times reached vn ≡ times (length (reaching p.tree reached v.name)) (number_at (reaching p.tree reached v.name)) (first_of (entries_of (sides_in v)) y) →
              times (length r.coefficients) (number_at r.coefficients) (vn r.node.0) +ℚ reached_times reached vn
              ≡ times (length (if t then r.coefficients else reaching p.tree reached v.name)) (number_at (if t then r.coefficients else reaching p.tree reached v.name))
              (first_of (entries_of (sides_in v)) y)
          by true e rest =
              let here = named_is (call_at p.tree r.node.0) e r.node.0 refl in
              ap₂ ◌+ℚ◌
              (rat_sum_below-same (length r.coefficients) _ _ (λ j b. ap (λ z. number_at r.coefficients j *ℚ z) (ap (λ o. variable_if (names_in p) x o j) here ∙ own_numbers j)))
              (none_behind r.node.0 here reached falling.0)
              ∙ +ℚ_idr _
          by false e rest =
              ap (λ z. z +ℚ reached_times reached vn) (zero_times r.coefficients (vn r.node.0) (other_numbers (call_at p.tree r.node.0) e r.node.0 refl)) ∙ +ℚ_idl (reached_times reached vn) ∙ rest

      alone_kept : Keeps (variable_attribute v.whole v.attribute) (sides_in v) y → IsInDomain p x
      alone_kept h = to_domain p x (λ i w there. by (ℕ_discrete i k) w there)
        where
          by : {i : ℕ} → Dec (i ≡ k) → (w : Variable) → slice_get p.variables i ≡ Some w → Keeps (variable_attribute w.whole w.attribute) (sides_in w) (x i)
          by {i} (yes e) w there =
              let same : v ≡ w = same_Some v w (sym at ∙ ap (slice_get p.variables) (sym e) ∙ there) in
              subst (λ (f : Numbers). Keeps (variable_attribute w.whole w.attribute) (sides_in w) f) (sym (ap x e ∙ alone_itself k y))
              (subst (λ (u : Variable). Keeps (variable_attribute u.whole u.attribute) (sides_in u) y) same h)
          by {i} (no n) w there =
              subst (λ (f : Numbers). Keeps (variable_attribute w.whole w.attribute) (sides_in w) f) (sym (alone_other k y i n)) (keeps_zeros (variable_attribute w.whole w.attribute) (sides_in w))

    -- sums to the end of the coefficients, and to the end of the variable
    either_end : (cs : List Frac) (m : ℕ) (y : Numbers) → times (length cs) (number_at cs) (first_of m y) ≡ times m (number_at cs) y
    either_end cs m y =
        let f = λ (j : ℕ). number_at cs j *ℚ first_of m y j in
        let swap : length cs + m ≡ m + length cs = omega arith in
        sym (further_zero (length cs) m f (λ j b. ap (λ z. z *ℚ first_of m y j) (number_past cs j b) ∙ zero-*ℚ _)) ∙ ap (λ n. rat_sum_below n f) swap
        ∙ further_zero m (length cs) f (λ j b. ap (λ z. number_at cs j *ℚ z) (first_past m y j b) ∙ *ℚ-zero _)
        ∙ rat_sum_below-same m _ _ (λ j b. ap (λ z. number_at cs j *ℚ z) (first_in m y j b))

    -- so what reaches it is in the dual cone
    pub reached_cone : (reached : List Reached) → AreFalling reached → (u total : ℚ) →
        ((x : Point) → IsInDomain p x → u ≤ℚ total +ℚ reached_times reached (variable_numbers (names_in p) p.tree x)) →
        IsInDualCone (variable_attribute v.whole v.attribute) (sides_in v) (number_at (reaching p.tree reached v.name))
    reached_cone reached falling u total bound y kept =
        let cs = reaching p.tree reached v.name in
        let n = entries_of (sides_in v) in
        bounded_multiples (u -ℚ total) (times n (number_at cs) y) (λ q nonneg.
        let z : Numbers = λ j. q *ℚ y j in
        let at_multiple : reached_times reached (variable_numbers (names_in p) p.tree (alone k z)) ≡ q *ℚ times n (number_at cs) y =
        reached_alone z reached falling ∙ either_end cs n z
        ∙ rat_sum_below-same n _ _ (λ j b. turn (number_at cs j) q (y j)) ∙ rat_sum_below-*ℚ n q (λ j. number_at cs j *ℚ y j) in
        moved u total (q *ℚ times n (number_at cs) y)
        (subst (λ w. u ≤ℚ total +ℚ w) at_multiple (bound (alone k z) (alone_kept z (multiples_kept (variable_attribute v.whole v.attribute) (sides_in v) q y nonneg kept)))))
      where
        turn : (c q y : ℚ) → c *ℚ (q *ℚ y) ≡ q *ℚ (c *ℚ y)
        turn c q y = ring (c ∷ q ∷ y ∷ []) (search reads depth 30) tt

        moved : (u t w : ℚ) → u ≤ℚ t +ℚ w → u -ℚ t ≤ℚ w
        moved u t w h = linear (u ∷ t ∷ w ∷ []) h (search reads depth 30) tt

-- ---- at 0 nothing is reached
pub zeros_in : (p : Problem) → IsInDomain p (λ k. zeros)
zeros_in p = to_domain p (λ k. zeros) (λ k v at. keeps_zeros (variable_attribute v.whole v.attribute) (sides_in v))

zero_if : (p : Problem) (o : Option Call) (j : ℕ) → variable_if (names_in p) (λ k. zeros) o j ≡ whole (pos 0)
zero_if p None j = refl
zero_if p (Some (calls.Variable v)) j = first_zeros (entries_of (sides_of v.shape)) j
zero_if p (Some (calls.Parameter q)) j = refl
zero_if p (Some (calls.Constant x)) j = refl
zero_if p (Some (calls.Atom m)) j = refl
zero_if p (Some (calls.Linear l)) j = refl
zero_if p (Some (calls.Pairing q)) j = refl

pub all_zero : (p : Problem) (reached : List Reached) → reached_times reached (variable_numbers (names_in p) p.tree (λ k. zeros)) ≡ whole (pos 0)
all_zero p [] = refl
all_zero p (r ∷ reached) = ap₂ ◌+ℚ◌ (zero_times r.coefficients (variable_numbers (names_in p) p.tree (λ k. zeros) r.node.0) (zero_if p (call_at p.tree r.node.0))) (all_zero p reached) ∙ +ℚ_idr _
