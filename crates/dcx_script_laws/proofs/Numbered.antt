-- A difference has the numbers of the sum with the negative.
use Rattle.std.proofs.Common.{◌≡◌, ℕ, zero, suc, ◌<◌, nat_lt, Bool, true, false, true≢false, if◌then◌else◌, List, [], ◌∷◌}
use Rattle.std.proofs.Common.{length, Option, Some, None, Result, Ok, Err, pos, get_or, refl, sym, ap, ap₂, subst, ◌∙◌}
use Rattle.std.specs.List.{list_all, list_any}
use Rattle.std.proofs.lemmas.Option.{same_Some}
use Rattle.dcx_math.specs.Rational.{ℚ, whole, neg_ℚ}
use Rattle.dcx_frac.specs.declared.fraction.Frac.{Frac}
use Rattle.dcx_frac.specs.Frac.{value}
use Rattle.dcx_shape.specs.declared.place.Place.{Place}
use Rattle.dcx_shape.specs.Shape.{sides_of}
use Rattle.dcx_shape.specs.Sides.{entries_of}
use Rattle.dcx_atom.specs.declared.array.Array.{Array}
use Rattle.dcx_atom.specs.Arrays.{number_at}
use Rattle.dcx_atom.specs.Formed.{zero_frac}
use Rattle.dcx_atom.proofs.FormedSums.{value-zero_frac}
use Rattle.dcx_atom.proofs.Fractions.{value-negative}
use Rattle.dcx_call.specs.declared.call.Call.TheVariants as calls
use Rattle.dcx_call.specs.Values.{Given}
use Rattle.dcx_tree.specs.Expressions.{Value as Numbered, value_of}
use Rattle.dcx_array.specs.Arrays.{entry}
use Rattle.dcx_array.specs.declared.fault.ArrayFault.{ArrayFault}
use Rattle.dcx_array.specs.Operators.{subtracted as difference, negated}
use Rattle.dcx_syntax.specs.declared.tree.Sign.TheVariants.{Plus, Minus}
use Rattle.dcx_script_values.specs.declared.fault.ElabFault.{ElabFault}
use Rattle.dcx_script_values.specs.Values.{Value, plain, list, expression, items_of, State, and_then, done, or_array_fault}
use Rattle.dcx_script_values.specs.Nodes.{Operand, standing, constant, push, subtracted}
use Rattle.dcx_script_values.specs.Operands.{as_plain}
use Rattle.dcx_script_values.specs.View.{is_node}
use Rattle.dcx_script_values.specs.Kinds.{Reading, operand, nested, empty, unfit, reading, list_reading, or_unfit, is_number, is_list, vector_of}
use Rattle.dcx_operators.specs.Operators.{add_values, added_pair, with_expression, beside}
use Rattle.dcx_script_laws.specs.Trees.{HasTree, IsThere}
use Rattle.dcx_script_laws.specs.Differences.{plus_negative}
use Rattle.dcx_script_laws.specs.Numbers.{DifferencesHaveSameNumbers}
use Rattle.dcx_script_laws.proofs.Negatives.{entry-negated}
use Rattle.dcx_script_laws.proofs.Standing.{Stand, stand-one, stand-same}
use Rattle.dcx_script_laws.proofs.Summed.{minus_call, shared, OperandStands, operand-more, push-gives, summed, Sums, subtracted-sums, broadcast-sums}

-- ---- the negative of a plain array
number_at-entry : (xs : List Frac) (k : ℕ) → number_at xs k ≡ value (get_or xs k zero_frac)
number_at-entry [] k = sym value-zero_frac
number_at-entry (x ∷ xs) zero = refl
number_at-entry (x ∷ xs) (suc k) = number_at-entry xs k

number_at-negated : (b : Array) (k : ℕ) → number_at (negated b).entries k ≡ neg_ℚ (number_at b.entries k)
number_at-negated b k =
    number_at-entry (negated b).entries k ∙ ap value (entry-negated b k) ∙ value-negative (entry b k) ∙ ap neg_ℚ (sym (number_at-entry b.entries k))

module _ (setting point : Given) where
  abbrev constant_value : Array → Numbered
  constant_value a = value_of (calls.Constant a) setting point []

  constant-negated : (b : Array) → constant_value (negated b) ≡ value_of minus_call setting point (constant_value b ∷ [])
  constant-negated b = λ i. record {
    sides = sides_of b.shape;
    numbers = λ k. by (number_at (negated b).entries k) (number_at b.entries k) (number_at-negated b k)
        (nat_lt k (entries_of (sides_of b.shape))) i;
  }
    where
      by : (x y : ℚ) → x ≡ neg_ℚ y → (c : Bool) → (if c then x else whole (pos 0)) ≡ (if c then neg_ℚ (if c then y else whole (pos 0)) else whole (pos 0))
      by x y e true = e
      by x y e false = refl

  -- ---- operands that are there
  standing-in_list : (vs : List Value) (i : ℕ) → list_reading vs ≡ operand (standing i) → ⊥
  standing-in_list [] i e = cc
  standing-in_list (v ∷ vs) i e = by (list_all is_number (v ∷ vs)) (list_any is_list (v ∷ vs)) (vector_of (v ∷ vs)) e
    where
      by : (b c : Bool) (o : Option Array) → (if b then or_unfit o else (if c then nested else unfit)) ≡ operand (standing i) → ⊥
      by true c (Some a) f = cc
      by true c None f = cc
      by false true o f = cc
      by false false o f = cc

  standing-there : (s : State) (v : Value) (i : ℕ) → reading v ≡ operand (standing i) → IsThere s v → i < length s.nodes
  standing-there s (expression k) i e there = let same : k ≡ i = cc in subst (λ j. j < length s.nodes) same there
  standing-there s (list vs) i e there = absurd (standing-in_list (items_of vs) i e)
  standing-there s v i e there = absurd cc

  operand-stands : (s : State) (v : Value) (p : Operand) → HasTree s → reading v ≡ operand p → IsThere s v → (n : Numbered) × OperandStands setting point s p n
  operand-stands s v (standing i) are e there = stand-one setting point s.nodes are i (standing-there s v i e there)
  operand-stands s v (constant a) are e there = (constant_value a, refl)

  -- ---- what operators make of operands
  abbrev wrapped : Result (ℕ × State) ElabFault → Result (Value × State) ElabFault
  wrapped r = and_then r (λ x. done (expression x))

  unwrapped : (r : Result (ℕ × State) ElabFault) (x : ℕ) (t : State) → wrapped r ≡ Ok (expression x, t) → r ≡ Ok (x, t)
  unwrapped (Ok (k, u)) x t e = ap of e
    where
      number : Value → ℕ
      number (expression j) = j
      number v = k

      of : Result (Value × State) ElabFault → Result (ℕ × State) ElabFault
      of (Ok z) = Ok (number z.0, z.1)
      of (Err f) = Err f
  unwrapped (Err f) x t e = absurd cc

  beside-right : (v : Value) (j : ℕ) → beside v (expression j) ≡ with_expression (reading v) (operand (standing j))
  beside-right (expression i) j = refl
  beside-right v j = refl

  -- a difference of what is read and an operand
  difference-read : (place : Place) (r : Reading) (q : Operand) (s t : State) (x : ℕ) → added_pair Minus place (with_expression r (operand q)) s ≡ Ok (expression x, t)
      → (p : Operand) × (r ≡ operand p) × (subtracted place p q s ≡ Ok (x, t))
  difference-read place (operand p) q s t x e = (p, refl, unwrapped (subtracted place p q s) x t e)
  difference-read place nested q s t x e = absurd cc
  difference-read place empty q s t x e = absurd cc
  difference-read place unfit q s t x e = absurd cc

  -- a plain array is no node
  no-node : (place : Place) (r : Result Array ArrayFault) (s t : State) (x : ℕ) → as_plain (or_array_fault place r) s ≡ Ok (expression x, t) → ⊥
  no-node place (Ok a) s t x e = true≢false (sym (ap of e))
    where
      of : Result (Value × State) ElabFault → Bool
      of (Ok z) = is_node z.0
      of (Err f) = false
  no-node place (Err f) s t x e = cc

  -- ---- both have the same numbers
  -- the two nodes stand for one value
  pub record Both (t u : State) (x y : ℕ) : Type 0 where
    pub numbers : Numbered
    pub left : Stand setting point t.nodes (x ∷ []) (numbers ∷ [])
    pub right : Stand setting point u.nodes (y ∷ []) (numbers ∷ [])

  same-sums : (s t s' u : State) (x y : ℕ) (v w w' : Numbered) → w' ≡ w → Sums setting point s t x v w → Sums setting point s' u y v w' → Both t u x y
  same-sums s t s' u x y v w w' same h k =
      let shape : h.shape ≡ k.shape = same_Some h.shape k.shape (sym h.shares ∙ ap (λ (z : Numbered). shared v.sides z.sides) (sym same) ∙ k.shares) in
      let value : summed setting point k.shape v w' ≡ summed setting point h.shape v w = ap₂ (λ to z. summed setting point to v z) (sym shape) same in
      record { numbers = summed setting point h.shape v w; left = h.gives.stands; right = subst (λ z. Stand setting point u.nodes (y ∷ []) (z ∷ [])) value k.gives.stands }

  module _ (place : Place) (s t u : State) (x y : ℕ) (are : HasTree s) where
    -- a node is subtracted
    of-node : (v : Value) (j : ℕ) → IsThere s v → j < length s.nodes → add_values Minus place v (expression j) s ≡ Ok (expression x, t)
        → plus_negative place v (expression j) s ≡ Ok (expression y, u) → Both t u x y
    of-node v j left right d p =
        let read = difference-read place (reading v) (standing j) s t x (ap (λ z. added_pair Minus place z s) (sym (beside-right v j)) ∙ d) in
        let n = operand-stands s v read.0 are read.1 left in
        let m = stand-one setting point s.nodes are j right in
        by read.0 read.1 n.0 n.1 m.0 m.1 (subtracted-sums setting point place s t read.0 (standing j) x n.0 m.0 are n.1 m.1 read.2) (push place minus_call (j ∷ []) s) refl p
      where
        by : (p : Operand) → reading v ≡ operand p → (n : Numbered) → OperandStands setting point s p n → (m : Numbered) → Stand setting point s.nodes (j ∷ []) (m ∷ [])
            → Sums setting point s t x n (value_of minus_call setting point (m ∷ [])) → (r : Result (ℕ × State) ElabFault) → push place minus_call (j ∷ []) s ≡ r
            → and_then (wrapped r) (λ z. add_values Plus place v z) ≡ Ok (expression y, u) → Both t u x y
        by p reads n hn m hm sums (Ok (k, a)) pushes g =
            let neg = value_of minus_call setting point (m ∷ []) in
            let given = push-gives setting point s a place minus_call (j ∷ []) k (m ∷ []) are hm pushes in
            let added : added_pair Plus place (with_expression (operand p) (operand (standing k))) a ≡ Ok (expression y, u) =
            ap (λ z. added_pair Plus place (with_expression z (operand (standing k))) a) (sym reads) ∙ ap (λ z. added_pair Plus place z a) (sym (beside-right v k)) ∙ g in
            same-sums s t a u x y n neg neg refl sums
            (broadcast-sums setting point place a u p (standing k) y n neg given.tree (operand-more setting point s a p n given.grows hn) given.stands (unwrapped _ y u added))
        by p reads n hn m hm sums (Err fault) pushes g = absurd cc

    -- a plain array is subtracted from a node
    of-plain : (i : ℕ) (b : Array) → i < length s.nodes → add_values Minus place (expression i) (plain b) s ≡ Ok (expression x, t)
        → plus_negative place (expression i) (plain b) s ≡ Ok (expression y, u) → Both t u x y
    of-plain i b left d p =
        let n = stand-one setting point s.nodes are i left in
        let neg = value_of minus_call setting point (constant_value b ∷ []) in
        same-sums s t s u x y n.0 neg (constant_value (negated b)) (constant-negated b)
        (subtracted-sums setting point place s t (standing i) (constant b) x n.0 (constant_value b) are n.1 refl (unwrapped (subtracted place (standing i) (constant b) s) x t d))
        (broadcast-sums setting point place s u (standing i) (constant (negated b)) y n.0 (constant_value (negated b)) are n.1 refl (unwrapped _ y u p))

    of-values : (v w : Value) → IsThere s v → IsThere s w → add_values Minus place v w s ≡ Ok (expression x, t) → plus_negative place v w s ≡ Ok (expression y, u) → Both t u x y
    of-values v (expression j) left right d p = of-node v j left right d p
    of-values (expression i) (plain b) left right d p = of-plain i b left d p
    of-values (plain a) (plain b) left right d p = absurd (no-node place (difference a b) s t x d)
    of-values v (plain b) left right d p = absurd cc
    of-values v w left right d p = absurd cc

-- the expressions are the same at every setting and every point
none_given : Given
none_given name j = whole (pos 0)

pub numbers_hold : DifferencesHaveSameNumbers
numbers_hold place v w s t u x y are left right d p =
    let trees = of-values none_given none_given place s t u x y are v w left right d p in
    record {
      left = trees.left.tree;
      right = trees.right.tree;
      left_is = trees.left.unfolds;
      right_is = trees.right.unfolds;
      numbers = λ setting point.
          let both = of-values setting point place s t u x y are v w left right d p in
          stand-same setting point t.nodes (x ∷ []) (both.numbers ∷ []) trees.left.tree both.left trees.left.unfolds
          ∙ sym (stand-same setting point u.nodes (y ∷ []) (both.numbers ∷ []) trees.right.tree both.right trees.right.unfolds);
    }
