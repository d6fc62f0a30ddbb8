-- The numbers of sums and differences of operands.
use Rattle.std.proofs.Common.{◌≡◌, ℕ, Bool, true, false, if◌then◌else◌, List, [], ◌∷◌, Option, Some, None, Result, Ok, Err, option_and_then, refl, sym, ap, ap₂, subst, ◌∙◌}
use Rattle.dcx_shape.specs.declared.shape.Sides.{Sides}
use Rattle.dcx_shape.specs.declared.shape.Shape.{Shape}
use Rattle.dcx_shape.specs.declared.place.Place.{Place}
use Rattle.dcx_shape.specs.Shape.{sides_of}
use Rattle.dcx_affine.specs.Places.{same_sides}
use Rattle.dcx_arena.specs.Nodes.{sides_at}
use Rattle.dcx_call.specs.declared.call.Call.{Call}
use Rattle.dcx_call.specs.declared.call.Call.TheVariants as calls
use Rattle.dcx_call.specs.declared.linears.LinearCall.TheVariants as linears
use Rattle.dcx_call.specs.Values.{Given}
use Rattle.dcx_tree.specs.Expressions.{Value as Numbered, value_of}
use Rattle.dcx_array.specs.Shapes.{shape_with, common_of}
use Rattle.dcx_script_values.specs.declared.fault.ElabFault.{ElabFault}
use Rattle.dcx_script_values.specs.declared.fault.ElabFault.TheVariants.{ShapeClash}
use Rattle.dcx_script_values.specs.Values.{State, Act, and_then, ◌>>=◌, done, or_fault}
use Rattle.dcx_script_values.specs.Nodes.{Operand, standing, constant, operand_sides, push, pushed, promoted, all_pushed, all_promoted, broadcast_called, subtracted}
use Rattle.dcx_script_laws.specs.Trees.{HasTree}
use Rattle.dcx_script_laws.proofs.Pushed.{Grows, push-tree, push-grows, grows-from, grows-on}
use Rattle.dcx_script_laws.proofs.Standing.{Stand, stand-none, stand-more, stand-both, stand-sides, stand-push}

abbrev pub minus_call : Call
minus_call = calls.Linear (linears.Minus (record {}))

abbrev pub plus_call : Call
plus_call = calls.Linear (linears.Plus (record {}))

-- what is given is one value and one state
same-value : {A : Type 0} (x y : A) (s t : State) → done x s ≡ Ok (y, t) → x ≡ y
same-value {A} x y s t e = ap of e
  where
    of : Result (A × State) ElabFault → A
    of (Ok z) = z.0
    of (Err f) = x

same-state : {A : Type 0} (x y : A) (s t : State) → done x s ≡ Ok (y, t) → s ≡ t
same-state {A} x y s t e = ap of e
  where
    of : Result (A × State) ElabFault → State
    of (Ok z) = z.1
    of (Err f) = s

abbrev pub shared : Sides → Sides → Option Shape
shared a b = option_and_then shape_with (common_of (a ∷ b ∷ []))

module _ (setting point : Given) where
  -- a node comes that stands for this
  pub record Gives (s t : State) (i : ℕ) (v : Numbered) : Type 0 where
    pub tree : HasTree t
    pub grows : Grows s t
    pub stands : Stand setting point t.nodes (i ∷ []) (v ∷ [])

  gives-after : (s t u : State) (i : ℕ) (v : Numbered) → Grows s t → Gives t u i v → Gives s u i v
  gives-after s t u i v g h = record { tree = h.tree; grows = grows-on s t u g h.grows; stands = h.stands }

  -- ---- operands
  -- what an operand stands for
  abbrev pub OperandStands : State → Operand → Numbered → Type 0
  OperandStands s (standing i) v = Stand setting point s.nodes (i ∷ []) (v ∷ [])
  OperandStands s (constant a) v = value_of (calls.Constant a) setting point [] ≡ v

  pub operand-more : (s t : State) (p : Operand) (v : Numbered) → Grows s t → OperandStands s p v → OperandStands t p v
  operand-more s t (standing i) v g h = stand-more setting point s t (i ∷ []) (v ∷ []) g h
  operand-more s t (constant a) v g h = h

  pub node-sides : (s : State) (i : ℕ) (v : Numbered) → HasTree s → Stand setting point s.nodes (i ∷ []) (v ∷ []) → sides_at s.nodes i ≡ v.sides
  node-sides s i v are h = let e = stand-sides setting point s.nodes are (i ∷ []) (v ∷ []) h in cc

  operand-sides : (s : State) (p : Operand) (v : Numbered) → HasTree s → OperandStands s p v → operand_sides s.nodes p ≡ v.sides
  operand-sides s (standing i) v are h = node-sides s i v are h
  operand-sides s (constant a) v are h = ap (λ (w : Numbered). w.sides) h

  pub push-gives : (s t : State) (place : Place) (call : Call) (args : List ℕ) (i : ℕ) (vs : List Numbered) → HasTree s → Stand setting point s.nodes args vs → push place call args s ≡ Ok (i, t)
      → Gives s t i (value_of call setting point vs)
  push-gives s t place call args i vs are h e =
      record { tree = push-tree s t place call args i e are; grows = push-grows s t place call args i e; stands = stand-push setting point s t place call args i vs h e }

  done-gives : (s t : State) (i j : ℕ) (v : Numbered) → HasTree s → Stand setting point s.nodes (i ∷ []) (v ∷ []) → done i s ≡ Ok (j, t) → Gives s t j v
  done-gives s t i j v are h e =
      subst (λ (u : State). Gives s u j v) (same-state i j s t e)
      (subst (λ k. Gives s s k v) (same-value i j s t e) (record { tree = are; grows = grows-from s; stands = h }))

  pushed-gives : (place : Place) (s t : State) (p : Operand) (i : ℕ) (v : Numbered) → HasTree s → OperandStands s p v → pushed place p s ≡ Ok (i, t) → Gives s t i v
  pushed-gives place s t (standing k) i v are h e = done-gives s t k i v are h e
  pushed-gives place s t (constant a) i v are h e = subst (Gives s t i) h (push-gives s t place (calls.Constant a) [] i [] are (stand-none setting point s.nodes) e)

  -- what a promotion makes of a value
  abbrev pub lifted : Shape → Numbered → Numbered
  lifted to v = if same_sides v.sides (sides_of to) then v else value_of (calls.Linear (linears.Promote (record { to = to }))) setting point (v ∷ [])

  promoted-gives : (place : Place) (s t : State) (to : Shape) (i j : ℕ) (v : Numbered) → HasTree s → Stand setting point s.nodes (i ∷ []) (v ∷ [])
      → promoted place to i s ≡ Ok (j, t) → Gives s t j (lifted to v)
  promoted-gives place s t to i j v are h e = by (same_sides v.sides (sides_of to)) (ap (λ sides. chosen (same_sides sides (sides_of to))) (sym (node-sides s i v are h)) ∙ e)
    where
      promotion : Call
      promotion = calls.Linear (linears.Promote (record { to = to }))

      chosen : Bool → Result (ℕ × State) ElabFault
      chosen b = (if b then done i else push place promotion (i ∷ [])) s

      by : (b : Bool) → chosen b ≡ Ok (j, t) → Gives s t j (if b then v else value_of promotion setting point (v ∷ []))
      by true f = done-gives s t i j v are h f
      by false f = push-gives s t place promotion (i ∷ []) j (v ∷ []) are h f

  -- ---- sums
  -- the sum of two values that are broadcast to this shape
  abbrev pub summed : Shape → Numbered → Numbered → Numbered
  summed to v w = value_of plus_call setting point (lifted to v ∷ lifted to w ∷ [])

  abbrev sum_of_nodes : Place → Shape → ℕ → ℕ → Act ℕ
  sum_of_nodes place to i j = all_promoted place to (i ∷ j ∷ []) >>= λ js. push place plus_call js

  sum-gives : (place : Place) (s t : State) (to : Shape) (i j x : ℕ) (v w : Numbered) → HasTree s → Stand setting point s.nodes (i ∷ []) (v ∷ []) → Stand setting point s.nodes (j ∷ []) (w ∷ [])
      → sum_of_nodes place to i j s ≡ Ok (x, t) → Gives s t x (summed to v w)
  sum-gives place s t to i j x v w are h k e = first (promoted place to i s) refl e
    where
      both : (i' j' : ℕ) (a b : State) → Gives s a i' (lifted to v) → Gives a b j' (lifted to w) → push place plus_call (i' ∷ j' ∷ []) b ≡ Ok (x, t) → Gives s t x (summed to v w)
      both i' j' a b g g' f =
          gives-after s b t x (summed to v w) (grows-on s a b g.grows g'.grows)
          (push-gives b t place plus_call (i' ∷ j' ∷ []) x (lifted to v ∷ lifted to w ∷ []) g'.tree
          (stand-both setting point b.nodes i' (j' ∷ []) (lifted to v) (lifted to w ∷ []) (stand-more setting point a b (i' ∷ []) (lifted to v ∷ []) g'.grows g.stands) g'.stands) f)

      second : (i' : ℕ) (a : State) → Gives s a i' (lifted to v) → (r : Result (ℕ × State) ElabFault) → promoted place to j a ≡ r
          → and_then (and_then (and_then r (λ j'. done (j' ∷ []))) (λ js. done (i' ∷ js))) (λ js. push place plus_call js) ≡ Ok (x, t) → Gives s t x (summed to v w)
      second i' a g (Ok (j', b)) p f = both i' j' a b g (promoted-gives place a b to j j' w g.tree (stand-more setting point s a (j ∷ []) (w ∷ []) g.grows k) p) f
      second i' a g (Err d) p f = absurd cc

      first : (r : Result (ℕ × State) ElabFault) → promoted place to i s ≡ r
          → and_then (and_then r (λ i'. all_promoted place to (j ∷ []) >>= λ js. done (i' ∷ js))) (λ js. push place plus_call js) ≡ Ok (x, t) → Gives s t x (summed to v w)
      first (Ok (i', a)) p f = second i' a (promoted-gives place s a to i i' v are h p) (promoted place to j a) refl f
      first (Err d) p f = absurd cc

  -- two operands have been summed, broadcast to the shape that they share
  pub record Sums (s t : State) (x : ℕ) (v w : Numbered) : Type 0 where
    pub shape : Shape
    pub shares : shared v.sides w.sides ≡ Some shape
    pub gives : Gives s t x (summed shape v w)

  module _ (place : Place) (s t : State) (p q : Operand) (x : ℕ) (v w : Numbered) (are : HasTree s) (left : OperandStands s p v) (right : OperandStands s q w) where
    shares : shared (operand_sides s.nodes p) (operand_sides s.nodes q) ≡ shared v.sides w.sides
    shares = ap₂ shared (operand-sides s p v are left) (operand-sides s q w are right)

    -- the shape, and what is done with it
    by_shape : (f : Shape → Act ℕ) (u : Numbered) → u.sides ≡ w.sides → ((shape : Shape) → f shape s ≡ Ok (x, t) → Gives s t x (summed shape v u))
        → and_then (or_fault (ShapeClash place) (shared (operand_sides s.nodes p) (operand_sides s.nodes q)) s) f ≡ Ok (x, t) → Sums s t x v u
    by_shape f u same gives e = by (shared v.sides w.sides) refl (ap (λ o. and_then (or_fault (ShapeClash place) o s) f) (sym shares) ∙ e)
      where
        by : (o : Option Shape) → shared v.sides w.sides ≡ o → and_then (or_fault (ShapeClash place) o s) f ≡ Ok (x, t) → Sums s t x v u
        by None there g = absurd cc
        by (Some shape) there g = record { shape = shape; shares = ap (shared v.sides) same ∙ there; gives = gives shape g }

    -- both operands come to the tree
    by_operands : (f : ℕ → ℕ → Act ℕ) (u : Numbered) → ((i j : ℕ) (a : State) → HasTree a → Grows s a → Stand setting point a.nodes (i ∷ []) (v ∷ [])
        → Stand setting point a.nodes (j ∷ []) (w ∷ []) → f i j a ≡ Ok (x, t) → Gives a t x u)
        → and_then (pushed place p s) (λ i. pushed place q >>= λ j. f i j) ≡ Ok (x, t) → Gives s t x u
    by_operands f u gives e = first (pushed place p s) refl e
      where
        second : (i : ℕ) (a : State) → Gives s a i v → (r : Result (ℕ × State) ElabFault) → pushed place q a ≡ r → and_then r (λ j. f i j) ≡ Ok (x, t) → Gives s t x u
        second i a g (Ok (j, b)) h k =
            let g' = pushed-gives place a b q j w g.tree (operand-more s a q w g.grows right) h in
            let grown = grows-on s a b g.grows g'.grows in
            gives-after s b t x u grown (gives i j b g'.tree grown (stand-more setting point a b (i ∷ []) (v ∷ []) g'.grows g.stands) g'.stands k)
        second i a g (Err d) h k = absurd cc

        first : (r : Result (ℕ × State) ElabFault) → pushed place p s ≡ r → and_then r (λ i. pushed place q >>= λ j. f i j) ≡ Ok (x, t) → Gives s t x u
        first (Ok (i, a)) h k = second i a (pushed-gives place s a p i v are left h) (pushed place q a) refl k
        first (Err d) h k = absurd cc

    -- the negative of the right operand
    abbrev pub opposite : Numbered
    opposite = value_of minus_call setting point (w ∷ [])

    pub subtracted-sums : subtracted place p q s ≡ Ok (x, t) → Sums s t x v opposite
    subtracted-sums e =
        by_shape (λ shape. pushed place p >>= λ i. pushed place q >>= λ j. push place minus_call (j ∷ []) >>= λ m. sum_of_nodes place shape i m) opposite refl
        (λ shape. by_operands (λ i j. push place minus_call (j ∷ []) >>= λ m. sum_of_nodes place shape i m) (summed shape v opposite) (after shape)) e
      where
        after : (shape : Shape) (i j : ℕ) (a : State) → HasTree a → Grows s a → Stand setting point a.nodes (i ∷ []) (v ∷ []) → Stand setting point a.nodes (j ∷ []) (w ∷ [])
            → and_then (push place minus_call (j ∷ []) a) (λ m. sum_of_nodes place shape i m) ≡ Ok (x, t) → Gives a t x (summed shape v opposite)
        after shape i j a tree grown h k f = by (push place minus_call (j ∷ []) a) refl f
          where
            by : (r : Result (ℕ × State) ElabFault) → push place minus_call (j ∷ []) a ≡ r → and_then r (λ m. sum_of_nodes place shape i m) ≡ Ok (x, t) → Gives a t x (summed shape v opposite)
            by (Ok (m, b)) n o =
                let g = push-gives a b place minus_call (j ∷ []) m (w ∷ []) tree k n in
                gives-after a b t x (summed shape v opposite) g.grows (sum-gives place b t shape i m x v opposite g.tree (stand-more setting point a b (i ∷ []) (v ∷ []) g.grows h) g.stands o)
            by (Err d) n o = absurd cc

    pub broadcast-sums : broadcast_called place plus_call (p ∷ q ∷ []) s ≡ Ok (x, t) → Sums s t x v w
    broadcast-sums e = by_shape (λ shape. all_pushed place (p ∷ q ∷ []) >>= λ is. all_promoted place shape is >>= λ js. push place plus_call js) w refl (λ shape f. by_operands
        (λ i j. sum_of_nodes place shape i j) (summed shape v w) (λ i j a tree grown h k. sum-gives place a t shape i j x v w tree h k) (listed shape f)) e
      where
        -- both operands of a list, one after the other
        listed : (shape : Shape) → (all_pushed place (p ∷ q ∷ []) >>= λ is. all_promoted place shape is >>= λ js. push place plus_call js) s ≡ Ok (x, t)
            → and_then (pushed place p s) (λ i. pushed place q >>= λ j. sum_of_nodes place shape i j) ≡ Ok (x, t)
        listed shape f = sym (first (pushed place p s)) ∙ f
          where
            second : (i : ℕ) (r : Result (ℕ × State) ElabFault)
                → and_then (and_then (and_then r (λ j. done (j ∷ []))) (λ is. done (i ∷ is))) (λ is. all_promoted place shape is >>= λ js. push place plus_call js)
                ≡ and_then r (λ j. sum_of_nodes place shape i j)
            second i (Ok y) = refl
            second i (Err d) = refl

            first : (r : Result (ℕ × State) ElabFault)
                → and_then (and_then r (λ i. all_pushed place (q ∷ []) >>= λ is. done (i ∷ is))) (λ is. all_promoted place shape is >>= λ js. push place plus_call js)
                ≡ and_then r (λ i. pushed place q >>= λ j. sum_of_nodes place shape i j)
            first (Ok y) = second y.0 (pushed place q y.1)
            first (Err d) = refl
