-- Products and quotients: two sides, and which of them scales the other.
use Rattle.std.proofs.Common.{◌≡◌, ℕ, zero, suc, ◌<◌, arith, Bool, true, false, not, ◌&&◌, if◌then◌else◌, List, [], ◌∷◌, length, map, get_or}
use Rattle.std.proofs.Common.{slice_index_or, All, Option, Some, None, IfSome, IsSome, refl, sym, ap, ap₂, ◌∙◌, subst, Result}
use Rattle.std.specs.List.{list_all}
use Rattle.std.proofs.lemmas.Bool.{and_parts}
use Rattle.std.proofs.lemmas.List.{length-map}
use Rattle.std.proofs.lemmas.List.Elements.{All-cons, All-nil}
use Rattle.std.proofs.lemmas.Option.{same_Some, none-some, slice_get_within}
use Rattle.dcx_frac.specs.declared.fraction.Frac.{Frac}
use Rattle.dcx_frac.specs.declared.fraction.Passes.{Passes}
use Rattle.dcx_shape.specs.declared.shape.Sides.{Sides}
use Rattle.dcx_shape.specs.Sides.{entries_of}
use Rattle.dcx_atom.specs.declared.stops.ValueStop.{ValueStop}
use Rattle.dcx_atom.specs.Arrays.{list_below}
use Rattle.dcx_atom.specs.Arrays as arrays
use Rattle.dcx_atom.specs.Formed.{zero_frac}
use Rattle.dcx_atom.proofs.BoundRows.{length-list_below}
use Rattle.dcx_atom.proofs.Lists.{get_or-list_below}
use Rattle.dcx_affine.specs.declared.pairing.Pairing.{Pairing}
use Rattle.dcx_affine.specs.declared.pairing.Pairing.TheVariants.{Times, MatTimes, Over}
use Rattle.dcx_affine.specs.declared.pairing.Pair.{Pair}
use Rattle.dcx_affine.specs.Pairing.{paired_sides, pairs_at}
use Rattle.dcx_point.specs.Pairs.{Pairs}
use Rattle.dcx_arena.specs.declared.node.NodeId.{NodeId}
use Rattle.dcx_arena.specs.Nodes.{IsNode, call_at, positions, args_at, sides_at}
use Rattle.dcx_arena.proofs.Positions.{position_at}
use Rattle.dcx_call.specs.declared.call.Call.TheVariants as calls
use Rattle.dcx_call.specs.Calls.{sides_of_two}
use Rattle.dcx_call.proofs.Entries.{some_fact}
use Rattle.dcx_convex.specs.Rules.{Rules}
use Rattle.dcx_tree.specs.declared.problem.Problem.{Problem}
use Rattle.dcx_tree.specs.Nodes.{Node, arg_sides}
use Rattle.dcx_tree.proofs.NodeValues.{args_are, sides_are}
use Rattle.dcx_linear.specs.declared.change.Change.{Change}
use Rattle.dcx_linear.specs.declared.form.Form.{Form}
use Rattle.dcx_linear.specs.declared.form.FormTerm.{FormTerm}
use Rattle.dcx_linear.specs.Forms.{is_constant}
use Rattle.dcx_linear.specs.Multiples.{HasNumbers, is_number_term}
use Rattle.dcx_entries.specs.declared.entries.EntryForms.{EntryForms}
use Rattle.dcx_entries.specs.declared.scaling.Side.{Side}
use Rattle.dcx_entries.specs.declared.scaling.Scaling.{Scaling}
use Rattle.dcx_entries.specs.declared.scaling.Scaling.TheVariants.{LeftNumber, RightNumber, LeftAffine, RightAffine}
use Rattle.dcx_entries.specs.Forming.{FormsEach}
use Rattle.dcx_entries.specs.Entries.{PairEntry}
use Rattle.dcx_entries.specs.Standing.{args_among, HasNumbersFor}
use Rattle.dcx_entries.specs.Nodes.{is_told, has_numbers, pairing_scaling, side_of, scaling_of}
use Rattle.dcx_nodes.specs.Marks.{AreMarks, side_marked}
use Rattle.dcx_nodes.specs.Formed.{ReducedGives}
use Rattle.dcx_nodes.proofs.AtNode.{the_node, shape_given}
use Rattle.dcx_nodes.proofs.Gives.{each_alike, reduced_by}

-- ---- forms of numbers
told_some : (o : Option Frac) → is_told o ≡ true → IsSome o
told_some None e = absurd (cc)
told_some (Some x) e = refl

module _ {C : Type 0} (number_of : C → Option Frac) where
  terms_told : (ts : List (FormTerm C)) → list_all (λ (t : FormTerm C). is_told (number_of t.coefficient)) ts ≡ true → All (is_number_term number_of) ts
  terms_told [] e = All-nil (is_number_term number_of)
  terms_told (t ∷ ts) e =
      let b = and_parts (is_told (number_of t.coefficient)) (list_all (λ (t : FormTerm C). is_told (number_of t.coefficient)) ts) e in
      All-cons (is_number_term number_of) t ts (told_some (number_of t.coefficient) b.0) (terms_told ts b.1)

  form_told : (f : Form C) → has_numbers number_of f ≡ true → HasNumbers number_of f
  form_told f e =
      let b = and_parts (is_told (number_of f.constant)) (list_all (λ (t : FormTerm C). is_told (number_of t.coefficient)) f.terms) e in
      (told_some (number_of f.constant) b.0, terms_told f.terms b.1)

  module _ (of_number : Frac → C) (told : (x : Frac) → number_of (of_number x) ≡ Some x) where
    -- each entry of forms that have numbers has them, and so has 0
    entries_told : (fs : List (Form C)) → list_all (has_numbers number_of) fs ≡ true → (e : ℕ) → HasNumbers number_of (slice_index_or fs e (is_constant (of_number zero_frac)))
    entries_told [] h e = (subst IsSome (sym (told zero_frac)) refl, All-nil (is_number_term number_of))
    entries_told (f ∷ fs) h zero = form_told f (and_parts (has_numbers number_of f) (list_all (has_numbers number_of) fs) h).0
    entries_told (f ∷ fs) h (suc e) = entries_told fs (and_parts (has_numbers number_of f) (list_all (has_numbers number_of) fs) h).1 e

    -- the side that an affine number is multiplied by has them
    module _ (l r : Side) (args : ℕ → ℕ → Form C) (left : l.numbers ≡ true → (e : ℕ) → HasNumbers number_of (args 0 e)) (right : r.numbers ≡ true → (e : ℕ) → HasNumbers number_of (args 1 e))
        (x : Pair) where
      by_right : (b : Bool) → (r.fixed && l.numbers) ≡ b → HasNumbersFor number_of (if b then RightAffine else LeftNumber) args x
      by_right true e = left (and_parts r.fixed l.numbers e).1 x.left
      by_right false e = tt

      by_left : (b : Bool) → (l.fixed && r.numbers) ≡ b → HasNumbersFor number_of (if b then LeftAffine else (if r.fixed && l.numbers then RightAffine else LeftNumber)) args x
      by_left true e = right (and_parts l.fixed r.numbers e).1 x.right
      by_left false e = by_right (r.fixed && l.numbers) refl

      by_second : (b : Bool) → HasNumbersFor number_of (if b then RightNumber else (if l.fixed && r.numbers then LeftAffine else (if r.fixed && l.numbers then RightAffine else LeftNumber))) args x
      by_second true = tt
      by_second false = by_left (l.fixed && r.numbers) refl

      by_first : (b : Bool)
          → HasNumbersFor number_of
          (if b then LeftNumber else (if r.number then RightNumber else (if l.fixed && r.numbers then LeftAffine else (if r.fixed && l.numbers then RightAffine else LeftNumber)))) args x
      by_first true = tt
      by_first false = by_second r.number

      pub scaled_has_numbers : (q : Pairing) → HasNumbersFor number_of (pairing_scaling q l r) args x
      scaled_has_numbers Times = by_first l.number
      scaled_has_numbers MatTimes = by_first l.number
      scaled_has_numbers Over = tt

-- ---- the two sides of a node
two_of : (q : Pairing) (f : ℕ → Sides) (ids : List ℕ) (sides : Sides) → sides_of_two q (map f ids) ≡ Some sides → length ids ≡ 2
two_of q f [] sides e = absurd (none-some sides e)
two_of q f (a ∷ []) sides e = absurd (none-some sides e)
two_of q f (a ∷ b ∷ []) sides e = refl
two_of q f (a ∷ b ∷ d ∷ rest) sides e = absurd (none-some sides e)

two_sides : (q : Pairing) (f : ℕ → Sides) (ids : List ℕ) (sides : Sides) (d : ℕ) → sides_of_two q (map f ids) ≡ Some sides →
    (paired_sides q (f (get_or ids 0 d)) (f (get_or ids 1 d)) ≡ Some sides) × (arrays.sides_at (map f ids) 0 ≡ f (get_or ids 0 d)) × (arrays.sides_at (map f ids) 1 ≡ f (get_or ids 1 d))
two_sides q f [] sides d e = absurd (none-some sides e)
two_sides q f (a ∷ []) sides d e = absurd (none-some sides e)
two_sides q f (a ∷ b ∷ []) sides d e = (e, refl, refl)
two_sides q f (a ∷ b ∷ c ∷ rest) sides d e = absurd (none-some sides e)

pub same_get : {A : Type 0} (xs : List A) (k : ℕ) (d e : A) → k < length xs → get_or xs k d ≡ get_or xs k e
same_get [] k d e b = absurd (omega (arith, b))
same_get (x ∷ xs) zero d e b = refl
same_get (x ∷ xs) (suc k) d e b = same_get xs k d e (omega (arith, b))

-- the forms of an argument that is there
arg_among : {C : Type 0} (of_number : Frac → C) (forms : List (List (Form C))) (ids : List ℕ) (k d e : ℕ) → k < length ids →
    args_among of_number forms ids k e ≡ slice_index_or (slice_index_or forms (get_or ids k d) []) e (is_constant (of_number zero_frac))
arg_among of_number forms [] k d e b = absurd (omega (arith, b))
arg_among of_number forms (a ∷ ids) zero d e b = refl
arg_among of_number forms (a ∷ ids) (suc k) d e b = arg_among of_number forms ids k d e (omega (arith, b))

module _ (p : Problem) (i : ℕ) (q : Pairing) (c : call_at p.tree i ≡ Some (calls.Pairing q)) (n : Node) (at : IsNode p.tree i n) (ids : List ℕ) (ids_are : ids ≡ args_at p.tree i) where
  same_args : ids ≡ n.args
  same_args = ids_are ∙ args_are p.tree i n at

  two : sides_of_two q (map (sides_at p.tree) ids) ≡ Some n.sides
  two = ap (λ zs. sides_of_two q (map (sides_at p.tree) zs)) same_args ∙ shape_given p i (calls.Pairing q) c n at

  pub args_two : length ids ≡ 2
  args_two = two_of q (sides_at p.tree) ids n.sides two

  pub paired : (d : ℕ) → paired_sides q (sides_at p.tree (get_or ids 0 d)) (sides_at p.tree (get_or ids 1 d)) ≡ Some n.sides
  paired d = (two_sides q (sides_at p.tree) ids n.sides d two).0

  pub arg_below : (k d : ℕ) → k < 2 → get_or ids k d < i
  arg_below k d b = subst (λ zs. All (λ a. a < i) zs) (sym same_args) (p.nodes.earlier i n at) k d (omega (arith, b, args_two))

  module _ (d : ℕ) (pairs : List (List Pair)) (h : IfSome (paired_sides q (sides_at p.tree (get_or ids 0 d)) (sides_at p.tree (get_or ids 1 d)))
      (λ s. pairs ≡ list_below (entries_of s) (pairs_at q (sides_at p.tree (get_or ids 0 d)) (sides_at p.tree (get_or ids 1 d))))) where
    pairs_are : pairs ≡ list_below (entries_of n.sides) (pairs_at q (sides_at p.tree (get_or ids 0 d)) (sides_at p.tree (get_or ids 1 d)))
    pairs_are = some_fact (λ s. pairs ≡ list_below (entries_of s) (pairs_at q (sides_at p.tree (get_or ids 0 d)) (sides_at p.tree (get_or ids 1 d)))) _ n.sides (paired d) h

    pub pairs_counted : length pairs ≡ entries_of n.sides
    pairs_counted = ap length pairs_are ∙ length-list_below (entries_of n.sides) (pairs_at q (sides_at p.tree (get_or ids 0 d)) (sides_at p.tree (get_or ids 1 d)))

    pairs_told : (j : ℕ) → j < entries_of n.sides → slice_index_or pairs j [] ≡ pairs_at q (arrays.sides_at (map (sides_at p.tree) ids) 0) (arrays.sides_at (map (sides_at p.tree) ids) 1) j
    pairs_told j b =
        let t = two_sides q (sides_at p.tree) ids n.sides d two in
        ap (λ ps. slice_index_or ps j []) pairs_are ∙ get_or-list_below (entries_of n.sides) (pairs_at q (sides_at p.tree (get_or ids 0 d)) (sides_at p.tree (get_or ids 1 d))) j [] b
        ∙ ap₂ (λ x y. pairs_at q x y j) (sym t.1) (sym t.2)

    module _ {C : Type 0} (of_number : Frac → C) (number_of : C → Option Frac) (Sums : C → C → Result C Passes → Type 0) (Changes : Change → C → Result C Passes → Type 0)
        (Reads : ℕ → List ℕ → ℕ → Pairs → C → Type 0) (told : (x : Frac) → number_of (of_number x) ≡ Some x) (setting : Pairs) (reduced fixed : List Bool) (forms : List (List (Form C))) where
      -- which side scales, as it is told by marks
      abbrev pub scaling_marked : Scaling
      scaling_marked = pairing_scaling q (side_marked number_of reduced fixed forms (get_or ids 0 d)) (side_marked number_of reduced fixed forms (get_or ids 1 d))

      side_told : (k : ℕ) → k < 2 → list_all (has_numbers number_of) (slice_index_or forms (get_or ids k d) []) ≡ true → (e : ℕ) → HasNumbers number_of (args_among of_number forms ids k e)
      side_told k b h e = subst (HasNumbers number_of) (sym (arg_among of_number forms ids k d e (omega (arith, b, args_two))))
          (entries_told number_of of_number told (slice_index_or forms (get_or ids k d) []) h e)

      pub pairs_have_numbers : (ps : List Pair) → All (HasNumbersFor number_of scaling_marked (args_among of_number forms ids)) ps
      pairs_have_numbers [] = All-nil (HasNumbersFor number_of scaling_marked (args_among of_number forms ids))
      pairs_have_numbers (x ∷ xs) = All-cons (HasNumbersFor number_of scaling_marked (args_among of_number forms ids)) x xs
          (scaled_has_numbers number_of of_number told (side_marked number_of reduced fixed forms (get_or ids 0 d)) (side_marked number_of reduced fixed forms (get_or ids 1 d))
          (args_among of_number forms ids)
          (side_told 0 (omega arith)) (side_told 1 (omega arith)) x q) (pairs_have_numbers xs)

      -- by the rules whose marks these are
      side_is : (rules : Rules) → AreMarks rules p reduced fixed → (k : ℕ) → k < 2
          → side_marked number_of reduced fixed forms (get_or ids k d) ≡ side_of of_number number_of Sums Changes Reads rules p setting forms (get_or ids k 0)
      side_is rules marks k b =
          let there : get_or ids k d ≡ get_or ids k 0 = same_get ids k d 0 (omega (arith, b, args_two)) in
          let lt : get_or ids k 0 < length p.tree = (let below = arg_below k 0 b in let within = slice_get_within p.tree i n at in omega (arith, below, within)) in
          ap (side_marked number_of reduced fixed forms) there
          ∙ ap₂ (λ x y. record { number = not x; fixed = y; numbers = list_all (has_numbers number_of) (slice_index_or forms (get_or ids k 0) []) }) (marks.reduces (get_or ids k 0) lt)
          (marks.fixes (get_or ids k 0) lt)

      abbrev pub PairGives : ℕ → Result (EntryForms C) ValueStop → Type 0
      PairGives j r = PairEntry of_number number_of Sums Changes scaling_marked (args_among of_number forms ids) (slice_index_or pairs j []) j r

      abbrev PairTold : Scaling → List ℕ → List Sides → ℕ → Result (EntryForms C) ValueStop → Type 0
      PairTold s args sides j r = PairEntry of_number number_of Sums Changes s (args_among of_number forms args) (pairs_at q (arrays.sides_at sides 0) (arrays.sides_at sides 1) j) j r

      pub pair_gives : (size : ℕ) (r : Result (List (EntryForms C)) ValueStop) → size ≡ entries_of (sides_at p.tree i) → FormsEach PairGives size r →
          ReducedGives of_number number_of Sums Changes Reads p setting reduced fixed forms i r
      pair_gives size r size_is f =
          reduced_by of_number number_of Sums Changes Reads p setting reduced fixed forms i (calls.Pairing q) c size size_is r
          (λ rules marks z there.
          let Scaled : List ℕ → Scaling = λ args. scaling_of of_number number_of Sums Changes Reads rules p setting q forms args in
          let scaling_is : scaling_marked ≡ Scaled ids = ap₂ (pairing_scaling q) (side_is rules marks 0 (omega arith)) (side_is rules marks 1 (omega arith)) in
          let below : (j : ℕ) → j < size → j < entries_of n.sides = λ j b. subst (λ m. j < m) (size_is ∙ ap entries_of (sides_are p.tree i n at)) b in
          subst (λ (y : Node). FormsEach (PairTold (Scaled y.args) y.args (arg_sides p.tree y)) size r) (same_Some n z (sym at ∙ there))
          (subst (λ zs. FormsEach (PairTold (Scaled zs) zs (map (sides_at p.tree) zs)) size r) same_args
          (subst (λ s. FormsEach (PairTold s ids (map (sides_at p.tree) ids)) size r) scaling_is
          (each_alike PairGives (PairTold scaling_marked ids (map (sides_at p.tree) ids)) size r
          (λ j b s g. subst (λ ps. PairEntry of_number number_of Sums Changes scaling_marked (args_among of_number forms ids) ps j s) (pairs_told j (below j b)) g) f))))

-- ---- as code has them
pub given_pairs : (q : Pairing) (x y a b : Sides) (pairs : List (List Pair)) → x ≡ a → y ≡ b → IfSome (paired_sides q x y) (λ s. pairs ≡ list_below (entries_of s) (pairs_at q x y)) →
    IfSome (paired_sides q a b) (λ s. pairs ≡ list_below (entries_of s) (pairs_at q a b))
given_pairs q x y a b pairs e f h =
    subst (λ z. IfSome (paired_sides q a z) (λ s. pairs ≡ list_below (entries_of s) (pairs_at q a z))) f
    (subst (λ z. IfSome (paired_sides q z y) (λ s. pairs ≡ list_below (entries_of s) (pairs_at q z y))) e h)

-- a product has two arguments, which stand before it
module _ (p : Problem) (i : ℕ) (q : Pairing) (c : call_at p.tree i ≡ Some (calls.Pairing q)) (ids : List NodeId) (ids_are : positions ids ≡ args_at p.tree i) where
  pub two_ids : length ids ≡ 2
  two_ids =
      let (n, at) = the_node p i (calls.Pairing q) c in
      let many = args_two p i q c n at (positions ids) ids_are in
      omega (arith, many, length-map ids (λ (a : NodeId). a.0))

  pub call_within : i < length p.tree
  call_within = let (n, at) = the_node p i (calls.Pairing q) c in slice_get_within p.tree i n at

  pub id_below : (k : ℕ) → k < 2 → (get_or ids k (record { 0 = 0 })).0 < i
  id_below k b =
      let (n, at) = the_node p i (calls.Pairing q) c in
      let below = arg_below p i q c n at (positions ids) ids_are k 0 b in
      omega (arith, below, position_at ids k)

  -- where these are the sides of the arguments
  module _ (x y : Sides) (x_is : x ≡ sides_at p.tree (get_or ids 0 (record { 0 = 0 })).0) (y_is : y ≡ sides_at p.tree (get_or ids 1 (record { 0 = 0 })).0) where
    left_is : x ≡ sides_at p.tree (get_or (positions ids) 0 0)
    left_is = x_is ∙ ap (sides_at p.tree) (sym (position_at ids 0))

    right_is : y ≡ sides_at p.tree (get_or (positions ids) 1 0)
    right_is = y_is ∙ ap (sides_at p.tree) (sym (position_at ids 1))

    pub may_pair : IsSome (paired_sides q x y)
    may_pair = let (n, at) = the_node p i (calls.Pairing q) c in subst IsSome (sym (ap₂ (paired_sides q) left_is right_is ∙ paired p i q c n at (positions ids) ids_are 0)) refl

    module _ (pairs : List (List Pair)) (h : IfSome (paired_sides q x y) (λ s. pairs ≡ list_below (entries_of s) (pairs_at q x y))) where
      given_here : IfSome (paired_sides q (sides_at p.tree (get_or (positions ids) 0 0)) (sides_at p.tree (get_or (positions ids) 1 0)))
          (λ s. pairs ≡ list_below (entries_of s) (pairs_at q (sides_at p.tree (get_or (positions ids) 0 0)) (sides_at p.tree (get_or (positions ids) 1 0))))
      given_here = given_pairs q x y (sides_at p.tree (get_or (positions ids) 0 0)) (sides_at p.tree (get_or (positions ids) 1 0)) pairs left_is right_is h

      pub counted_here : length pairs ≡ entries_of (sides_at p.tree i)
      counted_here = let (n, at) = the_node p i (calls.Pairing q) c in pairs_counted p i q c n at (positions ids) ids_are 0 pairs given_here ∙ sym (ap entries_of (sides_are p.tree i n at))

      module _ {C : Type 0} (of_number : Frac → C) (number_of : C → Option Frac) (Sums : C → C → Result C Passes → Type 0) (Changes : Change → C → Result C Passes → Type 0)
          (Reads : ℕ → List ℕ → ℕ → Pairs → C → Type 0) (told : (x : Frac) → number_of (of_number x) ≡ Some x) (setting : Pairs) (reduced fixed : List Bool) (forms : List (List (Form C)))
          (s : Scaling) (l r : Side) (s_is : s ≡ pairing_scaling q l r) (l_is : l ≡ side_marked number_of reduced fixed forms (get_or ids 0 (record { 0 = 0 })).0)
          (r_is : r ≡ side_marked number_of reduced fixed forms (get_or ids 1 (record { 0 = 0 })).0) where
        scaling_here : s ≡ pairing_scaling q (side_marked number_of reduced fixed forms (get_or (positions ids) 0 0)) (side_marked number_of reduced fixed forms (get_or (positions ids) 1 0))
        scaling_here =
            s_is ∙ ap₂ (pairing_scaling q) (l_is ∙ ap (side_marked number_of reduced fixed forms) (sym (position_at ids 0)))
            (r_is ∙ ap (side_marked number_of reduced fixed forms) (sym (position_at ids 1)))

        pub numbers_here : (ps : List Pair) → All (HasNumbersFor number_of s (args_among of_number forms (positions ids))) ps
        numbers_here ps =
            let (n, at) = the_node p i (calls.Pairing q) c in
            subst (λ z. All (HasNumbersFor number_of z (args_among of_number forms (positions ids))) ps) (sym scaling_here)
            (pairs_have_numbers p i q c n at (positions ids) ids_are 0 pairs given_here of_number number_of Sums Changes Reads told setting reduced fixed forms ps)

        pub gives_here : (size : ℕ) (r : Result (List (EntryForms C)) ValueStop) → size ≡ entries_of (sides_at p.tree i) →
            FormsEach (λ j r. PairEntry of_number number_of Sums Changes s (args_among of_number forms (positions ids)) (slice_index_or pairs j []) j r) size r →
            ReducedGives of_number number_of Sums Changes Reads p setting reduced fixed forms i r
        gives_here size r size_is h =
            let (n, at) = the_node p i (calls.Pairing q) c in
            pair_gives p i q c n at (positions ids) ids_are 0 pairs given_here of_number number_of Sums Changes Reads told setting reduced fixed forms size r size_is
            (subst (λ z. FormsEach (λ j r. PairEntry of_number number_of Sums Changes z (args_among of_number forms (positions ids)) (slice_index_or pairs j []) j r) size r) scaling_here h)
