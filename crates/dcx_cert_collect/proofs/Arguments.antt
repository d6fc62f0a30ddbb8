-- Arguments among nodes, and what goes to them.
use Rattle.std.proofs.Common.{◌≡◌, ℕ, zero, suc, ◌+◌, ◌<◌, ◌≤◌, arith, List, [], ◌∷◌, length, map, take, drop, get_or, All, refl, sym, ap, ◌∙◌, subst, Option, Some, None, Result, Ok, slice_get}
use Rattle.std.proofs.lemmas.List.{length-map, length-drop, get_or-take, get_or-drop}
use Rattle.std.proofs.lemmas.Option.{slice_get-map, slice_get-get_or, slice_get_past}
use Rattle.std.specs.Prelude.{option_map}
use Rattle.dcx_frac.specs.declared.fraction.Frac.{Frac}
use Rattle.dcx_frac.specs.declared.fraction.Passes.{Passes}
use Rattle.dcx_frac.specs.Results.{product_of}
use Rattle.dcx_shape.specs.declared.shape.Sides.{Sides}
use Rattle.dcx_shape.specs.declared.shape.Sides.TheVariants.{Scalar}
use Rattle.dcx_shape.specs.declared.shape.Shape.{Shape}
use Rattle.dcx_shape.specs.Shape.{sides_of}
use Rattle.dcx_shape.specs.Sides.{entries_of}
use Rattle.dcx_atom.specs.declared.terms.Triple.{Triple}
use Rattle.dcx_atom.specs.Arrays.{list_below, sides_at, sides_list, entries_before, all_entries}
use Rattle.dcx_atom.specs.Formed.{zero_frac}
use Rattle.dcx_atom.specs.Linear.{LinearTerm, linear_term}
use Rattle.dcx_atom.proofs.Lists.{list_below-same}
use Rattle.dcx_atom.proofs.FormedSums.{frac_at-value}
use Rattle.dcx_arena.specs.declared.node.NodeId.{NodeId}
use Rattle.dcx_arena.specs.Nodes.{positions}
use Rattle.dcx_call.proofs.Products.{item_of}
use Rattle.dcx_tree.specs.Nodes.{Node}
use Rattle.dcx_cert_collect.specs.Shares.{frac_in, Share, share_of, with_share, with_shares}
use Rattle.dcx_cert_collect.specs.Starts.{place_of}
use Rattle.dcx_cert_collect.specs.Calls.{share_to, term_share}
use Rattle.dcx_cert_collect.proofs.Sharing.{shares-next, below-next, within_list}

-- argument k
pub argument_is : (ids : List NodeId) (k : ℕ) (a : NodeId) → k < length ids → a ≡ get_or ids k a → slice_get (positions ids) k ≡ Some a.0
argument_is ids k a b e = slice_get-map (λ i. i.0) ids k ∙ ap (option_map (λ (i : NodeId). i.0)) (slice_get-get_or ids k a b ∙ ap Some (sym e))

pub argument_past : (ids : List NodeId) (k : ℕ) → length ids ≤ k → slice_get (positions ids) k ≡ None
argument_past ids k b = slice_get_past (positions ids) k (omega (arith, b, length-map ids (λ i. i.0)))

-- it is a node
pub argument_there : (n : ℕ) (ids : List NodeId) (k : ℕ) (a : NodeId) → All (λ i. i < n) (positions ids) → k < length ids → a ≡ get_or ids k a → a.0 < n
argument_there n ids k a h b e =
    let many : length (positions ids) ≡ length ids = length-map ids (λ i. i.0) in
    let inside : k < length (positions ids) = omega (arith, b, many) in
    subst (λ i. i < n) (sym (item_of (λ i. i.0) ids k a e)) (h k a.0 inside)

-- ---- shares by their parts
pub same_share : (p q : Option ℕ) (x y : Result Frac Passes) → p ≡ q → x ≡ y → share_of p x ≡ share_of q y
same_share p q x y e h = λ k. share_of (e k) (h k)

-- the terms up to the next one
pub term_next : (nodes : List Node) (ids : List NodeId) (c : Frac) (terms : List Triple) (t u : List Frac) (i : ℕ) (x : Triple) (place : Option ℕ) (amount : Result Frac Passes) →
    i < length terms → x ≡ get_or terms i x → place ≡ place_of nodes (slice_get (positions ids) x.argument) x.entry → amount ≡ product_of c x.coefficient →
    with_shares t (take i (map (term_share nodes (positions ids) c) (map linear_term terms))) ≡ Ok u →
    with_shares t (take (i + 1) (map (term_share nodes (positions ids) c) (map linear_term terms))) ≡ with_share u (share_of place amount)
term_next nodes ids c terms t u i x place amount b is at made e =
    let f : LinearTerm → Share = term_share nodes (positions ids) c in
    let ys : List LinearTerm = map linear_term terms in
    let many : length (map f ys) ≡ length terms = length-map ys f ∙ length-map terms linear_term in
    let inside : i < length (map f ys) = omega (arith, b, many) in
    shares-next t u (map f ys) i (f (linear_term x)) inside (item_of f ys i (linear_term x) (item_of linear_term terms i x is)) e
    ∙ ap (with_share u) (sym (same_share place _ amount _ at (made ∙ ap (product_of c) (sym (frac_at-value x.coefficient)))))

-- the items up to the next one, where each gives a share
pub share_next : {A : Type 0} (f : A → Share) (xs : List A) (t u : List Frac) (i : ℕ) (x : A) → i < length xs → x ≡ get_or xs i x → with_shares t (take i (map f xs)) ≡ Ok u →
    with_shares t (take (i + 1) (map f xs)) ≡ with_share u (f x)
share_next f xs t u i x b is e =
    let inside : i < length (map f xs) = omega (arith, b, length-map xs f) in
    shares-next t u (map f xs) i (f x) inside (item_of f xs i x is) e

-- the slopes of an argument up to the next one
pub slope_next : (nodes : List Node) (ids : List NodeId) (k : ℕ) (slope : ℕ → Frac) (t u : List Frac) (e : ℕ) (place : Option ℕ) (x : Frac) → place ≡ place_of nodes (slice_get (positions ids) k) e
    → x ≡ slope e
    → with_shares t (list_below e (λ i. share_to nodes (positions ids) k i (Ok (slope i)))) ≡ Ok u →
    with_shares t (list_below (e + 1) (λ i. share_to nodes (positions ids) k i (Ok (slope i)))) ≡ with_share u (share_of place (Ok x))
slope_next nodes ids k slope t u e place x at is so_far =
    below-next t u (λ i. share_to nodes (positions ids) k i (Ok (slope i))) e so_far ∙ ap (with_share u) (sym (same_share place _ (Ok x) _ at (ap Ok is)))

-- ---- entries of arguments, one argument after another
pub entries_more : (ss : List Sides) (k : ℕ) → k < length ss → entries_before ss (k + 1) ≡ entries_before ss k + entries_of (sides_at ss k)
entries_more [] k b = absurd (omega arith)
entries_more (s ∷ ss) zero b = omega arith
entries_more (s ∷ ss) (suc k) b = let e : suc k + 1 ≡ suc (k + 1) = omega arith in let h : k < length ss = omega arith in rw e (omega (arith, entries_more ss k h))

pub entries_fit : (ss : List Sides) (k : ℕ) → entries_before ss k ≤ all_entries ss
entries_fit ss zero = omega arith
entries_fit [] (suc k) = omega arith
entries_fit (s ∷ ss) (suc k) = omega (arith, entries_fit ss k)

-- the sides of a shape in its place
pub shape_sides : (shapes : List Shape) (k : ℕ) (s : Shape) → k < length shapes → s ≡ get_or shapes k s → sides_at (sides_list shapes) k ≡ sides_of s
shape_sides shapes k s b e =
    let many : length (sides_list shapes) ≡ length shapes = length-map shapes sides_of in
    let inside : k < length (sides_list shapes) = omega (arith, b, many) in
    sym (within_list (sides_list shapes) k Scalar (sides_of s) inside (item_of sides_of shapes k s e))

-- ---- the slopes of one argument in the list of all
none_left : {A : Type 0} (n : ℕ) → drop {A = A} n [] ≡ []
none_left zero = refl
none_left (suc n) = refl

drop_twice : {A : Type 0} (m n : ℕ) (xs : List A) → drop m (drop n xs) ≡ drop (n + m) xs
drop_twice m zero xs = let e : 0 + m ≡ m = omega arith in rw e refl
drop_twice m (suc n) [] = none_left m ∙ sym (none_left (suc n + m))
drop_twice m (suc n) (x ∷ xs) = let e : suc n + m ≡ suc (n + m) = omega arith in rw e (drop_twice m n xs)

-- what is left behind the next argument
pub rest_next : (ss : List Sides) (xs rest others : List Frac) (k size : ℕ) → k < length ss → size ≡ entries_of (sides_at ss k) → rest ≡ drop (entries_before ss k) xs → others ≡ drop size rest →
    others ≡ drop (entries_before ss (k + 1)) xs
rest_next ss xs rest others k size b is so_far left =
    left ∙ ap (drop size) so_far ∙ drop_twice size (entries_before ss k) xs ∙ ap (λ n. drop n xs) (ap (λ n. entries_before ss k + n) is ∙ sym (entries_more ss k b))

-- there are enough left
pub rest_enough : (ss : List Sides) (xs rest : List Frac) (k size : ℕ) → k < length ss → size ≡ entries_of (sides_at ss k) → length xs ≡ all_entries ss → rest ≡ drop (entries_before ss k) xs
    → size ≤ length rest
rest_enough ss xs rest k size b is all so_far =
    omega (arith, is, all, ap length so_far, length-drop (entries_before ss k) xs, entries_more ss k b, entries_fit ss (k + 1))

slopes_of_own : (xs rest own : List Frac) (n size e : ℕ) → rest ≡ drop n xs → own ≡ take size rest → e < size → frac_in own e ≡ frac_in xs (n + e)
slopes_of_own xs rest own n size e left first b =
    ap (λ ys. get_or ys e zero_frac) first ∙ get_or-take size rest e zero_frac b ∙ ap (λ ys. get_or ys e zero_frac) left ∙ get_or-drop n xs e zero_frac

-- what goes to the next argument
pub argument_shares : (nodes : List Node) (args : List ℕ) (ss : List Sides) (xs rest own : List Frac) (k size : ℕ) → size ≡ entries_of (sides_at ss k) → rest ≡ drop (entries_before ss k) xs
    → own ≡ take size rest → length own ≡ size
    → list_below (length own) (λ e. share_to nodes args k e (Ok (frac_in own e))) ≡ list_below (entries_of (sides_at ss k)) (λ e. share_to nodes args k e (Ok (frac_in xs (entries_before ss k + e))))
argument_shares nodes args ss xs rest own k size is left first count =
    ap (λ m. list_below m (λ e. share_to nodes args k e (Ok (frac_in own e)))) count
    ∙ list_below-same size _ (λ e. share_to nodes args k e (Ok (frac_in xs (entries_before ss k + e))))
    (λ e b. ap (λ x. share_to nodes args k e (Ok x)) (slopes_of_own xs rest own (entries_before ss k) size e left first b))
    ∙ ap (λ m. list_below m (λ e. share_to nodes args k e (Ok (frac_in xs (entries_before ss k + e))))) is

-- the numbers of a node's entries up to the next one
pub number_next : (nodes : List Node) (i : ℕ) (number : ℕ → Frac) (t u : List Frac) (e : ℕ) (place : Option ℕ) (x : Frac) → place ≡ place_of nodes (Some i) e → x ≡ number e →
    with_shares t (list_below e (λ j. share_of (place_of nodes (Some i) j) (Ok (number j)))) ≡ Ok u →
    with_shares t (list_below (e + 1) (λ j. share_of (place_of nodes (Some i) j) (Ok (number j)))) ≡ with_share u (share_of place (Ok x))
number_next nodes i number t u e place x at is so_far =
    below-next t u (λ j. share_of (place_of nodes (Some i) j) (Ok (number j))) e so_far ∙ ap (with_share u) (sym (same_share place _ (Ok x) _ at (ap Ok is)))
