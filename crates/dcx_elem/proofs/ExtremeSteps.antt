-- The greatest and the least: their shape, their value, and the steps by which their slopes come from weights.
use Rattle.std.proofs.Common.{◌≡◌, ◌≢◌, ℕ, zero, suc, ◌+◌, ◌*◌, ◌/◌, ◌%◌, ◌<◌, ◌≤◌, ◌==◌, ◌&&◌, if◌then◌else◌, arith, Bool, true, false, List, [], ◌∷◌, ◌++◌, map, length}
use Rattle.std.proofs.Common.{take, drop, get_or, All, refl, sym, ap, ap₂, ◌∙◌, subst, Option, Some, None, IsSome, IfSome, Result, Ok, Err, IsOk, IfOk, replicate, pos}
use Rattle.std.specs.List.{list_all}
use Rattle.std.proofs.Math.Nat.{div-lt_iff_lt-mul, mod-lt}
use Rattle.std.proofs.lemmas.Nat.{mod-mul-add, div-mul-add}
use Rattle.std.proofs.lemmas.List.{length-map}
use Rattle.std.proofs.lemmas.List.Folds.{list_all-map}
use Rattle.std.proofs.lemmas.Bool.{eqb-true}
use Rattle.std.specs.declared.alloc.AllocError.{AllocError}
use Rattle.dcx_math.specs.Rational.{ℚ, whole}
use Rattle.dcx_math.specs.Sums.{rat_at}
use Rattle.dcx_frac.specs.declared.fraction.Frac.{Frac}
use Rattle.dcx_frac.specs.Frac.{value}
use Rattle.dcx_shape.specs.declared.shape.Shape.{Shape}
use Rattle.dcx_shape.specs.declared.shape.Sides.{Sides}
use Rattle.dcx_shape.specs.Shape.{sides_of}
use Rattle.dcx_shape.specs.Sides.{entries_of}
use Rattle.dcx_atom.specs.declared.array.Array.{Array}
use Rattle.dcx_atom.specs.declared.flags.Bend.{Bend}
use Rattle.dcx_atom.specs.declared.graph.Graph.{Graph}
use Rattle.dcx_atom.specs.declared.graph.AuxKind.TheVariants.{Free}
use Rattle.dcx_atom.specs.Arrays.{sides_list, array_sides, sides_at, same_sides, list_below, number_at, numbers_of, entries_before, all_entries}
use Rattle.dcx_atom.specs.Formed.{number, sum_in_order}
use Rattle.dcx_atom.specs.Meaning.{Coefficients, Weights, ArgumentEntry}
use Rattle.dcx_atom.specs.Graph.{placed_row, form_term, rows_below, IsGraphOf}
use Rattle.dcx_atom.specs.Value.{IsValueOf}
use Rattle.dcx_atom.specs.Steps.{test, form, is_weight, earlier, first_stop, entry_stop, rows_before, weights_of, slope_at, AreSlopesOf}
use Rattle.dcx_atom.proofs.FirstStops.{first_stop-append}
use Rattle.dcx_elem.specs.declared.rows.Piece.{Piece}
use Rattle.dcx_atom.specs.Bounding.{argument_term, bound_row, outward, unknown_form, total_condition, total_steps, HaveNoStop}
use Rattle.dcx_elem.specs.Rows.{piece_term, piece_rows}
use Rattle.dcx_atom.proofs.BoundRows.{list_below-first, length-list_below, map-list_below}
use Rattle.dcx_atom.specs.Farthest.{extreme}
use Rattle.dcx_elem.specs.Extremes.{alike, extreme_meaning}
use Rattle.dcx_elem.specs.ExtremeLaws.{AreAlike, alike_are}
use Rattle.dcx_atom.proofs.Lists.{one_forms, list_below-numbers, list_below-same, number_is, rat_at-list_below}
use Rattle.dcx_atom.proofs.Totals.{earlier-none_right}
use Rattle.dcx_atom.proofs.Weights.{rows_before-same, within_rows, own_length, own_weight}
use Rattle.dcx_math.proofs.Lists.{map-map}

-- ---- shape
-- the shape of two or more arguments
pub alike_is : (count : ℕ) (args : List Shape) (x : Shape) → 2 ≤ length args → x ≡ get_or args 0 x →
    alike count (sides_list args) ≡ (if count == length args && list_all (λ (shape : Shape). same_sides (sides_of x) (sides_of shape)) args then Some (sides_of x) else None)
alike_is count [] x h e = absurd (omega arith)
alike_is count (y ∷ []) x h e = absurd (omega arith)
alike_is count (y ∷ z ∷ zs) x h e =
    ap₂ (λ n b. if count == n && b then Some (sides_of y) else None) (length-map (y ∷ z ∷ zs) sides_of) (list_all-map (same_sides (sides_of y)) sides_of (y ∷ z ∷ zs))
    ∙ ap (λ (s : Shape). if count == length (y ∷ z ∷ zs) && list_all (λ (shape : Shape). same_sides (sides_of s) (sides_of shape)) (y ∷ z ∷ zs) then Some (sides_of s) else None) (sym e)

-- the sides of the first argument
pub first_sides : (args : List Shape) (x : Shape) → 0 < length args → x ≡ get_or args 0 x → sides_at (sides_list args) 0 ≡ sides_of x
first_sides [] x h e = absurd (omega arith)
first_sides (y ∷ ys) x h e = ap sides_of (sym e)

-- ---- value
-- the entries at one place, by argument
pub numbers_at : (args : List Array) (j : ℕ) → list_below (length args) (λ i. numbers_of args i j) ≡ map (λ x. number_at x.entries j) args
numbers_at [] j = refl
numbers_at (x ∷ xs) j = list_below-first (length xs) (λ i. numbers_of (x ∷ xs) i j) ∙ ap (λ ys. number_at x.entries j ∷ ys) (numbers_at xs j)

-- arguments of one shape have as many entries
pub same_entries : (args : List Array) (s : Sides) → ((i : ℕ) → i < length (array_sides args) → sides_at (array_sides args) i ≡ s) → (k : ℕ) (d : Array) → k < length args →
    length (get_or args k d).entries ≡ entries_of s
same_entries [] s same k d h = absurd (omega arith)
same_entries (x ∷ xs) s same zero d h = x.full ∙ ap entries_of (same 0 (omega arith))
same_entries (x ∷ xs) s same (suc k) d h = same_entries xs s (λ i b. same (suc i) (omega arith)) k d (omega arith)

-- the value, made place by place
pub extreme_value : (bend : Bend) (count : ℕ) (args : List Array) (v : Array) → alike count (array_sides args) ≡ Some (sides_of v.shape) → count ≡ length args →
    map value v.entries ≡ list_below (entries_of (sides_of v.shape)) (λ j. extreme bend (map (λ x. number_at x.entries j) args)) → IsValueOf (extreme_meaning bend count) args v
extreme_value bend count args v is n e = record {
  shape = is;
  numbers = there;
  forms = λ j b. subst (λ x. IsOk (sum_in_order (x ∷ []))) (there j b) (one_forms v.entries j (omega (arith, v.full)));
}
  where
    there : (j : ℕ) → j < entries_of (sides_of v.shape) → number_at v.entries j ≡ extreme bend (list_below count (λ i. numbers_of args i j))
    there j b =
        ap (λ xs. rat_at xs j) e ∙ rat_at-list_below (entries_of (sides_of v.shape)) (λ j. extreme bend (map (λ x. number_at x.entries j) args)) j b
        ∙ ap (extreme bend) (sym (numbers_at args j) ∙ ap (λ k. list_below k (λ i. numbers_of args i j)) (sym n))

-- ---- slopes
pub extreme_rows_before : (bend : Bend) (count : ℕ) (args : List Sides) (j : ℕ) → rows_before (extreme_meaning bend count) args j ≡ j * count
extreme_rows_before bend count args j =
    rows_before-same (extreme_meaning bend count) args count (λ j. length-list_below count (λ i. bound_row bend j (argument_term i j (whole (pos 1))))) j

-- slopes that are numbers alone don't stop
numbers_formed : (j : ℕ) (g : ArgumentEntry → ℚ) (xs : List ArgumentEntry) → first_stop j (map (λ x. form (number (g x))) xs) ≡ None
numbers_formed j g [] = refl
numbers_formed j g (x ∷ xs) = numbers_formed j g xs

-- the stop of an entry is that of its weights and their sum
extreme_stop : (bend : Bend) (count : ℕ) (args : List Sides) (c : Coefficients) (w : Weights) (j : ℕ) →
    entry_stop (extreme_meaning bend count) args c w j ≡ first_stop j (total_steps Free (outward bend (c j)) (list_below count (w j)))
extreme_stop bend count args c w j =
    let condition = total_condition Free (outward bend (c j)) (list_below count (w j)) in
    let slopes = map (λ (x : ArgumentEntry). form (number (outward bend (w x.entry x.argument)))) (list_below count (λ i. record { argument = i; entry = j })) in
    ap (λ n. first_stop j (map (λ x. test (is_weight x)) (list_below n (w j)) ++ test condition ∷ [] ++ slopes)) (length-list_below count (λ i. bound_row bend j (argument_term i j (whole (pos 1)))))
    ∙ first_stop-append j (total_steps Free (outward bend (c j)) (list_below count (w j))) slopes
    ∙ ap (earlier (first_stop j (total_steps Free (outward bend (c j)) (list_below count (w j)))))
    (numbers_formed j (λ x. outward bend (w x.entry x.argument)) (list_below count (λ i. record { argument = i; entry = j })))
    ∙ earlier-none_right (first_stop j (total_steps Free (outward bend (c j)) (list_below count (w j))))

-- the weights of an entry's rows
own_weights : (bend : Bend) (count : ℕ) (args : List Sides) (ws : List Frac) (j : ℕ) → j * count + count ≤ length ws →
    map value (take count (drop (j * count) ws)) ≡ list_below count (weights_of (extreme_meaning bend count) args ws j)
own_weights bend count args ws j h =
    let own = take count (drop (j * count) ws) in
    sym (list_below-numbers own) ∙ ap (λ n. list_below n (number_at own)) (own_length ws j count h)
    ∙ list_below-same count (number_at own) (weights_of (extreme_meaning bend count) args ws j)
    (own_weight (extreme_meaning bend count) args ws count j (extreme_rows_before bend count args j))

-- the first stop of an entry, from its own weights
pub own_stop : (bend : Bend) (count : ℕ) (args : List Sides) (cs ws own : List Frac) (j : ℕ) (c b : Frac) → j * count + count ≤ length ws
    → value c ≡ number_at cs j → value b ≡ outward bend (value c) →
    own ≡ take count (drop (j * count) ws) →
    entry_stop (extreme_meaning bend count) args (number_at cs) (weights_of (extreme_meaning bend count) args ws) j ≡ first_stop j (total_steps Free (value b) (map value own))
own_stop bend count args cs ws own j c b h e f g =
    extreme_stop bend count args (number_at cs) (weights_of (extreme_meaning bend count) args ws) j
    ∙ ap (λ xs. first_stop j (total_steps Free (outward bend (number_at cs j)) xs)) (sym (ap (map value) g ∙ own_weights bend count args ws j h))
    ∙ ap (λ x. first_stop j (total_steps Free x (map value own))) (sym (f ∙ ap (outward bend) e))

-- where a slope's weight stands
pub spot_within : (p size rows : ℕ) → 0 < size → p < rows * size → p % size * rows + p / size < size * rows
spot_within p size rows some h =
    let entry = within_rows (p % size) rows size (mod-lt p some) in
    let argument = (div-lt_iff_lt-mul {k = size} {x = p} {y = rows} some).1 h in
    omega (arith, entry, argument)

before_same : (args : List Sides) (n : ℕ) → ((i : ℕ) → i < length args → entries_of (sides_at args i) ≡ n) → (i : ℕ) → i ≤ length args → entries_before args i ≡ i * n
before_same args n same zero h = omega arith
before_same [] n same (suc i) h = absurd (omega arith)
before_same (s ∷ ss) n same (suc i) h = more (entries_of s) (entries_before ss i) i n (same 0 (omega arith)) (before_same ss n (λ k b. same (suc k) (omega arith)) i (omega arith))
  where
    more : (a b i n : ℕ) → a ≡ n → b ≡ i * n → a + b ≡ suc i * n
    more a b i n e f = omega (arith, e, f)

all_same : (args : List Sides) (n : ℕ) → ((i : ℕ) → i < length args → entries_of (sides_at args i) ≡ n) → all_entries args ≡ length args * n
all_same [] n same = omega arith
all_same (s ∷ ss) n same = more (entries_of s) (all_entries ss) (length ss) n (same 0 (omega arith)) (all_same ss n (λ k b. same (suc k) (omega arith)))
  where
    more : (a b i n : ℕ) → a ≡ n → b ≡ i * n → a + b ≡ suc i * n
    more a b i n e f = omega (arith, e, f)

-- slopes by argument and then by entry
pub extreme_slopes_are : (bend : Bend) (count : ℕ) (args : List Sides) (s : Sides) (cs ws gs : List Frac) → AreAlike count args s → HaveNoStop (extreme_meaning bend count) args (entries_of s) cs ws →
    map value gs ≡ list_below (count * entries_of s) (λ p. outward bend (number_at ws (p % entries_of s * count + p / entries_of s))) →
    AreSlopesOf (extreme_meaning bend count) args (entries_of s) cs ws gs
extreme_slopes_are bend count args s cs ws gs alike none e = record { no_stop = none; count = len; slopes = each }
  where
    same : (i : ℕ) → i < length args → entries_of (sides_at args i) ≡ entries_of s
    same i b = ap entries_of (alike.each i b)

    len : length gs ≡ all_entries args
    len =
        sym (length-map gs value) ∙ ap length e ∙ length-list_below (count * entries_of s) (λ p. outward bend (number_at ws (p % entries_of s * count + p / entries_of s)))
        ∙ ap (λ k. k * entries_of s) alike.count_is ∙ sym (all_same args (entries_of s) same)

    spot : (i k : ℕ) → i < count → k < entries_of s → i * entries_of s + k < count * entries_of s
    spot i k h b = let r = within_rows i (entries_of s) count h in omega (arith, r)

    each : (i k : ℕ) → i < length args → k < entries_of (sides_at args i) → slope_at args gs i k ≡ outward bend (weights_of (extreme_meaning bend count) args ws k i)
    each i k h b =
        let l : k < entries_of s = subst (λ m. k < m) (same i h) b in
        let h' : i < count = omega (arith, alike.count_is) in
        ap (λ m. number_at gs (m + k)) (before_same args (entries_of s) same i (omega arith))
        ∙ ap (λ xs. rat_at xs (i * entries_of s + k)) e
        ∙ rat_at-list_below (count * entries_of s) (λ p. outward bend (number_at ws (p % entries_of s * count + p / entries_of s))) (i * entries_of s + k) (spot i k h' l)
        ∙ ap₂ (λ x y. outward bend (number_at ws (x * count + y))) (mod-mul-add i (entries_of s) k l) (div-mul-add i (entries_of s) k l)
        ∙ ap (λ m. outward bend (number_at ws (m + i))) (sym (extreme_rows_before bend count args k))

-- an entry of an argument, as the code reads it
pub entry_is : (args : List Array) (i place : ℕ) (y : Array) (xs : List Frac) (x : Frac) → All (λ z. place < length z.entries) args → i < length args → y ≡ get_or args i y →
    xs ≡ y.entries → x ≡ get_or xs place x → value x ≡ number_at y.entries place
entry_is args i place y xs x all h e f g =
    let b : place < length y.entries = subst (λ (z : Array). place < length z.entries) (sym e) (all i y h) in
    number_is y.entries place x b (subst (λ zs. x ≡ get_or zs place x) f g)

-- the weights of an entry's rows are among so many
pub among : (ws : List Frac) (j count size : ℕ) → j < size → length ws ≡ size * count → j * count + count ≤ length ws
among ws j count size h e = subst (λ k. j * count + count ≤ k) (sym e) (within_rows j count size h)

-- numbers that differ don't pass the test
pub ne-eqb : (m n : ℕ) → m ≢ n → m == n ≡ false
ne-eqb m n h = by (m == n) refl
  where
    by : (b : Bool) → m == n ≡ b → m == n ≡ false
    by true e = absurd (h (eqb-true m n e))
    by false e = e

-- ---- what follows where there is a shape
-- what holds of each shape that the call gives
pub if_alike : (count : ℕ) (args : List Sides) (P : Sides → Type 0) → ((s : Sides) → alike count args ≡ Some s → P s) → IfSome (alike count args) P
if_alike count args P f = by (alike count args) refl
  where
    by : (o : Option Sides) → alike count args ≡ o → IfSome o P
    by None e = tt
    by (Some s) e = f s e

-- and of the one that there is
pub of_alike : (count : ℕ) (args : List Sides) (P : Sides → Type 0) (Q : Type 0) → IsSome (alike count args) → IfSome (alike count args) P → ((s : Sides) → alike count args ≡ Some s → P s → Q) → Q
of_alike count args P Q some h f = by (alike count args) refl some h
  where
    by : (o : Option Sides) → alike count args ≡ o → IsSome o → IfSome o P → Q
    by None e some h = cc
    by (Some s) e some h = f s e h

-- as many weights as there are rows
pub weights_are : (bend : Bend) (count : ℕ) (args : List Sides) (ws : List Frac) → IsSome (alike count args) →
    IfSome (alike count args) (λ s. length ws ≡ rows_before (extreme_meaning bend count) args (entries_of s)) → length ws ≡ entries_of (sides_at args 0) * count
weights_are bend count args ws some h =
    of_alike count args (λ s. length ws ≡ rows_before (extreme_meaning bend count) args (entries_of s)) (length ws ≡ entries_of (sides_at args 0) * count) some h
    (λ s e l. l ∙ extreme_rows_before bend count args (entries_of s) ∙ ap (λ r. entries_of r * count) (sym (alike_are count args s e).first))

-- the terms of each argument once are the rows of the meaning
pub rows_are : (bend : Bend) (count : ℕ) (pieces : List Piece) (j : ℕ) → map (piece_term j) pieces ≡ list_below count (λ i. argument_term i j (whole (pos 1))) →
    piece_rows bend pieces j ≡ list_below count (λ i. bound_row bend j (argument_term i j (whole (pos 1))))
rows_are bend count pieces j e =
    sym (map-map (piece_term j) (bound_row bend j) pieces) ∙ ap (map (bound_row bend j)) e ∙ map-list_below count (λ i. argument_term i j (whole (pos 1))) (bound_row bend j)

-- the graph of the meaning
pub extreme_graph_is : (bend : Bend) (count : ℕ) (args : List Sides) (s : Sides) (size : ℕ) (pieces : List Piece) (g : Graph) → alike count args ≡ Some s → size ≡ entries_of (sides_at args 0) →
    ((j : ℕ) → map (piece_term j) pieces ≡ list_below count (λ i. argument_term i j (whole (pos 1)))) →
    g.aux ≡ replicate size Free → map placed_row g.rows ≡ rows_below size (piece_rows bend pieces) → map (map form_term) g.results ≡ list_below size unknown_form →
    IsGraphOf (extreme_meaning bend count) args (entries_of s) g
extreme_graph_is bend count args s size pieces g e n p kinds rows results =
    let same : size ≡ entries_of s = n ∙ ap entries_of (alike_are count args s e).first in
    let each : piece_rows bend pieces ≡ (λ j. list_below count (λ i. bound_row bend j (argument_term i j (whole (pos 1))))) = λ t j. rows_are bend count pieces j (p j) t in
    record {
      kinds = kinds ∙ ap (λ k. replicate k Free) n;
      rows = rows ∙ ap₂ rows_below same each;
      results = results ∙ ap (λ k. list_below k unknown_form) same;
    }

-- there is an argument where there is a shape
pub some_arguments : (count : ℕ) (args : List Shape) → IsSome (alike count (sides_list args)) → 0 < length args
some_arguments count [] h = cc
some_arguments count (x ∷ xs) h = omega arith

-- the slopes where there is a shape
pub slopes_at : (bend : Bend) (count : ℕ) (args : List Sides) (size : ℕ) (cs ws gs : List Frac) → size ≡ entries_of (sides_at args 0) →
    HaveNoStop (extreme_meaning bend count) args (entries_of (sides_at args 0)) cs ws →
    map value gs ≡ list_below (count * size) (λ p. outward bend (number_at ws (p % size * count + p / size))) →
    IfSome (alike count args) (λ s. AreSlopesOf (extreme_meaning bend count) args (entries_of s) cs ws gs)
slopes_at bend count args size cs ws gs n none e =
    if_alike count args (λ s. AreSlopesOf (extreme_meaning bend count) args (entries_of s) cs ws gs) (λ s is.
    let alike = alike_are count args s is in
    extreme_slopes_are bend count args s cs ws gs alike (subst (λ r. HaveNoStop (extreme_meaning bend count) args (entries_of r) cs ws) alike.first none)
    (subst (λ k. map value gs ≡ list_below (count * k) (λ p. outward bend (number_at ws (p % k * count + p / k)))) (n ∙ ap entries_of alike.first) e))

-- the graph where there is a shape
pub graph_at : (bend : Bend) (count : ℕ) (args : List Sides) (size : ℕ) (pieces : List Piece) (r : Result Graph AllocError) → size ≡ entries_of (sides_at args 0) →
    ((j : ℕ) → map (piece_term j) pieces ≡ list_below count (λ i. argument_term i j (whole (pos 1)))) →
    IfOk r (λ g. g.aux ≡ replicate size Free) → IfOk r (λ g. map placed_row g.rows ≡ rows_below size (piece_rows bend pieces))
    → IfOk r (λ g. map (map form_term) g.results ≡ list_below size unknown_form) →
    IfOk r (λ g. IfSome (alike count args) (λ s. IsGraphOf (extreme_meaning bend count) args (entries_of s) g))
graph_at bend count args size pieces (Ok g) n p kinds rows results =
    if_alike count args (λ s. IsGraphOf (extreme_meaning bend count) args (entries_of s) g) (λ s is. extreme_graph_is bend count args s size pieces g is n p kinds rows results)
graph_at bend count args size pieces (Err e) n p kinds rows results = tt

-- the sides of the first array
first_array : (args : List Array) (x : Array) → 0 < length args → x ≡ get_or args 0 x → sides_of x.shape ≡ sides_at (array_sides args) 0
first_array [] x h e = absurd (omega arith)
first_array (y ∷ ys) x h e = ap (λ (z : Array). sides_of z.shape) e

-- each argument's array has as many entries
pub sizes_at : (count : ℕ) (args : List Array) (x : Array) (size : ℕ) → IsSome (alike count (array_sides args)) → x ≡ get_or args 0 x → size ≡ entries_of (sides_of x.shape)
    → (k : ℕ) (d : Array) → k < length args →
    length (get_or args k d).entries ≡ size
sizes_at count args x size some e n k d h = by (alike count (array_sides args)) refl some
  where
    by : (o : Option Sides) → alike count (array_sides args) ≡ o → IsSome o → length (get_or args k d).entries ≡ size
    by None f some = cc
    by (Some s) f some =
        let alike = alike_are count (array_sides args) s f in
        same_entries args s alike.each k d h ∙ ap entries_of (sym (first_array args x (omega (arith, h)) e ∙ alike.first)) ∙ sym n

-- the value where there is a shape
pub value_at : (bend : Bend) (count : ℕ) (args : List Array) (x v : Array) (size : ℕ) → IsSome (alike count (array_sides args)) → x ≡ get_or args 0 x → size ≡ entries_of (sides_of x.shape) →
    v.shape ≡ x.shape → map value v.entries ≡ list_below size (λ j. extreme bend (map (λ x. number_at x.entries j) args)) → IsValueOf (extreme_meaning bend count) args v
value_at bend count args x v size some e n f h = by (alike count (array_sides args)) refl some
  where
    by : (o : Option Sides) → alike count (array_sides args) ≡ o → IsSome o → IsValueOf (extreme_meaning bend count) args v
    by None g some = cc
    by (Some s) g some =
        let alike = alike_are count (array_sides args) s g in
        let many : length (array_sides args) ≡ length args = length-map args (λ (z : Array). sides_of z.shape) in
        let same : s ≡ sides_of v.shape = sym (first_array args x (omega (arith, many, alike.some)) e ∙ alike.first) ∙ ap sides_of (sym f) in
        extreme_value bend count args v (g ∙ ap Some same) (alike.count_is ∙ many)
        (h ∙ ap (λ k. list_below k (λ j. extreme bend (map (λ x. number_at x.entries j) args))) (n ∙ ap (λ z. entries_of (sides_of z)) (sym f)))
