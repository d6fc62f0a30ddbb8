-- The steps by which the slopes of the largest and the smallest come from weights.
use Rattle.std.proofs.Common.{◌≡◌, ℕ, ◌+◌, ◌<◌, arith, List, [], ◌∷◌, ◌++◌, map, length, take, drop, get_or, refl, sym, ap, ap₂, ◌∙◌, Some, None, Result, Ok, pos}
use Rattle.std.proofs.lemmas.List.{map-append, map_more, take-append-drop, take_more}
use Rattle.dcx_math.specs.Rational.{ℚ, whole, ◌*ℚ◌, rat_le, rat_eq}
use Rattle.dcx_math.specs.Sums.{rat_sum}
use Rattle.dcx_frac.specs.declared.fraction.Frac.{Frac}
use Rattle.dcx_frac.specs.declared.fraction.Passes.{Passes}
use Rattle.dcx_frac.specs.Frac.{value}
use Rattle.dcx_frac.specs.Results.{product_of}
use Rattle.dcx_shape.specs.declared.shape.Sides.{Sides}
use Rattle.dcx_shape.specs.Sides.{entries_of}
use Rattle.dcx_atom.specs.declared.flags.Bend.{Bend}
use Rattle.dcx_atom.specs.declared.stops.SlopeStop.{SlopeStop}
use Rattle.dcx_atom.specs.Arrays.{list_below, number_at, sides_at}
use Rattle.dcx_atom.specs.Formed.{frac_at, number, sum_in_order}
use Rattle.dcx_atom.specs.Meaning.{ArgumentEntry}
use Rattle.dcx_atom.specs.Steps.{Step, test, form, is_weight, broken_at, condition_stop, step_stop, earlier, first_stop, entry_stop, weights_of}
use Rattle.dcx_atom.specs.Bounding.{outward}
use Rattle.dcx_atom.proofs.BoundRows.{length-list_below}
use Rattle.dcx_atom.proofs.FirstStops.{first_stop-append, first_stop-stopped, first_stop-passed}
use Rattle.dcx_atom.proofs.FormedSums.{frac_at-value}
use Rattle.dcx_atom.proofs.Lists.{list_below-numbers, list_below-same}
use Rattle.dcx_atom.proofs.Totals.{earlier-none_right, value-sum_in_order}
use Rattle.dcx_fold.specs.Largest.{level_row, each_condition, sum_condition, level_conditions, largest_meaning}
use Rattle.dcx_math.proofs.Lists.{map-map}

-- ---- steps of the weights of a list
-- one more
pub steps-next : (g : Frac → Step) (ws : List Frac) (i : ℕ) (w : Frac) → i < length ws → w ≡ get_or ws i w → first_stop 0 (map g (take i ws)) ≡ None →
    first_stop 0 (map g (take (i + 1) ws)) ≡ step_stop 0 (g w)
steps-next g ws i w h e none =
    ap (λ xs. first_stop 0 (map g xs)) (take_more ws i w h ∙ ap (λ y. take i ws ++ y ∷ []) (sym e)) ∙ ap (first_stop 0) (map-append g (take i ws) (w ∷ []))
    ∙ first_stop-passed 0 (map g (take i ws)) (g w ∷ []) none ∙ earlier-none_right (step_stop 0 (g w))

-- and one that stops
pub steps-at : (g : Frac → Step) (ws : List Frac) (i : ℕ) (w : Frac) (stop : SlopeStop) → i < length ws → w ≡ get_or ws i w → first_stop 0 (map g (take i ws)) ≡ None →
    step_stop 0 (g w) ≡ Some stop → first_stop 0 (map g ws) ≡ Some stop
steps-at g ws i w stop h e none here =
    ap (λ xs. first_stop 0 (map g xs)) (sym (take-append-drop (i + 1) ws)) ∙ ap (first_stop 0) (map-append g (take (i + 1) ws) (drop (i + 1) ws))
    ∙ first_stop-stopped 0 (map g (take (i + 1) ws)) (map g (drop (i + 1) ws)) stop (steps-next g ws i w h e none ∙ here)

-- a weight is compared with its bound
pub each_tested : (bend : Bend) (c w bound : Frac) → value bound ≡ outward bend (value c)
    → step_stop 0 (test (each_condition bend (value c) (value w))) ≡ broken_at 0 (rat_le (value w) (value bound)) w bound
each_tested bend c w bound e =
    ap₂ (λ x (y : Frac). condition_stop 0 (rat_le (value w) x) (Ok (frac_at (value w))) (Ok y)) (sym e) (ap frac_at (sym e) ∙ frac_at-value bound)
    ∙ ap (λ (y : Frac). condition_stop 0 (rat_le (value w) (value bound)) (Ok y) (Ok bound)) (frac_at-value w)

-- the sum is compared with the product
pub all_tested : (bend : Bend) (k : ℕ) (c factor : Frac) (ws : List Frac) (r p : Result Frac Passes) → value factor ≡ outward bend (whole (pos k))
    → sum_in_order (map value ws) ≡ r → product_of factor c ≡ p →
    step_stop 0 (test (sum_condition bend k (value c) (map value ws))) ≡ condition_stop 0 (rat_eq (rat_sum (map value ws)) (value factor *ℚ value c)) r p
all_tested bend k c factor ws r p e f g =
    let product : product_of (frac_at (outward bend (whole (pos k)))) (frac_at (value c)) ≡ p = ap₂ product_of (ap frac_at (sym e) ∙ frac_at-value factor) (frac_at-value c) ∙ g in
    ap₂ (λ (x y : Result Frac Passes). condition_stop 0 (rat_eq (rat_sum (map value ws)) (outward bend (whole (pos k)) *ℚ value c)) x y) f product
    ∙ ap (λ m. condition_stop 0 (rat_eq (rat_sum (map value ws)) (m *ℚ value c)) r p) (sym e)

pub all_compared : (bend : Bend) (k : ℕ) (c factor : Frac) (ws : List Frac) (s p : Frac) → value factor ≡ outward bend (whole (pos k))
    → sum_in_order (map value ws) ≡ Ok s → product_of factor c ≡ Ok p →
    value p ≡ value factor *ℚ value c → step_stop 0 (test (sum_condition bend k (value c) (map value ws))) ≡ broken_at 0 (rat_eq (value s) (value p)) s p
all_compared bend k c factor ws s p e f g h =
    all_tested bend k c factor ws (Ok s) (Ok p) e f g ∙ ap₂ (λ x y. broken_at 0 (rat_eq x y) s p) (sym (value-sum_in_order ws s f)) (sym h)

-- the conditions as steps
pub conditions_are : (bend : Bend) (k : ℕ) (c : ℚ) (ws : List Frac) →
    map test (level_conditions bend k c (map value ws)) ≡ map (λ w. test (each_condition bend c (value w))) ws ++ test (sum_condition bend k c (map value ws)) ∷ []
conditions_are bend k c ws =
    map-append test (map (each_condition bend c) (map value ws)) (sum_condition bend k c (map value ws) ∷ [])
    ∙ ap (λ xs. xs ++ test (sum_condition bend k c (map value ws)) ∷ []) (ap (map test) (map-map value (each_condition bend c) ws) ∙ map-map (λ w. each_condition bend c (value w)) test ws)

-- ---- the steps of the meaning
numbers_formed : (g : ArgumentEntry → ℚ) (xs : List ArgumentEntry) → first_stop 0 (map (λ x. form (number (g x))) xs) ≡ None
numbers_formed g [] = refl
numbers_formed g (x ∷ xs) = numbers_formed g xs

own_weights : (bend : Bend) (k : ℕ) (args : List Sides) (ws : List Frac) → length ws ≡ entries_of (sides_at args 0)
    → list_below (entries_of (sides_at args 0)) (weights_of (largest_meaning bend k) args ws 0) ≡ map value ws
own_weights bend k args ws n =
    list_below-same (entries_of (sides_at args 0)) _ _ (λ r b. let e : 0 + r ≡ r = omega arith in ap (number_at ws) e)
    ∙ ap (λ m. list_below m (number_at ws)) (sym n) ∙ list_below-numbers ws

pub largest_stop : (bend : Bend) (k : ℕ) (args : List Sides) (cs ws : List Frac) (c : Frac) → length ws ≡ entries_of (sides_at args 0) → value c ≡ number_at cs 0 →
    entry_stop (largest_meaning bend k) args (number_at cs) (weights_of (largest_meaning bend k) args ws) 0
    ≡ first_stop 0 (map (λ w. test (is_weight w)) (map value ws) ++ map test (level_conditions bend k (value c) (map value ws)))
largest_stop bend k args cs ws c n e =
    let m = largest_meaning bend k in
    let size = entries_of (sides_at args 0) in
    let w = weights_of m args ws in
    let slopes = map (λ (x : ArgumentEntry). form (number (outward bend (w 0 x.entry)))) (list_below size (λ i. record { argument = 0; entry = i })) in
    ap (λ rows. first_stop 0 (map (λ x. test (is_weight x)) (list_below rows (w 0)) ++ map test (level_conditions bend k (number_at cs 0) (list_below size (w 0))) ++ slopes))
    (length-list_below size (level_row bend))
    ∙ ap₂ (λ xs y. first_stop 0 (map (λ x. test (is_weight x)) xs ++ map test (level_conditions bend k y xs) ++ slopes)) (own_weights bend k args ws n) (sym e)
    ∙ first_stop-append 0 (map (λ x. test (is_weight x)) (map value ws) ++ map test (level_conditions bend k (value c) (map value ws))) slopes
    ∙ ap (earlier (first_stop 0 (map (λ x. test (is_weight x)) (map value ws) ++ map test (level_conditions bend k (value c) (map value ws)))))
    (numbers_formed (λ x. outward bend (w 0 x.entry)) (list_below size (λ i. record { argument = 0; entry = i })))
    ∙ earlier-none_right _

-- ---- slopes
-- one more, where each is formed of the item at its place
pub mapped_more : {A B C : Type 0} (f : A → C) (g : B → C) (xs : List A) (i : ℕ) (x : A) (ys : List B) (y : B) → i < length xs → x ≡ get_or xs i x → map g ys ≡ map f (take i xs) → g y ≡ f x →
    map g (ys ++ y ∷ []) ≡ map f (take (i + 1) xs)
mapped_more f g xs i x ys y h e so_far same =
    map-append g ys (y ∷ []) ∙ ap₂ (λ zs z. zs ++ z ∷ []) so_far (same ∙ ap f e) ∙ sym (map_more f xs i x h)
