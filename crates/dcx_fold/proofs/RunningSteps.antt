-- The running maximum, and the steps by which its slopes come from weights, as the code has them.
use Rattle.std.proofs.Common.{◌≡◌, ℕ, zero, suc, ◌+◌, ◌-◌, ◌*◌, ◌<◌, ◌≤◌, arith, Bool, true, false, if◌then◌else◌, List, [], ◌∷◌, ◌++◌, map, length, take, drop}
use Rattle.std.proofs.Common.{get_or, length-take-le, length-drop, refl, sym, ap, ap₂, ◌∙◌, subst, None, Result, Ok, Err, IfOk}
use Rattle.std.specs.Prelude.{nat_lt}
use Rattle.std.proofs.lemmas.Bool.{lt-ltb, ltb-true}
use Rattle.std.proofs.lemmas.List.{length-map}
use Rattle.dcx_math.specs.Rational.{ℚ, rat_max, rat_eq}
use Rattle.dcx_math.specs.Sums.{rat_sum, rat_at}
use Rattle.dcx_math.proofs.Bounds.{rat_max_self}
use Rattle.dcx_frac.specs.declared.fraction.Frac.{Frac}
use Rattle.dcx_frac.specs.declared.fraction.Passes.{Passes}
use Rattle.dcx_frac.specs.Frac.{value}
use Rattle.dcx_shape.specs.declared.shape.Sides.{Sides}
use Rattle.dcx_shape.specs.declared.shape.Sides.TheVariants.{Vector}
use Rattle.dcx_shape.specs.Sides.{entries_of}
use Rattle.dcx_atom.specs.declared.flags.Bend.TheVariants.{Convex}
use Rattle.dcx_atom.specs.Arrays.{list_below, number_at, sides_at}
use Rattle.dcx_atom.specs.Formed.{number, sum_in_order}
use Rattle.dcx_atom.specs.Meaning.{Coefficients, Weights}
use Rattle.dcx_atom.specs.Steps.{Step, test, form, is_weight, condition_stop, step_stop, first_stop, weights_stop, entry_stop, rows_before, weights_of, slope_at, AreSlopesOf}
use Rattle.dcx_atom.specs.Bounding.{HaveNoStop}
use Rattle.dcx_atom.specs.Graph.{PlacedRow, rows_below}
use Rattle.dcx_atom.specs.Rows.{Row}
use Rattle.dcx_atom.specs.Farthest.{extreme, extreme_from}
use Rattle.dcx_atom.proofs.BoundRows.{length-list_below}
use Rattle.dcx_atom.proofs.FirstStops.{first_stop-append, first_stop-passed}
use Rattle.dcx_atom.proofs.Lists.{joined_below-next, list_below-numbers, list_below-same, number_at-take, number_at-drop, rat_at-list_below}
use Rattle.dcx_atom.proofs.Totals.{earlier-none_right, value-sum_in_order}
use Rattle.dcx_fold.specs.Running.{greatest_so_far, running_rows, own_weights, next_weights, running_condition, rows_until, running_weights, running_tests, running_meaning}

-- ---- values
numbers_taken : (xs : List Frac) (n : ℕ) → n ≤ length xs → list_below n (number_at xs) ≡ map value (take n xs)
numbers_taken xs n h =
    list_below-same n (number_at xs) (number_at (take n xs)) (λ r b. sym (number_at-take xs n r b))
    ∙ ap (λ k. list_below k (number_at (take n xs))) (sym (length-take-le n xs h)) ∙ list_below-numbers (take n xs)

-- the greatest of the first and of the numbers so far
pub so_far : (xs : List Frac) (x : Frac) (i : ℕ) → i < length xs → x ≡ get_or xs 0 x → extreme_from Convex (value x) (map value (take (i + 1) xs)) ≡ greatest_so_far (number_at xs) i
so_far [] x i h e = absurd (omega arith)
so_far (y ∷ ys) x i h e =
    let s : i + 1 ≡ suc i = omega arith in
    ap (λ k. extreme_from Convex (value x) (map value (take k (y ∷ ys)))) s
    ∙ ap (λ z. extreme_from Convex z (map value (take i ys))) (ap (λ (w : Frac). rat_max (value w) (value y)) e ∙ rat_max_self (value y))
    ∙ ap (extreme Convex) (sym (numbers_taken (y ∷ ys) (suc i) (omega arith)))

-- ---- weights
pub room : (j size : ℕ) → j < size → rows_until j + length (running_rows j) ≤ rows_until size
room zero zero h = absurd (omega arith)
room zero (suc s) h = omega arith
room (suc i) zero h = absurd (omega arith)
room (suc i) (suc s) h = omega arith

pub next_room : (j size : ℕ) → j + 1 < size → rows_until (j + 1) + 1 < rows_until size
next_room j zero h = absurd (omega arith)
next_room j (suc s) h = let e : j + 1 ≡ suc j = omega arith in subst (λ k. rows_until k + 1 < rows_until (suc s)) (sym e) (omega arith)

numbers_part : (ws : List Frac) (start n : ℕ) → start + n ≤ length ws → map value (take n (drop start ws)) ≡ list_below n (λ r. number_at ws (start + r))
numbers_part ws start n h =
    let l : n ≤ length (drop start ws) = omega (arith, length-drop start ws) in
    sym (numbers_taken (drop start ws) n l) ∙ list_below-same n _ _ (λ r b. number_at-drop ws start r)

-- the weights of an entry's rows
pub own_is : (ws : List Frac) (j size : ℕ) → j < size → length ws ≡ rows_until size → map value (take (length (running_rows j)) (drop (rows_until j) ws)) ≡ own_weights j (running_weights ws j)
own_is ws zero size h n = numbers_part ws 0 1 (subst (λ m. 0 + 1 ≤ m) (sym n) (room zero size h))
own_is ws (suc i) size h n = numbers_part ws (suc (i * 2)) 2 (subst (λ m. suc (i * 2) + 2 ≤ m) (sym n) (room (suc i) size h))

-- the weight that carries an entry on, and none after the last
pub next_is : (size j : ℕ) (w : ℕ → ℕ → ℚ) → j + 1 < size → next_weights size w j ≡ w (j + 1) 1 ∷ []
next_is size j w h =
    let e : j + 1 ≡ suc j = omega arith in
    rw e (by (nat_lt (suc j) size) (lt-ltb (suc j) size (omega arith)))
  where
    by : (b : Bool) → b ≡ true → (if b then w (suc j) 1 ∷ [] else []) ≡ w (suc j) 1 ∷ []
    by true e = refl
    by false e = cc

pub next_none : (size j : ℕ) (w : ℕ → ℕ → ℚ) → size ≤ j + 1 → next_weights size w j ≡ []
next_none size j w h = by (nat_lt (suc j) size) refl
  where
    by : (b : Bool) → nat_lt (suc j) size ≡ b → (if b then w (suc j) 1 ∷ [] else []) ≡ []
    by true e = let below = ltb-true (suc j) size e in absurd (omega (arith, below, h))
    by false e = refl

-- a sum that is formed is the exact one
pub summed : (r : Result Frac Passes) (fs : List Frac) (qs : List ℚ) → map value fs ≡ qs → r ≡ sum_in_order (map value fs) → IfOk r (λ f. value f ≡ rat_sum qs)
summed (Ok f) fs qs e h = value-sum_in_order fs f (sym h) ∙ ap rat_sum e
summed (Err passes) fs qs e h = tt

-- both sides are formed and compared
pub balance_stop : (j size : ℕ) (c : ℚ) (w : ℕ → ℕ → ℚ) (l r : Result Frac Passes) → sum_in_order (own_weights j (w j)) ≡ l → sum_in_order (c ∷ next_weights size w j) ≡ r →
    step_stop j (test (running_condition size c w j)) ≡ condition_stop j (rat_eq (rat_sum (own_weights j (w j))) (rat_sum (c ∷ next_weights size w j))) l r
balance_stop j size c w l r e f = ap₂ (condition_stop j (rat_eq (rat_sum (own_weights j (w j))) (rat_sum (c ∷ next_weights size w j)))) e f

-- ---- the steps of the meaning
pub before_is : (args : List Sides) (j : ℕ) → rows_before running_meaning args j ≡ rows_until j
before_is args zero = refl
before_is args (suc zero) = refl
before_is args (suc (suc i)) = let e = before_is args (suc i) in omega (arith, e)

pub weights_are : (args : List Sides) (ws : List Frac) → running_weights ws ≡ weights_of running_meaning args ws
weights_are args ws = λ t j r. number_at ws (sym (before_is args j) t + r)

numbers_only : (j : ℕ) (steps : List Step) (x : ℚ) → first_stop j (steps ++ form (number x) ∷ []) ≡ first_stop j steps
numbers_only j steps x = first_stop-append j steps (form (number x) ∷ []) ∙ earlier-none_right (first_stop j steps)

entry_is : (args : List Sides) (c : Coefficients) (w : Weights) (j : ℕ) → entry_stop running_meaning args c w j ≡ first_stop j (running_tests (entries_of (sides_at args 0)) (c j) w j)
entry_is args c w zero = numbers_only 0 (running_tests (entries_of (sides_at args 0)) (c 0) w 0) (w 0 0)
entry_is args c w (suc i) = numbers_only (suc i) (running_tests (entries_of (sides_at args 0)) (c (suc i)) w (suc i)) (w (suc i) 0)

-- the first stop of an entry
pub running_stop : (size : ℕ) (cs ws : List Frac) (j : ℕ) (c : Frac) → value c ≡ number_at cs j →
    entry_stop running_meaning (Vector size ∷ []) (number_at cs) (weights_of running_meaning (Vector size ∷ []) ws) j ≡ first_stop j (running_tests size (value c) (running_weights ws) j)
running_stop size cs ws j c e =
    entry_is (Vector size ∷ []) (number_at cs) (weights_of running_meaning (Vector size ∷ []) ws) j
    ∙ ap₂ (λ x w. first_stop j (running_tests size x w j)) (sym e) (sym (weights_are (Vector size ∷ []) ws))

-- slopes in order
pub running_slopes_are : (size : ℕ) (cs ws gs : List Frac) → HaveNoStop running_meaning (Vector size ∷ []) size cs ws → map value gs ≡ list_below size (λ e. running_weights ws e 0) →
    AreSlopesOf running_meaning (Vector size ∷ []) size cs ws gs
running_slopes_are size cs ws gs none e = record { no_stop = none; count = omega (arith, len); slopes = each }
  where
    len : length gs ≡ size
    len = sym (length-map gs value) ∙ ap length e ∙ length-list_below size (λ e. running_weights ws e 0)

    each : (i k : ℕ) → i < 1 → k < entries_of (sides_at (Vector size ∷ []) i) → slope_at (Vector size ∷ []) gs i k ≡ weights_of running_meaning (Vector size ∷ []) ws k 0
    each zero k h b =
        let z : 0 + k ≡ k = omega arith in
        ap (number_at gs) z ∙ ap (λ xs. rat_at xs k) e ∙ rat_at-list_below size (λ e. running_weights ws e 0) k b ∙ ap (λ w. w k 0) (weights_are (Vector size ∷ []) ws)
    each (suc i) k h b = absurd (omega arith)

-- the weights are tested before their sum
pub tests_passed : (j size : ℕ) (c : ℚ) (w : ℕ → ℕ → ℚ) → weights_stop j (own_weights j (w j)) ≡ None → first_stop j (running_tests size c w j) ≡ step_stop j (test (running_condition size c w j))
tests_passed j size c w none =
    first_stop-passed j (map (λ x. test (is_weight x)) (own_weights j (w j))) (test (running_condition size c w j) ∷ []) none ∙ earlier-none_right (step_stop j (test (running_condition size c w j)))

-- an entry has a row, so its first weight is among all
pub first_within : (ws : List Frac) (j size : ℕ) → j < size → length ws ≡ rows_until size → rows_until j < length ws
first_within ws zero size h n = let r = room zero size h in omega (arith, n, r)
first_within ws (suc i) size h n = let r = room (suc i) size h in omega (arith, n, r)

-- ---- rows
-- those of one more entry
pub rows_of_next : (j : ℕ) (rows : List PlacedRow) → rows ≡ rows_below j running_rows → rows ++ map (λ row. record { entry = j; row = row }) (running_rows j) ≡ rows_below (j + 1) running_rows
rows_of_next j rows e =
    let own = λ (k : ℕ). map (λ (row : Row). record { entry = k; row = row }) (running_rows k) in
    ap (λ (xs : List PlacedRow). xs ++ own j) e ∙ sym (joined_below-next j own)
