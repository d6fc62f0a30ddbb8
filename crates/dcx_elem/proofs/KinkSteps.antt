-- The steps by which the slopes of magnitudes and parts come from weights.
use Rattle.std.proofs.Common.{◌≡◌, ℕ, zero, suc, ◌+◌, ◌*◌, ◌<◌, ◌≤◌, arith, List, [], ◌∷◌, map, length, take, drop, refl, sym, ap, ◌∙◌, subst, None}
use Rattle.std.proofs.lemmas.List.{length-map}
use Rattle.dcx_math.specs.Rational.{ℚ}
use Rattle.dcx_math.specs.Sums.{rat_at}
use Rattle.dcx_frac.specs.declared.fraction.Frac.{Frac}
use Rattle.dcx_frac.specs.Frac.{value}
use Rattle.dcx_shape.specs.declared.shape.Sides.{Sides}
use Rattle.dcx_shape.specs.Sides.{entries_of}
use Rattle.dcx_atom.specs.declared.flags.Bend.TheVariants.{Convex}
use Rattle.dcx_atom.specs.Arrays.{number_at, list_below, sides_at}
use Rattle.dcx_atom.specs.Formed.{exact}
use Rattle.dcx_atom.specs.Meaning.{Coefficients, Weights}
use Rattle.dcx_atom.specs.Steps.{first_stop, entry_stop, rows_before, weights_of, slope_at, AreSlopesOf}
use Rattle.dcx_elem.specs.declared.kinks.Kink.{Kink}
use Rattle.dcx_elem.specs.declared.kinks.Kink.TheVariants.{Abs, Pos, Neg}
use Rattle.dcx_atom.specs.Bounding.{argument_term, bound_row}
use Rattle.dcx_atom.proofs.BoundRows.{length-list_below}
use Rattle.dcx_elem.specs.Kinks.{kink_factors, kink_rows, kink_slope, kink_steps, kink_meaning}
use Rattle.dcx_atom.proofs.Lists.{rat_at-list_below}
use Rattle.dcx_atom.proofs.Weights.{rows_before-same, within_rows, own_weight}

-- each entry has the same number of rows
pub kink_rows_before : (p : Kink) (args : List Sides) (j : ℕ) → rows_before (kink_meaning p) args j ≡ j * kink_rows p
kink_rows_before p args j =
    rows_before-same (kink_meaning p) args (kink_rows p) (λ j. length-map (kink_factors p) (λ q. bound_row Convex j (argument_term 0 j q))) j

-- among so many weights are those of each entry
pub room : (p : Kink) (s : Sides) (ws : List Frac) (j n : ℕ) → j < entries_of s → length ws ≡ rows_before (kink_meaning p) (s ∷ []) (entries_of s) → n ≡ kink_rows p → j * n + n ≤ length ws
room p s ws j n h l e =
    subst (λ k. j * n + n ≤ k) (sym (l ∙ kink_rows_before p (s ∷ []) (entries_of s) ∙ ap (λ k. entries_of s * k) (sym e))) (within_rows j n (entries_of s) h)

-- the weights of an entry's rows
own : (p : Kink) (args : List Sides) (ws : List Frac) (j r : ℕ) → r < kink_rows p →
    number_at (take (kink_rows p) (drop (j * kink_rows p) ws)) r ≡ weights_of (kink_meaning p) args ws j r
own p args ws j r h = own_weight (kink_meaning p) args ws (kink_rows p) j (kink_rows_before p args j) r h

-- the slope takes the weights of the entry's rows alone
pub kink_slope-same : (p : Kink) (v w : ℕ → ℚ) → ((r : ℕ) → r < kink_rows p → v r ≡ w r) → kink_slope p v ≡ kink_slope p w
kink_slope-same Abs v w h = rw (h 0 (omega arith), h 1 (omega arith)) refl
kink_slope-same Pos v w h = rw (h 0 (omega arith)) refl
kink_slope-same Neg v w h = rw (h 0 (omega arith)) refl

-- so do its steps
pub kink_steps-same : (p : Kink) (c : ℚ) (v w : ℕ → ℚ) → ((r : ℕ) → r < kink_rows p → v r ≡ w r) → kink_steps p c v ≡ kink_steps p c w
kink_steps-same Abs c v w h = rw (h 0 (omega arith), h 1 (omega arith)) refl
kink_steps-same Pos c v w h = rw (h 0 (omega arith)) refl
kink_steps-same Neg c v w h = rw (h 0 (omega arith)) refl

-- and these are the steps of the meaning
pub kink_stop : (p : Kink) (args : List Sides) (c : Coefficients) (w : Weights) (j : ℕ) → first_stop j (kink_steps p (c j) (w j)) ≡ entry_stop (kink_meaning p) args c w j
kink_stop Abs args c w j = refl
kink_stop Pos args c w j = refl
kink_stop Neg args c w j = refl

-- the first stop of an entry, from its own weights
pub own_stop : (p : Kink) (args : List Sides) (cs ws : List Frac) (j : ℕ) (c : Frac) → value c ≡ number_at cs j →
    first_stop j (kink_steps p (value c) (number_at (take (kink_rows p) (drop (j * kink_rows p) ws)))) ≡ entry_stop (kink_meaning p) args (number_at cs) (weights_of (kink_meaning p) args ws) j
own_stop p args cs ws j c e =
    ap (first_stop j) (kink_steps-same p (value c) _ _ (own p args ws j) ∙ ap (λ x. kink_steps p x (weights_of (kink_meaning p) args ws j)) e)
    ∙ kink_stop p args (number_at cs) (weights_of (kink_meaning p) args ws) j

-- the slope of an entry, from its own weights
pub own_slope : (p : Kink) (args : List Sides) (ws : List Frac) (j : ℕ) →
    exact (kink_slope p (number_at (take (kink_rows p) (drop (j * kink_rows p) ws)))) ≡ exact (kink_slope p (weights_of (kink_meaning p) args ws j))
own_slope p args ws j = ap exact (kink_slope-same p _ _ (own p args ws j))

-- entries without a stop, and their slopes in order
pub kink_slopes_are : (p : Kink) (s : Sides) (cs ws gs : List Frac) →
    ((k : ℕ) → k < entries_of s → entry_stop (kink_meaning p) (s ∷ []) (number_at cs) (weights_of (kink_meaning p) (s ∷ []) ws) k ≡ None) →
    map value gs ≡ list_below (entries_of s) (λ e. exact (kink_slope p (weights_of (kink_meaning p) (s ∷ []) ws e))) →
    AreSlopesOf (kink_meaning p) (s ∷ []) (entries_of s) cs ws gs
kink_slopes_are p s cs ws gs none e = record { no_stop = none; count = omega (arith, len); slopes = each }
  where
    len : length gs ≡ entries_of s
    len = sym (length-map gs value) ∙ ap length e ∙ length-list_below (entries_of s) (λ e. exact (kink_slope p (weights_of (kink_meaning p) (s ∷ []) ws e)))

    each : (i k : ℕ) → i < 1 → k < entries_of (sides_at (s ∷ []) i) → slope_at (s ∷ []) gs i k ≡ exact (kink_slope p (weights_of (kink_meaning p) (s ∷ []) ws k))
    each zero k h b =
        let z : 0 + k ≡ k = omega arith in
        ap (number_at gs) z ∙ ap (λ xs. rat_at xs k) e ∙ rat_at-list_below (entries_of s) (λ e. exact (kink_slope p (weights_of (kink_meaning p) (s ∷ []) ws e))) k b
    each (suc i) k h b = absurd (omega arith)
