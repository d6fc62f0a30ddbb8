-- The steps by which the slopes of a fold come from weights.
use Rattle.std.proofs.Common.{◌≡◌, ℕ, zero, suc, ◌+◌, ◌*◌, ◌<◌, ◌≤◌, arith, List, [], ◌∷◌, ◌++◌, map, length, take, drop, mod-lt, refl, sym, ap, ap₂, ◌∙◌, subst}
use Rattle.std.proofs.Math.Nat.{div-lt_iff_lt-mul}
use Rattle.std.proofs.lemmas.List.{length-map}
use Rattle.dcx_math.specs.Rational.{ℚ}
use Rattle.dcx_math.specs.Sums.{rat_at}
use Rattle.dcx_frac.specs.declared.fraction.Frac.{Frac}
use Rattle.dcx_frac.specs.Frac.{value}
use Rattle.dcx_shape.specs.declared.shape.Sides.{Sides}
use Rattle.dcx_shape.specs.declared.shape.Sides.TheVariants.{Scalar, Vector, Matrix}
use Rattle.dcx_shape.specs.Sides.{entries_of}
use Rattle.dcx_shape.proofs.Entries.{factor_pos}
use Rattle.dcx_atom.specs.declared.axis.Axis.{Axis}
use Rattle.dcx_atom.specs.declared.axis.Axis.TheVariants.{All, Zero, One}
use Rattle.dcx_atom.specs.declared.graph.AuxKind.TheVariants.{Nonneg}
use Rattle.dcx_atom.specs.Arrays.{number_at, list_below, joined_below, sides_at}
use Rattle.dcx_atom.specs.Axis.{folded_count}
use Rattle.dcx_atom.specs.Formed.{exact}
use Rattle.dcx_atom.specs.Meaning.{Coefficients, Weights, ArgumentEntry}
use Rattle.dcx_atom.specs.Steps.{Step, test, form, is_weight, first_stop, entry_stop, rows_before, weights_of, slope_at, AreSlopesOf}
use Rattle.dcx_atom.specs.Bounding.{HaveNoStop, total_condition, argument_term, bound_row}
use Rattle.dcx_atom.proofs.BoundRows.{length-list_below, map-list_below, length-joined}
use Rattle.dcx_atom.proofs.Lists.{rat_at-list_below, rat_at-joined, list_below-same, among_parts, number_at-take, number_at-drop}
use Rattle.dcx_atom.proofs.Weights.{rows_before-same, own_weight, own_length}
use Rattle.dcx_fold.specs.declared.folding.Fold.{Fold}
use Rattle.dcx_fold.specs.declared.folding.Fold.TheVariants.{Max, Min, Norm1, NormInf}
use Rattle.dcx_fold.specs.Groups.{groups, member, group_of, member_of}
use Rattle.dcx_fold.specs.GroupLaws.{is_member}
use Rattle.dcx_fold.specs.Folds.{fold_bend, factors, member_rows, unknown_of, rows_of_member, group_rows, member_weights, group_conditions, member_slope, group_steps, fold_meaning}
use Rattle.dcx_fold.specs.FoldLaws.{rows_counted}

-- ---- the weights of one part among those of all
-- a part lies within all
part_within : (i n rows all : ℕ) → i < n → all ≡ n * rows → i * rows + rows ≤ all
part_within i n rows all h e = subst (λ m. i * rows + rows ≤ m) (sym e) (inside i n rows h)
  where
    inside : (i n rows : ℕ) → i < n → i * rows + rows ≤ n * rows
    inside i n rows h = grind arith

-- the weights of part i of n
pub record IsPart (i rows : ℕ) (ws : List Frac) : Type 0 where
  pub within : i * rows + rows ≤ length ws
  pub count : length (take rows (drop (i * rows) ws)) ≡ rows

pub is_part : (i n rows : ℕ) (ws : List Frac) → i < n → length ws ≡ n * rows → IsPart i rows ws
is_part i n rows ws h e = let w = part_within i n rows (length ws) h e in record { within = w; count = own_length ws i rows w }

-- a group has few rows
pub few_rows : (members rows : ℕ) → members ≤ 20000 → rows ≤ 2 → members * rows ≤ 40000
few_rows members zero h l = omega arith
few_rows members (suc zero) h l = omega arith
few_rows members (suc (suc zero)) h l = omega arith
few_rows members (suc (suc (suc rows))) h l = absurd (omega arith)

-- ---- steps take the weights of the group alone
pub member_slope-same : (p : Fold) (v w : ℕ → ℚ) → ((f : ℕ) → f < member_rows p → v f ≡ w f) → member_slope p v ≡ member_slope p w
member_slope-same Max v w h = rw (h 0 (omega arith)) refl
member_slope-same Min v w h = rw (h 0 (omega arith)) refl
member_slope-same Norm1 v w h = rw (h 0 (omega arith), h 1 (omega arith)) refl
member_slope-same NormInf v w h = rw (h 0 (omega arith), h 1 (omega arith)) refl

conditions-same : (p : Fold) (n : ℕ) (c : ℚ) (v w : ℕ → ℚ) → ((r : ℕ) → r < n * member_rows p → v r ≡ w r) → group_conditions p n c v ≡ group_conditions p n c w
conditions-same Max n c v w h = rw (list_below-same (n * 1) v w h) refl
conditions-same Min n c v w h = rw (list_below-same (n * 1) v w h) refl
conditions-same Norm1 n c v w h =
    list_below-same n _ _ (λ i b. ap (total_condition Nonneg c) (list_below-same 2 _ _ (λ f l. h (i * 2 + f) (among_parts i f 2 n b l))))
conditions-same NormInf n c v w h = rw (list_below-same (n * 2) v w h) refl

pub members-same : (p : Fold) (n : ℕ) (v w : ℕ → ℚ) → ((r : ℕ) → r < n * member_rows p → v r ≡ w r) → (i : ℕ) → i < n → member_slope p (member_weights p v i) ≡ member_slope p (member_weights p w i)
members-same p n v w h i b = member_slope-same p _ _ (λ f l. h (i * member_rows p + f) (among_parts i f (member_rows p) n b l))

group_steps-same : (p : Fold) (n : ℕ) (c : ℚ) (v w : ℕ → ℚ) → ((r : ℕ) → r < n * member_rows p → v r ≡ w r) → group_steps p n c v ≡ group_steps p n c w
group_steps-same p n c v w h =
    ap₂ (λ xs ys. xs ++ ys)
    (ap₂ (λ xs ys. map (λ x. test (is_weight x)) xs ++ map test ys) (list_below-same (n * member_rows p) v w h) (conditions-same p n c v w h))
    (list_below-same n _ _ (λ i b. ap form (members-same p n v w h i b)))

-- ---- the steps of a group are those of its entry
group_counted : (p : Fold) (axis : Axis) (s : Sides) (k : ℕ) → length (group_rows p axis s k) ≡ folded_count axis s * member_rows p
group_counted p axis s k =
    length-joined (folded_count axis s) (member_rows p) (λ i. rows_of_member p (unknown_of p (folded_count axis s) k i) (member axis s k i))
    (λ i. rows_counted p (unknown_of p (folded_count axis s) k i) (member axis s k i))

pub fold_rows_before : (p : Fold) (axis : Axis) (s : Sides) (k : ℕ) → rows_before (fold_meaning p axis) (s ∷ []) k ≡ k * (folded_count axis s * member_rows p)
fold_rows_before p axis s k = rows_before-same (fold_meaning p axis) (s ∷ []) (folded_count axis s * member_rows p) (group_counted p axis s) k

group_stop : (p : Fold) (axis : Axis) (s : Sides) (c : Coefficients) (w : Weights) (k : ℕ) → k < groups axis s →
    entry_stop (fold_meaning p axis) (s ∷ []) c w k ≡ first_stop k (group_steps p (folded_count axis s) (c k) (w k))
group_stop p axis s c w k h =
    let n = folded_count axis s in
    ap₂ (λ (rows : ℕ) (slopes : List Step). first_stop k (map (λ x. test (is_weight x)) (list_below rows (w k)) ++ map test (group_conditions p n (c k) (w k)) ++ slopes))
    (group_counted p axis s k)
    (map-list_below n (λ i. record { argument = 0; entry = member axis s k i })
    (λ (x : ArgumentEntry). form (member_slope p (member_weights p (w (group_of axis s x.entry)) (member_of axis s x.entry))))
    ∙ list_below-same n _ _ (λ i b. let m = is_member axis s k i h b in ap₂ (λ g j. form (member_slope p (member_weights p (w g) j))) m.group m.index))

-- the weights of a group among all
pub own_group : (p : Fold) (axis : Axis) (s : Sides) (ws : List Frac) (k : ℕ) (r : ℕ) → r < folded_count axis s * member_rows p →
    number_at (take (folded_count axis s * member_rows p) (drop (k * (folded_count axis s * member_rows p)) ws)) r ≡ weights_of (fold_meaning p axis) (s ∷ []) ws k r
own_group p axis s ws k r h = own_weight (fold_meaning p axis) (s ∷ []) ws (folded_count axis s * member_rows p) k (fold_rows_before p axis s k) r h

-- the first stop of a group, from its own weights
pub own_stop : (p : Fold) (axis : Axis) (s : Sides) (cs ws own : List Frac) (k : ℕ) (c : Frac) → k < groups axis s → value c ≡ number_at cs k →
    own ≡ take (folded_count axis s * member_rows p) (drop (k * (folded_count axis s * member_rows p)) ws) →
    entry_stop (fold_meaning p axis) (s ∷ []) (number_at cs) (weights_of (fold_meaning p axis) (s ∷ []) ws) k ≡ first_stop k (group_steps p (folded_count axis s) (value c) (number_at own))
own_stop p axis s cs ws own k c h e f =
    group_stop p axis s (number_at cs) (weights_of (fold_meaning p axis) (s ∷ []) ws) k h
    ∙ ap (λ x. first_stop k (group_steps p (folded_count axis s) x (weights_of (fold_meaning p axis) (s ∷ []) ws k))) (sym e)
    ∙ ap (first_stop k) (sym (group_steps-same p (folded_count axis s) (value c) _ _ (own_group p axis s ws k)))
    ∙ ap (λ xs. first_stop k (group_steps p (folded_count axis s) (value c) (number_at xs))) (sym f)

-- the slopes of a group, from its own weights
pub own_slopes : (p : Fold) (axis : Axis) (s : Sides) (ws own : List Frac) (k : ℕ) → own ≡ take (folded_count axis s * member_rows p) (drop (k * (folded_count axis s * member_rows p)) ws) →
    list_below (folded_count axis s) (λ i. exact (member_slope p (member_weights p (number_at own) i)))
    ≡ list_below (folded_count axis s) (λ i. exact (member_slope p (member_weights p (weights_of (fold_meaning p axis) (s ∷ []) ws k) i)))
own_slopes p axis s ws own k f =
    ap (λ (xs : List Frac). list_below (folded_count axis s) (λ i. exact (member_slope p (member_weights p (number_at xs) i)))) f
    ∙ list_below-same (folded_count axis s) _ _ (λ i b. ap exact (members-same p (folded_count axis s) _ _ (own_group p axis s ws k) i b))

-- ---- the order of the entries
-- each entry is a member of a group
pub record IsAmong (axis : Axis) (s : Sides) (e : ℕ) : Type 0 where
  pub group : group_of axis s e < groups axis s
  pub index : member_of axis s e < folded_count axis s

pub is_among : (axis : Axis) (s : Sides) (e : ℕ) → e < entries_of s → IsAmong axis s e
is_among All s e h = record { group = omega arith; index = h }
is_among Zero Scalar e h = record { group = omega arith; index = h }
is_among Zero (Vector n) e h = record { group = omega arith; index = h }
is_among Zero (Matrix m n) e h = let some = (factor_pos e m n h).1 in record { group = mod-lt e some; index = (div-lt_iff_lt-mul {k = n} {x = e} {y = m} some).1 h }
is_among One Scalar e h = record { group = omega arith; index = h }
is_among One (Vector n) e h = record { group = omega arith; index = h }
is_among One (Matrix m n) e h = let some = (factor_pos e m n h).1 in record { group = (div-lt_iff_lt-mul {k = n} {x = e} {y = m} some).1 h; index = mod-lt e some }

-- where an entry stands group by group is among all
pub spot_within : (axis : Axis) (s : Sides) (e size : ℕ) → e < entries_of s → size ≡ groups axis s * folded_count axis s → group_of axis s e * folded_count axis s + member_of axis s e < size
spot_within axis s e size h n =
    let a = is_among axis s e h in
    subst (λ m. group_of axis s e * folded_count axis s + member_of axis s e < m) (sym n) (among_parts (group_of axis s e) (member_of axis s e) (folded_count axis s) (groups axis s) a.group a.index)

-- slopes by groups, put in the order of the entries
pub fold_slopes_are : (p : Fold) (axis : Axis) (s : Sides) (size : ℕ) (cs ws by_group gs : List Frac) → size ≡ groups axis s → HaveNoStop (fold_meaning p axis) (s ∷ []) size cs ws →
    map value by_group ≡ joined_below size (λ k. list_below (folded_count axis s) (λ i. exact (member_slope p (member_weights p (weights_of (fold_meaning p axis) (s ∷ []) ws k) i)))) →
    map value gs ≡ list_below (entries_of s) (λ e. number_at by_group (group_of axis s e * folded_count axis s + member_of axis s e)) → AreSlopesOf (fold_meaning p axis) (s ∷ []) size cs ws gs
fold_slopes_are p axis s size cs ws by_group gs n none grouped ordered = record { no_stop = none; count = omega (arith, len); slopes = each }
  where
    w : Weights
    w = weights_of (fold_meaning p axis) (s ∷ []) ws

    len : length gs ≡ entries_of s
    len = sym (length-map gs value) ∙ ap length ordered ∙ length-list_below (entries_of s) _

    each : (i e : ℕ) → i < 1 → e < entries_of (sides_at (s ∷ []) i)
        → slope_at (s ∷ []) gs i e ≡ exact (member_slope p (member_weights p (w (group_of axis (sides_at (s ∷ []) 0) e)) (member_of axis (sides_at (s ∷ []) 0) e)))
    each zero e h b =
        let z : 0 + e ≡ e = omega arith in
        let a = is_among axis s e b in
        ap (number_at gs) z ∙ ap (λ xs. rat_at xs e) ordered ∙ rat_at-list_below (entries_of s) _ e b
        ∙ ap (λ xs. rat_at xs (group_of axis s e * folded_count axis s + member_of axis s e)) grouped
        ∙ rat_at-joined size (folded_count axis s) (λ k. list_below (folded_count axis s) (λ i. exact (member_slope p (member_weights p (w k) i)))) (λ k. length-list_below (folded_count axis s) _)
        (group_of axis s e) (member_of axis s e) (subst (λ m. group_of axis s e < m) (sym n) a.group) a.index
        ∙ rat_at-list_below (folded_count axis s) (λ i. exact (member_slope p (member_weights p (w (group_of axis s e)) i))) (member_of axis s e) a.index
    each (suc i) e h b = absurd (omega arith)

-- as many slopes by groups as there are entries
pub by_group_counted : (p : Fold) (axis : Axis) (s : Sides) (size : ℕ) (ws by_group : List Frac) →
    map value by_group ≡ joined_below size (λ k. list_below (folded_count axis s) (λ i. exact (member_slope p (member_weights p (weights_of (fold_meaning p axis) (s ∷ []) ws k) i)))) →
    length by_group ≡ size * folded_count axis s
by_group_counted p axis s size ws by_group e =
    sym (length-map by_group value) ∙ ap length e ∙ length-joined size (folded_count axis s) _ (λ k. length-list_below (folded_count axis s) _)

-- the slope of a member, from its own weights
pub own_member : (p : Fold) (ws own : List Frac) (i rows : ℕ) → rows ≡ member_rows p → own ≡ take rows (drop (i * rows) ws)
    → member_slope p (number_at own) ≡ member_slope p (member_weights p (number_at ws) i)
own_member p ws own i rows n e =
    member_slope-same p _ _ (λ f b.
    ap (λ (xs : List Frac). number_at xs f) (e ∙ ap (λ k. take k (drop (i * k) ws)) n)
    ∙ number_at-take (drop (i * member_rows p) ws) (member_rows p) f b ∙ number_at-drop ws (i * member_rows p) f)

-- as many weights as rows
pub fold_weights : (p : Fold) (axis : Axis) (s : Sides) (size : ℕ) (ws : List Frac) → length ws ≡ rows_before (fold_meaning p axis) (s ∷ []) size
    → length ws ≡ size * (folded_count axis s * member_rows p)
fold_weights p axis s size ws e = e ∙ fold_rows_before p axis s size
