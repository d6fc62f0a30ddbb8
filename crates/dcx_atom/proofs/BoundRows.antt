-- Rows that put one unknown beyond some terms: when they hold, and what their weights balance.
use Rattle.std.proofs.Common.{◌≡◌, ◌⊎◌, ⊎_elim, ap₂, ℕ, zero, suc, ◌+◌, ◌*◌, ◌<◌, arith, List, [], ◌∷◌, ◌++◌, refl, map, length, length-append, All, sym, ap, subst, ◌∙◌, pos, negsuc}
use Rattle.std.proofs.lemmas.List.{map-append}
use Rattle.std.proofs.lemmas.List.Elements.{All-cons, All-nil, All-head, All-tail}
use Rattle.dcx_math.specs.Rational.{ℚ, whole, neg_ℚ, ◌+ℚ◌, ◌*ℚ◌, ◌≤ℚ◌}
use Rattle.dcx_math.specs.Sums.{IsNonnegative, rat_sum, rat_sum_below}
use Rattle.dcx_math.proofs.Sums.{rat_sum_below-first, rat_sum-++, rat_sum_by-++}
use Rattle.dcx_math.proofs.Ring.{ring, reads}
use Rattle.dcx_math.proofs.Orders.{*ℚ-≤ℚ, linear, ≤ℚ-from_≡, +ℚ_idl, +ℚ_idr, +ℚ_assoc}
use Rattle.dcx_atom.specs.declared.flags.Bend.{Bend}
use Rattle.dcx_atom.specs.declared.flags.Bend.TheVariants.{Convex, Concave}
use Rattle.dcx_atom.specs.Arrays.{Entries, list_below, joined_below}
use Rattle.dcx_atom.specs.Signs.{IsBeyond}
use Rattle.dcx_atom.specs.Rows.{Filling, Row, RowTerm, FormTerm, operand_at, row_at, form_at, RowsHold, weighted}
use Rattle.dcx_atom.specs.Duality.{no_entries}
use Rattle.dcx_atom.specs.Bounding.{bound_row, unknown_form, outward}

-- the first of a list, and the others
pub list_below-first : {A : Type 0} (n : ℕ) (f : ℕ → A) → list_below (suc n) f ≡ f 0 ∷ list_below n (λ i. f (suc i))
list_below-first zero f = refl
list_below-first (suc n) f = ap (λ xs. xs ++ f (suc n) ∷ []) (list_below-first n f)

-- as many as are made
pub length-list_below : {A : Type 0} (n : ℕ) (f : ℕ → A) → length (list_below n f) ≡ n
length-list_below zero f = refl
length-list_below (suc n) f = length-append (list_below n f) (f n ∷ []) ∙ ap (λ k. k + 1) (length-list_below n f) ∙ omega arith

-- each made from what was made before
pub map-list_below : {A B : Type 0} (n : ℕ) (f : ℕ → A) (g : A → B) → map g (list_below n f) ≡ list_below n (λ i. g (f i))
map-list_below zero f g = refl
map-list_below (suc n) f g = map-append g (list_below n f) (f n ∷ []) ∙ ap (λ xs. xs ++ g (f n) ∷ []) (map-list_below n f g)

-- what holds of each that is made holds of one of them
pub All-at : {A : Type 0} (P : A → Type 0) (n : ℕ) (f : ℕ → A) → All P (list_below n f) → (i : ℕ) → i < n → P (f i)
All-at P zero f h i b = absurd (omega arith)
All-at P (suc n) f h zero b = All-head P (f 0) (list_below n (λ i. f (suc i))) (subst (All P) (list_below-first n f) h)
All-at P (suc n) f h (suc i) b =
    All-at P n (λ i. f (suc i)) (All-tail P (f 0) (list_below n (λ i. f (suc i))) (subst (All P) (list_below-first n f) h)) i (omega arith)

-- rows that are made one after the other hold where each does
pub RowsHold-list_below : (n : ℕ) (rows : ℕ → Row) (a : Entries) (t : Filling) → ((i : ℕ) → i < n → row_at (rows i) a t ≤ℚ whole (pos 0)) → RowsHold (list_below n rows) a t
RowsHold-list_below zero rows a t h = tt
RowsHold-list_below (suc n) rows a t h =
    subst (λ xs. RowsHold xs a t) (sym (list_below-first n rows)) (h 0 (omega arith), RowsHold-list_below n (λ i. rows (suc i)) a t (λ i b. h (suc i) (omega arith)))

-- and each does where they do
pub RowsHold-list_below_back : (n : ℕ) (rows : ℕ → Row) (a : Entries) (t : Filling) → RowsHold (list_below n rows) a t → (i : ℕ) → i < n → row_at (rows i) a t ≤ℚ whole (pos 0)
RowsHold-list_below_back zero rows a t h i b = absurd (omega arith)
RowsHold-list_below_back (suc n) rows a t h zero b = (subst (λ xs. RowsHold xs a t) (list_below-first n rows) h).0
RowsHold-list_below_back (suc n) rows a t h (suc i) b =
    RowsHold-list_below_back n (λ i. rows (suc i)) a t (subst (λ xs. RowsHold xs a t) (list_below-first n rows) h).1 i (omega arith)

-- weighted rows that are made one after the other
pub weighted-list_below : (n : ℕ) (rows : ℕ → Row) (w : ℕ → ℚ) (a : Entries) (t : Filling) →
    weighted (list_below n rows) w a t ≡ rat_sum_below n (λ r. w r *ℚ row_at (rows r) a t)
weighted-list_below zero rows w a t = refl
weighted-list_below (suc n) rows w a t =
    ap (λ xs. weighted xs w a t) (list_below-first n rows)
    ∙ ap (λ y. w 0 *ℚ row_at (rows 0) a t +ℚ y) (weighted-list_below n (λ i. rows (suc i)) (λ r. w (suc r)) a t)
    ∙ sym (rat_sum_below-first n (λ r. w r *ℚ row_at (rows r) a t))

-- ---- rows that are made several at a time
-- rows that follow one another hold where both parts do
RowsHold-append : (rows more : List Row) (a : Entries) (t : Filling) → RowsHold rows a t → RowsHold more a t → RowsHold (rows ++ more) a t
RowsHold-append [] more a t h k = k
RowsHold-append (row ∷ rows) more a t h k = (h.0, RowsHold-append rows more a t h.1 k)

RowsHold-parts : (rows more : List Row) (a : Entries) (t : Filling) → RowsHold (rows ++ more) a t → RowsHold rows a t × RowsHold more a t
RowsHold-parts [] more a t h = (tt, h)
RowsHold-parts (row ∷ rows) more a t h = let p = RowsHold-parts rows more a t h.1 in ((h.0, p.0), p.1)

pub below_or_last : (i n : ℕ) → i < suc n → (i < n) ⊎ (i ≡ n)
below_or_last i n h = grind arith

-- they hold where each part does
pub RowsHold-joined : (n : ℕ) (rows : ℕ → List Row) (a : Entries) (t : Filling) → ((i : ℕ) → i < n → RowsHold (rows i) a t) → RowsHold (joined_below n rows) a t
RowsHold-joined zero rows a t h = tt
RowsHold-joined (suc n) rows a t h = RowsHold-append (joined_below n rows) (rows n) a t (RowsHold-joined n rows a t (λ i b. h i (omega arith))) (h n (omega arith))

-- and each part does where they do
pub RowsHold-joined_back : (n : ℕ) (rows : ℕ → List Row) (a : Entries) (t : Filling) → RowsHold (joined_below n rows) a t → (i : ℕ) → i < n → RowsHold (rows i) a t
RowsHold-joined_back zero rows a t h i b = absurd (omega arith)
RowsHold-joined_back (suc n) rows a t h i b =
    let p = RowsHold-parts (joined_below n rows) (rows n) a t h in
    ⊎_elim (λ l. RowsHold-joined_back n rows a t p.0 i l) (λ e. subst (λ k. RowsHold (rows k) a t) (sym e) p.1) (below_or_last i n b)

weighted-append : (rows more : List Row) (w : ℕ → ℚ) (a : Entries) (t : Filling) →
    weighted (rows ++ more) w a t ≡ weighted rows w a t +ℚ weighted more (λ r. w (length rows + r)) a t
weighted-append [] more w a t =
    let e : (λ (r : ℕ). w (0 + r)) ≡ w = λ s r. w (zero_plus r s) in
    ap (λ v. weighted more v a t) (sym e) ∙ sym (+ℚ_idl (weighted more (λ r. w (0 + r)) a t))
  where
    zero_plus : (r : ℕ) → 0 + r ≡ r
    zero_plus r = omega arith
weighted-append (row ∷ rows) more w a t =
    let e : (λ (r : ℕ). w (suc (length rows + r))) ≡ (λ r. w (suc (length rows) + r)) = λ s r. w (suc_plus (length rows) r s) in
    ap (λ y. w 0 *ℚ row_at row a t +ℚ y) (weighted-append rows more (λ r. w (suc r)) a t)
    ∙ sym (+ℚ_assoc (w 0 *ℚ row_at row a t) (weighted rows (λ r. w (suc r)) a t) (weighted more (λ r. w (suc (length rows + r))) a t))
    ∙ ap (λ v. (w 0 *ℚ row_at row a t +ℚ weighted rows (λ r. w (suc r)) a t) +ℚ weighted more v a t) e
  where
    suc_plus : (n r : ℕ) → suc (n + r) ≡ suc n + r
    suc_plus n r = omega arith

-- n parts of as many rows each, and one part more
pub one_part_more : (a b n each : ℕ) → a ≡ n * each → b ≡ each → a + b ≡ suc n * each
one_part_more a b n each e f = omega (arith, e, f)

-- n parts of as many rows each
pub length-joined : {A : Type 0} (n each : ℕ) (f : ℕ → List A) → ((i : ℕ) → length (f i) ≡ each) → length (joined_below n f) ≡ n * each
length-joined zero each f h = omega arith
length-joined (suc n) each f h = length-append (joined_below n f) (f n) ∙ one_part_more (length (joined_below n f)) (length (f n)) n each (length-joined n each f h) (h n)

-- weighted rows of n parts of as many rows each
pub weighted-joined : (n each : ℕ) (rows : ℕ → List Row) (w : ℕ → ℚ) (a : Entries) (t : Filling) → ((i : ℕ) → length (rows i) ≡ each) →
    weighted (joined_below n rows) w a t ≡ rat_sum_below n (λ i. weighted (rows i) (λ r. w (i * each + r)) a t)
weighted-joined zero each rows w a t h = refl
weighted-joined (suc n) each rows w a t h =
    weighted-append (joined_below n rows) (rows n) w a t
    ∙ ap₂ (λ x k. x +ℚ weighted (rows n) (λ r. w (k + r)) a t) (weighted-joined n each rows w a t h) (length-joined n each rows h)

-- the sum of a list that is made
pub rat_sum-list_below : (n : ℕ) (f : ℕ → ℚ) → rat_sum (list_below n f) ≡ rat_sum_below n f
rat_sum-list_below zero f = refl
rat_sum-list_below (suc n) f = rat_sum-++ (list_below n f) (f n ∷ []) ∙ ap₂ ◌+ℚ◌ (rat_sum-list_below n f) (+ℚ_idr (f n))

-- a form that is made
pub form-list_below : (n : ℕ) (f : ℕ → FormTerm) (t : Filling) → form_at (list_below n f) t ≡ rat_sum_below n (λ i. (f i).coefficient *ℚ t (f i).aux)
form-list_below zero f t = refl
form-list_below (suc n) f t =
    rat_sum_by-++ (λ x. x.coefficient *ℚ t x.aux) (list_below n f) (f n ∷ [])
    ∙ ap₂ ◌+ℚ◌ (form-list_below n f t) (+ℚ_idr ((f n).coefficient *ℚ t (f n).aux))

-- the number that a term is
abbrev pub term_at : RowTerm → Entries → Filling → ℚ
term_at x a t = x.coefficient *ℚ operand_at x.operand a t

below : (q o t : ℚ) → q *ℚ o +ℚ (whole (negsuc 0) *ℚ t +ℚ whole (pos 0)) ≤ℚ whole (pos 0) → q *ℚ o ≤ℚ t
below q o t h = linear (q ∷ o ∷ t ∷ []) h (search reads depth 30) tt

below_back : (q o t : ℚ) → q *ℚ o ≤ℚ t → q *ℚ o +ℚ (whole (negsuc 0) *ℚ t +ℚ whole (pos 0)) ≤ℚ whole (pos 0)
below_back q o t h = linear (q ∷ o ∷ t ∷ []) h (search reads depth 30) tt

above : (q o t : ℚ) → whole (pos 1) *ℚ t +ℚ (neg_ℚ q *ℚ o +ℚ whole (pos 0)) ≤ℚ whole (pos 0) → t ≤ℚ q *ℚ o
above q o t h = linear (q ∷ o ∷ t ∷ []) h (search reads depth 30) tt

above_back : (q o t : ℚ) → t ≤ℚ q *ℚ o → whole (pos 1) *ℚ t +ℚ (neg_ℚ q *ℚ o +ℚ whole (pos 0)) ≤ℚ whole (pos 0)
above_back q o t h = linear (q ∷ o ∷ t ∷ []) h (search reads depth 30) tt

-- where the row holds, the unknown is beyond the term
pub beyond_of_row : (bend : Bend) (k : ℕ) (x : RowTerm) (a : Entries) (t : Filling) → row_at (bound_row bend k x) a t ≤ℚ whole (pos 0) → IsBeyond bend (term_at x a t) (t k)
beyond_of_row Convex k x a t h = below x.coefficient (operand_at x.operand a t) (t k) h
beyond_of_row Concave k x a t h = above x.coefficient (operand_at x.operand a t) (t k) h

-- and the other way round
pub row_of_beyond : (bend : Bend) (k : ℕ) (x : RowTerm) (a : Entries) (t : Filling) → IsBeyond bend (term_at x a t) (t k) → row_at (bound_row bend k x) a t ≤ℚ whole (pos 0)
row_of_beyond Convex k x a t h = below_back x.coefficient (operand_at x.operand a t) (t k) h
row_of_beyond Concave k x a t h = above_back x.coefficient (operand_at x.operand a t) (t k) h

-- the same of several rows
pub beyond_of_rows : {A : Type 0} (bend : Bend) (k : ℕ) (term : A → RowTerm) (ys : List A) (a : Entries) (t : Filling) → RowsHold (map (λ y. bound_row bend k (term y)) ys) a t →
    All (λ y. IsBeyond bend (term_at (term y) a t) (t k)) ys
beyond_of_rows bend k term [] a t h = All-nil (λ y. IsBeyond bend (term_at (term y) a t) (t k))
beyond_of_rows bend k term (y ∷ ys) a t h =
    All-cons (λ y. IsBeyond bend (term_at (term y) a t) (t k)) y ys (beyond_of_row bend k (term y) a t h.0) (beyond_of_rows bend k term ys a t h.1)

-- an unknown alone is itself
pub alone_is : (t : ℚ) → whole (pos 1) *ℚ t +ℚ whole (pos 0) ≡ t
alone_is t = ring (t ∷ []) (search reads depth 30) tt

-- so many times the unknown, which the rows take away where the entries are 0
abbrev pub taken : Bend → ℚ → ℚ → ℚ
taken Convex w t = neg_ℚ (w *ℚ t)
taken Concave w t = w *ℚ t

pub nothing_taken : (bend : Bend) (t : ℚ) → whole (pos 0) ≡ taken bend (whole (pos 0)) t
nothing_taken Convex t = ring (t ∷ []) (search reads depth 30) tt
nothing_taken Concave t = ring (t ∷ []) (search reads depth 30) tt

less_taken : (w v q t : ℚ) → w *ℚ (q *ℚ whole (pos 0) +ℚ (whole (negsuc 0) *ℚ t +ℚ whole (pos 0))) +ℚ neg_ℚ (v *ℚ t) ≡ neg_ℚ ((w +ℚ v) *ℚ t)
less_taken w v q t = ring (w ∷ v ∷ q ∷ t ∷ []) (search reads depth 30) tt

also_taken : (w v q t : ℚ) → w *ℚ (whole (pos 1) *ℚ t +ℚ (neg_ℚ q *ℚ whole (pos 0) +ℚ whole (pos 0))) +ℚ v *ℚ t ≡ (w +ℚ v) *ℚ t
also_taken w v q t = ring (w ∷ v ∷ q ∷ t ∷ []) (search reads depth 30) tt

more_taken : (bend : Bend) (k : ℕ) (x : RowTerm) (t : Filling) (w v : ℚ) → operand_at x.operand no_entries t ≡ whole (pos 0) →
    w *ℚ row_at (bound_row bend k x) no_entries t +ℚ taken bend v (t k) ≡ taken bend (w +ℚ v) (t k)
more_taken Convex k x t w v e =
    ap (λ o. w *ℚ (x.coefficient *ℚ o +ℚ (whole (negsuc 0) *ℚ t k +ℚ whole (pos 0))) +ℚ neg_ℚ (v *ℚ t k)) e ∙ less_taken w v x.coefficient (t k)
more_taken Concave k x t w v e =
    ap (λ o. w *ℚ (whole (pos 1) *ℚ t k +ℚ (neg_ℚ x.coefficient *ℚ o +ℚ whole (pos 0))) +ℚ v *ℚ t k) e ∙ also_taken w v x.coefficient (t k)

-- weighted rows at entries that are 0
pub weighted-taken : {A : Type 0} (bend : Bend) (k : ℕ) (term : A → RowTerm) (ys : List A) (w : ℕ → ℚ) (t : Filling) →
    ((y : A) → operand_at (term y).operand no_entries t ≡ whole (pos 0)) →
    weighted (map (λ y. bound_row bend k (term y)) ys) w no_entries t ≡ taken bend (rat_sum (list_below (length ys) w)) (t k)
weighted-taken bend k term [] w t none = nothing_taken bend (t k)
weighted-taken bend k term (y ∷ ys) w t none =
    ap (λ v. w 0 *ℚ row_at (bound_row bend k (term y)) no_entries t +ℚ v) (weighted-taken bend k term ys (λ r. w (suc r)) t none)
    ∙ more_taken bend k (term y) t (w 0) _ (none y)
    ∙ ap (λ ws. taken bend (rat_sum ws) (t k)) (sym (list_below-first (length ys) w))

pub kept : (c s t : ℚ) → s ≤ℚ c → IsNonnegative t → IsNonnegative (c *ℚ (whole (pos 1) *ℚ t +ℚ whole (pos 0)) +ℚ neg_ℚ (s *ℚ t))
kept c s t h k = linear (c ∷ s ∷ t ∷ []) (*ℚ-≤ℚ k h) (search reads depth 30) tt

-- weights that sum to at most c don't let an unknown of at least 0 lower c times it
pub nonneg_balanced : {A : Type 0} (k : ℕ) (c : ℚ) (term : A → RowTerm) (ys : List A) (w : ℕ → ℚ) (t : Filling) →
    ((y : A) → operand_at (term y).operand no_entries t ≡ whole (pos 0)) → rat_sum (list_below (length ys) w) ≤ℚ c → IsNonnegative (t k) →
    IsNonnegative (c *ℚ form_at (unknown_form k) t +ℚ weighted (map (λ y. bound_row Convex k (term y)) ys) w no_entries t)
nonneg_balanced k c term ys w t none h n =
    subst (λ v. IsNonnegative (c *ℚ form_at (unknown_form k) t +ℚ v)) (sym (weighted-taken Convex k term ys w t none)) (kept c (rat_sum (list_below (length ys) w)) (t k) h n)

pub level : (bend : Bend) (c t : ℚ) → whole (pos 0) ≡ c *ℚ (whole (pos 1) *ℚ t +ℚ whole (pos 0)) +ℚ taken bend (outward bend c) t
level Convex c t = ring (c ∷ t ∷ []) (search reads depth 30) tt
level Concave c t = ring (c ∷ t ∷ []) (search reads depth 30) tt

-- weights that sum to c, or to -c for a concave call, leave nothing of c times a free unknown
pub free_balanced : {A : Type 0} (bend : Bend) (k : ℕ) (c : ℚ) (term : A → RowTerm) (ys : List A) (w : ℕ → ℚ) (t : Filling) →
    ((y : A) → operand_at (term y).operand no_entries t ≡ whole (pos 0)) → rat_sum (list_below (length ys) w) ≡ outward bend c →
    IsNonnegative (c *ℚ form_at (unknown_form k) t +ℚ weighted (map (λ y. bound_row bend k (term y)) ys) w no_entries t)
free_balanced bend k c term ys w t none h =
    ≤ℚ-from_≡ (level bend c (t k) ∙ ap (λ v. c *ℚ form_at (unknown_form k) t +ℚ v) (ap (λ s. taken bend s (t k)) (sym h) ∙ sym (weighted-taken bend k term ys w t none)))
