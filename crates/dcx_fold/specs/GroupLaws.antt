-- The laws of groups: each entry of the argument is one member of one group.
use Rattle.std.proofs.Common.{◌≡◌, ℕ, zero, suc, ◌+◌, ◌*◌, ◌/◌, ◌%◌, ◌<◌, Bool, true, false, if◌then◌else◌, arith, List, [], ◌∷◌, Option, Some, None, IsSome, refl, sym, ap, ◌∙◌}
use Rattle.std.specs.Prelude.{nat_le}
use Rattle.std.proofs.lemmas.Nat.{mod-mul-add, div-mul-add}
use Rattle.std.proofs.lemmas.Bool.{leb-true}
use Rattle.dcx_math.specs.Rational.{ℚ, ◌+ℚ◌}
use Rattle.dcx_math.specs.Sums.{rat_sum_below}
use Rattle.dcx_math.proofs.Orders.{+ℚ_idl, +ℚ_idr, +ℚ_assoc}
use Rattle.dcx_math.proofs.Sums.{rat_sum_below-same, rat_sum_below-exchange}
use Rattle.dcx_shape.specs.declared.shape.Sides.{Sides}
use Rattle.dcx_shape.specs.declared.shape.Sides.TheVariants.{Scalar, Vector, Matrix}
use Rattle.dcx_shape.specs.Sides.{entries_of}
use Rattle.dcx_shape.proofs.Entries.{factor_pos}
use Rattle.dcx_atom.specs.declared.axis.Axis.{Axis}
use Rattle.dcx_atom.specs.declared.axis.Axis.TheVariants.{All, Zero, One}
use Rattle.dcx_atom.specs.Axis.{folded_count, folded, folded_stride}
use Rattle.dcx_atom.specs.Arrays.{sides_at}
use Rattle.dcx_fold.specs.Groups.{groups, member, group_of, member_of, fold_sides}

-- a value of one argument with entries
pub record IsFold (axis : Axis) (args : List Sides) (to : Sides) : Type 0 where
  pub from : Sides
  pub only : args ≡ from ∷ []
  pub sides : folded axis from ≡ Some to
  pub some : 0 < entries_of from

pub is_fold : (axis : Axis) (args : List Sides) (to : Sides) → fold_sides axis args ≡ Some to → IsFold axis args to
is_fold axis [] to e = cc
is_fold axis (s ∷ []) to e = by (nat_le 1 (entries_of s)) refl e
  where
    by : (b : Bool) → nat_le 1 (entries_of s) ≡ b → (if b then folded axis s else None) ≡ Some to → IsFold axis (s ∷ []) to
    by true f h = let some = leb-true 1 (entries_of s) f in record { from = s; only = refl; sides = h; some = omega (arith, some) }
    by false f h = cc
is_fold axis (s ∷ r ∷ rs) to e = cc

-- the only argument
pub first_is : (axis : Axis) (args : List Sides) (to : Sides) (f : IsFold axis args to) → sides_at args 0 ≡ f.from
first_is axis args to f = ap (λ xs. sides_at xs 0) f.only

-- the sides of the value are those that the axis leaves of the argument
pub at_only : (axis : Axis) (args : List Sides) (s to : Sides) → IsSome (fold_sides axis args) → sides_at args 0 ≡ s → folded axis s ≡ Some to → fold_sides axis args ≡ Some to
at_only axis args s to some first e = by (fold_sides axis args) refl some
  where
    by : (o : Option Sides) → fold_sides axis args ≡ o → IsSome o → fold_sides axis args ≡ Some to
    by None f some = cc
    by (Some t) f some =
        let fold = is_fold axis args t f in
        f ∙ sym fold.sides ∙ ap (folded axis) (sym (first_is axis args t fold) ∙ first) ∙ e

-- each group has as many members
pub count_is : (axis : Axis) (s : Sides) (k : ℕ) → (folded_stride axis s k).count ≡ folded_count axis s
count_is All s k = refl
count_is Zero Scalar k = refl
count_is Zero (Vector n) k = refl
count_is Zero (Matrix m n) k = refl
count_is One Scalar k = refl
count_is One (Vector n) k = refl
count_is One (Matrix m n) k = refl

-- and there is a group for each entry of the value
pub groups_are : (axis : Axis) (s to : Sides) → folded axis s ≡ Some to → entries_of to ≡ groups axis s
groups_are All Scalar to e = let f : Scalar ≡ to = cc in ap entries_of (sym f)
groups_are All (Vector n) to e = let f : Scalar ≡ to = cc in ap entries_of (sym f)
groups_are All (Matrix m n) to e = let f : Scalar ≡ to = cc in ap entries_of (sym f)
groups_are Zero Scalar to e = cc
groups_are Zero (Vector n) to e = let f : Scalar ≡ to = cc in ap entries_of (sym f)
groups_are Zero (Matrix m n) to e = let f : Vector n ≡ to = cc in ap entries_of (sym f)
groups_are One Scalar to e = cc
groups_are One (Vector n) to e = cc
groups_are One (Matrix m n) to e = let f : Vector m ≡ to = cc in ap entries_of (sym f)

-- no group is empty where there are entries
pub some_members : (axis : Axis) (s : Sides) → 0 < entries_of s → 0 < folded_count axis s
some_members All s h = h
some_members Zero Scalar h = h
some_members Zero (Vector n) h = h
some_members Zero (Matrix m n) h = (factor_pos 0 m n h).0
some_members One Scalar h = h
some_members One (Vector n) h = h
some_members One (Matrix m n) h = (factor_pos 0 m n h).1

-- ---- sums by groups
-- n more
sum-more : (m n : ℕ) (f : ℕ → ℚ) → rat_sum_below (m + n) f ≡ rat_sum_below m f +ℚ rat_sum_below n (λ i. f (m + i))
sum-more m zero f = let e : m + 0 ≡ m = omega arith in ap (λ k. rat_sum_below k f) e ∙ sym (+ℚ_idr (rat_sum_below m f))
sum-more m (suc n) f =
    let e : m + suc n ≡ suc (m + n) = omega arith in
    ap (λ k. rat_sum_below k f) e ∙ ap (λ x. x +ℚ f (m + n)) (sum-more m n f) ∙ +ℚ_assoc (rat_sum_below m f) (rat_sum_below n (λ i. f (m + i))) (f (m + n))

-- m times n, by m groups of n
pub sum-product : (m n : ℕ) (f : ℕ → ℚ) → rat_sum_below (m * n) f ≡ rat_sum_below m (λ k. rat_sum_below n (λ i. f (k * n + i)))
sum-product zero n f = let e : zero * n ≡ zero = omega arith in ap (λ k. rat_sum_below k f) e
sum-product (suc m) n f =
    let e : suc m * n ≡ m * n + n = omega arith in
    ap (λ k. rat_sum_below k f) e ∙ sum-more (m * n) n f ∙ ap (λ x. x +ℚ rat_sum_below n (λ i. f (m * n + i))) (sum-product m n f)

whole_sum : (n : ℕ) (f : ℕ → ℚ) → rat_sum_below n f ≡ rat_sum_below 1 (λ k. rat_sum_below n (λ i. f (0 + i * 1)))
whole_sum n f = rat_sum_below-same n _ _ (λ i b. let e : i ≡ 0 + i * 1 = omega arith in ap f e) ∙ sym (+ℚ_idl (rat_sum_below n (λ i. f (0 + i * 1))))

-- the sum over all entries is that over the members of each group
pub sum_by_groups : (axis : Axis) (s : Sides) (f : ℕ → ℚ) →
    rat_sum_below (entries_of s) f ≡ rat_sum_below (groups axis s) (λ k. rat_sum_below (folded_count axis s) (λ i. f (member axis s k i)))
sum_by_groups All Scalar f = whole_sum 1 f
sum_by_groups All (Vector n) f = whole_sum n f
sum_by_groups All (Matrix m n) f = whole_sum (m * n) f
sum_by_groups Zero Scalar f = whole_sum 1 f
sum_by_groups Zero (Vector n) f = whole_sum n f
sum_by_groups Zero (Matrix m n) f =
    sum-product m n f ∙ rat_sum_below-exchange m n (λ r c. f (r * n + c))
    ∙ rat_sum_below-same n _ _ (λ c b. rat_sum_below-same m _ _ (λ r h. let e : r * n + c ≡ c + r * n = omega arith in ap f e))
sum_by_groups One Scalar f = whole_sum 1 f
sum_by_groups One (Vector n) f = whole_sum n f
sum_by_groups One (Matrix m n) f =
    sum-product m n f ∙ rat_sum_below-same m _ _ (λ r b. rat_sum_below-same n _ _ (λ c h. let e : r * n + c ≡ r * n + c * 1 = omega arith in ap f e))

-- ---- members
-- member i of group k is in group k, and member i there
pub record IsMember (axis : Axis) (s : Sides) (k i : ℕ) : Type 0 where
  pub group : group_of axis s (member axis s k i) ≡ k
  pub index : member_of axis s (member axis s k i) ≡ i
  pub within : member axis s k i < entries_of s

whole_member : (k i n : ℕ) → k < 1 → i < n → (0 ≡ k) × (0 + i * 1 ≡ i) × (0 + i * 1 < n)
whole_member k i n h b = (omega arith, omega arith, omega arith)

pub is_member : (axis : Axis) (s : Sides) (k i : ℕ) → k < groups axis s → i < folded_count axis s → IsMember axis s k i
is_member All s k i h b = let w = whole_member k i (entries_of s) h b in record { group = w.0; index = w.1; within = w.2 }
is_member Zero Scalar k i h b = let w = whole_member k i 1 h b in record { group = w.0; index = w.1; within = w.2 }
is_member Zero (Vector n) k i h b = let w = whole_member k i n h b in record { group = w.0; index = w.1; within = w.2 }
is_member Zero (Matrix m n) k i h b =
    let e : k + i * n ≡ i * n + k = omega arith in
    record { group = ap (λ x. x % n) e ∙ mod-mul-add i n k h; index = ap (λ x. x / n) e ∙ div-mul-add i n k h; within = inside i m n k b h }
  where
    inside : (i m n k : ℕ) → i < m → k < n → k + i * n < m * n
    inside i m n k b h = grind arith
is_member One Scalar k i h b = let w = whole_member k i 1 h b in record { group = w.0; index = w.1; within = w.2 }
is_member One (Vector n) k i h b = let w = whole_member k i n h b in record { group = w.0; index = w.1; within = w.2 }
is_member One (Matrix m n) k i h b =
    let e : k * n + i * 1 ≡ k * n + i = omega arith in
    record { group = ap (λ x. x / n) e ∙ div-mul-add k n i b; index = ap (λ x. x % n) e ∙ mod-mul-add k n i b; within = inside k m n i h b }
  where
    inside : (k m n i : ℕ) → k < m → i < n → k * n + i * 1 < m * n
    inside k m n i h b = grind arith

-- as many entries as the groups have members
pub all_members : (axis : Axis) (s to : Sides) → folded axis s ≡ Some to → entries_of s ≡ groups axis s * folded_count axis s
all_members All s to e = omega arith
all_members Zero Scalar to e = omega arith
all_members Zero (Vector n) to e = omega arith
all_members Zero (Matrix m n) to e = omega arith
all_members One Scalar to e = omega arith
all_members One (Vector n) to e = omega arith
all_members One (Matrix m n) to e = omega arith
