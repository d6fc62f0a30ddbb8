-- The rows of a group as the code lists them.
use Rattle.std.proofs.Common.{◌≡◌, ℕ, ◌+◌, ◌*◌, ◌<◌, arith, List, ◌++◌, map, IfSome, append_assoc, sym, ap, ap₂, ◌∙◌, subst}
use Rattle.std.proofs.lemmas.List.{map-append}
use Rattle.dcx_shape.specs.declared.shape.Sides.{Sides}
use Rattle.dcx_shape.specs.declared.shape.Sides.TheVariants.{Scalar, Vector, Matrix}
use Rattle.dcx_shape.specs.Sides.{entries_of, HasFewEntries}
use Rattle.dcx_atom.specs.declared.axis.Axis.{Axis}
use Rattle.dcx_atom.specs.declared.axis.Axis.TheVariants.{All, Zero, One}
use Rattle.dcx_atom.specs.declared.axis.Stride.{Stride}
use Rattle.dcx_atom.specs.Arrays.{joined_below}
use Rattle.dcx_atom.specs.Axis.{folded, folded_count, folded_stride, stride_entry}
use Rattle.dcx_atom.proofs.Lists.{among_parts, joined_below-next}
use Rattle.dcx_fold.specs.Groups.{groups}
use Rattle.dcx_fold.specs.GroupLaws.{is_member}

-- each group is an entry of what the axis leaves
pub group_folded : (axis : Axis) (s : Sides) (k : ℕ) → k < groups axis s → IfSome (folded axis s) (λ t. k < entries_of t)
group_folded All s k h = h
group_folded Zero Scalar k h = tt
group_folded Zero (Vector n) k h = h
group_folded Zero (Matrix m n) k h = h
group_folded One Scalar k h = tt
group_folded One (Vector n) k h = tt
group_folded One (Matrix m n) k h = h

-- as many entries as the groups have members
groups_fill : (axis : Axis) (s : Sides) → groups axis s * folded_count axis s ≡ entries_of s
groups_fill All s = omega arith
groups_fill Zero Scalar = omega arith
groups_fill Zero (Vector n) = omega arith
groups_fill Zero (Matrix m n) = omega arith
groups_fill One Scalar = omega arith
groups_fill One (Vector n) = omega arith
groups_fill One (Matrix m n) = omega arith

-- the number of a member among those of all groups is small
pub small_number : (axis : Axis) (s : Sides) (k i count : ℕ) → HasFewEntries s → count ≡ folded_count axis s → k < groups axis s → i < count → k * count + i < 4294967296
small_number axis s k i count few e h b =
    let l = among_parts k i count (groups axis s) h b in
    let n = ap (λ m. groups axis s * m) e ∙ groups_fill axis s in
    omega (arith, l, n, few.most)

-- and so is how many there are
pub small_product : (axis : Axis) (s : Sides) (size count : ℕ) → HasFewEntries s → size ≡ groups axis s → count ≡ folded_count axis s → size * count < 4294967296
small_product axis s size count few e n =
    let all = ap₂ (λ a b. a * b) e n ∙ groups_fill axis s in
    omega (arith, all, few.most)

-- the place of a member is small
pub small_place : (axis : Axis) (s : Sides) (k i count : ℕ) (stride : Stride) → HasFewEntries s → stride ≡ folded_stride axis s k → count ≡ folded_count axis s → k < groups axis s → i < count →
    stride_entry stride i < 4294967296
small_place axis s k i count stride few e n h b =
    let within = subst (λ (st : Stride). stride_entry st i < entries_of s) (sym e) (is_member axis s k i h (subst (λ m. i < m) n b)).within in
    omega (arith, within, few.most)

-- the rows of one more member
pub one_more_member : {A B : Type 0} (place : A → B) (rows : ℕ → List A) (before all : List B) (now : List B) (i : ℕ) →
    before ≡ all ++ map place (joined_below i rows) → now ≡ before ++ map place (rows i) → now ≡ all ++ map place (joined_below (i + 1) rows)
one_more_member place rows before all now i h e =
    e ∙ ap (λ xs. xs ++ map place (rows i)) h ∙ append_assoc all (map place (joined_below i rows)) (map place (rows i))
    ∙ ap (λ xs. all ++ xs) (sym (map-append place (joined_below i rows) (rows i)) ∙ ap (map place) (sym (joined_below-next i rows)))

-- the rows of all members
pub all_of_group : {A B : Type 0} (place : A → B) (rows : ℕ → ℕ → Stride → List A) (before now : List B) (axis : Axis) (s : Sides) (k i count : ℕ) (stride : Stride) →
    stride ≡ folded_stride axis s k → count ≡ folded_count axis s → i ≡ count →
    now ≡ before ++ map place (joined_below i (λ j. rows count j stride)) →
    now ≡ before ++ map place (joined_below (folded_count axis s) (λ j. rows (folded_count axis s) j (folded_stride axis s k)))
all_of_group place rows before now axis s k i count stride e n l h =
    h ∙ ap (λ m. before ++ map place (joined_below m (λ j. rows count j stride))) (l ∙ n)
    ∙ ap (λ m. before ++ map place (joined_below (folded_count axis s) (λ j. rows m j stride))) n
    ∙ ap (λ st. before ++ map place (joined_below (folded_count axis s) (λ j. rows (folded_count axis s) j st))) e
