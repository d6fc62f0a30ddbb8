-- The parts of a group as the code lists them.
use Rattle.std.proofs.Common.{◌≡◌, ℕ, ◌<◌, arith, List, [], ◌∷◌, map, length, get_or, Some, IsSome, IfSome, IsOk, sym, ap, ap₂, ◌∙◌, subst}
use Rattle.std.proofs.lemmas.List.{length-map}
use Rattle.dcx_math.specs.Rational.{ℚ}
use Rattle.dcx_math.specs.Sums.{rat_at}
use Rattle.dcx_frac.specs.declared.fraction.Frac.{Frac}
use Rattle.dcx_frac.specs.Frac.{value}
use Rattle.dcx_shape.specs.declared.shape.Sides.{Sides}
use Rattle.dcx_shape.specs.Sides.{entries_of}
use Rattle.dcx_atom.specs.declared.axis.Axis.{Axis}
use Rattle.dcx_atom.specs.declared.axis.Stride.{Stride}
use Rattle.dcx_shape.specs.Shape.{sides_of}
use Rattle.dcx_atom.specs.declared.array.Array.{Array}
use Rattle.dcx_atom.specs.declared.stops.ValueStop.{ValueStop}
use Rattle.dcx_atom.specs.declared.stops.ValueStop.TheVariants as values
use Rattle.dcx_atom.specs.Arrays.{list_below, number_at, numbers_of, array_sides, sides_at}
use Rattle.dcx_atom.specs.Formed.{sum_in_order}
use Rattle.dcx_atom.specs.Meaning.{Meaning}
use Rattle.dcx_atom.specs.Value.{IsValueOf, IsValueStop}
use Rattle.dcx_atom.proofs.Lists.{rat_at-list_below}
use Rattle.dcx_atom.specs.Axis.{folded, folded_count, folded_stride, stride_entry}
use Rattle.dcx_atom.proofs.BoundRows.{length-list_below}
use Rattle.dcx_fold.specs.declared.folding.Fold.{Fold}
use Rattle.dcx_fold.specs.Groups.{groups, member, fold_sides}
use Rattle.dcx_fold.specs.GroupLaws.{count_is, is_member, some_members, at_only}
use Rattle.dcx_fold.specs.Folds.{part, parts, fold_of, fold_summands, fold_meaning}
use Rattle.dcx_fold.specs.Stops.{IsStopOfSum, IsFirstOfSums}

-- the entries of a group's stride are entries of the argument
pub stride_within : (axis : Axis) (s : Sides) (k : ℕ) (stride : Stride) (size : ℕ) → stride ≡ folded_stride axis s k → k < groups axis s → size ≡ entries_of s →
    (i : ℕ) → i < stride.count → stride_entry stride i < size
stride_within axis s k stride size e h n i b =
    let count : stride.count ≡ folded_count axis s = ap (λ (st : Stride). st.count) e ∙ count_is axis s k in
    subst (λ (st : Stride). stride_entry st i < size) (sym e)
    (subst (λ m. member axis s k i < m) (sym n) (is_member axis s k i h (subst (λ m. i < m) count b)).within)

-- the parts of its stride are those of the group
pub parts_are : (p : Fold) (axis : Axis) (s : Sides) (k : ℕ) (stride : Stride) (xs ys : List Frac) → stride ≡ folded_stride axis s k →
    map value ys ≡ list_below stride.count (λ i. part p (number_at xs (stride_entry stride i))) → map value ys ≡ parts p axis s (number_at xs) k
parts_are p axis s k stride xs ys e h =
    h ∙ ap (λ (st : Stride). list_below st.count (λ i. part p (number_at xs (stride_entry st i)))) e
    ∙ ap (λ n. list_below n (λ i. part p (number_at xs (member axis s k i)))) (count_is axis s k)

-- there are some
pub some_parts : (p : Fold) (axis : Axis) (s : Sides) (k : ℕ) (xs ys : List Frac) → 0 < entries_of s → map value ys ≡ parts p axis s (number_at xs) k → 0 < length ys
some_parts p axis s k xs ys some e =
    let count : length ys ≡ folded_count axis s = sym (length-map ys value) ∙ ap length e ∙ length-list_below (folded_count axis s) (λ i. part p (number_at xs (member axis s k i))) in
    omega (arith, count, some_members axis s some)

-- ---- the value of the only argument
pub first_array : (axis : Axis) (args : List Array) (x : Array) → IsSome (fold_sides axis (array_sides args)) → x ≡ get_or args 0 x → sides_at (array_sides args) 0 ≡ sides_of x.shape
first_array axis [] x some e = cc
first_array axis (y ∷ ys) x some e = ap (λ (z : Array). sides_of z.shape) (sym e)

pub first_numbers : (axis : Axis) (args : List Array) (x : Array) → IsSome (fold_sides axis (array_sides args)) → x ≡ get_or args 0 x → numbers_of args 0 ≡ number_at x.entries
first_numbers axis [] x some e = cc
first_numbers axis (y ∷ ys) x some e = ap (λ (z : Array). number_at z.entries) (sym e)

-- the value, made group by group
pub fold_value_is : (p : Fold) (axis : Axis) (args : List Array) (x v : Array) (size : ℕ) → IsSome (fold_sides axis (array_sides args)) → x ≡ get_or args 0 x →
    folded axis (sides_of x.shape) ≡ Some (sides_of v.shape) → size ≡ entries_of (sides_of v.shape) →
    map value v.entries ≡ list_below size (λ k. fold_of p (parts p axis (sides_of x.shape) (number_at x.entries) k)) →
    ((k : ℕ) → k < size → IsOk (sum_in_order (fold_summands p (parts p axis (sides_of x.shape) (number_at x.entries) k)))) → IsValueOf (fold_meaning p axis) args v
fold_value_is p axis args x v size some e is n h forms = record {
  shape = at_only axis (array_sides args) (sides_of x.shape) (sides_of v.shape) some first is;
  numbers = λ j b.
      ap (λ xs. rat_at xs j) h ∙ rat_at-list_below size _ j (subst (λ m. j < m) (sym n) b)
      ∙ ap₂ (λ s y. fold_of p (parts p axis s y j)) (sym first) (sym numbers);
  forms = λ j b. subst (λ s. IsOk (sum_in_order (fold_summands p (parts p axis s (numbers_of args 0) j)))) (sym first)
      (subst (λ y. IsOk (sum_in_order (fold_summands p (parts p axis (sides_of x.shape) y j)))) (sym numbers) (forms j (subst (λ m. j < m) (sym n) b)));
}
  where
    first : sides_at (array_sides args) 0 ≡ sides_of x.shape
    first = first_array axis args x some e

    numbers : numbers_of args 0 ≡ number_at x.entries
    numbers = first_numbers axis args x some e

-- ---- where it stops
-- the stop of one entry is the first, where those before it are formed
pub first_of_sums : (size k : ℕ) (summands : ℕ → List ℚ) (stop : ValueStop) → k < size → ((j : ℕ) → j < k → IsOk (sum_in_order (summands j))) → IsStopOfSum k (summands k) stop →
    IsFirstOfSums size summands stop
first_of_sums size k summands (values.Passes entry passes) h before stop =
    (subst (λ j. j < size) (sym stop.0) h, ((λ j b. before j (subst (λ m. j < m) stop.0 b)), ap (λ j. sum_in_order (summands j)) stop.0 ∙ stop.1))
first_of_sums size k summands (values.ZeroDivisor entry) h before stop = stop
first_of_sums size k summands values.Memory h before stop = stop

-- it is the stop of the value
value_stop : (m : Meaning) (args : List Array) (size : ℕ) (stop : ValueStop) → IsFirstOfSums size (m.summands (array_sides args) (numbers_of args)) stop → IsValueStop m args size stop
value_stop m args size (values.Passes entry passes) h = (h.0, record { before = h.1.0; here = h.1.1 })
value_stop m args size (values.ZeroDivisor entry) h = h
value_stop m args size values.Memory h = tt

pub fold_value_stop : (p : Fold) (axis : Axis) (args : List Array) (x : Array) (to : Sides) (size : ℕ) (stop : ValueStop) → IsSome (fold_sides axis (array_sides args)) → x ≡ get_or args 0 x →
    folded axis (sides_of x.shape) ≡ Some to → size ≡ entries_of to → IsFirstOfSums size (λ k. fold_summands p (parts p axis (sides_of x.shape) (number_at x.entries) k)) stop →
    IfSome (fold_sides axis (array_sides args)) (λ s. IsValueStop (fold_meaning p axis) args (entries_of s) stop)
fold_value_stop p axis args x to size stop some e is n h =
    let first = first_array axis args x some e in
    subst (λ o. IfSome o (λ s. IsValueStop (fold_meaning p axis) args (entries_of s) stop)) (sym (at_only axis (array_sides args) (sides_of x.shape) to some first is))
    (value_stop (fold_meaning p axis) args (entries_of to) stop
    (subst (λ s. IsFirstOfSums (entries_of to) (λ k. fold_summands p (parts p axis s (numbers_of args 0) k)) stop) (sym first)
    (subst (λ y. IsFirstOfSums (entries_of to) (λ k. fold_summands p (parts p axis (sides_of x.shape) y k)) stop) (sym (first_numbers axis args x some e))
    (subst (λ m. IsFirstOfSums m (λ k. fold_summands p (parts p axis (sides_of x.shape) (number_at x.entries) k)) stop) n h))))
