-- The laws of slices.
use Rattle.std.proofs.Common.{◌≡◌, ℕ, suc, ◌+◌, ◌-◌, ◌<◌, List, length, get_or, ap, sym, ◌∙◌, arith, add-mul}
use Rattle.std.specs.Prelude.{ℤ, pos, negsuc, ◌+ℤ◌, ◌*ℤ◌, ◌<ℤ◌, ◌↔◌, reverse}
use Rattle.std.specs.List.{Contains}
use Rattle.std.specs.List.Sorted.{IsStrictlyIncreasing}
use Rattle.std.proofs.lemmas.Int.{ints}
use Rattle.std.proofs.lemmas.List.{get_or_default, length-reverse, get_or-reverse}
use Rattle.std.proofs.lemmas.List.FromFn.{length-range_with_len, get_or-range_with_len}
use Rattle.std.proofs.lemmas.Grind.{same_number_lists}
use Rattle.dcx_shape.specs.declared.slice.Slice.{Slice}
use Rattle.dcx_shape.specs.Places.{places_below}
use Rattle.dcx_shape.specs.Slice.{start_for, stop_for, IsBefore, slice_place, IsSlice}
use Rattle.dcx_shape.specs.Index.{whole_slice}
use Rattle.dcx_shape.specs.Laws.{reversing_slice, HoldsForSlices}
use Rattle.dcx_shape.proofs.Slices.{slice_length}

-- a slice has one list of places
pub slice_one : (n : ℕ) (s : Slice) (xs ys : List ℕ) → IsSlice n s xs → IsSlice n s ys → xs ≡ ys
slice_one n s xs ys r t =
    let same : length xs ≡ length ys = slice_length n s xs ys r t in
    same_number_lists xs ys same (λ k h.
    let x : pos (get_or xs k 0) ≡ slice_place n s k = r.are k h in
    let y : pos (get_or ys k 0) ≡ slice_place n s k = t.are k (omega arith) in
    cc)

-- what stands in a slice
slice_set : (n : ℕ) (s : Slice) (xs : List ℕ) → IsSlice n s xs → (p : ℕ) → Contains xs p ↔ ((k : ℕ) × (pos p ≡ slice_place n s k) × IsBefore s.step (pos p) (stop_for n s.step s.stop))
slice_set n s xs r p = (
  (λ (k, below, same).
      let e : pos p ≡ slice_place n s k = ap pos (sym same ∙ get_or_default xs k p 0 below) ∙ r.are k below in
      (k, e, rw e ((r.some k).0 below))),
  (λ (k, e, before).
      let below : k < length xs = (r.some k).1 (rw (← e) before) in
      let same : pos (get_or xs k 0) ≡ pos p = r.are k below ∙ sym e in
      (k, below, get_or_default xs k p 0 below ∙ cc)),
)

-- one step further
step_up : (step z : ℤ) (k : ℕ) → pos 0 <ℤ step → (z +ℤ pos k *ℤ step) <ℤ (z +ℤ pos (k + 1) *ℤ step)
step_up (pos s) z k h = omega (arith, ints, add-mul k 1 s)
step_up (negsuc s) z k h = absurd (omega (arith, ints))

step_down : (step z : ℤ) (k : ℕ) → step <ℤ pos 0 → (z +ℤ pos (k + 1) *ℤ step) <ℤ (z +ℤ pos k *ℤ step)
step_down (pos s) z k h = absurd (omega (arith, ints))
step_down (negsuc s) z k h = omega (arith, ints, add-mul k 1 (suc s))

slice_rises : (n : ℕ) (s : Slice) (xs : List ℕ) → pos 0 <ℤ s.step → IsSlice n s xs → IsStrictlyIncreasing xs
slice_rises n s xs h r k b = omega (arith, ints, r.are k (omega arith), r.are (k + 1) b, step_up s.step (start_for n s.step s.start) k h)

slice_falls : (n : ℕ) (s : Slice) (xs : List ℕ) → s.step <ℤ pos 0 → IsSlice n s xs → (k : ℕ) → k + 1 < length xs → get_or xs (k + 1) 0 < get_or xs k 0
slice_falls n s xs h r k b = omega (arith, ints, r.are k (omega arith), r.are (k + 1) b, step_down s.step (start_for n s.step s.start) k h)

pub whole_is : (n : ℕ) → IsSlice n whole_slice (places_below n)
whole_is n = record {
  some = λ k. rw (length-range_with_len 0 n) ((λ b. omega (arith, ints)), (λ b. omega (arith, ints)));
  are = λ k h.
      let below : k < n = omega (arith, h, length-range_with_len 0 n) in
      rw (get_or-range_with_len 0 n k 0 below) (omega (arith, ints));
}

pub reversal_is : (n : ℕ) → IsSlice n reversing_slice (reverse (places_below n))
reversal_is n = record {
  some = λ k. rw (length-reverse (places_below n), length-range_with_len 0 n) ((λ b. omega (arith, ints)), (λ b. omega (arith, ints)));
  are = λ k h.
      let below : k < length (places_below n) = omega (arith, h, length-reverse (places_below n)) in
      let last : length (places_below n) - 1 - k < n = omega (arith, below, length-range_with_len 0 n) in
      rw (get_or-reverse (places_below n) k 0 below, get_or-range_with_len 0 n (length (places_below n) - 1 - k) 0 last) (omega (arith, ints, below, length-range_with_len 0 n));
}

pub slices_hold : HoldsForSlices
slices_hold = record {
  one = slice_one;
  set = slice_set;
  rises = slice_rises;
  falls = slice_falls;
  whole = λ n xs. ((λ r. slice_one n whole_slice xs (places_below n) r (whole_is n)), (λ e. rw e (whole_is n)));
  reversal = λ n xs. ((λ r. slice_one n reversing_slice xs (reverse (places_below n)) r (reversal_is n)), (λ e. rw e (reversal_is n)));
}
