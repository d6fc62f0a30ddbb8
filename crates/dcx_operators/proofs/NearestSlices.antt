-- A slice whose numbers are brought into 64 bits takes the same places of a side of an array.
use Rattle.std.specs.Prelude.{◌≡◌, ◌↔◌, ℕ, zero, suc, ◌-◌, ◌<◌, ◌≤◌, ◌^◌, min, ℤ, pos, negsuc, ◌+ℤ◌, ◌-ℤ◌, ◌*ℤ◌, ◌<ℤ◌, ◌≤ℤ◌, List, length, slice_index, Option, Some, None, option_map}
use Rattle.std.proofs.Common.{refl, sym, ap, ◌∙◌, subst, arith, inl, inr, suc-mul}
use Rattle.std.proofs.lemmas.Bool.{cases_lt}
use Rattle.std.proofs.lemmas.Int.{ints, clamps}
use Rattle.dcx_shape.specs.declared.slice.Slice.{Slice}
use Rattle.dcx_shape.specs.Slice.{counted, clipped, end_of, start_for, stop_for, IsBefore, IsSlice}
use Rattle.dcx_operators.specs.View.{nearest, nearest_slice}
use Rattle.dcx_shape.proofs.Slices.{zero_times}

-- ---- ends
-- an end that is beyond 64 bits is clipped as the nearest number
clipped_nearest : (n : ℕ) (low high : ℤ) (i : ℤ) → n ≤ 20000 → negsuc 0 ≤ℤ low → low ≤ℤ pos 0 → low ≤ℤ high → high ≤ℤ pos n → clipped low high (counted n (nearest i)) ≡ clipped low high (counted n i)
clipped_nearest n low high (pos k) few a b c d = omega (arith, ints, clamps)
clipped_nearest n low high (negsuc k) few a b c d = omega (arith, ints, clamps)

end_nearest : (n : ℕ) (low high default : ℤ) (i : Option ℤ) → n ≤ 20000 → negsuc 0 ≤ℤ low → low ≤ℤ pos 0 → low ≤ℤ high → high ≤ℤ pos n
    → end_of n low high default (option_map nearest i) ≡ end_of n low high default i
end_nearest n low high default None few a b c d = refl
end_nearest n low high default (Some i) few a b c d = clipped_nearest n low high i few a b c d

start_nearest : (n : ℕ) (step : ℤ) (i : Option ℤ) → n ≤ 20000 → 0 < n → start_for n step (option_map nearest i) ≡ start_for n step i
start_nearest n (pos k) i few some = end_nearest n (pos 0) (pos n) (pos 0) i few (omega (arith, ints)) (omega (arith, ints)) (omega (arith, ints)) (omega (arith, ints))
start_nearest n (negsuc k) i few some = end_nearest n (negsuc 0) (pos n -ℤ pos 1) (pos n -ℤ pos 1) i few (omega (arith, ints)) (omega (arith, ints)) (omega (arith, ints)) (omega (arith, ints))

stop_nearest : (n : ℕ) (step : ℤ) (i : Option ℤ) → n ≤ 20000 → 0 < n → stop_for n step (option_map nearest i) ≡ stop_for n step i
stop_nearest n (pos k) i few some = end_nearest n (pos 0) (pos n) (pos n) i few (omega (arith, ints)) (omega (arith, ints)) (omega (arith, ints)) (omega (arith, ints))
stop_nearest n (negsuc k) i few some = end_nearest n (negsuc 0) (pos n -ℤ pos 1) (negsuc 0) i few (omega (arith, ints)) (omega (arith, ints)) (omega (arith, ints)) (omega (arith, ints))

-- ---- steps
-- a step that is longer than the side leaves it at once
beyond_up : (a b : ℤ) (n t j : ℕ) → pos 0 ≤ℤ a → b ≤ℤ pos n → n ≤ t → ¬ ((a +ℤ pos (suc j) *ℤ pos t) <ℤ b)
beyond_up a b n t j low high far before = absurd (omega (arith, ints, suc-mul j t))

beyond_down : (a b : ℤ) (n t j : ℕ) → a <ℤ pos n → negsuc 0 ≤ℤ b → n ≤ t → ¬ (b <ℤ (a +ℤ pos (suc j) *ℤ negsuc t))
beyond_down a b n t j high low far before = absurd (omega (arith, ints, suc-mul j (suc t)))

-- a number that passes a test is that which stands beside it, and they pass it together
abbrev Kept : (ℤ → Type 0) → ℤ → ℤ → Type 0
Kept P x y = (P x ↔ P y) × (P x → x ≡ y)

kept_same : (P : ℤ → Type 0) (x y : ℤ) → x ≡ y → Kept P x y
kept_same P x y e = (((λ h. subst P e h), (λ h. subst P (sym e) h)), (λ h. e))

kept_none : (P : ℤ → Type 0) (x y : ℤ) → ¬ P x → ¬ P y → Kept P x y
kept_none P x y f g = (((λ h. absurd (f h)), (λ h. absurd (g h))), (λ h. absurd (f h)))

kept_up : (a b : ℤ) (n t j : ℕ) → n ≤ 20000 → pos 0 ≤ℤ a → b ≤ℤ pos n → Kept (λ z. z <ℤ b) (a +ℤ pos j *ℤ pos t) (a +ℤ pos j *ℤ nearest (pos t))
kept_up a b n t zero few low high = kept_same (λ z. z <ℤ b) (a +ℤ pos 0 *ℤ pos t) (a +ℤ pos 0 *ℤ nearest (pos t)) (omega (arith, ints))
kept_up a b n t (suc j) few low high = elim (cases_lt 20000 t) [
  | inl far ↦
      kept_none (λ z. z <ℤ b) (a +ℤ pos (suc j) *ℤ pos t) (a +ℤ pos (suc j) *ℤ nearest (pos t))
      (beyond_up a b n t j low high (omega arith)) (beyond_up a b n (min t (2 ^ 63 - 1)) j low high (omega arith))
  | inr near ↦
      let same : min t (2 ^ 63 - 1) ≡ t = omega arith in
      kept_same (λ z. z <ℤ b) (a +ℤ pos (suc j) *ℤ pos t) (a +ℤ pos (suc j) *ℤ nearest (pos t)) (ap (λ u. a +ℤ pos (suc j) *ℤ pos u) (sym same))
]

kept_down : (a b : ℤ) (n t j : ℕ) → n ≤ 20000 → a <ℤ pos n → negsuc 0 ≤ℤ b → Kept (λ z. b <ℤ z) (a +ℤ pos j *ℤ negsuc t) (a +ℤ pos j *ℤ nearest (negsuc t))
kept_down a b n t zero few high low = kept_same (λ z. b <ℤ z) (a +ℤ pos 0 *ℤ negsuc t) (a +ℤ pos 0 *ℤ nearest (negsuc t)) (omega (arith, ints, zero_times (negsuc t), zero_times (nearest (negsuc t))))
kept_down a b n t (suc j) few high low = elim (cases_lt 20000 t) [
  | inl far ↦
      kept_none (λ z. b <ℤ z) (a +ℤ pos (suc j) *ℤ negsuc t) (a +ℤ pos (suc j) *ℤ nearest (negsuc t))
      (beyond_down a b n t j high low (omega arith)) (beyond_down a b n (min t (2 ^ 63 - 1)) j high low (omega arith))
  | inr near ↦
      let same : min t (2 ^ 63 - 1) ≡ t = omega arith in
      kept_same (λ z. b <ℤ z) (a +ℤ pos (suc j) *ℤ negsuc t) (a +ℤ pos (suc j) *ℤ nearest (negsuc t)) (ap (λ u. a +ℤ pos (suc j) *ℤ negsuc u) (sym same))
]

-- ---- slices
up_start : (n t : ℕ) (i : Option ℤ) → pos 0 ≤ℤ start_for n (pos t) i
up_start n t None = omega (arith, ints)
up_start n t (Some i) = omega (arith, ints, clamps)

up_stop : (n t : ℕ) (i : Option ℤ) → stop_for n (pos t) i ≤ℤ pos n
up_stop n t None = omega (arith, ints)
up_stop n t (Some i) = omega (arith, ints, clamps)

down_start : (n t : ℕ) (i : Option ℤ) → 0 < n → start_for n (negsuc t) i <ℤ pos n
down_start n t None some = omega (arith, ints)
down_start n t (Some i) some = omega (arith, ints, clamps)

down_stop : (n t : ℕ) (i : Option ℤ) → negsuc 0 ≤ℤ stop_for n (negsuc t) i
down_stop n t None = omega (arith, ints)
down_stop n t (Some i) = omega (arith, ints, clamps)

-- a slice that starts at a and stops at b
slice_from : (n : ℕ) (s : Slice) (xs : List ℕ) (a b : ℤ) → start_for n s.step s.start ≡ a → stop_for n s.step s.stop ≡ b
    → ((k : ℕ) → (k < length xs) ↔ IsBefore s.step (a +ℤ pos k *ℤ s.step) b)
    → ((k : ℕ) → k < length xs → pos (slice_index xs k) ≡ a +ℤ pos k *ℤ s.step)
    → IsSlice n s xs
slice_from n s xs a b starts stops some are = record { some = λ k. rw (starts, stops) (some k); are = λ k h. rw starts (are k h) }

through : {P Q R : Type 0} → P ↔ Q → Q ↔ R → P ↔ R
through e f = ((λ p. f.0 (e.0 p)), (λ r. e.1 (f.1 r)))

slice_nearest : (n : ℕ) (step : ℤ) (start stop : Option ℤ) (xs : List ℕ) → n ≤ 20000 → 0 < n
    → IsSlice n (record { start = start; stop = stop; step = step }) xs → IsSlice n (nearest_slice (record { start = start; stop = stop; step = step })) xs
slice_nearest n (pos t) start stop xs few some x =
    let same = λ (k : ℕ). kept_up (start_for n (pos t) start) (stop_for n (pos t) stop) n t k few (up_start n t start) (up_stop n t stop) in
    slice_from n (nearest_slice (record { start = start; stop = stop; step = pos t })) xs (start_for n (pos t) start) (stop_for n (pos t) stop)
    (start_nearest n (pos t) start few some) (stop_nearest n (pos t) stop few some)
    (λ k. through (x.some k) (same k).0) (λ k h. x.are k h ∙ (same k).1 ((x.some k).0 h))
slice_nearest n (negsuc t) start stop xs few some x =
    let same = λ (k : ℕ). kept_down (start_for n (negsuc t) start) (stop_for n (negsuc t) stop) n t k few (down_start n t start some) (down_stop n t stop) in
    slice_from n (nearest_slice (record { start = start; stop = stop; step = negsuc t })) xs (start_for n (negsuc t) start) (stop_for n (negsuc t) stop)
    (start_nearest n (negsuc t) start few some) (stop_nearest n (negsuc t) stop few some)
    (λ k. through (x.some k) (same k).0) (λ k h. x.are k h ∙ (same k).1 ((x.some k).0 h))

-- the slice takes the same places
pub nearest_slice-is : (n : ℕ) (s : Slice) (xs : List ℕ) → n ≤ 20000 → 0 < n → IsSlice n s xs → IsSlice n (nearest_slice s) xs
nearest_slice-is n s xs few some x = slice_nearest n s.step s.start s.stop xs few some x
