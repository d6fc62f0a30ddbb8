-- Slices: how many places one has, and where they lie.
use Rattle.std.proofs.Common.{◌≡◌, ◌≢◌, ℕ, zero, suc, ◌+◌, ◌*◌, ◌<◌, ◌≤◌, ◌^◌, List, [], ◌∷◌, length, get_or, Option, Some, None}
use Rattle.std.proofs.Common.{refl, ◌∙◌, ap, arith, zero-add, zero-mul, mul-suc, lt_of_mul-lt-mul_right, le_antisymm, inl, inr}
use Rattle.std.specs.Prelude.{ℤ, pos, negsuc, neg_ℤ, ◌+ℤ◌, ◌-ℤ◌, ◌*ℤ◌, ◌≤ℤ◌, ◌<ℤ◌, ◌↔◌, unsigned_abs}
use Rattle.std.specs.Int.{w32, FitsUnsigned, div_ceil, int_max}
use Rattle.std.proofs.lemmas.List.FromFn.{length-map-range_with_len, get_or-map-range_with_len}
use Rattle.std.proofs.lemmas.Int.{ints, clamps}
use Rattle.std.specs.List.{All}
use Rattle.std.proofs.lemmas.List.{get_or_default}
use Rattle.std.proofs.lemmas.Bool.{cases_lt}
use Rattle.std.proofs.lemmas.Grind.{div_ceil_times}
use Rattle.std.proofs.Math.Nat.{mul-le-mul_right}
use Rattle.dcx_shape.specs.declared.slice.Slice.{Slice}
use Rattle.dcx_shape.specs.Run.{place_from, places_from}
use Rattle.dcx_shape.specs.Slice.{end_of, start_for, stop_for, IsBefore, slice_place, IsSlice, moved}

-- so many steps of s stay below d
pub ceil_steps : (d s k : ℕ) → 0 < s → (k < div_ceil d s) ↔ (k * s < d)
ceil_steps d s k h =
    let t : (d ≤ div_ceil d s * s) × (div_ceil d s * s < d + s) = div_ceil_times d s h in (
      (λ b. let more : suc k * s ≤ div_ceil d s * s = mul-le-mul_right s b in omega (arith, more, t)),
      (λ b. let less : k * s < div_ceil d s * s = omega (arith, b, t) in lt_of_mul-lt-mul_right s less),
    )

-- k steps move k times the step's size
pub moved-steps : (step z : ℤ) (k : ℕ) → moved step z (k * unsigned_abs step) ≡ z +ℤ pos k *ℤ step
moved-steps (pos s) z k = refl
moved-steps (negsuc s) z k = refl

pub size_pos : (step : ℤ) → step ≢ pos 0 → 0 < unsigned_abs step
size_pos (pos zero) h = absurd (h refl)
size_pos (pos (suc s)) h = omega arith
size_pos (negsuc s) h = omega arith

-- the numbers from the start on that come before the stop, upward and downward
pub ahead_up : (step start stop : ℤ) (g : ℕ) → pos 0 <ℤ step → pos g ≡ int_max (stop -ℤ start) (pos 0) → (d : ℕ) → (d < g) ↔ IsBefore step (moved step start d) stop
ahead_up (pos s) start stop g h e d = ((λ b. omega (arith, ints, clamps)), (λ b. omega (arith, ints, clamps)))
ahead_up (negsuc s) start stop g h e d = absurd (omega (arith, ints))

pub ahead_down : (step start stop : ℤ) (g : ℕ) → step ≢ pos 0 → step ≤ℤ pos 0 → pos g ≡ int_max (start -ℤ stop) (pos 0) → (d : ℕ) → (d < g) ↔ IsBefore step (moved step start d) stop
ahead_down (pos zero) start stop g n h e d = absurd (n refl)
ahead_down (pos (suc s)) start stop g n h e d = absurd (omega (arith, ints))
ahead_down (negsuc s) start stop g n h e d = ((λ b. omega (arith, ints, clamps)), (λ b. omega (arith, ints, clamps)))

-- how many steps come before the stop
pub steps_before : (step start stop : ℤ) (g count : ℕ) → step ≢ pos 0 → ((d : ℕ) → (d < g) ↔ IsBefore step (moved step start d) stop) → count ≡ div_ceil g (unsigned_abs step)
    → (k : ℕ) → (k < count) ↔ IsBefore step (start +ℤ pos k *ℤ step) stop
steps_before step start stop g count n ahead e k =
    let c : (k < div_ceil g (unsigned_abs step)) ↔ (k * unsigned_abs step < g) = ceil_steps g (unsigned_abs step) k (size_pos step n) in
    let a : (k * unsigned_abs step < g) ↔ IsBefore step (moved step start (k * unsigned_abs step)) stop = ahead (k * unsigned_abs step) in
    rw (e, ← moved-steps step start k) ((λ b. a.0 (c.0 b)), (λ b. c.1 (a.1 b)))

-- an end lies between the two bounds
end_within : (n : ℕ) (low high default : ℤ) (end : Option ℤ) → low ≤ℤ high → low ≤ℤ default → default ≤ℤ high → (low ≤ℤ end_of n low high default end) × (end_of n low high default end ≤ℤ high)
end_within n low high default None b l h = (l, h)
end_within n low high default (Some i) b l h = (omega (arith, ints, clamps), omega (arith, ints, clamps))

up_end : (n : ℕ) (default : ℤ) (end : Option ℤ) → pos 0 ≤ℤ default → default ≤ℤ pos n → (pos 0 ≤ℤ end_of n (pos 0) (pos n) default end) × (end_of n (pos 0) (pos n) default end ≤ℤ pos n)
up_end n default end l h = end_within n (pos 0) (pos n) default end (omega (arith, ints)) l h

down_end : (n : ℕ) (default : ℤ) (end : Option ℤ) → negsuc 0 ≤ℤ default → default ≤ℤ (pos n -ℤ pos 1)
    → (negsuc 0 ≤ℤ end_of n (negsuc 0) (pos n -ℤ pos 1) default end) × (end_of n (negsuc 0) (pos n -ℤ pos 1) default end ≤ℤ (pos n -ℤ pos 1))
down_end n default end l h = end_within n (negsuc 0) (pos n -ℤ pos 1) default end (omega (arith, ints)) l h

-- the ends of a slice are no further apart than the side is long, and it starts at most behind the last entry
pub record AreNear (n : ℕ) (start stop : ℤ) : Type 0 where
  pub up : (stop -ℤ start) ≤ℤ pos n
  pub down : (start -ℤ stop) ≤ℤ pos n
  pub first : start ≤ℤ pos n

pub ends_near : (n : ℕ) (step : ℤ) (start stop : Option ℤ) → AreNear n (start_for n step start) (stop_for n step stop)
ends_near n (pos s) start stop =
    let first = up_end n (pos 0) start (omega (arith, ints)) (omega (arith, ints)) in
    let last = up_end n (pos n) stop (omega (arith, ints)) (omega (arith, ints)) in
    record { up = omega (arith, ints, first, last); down = omega (arith, ints, first, last); first = first.1 }
ends_near n (negsuc s) start stop =
    let first = down_end n (pos n -ℤ pos 1) start (omega (arith, ints)) (omega (arith, ints)) in
    let last = down_end n (negsuc 0) stop (omega (arith, ints)) (omega (arith, ints)) in
    record { up = omega (arith, ints, first, last); down = omega (arith, ints, first, last); first = omega (arith, ints, first.1) }

-- what comes before the stop lies on the side
place_within : (n : ℕ) (step : ℤ) (start stop : Option ℤ) (k : ℕ) → step ≢ pos 0 → IsBefore step (start_for n step start +ℤ pos k *ℤ step) (stop_for n step stop)
    → (pos 0 ≤ℤ (start_for n step start +ℤ pos k *ℤ step)) × ((start_for n step start +ℤ pos k *ℤ step) <ℤ pos n)
place_within n (pos s) start stop k ne b =
    let first = up_end n (pos 0) start (omega (arith, ints)) (omega (arith, ints)) in
    let last = up_end n (pos n) stop (omega (arith, ints)) (omega (arith, ints)) in
    (omega (arith, ints, first.0), omega (arith, ints, last.1))
place_within n (negsuc s) start stop k ne b =
    let first = down_end n (pos n -ℤ pos 1) start (omega (arith, ints)) (omega (arith, ints)) in
    let last = down_end n (negsuc 0) stop (omega (arith, ints)) (omega (arith, ints)) in
    (omega (arith, ints, last.0), omega (arith, ints, first.1))

-- the run of a slice, as the code makes it
pub record IsRunOf (n : ℕ) (s : Slice) (first : ℕ) (step : ℤ) (count : ℕ) : Type 0 where
  pub steps : s.step ≢ pos 0
  pub is_step : step ≡ s.step
  pub is_first : pos first ≡ int_max (start_for n s.step s.start) (pos 0)
  pub some : (k : ℕ) → (k < count) ↔ IsBefore s.step (slice_place n s k) (stop_for n s.step s.stop)

pub zero_times : (z : ℤ) → pos 0 *ℤ z ≡ pos 0
zero_times (pos m) = ap pos (zero-mul m)
zero_times (negsuc m) = ap (λ x. neg_ℤ (pos x)) (zero-mul (suc m))

-- a place that comes before the stop lies on the side
pub slice_within : (n : ℕ) (s : Slice) (k : ℕ) → s.step ≢ pos 0 → IsBefore s.step (slice_place n s k) (stop_for n s.step s.stop) → (pos 0 ≤ℤ slice_place n s k) × (slice_place n s k <ℤ pos n)
slice_within n s k ne b = place_within n s.step s.start s.stop k ne b

-- place k of the run is place k of the slice
run_place_is : (n : ℕ) (s : Slice) (first : ℕ) (step : ℤ) (count : ℕ) → IsRunOf n s first step count → (k : ℕ) → k < count → pos first +ℤ pos k *ℤ step ≡ slice_place n s k
run_place_is n s first step count r k h =
    let start = slice_within n s 0 r.steps ((r.some 0).0 (omega arith)) in
    let low : pos 0 ≤ℤ start_for n s.step s.start = omega (arith, ints, start.0, zero_times s.step) in
    let same : pos first ≡ start_for n s.step s.start = omega (arith, ints, clamps, r.is_first) in
    rw (same, r.is_step) refl

pub run_fits : (n : ℕ) (s : Slice) (first : ℕ) (step : ℤ) (count : ℕ) → IsRunOf n s first step count → n < 2 ^ 32 → (k : ℕ) → k < count → FitsUnsigned w32 (pos first +ℤ pos k *ℤ step)
run_fits n s first step count r small k h =
    let on_side = slice_within n s k r.steps ((r.some k).0 h) in
    rw (run_place_is n s first step count r k h) (on_side.0, omega (arith, ints, on_side.1, small))

pub length-places_from : (first : ℕ) (step : ℤ) (count : ℕ) → length (places_from first step count) ≡ count
length-places_from first step count = length-map-range_with_len (place_from first step) 0 count

pub get_or-places_from : (first : ℕ) (step : ℤ) (count k d : ℕ) → k < count → get_or (places_from first step count) k d ≡ place_from first step k
get_or-places_from first step count k d h = get_or-map-range_with_len (place_from first step) 0 count k k d h (zero-add k)

pub pos-unsigned_abs : (z : ℤ) → pos 0 ≤ℤ z → pos (unsigned_abs z) ≡ z
pos-unsigned_abs z h = omega (arith, ints)

pub slice_runs : (n : ℕ) (s : Slice) (first : ℕ) (step : ℤ) (count : ℕ) → IsRunOf n s first step count → IsSlice n s (places_from first step count)
slice_runs n s first step count r = record {
  some = λ k. rw (length-places_from first step count) (r.some k);
  are = λ k h.
      let b : k < count = omega (arith, h, length-places_from first step count) in
      let on_side = slice_within n s k r.steps ((r.some k).0 b) in
      rw (get_or-places_from first step count k 0 b, run_place_is n s first step count r k b) (pos-unsigned_abs (slice_place n s k) on_side.0);
}

-- what the code computes is the run of the slice
pub run_of : (n : ℕ) (s : Slice) (start stop step : ℤ) (first count : ℕ) → s.step ≢ pos 0 → step ≡ s.step → start ≡ start_for n step s.start → stop ≡ stop_for n step s.stop
    → pos first ≡ int_max start (pos 0) → ((k : ℕ) → (k < count) ↔ IsBefore step (start +ℤ pos k *ℤ step) stop) → IsRunOf n s first step count
run_of n s start stop step first count ne e p q f some = record {
  steps = ne;
  is_step = e;
  is_first = f ∙ ap (λ z. int_max z (pos 0)) (p ∙ ap (λ z. start_for n z s.start) e);
  some = λ k. let here : (k < count) ↔ IsBefore step (start +ℤ pos k *ℤ step) stop = some k in rw (p, q, e) at here;
}

-- every place of a slice lies on the side
pub slice_below : (n : ℕ) (s : Slice) (places : List ℕ) → s.step ≢ pos 0 → IsSlice n s places → All (λ p. p < n) places
slice_below n s places ne r k d h =
    let on_side = slice_within n s k ne ((r.some k).0 h) in
    rw (get_or_default places k d 0 h) (omega (arith, ints, r.are k h, on_side.1))

-- a slice has one number of places
slice_shorter : (n : ℕ) (s : Slice) (xs ys : List ℕ) → IsSlice n s xs → IsSlice n s ys → length xs ≤ length ys
slice_shorter n s xs ys r t = elim (cases_lt (length ys) (length xs)) [ inl h ↦ absurd (omega (arith, (t.some (length ys)).1 ((r.some (length ys)).0 h))) | inr h ↦ h ]

pub slice_length : (n : ℕ) (s : Slice) (xs ys : List ℕ) → IsSlice n s xs → IsSlice n s ys → length xs ≡ length ys
slice_length n s xs ys r t = le_antisymm (slice_shorter n s xs ys r t) (slice_shorter n s ys xs t r)

-- a slice has at most as many places as the side
most_places : (n : ℕ) (step : ℤ) (start : Option ℤ) (k : ℕ) → step ≢ pos 0 → (pos 0 ≤ℤ (start_for n step start +ℤ pos k *ℤ step)) → ((start_for n step start +ℤ pos k *ℤ step) <ℤ pos n) → k < n
most_places n (pos zero) start k ne low high = absurd (ne refl)
most_places n (pos (suc s)) start k ne low high = omega (arith, ints, mul-suc k s, (up_end n (pos 0) start (omega (arith, ints)) (omega (arith, ints))).0)
most_places n (negsuc s) start k ne low high = omega (arith, ints, mul-suc k s, (down_end n (pos n -ℤ pos 1) start (omega (arith, ints)) (omega (arith, ints))).1)

pub slice_most : (n : ℕ) (s : Slice) (places : List ℕ) → s.step ≢ pos 0 → IsSlice n s places → length places ≤ n
slice_most n s [] ne r = omega arith
slice_most n s (p ∷ places) ne r =
    let on_side = slice_within n s (length places) ne ((r.some (length places)).0 (omega arith)) in
    most_places n s.step s.start (length places) ne on_side.0 on_side.1

-- a bound on the places of a run
pub run_below : (first : ℕ) (step : ℤ) (count bound k : ℕ) → All (λ p. p < bound) (places_from first step count) → k < count → place_from first step k < bound
run_below first step count bound k h b =
    let at : get_or (places_from first step count) k 0 < bound = h k 0 (omega (arith, b, length-places_from first step count)) in
    rw (get_or-places_from first step count k 0 b) at at
