-- The places of a slice are those of the relation, and a slice has some.
use Rattle.std.specs.Prelude.{◌≡◌, ◌≢◌, ◌↔◌, ℕ, zero, suc, ◌<◌, ◌≤◌, ℤ, pos, negsuc, ◌-ℤ◌, ◌<ℤ◌, int_lt, unsigned_abs, Bool, true, false, List, map, length}
use Rattle.std.specs.Int.{int_max, div_ceil}
use Rattle.std.specs.List.{prefix_len}
use Rattle.std.proofs.Common.{refl, sym, ap, ◌∙◌, subst, arith, inl, inr, get_or, take, zero-add}
use Rattle.std.proofs.lemmas.Bool.{cases_Bool}
use Rattle.std.proofs.lemmas.Int.{ints, clamps}
use Rattle.std.proofs.lemmas.List.{length-map, length-take-le, get_or-take, get_or-map}
use Rattle.std.proofs.lemmas.List.Sums.{prefix_len_is}
use Rattle.std.proofs.lemmas.List.FromFn.{length-map-range_with_len, get_or-map-range_with_len}
use Rattle.std.proofs.lemmas.Grind.{same_number_lists}
use Rattle.dcx_shape.specs.declared.slice.Slice.{Slice}
use Rattle.dcx_shape.specs.Places.{places_below}
use Rattle.dcx_shape.specs.Run.{places_from}
use Rattle.dcx_shape.specs.Slice.{start_for, stop_for, IsBefore, slice_place, IsSlice, moved}
use Rattle.dcx_shape.proofs.Slices.{ahead_up, ahead_down, steps_before, slice_runs, run_of, slice_most, pos-unsigned_abs}
use Rattle.dcx_array.specs.Picks.{is_before, slice_places}

-- ---- before the stop
lt_true : (a b : ℤ) → a <ℤ b → int_lt a b ≡ true
lt_true a b h = grind (arith, ints)

true_lt : (a b : ℤ) → int_lt a b ≡ true → a <ℤ b
true_lt a b e = grind (arith, ints)

before_true : (step z stop : ℤ) → IsBefore step z stop → is_before step z stop ≡ true
before_true (pos s) z stop h = lt_true z stop h
before_true (negsuc s) z stop h = lt_true stop z h

true_before : (step z stop : ℤ) → is_before step z stop ≡ true → IsBefore step z stop
true_before (pos s) z stop e = true_lt z stop e
true_before (negsuc s) z stop e = true_lt stop z e

not_before : (step z stop : ℤ) → ¬ IsBefore step z stop → is_before step z stop ≡ false
not_before step z stop never = elim (cases_Bool (is_before step z stop)) [ inl e ↦ absurd (never (true_before step z stop e)) | inr e ↦ e ]

-- ---- the places
-- place k, wherever it lies
abbrev all_places : ℕ → Slice → List ℤ
all_places n s = map (slice_place n s) (places_below n)

abbrev comes_before : ℕ → Slice → ℤ → Bool
comes_before n s z = is_before s.step z (stop_for n s.step s.stop)

length-all_places : (n : ℕ) (s : Slice) → length (all_places n s) ≡ n
length-all_places n s = length-map-range_with_len (slice_place n s) 0 n

get_or-all_places : (n : ℕ) (s : Slice) (k : ℕ) (d : ℤ) → k < n → get_or (all_places n s) k d ≡ slice_place n s k
get_or-all_places n s k d b = get_or-map-range_with_len (slice_place n s) 0 n k k d b (zero-add k)

-- as many come before the stop as the relation says
prefix_len-all_places : (n : ℕ) (s : Slice) (xs : List ℕ) → s.step ≢ pos 0 → IsSlice n s xs → prefix_len (comes_before n s) (all_places n s) ≡ length xs
prefix_len-all_places n s xs ne r =
    let most : length xs ≤ n = slice_most n s xs ne r in
    prefix_len_is (comes_before n s) (all_places n s) (length xs) (pos 0) (omega (arith, most, length-all_places n s))
    (λ k b. ap (comes_before n s) (get_or-all_places n s k (pos 0) (omega (arith, b, most))) ∙ before_true s.step (slice_place n s k) (stop_for n s.step s.stop) ((r.some k).0 b))
    (λ b. ap (comes_before n s) (get_or-all_places n s (length xs) (pos 0) (omega (arith, b, length-all_places n s)))
    ∙ not_before s.step (slice_place n s (length xs)) (stop_for n s.step s.stop) (λ h. let more : length xs < length xs = (r.some (length xs)).1 h in absurd (omega arith)))

pub slice_places-is : (n : ℕ) (s : Slice) (xs : List ℕ) → s.step ≢ pos 0 → IsSlice n s xs → slice_places n s ≡ xs
slice_places-is n s xs ne r =
    let most : length xs ≤ length (all_places n s) = omega (arith, slice_most n s xs ne r, length-all_places n s) in
    let count : length (take (length xs) (all_places n s)) ≡ length xs = length-take-le (length xs) (all_places n s) most in
    let same : length (map unsigned_abs (take (length xs) (all_places n s))) ≡ length xs = length-map (take (length xs) (all_places n s)) unsigned_abs ∙ count in
    ap (λ m. map unsigned_abs (take m (all_places n s))) (prefix_len-all_places n s xs ne r)
    ∙ same_number_lists (map unsigned_abs (take (length xs) (all_places n s))) xs same (λ k h.
    let b : k < length xs = omega (arith, h, same) in
    get_or-map unsigned_abs (take (length xs) (all_places n s)) k (pos 0) 0 (omega (arith, b, count))
    ∙ ap unsigned_abs (get_or-take (length xs) (all_places n s) k (pos 0) b ∙ get_or-all_places n s k (pos 0) (omega (arith, b, most, length-all_places n s)) ∙ sym (r.are k b)))

-- ---- a slice has places
-- how far the stop lies ahead
ahead : (step start stop : ℤ) → step ≢ pos 0 → (g : ℕ) × ((d : ℕ) → (d < g) ↔ IsBefore step (moved step start d) stop)
ahead (pos zero) start stop ne = absurd (ne refl)
ahead (pos (suc k)) start stop ne = (
  unsigned_abs (int_max (stop -ℤ start) (pos 0)),
  ahead_up (pos (suc k)) start stop (unsigned_abs (int_max (stop -ℤ start) (pos 0))) (omega (arith, ints))
      (pos-unsigned_abs (int_max (stop -ℤ start) (pos 0)) (omega (arith, ints, clamps))),
)
ahead (negsuc k) start stop ne = (
  unsigned_abs (int_max (start -ℤ stop) (pos 0)),
  ahead_down (negsuc k) start stop (unsigned_abs (int_max (start -ℤ stop) (pos 0))) ne (omega (arith, ints))
      (pos-unsigned_abs (int_max (start -ℤ stop) (pos 0)) (omega (arith, ints, clamps))),
)

slice_exists : (n : ℕ) (s : Slice) → s.step ≢ pos 0 → (xs : List ℕ) × IsSlice n s xs
slice_exists n s ne =
    let far = ahead s.step (start_for n s.step s.start) (stop_for n s.step s.stop) ne in
    let count : ℕ = div_ceil far.0 (unsigned_abs s.step) in
    let first : ℕ = unsigned_abs (int_max (start_for n s.step s.start) (pos 0)) in
    let some = steps_before s.step (start_for n s.step s.start) (stop_for n s.step s.stop) far.0 (div_ceil far.0 (unsigned_abs s.step)) ne far.1 refl in (
      places_from first s.step count,
      slice_runs n s first s.step count
          (run_of n s (start_for n s.step s.start) (stop_for n s.step s.stop) s.step first count ne refl refl refl
          (pos-unsigned_abs (int_max (start_for n s.step s.start) (pos 0)) (omega (arith, ints, clamps))) some),
    )

pub slice_places-are : (n : ℕ) (s : Slice) → s.step ≢ pos 0 → IsSlice n s (slice_places n s)
slice_places-are n s ne = let x = slice_exists n s ne in subst (IsSlice n s) (sym (slice_places-is n s x.0 ne x.1)) x.1
