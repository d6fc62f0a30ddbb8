-- The run of the slice, from its ends and the number of its steps.
use Rattle.std.proofs.Common.{◌≡◌, ◌≢◌, ◌<◌, ◌^◌, ℕ, arith, rules}
use Rattle.std.specs.Int.{w32, w64, cast_signed, cast_unsigned, int_max, FitsUnsigned}
use Rattle.std.specs.Prelude.{ℤ, pos, ◌+ℤ◌, ◌-ℤ◌, ◌*ℤ◌, ◌≤ℤ◌, ◌<ℤ◌, ◌↔◌, unsigned_abs, FitsSigned}
use Rattle.std.proofs.lemmas.Int.{ints, clamps, to_z-of_z}
use Rattle.dcx_shape.specs.declared.slice.Slice.{Slice}
use Rattle.dcx_shape.specs.Slice.{start_for, stop_for, IsBefore}
use Rattle.dcx_shape.proofs.Slices.{IsRunOf, AreNear, ends_near, run_of, run_fits, slice_runs}
use Rattle.dcx_shape.proofs.slice.slice_run.Goals as goal

-- a number as the code reads it from its bits
abbrev read : ℤ → ℤ
read z = cast_signed w64 (cast_unsigned w64 z)

-- numbers that are no further apart than a side is long
near : (n : ℕ) (a b : ℤ) → n < 2 ^ 32 → FitsSigned w64 a → FitsSigned w64 b → (a -ℤ b) ≤ℤ pos n → (read a -ℤ read b) <ℤ pos (2 ^ 32)
near n a b small fits_a fits_b h = rw (to_z-of_z w64 a fits_a, to_z-of_z w64 b fits_b) (omega (arith, ints, h, small))

-- the ends as the code has them
ends : (n : ℕ) (s : Slice) (start stop : ℤ) → start ≡ start_for n (read s.step) s.start → stop ≡ stop_for n (read s.step) s.stop → AreNear n start stop
ends n s start stop is_start is_stop = rw (is_start, is_stop) (ends_near n (read s.step) s.start s.stop)

-- the greater of 0 and a start on the side is a place's number
start_fits : (n : ℕ) (z : ℤ) → n < 2 ^ 32 → z ≤ℤ pos n → FitsUnsigned w32 (int_max z (pos 0))
start_fits n z small h = (omega (arith, ints, clamps), omega (arith, ints, clamps))

first_fits : (n : ℕ) (start first : ℤ) → n < 2 ^ 32 → FitsSigned w64 start → FitsSigned w64 first → start ≤ℤ pos n → first ≡ int_max (read start) (pos 0) → FitsUnsigned w32 (read first)
first_fits n start first small begin best h e = rw (to_z-of_z w64 first best, e, to_z-of_z w64 start begin) (start_fits n start small h)

-- what the code computes is the run of the slice
computed : (n : ℕ) (s : Slice) (start stop first : ℤ) (count : ℕ) → s.step ≢ pos 0 → FitsSigned w64 s.step → FitsSigned w64 start → FitsSigned w64 stop → FitsSigned w64 first
    → start ≡ start_for n (read s.step) s.start → stop ≡ stop_for n (read s.step) s.stop → first ≡ int_max (read start) (pos 0)
    → ((k : ℕ) → (k < count) ↔ IsBefore (read s.step) (read start +ℤ pos k *ℤ read s.step) (read stop)) → IsRunOf n s (unsigned_abs (read first)) (read s.step) count
computed n s start stop first count ne step begin end best is_start is_stop is_first some =
    let from : pos (unsigned_abs (read first)) ≡ int_max start (pos 0) = omega (arith, ints, clamps) in
    let before = simp (to_z-of_z w64 start begin, to_z-of_z w64 stop end) at some in
    run_of n s start stop (read s.step) (unsigned_abs (read first)) count ne (to_z-of_z w64 s.step step) is_start is_stop from before

pub slice_start-start-requires : goal.slice_start-start-requires
slice_start-start-requires c = search rules

pub slice_stop-stop-requires : goal.slice_stop-stop-requires
slice_stop-stop-requires c = search rules

pub steps-count-requires-clause-step : goal.steps-count-requires-clause-step
steps-count-requires-clause-step c = search rules

pub steps-count-requires-clause-up : goal.steps-count-requires-clause-up
steps-count-requires-clause-up c = near c.args.size c.slice_stop-stop.result c.slice_start-start.result (omega arith) (search rules) (search rules)
    (ends c.args.size c.args.slice _ _ c.slice_start-start.ensures c.slice_stop-stop.ensures).up

pub steps-count-requires-clause-down : goal.steps-count-requires-clause-down
steps-count-requires-clause-down c = near c.args.size c.slice_start-start.result c.slice_stop-stop.result (omega arith) (search rules) (search rules)
    (ends c.args.size c.args.slice _ _ c.slice_start-start.ensures c.slice_stop-stop.ensures).down

pub max-first-requires : goal.max-first-requires
max-first-requires c = search rules

pub overflow_cast-first : goal.overflow_cast-first
overflow_cast-first c =
    let near : AreNear c.args.size c.slice_start-start.result c.slice_stop-stop.result = ends c.args.size c.args.slice _ _ c.slice_start-start.ensures c.slice_stop-stop.ensures in
    let fits : FitsUnsigned w32 (read c.max-first.result) =
    first_fits c.args.size c.slice_start-start.result c.max-first.result (omega arith) (search rules) (search rules) near.first c.max-first.ensures.value in
    search (rules, fits)

pub invariant_of-result : goal.invariant_of-result
invariant_of-result c =
    let small : c.args.size < 2 ^ 32 = omega arith in
    record {
      fits = run_fits c.args.size c.args.slice _ _ _ (computed c.args.size c.args.slice _ _ _ _ c.requires (search rules) (search rules) (search rules)
          (search rules) c.slice_start-start.ensures c.slice_stop-stop.ensures c.max-first.ensures.value c.steps-count.ensures) small;
    }

pub returns : goal.returns
returns c = slice_runs c.args.size c.args.slice _ _ _ (computed c.args.size c.args.slice _ _ _ _ c.requires (search rules) (search rules) (search rules)
    (search rules) c.slice_start-start.ensures c.slice_stop-stop.ensures c.max-first.ensures.value c.steps-count.ensures)
