-- The array of a variable from the numbers of its unknowns.
use Rattle.std.proofs.Common.{◌≡◌, ℕ, ◌+◌, ◌<◌, ◌≤◌, List, length, map, get_or, Option, Some, if◌then◌else◌, sym, ap, ◌∙◌, inl, inr, ◌⊎◌, arith, pos}
use Rattle.std.specs.List.{range_with_len}
use Rattle.std.proofs.lemmas.Bool.{cases_lt, lt-ltb, le-ltb}
use Rattle.std.proofs.lemmas.List.{length-map, get_or_past}
use Rattle.std.proofs.lemmas.Simd.{map-map}
use Rattle.std.proofs.lemmas.List.FromFn.{length-map-range_with_len, get_or-map-range_with_len}
use Rattle.dcx_math.specs.Rational.{ℚ, whole}
use Rattle.dcx_math.specs.Sums.{rat_at}
use Rattle.dcx_math.proofs.Sums.{rat_at-get_or}
use Rattle.dcx_frac.specs.declared.fraction.Frac.{Frac}
use Rattle.dcx_frac.specs.Frac.{value}
use Rattle.dcx_shape.specs.Sides.{entries_of}
use Rattle.dcx_shape.specs.Places.{places_below}
use Rattle.dcx_convex.specs.Nodes.{first_of}
use Rattle.dcx_call.specs.declared.attribute.Variable.{Variable}
use Rattle.dcx_unknowns.specs.Unknowns.{sides_in, unknown_from, number_at, array_from}
use Rattle.dcx_postsolve.specs.Points.{numbered}

-- n numbers that are listed
listed : (f : ℕ → ℚ) (n j : ℕ) → rat_at (map f (range_with_len 0 n)) j ≡ first_of n f j
listed f n j = sym (rat_at-get_or (map f (range_with_len 0 n)) j) ∙ by (cases_lt j n)
  where
    by : (j < n) ⊎ (n ≤ j) → get_or (map f (range_with_len 0 n)) j (whole (pos 0)) ≡ first_of n f j
    by (inl l) = let z : 0 + j ≡ j = omega arith in get_or-map-range_with_len f 0 n j j (whole (pos 0)) l z ∙ sym (ap (λ b. if b then f j else whole (pos 0)) (lt-ltb j n l))
    by (inr g) =
        let past : length (map f (range_with_len 0 n)) ≤ j = omega (arith, length-map-range_with_len f 0 n, g) in
        get_or_past (map f (range_with_len 0 n)) j (whole (pos 0)) past ∙ sym (ap (λ b. if b then f j else whole (pos 0)) (le-ltb j n g))

module _ (us : List Frac) (first : ℕ) (v : Variable) (sources : List (Option ℕ)) (xs : List Frac)
    (sources_are : sources ≡ map (unknown_from first v) (places_below (entries_of (sides_in v)))) (numbers_are : map value xs ≡ map (number_at (numbered us)) sources) where
  all_are : map value xs ≡ map (λ j. number_at (numbered us) (unknown_from first v j)) (places_below (entries_of (sides_in v)))
  all_are = numbers_are ∙ ap (map (number_at (numbered us))) sources_are ∙ map-map (number_at (numbered us)) (unknown_from first v) (places_below (entries_of (sides_in v)))

  -- as many as the variable has entries
  pub array_full : length xs ≡ entries_of (sides_in v)
  array_full = sym (length-map xs value) ∙ ap length all_are ∙ length-map-range_with_len (λ j. number_at (numbered us) (unknown_from first v j)) 0 (entries_of (sides_in v))

  pub array_numbers : (j : ℕ) → rat_at (map value xs) j ≡ array_from (numbered us) first (Some v) j
  array_numbers j = ap (λ l. rat_at l j) all_are ∙ listed (λ i. number_at (numbered us) (unknown_from first v i)) (entries_of (sides_in v)) j
