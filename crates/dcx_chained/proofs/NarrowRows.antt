-- Why no pivot on narrow rows is wide.
use Rattle.std.proofs.Common.{ℕ, ◌+◌, ◌<◌, ◌≤◌, ◌^◌, ℤ, pos, negsuc, ◌-ℤ◌, ◌*ℤ◌, unsigned_abs, arith, sym, ap, subst}
use Rattle.std.proofs.lemmas.Int.{ints}
use Rattle.std.proofs.lemmas.Nat.{mul-lt}
use native.Mathlib.Nat.{div-le_self}
use Rattle.dcx_math.specs.Divisors.{divided}
use Rattle.dcx_math.proofs.Divisors.{unsigned_abs-divided}
use Rattle.dcx_math.proofs.IntegerLaws.{unsigned_abs-*ℤ}
use Rattle.dcx_tab.specs.Rows.{Row, entry}
use Rattle.dcx_tab.specs.Pivot.{turned, turned_by, shared, IsFormed, IsRowFormed}
use Rattle.dcx_tab.proofs.RowLaws.{entry-scaled}
use Rattle.dcx_chained.specs.Narrow.{IsNarrow}

-- ---- numbers
pub abs-less : (a b : ℤ) → unsigned_abs (a -ℤ b) ≤ unsigned_abs a + unsigned_abs b
abs-less (pos m) (pos n) = omega (arith, ints)
abs-less (pos m) (negsuc n) = omega (arith, ints)
abs-less (negsuc m) (pos n) = omega (arith, ints)
abs-less (negsuc m) (negsuc n) = omega (arith, ints)

narrow_product : (p x : ℤ) → unsigned_abs p < 2 ^ 62 → unsigned_abs x < 2 ^ 62 → unsigned_abs (p *ℤ x) < 2 ^ 124
narrow_product p x a b = subst (λ n. n < 2 ^ 124) (sym (unsigned_abs-*ℤ p x)) (mul-lt (unsigned_abs p) (unsigned_abs x) (2 ^ 62) (2 ^ 62) a b)

below_formed : (m n k : ℕ) → m < 2 ^ 124 → n < 2 ^ 124 → k ≤ m + n → (m < 2 ^ 127) × (n < 2 ^ 127) × (k < 2 ^ 127)
below_formed m n k a b c = (omega (arith, a), omega (arith, b), omega (arith, a, b, c))

four_narrow : (p x q y : ℤ) → unsigned_abs p < 2 ^ 62 → unsigned_abs x < 2 ^ 62 → unsigned_abs q < 2 ^ 62 → unsigned_abs y < 2 ^ 62 → IsFormed p x q y
four_narrow p x q y a b c d =
    let f = below_formed (unsigned_abs (p *ℤ x)) (unsigned_abs (q *ℤ y)) (unsigned_abs (p *ℤ x -ℤ q *ℤ y)) (narrow_product p x a b) (narrow_product q y c d) (abs-less (p *ℤ x) (q *ℤ y)) in
    record { left = f.0; right = f.1; difference = f.2 }

narrow_quotient : (g : ℕ) (z : ℤ) → unsigned_abs z < 2 ^ 62 → unsigned_abs (divided g z) < 2 ^ 62
narrow_quotient g z h = let e = unsigned_abs-divided g z in let l = div-le_self (unsigned_abs z) g in omega (arith, e, l, h)

-- ---- rows
narrow_by_sign : (z : ℤ) (row : Row) → IsNarrow row → IsNarrow (turned_by z row)
narrow_by_sign (pos n) row h = h
narrow_by_sign (negsuc n) row h = λ j. let e = ap unsigned_abs (entry-scaled (negsuc 0) row j) in let f = unsigned_abs-*ℤ (negsuc 0) (entry row j) in let k = h j in omega arith

narrow-turned : (c : ℕ) (row : Row) → IsNarrow row → IsNarrow (turned c row)
narrow-turned c row h = narrow_by_sign (entry row c) row h

-- nothing that a pivot forms in a narrow row passes
pub narrow_formed : (c : ℕ) (pivot row : Row) → IsNarrow pivot → IsNarrow row → IsRowFormed c (turned c pivot) row
narrow_formed c pivot row a b = λ met j lt.
    let by = turned c pivot in
    let h = narrow-turned c pivot a in
    let g = shared c by row in
    four_narrow (divided g (entry by c)) (entry row j) (divided g (entry row c)) (entry by j) (narrow_quotient g (entry by c) (h c)) (b j) (narrow_quotient g (entry row c) (b c)) (h j)
