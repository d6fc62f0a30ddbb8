-- Fractions of a tableau's numbers, and lists of fractions that are written to.
use Rattle.std.proofs.Common.{◌≡◌, ◌≢◌, ℕ, ◌<◌, List, length, set, get_or, pos, arith, sym, ap, ◌∙◌}
use Rattle.std.proofs.lemmas.List.{length-map, map-set, get_or-set_same, get_or-set_other}
use Rattle.dcx_math.specs.Rational.{whole}
use Rattle.dcx_math.specs.Sums.{rat_at}
use Rattle.dcx_math.proofs.Sums.{rat_at-get_or}
use Rattle.dcx_frac.specs.declared.fraction.Frac.{Frac}
use Rattle.dcx_frac.specs.Frac.{value}
use Rattle.dcx_lp_answer.specs.Notes.{numbers}

-- ---- a number is written
written : (xs : List Frac) (j : ℕ) (f : Frac) (k : ℕ) → rat_at (numbers (set xs j f)) k ≡ get_or (set (numbers xs) j (value f)) k (whole (pos 0))
written xs j f k = sym (rat_at-get_or (numbers (set xs j f)) k) ∙ ap (λ ys. get_or ys k (whole (pos 0))) (map-set value xs j f)

pub number-set_same : (xs : List Frac) (j : ℕ) (f : Frac) → j < length xs → rat_at (numbers (set xs j f)) j ≡ value f
number-set_same xs j f h = written xs j f j ∙ get_or-set_same (numbers xs) j (value f) (whole (pos 0)) (omega (arith, length-map xs value))

pub number-set_other : (xs : List Frac) (j : ℕ) (f : Frac) (k : ℕ) → k ≢ j → rat_at (numbers (set xs j f)) k ≡ rat_at (numbers xs) k
number-set_other xs j f k n = written xs j f k ∙ get_or-set_other (numbers xs) j k (value f) (whole (pos 0)) n ∙ rat_at-get_or (numbers xs) k
