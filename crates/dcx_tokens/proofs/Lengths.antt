-- How many characters a number has.
use Rattle.std.proofs.Common.{◌≡◌, ℕ, ◌+◌, ◌<◌, Bool, true, false, cond, ◌||◌, ◌&&◌, eqb, List, [], ◌∷◌, length, Option, Some, None, refl, ap, ◌∙◌, arith}
use Rattle.std.specs.Prelude.{option_map}
use Rattle.std.specs.Char.{is_ascii_digit}
use Rattle.std.specs.List.{take_while}
use Rattle.std.proofs.lemmas.List.Sums.{take_while-cons}
use Rattle.dcx_frac.specs.declared.fraction.Frac.{Frac}
use Rattle.dcx_tokens.specs.Front.{run_of, begins_number}
use Rattle.dcx_tokens.specs.Number.{fraction_len, mantissa_len, spelling_at, number_at}

run_at : (c : ℕ) (cs : List ℕ) → run_of is_ascii_digit (c ∷ cs) ≡ cond (is_ascii_digit c) (1 + run_of is_ascii_digit cs) 0
run_at c cs = ap length (take_while-cons is_ascii_digit c cs) ∙ by (is_ascii_digit c)
  where
    by : (b : Bool) → length (cond b (c ∷ take_while is_ascii_digit cs) []) ≡ cond b (1 + run_of is_ascii_digit cs) 0
    by true = omega arith
    by false = refl

-- a point that begins a number is one character of it
point_counts : (c : ℕ) (cs : List ℕ) → is_ascii_digit c ≡ false → begins_number c cs ≡ true → 0 < fraction_len (c ∷ cs)
point_counts c [] other begins = cc
point_counts c (d ∷ ds) other begins = by (is_ascii_digit c) (eqb c 46) other begins
  where
    by : (b p : Bool) → b ≡ false → (b || (p && is_ascii_digit d)) ≡ true → 0 < cond p (1 + run_of is_ascii_digit (d ∷ ds)) 0
    by true p n h = cc
    by false true n h = omega arith
    by false false n h = cc

-- what begins a number has characters before the exponent
mantissa_some : (c : ℕ) (cs : List ℕ) → begins_number c cs ≡ true → 0 < mantissa_len (c ∷ cs)
mantissa_some c cs begins = by (is_ascii_digit c) refl
  where
    by : (b : Bool) → is_ascii_digit c ≡ b → 0 < mantissa_len (c ∷ cs)
    by true e = let r = run_at c cs ∙ ap (λ b. cond b (1 + run_of is_ascii_digit cs) 0) e in omega (arith, r)
    by false e =
        let r : run_of is_ascii_digit (c ∷ cs) ≡ 0 = run_at c cs ∙ ap (λ b. cond b (1 + run_of is_ascii_digit cs) 0) e in
        let p = point_counts c cs e begins in
        rw r (omega (arith, p))

len_is : (b : Bool) (o : Option Frac) (len : ℕ) (p : Frac × ℕ) → cond b None (option_map (λ (f : Frac). (f, len)) o) ≡ Some p → p.1 ≡ len
len_is true o len p e = cc
len_is false None len p e = cc
len_is false (Some f) len p e = cc

-- a number has characters
pub number_some : (c : ℕ) (cs : List ℕ) (p : Frac × ℕ) → begins_number c cs ≡ true → number_at (c ∷ cs) ≡ Some p → 0 < p.1
unfolding number_at spelling_at
number_some c cs p begins e =
    let m = mantissa_some c cs begins in
    let l = len_is _ _ _ p e in
    omega (arith, m, l)
