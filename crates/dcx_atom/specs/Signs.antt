-- Signs of numbers, and which way the numbers of a call go.
use Rattle.std.specs.Prelude.{◌≡◌, ◌⊎◌, ℕ, Bool, true, false, ◌&&◌, ◌||◌, IsTrue, List, slice_index_or, pos}
use Rattle.std.specs.List.{list_all}
use Rattle.dcx_math.specs.Rational.{ℚ, whole, ◌+ℚ◌, ◌*ℚ◌, ◌≤ℚ◌}
use Rattle.dcx_atom.specs.declared.flags.Sign.{Sign}
use Rattle.dcx_atom.specs.declared.flags.Trend.{Trend}
use Rattle.dcx_atom.specs.declared.flags.Bend.{Bend}
use Rattle.dcx_atom.specs.declared.flags.Bend.TheVariants.{Convex, Concave}
use Rattle.dcx_atom.specs.Arrays.{Entries}

-- a number has a sign
pub record HasSign (s : Sign) (x : ℚ) : Type 0 where
  pub nonneg : IsTrue s.nonneg → whole (pos 0) ≤ℚ x
  pub nonpos : IsTrue s.nonpos → x ≤ℚ whole (pos 0)

-- nothing is known
abbrev pub unknown_sign : Sign
unknown_sign = record { nonneg = false; nonpos = false }

-- the sign of argument i
abbrev pub sign_at : List Sign → ℕ → Sign
sign_at signs i = slice_index_or signs i unknown_sign

-- each entry of each argument has the argument's sign
abbrev pub HaveSigns : List Sign → Entries → Type 0
HaveSigns signs a = (i j : ℕ) → HasSign (sign_at signs i) (a i j)

-- y is on the far side of x: at or above it for a convex call, at or below it for a concave one
abbrev pub IsBeyond : Bend → ℚ → ℚ → Type 0
IsBeyond Convex x y = x ≤ℚ y
IsBeyond Concave x y = y ≤ℚ x

-- y is x, or beyond x where the call rises, or on the near side of x where it falls
abbrev pub Follows : Bend → Trend → ℚ → ℚ → Type 0
Follows bend trend x y = (x ≡ y) ⊎ (IsTrue trend.rising × IsBeyond bend x y) ⊎ (IsTrue trend.falling × IsBeyond bend y x)

-- p a + q b, entry by entry
abbrev pub combination : ℚ → ℚ → Entries → Entries → Entries
combination p q a b i j = p *ℚ a i j +ℚ q *ℚ b i j

-- a + k b, entry by entry
abbrev pub shifted : Entries → ℚ → Entries → Entries
shifted a k b i j = a i j +ℚ k *ℚ b i j

-- rises, and nothing else
abbrev pub rises : Trend
rises = record { rising = true; falling = false }

-- whether all are at least 0, and at most 0
abbrev pub all_nonneg : List Sign → Bool
all_nonneg signs = list_all (λ s. s.nonneg) signs

abbrev pub all_nonpos : List Sign → Bool
all_nonpos signs = list_all (λ s. s.nonpos) signs

-- the sign that all have
abbrev pub common_sign : List Sign → Sign
common_sign signs = record { nonneg = all_nonneg signs; nonpos = all_nonpos signs }

-- falls, and nothing else
abbrev pub falls : Trend
falls = record { rising = false; falling = true }

-- neither rises nor falls, as far as is known
abbrev pub no_trend : Trend
no_trend = record { rising = false; falling = false }

-- the sign turned round
abbrev pub flipped : Sign → Sign
flipped s = record { nonneg = s.nonpos; nonpos = s.nonneg }

-- what has this sign is 0
abbrev pub is_zero : Sign → Bool
is_zero s = s.nonneg && s.nonpos

-- the sign of a product or a quotient: nonneg where both sides are nonneg, or both nonpos, or one is zero; nonpos where one is
-- nonneg and the other nonpos, or one is zero
abbrev pub product_sign : Sign → Sign → Sign
product_sign l r = record {
  nonneg = (is_zero l || is_zero r) || ((l.nonneg && r.nonneg) || (l.nonpos && r.nonpos));
  nonpos = (is_zero l || is_zero r) || ((l.nonneg && r.nonpos) || (l.nonpos && r.nonneg));
}

-- rises where the other side is nonneg, and falls where it is nonpos
abbrev pub by_other : Sign → Trend
by_other s = record { rising = s.nonneg; falling = s.nonpos }

-- the sign of 0 where the sign is that of 0, and else nothing
abbrev pub zero_or_unknown : Sign → Sign
zero_or_unknown s = record { nonneg = s.nonneg && s.nonpos; nonpos = s.nonneg && s.nonpos }
