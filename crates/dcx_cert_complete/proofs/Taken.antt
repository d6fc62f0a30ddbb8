-- What calls are taken at along a ray: one side of a product or a quotient stands, and the others go.
use Rattle.std.proofs.Common.{◌≡◌, inl, inr, ℕ, ◌<◌, Bool, true, false, IsTrue, if◌then◌else◌, List, [], ◌∷◌, nat_eq, refl, sym, ap, ◌∙◌, subst, pos}
use Rattle.std.proofs.lemmas.Bool.{or_cases, false≢true}
use Rattle.dcx_math.specs.Rational.{ℚ, whole, ◌+ℚ◌, ◌*ℚ◌}
use Rattle.dcx_math.proofs.Ring.{reads}
use Rattle.dcx_math.proofs.Orders.{linear, zero_shifted}
use Rattle.dcx_atom.specs.declared.flags.Sign.{Sign}
use Rattle.dcx_atom.specs.declared.flags.Trend.{Trend}
use Rattle.dcx_atom.specs.declared.flags.Bend.{Bend}
use Rattle.dcx_atom.specs.declared.flags.Bend.TheVariants.{Convex, Concave}
use Rattle.dcx_atom.specs.Arrays.{Entries}
use Rattle.dcx_atom.specs.Signs.{HasSign, HaveSigns, IsBeyond, Follows, sign_at, shifted}
use Rattle.dcx_convex.specs.Calls.{Kind, Nonlinear, Linear, Product, Quotient, Call, BendsBetween}
use Rattle.dcx_convex.specs.Rules.{Plain, Judgement, argument, bends, opposite}
use Rattle.dcx_convex.proofs.Convexity.{same_bend_is}
use Rattle.dcx_right.specs.Steepness.{taken_at}
use Rattle.dcx_right.specs.Rays.{BendsAlong, Recedes}
use Rattle.dcx_cert_complete.proofs.Level.{nothing, HeadStarts}
use Rattle.dcx_convex.specs.Nodes.{Apply}
use Rattle.dcx_atom.proofs.Units.{one_nonnegative}

-- ---- signs and trends
with_signed : (side : ℕ) (signs : List Sign) (u v : Entries) → HaveSigns signs u → HaveSigns signs v → HaveSigns signs (λ i. if nat_eq i side then u i else v i)
with_signed side signs u v hu hv i j = by (nat_eq i side)
  where
    by : (t : Bool) → HasSign (sign_at signs i) ((if t then u i else v i) j)
    by true = hu i j
    by false = hv i j

pub taken_signed : (kind : Kind) (first : Bool) (signs : List Sign) (u v : Entries) → HaveSigns signs u → HaveSigns signs v → HaveSigns signs (taken_at kind first u v)
taken_signed (Nonlinear own) first signs u v hu hv = hv
taken_signed Linear first signs u v hu hv = hv
taken_signed Product first signs u v hu hv = with_signed (if first then 0 else 1) signs u v hu hv
taken_signed Quotient first signs u v hu hv = with_signed 1 signs u v hu hv

module _ (bend : Bend) (trend : ℕ → Trend) (u v w : Entries) (h : (i e : ℕ) → Follows bend (trend i) (v i e) (w i e)) where
  with_follow : (side i e : ℕ) → Follows bend (trend i) ((if nat_eq i side then u i else v i) e) ((if nat_eq i side then u i else w i) e)
  with_follow side i e = by (nat_eq i side)
    where
      by : (t : Bool) → Follows bend (trend i) ((if t then u i else v i) e) ((if t then u i else w i) e)
      by true = inl refl
      by false = h i e

  pub taken_follow : (kind : Kind) (first : Bool) (i e : ℕ) → Follows bend (trend i) (taken_at kind first u v i e) (taken_at kind first u w i e)
  taken_follow (Nonlinear own) first i e = h i e
  taken_follow Linear first i e = h i e
  taken_follow Product first i e = with_follow (if first then 0 else 1) i e
  taken_follow Quotient first i e = with_follow 1 i e

-- ---- calls between and along such arguments
-- a nonlinear call bends as it does
abbrev pub Bends : Kind → Bend → Type 0
Bends (Nonlinear own) bend = own ≡ bend
Bends Linear bend = Unit {0}
Bends Product bend = Unit {0}
Bends Quotient bend = Unit {0}

pub kind_bends : (kind : Kind) (bend : Bend) (gs : List Judgement) → IsTrue (bends Plain kind bend gs) → Bends kind bend
kind_bends (Nonlinear own) bend gs t = same_bend_is own bend t
kind_bends Linear bend gs t = tt
kind_bends Product bend gs t = tt
kind_bends Quotient bend gs t = tt

pub taken_between : (kind : Kind) (bend : Bend) (first : Bool) (u v w : Entries) → Bends kind bend → BendsBetween kind bend (taken_at kind first u v) (taken_at kind first u w)
taken_between (Nonlinear own) bend first u v w h = h
taken_between Linear bend first u v w h = tt
taken_between Product bend true u v w h = inl refl
taken_between Product bend false u v w h = inr refl
taken_between Quotient bend first u v w h = refl

-- from nothing along v by k to w
pub start_along : (kind : Kind) (bend : Bend) (first : Bool) (k : ℚ) (u v w : Entries) → Bends kind bend → w ≡ shifted nothing k v →
    BendsAlong kind bend k (taken_at kind first u nothing) (taken_at kind first u v) (taken_at kind first u w)
start_along (Nonlinear own) bend first k u v w h moved = (h, moved)
start_along Linear bend first k u v w h moved = moved
start_along Product bend true k u v w h moved = inl (record { still = refl; same = refl; moved = ap (λ z. z 1) moved })
start_along Product bend false k u v w h moved = inr (record { still = refl; same = refl; moved = ap (λ z. z 0) moved })
start_along Quotient bend first k u v w h moved = record { still = refl; same = refl; moved = ap (λ z. z 0) moved }

-- the side that stands is that of u
abbrev pub StandsAs : Kind → (first : Bool) → Entries → Entries → Type 0
StandsAs (Nonlinear own) first t u = Unit {0}
StandsAs Linear first t u = Unit {0}
StandsAs Product true t u = t 0 ≡ u 0
StandsAs Product false t u = t 1 ≡ u 1
StandsAs Quotient first t u = t 1 ≡ u 1

pub fixed_stands : (kind : Kind) (bend : Bend) (gs : List Judgement) (t u : Entries) → IsTrue (bends Plain kind bend gs) → ((i : ℕ) → IsTrue (argument gs i).fixed → t i ≡ u i)
    → StandsAs kind (argument gs 0).fixed t u
fixed_stands (Nonlinear own) bend gs t u b h = tt
fixed_stands Linear bend gs t u b h = tt
fixed_stands Product bend gs t u b h = by (argument gs 0).fixed refl
  where
    by : (first : Bool) → (argument gs 0).fixed ≡ first → StandsAs Product first t u
    by true e = h 0 e
    by false e = h 1 (elim (or_cases (argument gs 0).fixed (argument gs 1).fixed b) [ inl p ↦ absurd (false≢true (sym e ∙ p)) | inr p ↦ p ])
fixed_stands Quotient bend gs t u b h = h 1 b

-- from t along v by k to w
pub along_taken : (kind : Kind) (bend : Bend) (first : Bool) (k : ℚ) (u t v w : Entries) → Bends kind bend → StandsAs kind first t u → w ≡ shifted t k v →
    BendsAlong kind bend k t (taken_at kind first u v) (taken_at kind first u w)
along_taken (Nonlinear own) bend first k u t v w h side moved = (h, moved)
along_taken Linear bend first k u t v w h side moved = moved
along_taken Product bend true k u t v w h side moved = inl (record { still = sym side; same = sym side; moved = ap (λ z. z 1) moved })
along_taken Product bend false k u t v w h side moved = inr (record { still = sym side; same = sym side; moved = ap (λ z. z 0) moved })
along_taken Quotient bend first k u t v w h side moved = record { still = sym side; same = sym side; moved = ap (λ z. z 0) moved }

-- ---- at nothing
twice : (bend : Bend) (z : ℚ) → IsBeyond (opposite bend) z (z +ℚ whole (pos 1) *ℚ z) → IsBeyond bend z (whole (pos 0))
twice Convex z h = linear (z ∷ []) h (search reads depth 30) tt
twice Concave z h = linear (z ∷ []) h (search reads depth 30) tt

nothing_shifted : nothing ≡ shifted nothing (whole (pos 1)) nothing
nothing_shifted = λ t i j. zero_shifted (whole (pos 1)) t

-- where the sides that go are nothing, a call isn't beyond 0
pub start_low : (c : Call) → Recedes c → HeadStarts (Apply c) → (bend : Bend) → Bends c.kind bend → (first : Bool) (u : Entries) (j : ℕ) → j < c.size
    → IsBeyond bend (c.value (taken_at c.kind first u nothing) j) (whole (pos 0))
start_low c recedes starts bend b first u j below = by c.kind refl b
  where
    level : (kind : Kind) → c.kind ≡ kind → Bends kind (opposite bend) → IsBeyond bend (c.value (taken_at kind first u nothing) j) (whole (pos 0))
    level kind e h =
        twice bend _
        (recedes (opposite bend) (whole (pos 1)) (taken_at kind first u nothing) (taken_at kind first u nothing) (taken_at kind first u nothing) one_nonnegative
        (subst (λ q. BendsAlong q (opposite bend) (whole (pos 1)) (taken_at kind first u nothing) (taken_at kind first u nothing) (taken_at kind first u nothing)) (sym e)
        (start_along kind (opposite bend) first (whole (pos 1)) u nothing nothing h nothing_shifted)) j below)

    by : (kind : Kind) → c.kind ≡ kind → Bends kind bend → IsBeyond bend (c.value (taken_at kind first u nothing) j) (whole (pos 0))
    by (Nonlinear own) e h = subst (λ q. IsBeyond q (c.value nothing j) (whole (pos 0))) h (starts own e j below)
    by Linear e h = level Linear e tt
    by Product e h = level Product e tt
    by Quotient e h = level Quotient e tt
