-- What the tests' generic functions say of any call, by its laws alone.
use Rattle.std.specs.Prelude.{◌≡◌, ℕ, ◌<◌, List, Some, IsTrue, length, pos}
use Rattle.dcx_math.specs.Rational.{ℚ, whole, ◌+ℚ◌, ◌*ℚ◌, ◌≤ℚ◌, inverse}
use Rattle.dcx_math.specs.Sums.{rat_sum, rat_sum_below}
use Rattle.dcx_frac.specs.declared.fraction.Frac.{Frac}
use Rattle.dcx_shape.specs.declared.shape.Sides.{Sides}
use Rattle.dcx_shape.specs.Sides.{entries_of}
use Rattle.dcx_atom.specs.declared.flags.Sign.{Sign}
use Rattle.dcx_atom.specs.Arrays.{Entries, number_at, sides_at}
use Rattle.dcx_atom.specs.Signs.{HaveSigns, IsBeyond, combination, shifted}
use Rattle.dcx_atom.specs.Rows.{Filling, form_at}
use Rattle.dcx_atom.specs.Meaning.{Meaning}
use Rattle.dcx_atom.specs.Laws.{ForEachEntry, GraphHolds}
use Rattle.dcx_atom.specs.Steps.{slope_at}
use Rattle.dcx_atom.specs.Linear as linear_call
use Rattle.dcx_atom.specs.Linear.{LinearMeaning}

-- 1/2
abbrev pub half : ℚ
half = inverse (whole (pos 2))

-- the value half way isn't beyond the middle of the chord
abbrev pub IsBelowChord : Meaning → Type 0
IsBelowChord m = ForEachEntry m (λ args j. (a b : Entries) → IsBeyond m.bend (m.value args (combination half half a b) j) (half *ℚ m.value args a j +ℚ half *ℚ m.value args b j))

-- two steps along a ray
abbrev pub RecedesTwice : Meaning → Type 0
RecedesTwice m = ForEachEntry m (λ args j. (a b : Entries) → IsBeyond m.bend (m.value args (shifted a (whole (pos 2)) b) j) (m.value args a j +ℚ whole (pos 2) *ℚ m.value args b j))

-- where the sign is told nonnegative, the sum of the summands is at least 0
abbrev pub SumsAtLeastZero : Meaning → Type 0
SumsAtLeastZero m = ForEachEntry m (λ args j. (signs : List Sign) (a : Entries) → length signs ≡ length args → HaveSigns signs a → IsTrue (m.sign signs).nonneg →
    whole (pos 0) ≤ℚ rat_sum (m.summands args a j))

-- between equal arguments the value stays beyond itself
abbrev pub StaysInPlace : Meaning → Type 0
StaysInPlace m = ForEachEntry m (λ args j. (a b : Entries) → ((i k : ℕ) → a i k ≡ b i k) → IsBeyond m.bend (m.value args a j) (m.value args b j))

-- no filling reaches nearer than the tight one
abbrev pub IsBestFilling : Meaning → Type 0
IsBestFilling m = (args : List Sides) (sides : Sides) → m.shape args ≡ Some sides → (a : Entries) (t : Filling) → GraphHolds m args (entries_of sides) a t →
    (j : ℕ) → j < entries_of sides → IsBeyond m.bend (form_at (m.result args j) (m.filling args a)) (form_at (m.result args j) t)

-- slopes bound the sum of coefficients times values from below
abbrev pub BoundBelow : Meaning → List Sides → ℕ → List Frac → List Frac → Type 0
BoundBelow m args size cs gs = (a : Entries) →
    rat_sum_below (length args) (λ i. rat_sum_below (entries_of (sides_at args i)) (λ e. slope_at args gs i e *ℚ a i e)) ≤ℚ
    rat_sum_below size (λ j. number_at cs j *ℚ m.value args a j)

-- the value of a linear call at a sum is the sum of its values
abbrev pub IsAdditive : LinearMeaning → Type 0
IsAdditive m = linear_call.ForEachEntry m (λ args j. (a b : Entries) →
    m.value args (combination (whole (pos 1)) (whole (pos 1)) a b) j ≡ whole (pos 1) *ℚ m.value args a j +ℚ whole (pos 1) *ℚ m.value args b j)
