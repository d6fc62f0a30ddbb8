-- The grades of what the rules say, where parameters are affine, of the nodes of a trial.
use Rattle.std.proofs.Common.{◌≡◌, Bool, true, false, ◌&&◌, [], ◌∷◌, refl, ap, ap₂, ◌∙◌}
use Rattle.std.proofs.lemmas.Bool.{or_right}
use Rattle.std.specs.List.{list_all}
use Rattle.dcx_shape.specs.declared.shape.Shape.{Shape}
use Rattle.dcx_atom.specs.declared.array.Array.{Array}
use Rattle.dcx_atom.specs.declared.flags.Sign.{Sign}
use Rattle.dcx_atom.specs.declared.flags.Bend.TheVariants.{Convex}
use Rattle.dcx_affine.specs.declared.pairing.Pairing.TheVariants as pairings
use Rattle.dcx_call.specs.declared.call.Call.{Call}
use Rattle.dcx_call.specs.declared.call.Call.TheVariants as calls
use Rattle.dcx_call.specs.declared.atoms.AtomCall.{AtomCall}
use Rattle.dcx_call.specs.Atoms.{atom_meaning}
use Rattle.dcx_call.specs.declared.linears.LinearCall.TheVariants as linears
use Rattle.dcx_convex.specs.Rules.{Parametrized, Judgement, is_constant, same_bend}
use Rattle.dcx_trial_laws.proofs.Judged.{judged}

-- what the rules say of a node: its sign, whether it reaches no variable and no parameter, and how it bends
abbrev pub said : Sign → (fixed free convex concave : Bool) → Judgement
said sign fixed free convex concave = record { sign = sign; fixed = fixed; unparametrized = free; convex = convex; concave = concave }

-- ---- the grades
-- a number; what is affine, or convex, without a parameter; a factor that is at least 0; what is convex
abbrev pub IsNumber : Judgement → Type 0
IsNumber g = (sign : Sign) × (g ≡ said sign true true true true)

abbrev pub IsAffine : Judgement → Type 0
IsAffine g = (sign : Sign) × (fixed : Bool) × (g ≡ said sign fixed true true true)

abbrev pub IsCup : Judgement → Type 0
IsCup g = (sign : Sign) × (fixed : Bool) × (concave : Bool) × (g ≡ said sign fixed true true concave)

abbrev pub upwards : Bool → Sign
upwards nonpos = record { nonneg = true; nonpos = nonpos }

abbrev pub IsWeight : Judgement → Type 0
IsWeight g = (nonpos : Bool) × (free : Bool) × (g ≡ said (upwards nonpos) true free true true)

abbrev pub IsEnd : Judgement → Type 0
IsEnd g = (sign : Sign) × (fixed : Bool) × (free : Bool) × (concave : Bool) × (g ≡ said sign fixed free true concave)

-- ---- calls
abbrev pub times : Call
times = calls.Pairing pairings.Times

abbrev pub plus : Call
plus = calls.Linear (linears.Plus (record {}))

abbrev pub minus : Call
minus = calls.Linear (linears.Minus (record {}))

abbrev pub promote : Shape → Call
promote to = calls.Linear (linears.Promote (record { to = to }))

-- ---- one argument
abbrev of_one : Call → Judgement → Judgement
of_one call g = judged call (g ∷ [])

abbrev of_two : Call → Judgement → Judgement → Judgement
of_two call g h = judged call (g ∷ h ∷ [])

-- a promotion keeps the grade
abbrev pub IsKept : (Judgement → Type 0) → Type 0
IsKept P = (to : Shape) (g : Judgement) → P g → P (judged (promote to) (g ∷ []))

pub constant-number : (a : Array) → IsNumber (judged (calls.Constant a) [])
constant-number a = ((judged (calls.Constant a) []).sign, refl)

pub number-kept : IsKept IsNumber
number-kept to g (σ, e) = ((of_one (promote to) (said σ true true true true)).sign, ap (of_one (promote to)) e)

pub affine-kept : IsKept IsAffine
affine-kept to g (σ, f, e) = (σ, (of_one (promote to) (said σ f true true true)).fixed, ap (of_one (promote to)) e ∙ by f)
  where
    by : (f : Bool) → of_one (promote to) (said σ f true true true) ≡ said σ (of_one (promote to) (said σ f true true true)).fixed true true true
    by true = refl
    by false = refl

pub cup-kept : IsKept IsCup
cup-kept to g (σ, f, v, e) =
    (σ, (of_one (promote to) (said σ f true true v)).fixed, (of_one (promote to) (said σ f true true v)).concave, ap (of_one (promote to)) e ∙ by f v)
  where
    by : (f v : Bool) → of_one (promote to) (said σ f true true v)
        ≡ said σ (of_one (promote to) (said σ f true true v)).fixed true true (of_one (promote to) (said σ f true true v)).concave
    by true v = refl
    by false true = refl
    by false false = refl

pub weight-kept : IsKept IsWeight
weight-kept to g (n, u, e) = (n, (of_one (promote to) (said (upwards n) true u true true)).unparametrized, ap (of_one (promote to)) e ∙ by u)
  where
    by : (u : Bool) → of_one (promote to) (said (upwards n) true u true true)
        ≡ said (upwards n) true (of_one (promote to) (said (upwards n) true u true true)).unparametrized true true
    by true = refl
    by false = refl

pub end-kept : IsKept IsEnd
end-kept to g (σ, f, u, v, e) =
    let j = of_one (promote to) (said σ f u true v) in
    (σ, j.fixed, j.unparametrized, j.concave, ap (of_one (promote to)) e ∙ by f u v)
  where
    by : (f u v : Bool) → of_one (promote to) (said σ f u true v)
        ≡ said σ (of_one (promote to) (said σ f u true v)).fixed (of_one (promote to) (said σ f u true v)).unparametrized true (of_one (promote to) (said σ f u true v)).concave
    by true true v = refl
    by true false true = refl
    by true false false = refl
    by false u true = refl
    by false u false = refl

pub minus-number : (g : Judgement) → IsNumber g → IsNumber (judged minus (g ∷ []))
minus-number g (σ, e) = ((of_one minus (said σ true true true true)).sign, ap (of_one minus) e)

-- an atom that is convex
pub atom-affine : (m : AtomCall) → (atom_meaning m).bend ≡ Convex → (g : Judgement) → IsAffine g → IsCup (judged (calls.Atom m) (g ∷ []))
atom-affine m own g (σ, f, e) =
    let j = of_one (calls.Atom m) (said σ f true true true) in
    (j.sign, j.fixed, j.concave, ap (of_one (calls.Atom m)) e ∙ ap (λ b. said j.sign j.fixed true b j.concave) (by f))
  where
    by : (f : Bool) → (of_one (calls.Atom m) (said σ f true true true)).convex ≡ true
    by true = refl
    by false = ap (λ b. same_bend b Convex && true) own

-- ---- two arguments
pub times-affine : (g h : Judgement) → IsAffine g → IsNumber h → IsAffine (judged times (g ∷ h ∷ []))
times-affine g h (σ, f, e) (τ, d) =
    let j = of_two times (said σ f true true true) (said τ true true true true) in
    (j.sign, j.fixed, ap₂ (of_two times) e d ∙ by f)
  where
    by : (f : Bool) → of_two times (said σ f true true true) (said τ true true true true)
        ≡ said (of_two times (said σ f true true true) (said τ true true true true)).sign (of_two times (said σ f true true true) (said τ true true true true)).fixed true true true
    by true = refl
    by false = refl

pub plus-affine : (g h : Judgement) → IsAffine g → IsAffine h → IsAffine (judged plus (g ∷ h ∷ []))
plus-affine g h (σ, f, e) (τ, k, d) =
    let j = of_two plus (said σ f true true true) (said τ k true true true) in
    (j.sign, j.fixed, ap₂ (of_two plus) e d ∙ by f k)
  where
    by : (f k : Bool) → of_two plus (said σ f true true true) (said τ k true true true)
        ≡ said (of_two plus (said σ f true true true) (said τ k true true true)).sign (of_two plus (said σ f true true true) (said τ k true true true)).fixed true true true
    by true true = refl
    by true false = refl
    by false k = refl

-- a number is affine
pub affine-number : (g : Judgement) → IsNumber g → IsAffine g
affine-number g (σ, e) = (σ, true, e)

pub plus-number : (g h : Judgement) → IsAffine g → IsNumber h → IsAffine (judged plus (g ∷ h ∷ []))
plus-number g h a n = plus-affine g h a (affine-number h n)

pub times-weight : (g h : Judgement) → IsWeight g → IsCup h → IsEnd (judged times (g ∷ h ∷ []))
times-weight g h (n, u, e) (σ, f, v, d) =
    let j = of_two times (said (upwards n) true u true true) (said σ f true true v) in
    (j.sign, j.fixed, j.unparametrized, j.concave, ap₂ (of_two times) e d ∙ ap (λ b. said j.sign j.fixed j.unparametrized b j.concave) (by u f v))
  where
    by : (u f v : Bool) → (of_two times (said (upwards n) true u true true) (said σ f true true v)).convex ≡ true
    by true true v = refl
    by true false true = refl
    by true false false = refl
    by false f true = refl
    by false f false = refl

pub plus-end : (g h : Judgement) → IsCup g → IsEnd h → IsEnd (judged plus (g ∷ h ∷ []))
plus-end g h (σ, f, v, e) (τ, k, u, w, d) =
    let j = of_two plus (said σ f true true v) (said τ k u true w) in
    (j.sign, j.fixed, j.unparametrized, j.concave, ap₂ (of_two plus) e d ∙ ap (λ b. said j.sign j.fixed j.unparametrized b j.concave) (by v w))
  where
    all_constant : Bool → Bool → Bool
    all_constant v w = list_all (is_constant Parametrized) (said σ f true true v ∷ said τ k u true w ∷ [])

    by : (v w : Bool) → (of_two plus (said σ f true true v) (said τ k u true w)).convex ≡ true
    by true true = or_right (all_constant true true) true refl
    by true false = or_right (all_constant true false) true refl
    by false true = or_right (all_constant false true) true refl
    by false false = or_right (all_constant false false) true refl
