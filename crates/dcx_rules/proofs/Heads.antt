-- What the code forms of a call is what the rules say of it, whatever its names and shapes are.
use Rattle.std.proofs.Common.{◌≡◌, ℕ, zero, suc, Bool, List, [], ◌∷◌, map, refl, sym, ap, ap₂, ◌∙◌}
use Rattle.std.specs.Prelude.{◌&&◌, ◌||◌, pos}
use Rattle.std.specs.List.{list_all}
use Rattle.std.proofs.lemmas.List.Folds.{list_all-map}
use Rattle.dcx_math.specs.Rational.{whole, rat_le}
use Rattle.dcx_frac.specs.Frac.{value}
use Rattle.dcx_shape.specs.declared.shape.Sides.{Sides}
use Rattle.dcx_shape.specs.declared.shape.Sides.TheVariants.{Scalar}
use Rattle.dcx_atom.specs.declared.flags.Sign.{Sign}
use Rattle.dcx_atom.specs.declared.flags.Trend.{Trend}
use Rattle.dcx_atom.specs.declared.flags.Bend.{Bend}
use Rattle.dcx_affine.specs.declared.pairing.Pairing.{Pairing}
use Rattle.dcx_affine.specs.declared.pairing.Pairing.TheVariants.{Times, MatTimes, Over}
use Rattle.dcx_call.specs.declared.attribute.Attribute.{Attribute}
use Rattle.dcx_call.specs.declared.attribute.Attribute.TheVariants.{Free, Nonneg, Nonpos, Symmetric, Diag}
use Rattle.dcx_call.specs.declared.attribute.Whole.{Whole}
use Rattle.dcx_call.specs.declared.attribute.Whole.TheVariants.{Not, Integer, Boolean}
use Rattle.dcx_call.specs.declared.attribute.Variable.{Variable}
use Rattle.dcx_call.specs.declared.attribute.Parameter.{Parameter}
use Rattle.dcx_call.specs.declared.call.Call.{Call}
use Rattle.dcx_call.specs.declared.call.Call.TheVariants as calls
use Rattle.dcx_call.specs.Attributes as own
use Rattle.dcx_call.specs.Calls.{sign_of, pairing_trend, trend_of}
use Rattle.dcx_atom.specs.declared.array.Array.{Array}
use Rattle.dcx_call.specs.Atoms.{atom_meaning}
use Rattle.dcx_call.specs.Linears.{linear_meaning}
use Rattle.dcx_convex.specs.Calls as convex_calls
use Rattle.dcx_convex.specs.Atoms.{atom_call, linear_call}
use Rattle.dcx_convex.specs.Rules as convex
use Rattle.dcx_convex.specs.Rules.{Rules, is_constant, attribute_sign, sign_by, fixed_by, unparametrized_by, bends, all_suit, suits, is_bent_call, is_bent_by, judgement_by}
use Rattle.dcx_tree.specs.Nodes.{Names, attribute_of, variable_attribute, pairing_call, head_of}
use Rattle.dcx_rules.specs.declared.judgement.Judgement.{Judgement}
use Rattle.dcx_rules.specs.Judgements.{judgement_of, signs_of, rules_head, composes, judged}

-- the rules say the same of a call, whatever its names and shapes are
pub judged_head : (rules : Rules) (names : Names) (call : Call) (sides : List Sides) (its : Sides) (args : List convex.Judgement) →
    judgement_by rules (head_of names call sides its) args ≡ judged rules call args
judged_head rules names (calls.Variable v) sides its args = refl
judged_head rules names (calls.Parameter p) sides its args = refl
judged_head rules names (calls.Constant x) sides its args = refl
judged_head rules names (calls.Atom m) sides its args = refl
judged_head rules names (calls.Linear l) sides its args = refl
judged_head rules names (calls.Pairing Times) sides its args = refl
judged_head rules names (calls.Pairing MatTimes) sides its args = refl
judged_head rules names (calls.Pairing Over) sides its args = refl

-- ---- signs
pub signs_told : (gs : List Judgement) → map (λ (g : convex.Judgement). g.sign) (map judgement_of gs) ≡ signs_of gs
signs_told [] = refl
signs_told (g ∷ gs) = ap (λ (ss : List Sign). g.sign ∷ ss) (signs_told gs)

parameter_sign : (a : Attribute) → own.attribute_sign a ≡ attribute_sign (attribute_of a)
parameter_sign Free = refl
parameter_sign Nonneg = refl
parameter_sign Nonpos = refl
parameter_sign Symmetric = refl
parameter_sign Diag = refl

variable_sign : (w : Whole) (a : Attribute) → own.attribute_sign (own.counted w a) ≡ attribute_sign (variable_attribute w a)
variable_sign Not a = parameter_sign a
variable_sign Integer a = parameter_sign a
variable_sign Boolean a = refl

same_sign : (a b c d : Bool) → a ≡ b → c ≡ d → ◌≡◌ {A = Sign} (record { nonneg = a; nonpos = c }) (record { nonneg = b; nonpos = d })
same_sign a b c d e f = λ i. record { nonneg = e i; nonpos = f i }

pub sign_head : (call : Call) (gs : List Judgement) (signs : List Sign) → signs ≡ signs_of gs → sign_of call signs ≡ sign_by (rules_head call) (map judgement_of gs)
sign_head (calls.Variable v) gs signs e = variable_sign v.whole v.attribute
sign_head (calls.Parameter p) gs signs e = parameter_sign p.attribute
sign_head (calls.Constant x) gs signs e =
    same_sign _ _ _ _ (sym (list_all-map (λ q. rat_le (whole (pos 0)) q) value x.entries)) (sym (list_all-map (λ q. rat_le q (whole (pos 0))) value x.entries))
sign_head (calls.Atom m) gs signs e = ap (sign_of (calls.Atom m)) (e ∙ sym (signs_told gs))
sign_head (calls.Linear l) gs signs e = ap (sign_of (calls.Linear l)) (e ∙ sym (signs_told gs))
sign_head (calls.Pairing Times) gs signs e = ap (sign_of (calls.Pairing Times)) (e ∙ sym (signs_told gs))
sign_head (calls.Pairing MatTimes) gs signs e = ap (sign_of (calls.Pairing MatTimes)) (e ∙ sym (signs_told gs))
sign_head (calls.Pairing Over) gs signs e = ap (sign_of (calls.Pairing Over)) (e ∙ sym (signs_told gs))

-- ---- what is reached, of a call of arguments
abbrev pub IsLeaf : Call → Type 0
IsLeaf (calls.Variable v) = Unit {0}
IsLeaf (calls.Parameter p) = Unit {0}
IsLeaf (calls.Constant x) = Unit {0}
IsLeaf (calls.Atom m) = ⊥
IsLeaf (calls.Linear l) = ⊥
IsLeaf (calls.Pairing p) = ⊥

pub fixed_head : (call : Call) → ¬ IsLeaf call → (gs : List Judgement) → fixed_by (rules_head call) (map judgement_of gs) ≡ list_all (λ (g : Judgement). g.fixed) gs
fixed_head (calls.Variable v) h gs = absurd (h tt)
fixed_head (calls.Parameter p) h gs = absurd (h tt)
fixed_head (calls.Constant x) h gs = absurd (h tt)
fixed_head (calls.Atom m) h gs = list_all-map (λ (g : convex.Judgement). g.fixed) judgement_of gs
fixed_head (calls.Linear l) h gs = list_all-map (λ (g : convex.Judgement). g.fixed) judgement_of gs
fixed_head (calls.Pairing p) h gs = list_all-map (λ (g : convex.Judgement). g.fixed) judgement_of gs

pub unparametrized_head : (call : Call) → ¬ IsLeaf call → (gs : List Judgement) → unparametrized_by (rules_head call) (map judgement_of gs) ≡ list_all (λ (g : Judgement). g.unparametrized) gs
unparametrized_head (calls.Variable v) h gs = absurd (h tt)
unparametrized_head (calls.Parameter p) h gs = absurd (h tt)
unparametrized_head (calls.Constant x) h gs = absurd (h tt)
unparametrized_head (calls.Atom m) h gs = list_all-map (λ (g : convex.Judgement). g.unparametrized) judgement_of gs
unparametrized_head (calls.Linear l) h gs = list_all-map (λ (g : convex.Judgement). g.unparametrized) judgement_of gs
unparametrized_head (calls.Pairing p) h gs = list_all-map (λ (g : convex.Judgement). g.unparametrized) judgement_of gs

-- the arms that the code takes first
pub not_leaf : (call : Call) → ((v : Variable) → call ≡ calls.Variable v → ⊥) → ((p : Parameter) → call ≡ calls.Parameter p → ⊥) → ((x : Array) → call ≡ calls.Constant x → ⊥) → ¬ IsLeaf call
not_leaf (calls.Variable v) h k l t = h v refl
not_leaf (calls.Parameter p) h k l t = k p refl
not_leaf (calls.Constant x) h k l t = l x refl
not_leaf (calls.Atom m) h k l t = t
not_leaf (calls.Linear m) h k l t = t
not_leaf (calls.Pairing p) h k l t = t

-- ---- trends
-- trends that are alike at each place judge the arguments alike
all_suit_same : (bend : Bend) (t u : ℕ → Trend) → ((i : ℕ) → t i ≡ u i) → (args : List convex.Judgement) → all_suit bend t args ≡ all_suit bend u args
all_suit_same bend t u h [] = refl
all_suit_same bend t u h (g ∷ args) = ap₂ (λ x b. suits bend x g && b) (h 0) (all_suit_same bend (λ i. t (suc i)) (λ i. u (suc i)) (λ i. h (suc i)) args)

pairing_trends : (p : Pairing) (signs : List Sign) (i : ℕ) → (pairing_call p [] Scalar).trend signs i ≡ pairing_trend p signs i
pairing_trends Times signs zero = refl
pairing_trends Times signs (suc i) = refl
pairing_trends MatTimes signs zero = refl
pairing_trends MatTimes signs (suc i) = refl
pairing_trends Over signs zero = refl
pairing_trends Over signs (suc i) = refl

-- ---- curvature
applied : (rules : Rules) (c : convex_calls.Call) (bend : Bend) (gs : List Judgement) (t : ℕ → Trend) → ((i : ℕ) → c.trend (signs_of gs) i ≡ t i) →
    is_bent_call rules c bend (map judgement_of gs)
    ≡ (list_all (λ g. is_constant rules (judgement_of g)) gs || (bends rules c.kind bend (map judgement_of gs) && all_suit bend t (map judgement_of gs)))
applied rules c bend gs t h =
    ap₂ (λ a b. a || (bends rules c.kind bend (map judgement_of gs) && b)) (list_all-map (is_constant rules) judgement_of gs)
    (ap (λ ss. all_suit bend (c.trend ss) (map judgement_of gs)) (signs_told gs) ∙ all_suit_same bend (c.trend (signs_of gs)) t h (map judgement_of gs))

-- a call of arguments is constant, or it bends so and each argument may stand there
pub bent_head : (rules : Rules) (bend : Bend) (call : Call) → ¬ IsLeaf call → (gs : List Judgement) (signs : List Sign) → signs ≡ signs_of gs →
    is_bent_by rules bend (rules_head call) (map judgement_of gs) ≡ composes rules bend call gs signs
bent_head rules bend (calls.Variable v) h gs signs e = absurd (h tt)
bent_head rules bend (calls.Parameter p) h gs signs e = absurd (h tt)
bent_head rules bend (calls.Constant x) h gs signs e = absurd (h tt)
bent_head rules bend (calls.Atom m) h gs signs e =
    applied rules (atom_call (atom_meaning m) [] Scalar) bend gs (trend_of (calls.Atom m) signs) (λ i. ap (λ ss. trend_of (calls.Atom m) ss i) (sym e))
bent_head rules bend (calls.Linear l) h gs signs e =
    applied rules (linear_call (linear_meaning l) [] Scalar) bend gs (trend_of (calls.Linear l) signs) (λ i. refl)
bent_head rules bend (calls.Pairing p) h gs signs e =
    applied rules (pairing_call p [] Scalar) bend gs (trend_of (calls.Pairing p) signs) (λ i. pairing_trends p (signs_of gs) i ∙ ap (λ ss. pairing_trend p ss i) (sym e))

-- ---- one judgement
pub same_judgement : (s t : Sign) (a b c d e f g h : Bool) → s ≡ t → a ≡ b → c ≡ d → e ≡ f → g ≡ h →
    ◌≡◌ {A = convex.Judgement} (record { sign = s; fixed = a; unparametrized = c; convex = e; concave = g }) (record { sign = t; fixed = b; unparametrized = d; convex = f; concave = h })
same_judgement s t a b c d e f g h p q r u v = λ i. record { sign = p i; fixed = q i; unparametrized = r i; convex = u i; concave = v i }
