-- Lines give one list of settings, and so does the trial.
use Rattle.std.proofs.Common.{◌≡◌, ℕ, List, [], ◌∷◌, map, refl, sym, ap, ap₂, subst, codes, pos, ◌∙◌}
use Rattle.dcx_math.specs.Rational.{ℚ, whole}
use Rattle.dcx_frac.specs.declared.fraction.Frac.{Frac}
use Rattle.dcx_frac.specs.Frac.{value}
use Rattle.dcx_frac.proofs.Parts.{value_injective}
use Rattle.dcx_atom.specs.declared.array.Array.{Array}
use Rattle.dcx_point.specs.Pairs.{Pairs, with_array}
use Rattle.dcx_settings.specs.declared.settings.SettingItem.{SettingItem}
use Rattle.dcx_shape.proofs.OneShape.{shape_from_sides}
use Rattle.dcx_overlay.specs.Settings.{LaidOver, AreLaidOver, IsTrialSetting}
use Rattle.dcx_overlay.specs.Laws.{SettingsAreOne}
use Rattle.dcx_atom.proofs.OneArray.{array_from_parts}

-- ---- lines
one_laid : (s : Pairs) (items : List SettingItem) (t u : Pairs) → LaidOver s items t → LaidOver s items u → t ≡ u
one_laid s [] t u h k = h ∙ sym k
one_laid s (x ∷ xs) t u (a, n, h) (b, m, k) =
    let same = array_from_parts a b (n.shaped ∙ sym m.shaped) (n.numbered ∙ sym m.numbered) in
    one_laid (with_array s x.name a) xs t u h (subst (λ (c : Array). LaidOver (with_array s x.name c) xs u) (sym same) k)

all_laid : (s : Pairs) (lines : List (List SettingItem)) (ts us : List Pairs) → AreLaidOver s lines ts → AreLaidOver s lines us → ts ≡ us
all_laid s [] [] [] h k = refl
all_laid s [] [] (u ∷ us) h k = absurd k
all_laid s [] (t ∷ ts) us h k = absurd h
all_laid s (l ∷ ls) [] us h k = absurd h
all_laid s (l ∷ ls) (t ∷ ts) [] h k = absurd k
all_laid s (l ∷ ls) (t ∷ ts) (u ∷ us) (x, h) (y, k) = ap₂ ◌∷◌ (one_laid s l t u x y) (all_laid s ls ts us h k)

-- ---- the trial
one_number : (q : ℚ) (xs ys : List Frac) → map value xs ≡ q ∷ [] → map value ys ≡ q ∷ [] → xs ≡ ys
one_number q [] ys e f = absurd cc
one_number q (x ∷ xs) [] e f = absurd cc
one_number q (x ∷ []) (y ∷ []) e f =
    let a : value x ≡ q = cc in
    let b : value y ≡ q = cc in
    ap (λ z. z ∷ []) (value_injective x y (a ∙ sym b))
one_number q (x ∷ []) (y ∷ z ∷ ys) e f = absurd cc
one_number q (x ∷ w ∷ xs) (y ∷ ys) e f = absurd cc

one_trial : (s : Pairs) (n : ℕ) (t u : Pairs) → IsTrialSetting s n t → IsTrialSetting s n u → t ≡ u
one_trial s n t u (a, h, e) (b, k, f) =
    e ∙ ap (with_array s (codes "q")) (array_from_parts a b (shape_from_sides a.shape b.shape (h.scalar ∙ sym k.scalar)) (one_number (whole (pos n)) a.entries b.entries h.number k.number)) ∙ sym f

pub settings_are_one : SettingsAreOne
settings_are_one = record {
  laid = all_laid;
  trial = λ s ts us (t, u, h, k, e) (v, w, l, m, f). e ∙ ap₂ (λ x y. x ∷ y ∷ []) (one_trial s 0 t v h l) (one_trial s 10 u w k m) ∙ sym f;
}
