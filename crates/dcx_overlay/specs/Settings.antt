-- The settings that a command asks for.
use Rattle.std.specs.Prelude.{◌≡◌, ⊤, ℕ, List, [], ◌∷◌, map, codes, pos}
use Rattle.dcx_math.specs.Rational.{whole}
use Rattle.dcx_frac.specs.Frac.{value}
use Rattle.dcx_shape.specs.Shape.{sides_of}
use Rattle.dcx_shape.specs.declared.shape.Sides.TheVariants.{Scalar}
use Rattle.dcx_atom.specs.declared.array.Array.{Array}
use Rattle.dcx_point.specs.Pairs.{Pairs, with_array}
use Rattle.dcx_settings.specs.declared.settings.SettingItem.{SettingItem}

-- ---- lines of a settings file
-- the array has the shape and the numbers of the item
pub record HasNumbers (item : SettingItem) (a : Array) : Type 0 where
  pub shaped : a.shape ≡ item.shape
  pub numbered : a.entries ≡ item.numbers

-- a line laid over a setting: its values replace those of the same name, and new names follow in the line's order
abbrev pub LaidOver : Pairs → List SettingItem → Pairs → Type 0
LaidOver s [] t = t ≡ s
LaidOver s (item ∷ items) t = (a : Array) × HasNumbers item a × LaidOver (with_array s item.name a) items t

-- each line laid over the same setting
abbrev pub AreLaidOver : Pairs → List (List SettingItem) → List Pairs → Type 0
AreLaidOver s [] [] = ⊤
AreLaidOver s [] (t ∷ ts) = ⊥
AreLaidOver s (line ∷ lines) [] = ⊥
AreLaidOver s (line ∷ lines) (t ∷ ts) = LaidOver s line t × AreLaidOver s lines ts

-- ---- the trial problem
-- the array is this number
pub record IsScalar (n : ℕ) (a : Array) : Type 0 where
  pub scalar : sides_of a.shape ≡ Scalar
  pub number : map value a.entries ≡ whole (pos n) ∷ []

-- the setting, with this number as `q`
abbrev pub IsTrialSetting : Pairs → ℕ → Pairs → Type 0
IsTrialSetting s n t = (a : Array) × IsScalar n a × (t ≡ with_array s (codes "q") a)

-- first `q` is 0, and then 10
abbrev pub AreTrialSettings : Pairs → List Pairs → Type 0
AreTrialSettings s ts = (t : Pairs) × (u : Pairs) × IsTrialSetting s 0 t × IsTrialSetting s 10 u × (ts ≡ t ∷ u ∷ [])
