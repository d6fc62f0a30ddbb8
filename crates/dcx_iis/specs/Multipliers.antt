-- The multipliers of all constraints from those of the ones that are kept.
use Rattle.std.specs.Prelude.{◌≡◌, ⊤, ℕ, Bool, true, false, IsTrue, List, [], ◌∷◌, pos}
use Rattle.std.specs.List.{AllZip}
use Rattle.dcx_math.specs.Rational.{whole}
use Rattle.dcx_atom.specs.declared.array.Array.{Array}
use Rattle.dcx_atom.specs.Arrays.{number_at}
use Rattle.dcx_tree.specs.declared.constraint.Constraint.{Constraint}
use Rattle.dcx_right.specs.Answers.{multipliers_in}
use Rattle.dcx_right.specs.ConstraintSets.{ConstraintSet}
use Rattle.dcx_right.specs.Filters.{HasShapeOf}
use Rattle.dcx_iis.specs.Steps.{kept_of}

-- zeros in the shape of a constraint
pub record AreZeros (c : Constraint) (x : Array) : Type 0 where
  pub shape : HasShapeOf c x
  pub numbers : (j : ℕ) → number_at x.entries j ≡ whole (pos 0)

-- a constraint that is kept takes the next array, and any other zeros
abbrev pub TakesNext : Bool → Constraint → List Array → List Array → Array → Type 0
TakesNext true c [] after x = ⊤
TakesNext true c (y ∷ ys) after x = (x ≡ y) × (after ≡ ys)
TakesNext false c before after x = (after ≡ before) × AreZeros c x

-- each constraint has an array of its shape; those of the set have these, in order, and the others zeros
pub record AreSpread (set : ConstraintSet) (cs : List Constraint) (xs ys : List Array) : Type 0 where
  pub shaped : AllZip HasShapeOf cs ys
  pub kept : kept_of set ys ≡ xs
  pub zeros : (k : ℕ) → ¬ IsTrue (set k) → (j : ℕ) → multipliers_in ys k j ≡ whole (pos 0)
