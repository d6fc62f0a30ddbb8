-- The names of pairs, and what stands under them.
use Rattle.std.proofs.Common.{◌≡◌, ℕ, zero, suc, ◌<◌, true, false, List, [], ◌∷◌, length, Some, None, ap, ◌∙◌, subst, arith}
use Rattle.std.specs.Prelude.{slice_get}
use Rattle.std.specs.List.{AllByRecursion, IsDistinct}
use Rattle.std.proofs.lemmas.Option.{none-some, same_Some}
use Rattle.dcx_atom.specs.declared.array.Array.{Array}
use Rattle.dcx_point.specs.Pairs.{Pairs, same_name, names_of, array_of, AreDistinct}
use Rattle.dcx_point.proofs.Puts.{same_name-refl, same_name-sym}

-- the pair that has a name
pub pair_at : (ps : Pairs) (i : ℕ) (name : List ℕ) → slice_get (names_of ps) i ≡ Some name → (a : Array) × (slice_get ps i ≡ Some (name, a))
pair_at [] i name e = absurd (none-some name e)
pair_at (p ∷ ps) zero name e = (p.1, ap (λ n. Some (n, p.1)) (same_Some p.0 name e))
pair_at (p ∷ ps) (suc i) name e = pair_at ps i name e

-- each has one
pub name_there : (ps : Pairs) (i : ℕ) → i < length ps → ¬ (slice_get (names_of ps) i ≡ None)
name_there [] i lt e = omega arith
name_there (p ∷ ps) zero lt e = cc
name_there (p ∷ ps) (suc i) lt e = name_there ps i (omega arith) e

-- what holds of each name
pub all_at : (P : List ℕ → Type 0) (ps : Pairs) (i : ℕ) (x : List ℕ × Array) → AllByRecursion P (names_of ps) → slice_get ps i ≡ Some x → P x.0
all_at P [] i x all e = absurd (none-some x e)
all_at P (p ∷ ps) zero x all e = subst (λ (z : List ℕ × Array). P z.0) (same_Some p x e) all.0
all_at P (p ∷ ps) (suc i) x all e = all_at P ps i x all.1 e

-- names that differ one way differ the other
pub unlike : (a b : List ℕ) → same_name a b ≡ false → same_name b a ≡ false
unlike a b e = same_name-sym b a ∙ e

-- its array is that of its name
pub array_at : (ps : Pairs) (i : ℕ) (x : List ℕ × Array) → AreDistinct ps → slice_get ps i ≡ Some x → array_of ps x.0 ≡ Some x.1
unfolding IsDistinct
array_at [] i x d e = absurd (none-some x e)
array_at (p ∷ ps) zero x d e =
    let s : same_name x.0 p.0 ≡ true = ap (λ (z : List ℕ × Array). same_name x.0 z.0) (same_Some p x e) ∙ same_name-refl x.0 in
    rw s (ap (λ (z : List ℕ × Array). Some z.1) (same_Some p x e))
array_at (p ∷ ps) (suc i) x d e = let s = unlike p.0 x.0 (all_at (λ n. same_name p.0 n ≡ false) ps i x d.0 e) in rw s (array_at ps i x d.1 e)
