-- Small facts that several proofs need.
use Rattle.std.proofs.Common.{◌≡◌, ◌≢◌, zero, suc, false, ℤ, pos, negsuc, List, [], ◌∷◌, ◌++◌, refl}
use Rattle.dcx_settings.specs.Grammar.{Every}
use Rattle.dcx_settings.specs.Machine.{is_zero}

-- a list with one more item
pub every_more : {A : Type 0} (P : A → Type 0) (xs : List A) (x : A) → Every P xs → P x → Every P (xs ++ x ∷ [])
every_more P [] x h p = (p, tt)
every_more P (y ∷ ys) x h p = (h.0, every_more P ys x h.1 p)

-- what isn't 0 isn't taken for 0
pub not_zero : (d : ℤ) → d ≢ pos 0 → is_zero d ≡ false
not_zero (pos zero) h = absurd (h refl)
not_zero (pos (suc n)) h = refl
not_zero (negsuc n) h = refl
