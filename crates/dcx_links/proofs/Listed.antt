-- Lists of the values of a function.
use Rattle.std.proofs.Common.{◌≡◌, ℕ, zero, suc, ◌<◌, ◌∷◌, length, get_or, refl, ap, ap₂, arith}
use Rattle.dcx_links.specs.Matrix.{listed}

pub length-listed : {A : Type 0} (n : ℕ) (f : ℕ → A) → length (listed n f) ≡ n
length-listed zero f = refl
length-listed (suc n) f = ap suc (length-listed n (λ k. f (suc k)))

pub get_or-listed : {A : Type 0} (n : ℕ) (f : ℕ → A) (k : ℕ) (d : A) → k < n → get_or (listed n f) k d ≡ f k
get_or-listed zero f k d lt = absurd (omega arith)
get_or-listed (suc n) f zero d lt = refl
get_or-listed (suc n) f (suc k) d lt = get_or-listed n (λ i. f (suc i)) k d (omega arith)

pub listed_same : {A : Type 0} (n : ℕ) (f g : ℕ → A) → ((k : ℕ) → k < n → f k ≡ g k) → listed n f ≡ listed n g
listed_same zero f g h = refl
listed_same (suc n) f g h = ap₂ ◌∷◌ (h 0 (omega arith)) (listed_same n (λ k. f (suc k)) (λ k. g (suc k)) (λ k lt. h (suc k) (omega arith)))
