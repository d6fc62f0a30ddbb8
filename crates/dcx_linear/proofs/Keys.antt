-- Keys that are made of two numbers, and tests of one fact.
use Rattle.std.proofs.Common.{◌≡◌, ◌↔◌, ℕ, ◌+◌, ◌*◌, ◌<◌, Bool, true, false, IsTrue, Ordering, Less, Equal, Greater, nat_cmp, refl, sym, arith}
use Rattle.std.specs.Ordering.{ordering_then, MatchOrdering}
use Rattle.std.specs.Cmp.{nat_cmp_is}
use Rattle.std.proofs.lemmas.Cmp.{ranked}

-- two tests of one fact are equal
pub same_bool : {P : Type 0} (s t : Bool) → (IsTrue s ↔ P) → (IsTrue t ↔ P) → s ≡ t
same_bool true true h k = refl
same_bool true false h k = sym (k.1 (h.0 refl))
same_bool false true h k = h.1 (k.0 refl)
same_bool false false h k = refl

-- pairs are ranked by their first numbers and then by their second ones
pub pair_rank : (p e q f : ℕ) → e < 4294967296 → f < 4294967296 → (r s : Ordering) → MatchOrdering r (p < q) (p ≡ q) (q < p) → MatchOrdering s (e < f) (e ≡ f) (f < e)
    → MatchOrdering (ordering_then r s) (p * 4294967296 + e < q * 4294967296 + f) (p * 4294967296 + e ≡ q * 4294967296 + f) (q * 4294967296 + f < p * 4294967296 + e)
pair_rank p e q f small small' Less s h k = omega arith
pair_rank p e q f small small' Greater s h k = omega arith
pair_rank p e q f small small' Equal Less h k = omega arith
pair_rank p e q f small small' Equal Equal h k = omega arith
pair_rank p e q f small small' Equal Greater h k = omega arith

-- the order of pairs is that of their keys
pub pair_order : (p e q f : ℕ) → e < 4294967296 → f < 4294967296 → ordering_then (nat_cmp p q) (nat_cmp e f) ≡ nat_cmp (p * 4294967296 + e) (q * 4294967296 + f)
pair_order p e q f small small' = nat_cmp_is _ _ _ (pair_rank p e q f small small' (nat_cmp p q) (nat_cmp e f) (ranked p q _ refl) (ranked e f _ refl))

-- equal keys are made of equal numbers
pub same_pair : (p e q f : ℕ) → e < 4294967296 → f < 4294967296 → p * 4294967296 + e ≡ q * 4294967296 + f → (p ≡ q) × (e ≡ f)
same_pair p e q f small small' h = (omega arith, omega arith)
