-- A constant and terms: the constant is formed first, and then the terms.
use Rattle.std.proofs.Common.{◌≡◌, ◌⊎◌, inl, inr, List, Result, Ok, Err, ap}
use Rattle.dcx_frac.specs.declared.fraction.Passes.{Passes}

-- what forming a constant and then terms answers
abbrev pub InTurn : {F C T : Type 0} → (F → C) → (F → List T) → (Result C Passes → Type 0) → (Result (List T) Passes → Type 0) → Result F Passes → Type 0
InTurn constant terms Constant Terms (Ok f) = Constant (Ok (constant f)) × Terms (Ok (terms f))
InTurn {F} {C} constant terms Constant Terms (Err passes) = Constant (Err passes) ⊎ (((c : C) × Constant (Ok c)) × Terms (Err passes))

module _ {F C T : Type 0} (constant : F → C) (terms : F → List T) (parts : (f g : F) → constant f ≡ constant g → terms f ≡ terms g → f ≡ g)
    (Constant : Result C Passes → Type 0) (Terms : Result (List T) Passes → Type 0)
    (one_constant : (r s : Result C Passes) → Constant r → Constant s → r ≡ s) (one_list : (r s : Result (List T) Passes) → Terms r → Terms s → r ≡ s) where
  -- where the constant and the terms have one answer each, both have one
  pub one_in_turn : (r s : Result F Passes) → InTurn constant terms Constant Terms r → InTurn constant terms Constant Terms s → r ≡ s
  one_in_turn (Ok f) (Ok g) h k =
      let e = one_constant (Ok (constant f)) (Ok (constant g)) h.0 k.0 in
      let d = one_list (Ok (terms f)) (Ok (terms g)) h.1 k.1 in
      ap Ok (parts f g (cc) (cc))
  one_in_turn (Ok f) (Err q) h (inl k) = let e = one_constant (Ok (constant f)) (Err q) h.0 k in cc
  one_in_turn (Ok f) (Err q) h (inr k) = let e = one_list (Ok (terms f)) (Err q) h.1 k.1 in cc
  one_in_turn (Err p) (Ok g) (inl h) k = let e = one_constant (Err p) (Ok (constant g)) h k.0 in cc
  one_in_turn (Err p) (Ok g) (inr h) k = let e = one_list (Err p) (Ok (terms g)) h.1 k.1 in cc
  one_in_turn (Err p) (Err q) (inl h) (inl k) = let e = one_constant (Err p) (Err q) h k in cc
  one_in_turn (Err p) (Err q) (inl h) (inr k) = let e = one_constant (Err p) (Ok k.0.0) h k.0.1 in cc
  one_in_turn (Err p) (Err q) (inr h) (inl k) = let e = one_constant (Ok h.0.0) (Err q) h.0.1 k in cc
  one_in_turn (Err p) (Err q) (inr h) (inr k) = let e = one_list (Err p) (Err q) h.1 k.1 in cc
