-- A coefficient for each unknown up to some number, 0 or not: the linear form that they are, and adding a term to it.
use Rattle.std.specs.Prelude.{◌≡◌, ◌≢◌, ℕ, suc, Bool, true, false, List, [], ◌∷◌, ◌++◌, Option, Some, Result, Ok, Err}
use Rattle.std.specs.Option.{option_to_list}
use Rattle.dcx_frac.specs.declared.fraction.Frac.{Frac}
use Rattle.dcx_frac.specs.declared.fraction.Passes.{Passes}
use Rattle.dcx_linear.specs.declared.form.FormTerm.{FormTerm}
use Rattle.dcx_linear.specs.declared.form.Form.{Form}
use Rattle.dcx_linear.specs.Terms.{kept, term_at, SumsAt}
use Rattle.dcx_linear.specs.FormTerms.{unknown_of, is_told_zero, has_zero_coefficient, sum_gives_unknown}

-- the term of an unknown with this coefficient, unless it is 0
abbrev pub kept_term : {C : Type 0} → (C → Option Frac) → ℕ → C → Option (FormTerm C)
kept_term {C} number_of unknown c = let t : FormTerm C = record { unknown = unknown; coefficient = c } in kept (has_zero_coefficient number_of) t

-- the terms of the unknowns from n on that have these coefficients, without those that are 0
abbrev pub listed_from : {C : Type 0} → (C → Option Frac) → ℕ → List C → List (FormTerm C)
listed_from number_of n [] = []
listed_from number_of n (c ∷ cs) = option_to_list (kept_term number_of n c) ++ listed_from number_of (suc n) cs

-- the form with this constant and these coefficients
abbrev pub accumulated : {C : Type 0} → (C → Option Frac) → C → List C → Form C
accumulated number_of constant cs = record { constant = constant; terms = listed_from number_of 0 cs }

-- what adding to a coefficient answers, by whether it is told to be 0: a sum with 0 forms nothing
abbrev pub sum_with_slot : {C : Type 0} → Bool → (C → C → Result C Passes → Type 0) → C → C → Result C Passes → Type 0
sum_with_slot true Sums slot c r = r ≡ Ok c
sum_with_slot false Sums slot c r = Sums slot c r

abbrev pub adds_to_slot : {C : Type 0} → (C → Option Frac) → (C → C → Result C Passes → Type 0) → C → C → Result C Passes → Type 0
adds_to_slot number_of Sums slot c r = sum_with_slot (is_told_zero (number_of slot)) Sums slot c r

-- what adding a term to a list of terms answers: it is added at its unknown, and all else stays
abbrev pub adds_term : {C : Type 0} → (C → Option Frac) → (C → C → Result C Passes → Type 0) → List (FormTerm C) → FormTerm C → Result (List (FormTerm C)) Passes → Type 0
adds_term number_of Sums ts t (Ok us) =
    SumsAt (has_zero_coefficient number_of) (sum_gives_unknown Sums) (term_at unknown_of ts t.unknown) (Some t) (Ok (term_at unknown_of us t.unknown))
    × ((k : ℕ) → k ≢ t.unknown → term_at unknown_of us k ≡ term_at unknown_of ts k)
adds_term number_of Sums ts t (Err passes) = SumsAt (has_zero_coefficient number_of) (sum_gives_unknown Sums) (term_at unknown_of ts t.unknown) (Some t) (Err passes)
