-- Affine numbers: a constant and coefficients at entries of parameters.
use Rattle.std.specs.Prelude.{◌≡◌, ℕ, List, [], ◌∷◌, Option, Some, None, Result, Ok, IsSome, pos, unwrap_or}
use Rattle.std.specs.List.{All}
use Rattle.dcx_math.specs.Rational.{ℚ, whole, ◌+ℚ◌}
use Rattle.dcx_math.specs.Sums.{rat_sum_by}
use Rattle.dcx_frac.specs.declared.fraction.Frac.{Frac}
use Rattle.dcx_frac.specs.declared.fraction.Passes.{Passes}
use Rattle.dcx_frac.specs.Frac.{value}
use Rattle.dcx_frac.specs.Results.{sum_of, product_of}
use Rattle.dcx_atom.specs.Formed.{zero_frac, and_then}
use Rattle.dcx_point.specs.Pairs.{Pairs}
use Rattle.dcx_linear.specs.declared.change.Change.{Change}
use Rattle.dcx_linear.specs.declared.param_term.ParamTerm.{ParamTerm}
use Rattle.dcx_linear.specs.declared.param_form.ParamForm.{ParamForm}
use Rattle.dcx_linear.specs.Affine.{InTurn}
use Rattle.dcx_linear.specs.Changes.{changed_frac}
use Rattle.dcx_linear.specs.Parameters.{Parameters, Names, IsNameOf, entry_of}
use Rattle.dcx_linear.specs.Terms.{SumsTerms, ChangesTerms}
use Rattle.dcx_linear.specs.ParamTerms.{key_of, has_zero, HoldsTerms, sum_gives_term, change_gives_term, term_value, IsNamed}

abbrev pub constant_of : ParamForm → Frac
constant_of f = f.constant

abbrev pub terms_of : ParamForm → List ParamTerm
terms_of f = f.terms

-- the number that it is: the constant, and each coefficient times its entry
abbrev pub form_value : ParamForm → Parameters → ℚ
form_value f p = value f.constant +ℚ rat_sum_by (term_value p) f.terms

-- the constant, where no entry is listed
abbrev pub told_number : Frac → List ParamTerm → Option Frac
told_number x [] = Some x
told_number x (t ∷ ts) = None

abbrev pub number_of_form : ParamForm → Option Frac
number_of_form f = told_number f.constant f.terms

-- a fraction, with no entry
abbrev pub form_of_number : Frac → ParamForm
form_of_number x = record { constant = x; terms = [] }

-- an entry of a parameter, times 1
pub record IsEntryForm (position : ℕ) (name : List ℕ) (entry : ℕ) (f : ParamForm) : Type 0 where
  pub one : Frac
  pub is_one : value one ≡ whole (pos 1)
  pub is : f ≡ record { constant = zero_frac; terms = record { position = position; name = name; entry = entry; coefficient = one } ∷ [] }

-- what adding two affine numbers answers: their constants, and then their coefficients, by rising entries
abbrev pub sum_gives_form : ParamForm → ParamForm → Result ParamForm Passes → Type 0
sum_gives_form f g r =
    (HoldsTerms f.terms × HoldsTerms g.terms)
    × InTurn constant_of terms_of (λ c. c ≡ sum_of f.constant g.constant) (SumsTerms key_of has_zero sum_gives_term f.terms g.terms) r

-- what multiplying or dividing an affine number answers: its constant, and then its coefficients, by rising entries
abbrev pub change_gives_form : Change → ParamForm → Result ParamForm Passes → Type 0
change_gives_form change f r =
    HoldsTerms f.terms × InTurn constant_of terms_of (λ c. c ≡ changed_frac change f.constant) (ChangesTerms key_of has_zero (change_gives_term change) f.terms) r

-- each entry is listed under the name that the list has at its parameter's position
abbrev pub IsNamedForm : Names → ParamForm → Type 0
IsNamedForm names f = All (IsNamed names) f.terms

-- ---- at a setting
-- the setting has each entry that is listed
abbrev pub IsListedBy : Pairs → ParamForm → Type 0
IsListedBy setting f = All (λ t. IsSome (entry_of setting t.name t.entry)) f.terms

-- the setting's entry for a term
abbrev pub entry_for : Pairs → ParamTerm → Frac
entry_for setting t = unwrap_or (entry_of setting t.name t.entry) zero_frac

-- x, and then each coefficient times its entry is added
abbrev pub plus_terms : Pairs → Frac → List ParamTerm → Result Frac Passes
plus_terms setting x [] = Ok x
plus_terms setting x (t ∷ ts) = and_then (product_of t.coefficient (entry_for setting t)) (λ y. and_then (sum_of x y) (λ z. plus_terms setting z ts))

-- the number at a setting, from the constant on by rising entries, or the first operation that passes
abbrev pub number_at : Pairs → ParamForm → Result Frac Passes
number_at setting f = plus_terms setting f.constant f.terms

-- the numbers that stand for the parameters' entries are the setting's
abbrev pub StandsFor : Names → Pairs → Parameters → Type 0
StandsFor names setting p = (position : ℕ) (name : List ℕ) (entry : ℕ) (x : Frac) → IsNameOf names position name → entry_of setting name entry ≡ Some x → p position entry ≡ value x
