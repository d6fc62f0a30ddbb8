-- Affine numbers that list no entry: sums and changes of them list none.
use Rattle.std.proofs.Common.{◌≡◌, List, [], ◌∷◌, None, Ok, IsSome, refl, sym, subst}
use Rattle.std.specs.List.{All}
use Rattle.std.proofs.lemmas.List.Elements.{All-head}
use Rattle.dcx_frac.specs.declared.fraction.Frac.{Frac}
use Rattle.dcx_linear.specs.declared.change.Change.{Change}
use Rattle.dcx_linear.specs.declared.param_term.ParamTerm.{ParamTerm}
use Rattle.dcx_linear.specs.declared.param_form.ParamForm.{ParamForm}
use Rattle.dcx_linear.specs.Terms.{SumsAt, ChangesAt, FormsKeys, SumsTerms, ChangesTerms}
use Rattle.dcx_linear.specs.TermLaws.{each_formed}
use Rattle.dcx_linear.specs.ParamTerms.{key_of, has_zero, sum_gives_term, change_gives_term}
use Rattle.dcx_linear.specs.ParamForms.{told_number, number_of_form, sum_gives_form, change_gives_form}

no_terms : (x : Frac) (ts : List ParamTerm) → IsSome (told_number x ts) → ts ≡ []
no_terms x [] h = refl
no_terms x (t ∷ ts) h = cc

empty : (ts : List ParamTerm) → All (λ t. ⊥) ts → ts ≡ []
empty [] h = refl
empty (t ∷ ts) h = absurd (All-head (λ t. ⊥) t ts h)

is_number : (x : Frac) (ts : List ParamTerm) → ts ≡ [] → IsSome (told_number x ts)
is_number x ts e = subst (λ l. IsSome (told_number x l)) (sym e) refl

-- a sum of numbers is a number
pub sum_number : (a b c : ParamForm) → sum_gives_form a b (Ok c) → IsSome (number_of_form a) → IsSome (number_of_form b) → IsSome (number_of_form c)
sum_number a b c s h k = is_number c.constant c.terms (empty c.terms (each_formed key_of has_zero (λ j. SumsAt has_zero sum_gives_term None None) (λ t. ⊥) (λ j t q. cc) c.terms from))
  where
    from : FormsKeys key_of has_zero (λ j. SumsAt has_zero sum_gives_term None None) (Ok c.terms)
    from =
        subst (λ l. SumsTerms key_of has_zero sum_gives_term [] l (Ok c.terms)) (no_terms b.constant b.terms k)
        (subst (λ l. SumsTerms key_of has_zero sum_gives_term l b.terms (Ok c.terms)) (no_terms a.constant a.terms h) s.1.1)

-- a changed number is a number
pub change_number : (change : Change) (a c : ParamForm) → change_gives_form change a (Ok c) → IsSome (number_of_form a) → IsSome (number_of_form c)
change_number change a c s h = is_number c.constant c.terms (empty c.terms (each_formed key_of has_zero (λ j. ChangesAt has_zero (change_gives_term change) None) (λ t. ⊥) (λ j t q. cc) c.terms from))
  where
    from : FormsKeys key_of has_zero (λ j. ChangesAt has_zero (change_gives_term change) None) (Ok c.terms)
    from = subst (λ l. ChangesTerms key_of has_zero (change_gives_term change) l (Ok c.terms)) (no_terms a.constant a.terms h) s.1.1
