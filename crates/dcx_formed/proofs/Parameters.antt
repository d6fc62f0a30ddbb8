-- What is so of the entries of parameters that affine numbers list, whatever their coefficients are, is so of sums, products and
-- quotients.
use Rattle.std.proofs.Common.{◌≡◌, Bool, true, false, if◌then◌else◌, Option, Some, None, Result, Ok, Err, refl, subst}
use Rattle.std.specs.List.{All}
use Rattle.dcx_frac.specs.declared.fraction.Frac.{Frac}
use Rattle.dcx_frac.specs.declared.fraction.Passes.{Passes}
use Rattle.dcx_frac.specs.Results.{sum_of}
use Rattle.dcx_linear.specs.declared.change.Change.{Change}
use Rattle.dcx_linear.specs.declared.param_term.ParamTerm.{ParamTerm}
use Rattle.dcx_linear.specs.declared.param_form.ParamForm.{ParamForm}
use Rattle.dcx_linear.specs.Changes.{changed_frac}
use Rattle.dcx_linear.specs.Terms.{term_at, SumsAt, ChangesAt}
use Rattle.dcx_linear.specs.TermLaws.{each_formed, term_at-All}
use Rattle.dcx_linear.specs.ParamTerms.{key_of, has_zero, with_coefficient, renewed, sum_gives_term, change_gives_term}
use Rattle.dcx_linear.specs.ParamForms.{sum_gives_form, change_gives_form}

module _ (T : ParamTerm → Type 0) (closed : (t : ParamTerm) (x : Frac) → T t → T (with_coefficient t x)) where
  renewed_keeps : (t w v : ParamTerm) (r : Result Frac Passes) → Ok w ≡ renewed t r → (b : Bool) → Some v ≡ (if b then None else Some w) → T t → T v
  renewed_keeps t w v r e true d h = cc
  renewed_keeps t w v (Ok x) e false d h = let s : with_coefficient t x ≡ v = cc in subst T s (closed t x h)
  renewed_keeps t w v (Err passes) e false d h = absurd cc

  sum_at : (x y : Option ParamTerm) (v : ParamTerm) → ((t : ParamTerm) → x ≡ Some t → T t) → ((t : ParamTerm) → y ≡ Some t → T t) → SumsAt has_zero sum_gives_term x y (Ok (Some v)) → T v
  sum_at None y v h k s = k v (cc)
  sum_at (Some t) None v h k s = h v (cc)
  sum_at (Some t) (Some u) v h k s = renewed_keeps t s.0 v (sum_of t.coefficient u.coefficient) s.1.1 (has_zero s.0) s.2 (h t refl)

  change_at : (change : Change) (x : Option ParamTerm) (v : ParamTerm) → ((t : ParamTerm) → x ≡ Some t → T t) → ChangesAt has_zero (change_gives_term change) x (Ok (Some v)) → T v
  change_at change None v h s = cc
  change_at change (Some t) v h s = renewed_keeps t s.0 v (changed_frac change t.coefficient) s.1 (has_zero s.0) s.2 (h t refl)

  pub sum_lists : (f g h : ParamForm) → sum_gives_form f g (Ok h) → All T f.terms → All T g.terms → All T h.terms
  sum_lists f g h s n m =
      each_formed key_of has_zero (λ k. SumsAt has_zero sum_gives_term (term_at key_of f.terms k) (term_at key_of g.terms k)) T
      (λ k v q. sum_at (term_at key_of f.terms k) (term_at key_of g.terms k) v (λ t e. term_at-All key_of T f.terms k t n e) (λ t e. term_at-All key_of T g.terms k t m e) q)
      h.terms s.1.1

  pub change_lists : (change : Change) (f h : ParamForm) → change_gives_form change f (Ok h) → All T f.terms → All T h.terms
  change_lists change f h s n =
      each_formed key_of has_zero (λ k. ChangesAt has_zero (change_gives_term change) (term_at key_of f.terms k)) T
      (λ k v q. change_at change (term_at key_of f.terms k) v (λ t e. term_at-All key_of T f.terms k t n e) q)
      h.terms s.1.1
