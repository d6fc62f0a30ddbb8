-- Facts of all coefficients of a form, which its operations keep.
use Rattle.std.proofs.Common.{◌≡◌, ℕ, Bool, true, false, if◌then◌else◌, List, Option, Some, None, Result, Ok, [], refl, sym, subst}
use Rattle.std.specs.List.{All}
use Rattle.std.proofs.lemmas.List.Elements.{All-nil, All-cons}
use Rattle.dcx_frac.specs.declared.fraction.Frac.{Frac}
use Rattle.dcx_frac.specs.declared.fraction.Passes.{Passes}
use Rattle.dcx_atom.specs.Formed.{zero_frac}
use Rattle.dcx_linear.specs.declared.change.Change.{Change}
use Rattle.dcx_linear.specs.declared.change.Change.TheVariants.{Scale}
use Rattle.dcx_linear.specs.declared.form.FormTerm.{FormTerm}
use Rattle.dcx_linear.specs.declared.form.Form.{Form}
use Rattle.dcx_linear.specs.Terms.{term_at, SumsAt, ChangesAt, ChangesTerms, Keeps}
use Rattle.dcx_linear.specs.TermLaws.{each_formed, term_at-All}
use Rattle.dcx_linear.specs.FormTerms.{unknown_of, has_zero_coefficient, sum_gives_unknown, change_gives_unknown}
use Rattle.dcx_linear.specs.Forms.{IsUnknownForm, sum_gives_linear, change_gives_linear}
use Rattle.dcx_linear.specs.Multiples.{times_unknown, multiple_gives}

module _ {C : Type 0} (number_of : C → Option Frac) (Q : C → Type 0) where
  abbrev z : FormTerm C → Bool
  z t = has_zero_coefficient number_of t

  abbrev T : FormTerm C → Type 0
  T t = Q t.coefficient

  -- the constant and the coefficients have the fact
  abbrev pub OfAll : Form C → Type 0
  OfAll f = Q f.constant × All (λ t. Q t.coefficient) f.terms

  kept_has : (Forms : Result (FormTerm C) Passes → Type 0) → ((v : FormTerm C) → Forms (Ok v) → T v) → (v : FormTerm C) → Keeps z Forms (Ok (Some v)) → T v
  kept_has Forms each v h = by (z h.0) h.2
    where
      by : (b : Bool) → Some v ≡ (if b then None else Some h.0) → T v
      by true e = cc
      by false e = let d : h.0 ≡ v = cc in subst T d (each h.0 h.1)

  sum_has : (Sums : C → C → Result C Passes → Type 0) (keeps : (a b c : C) → Sums a b (Ok c) → Q a → Q b → Q c) (x y : Option (FormTerm C)) (v : FormTerm C) → ((t : FormTerm C) → x ≡ Some t → T t)
      → ((t : FormTerm C) → y ≡ Some t → T t)
      → SumsAt z (sum_gives_unknown Sums) x y (Ok (Some v)) → T v
  sum_has Sums keeps None y v h k s = k v (cc)
  sum_has Sums keeps (Some t) None v h k s = h v (cc)
  sum_has Sums keeps (Some t) (Some u) v h k s = kept_has (sum_gives_unknown Sums t u) (λ w q. keeps t.coefficient u.coefficient w.coefficient q.1.1 (h t refl) (k u refl)) v s

  -- a sum has a fact that sums of coefficients keep
  pub sum_keeps : (Sums : C → C → Result C Passes → Type 0) → ((a b c : C) → Sums a b (Ok c) → Q a → Q b → Q c) → (f g h : Form C) → sum_gives_linear number_of Sums f g (Ok h) → OfAll f → OfAll g
      → OfAll h
  sum_keeps Sums keeps f g h s a b = (
    keeps f.constant g.constant h.constant s.1.0 a.0 b.0,
    each_formed unknown_of z (λ k. SumsAt z (sum_gives_unknown Sums) (term_at unknown_of f.terms k) (term_at unknown_of g.terms k)) T
        (λ k v q. sum_has Sums keeps (term_at unknown_of f.terms k) (term_at unknown_of g.terms k) v (λ t e. term_at-All unknown_of T f.terms k t a.1 e)
        (λ t e. term_at-All unknown_of T g.terms k t b.1 e) q)
        h.terms s.1.1,
  )

  change_has : (Changes : FormTerm C → Result (FormTerm C) Passes → Type 0) (keeps : (t v : FormTerm C) → Changes t (Ok v) → T t → T v) (x : Option (FormTerm C)) (v : FormTerm C)
      → ((t : FormTerm C) → x ≡ Some t → T t)
      → ChangesAt z Changes x (Ok (Some v)) → T v
  change_has Changes keeps None v h s = cc
  change_has Changes keeps (Some t) v h s = kept_has (Changes t) (λ w q. keeps t w q (h t refl)) v s

  terms_keep : (Changes : FormTerm C → Result (FormTerm C) Passes → Type 0) (keeps : (t v : FormTerm C) → Changes t (Ok v) → T t → T v) (ts us : List (FormTerm C))
      → ChangesTerms unknown_of z Changes ts (Ok us) → All T ts → All T us
  terms_keep Changes keeps ts us s a =
      each_formed unknown_of z (λ k. ChangesAt z Changes (term_at unknown_of ts k)) T
      (λ k v q. change_has Changes keeps (term_at unknown_of ts k) v (λ t e. term_at-All unknown_of T ts k t a e) q) us s

  -- a changed form has a fact that changes of coefficients keep
  pub change_keeps : (Changes : Change → C → Result C Passes → Type 0) → ((change : Change) (a c : C) → Changes change a (Ok c) → Q a → Q c) → (change : Change) (f h : Form C)
      → change_gives_linear number_of Changes change f (Ok h) → OfAll f → OfAll h
  change_keeps Changes keeps change f h s a =
      (keeps change f.constant h.constant s.1.0 a.0, terms_keep (change_gives_unknown Changes change) (λ t v q b. keeps change t.coefficient v.coefficient q.1 b) f.terms h.terms s.1.1 a.1)

  change_gets : (Changes : FormTerm C → Result (FormTerm C) Passes → Type 0) (gets : (t v : FormTerm C) → Changes t (Ok v) → T v) (x : Option (FormTerm C)) (v : FormTerm C)
      → ChangesAt z Changes x (Ok (Some v)) → T v
  change_gets Changes gets None v s = cc
  change_gets Changes gets (Some t) v s = kept_has (Changes t) (λ w q. gets t w q) v s

  -- a multiple has the facts of the coefficient that changes keep
  pub multiple_keeps : (Changes : Change → C → Result C Passes → Type 0) → ((change : Change) (a c : C) → Changes change a (Ok c) → Q a → Q c) → (c : C) (f h : Form C)
      → multiple_gives number_of Changes c f (Ok h) → Q c → OfAll h
  multiple_keeps Changes keeps c f h s a = (
    keeps (Scale s.1.0.0) c h.constant s.1.0.2 a,
    each_formed unknown_of z (λ k. ChangesAt z (times_unknown number_of Changes c) (term_at unknown_of f.terms k)) T
        (λ k v q. change_gets (times_unknown number_of Changes c) (λ t w r. keeps (Scale r.1.0) c w.coefficient r.1.2 a) (term_at unknown_of f.terms k) v q) h.terms s.1.1,
  )

  -- an unknown has the facts of numbers
  pub unknown_has : (of_number : Frac → C) → ((x : Frac) → Q (of_number x)) → {unknown : ℕ} (f : Form C) → IsUnknownForm of_number unknown f → OfAll f
  unknown_has of_number numbers f h = subst OfAll (sym h.is) (numbers zero_frac, All-cons T _ [] (numbers h.one) (All-nil T))
