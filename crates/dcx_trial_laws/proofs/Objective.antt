-- The grade of a trial's objective.
use Rattle.std.proofs.Common.{◌≡◌, ℕ, codes, List, [], ◌∷◌, Some, None, refl, ap, subst, sym, ◌∙◌}
use Rattle.std.specs.Map.{lookup}
use Rattle.dcx_shape.specs.declared.place.Place.{Place}
use Rattle.dcx_atom.specs.declared.array.Array.{Array}
use Rattle.dcx_point.specs.Pairs.{same_name}
use Rattle.dcx_atom.specs.declared.flags.Bend.TheVariants.{Convex}
use Rattle.dcx_call.specs.declared.atoms.AtomCall.{AtomCall}
use Rattle.dcx_call.specs.declared.call.Call.TheVariants as calls
use Rattle.dcx_call.specs.Atoms.{atom_meaning}
use Rattle.dcx_script_values.specs.Operands.{as_expression}
use Rattle.dcx_syntax.specs.declared.tree.Module.TheVariants.{Cvxpy}
use Rattle.dcx_syntax.specs.declared.tree.Sign.TheVariants.{Plus, Minus}
use Rattle.dcx_syntax.specs.declared.tree.Scaling.TheVariants.{Times}
use Rattle.dcx_syntax.specs.Expressions.{Expr, no_comparison, Sum, sum, Added, no_addition, added, Term, term, no_scaling, scaled, Postfix}
use Rattle.dcx_script_values.specs.Values.{Value, plain, expression, State, Act, and_then, ◌>>=◌}
use Rattle.dcx_script_values.specs.Nodes.{standing, constant, called}
use Rattle.dcx_script_values.specs.Kinds.{operand}
use Rattle.dcx_signature.specs.declared.table.Function.{Function}
use Rattle.dcx_signature.specs.declared.table.Function.TheVariants as functions
use Rattle.dcx_signature.specs.Table.{row, function_named}
use Rattle.dcx_signature.specs.Arguments.{matched, bound_of}
use Rattle.dcx_functions.specs.Calls.{perform}
use Rattle.dcx_operators.specs.Operators.{both, operands_added, operands_scaled, add_values, scale_values}
use Rattle.dcx_elab.specs.Expressions.{expr_means, compared_means, sum_means, added_means, term_means, scaled_means, factor_means, postfix_means}
use Rattle.dcx_script_laws.proofs.CarriedCalls.{add_values-moves}
use Rattle.dcx_script_laws.proofs.CarriedForms.{term-moves, factor-moves}
use Rattle.dcx_trial_laws.specs.Tree.{place_at, name_of, factor_of, term_of, called_at, expr_of, one_arg, residuals, objective}
use Rattle.dcx_trial_laws.proofs.Acts.{Gives, ok-gives, then-gives}
use Rattle.dcx_trial_laws.proofs.Calls.{given_of, one_call-gives, factor_of-gives, term_of-gives, expr_of-gives, name-gives}
use Rattle.dcx_trial_laws.proofs.Grades.{IsNumber, IsAffine, IsCup, IsWeight, IsEnd, number-kept, affine-kept, cup-kept, weight-kept, end-kept, plus}
use Rattle.dcx_trial_laws.proofs.Grades.{constant-number, minus-number, plus-number, plus-affine, times-affine, atom-affine, times-weight, plus-end}
use Rattle.dcx_trial_laws.proofs.Later.{Later, later-from, later_is_carried}
use Rattle.dcx_trial_laws.proofs.Graded.{Knows, knows-later, broadcast-gives, subtracted-gives, called-gives, Graded, expression-gives, of-graded, multiplied-gives}
use Rattle.dcx_trial_laws.proofs.Declared.{arrays, AreNames, After, after-gives}

-- ---- a name that is bound, and what is made of it
IsAt : Value → State → Value → State → Type 0
IsAt v s w t = (w ≡ v) × (t ≡ s)

named-then : (Q : Value → State → Type 0) (name : List ℕ) (line column : ℕ) (v : Value) (s : State) (f : Value → Act Value) → lookup (same_name name) s.names ≡ Some v → Gives Q (f v s)
    → Gives Q (and_then (factor_means (factor_of (name_of name line column)) s) f)
unfolding IsAt
named-then Q name line column v s f bound h =
    then-gives (IsAt v s) Q (factor_means (factor_of (name_of name line column)) s) f
    (factor_of-gives (IsAt v s) (name_of name line column) s (name-gives (IsAt v s) name line column v s bound (refl, refl)))
    (λ w t e. subst (λ y. Gives Q (f y t)) (sym e.0) (subst (λ z. Gives Q (f v z)) (sym e.1) h))

named_term-then : (Q : Value → State → Type 0) (name : List ℕ) (line column : ℕ) (v : Value) (s : State) (f : Value → Act Value) → lookup (same_name name) s.names ≡ Some v
    → Gives Q (f v s) → Gives Q (and_then (term_means (term_of (name_of name line column)) s) f)
unfolding IsAt
named_term-then Q name line column v s f bound h =
    then-gives (IsAt v s) Q (term_means (term_of (name_of name line column)) s) f
    (term_of-gives (IsAt v s) (name_of name line column) s (name-gives (IsAt v s) name line column v s bound (refl, refl)))
    (λ w t e. subst (λ y. Gives Q (f y t)) (sym e.0) (subst (λ z. Gives Q (f v z)) (sym e.1) h))

-- ---- the objective
-- a convex atom of what is affine
atom-gives : (m : AtomCall) → (atom_meaning m).bend ≡ Convex → (place : Place) (n : ℕ) (s : State) → Knows IsAffine s n
    → Gives (Graded IsCup) (as_expression (called place (calls.Atom m) (standing n ∷ [])) s)
atom-gives m own place n s known =
    expression-gives IsCup (called place (calls.Atom m) (standing n ∷ [])) s (called-gives IsAffine IsCup (calls.Atom m) place n s (atom-affine m own) known)

module _ (a b : Array) (i j k : ℕ) where
  abbrev Here : State → Type 0
  Here s = AreNames a b i j k s

  pub here-later : (s t : State) → Later s t → Here s → Here t
  here-later s t l h = record {
    names = l.0 ∙ h.names;
    slope = knows-later IsAffine s t i l h.slope;
    offset = knows-later IsAffine s t j l h.offset;
    weight = knows-later IsWeight s t k l h.weight;
  }

  pub found : (name : List ℕ) (s : State) → Here s
      → lookup (same_name name) s.names ≡ lookup (same_name name) (arrays a b ((codes "s", expression i) ∷ (codes "a", expression j) ∷ (codes "q", expression k) ∷ []))
  found name s h = ap (lookup (same_name name)) h.names

  -- `s*t`
  abbrev scaled_slope : Term
  scaled_slope = term (factor_of (name_of (codes "s") 8 40)) (scaled Times (place_at 8 41) (factor_of (name_of (codes "t") 8 42)) no_scaling)

  slope-gives : (s : State) → Here s → Gives (Graded IsAffine) (term_means scaled_slope s)
  slope-gives s h =
      named-then (Graded IsAffine) (codes "s") 8 40 (expression i) s (scaled_means (scaled Times p (factor_of (name_of (codes "t") 8 42)) no_scaling)) (found (codes "s") s h)
      (named-then (Graded IsAffine) (codes "t") 8 42 (plain a) s (λ w. scale_values Times p (expression i) w >>= λ u. scaled_means no_scaling u) (found (codes "t") s h)
      (then-gives (Graded IsAffine) (Graded IsAffine) (scale_values Times p (expression i) (plain a) s) (λ u. scaled_means no_scaling u)
      (expression-gives IsAffine (both p (operands_scaled Times p) (operand (standing i)) (operand (constant a))) s
      (multiplied-gives IsAffine IsNumber IsAffine affine-kept number-kept p (standing i) (constant a) s times-affine h.slope (constant-number a)))
      (λ v t g. ok-gives (Graded IsAffine) v t g)))
    where
      p : Place
      p = place_at 8 41

  -- `s*t + a - b`
  abbrev less_heights : Added
  less_heights = added Minus (place_at 8 48) (term_of (name_of (codes "b") 8 50)) no_addition

  less-gives : (s : State) (n : ℕ) → Here s → Knows IsAffine s n → Gives (Graded IsAffine) (added_means less_heights (expression n) s)
  less-gives s n h known =
      named_term-then (Graded IsAffine) (codes "b") 8 50 (plain b) s (λ w. add_values Minus p (expression n) w >>= λ u. added_means no_addition u) (found (codes "b") s h)
      (then-gives (Graded IsAffine) (Graded IsAffine) (add_values Minus p (expression n) (plain b) s) (λ u. added_means no_addition u)
      (expression-gives IsAffine (both p (operands_added Minus p) (operand (standing n)) (operand (constant b))) s
      (subtracted-gives IsAffine IsNumber IsNumber IsAffine affine-kept number-kept p (standing n) (constant b) s minus-number plus-number known (constant-number b)))
      (λ v t g. ok-gives (Graded IsAffine) v t g))
    where
      p : Place
      p = place_at 8 48

  offset-gives : (s : State) (n : ℕ) → Here s → Knows IsAffine s n
      → Gives (Graded IsAffine) (added_means (added Plus (place_at 8 44) (term_of (name_of (codes "a") 8 46)) less_heights) (expression n) s)
  offset-gives s n h known =
      named_term-then (Graded IsAffine) (codes "a") 8 46 (expression j) s (λ w. add_values Plus p (expression n) w >>= λ u. added_means less_heights u) (found (codes "a") s h)
      (then-gives (After (Graded IsAffine) s) (Graded IsAffine) (add_values Plus p (expression n) (expression j) s) (λ u. added_means less_heights u)
      (after-gives (Graded IsAffine) s (add_values Plus p (expression n) (expression j) s)
      (expression-gives IsAffine (both p (operands_added Plus p) (operand (standing n)) (operand (standing j))) s
      (broadcast-gives IsAffine IsAffine IsAffine affine-kept affine-kept plus p (standing n) (standing j) s plus-affine known h.offset))
      (add_values-moves Later later_is_carried Plus p (expression n) (expression j) s s (later-from s)))
      (λ v t g. of-graded IsAffine (Graded IsAffine) v (λ u. added_means less_heights u) t g.0 (λ m more. less-gives t m (here-later s t g.1 h) more)))
    where
      p : Place
      p = place_at 8 44

  abbrev residual_sum : Sum
  residual_sum = sum scaled_slope (added Plus (place_at 8 44) (term_of (name_of (codes "a") 8 46)) less_heights)

  residuals-give : (s : State) → Here s → Gives (Graded IsAffine) (expr_means residuals s)
  residuals-give s h =
      then-gives (Graded IsAffine) (Graded IsAffine) (sum_means residual_sum s) (λ v. compared_means no_comparison v)
      (then-gives (After (Graded IsAffine) s) (Graded IsAffine) (term_means scaled_slope s) (λ v. added_means (added Plus (place_at 8 44) (term_of (name_of (codes "a") 8 46)) less_heights) v)
      (after-gives (Graded IsAffine) s (term_means scaled_slope s) (slope-gives s h) (term-moves Later later_is_carried scaled_slope s s (later-from s)))
      (λ v t g. of-graded IsAffine (Graded IsAffine) v (λ v. added_means (added Plus (place_at 8 44) (term_of (name_of (codes "a") 8 46)) less_heights) v) t g.0
      (λ n known. offset-gives t n (here-later s t g.1 h) known)))
      (λ v t g. ok-gives (Graded IsAffine) v t g)

  -- `cp.f(x)` of what is affine, where f is a convex atom
  cup-gives : (f : List ℕ) (column bracket : ℕ) (x : Expr) (call : Function) (s : State) → Here s → function_named Cvxpy f ≡ Some call → Gives (Graded IsAffine) (expr_means x s)
      → ((n : ℕ) (t : State) → Knows IsAffine t n
      → Gives (Graded IsCup) (perform None call (place_at 8 column) (bound_of (matched (row call) (given_of x (expression n) ∷ []))) t))
      → Gives (Graded IsCup) (postfix_means None (called_at (codes "cp") f 8 column bracket (one_arg x)) s)
  cup-gives f column bracket x call s h named given performed =
      one_call-gives (Graded IsAffine) (Graded IsCup) None (codes "cp") f 8 column bracket x s Cvxpy call (found (codes "cp") s h) named given
      (λ v t g. of-graded IsAffine (Graded IsCup) v (λ w. perform None call (place_at 8 column) (bound_of (matched (row call) (given_of x w ∷ [])))) t g (λ n known. performed n t known))

  -- `cp.norm1(..)`
  abbrev norm_call : Postfix
  norm_call = called_at (codes "cp") (codes "norm1") 8 31 39 (one_arg residuals)

  norm_performed : (place : Place) (n : ℕ) (s : State) → Knows IsAffine s n
      → Gives (Graded IsCup) (perform None functions.Norm1 place (bound_of (matched (row functions.Norm1) (given_of residuals (expression n) ∷ []))) s)
  norm_performed place n s known = search (atom-gives, known)

  norm-gives : (s : State) → Here s → Gives (Graded IsCup) (postfix_means None norm_call s)
  norm-gives s h = cup-gives (codes "norm1") 31 39 residuals functions.Norm1 s h refl (residuals-give s h) (norm_performed (place_at 8 31))

  -- `cp.abs(s)`
  abbrev abs_argument : Expr
  abs_argument = expr_of (name_of (codes "s") 8 64)

  abbrev abs_call : Postfix
  abs_call = called_at (codes "cp") (codes "abs") 8 57 63 (one_arg abs_argument)

  abs_performed : (place : Place) (n : ℕ) (s : State) → Knows IsAffine s n
      → Gives (Graded IsCup) (perform None functions.Abs place (bound_of (matched (row functions.Abs) (given_of abs_argument (expression n) ∷ []))) s)
  abs_performed place n s known = search (atom-gives, known)

  abs-gives : (s : State) → Here s → Gives (Graded IsCup) (postfix_means None abs_call s)
  abs-gives s h =
      cup-gives (codes "abs") 57 63 abs_argument functions.Abs s h refl
      (expr_of-gives (Graded IsAffine) (name_of (codes "s") 8 64) s
      (name-gives (Graded IsAffine) (codes "s") 8 64 (expression i) s (found (codes "s") s h) (record { node = i; same = refl; knows = h.slope })))
      (abs_performed (place_at 8 57))

  -- `q*cp.abs(s)`
  abbrev weighted : Term
  weighted = term (factor_of (name_of (codes "q") 8 55)) (scaled Times (place_at 8 56) (factor_of abs_call) no_scaling)

  weighted-gives : (s : State) → Here s → Gives (Graded IsEnd) (term_means weighted s)
  weighted-gives s h =
      named-then (Graded IsEnd) (codes "q") 8 55 (expression k) s (scaled_means (scaled Times p (factor_of abs_call) no_scaling)) (found (codes "q") s h)
      (then-gives (After (Graded IsCup) s) (Graded IsEnd) (factor_means (factor_of abs_call) s) (λ w. scale_values Times p (expression k) w >>= λ u. scaled_means no_scaling u)
      (after-gives (Graded IsCup) s (factor_means (factor_of abs_call) s) (factor_of-gives (Graded IsCup) abs_call s (abs-gives s h))
      (factor-moves Later later_is_carried (factor_of abs_call) s s (later-from s)))
      (λ v t g. of-graded IsCup (Graded IsEnd) v (λ w. scale_values Times p (expression k) w >>= λ u. scaled_means no_scaling u) t g.0 (λ n known.
      then-gives (Graded IsEnd) (Graded IsEnd) (scale_values Times p (expression k) (expression n) t) (λ u. scaled_means no_scaling u)
      (expression-gives IsEnd (both p (operands_scaled Times p) (operand (standing k)) (operand (standing n))) t
      (multiplied-gives IsWeight IsCup IsEnd weight-kept cup-kept p (standing k) (standing n) t times-weight (knows-later IsWeight s t k g.1 h.weight) known))
      (λ w u e. ok-gives (Graded IsEnd) w u e))))
    where
      p : Place
      p = place_at 8 56

  -- `cp.norm1(..) + q*cp.abs(s)`
  pub objective-gives : (s : State) → Here s → Gives (Graded IsEnd) (expr_means objective s)
  objective-gives s h =
      then-gives (Graded IsEnd) (Graded IsEnd) (sum_means (sum (term_of norm_call) (added Plus p weighted no_addition)) s) (λ v. compared_means no_comparison v)
      (then-gives (After (Graded IsCup) s) (Graded IsEnd) (term_means (term_of norm_call) s) (λ v. added_means (added Plus p weighted no_addition) v)
      (after-gives (Graded IsCup) s (term_means (term_of norm_call) s) (term_of-gives (Graded IsCup) norm_call s (norm-gives s h))
      (term-moves Later later_is_carried (term_of norm_call) s s (later-from s)))
      (λ v t g. of-graded IsCup (Graded IsEnd) v (λ v. added_means (added Plus p weighted no_addition) v) t g.0 (λ n known. both_terms t n (here-later s t g.1 h) known)))
      (λ v t g. ok-gives (Graded IsEnd) v t g)
    where
      p : Place
      p = place_at 8 53

      both_terms : (t : State) (n : ℕ) → Here t → Knows IsCup t n → Gives (Graded IsEnd) (added_means (added Plus p weighted no_addition) (expression n) t)
      both_terms t n here known =
          then-gives (After (Graded IsEnd) t) (Graded IsEnd) (term_means weighted t) (λ w. add_values Plus p (expression n) w >>= λ u. added_means no_addition u)
          (after-gives (Graded IsEnd) t (term_means weighted t) (weighted-gives t here) (term-moves Later later_is_carried weighted t t (later-from t)))
          (λ w u g. of-graded IsEnd (Graded IsEnd) w (λ w. add_values Plus p (expression n) w >>= λ u. added_means no_addition u) u g.0 (λ m more.
          then-gives (Graded IsEnd) (Graded IsEnd) (add_values Plus p (expression n) (expression m) u) (λ u. added_means no_addition u)
          (expression-gives IsEnd (both p (operands_added Plus p) (operand (standing n)) (operand (standing m))) u
          (broadcast-gives IsCup IsEnd IsEnd cup-kept end-kept plus p (standing n) (standing m) u plus-end (knows-later IsCup t u n g.1 known) more))
          (λ x y e. ok-gives (Graded IsEnd) x y e)))
