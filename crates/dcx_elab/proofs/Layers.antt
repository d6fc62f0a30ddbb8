-- The layers of an expression: how each is seen, what a fault in a part of it comes to, and what is to be done after the value of a part.
use Rattle.std.proofs.Common.{◌≡◌, ℕ, ◌+◌, ◌<◌, ◌≤◌, List, map, drop, length, get_or, None, Result, Ok, Err, sym, ap, subst, ◌∙◌}
use Rattle.std.proofs.lemmas.List.{at_drop_more, at_drop_all}
use Rattle.dcx_syntax.specs.declared.tree.Signed.{Signed}
use Rattle.dcx_syntax.specs.declared.tree.Added as code_added
use Rattle.dcx_syntax.specs.declared.tree.Compared as code_compared
use Rattle.dcx_syntax.specs.declared.tree.Expr as code_expr
use Rattle.dcx_syntax.specs.declared.tree.Factor as code_factor
use Rattle.dcx_syntax.specs.declared.tree.Power as code_power
use Rattle.dcx_syntax.specs.declared.tree.Raised as code_raised
use Rattle.dcx_syntax.specs.declared.tree.Scaled as code_scaled
use Rattle.dcx_syntax.specs.declared.tree.Sum as code_sum
use Rattle.dcx_syntax.specs.declared.tree.Term as code_term
use Rattle.dcx_syntax.specs.Expressions.{Expr, expr, Compared, no_comparison, compared, Sum, sum, Added, no_addition, added, Term, term, Scaled, no_scaling}
use Rattle.dcx_syntax.specs.Expressions.{scaled, Factor, factor, Power, power_of, Raised, no_power, raised, exponent, Postfix, Trailers, Primary, Arg, Index, Step}
use Rattle.dcx_syntax.specs.View.{chained, compared_view, added_view, scaled_view, raised_view, expr_view, sum_view, term_view, factor_view, power_view}
use Rattle.dcx_syntax.specs.View.{postfix_view, arg_layer, index_layer, primary_layer, step_layer, trailer_layer, added_layer, compared_layer}
use Rattle.dcx_syntax.specs.View.{expr_layer, factor_layer, postfix_layer, power_layer, raised_layer, scaled_layer, sum_layer, term_layer}
use Rattle.dcx_script_values.specs.declared.fault.ElabFault.{ElabFault}
use Rattle.dcx_script_values.specs.declared.fault.ElabFault.TheVariants.{NotOffered}
use Rattle.dcx_script_values.specs.declared.value.Value as code_value
use Rattle.dcx_script_values.specs.Values.{Value, State, Act, and_then, ◌>>=◌}
use Rattle.dcx_script_values.specs.Meant.{meant}
use Rattle.dcx_script_values.specs.View.{Fails, Gives}
use Rattle.dcx_script_values.proofs.Acts.{Fails-then, Fails-same, then_is}
use Rattle.dcx_operators.specs.Operators.{add_values, scale_values, compare_values}
use Rattle.dcx_elab.specs.Expressions.{signed, expr_means, compared_means, chained_means, sum_means, added_means, term_means, scaled_means, factor_means, power_means, raised_means, postfix_means}
use Rattle.dcx_elab.specs.View.{compared_from}

-- ---- one part after the other
pub part-fault : {A B : Type 0} (whole : Act B) (m : Act A) (f : A → Act B) (e : ElabFault) (s : State) → whole ≡ (m >>= f) → Fails e (m s) → Fails e (whole s)
part-fault whole m f e s is h = Fails-same e (and_then (m s) f) (whole s) (ap (λ n. n s) is) (Fails-then e (m s) f h)

pub part-is : {A B : Type 0} (whole : Act B) (m : Act A) (f : A → Act B) (v : A) (s t : State) → whole ≡ (m >>= f) → m s ≡ Ok (v, t) → whole s ≡ f v t
part-is whole m f v s t is h = ap (λ n. n s) is ∙ then_is (m s) f v t h

-- ---- how each layer is seen
pub expr-seen : (x : code_expr.Expr) → expr_view x ≡ expr (sum_view (code_expr.out-Expr x).first) (chained (map compared_view (code_expr.out-Expr x).rest.items) no_comparison)
expr-seen x =
    sym (ap expr_view (code_expr.roll-out-Expr x))
    ∙ code_expr.fold-roll-Expr Arg Index Primary Step (Trailers → Trailers) (Added → Added) (Compared → Compared) Expr Factor Postfix Power (Raised → Raised) (Scaled → Scaled) Sum Term
    arg_layer index_layer primary_layer step_layer trailer_layer added_layer compared_layer expr_layer factor_layer postfix_layer power_layer raised_layer scaled_layer
    sum_layer term_layer (code_expr.out-Expr x)

pub compared-seen : (x : code_compared.Compared)
    → compared_view x ≡ (λ r. compared (code_compared.out-Compared x).comparison (code_compared.out-Compared x).place (sum_view (code_compared.out-Compared x).sum) r)
compared-seen x =
    sym (ap compared_view (code_compared.roll-out-Compared x))
    ∙ code_compared.fold-roll-Compared Arg Index Primary Step (Trailers → Trailers) (Added → Added) (Compared → Compared) Expr Factor Postfix Power (Raised → Raised) (Scaled → Scaled) Sum Term
    arg_layer index_layer primary_layer step_layer trailer_layer added_layer compared_layer expr_layer factor_layer postfix_layer power_layer raised_layer scaled_layer
    sum_layer term_layer (code_compared.out-Compared x)

pub sum-seen : (x : code_sum.Sum) → sum_view x ≡ sum (term_view (code_sum.out-Sum x).first) (chained (map added_view (code_sum.out-Sum x).rest.items) no_addition)
sum-seen x =
    sym (ap sum_view (code_sum.roll-out-Sum x))
    ∙ code_sum.fold-roll-Sum Arg Index Primary Step (Trailers → Trailers) (Added → Added) (Compared → Compared) Expr Factor Postfix Power (Raised → Raised) (Scaled → Scaled) Sum Term
    arg_layer index_layer primary_layer step_layer trailer_layer added_layer compared_layer expr_layer factor_layer postfix_layer power_layer raised_layer scaled_layer
    sum_layer term_layer (code_sum.out-Sum x)

pub added-seen : (x : code_added.Added) → added_view x ≡ (λ r. added (code_added.out-Added x).sign (code_added.out-Added x).place (term_view (code_added.out-Added x).term) r)
added-seen x =
    sym (ap added_view (code_added.roll-out-Added x))
    ∙ code_added.fold-roll-Added Arg Index Primary Step (Trailers → Trailers) (Added → Added) (Compared → Compared) Expr Factor Postfix Power (Raised → Raised) (Scaled → Scaled) Sum Term
    arg_layer index_layer primary_layer step_layer trailer_layer added_layer compared_layer expr_layer factor_layer postfix_layer power_layer raised_layer scaled_layer
    sum_layer term_layer (code_added.out-Added x)

pub term-seen : (x : code_term.Term) → term_view x ≡ term (factor_view (code_term.out-Term x).first) (chained (map scaled_view (code_term.out-Term x).rest.items) no_scaling)
term-seen x =
    sym (ap term_view (code_term.roll-out-Term x))
    ∙ code_term.fold-roll-Term Arg Index Primary Step (Trailers → Trailers) (Added → Added) (Compared → Compared) Expr Factor Postfix Power (Raised → Raised) (Scaled → Scaled) Sum Term
    arg_layer index_layer primary_layer step_layer trailer_layer added_layer compared_layer expr_layer factor_layer postfix_layer power_layer raised_layer scaled_layer
    sum_layer term_layer (code_term.out-Term x)

pub scaled-seen : (x : code_scaled.Scaled) → scaled_view x ≡ (λ r. scaled (code_scaled.out-Scaled x).scaling (code_scaled.out-Scaled x).place (factor_view (code_scaled.out-Scaled x).factor) r)
scaled-seen x =
    sym (ap scaled_view (code_scaled.roll-out-Scaled x))
    ∙ code_scaled.fold-roll-Scaled Arg Index Primary Step (Trailers → Trailers) (Added → Added) (Compared → Compared) Expr Factor Postfix Power (Raised → Raised) (Scaled → Scaled) Sum Term
    arg_layer index_layer primary_layer step_layer trailer_layer added_layer compared_layer expr_layer factor_layer postfix_layer power_layer raised_layer scaled_layer
    sum_layer term_layer (code_scaled.out-Scaled x)

pub factor-seen : (x : code_factor.Factor) → factor_view x ≡ factor (code_factor.out-Factor x).signs.items (power_view (code_factor.out-Factor x).power)
factor-seen x =
    sym (ap factor_view (code_factor.roll-out-Factor x))
    ∙ code_factor.fold-roll-Factor Arg Index Primary Step (Trailers → Trailers) (Added → Added) (Compared → Compared) Expr Factor Postfix Power (Raised → Raised) (Scaled → Scaled) Sum Term
    arg_layer index_layer primary_layer step_layer trailer_layer added_layer compared_layer expr_layer factor_layer postfix_layer power_layer raised_layer scaled_layer
    sum_layer term_layer (code_factor.out-Factor x)

pub power-seen : (x : code_power.Power) → power_view x ≡ power_of (postfix_view (code_power.out-Power x).first) (chained (map raised_view (code_power.out-Power x).rest.items) no_power)
power-seen x =
    sym (ap power_view (code_power.roll-out-Power x))
    ∙ code_power.fold-roll-Power Arg Index Primary Step (Trailers → Trailers) (Added → Added) (Compared → Compared) Expr Factor Postfix Power (Raised → Raised) (Scaled → Scaled) Sum Term
    arg_layer index_layer primary_layer step_layer trailer_layer added_layer compared_layer expr_layer factor_layer postfix_layer power_layer raised_layer scaled_layer
    sum_layer term_layer (code_power.out-Power x)

pub raised-seen : (x : code_raised.Raised) → raised_view x ≡ (λ r. raised x.place (exponent x.signs.items (postfix_view x.postfix)) r)
raised-seen x =
    sym (ap raised_view (code_raised.roll-out-Raised x))
    ∙ code_raised.fold-roll-Raised Arg Index Primary Step (Trailers → Trailers) (Added → Added) (Compared → Compared) Expr Factor Postfix Power (Raised → Raised) (Scaled → Scaled) Sum Term
    arg_layer index_layer primary_layer step_layer trailer_layer added_layer compared_layer expr_layer factor_layer postfix_layer power_layer raised_layer scaled_layer
    sum_layer term_layer (code_raised.out-Raised x)

-- ---- the first part of a layer, and what is behind it
expr-parts : (x : code_expr.Expr) → expr_means (expr_view x) ≡ (sum_means (sum_view (code_expr.out-Expr x).first) >>= λ v. compared_means (compared_from (code_expr.out-Expr x).rest.items 0) v)
expr-parts x = ap expr_means (expr-seen x)

pub expr-fault : (x : code_expr.Expr) (e : ElabFault) (s : State) → Fails e (sum_means (sum_view (code_expr.out-Expr x).first) s) → Fails e (expr_means (expr_view x) s)
expr-fault x e s h = part-fault (expr_means (expr_view x)) (sum_means (sum_view (code_expr.out-Expr x).first))
    (λ v. compared_means (compared_from (code_expr.out-Expr x).rest.items 0) v) e s (expr-parts x) h

pub expr-gives : (x : code_expr.Expr) (rest : List code_compared.Compared) (v : Value) (s t u : State) (r : Result code_value.Value ElabFault)
    → rest ≡ (code_expr.out-Expr x).rest.items → sum_means (sum_view (code_expr.out-Expr x).first) s ≡ Ok (v, t)
    → Gives meant r u (compared_means (compared_from rest 0) v t) → Gives meant r u (expr_means (expr_view x) s)
expr-gives x rest v s t u r same first h =
    subst (λ q. Gives meant r u q) (sym (part-is (expr_means (expr_view x)) (sum_means (sum_view (code_expr.out-Expr x).first))
    (λ v. compared_means (compared_from (code_expr.out-Expr x).rest.items 0) v) v s t (expr-parts x) first))
    (subst (λ xs. Gives meant r u (compared_means (compared_from xs 0) v t)) same h)

sum-parts : (x : code_sum.Sum)
    → sum_means (sum_view x) ≡ (term_means (term_view (code_sum.out-Sum x).first) >>= λ v. added_means (chained (map added_view (code_sum.out-Sum x).rest.items) no_addition) v)
sum-parts x = ap sum_means (sum-seen x)

pub sum-fault : (x : code_sum.Sum) (e : ElabFault) (s : State) → Fails e (term_means (term_view (code_sum.out-Sum x).first) s) → Fails e (sum_means (sum_view x) s)
sum-fault x e s h = part-fault (sum_means (sum_view x)) (term_means (term_view (code_sum.out-Sum x).first))
    (λ v. added_means (chained (map added_view (code_sum.out-Sum x).rest.items) no_addition) v) e s (sum-parts x) h

pub sum-gives : (x : code_sum.Sum) (rest : List code_added.Added) (v : Value) (s t u : State) (r : Result code_value.Value ElabFault) → rest ≡ (code_sum.out-Sum x).rest.items
    → term_means (term_view (code_sum.out-Sum x).first) s ≡ Ok (v, t)
    → Gives meant r u (added_means (chained (map added_view rest) no_addition) v t) → Gives meant r u (sum_means (sum_view x) s)
sum-gives x rest v s t u r same first h =
    subst (λ q. Gives meant r u q) (sym (part-is (sum_means (sum_view x)) (term_means (term_view (code_sum.out-Sum x).first))
    (λ v. added_means (chained (map added_view (code_sum.out-Sum x).rest.items) no_addition) v) v s t (sum-parts x) first))
    (subst (λ xs. Gives meant r u (added_means (chained (map added_view xs) no_addition) v t)) same h)

term-parts : (x : code_term.Term) → term_means (term_view x)
    ≡ (factor_means (factor_view (code_term.out-Term x).first) >>= λ v. scaled_means (chained (map scaled_view (code_term.out-Term x).rest.items) no_scaling) v)
term-parts x = ap term_means (term-seen x)

pub term-fault : (x : code_term.Term) (e : ElabFault) (s : State) → Fails e (factor_means (factor_view (code_term.out-Term x).first) s) → Fails e (term_means (term_view x) s)
term-fault x e s h = part-fault (term_means (term_view x)) (factor_means (factor_view (code_term.out-Term x).first))
    (λ v. scaled_means (chained (map scaled_view (code_term.out-Term x).rest.items) no_scaling) v) e s (term-parts x) h

pub term-gives : (x : code_term.Term) (rest : List code_scaled.Scaled) (v : Value) (s t u : State) (r : Result code_value.Value ElabFault)
    → rest ≡ (code_term.out-Term x).rest.items → factor_means (factor_view (code_term.out-Term x).first) s ≡ Ok (v, t)
    → Gives meant r u (scaled_means (chained (map scaled_view rest) no_scaling) v t) → Gives meant r u (term_means (term_view x) s)
term-gives x rest v s t u r same first h =
    subst (λ q. Gives meant r u q) (sym (part-is (term_means (term_view x)) (factor_means (factor_view (code_term.out-Term x).first))
    (λ v. scaled_means (chained (map scaled_view (code_term.out-Term x).rest.items) no_scaling) v) v s t (term-parts x) first))
    (subst (λ xs. Gives meant r u (scaled_means (chained (map scaled_view xs) no_scaling) v t)) same h)

factor-parts : (x : code_factor.Factor) → factor_means (factor_view x) ≡ (power_means (power_view (code_factor.out-Factor x).power) >>= λ v. signed (code_factor.out-Factor x).signs.items v)
factor-parts x = ap factor_means (factor-seen x)

pub factor-fault : (x : code_factor.Factor) (e : ElabFault) (s : State) → Fails e (power_means (power_view (code_factor.out-Factor x).power) s) → Fails e (factor_means (factor_view x) s)
factor-fault x e s h = part-fault (factor_means (factor_view x)) (power_means (power_view (code_factor.out-Factor x).power))
    (λ v. signed (code_factor.out-Factor x).signs.items v) e s (factor-parts x) h

pub factor-gives : (x : code_factor.Factor) (rest : List Signed) (v : Value) (s t u : State) (r : Result code_value.Value ElabFault)
    → rest ≡ (code_factor.out-Factor x).signs.items → power_means (power_view (code_factor.out-Factor x).power) s ≡ Ok (v, t)
    → Gives meant r u (signed rest v t) → Gives meant r u (factor_means (factor_view x) s)
factor-gives x rest v s t u r same first h =
    subst (λ q. Gives meant r u q) (sym (part-is (factor_means (factor_view x)) (power_means (power_view (code_factor.out-Factor x).power))
    (λ v. signed (code_factor.out-Factor x).signs.items v) v s t (factor-parts x) first))
    (subst (λ xs. Gives meant r u (signed xs v t)) same h)

power-parts : (x : code_power.Power) → power_means (power_view x)
    ≡ (postfix_means None (postfix_view (code_power.out-Power x).first) >>= λ v. raised_means (chained (map raised_view (code_power.out-Power x).rest.items) no_power) v)
power-parts x = ap power_means (power-seen x)

pub power-fault : (x : code_power.Power) (e : ElabFault) (s : State) → Fails e (postfix_means None (postfix_view (code_power.out-Power x).first) s) → Fails e (power_means (power_view x) s)
power-fault x e s h = part-fault (power_means (power_view x)) (postfix_means None (postfix_view (code_power.out-Power x).first))
    (λ v. raised_means (chained (map raised_view (code_power.out-Power x).rest.items) no_power) v) e s (power-parts x) h

pub power-gives : (x : code_power.Power) (rest : List code_raised.Raised) (v : Value) (s t u : State) (r : Result code_value.Value ElabFault)
    → rest ≡ (code_power.out-Power x).rest.items → postfix_means None (postfix_view (code_power.out-Power x).first) s ≡ Ok (v, t)
    → Gives meant r u (raised_means (chained (map raised_view rest) no_power) v t) → Gives meant r u (power_means (power_view x) s)
power-gives x rest v s t u r same first h =
    subst (λ q. Gives meant r u q) (sym (part-is (power_means (power_view x)) (postfix_means None (postfix_view (code_power.out-Power x).first))
    (λ v. raised_means (chained (map raised_view (code_power.out-Power x).rest.items) no_power) v) v s t (power-parts x) first))
    (subst (λ xs. Gives meant r u (raised_means (chained (map raised_view xs) no_power) v t)) same h)

-- ---- comparisons
compared-at : (xs : List code_compared.Compared) (i : ℕ) (x : code_compared.Compared) → i < length xs → x ≡ get_or xs i x → compared_from xs i
    ≡ compared (code_compared.out-Compared x).comparison (code_compared.out-Compared x).place (sum_view (code_compared.out-Compared x).sum) (compared_from xs (i + 1))
compared-at xs i x h at =
    at_drop_more (λ ys. chained (map compared_view ys) no_comparison) xs i x h ∙ ap (λ y. compared_view y (compared_from xs (i + 1))) (sym at)
    ∙ ap (λ (f : Compared → Compared). f (compared_from xs (i + 1))) (compared-seen x)

compared-none : (xs : List code_compared.Compared) (i : ℕ) → length xs ≤ i → compared_from xs i ≡ no_comparison
compared-none xs i h = at_drop_all (λ ys. chained (map compared_view ys) no_comparison) xs i h

-- a first comparison
pub comparison-none : (xs : List code_compared.Compared) (v : Value) (s : State) → length xs ≤ 0 → compared_means (compared_from xs 0) v s ≡ Ok (v, s)
comparison-none xs v s h = ap (λ c. compared_means c v s) (compared-none xs 0 h)

module _ (xs : List code_compared.Compared) (x : code_compared.Compared) (v : Value) (s : State) (within : 0 < length xs) (at : x ≡ get_or xs 0 x) where
  comparison-parts : compared_means (compared_from xs 0) v ≡ (sum_means (sum_view (code_compared.out-Compared x).sum)
      >>= λ w. compare_values (code_compared.out-Compared x).comparison (code_compared.out-Compared x).place v w >>= λ u. chained_means (compared_from xs 1) u)
  comparison-parts = ap (λ c. compared_means c v) (compared-at xs 0 x within at)

  pub comparison-fault : (e : ElabFault) → Fails e (sum_means (sum_view (code_compared.out-Compared x).sum) s) → Fails e (compared_means (compared_from xs 0) v s)
  comparison-fault e h = part-fault (compared_means (compared_from xs 0) v) (sum_means (sum_view (code_compared.out-Compared x).sum)) (λ w. compare_values
      (code_compared.out-Compared x).comparison (code_compared.out-Compared x).place v w >>= λ u. chained_means (compared_from xs 1) u) e s comparison-parts h

  compared-right : (w : Value) (t : State) → sum_means (sum_view (code_compared.out-Compared x).sum) s ≡ Ok (w, t) → compared_means (compared_from xs 0) v s
      ≡ and_then (compare_values (code_compared.out-Compared x).comparison (code_compared.out-Compared x).place v w t) (λ u. chained_means (compared_from xs 1) u)
  compared-right w t h = part-is (compared_means (compared_from xs 0) v) (sum_means (sum_view (code_compared.out-Compared x).sum)) (λ w. compare_values
      (code_compared.out-Compared x).comparison (code_compared.out-Compared x).place v w >>= λ u. chained_means (compared_from xs 1) u) w s t comparison-parts h

  pub compare-fault : (w : Value) (e : ElabFault) (t : State) → sum_means (sum_view (code_compared.out-Compared x).sum) s ≡ Ok (w, t)
      → Fails e (compare_values (code_compared.out-Compared x).comparison (code_compared.out-Compared x).place v w t) → Fails e (compared_means (compared_from xs 0) v s)
  compare-fault w e t h fails =
      Fails-same e _ (compared_means (compared_from xs 0) v s) (compared-right w t h)
      (Fails-then e (compare_values (code_compared.out-Compared x).comparison (code_compared.out-Compared x).place v w t) (λ u. chained_means (compared_from xs 1) u) fails)

  pub comparison-gives : (w u : Value) (t q z : State) (r : Result code_value.Value ElabFault) → sum_means (sum_view (code_compared.out-Compared x).sum) s ≡ Ok (w, t)
      → compare_values (code_compared.out-Compared x).comparison (code_compared.out-Compared x).place v w t ≡ Ok (u, q)
      → Gives meant r z (chained_means (compared_from xs 1) u q) → Gives meant r z (compared_means (compared_from xs 0) v s)
  comparison-gives w u t q z r h g rest =
      subst (λ y. Gives meant r z y) (sym (compared-right w t h ∙ then_is (compare_values (code_compared.out-Compared x).comparison (code_compared.out-Compared x).place v w t)
      (λ u. chained_means (compared_from xs 1) u) u q g)) rest

-- a second comparison
pub second-none : (xs : List code_compared.Compared) (v : Value) (s : State) → length xs ≤ 1 → chained_means (compared_from xs 1) v s ≡ Ok (v, s)
second-none xs v s h = ap (λ c. chained_means c v s) (compared-none xs 1 h)

module _ (xs : List code_compared.Compared) (x : code_compared.Compared) (v : Value) (s : State) (within : 1 < length xs) (at : x ≡ get_or xs 1 x) where
  second-parts : chained_means (compared_from xs 1) v ≡ (sum_means (sum_view (code_compared.out-Compared x).sum) >>= λ w t. Err (NotOffered (code_compared.out-Compared x).place))
  second-parts = ap (λ c. chained_means c v) (compared-at xs 1 x within at)

  pub second-fault : (e : ElabFault) → Fails e (sum_means (sum_view (code_compared.out-Compared x).sum) s) → Fails e (chained_means (compared_from xs 1) v s)
  second-fault e h = part-fault (chained_means (compared_from xs 1) v) (sum_means (sum_view (code_compared.out-Compared x).sum))
      (λ w t. Err (NotOffered (code_compared.out-Compared x).place)) e s second-parts h

  pub second-refused : (w : Value) (t : State) → sum_means (sum_view (code_compared.out-Compared x).sum) s ≡ Ok (w, t)
      → chained_means (compared_from xs 1) v s ≡ Err (NotOffered (code_compared.out-Compared x).place)
  second-refused w t h = part-is (chained_means (compared_from xs 1) v) (sum_means (sum_view (code_compared.out-Compared x).sum))
      (λ w t. Err (NotOffered (code_compared.out-Compared x).place)) w s t second-parts h

-- ---- the terms of a sum
abbrev pub added_from : List code_added.Added → ℕ → Added
added_from xs i = chained (map added_view (drop i xs)) no_addition

added-at : (xs : List code_added.Added) (i : ℕ) (x : code_added.Added) → i < length xs → x ≡ get_or xs i x
    → added_from xs i ≡ added (code_added.out-Added x).sign (code_added.out-Added x).place (term_view (code_added.out-Added x).term) (added_from xs (i + 1))
added-at xs i x h at =
    at_drop_more (λ ys. chained (map added_view ys) no_addition) xs i x h ∙ ap (λ y. added_view y (added_from xs (i + 1))) (sym at)
    ∙ ap (λ (f : Added → Added). f (added_from xs (i + 1))) (added-seen x)

pub addition-end : (xs : List code_added.Added) (i : ℕ) (v : Value) (s : State) → length xs ≤ i → added_means (added_from xs i) v s ≡ Ok (v, s)
addition-end xs i v s h = at_drop_all (λ ys. added_means (chained (map added_view ys) no_addition) v s) xs i h

module _ (xs : List code_added.Added) (i : ℕ) (x : code_added.Added) (v : Value) (s : State) (within : i < length xs) (at : x ≡ get_or xs i x) where
  addition-parts : added_means (added_from xs i) v ≡ (term_means (term_view (code_added.out-Added x).term)
      >>= λ w. add_values (code_added.out-Added x).sign (code_added.out-Added x).place v w >>= λ u. added_means (added_from xs (i + 1)) u)
  addition-parts = ap (λ c. added_means c v) (added-at xs i x within at)

  pub addition-right-fault : (e : ElabFault) → Fails e (term_means (term_view (code_added.out-Added x).term) s) → Fails e (added_means (added_from xs i) v s)
  addition-right-fault e h = part-fault (added_means (added_from xs i) v) (term_means (term_view (code_added.out-Added x).term))
      (λ w. add_values (code_added.out-Added x).sign (code_added.out-Added x).place v w >>= λ u. added_means (added_from xs (i + 1)) u) e s addition-parts h

  addition-right : (w : Value) (t : State) → term_means (term_view (code_added.out-Added x).term) s ≡ Ok (w, t) → added_means (added_from xs i) v s
      ≡ and_then (add_values (code_added.out-Added x).sign (code_added.out-Added x).place v w t) (λ u. added_means (added_from xs (i + 1)) u)
  addition-right w t h = part-is (added_means (added_from xs i) v) (term_means (term_view (code_added.out-Added x).term))
      (λ w. add_values (code_added.out-Added x).sign (code_added.out-Added x).place v w >>= λ u. added_means (added_from xs (i + 1)) u) w s t addition-parts h

  pub addition-fault : (w : Value) (e : ElabFault) (t : State) → term_means (term_view (code_added.out-Added x).term) s ≡ Ok (w, t)
      → Fails e (add_values (code_added.out-Added x).sign (code_added.out-Added x).place v w t) → Fails e (added_means (added_from xs i) v s)
  addition-fault w e t h fails = Fails-same e _ (added_means (added_from xs i) v s) (addition-right w t h)
      (Fails-then e (add_values (code_added.out-Added x).sign (code_added.out-Added x).place v w t) (λ u. added_means (added_from xs (i + 1)) u) fails)

  pub addition-next : (w u : Value) (t q : State) → term_means (term_view (code_added.out-Added x).term) s ≡ Ok (w, t)
      → add_values (code_added.out-Added x).sign (code_added.out-Added x).place v w t ≡ Ok (u, q) → added_means (added_from xs i) v s ≡ added_means (added_from xs (i + 1)) u q
  addition-next w u t q h g = addition-right w t h ∙ then_is (add_values (code_added.out-Added x).sign (code_added.out-Added x).place v w t) (λ u. added_means (added_from xs (i + 1)) u) u q g

-- ---- the factors of a product
abbrev pub scaled_from : List code_scaled.Scaled → ℕ → Scaled
scaled_from xs i = chained (map scaled_view (drop i xs)) no_scaling

scaled-at : (xs : List code_scaled.Scaled) (i : ℕ) (x : code_scaled.Scaled) → i < length xs → x ≡ get_or xs i x
    → scaled_from xs i ≡ scaled (code_scaled.out-Scaled x).scaling (code_scaled.out-Scaled x).place (factor_view (code_scaled.out-Scaled x).factor) (scaled_from xs (i + 1))
scaled-at xs i x h at =
    at_drop_more (λ ys. chained (map scaled_view ys) no_scaling) xs i x h ∙ ap (λ y. scaled_view y (scaled_from xs (i + 1))) (sym at)
    ∙ ap (λ (f : Scaled → Scaled). f (scaled_from xs (i + 1))) (scaled-seen x)

pub scaling-end : (xs : List code_scaled.Scaled) (i : ℕ) (v : Value) (s : State) → length xs ≤ i → scaled_means (scaled_from xs i) v s ≡ Ok (v, s)
scaling-end xs i v s h = at_drop_all (λ ys. scaled_means (chained (map scaled_view ys) no_scaling) v s) xs i h

module _ (xs : List code_scaled.Scaled) (i : ℕ) (x : code_scaled.Scaled) (v : Value) (s : State) (within : i < length xs) (at : x ≡ get_or xs i x) where
  scaling-parts : scaled_means (scaled_from xs i) v ≡ (factor_means (factor_view (code_scaled.out-Scaled x).factor)
      >>= λ w. scale_values (code_scaled.out-Scaled x).scaling (code_scaled.out-Scaled x).place v w >>= λ u. scaled_means (scaled_from xs (i + 1)) u)
  scaling-parts = ap (λ c. scaled_means c v) (scaled-at xs i x within at)

  pub scaling-right-fault : (e : ElabFault) → Fails e (factor_means (factor_view (code_scaled.out-Scaled x).factor) s) → Fails e (scaled_means (scaled_from xs i) v s)
  scaling-right-fault e h = part-fault (scaled_means (scaled_from xs i) v) (factor_means (factor_view (code_scaled.out-Scaled x).factor))
      (λ w. scale_values (code_scaled.out-Scaled x).scaling (code_scaled.out-Scaled x).place v w >>= λ u. scaled_means (scaled_from xs (i + 1)) u) e s scaling-parts h

  scaling-right : (w : Value) (t : State) → factor_means (factor_view (code_scaled.out-Scaled x).factor) s ≡ Ok (w, t) → scaled_means (scaled_from xs i) v s
      ≡ and_then (scale_values (code_scaled.out-Scaled x).scaling (code_scaled.out-Scaled x).place v w t) (λ u. scaled_means (scaled_from xs (i + 1)) u)
  scaling-right w t h = part-is (scaled_means (scaled_from xs i) v) (factor_means (factor_view (code_scaled.out-Scaled x).factor))
      (λ w. scale_values (code_scaled.out-Scaled x).scaling (code_scaled.out-Scaled x).place v w >>= λ u. scaled_means (scaled_from xs (i + 1)) u) w s t scaling-parts h

  pub scaling-fault : (w : Value) (e : ElabFault) (t : State) → factor_means (factor_view (code_scaled.out-Scaled x).factor) s ≡ Ok (w, t)
      → Fails e (scale_values (code_scaled.out-Scaled x).scaling (code_scaled.out-Scaled x).place v w t) → Fails e (scaled_means (scaled_from xs i) v s)
  scaling-fault w e t h fails = Fails-same e _ (scaled_means (scaled_from xs i) v s) (scaling-right w t h)
      (Fails-then e (scale_values (code_scaled.out-Scaled x).scaling (code_scaled.out-Scaled x).place v w t) (λ u. scaled_means (scaled_from xs (i + 1)) u) fails)

  pub scaling-next : (w u : Value) (t q : State) → factor_means (factor_view (code_scaled.out-Scaled x).factor) s ≡ Ok (w, t)
      → scale_values (code_scaled.out-Scaled x).scaling (code_scaled.out-Scaled x).place v w t ≡ Ok (u, q)
      → scaled_means (scaled_from xs i) v s ≡ scaled_means (scaled_from xs (i + 1)) u q
  scaling-next w u t q h g = scaling-right w t h ∙ then_is (scale_values (code_scaled.out-Scaled x).scaling (code_scaled.out-Scaled x).place v w t) (λ u. scaled_means (scaled_from xs (i + 1)) u) u q g

-- ---- exponents
abbrev raised_from : List code_raised.Raised → ℕ → Raised
raised_from xs i = chained (map raised_view (drop i xs)) no_power

pub exponents-none : (xs : List code_raised.Raised) (v : Value) (s : State) → length xs ≤ 0 → raised_means (raised_from xs 0) v s ≡ Ok (v, s)
exponents-none xs v s h = at_drop_all (λ ys. raised_means (chained (map raised_view ys) no_power) v s) xs 0 h

module _ (xs : List code_raised.Raised) (x : code_raised.Raised) (v : Value) (s : State) (within : 0 < length xs) (at : x ≡ get_or xs 0 x) where
  exponent-parts : raised_means (raised_from xs 0) v s ≡ and_then (and_then (postfix_means None (postfix_view x.postfix) s) (λ w. signed x.signs.items w)) (λ w t. Err (NotOffered x.place))
  exponent-parts =
      ap (λ c. raised_means c v s)
      (at_drop_more (λ ys. chained (map raised_view ys) no_power) xs 0 x within ∙ ap (λ y. raised_view y (raised_from xs 1)) (sym at)
      ∙ ap (λ (f : Raised → Raised). f (raised_from xs 1)) (raised-seen x))

  pub exponent-fault : (e : ElabFault) → Fails e (postfix_means None (postfix_view x.postfix) s) → Fails e (raised_means (raised_from xs 0) v s)
  exponent-fault e h =
      Fails-same e _ (raised_means (raised_from xs 0) v s) exponent-parts
      (Fails-then e (and_then (postfix_means None (postfix_view x.postfix) s) (λ w. signed x.signs.items w)) _ (Fails-then e (postfix_means None (postfix_view x.postfix) s) _ h))

  exponent-signed : (w : Value) (t : State) → postfix_means None (postfix_view x.postfix) s ≡ Ok (w, t)
      → raised_means (raised_from xs 0) v s ≡ and_then (signed x.signs.items w t) (λ w t. Err (NotOffered x.place))
  exponent-signed w t h = exponent-parts ∙ ap (λ r. and_then r (λ w t. Err (NotOffered x.place))) (then_is (postfix_means None (postfix_view x.postfix) s) (λ w. signed x.signs.items w) w t h)

  pub exponent-sign-fault : (signs : List Signed) (w : Value) (e : ElabFault) (t : State) → signs ≡ x.signs.items → postfix_means None (postfix_view x.postfix) s ≡ Ok (w, t)
      → Fails e (signed signs w t) → Fails e (raised_means (raised_from xs 0) v s)
  exponent-sign-fault signs w e t same h g =
      Fails-same e _ (raised_means (raised_from xs 0) v s) (exponent-signed w t h) (Fails-then e (signed x.signs.items w t) _ (subst (λ ys. Fails e (signed ys w t)) same g))

  pub exponent-refused : (signs : List Signed) (w u : Value) (t q : State) → signs ≡ x.signs.items → postfix_means None (postfix_view x.postfix) s ≡ Ok (w, t) → signed signs w t ≡ Ok (u, q)
      → raised_means (raised_from xs 0) v s ≡ Err (NotOffered x.place)
  exponent-refused signs w u t q same h g = exponent-signed w t h ∙ then_is (signed x.signs.items w t) (λ w t. Err (NotOffered x.place)) u q (subst (λ ys. signed ys w t ≡ Ok (u, q)) same g)
