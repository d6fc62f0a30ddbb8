-- The right side of an assignment, which is a postfix and nothing else, or not, and a postfix that is just a name.
use Rattle.std.proofs.Common.{◌≡◌, Bool, true, false, true≢false, ◌&&◌, ◌==◌, List, [], ◌∷◌, map, length, Vec, vec_len, Some, None, refl, sym, ap, ◌∙◌, Global, arith}
use Rattle.std.proofs.lemmas.Bool.Decides.{nat_tests}
use Rattle.dcx_syntax.specs.declared.tree.Named.{Named}
use Rattle.dcx_syntax.specs.declared.tree.Signed.{Signed}
use Rattle.dcx_syntax.specs.declared.tree.Added as code_added
use Rattle.dcx_syntax.specs.declared.tree.Compared as code_compared
use Rattle.dcx_syntax.specs.declared.tree.Expr as code_expr
use Rattle.dcx_syntax.specs.declared.tree.Factor as code_factor
use Rattle.dcx_syntax.specs.declared.tree.Postfix as code_postfix
use Rattle.dcx_syntax.specs.declared.tree.Primary.TheVariants as primaries
use Rattle.dcx_syntax.specs.declared.tree.Trailer as code_trailer
use Rattle.dcx_syntax.specs.declared.tree.Power as code_power
use Rattle.dcx_syntax.specs.declared.tree.Raised as code_raised
use Rattle.dcx_syntax.specs.declared.tree.Scaled as code_scaled
use Rattle.dcx_syntax.specs.declared.tree.Sum as code_sum
use Rattle.dcx_syntax.specs.declared.tree.Term as code_term
use Rattle.dcx_syntax.specs.Expressions.{Expr, expr, Compared, no_comparison, compared, Sum, sum, Added, no_addition, added, Term, term, Scaled, no_scaling, scaled, Factor}
use Rattle.dcx_syntax.specs.Expressions.{factor, Power, power_of, Raised, no_power, raised, Postfix, postfix, Trailers, no_trailer, attribute, call, indexed, Primary, name_at}
use Rattle.dcx_syntax.specs.View.{chained, compared_view, added_view, scaled_view, raised_view, expr_view, postfix_view, primary_view}
use Rattle.dcx_elab.specs.Statements.{only_postfix, is_just_name}
use Rattle.dcx_elab.specs.View.{trailers_from}
use Rattle.dcx_elab.proofs.Layers.{expr-seen, compared-seen, sum-seen, added-seen, term-seen, scaled-seen, factor-seen, power-seen, raised-seen}
use Rattle.dcx_elab.proofs.Seen.{is_none, some-at, postfix-seen, name-seen}

-- ---- what stands beside a postfix
abbrev pub has_none : {A : Type 0} → List A → Bool
has_none [] = true
has_none (x ∷ xs) = false

abbrev ends_compared : Compared → Bool
ends_compared no_comparison = true
ends_compared (compared c p x rest) = false

abbrev ends_added : Added → Bool
ends_added no_addition = true
ends_added (added s p x rest) = false

abbrev ends_scaled : Scaled → Bool
ends_scaled no_scaling = true
ends_scaled (scaled s p x rest) = false

abbrev ends_raised : Raised → Bool
ends_raised no_power = true
ends_raised (raised p x rest) = false

compared-ends : (xs : List code_compared.Compared) → ends_compared (chained (map compared_view xs) no_comparison) ≡ has_none xs
compared-ends [] = refl
compared-ends (x ∷ xs) = ap (λ (f : Compared → Compared). ends_compared (f (chained (map compared_view xs) no_comparison))) (compared-seen x)

added-ends : (xs : List code_added.Added) → ends_added (chained (map added_view xs) no_addition) ≡ has_none xs
added-ends [] = refl
added-ends (x ∷ xs) = ap (λ (f : Added → Added). ends_added (f (chained (map added_view xs) no_addition))) (added-seen x)

scaled-ends : (xs : List code_scaled.Scaled) → ends_scaled (chained (map scaled_view xs) no_scaling) ≡ has_none xs
scaled-ends [] = refl
scaled-ends (x ∷ xs) = ap (λ (f : Scaled → Scaled). ends_scaled (f (chained (map scaled_view xs) no_scaling))) (scaled-seen x)

raised-ends : (xs : List code_raised.Raised) → ends_raised (chained (map raised_view xs) no_power) ≡ has_none xs
raised-ends [] = refl
raised-ends (x ∷ xs) = ap (λ (f : Raised → Raised). ends_raised (f (chained (map raised_view xs) no_power))) (raised-seen x)

-- ---- an expression with its first postfix and what stands beside it
abbrev whole : Postfix → List Signed → Raised → Scaled → Added → Compared → Expr
whole x ss r sc a c = expr (sum (term (factor ss (power_of x r)) sc) a) c

only-none : (x : Postfix) (ss : List Signed) (r : Raised) (sc : Scaled) (a : Added) (c : Compared)
    → (has_none ss && (ends_raised r && (ends_scaled sc && (ends_added a && ends_compared c)))) ≡ false → only_postfix (whole x ss r sc a c) ≡ None
only-none x [] no_power no_scaling no_addition no_comparison h = absurd (true≢false h)
only-none x [] no_power no_scaling no_addition (compared q p y rest) h = refl
only-none x [] no_power no_scaling (added s p y rest) c h = refl
only-none x [] no_power (scaled s p y rest) a c h = refl
only-none x [] (raised p y rest) sc a c h = refl
only-none x (s ∷ ss) r sc a c h = refl

only-some : (x : Postfix) (ss : List Signed) (r : Raised) (sc : Scaled) (a : Added) (c : Compared)
    → (has_none ss && (ends_raised r && (ends_scaled sc && (ends_added a && ends_compared c)))) ≡ true → only_postfix (whole x ss r sc a c) ≡ Some x
only-some x [] no_power no_scaling no_addition no_comparison h = refl
only-some x [] no_power no_scaling no_addition (compared q p y rest) h = absurd (true≢false (sym h))
only-some x [] no_power no_scaling (added s p y rest) c h = absurd (true≢false (sym h))
only-some x [] no_power (scaled s p y rest) a c h = absurd (true≢false (sym h))
only-some x [] (raised p y rest) sc a c h = absurd (true≢false (sym h))
only-some x (s ∷ ss) r sc a c h = absurd (true≢false (sym h))

-- ---- an expression of the code
abbrev sum_of : code_expr.Expr → code_sum.Sum
sum_of e = (code_expr.out-Expr e).first

abbrev term_of : code_expr.Expr → code_term.Term
term_of e = (code_sum.out-Sum (sum_of e)).first

abbrev factor_of : code_expr.Expr → code_factor.Factor
factor_of e = (code_term.out-Term (term_of e)).first

abbrev power_in : code_expr.Expr → code_power.Power
power_in e = (code_factor.out-Factor (factor_of e)).power

abbrev postfix_of : code_expr.Expr → code_postfix.Postfix
postfix_of e = (code_power.out-Power (power_in e)).first

abbrev pub signs_of : code_expr.Expr → List Signed
signs_of e = (code_factor.out-Factor (factor_of e)).signs.items

abbrev pub raised_of : code_expr.Expr → Vec code_raised.Raised Global
raised_of e = (code_power.out-Power (power_in e)).rest

abbrev pub scaled_of : code_expr.Expr → Vec code_scaled.Scaled Global
scaled_of e = (code_term.out-Term (term_of e)).rest

abbrev pub added_of : code_expr.Expr → Vec code_added.Added Global
added_of e = (code_sum.out-Sum (sum_of e)).rest

abbrev pub compared_of : code_expr.Expr → Vec code_compared.Compared Global
compared_of e = (code_expr.out-Expr e).rest

whole-seen : (e : code_expr.Expr) → expr_view e
    ≡ whole (postfix_view (postfix_of e)) (signs_of e) (chained (map raised_view (raised_of e).items) no_power) (chained (map scaled_view (scaled_of e).items) no_scaling)
    (chained (map added_view (added_of e).items) no_addition) (chained (map compared_view (compared_of e).items) no_comparison)
whole-seen e =
    let c = chained (map compared_view (compared_of e).items) no_comparison in
    let a = chained (map added_view (added_of e).items) no_addition in
    let sc = chained (map scaled_view (scaled_of e).items) no_scaling in
    expr-seen e ∙ ap (λ (x : Sum). expr x c) (sum-seen (sum_of e)) ∙ ap (λ (x : Term). expr (sum x a) c) (term-seen (term_of e))
    ∙ ap (λ (x : Factor). expr (sum (term x sc) a) c) (factor-seen (factor_of e)) ∙ ap (λ (x : Power). expr (sum (term (factor (signs_of e) x) sc) a) c) (power-seen (power_in e))

-- nothing stands beside the first postfix
abbrev pub stands_alone : code_expr.Expr → Bool
stands_alone e = has_none (signs_of e) && (has_none (raised_of e).items && (has_none (scaled_of e).items && (has_none (added_of e).items && has_none (compared_of e).items)))

ends_alone : (e : code_expr.Expr)
    → (has_none (signs_of e) && (ends_raised (chained (map raised_view (raised_of e).items) no_power)
    && (ends_scaled (chained (map scaled_view (scaled_of e).items) no_scaling) && (ends_added (chained (map added_view (added_of e).items) no_addition)
    && ends_compared (chained (map compared_view (compared_of e).items) no_comparison))))) ≡ stands_alone e
ends_alone e = rw (raised-ends (raised_of e).items, scaled-ends (scaled_of e).items, added-ends (added_of e).items, compared-ends (compared_of e).items) refl

pub no-postfix : (e : code_expr.Expr) → stands_alone e ≡ false → only_postfix (expr_view e) ≡ None
no-postfix e h =
    ap only_postfix (whole-seen e) ∙ only-none (postfix_view (postfix_of e)) (signs_of e) (chained (map raised_view (raised_of e).items) no_power)
    (chained (map scaled_view (scaled_of e).items) no_scaling) (chained (map added_view (added_of e).items) no_addition)
    (chained (map compared_view (compared_of e).items) no_comparison) (ends_alone e ∙ h)

pub one-postfix : (e : code_expr.Expr) → stands_alone e ≡ true → only_postfix (expr_view e) ≡ Some (postfix_view (postfix_of e))
one-postfix e h =
    ap only_postfix (whole-seen e) ∙ only-some (postfix_view (postfix_of e)) (signs_of e) (chained (map raised_view (raised_of e).items) no_power)
    (chained (map scaled_view (scaled_of e).items) no_scaling) (chained (map added_view (added_of e).items) no_addition)
    (chained (map compared_view (compared_of e).items) no_comparison) (ends_alone e ∙ h)

-- ---- what the tests of the code say
pub none-length : {A : Type 0} (xs : List A) → has_none xs ≡ (length xs == 0)
none-length [] = refl
none-length (x ∷ xs) = grind (arith, nat_tests)

pub none-vec : {A Z : Type 0} (v : Vec A Z) (b : Bool) → b ≡ (vec_len v == 0) → has_none v.items ≡ b
none-vec v b e = none-length v.items ∙ ap (λ n. n == 0) (sym v.ok.0) ∙ sym e

pub and_then_false : (a b : Bool) → b ≡ false → (a && b) ≡ false
and_then_false true b h = h
and_then_false false b h = refl

-- ---- just a name
name-only : (n : Named) (ts : Trailers) → is_just_name (Some (postfix (name_at n) ts)) ≡ is_none ts
name-only n no_trailer = refl
name-only n (attribute m r) = refl
name-only n (call p xs r) = refl
name-only n (indexed p x xs r) = refl

trailers-end : (xs : List code_trailer.Trailer) → is_none (trailers_from xs 0) ≡ has_none xs
trailers-end [] = refl
trailers-end (x ∷ xs) = some-at (x ∷ xs) 0 (omega arith)

-- a name with nothing behind it
pub just-name : (x : code_postfix.Postfix) (n : Named) → x.primary ≡ primaries.Name n → is_just_name (Some (postfix_view x)) ≡ has_none x.trailers.items
just-name x n e =
    ap (λ (y : Postfix). is_just_name (Some y)) (postfix-seen x ∙ ap (λ (y : Primary). postfix y (trailers_from x.trailers.items 0)) (ap primary_view e ∙ name-seen n))
    ∙ name-only n (trailers_from x.trailers.items 0) ∙ trailers-end x.trailers.items
