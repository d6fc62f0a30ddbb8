-- Trailers of the code as they are seen, one by one.
use Rattle.std.proofs.Common.{◌≡◌, ℕ, ◌+◌, ◌<◌, ◌≤◌, Bool, true, false, List, [], map, length, get_or, Option, Some, None, refl, sym, ap, subst, ◌∙◌, Box, Vec, Global}
use Rattle.std.proofs.lemmas.List.{at_drop_more, at_drop_all}
use Rattle.dcx_frac.specs.declared.fraction.Frac.{Frac}
use Rattle.dcx_shape.specs.declared.place.Place.{Place}
use Rattle.dcx_syntax.specs.declared.tree.Named.{Named}
use Rattle.dcx_syntax.specs.declared.tree.Arg as code_arg
use Rattle.dcx_syntax.specs.declared.tree.Index as code_index
use Rattle.dcx_syntax.specs.declared.tree.Primary as code_primary
use Rattle.dcx_syntax.specs.declared.tree.Step as code_step
use Rattle.dcx_syntax.specs.declared.tree.Trailer as code_trailer
use Rattle.dcx_syntax.specs.declared.tree.Trailer.TheVariants as trailers
use Rattle.dcx_syntax.specs.declared.tree.Primary.TheVariants as primaries
use Rattle.dcx_syntax.specs.declared.tree.Index.TheVariants as indices
use Rattle.dcx_syntax.specs.declared.tree.Step.TheVariants as steps
use Rattle.dcx_syntax.specs.declared.tree.Arg.TheVariants as arguments
use Rattle.dcx_syntax.specs.declared.tree.Added as code_added
use Rattle.dcx_syntax.specs.declared.tree.Compared as code_compared
use Rattle.dcx_syntax.specs.declared.tree.Expr as code_expr
use Rattle.dcx_syntax.specs.declared.tree.Factor as code_factor
use Rattle.dcx_syntax.specs.declared.tree.Postfix as code_postfix
use Rattle.dcx_syntax.specs.declared.tree.Power as code_power
use Rattle.dcx_syntax.specs.declared.tree.Raised as code_raised
use Rattle.dcx_syntax.specs.declared.tree.Scaled as code_scaled
use Rattle.dcx_syntax.specs.declared.tree.Sum as code_sum
use Rattle.dcx_syntax.specs.declared.tree.Term as code_term
use Rattle.dcx_syntax.specs.declared.tree.Arg.TheOpen.{Arg-F, Index-F, Primary-F, Step-F, Trailer-F}
use Rattle.dcx_syntax.specs.Expressions.{Expr, Compared, Sum, Added, Term, Scaled, Factor, Power, Raised, Postfix, Arg, by_place, by_name, Index}
use Rattle.dcx_syntax.specs.Expressions.{at as index_at, Step, no_step, step, Primary, name_at, number_at, text_at, truth_at, none_at, unit, round}
use Rattle.dcx_syntax.specs.Expressions.{tuple, empty_list, list, comprehension, postfix, slice, Trailers, no_trailer, attribute, call, indexed}
use Rattle.dcx_syntax.specs.View.{chained, args_of, items_of, more_items_of, indices_of, optional_view, arg_view, index_view, trailer_view, primary_view}
use Rattle.dcx_syntax.specs.View.{step_view, expr_view, postfix_view, arg_layer, index_layer, primary_layer, step_layer, trailer_layer, added_layer}
use Rattle.dcx_syntax.specs.View.{compared_layer, expr_layer, factor_layer, postfix_layer, power_layer, raised_layer, scaled_layer, sum_layer, term_layer}
use Rattle.dcx_elab.specs.View.{trailers_from}

-- ---- trailers
pub call-seen : (p : Place) (xs : Vec code_arg.Arg Global) (comma : Bool) → trailer_view (trailers.Call p xs comma) ≡ (λ r. call p (args_of (map arg_view xs.items) comma) r)
call-seen p xs comma =
    ap trailer_view (sym (trailers.rolls-Call p xs comma))
    ∙ code_trailer.fold-roll-Trailer Arg Index Primary Step (Trailers → Trailers) (Added → Added) (Compared → Compared) Expr Factor Postfix Power (Raised → Raised) (Scaled → Scaled) Sum Term
    arg_layer index_layer primary_layer step_layer trailer_layer added_layer compared_layer expr_layer factor_layer postfix_layer power_layer raised_layer scaled_layer
    sum_layer term_layer (Trailer-F.Call p xs comma)

pub attribute-seen : (n : Named) → trailer_view (trailers.Attribute n) ≡ (λ r. attribute n r)
attribute-seen n =
    ap trailer_view (sym (trailers.rolls-Attribute n))
    ∙ code_trailer.fold-roll-Trailer Arg Index Primary Step (Trailers → Trailers) (Added → Added) (Compared → Compared) Expr Factor Postfix Power (Raised → Raised) (Scaled → Scaled) Sum Term
    arg_layer index_layer primary_layer step_layer trailer_layer added_layer compared_layer expr_layer factor_layer postfix_layer power_layer raised_layer scaled_layer
    sum_layer term_layer (Trailer-F.Attribute n)

pub indexed-seen : (p : Place) (x : code_index.Index) (xs : Vec code_index.Index Global)
    → trailer_view (trailers.Index p x xs) ≡ (λ r. indexed p (index_view x) (indices_of (map index_view xs.items)) r)
indexed-seen p x xs =
    ap trailer_view (sym (trailers.rolls-Index p x xs))
    ∙ code_trailer.fold-roll-Trailer Arg Index Primary Step (Trailers → Trailers) (Added → Added) (Compared → Compared) Expr Factor Postfix Power (Raised → Raised) (Scaled → Scaled) Sum Term
    arg_layer index_layer primary_layer step_layer trailer_layer added_layer compared_layer expr_layer factor_layer postfix_layer power_layer raised_layer scaled_layer
    sum_layer term_layer (Trailer-F.Index p x xs)

-- the trailer at an index stands before those behind it
pub trailers-at : (xs : List code_trailer.Trailer) (i : ℕ) (x : code_trailer.Trailer) → i < length xs → x ≡ get_or xs i x → trailers_from xs i ≡ trailer_view x (trailers_from xs (i + 1))
trailers-at xs i x h at = at_drop_more (λ ys. chained (map trailer_view ys) no_trailer) xs i x h ∙ ap (λ y. trailer_view y (trailers_from xs (i + 1))) (sym at)

pub trailers-none : (xs : List code_trailer.Trailer) (i : ℕ) → length xs ≤ i → trailers_from xs i ≡ no_trailer
trailers-none xs i h = at_drop_all (λ ys. chained (map trailer_view ys) no_trailer) xs i h

-- a call at an index
pub call-at : (xs : List code_trailer.Trailer) (i : ℕ) (x : code_trailer.Trailer) (p : Place) (ys : Vec code_arg.Arg Global) (comma : Bool) → i < length xs
    → x ≡ get_or xs i x → x ≡ trailers.Call p ys comma
    → trailers_from xs i ≡ call p (args_of (map arg_view ys.items) comma) (trailers_from xs (i + 1))
call-at xs i x p ys comma h at is =
    trailers-at xs i x h at ∙ ap (λ y. trailer_view y (trailers_from xs (i + 1))) is ∙ ap (λ (f : Trailers → Trailers). f (trailers_from xs (i + 1))) (call-seen p ys comma)

pub attribute-at : (xs : List code_trailer.Trailer) (i : ℕ) (x : code_trailer.Trailer) (n : Named) → i < length xs → x ≡ get_or xs i x → x ≡ trailers.Attribute n
    → trailers_from xs i ≡ attribute n (trailers_from xs (i + 1))
attribute-at xs i x n h at is =
    trailers-at xs i x h at ∙ ap (λ y. trailer_view y (trailers_from xs (i + 1))) is ∙ ap (λ (f : Trailers → Trailers). f (trailers_from xs (i + 1))) (attribute-seen n)

pub indexed-at : (xs : List code_trailer.Trailer) (i : ℕ) (x : code_trailer.Trailer) (p : Place) (y : code_index.Index) (ys : Vec code_index.Index Global) → i < length xs
    → x ≡ get_or xs i x → x ≡ trailers.Index p y ys
    → trailers_from xs i ≡ indexed p (index_view y) (indices_of (map index_view ys.items)) (trailers_from xs (i + 1))
indexed-at xs i x p y ys h at is =
    trailers-at xs i x h at ∙ ap (λ z. trailer_view z (trailers_from xs (i + 1))) is ∙ ap (λ (f : Trailers → Trailers). f (trailers_from xs (i + 1))) (indexed-seen p y ys)

-- ---- what is no call
abbrev pub is_called : Trailers → Bool
is_called no_trailer = false
is_called (attribute n r) = false
is_called (call p x r) = true
is_called (indexed p x xs r) = false

abbrev pub Opened : Type 0
Opened = Trailer-F code_arg.Arg code_index.Index code_primary.Primary code_step.Step code_trailer.Trailer code_added.Added code_compared.Compared code_expr.Expr
    code_factor.Factor code_postfix.Postfix code_power.Power code_raised.Raised code_scaled.Scaled code_sum.Sum code_term.Term

pub not-called : (x : code_trailer.Trailer) (rest : Trailers) → ((p : Place) (xs : Vec code_arg.Arg Global) (comma : Bool) → x ≡ trailers.Call p xs comma → ⊥) → is_called (trailer_view x rest) ≡ false
not-called x rest never = subst (λ (y : code_trailer.Trailer). is_called (trailer_view y rest) ≡ false) (code_trailer.roll-out-Trailer x) (by (code_trailer.out-Trailer x) refl)
  where
    by : (y : Opened) → code_trailer.out-Trailer x ≡ y → is_called (trailer_view (code_trailer.roll-Trailer y) rest) ≡ false
    by (Trailer-F.Attribute n) e = ap (λ (z : code_trailer.Trailer). is_called (trailer_view z rest)) (trailers.rolls-Attribute n)
        ∙ ap (λ (f : Trailers → Trailers). is_called (f rest)) (attribute-seen n)
    by (Trailer-F.Index p y ys) e = ap (λ (z : code_trailer.Trailer). is_called (trailer_view z rest)) (trailers.rolls-Index p y ys)
        ∙ ap (λ (f : Trailers → Trailers). is_called (f rest)) (indexed-seen p y ys)
    by (Trailer-F.Call p xs comma) e =
        absurd (never p xs comma (sym (code_trailer.roll-out-Trailer x) ∙ ap code_trailer.roll-Trailer e ∙ trailers.rolls-Call p xs comma))

pub not-called-at : (xs : List code_trailer.Trailer) (i : ℕ) (x : code_trailer.Trailer) → i < length xs → x ≡ get_or xs i x
    → ((p : Place) (ys : Vec code_arg.Arg Global) (comma : Bool) → x ≡ trailers.Call p ys comma → ⊥)
    → is_called (trailers_from xs i) ≡ false
not-called-at xs i x h at never = ap is_called (trailers-at xs i x h at) ∙ not-called x (trailers_from xs (i + 1)) never

-- something stands there
abbrev pub is_none : Trailers → Bool
is_none no_trailer = true
is_none (attribute n r) = false
is_none (call p x r) = false
is_none (indexed p x xs r) = false

some-seen : (x : code_trailer.Trailer) (rest : Trailers) → is_none (trailer_view x rest) ≡ false
some-seen x rest = subst (λ (y : code_trailer.Trailer). is_none (trailer_view y rest) ≡ false) (code_trailer.roll-out-Trailer x) (by (code_trailer.out-Trailer x))
  where
    by : (y : Opened) → is_none (trailer_view (code_trailer.roll-Trailer y) rest) ≡ false
    by (Trailer-F.Attribute n) = ap (λ (z : code_trailer.Trailer). is_none (trailer_view z rest)) (trailers.rolls-Attribute n) ∙ ap (λ (f : Trailers → Trailers). is_none (f rest)) (attribute-seen n)
    by (Trailer-F.Index p y ys) = ap (λ (z : code_trailer.Trailer). is_none (trailer_view z rest)) (trailers.rolls-Index p y ys)
        ∙ ap (λ (f : Trailers → Trailers). is_none (f rest)) (indexed-seen p y ys)
    by (Trailer-F.Call p xs comma) = ap (λ (z : code_trailer.Trailer). is_none (trailer_view z rest)) (trailers.rolls-Call p xs comma)
        ∙ ap (λ (f : Trailers → Trailers). is_none (f rest)) (call-seen p xs comma)

-- any trailer
some_trailer : code_trailer.Trailer
some_trailer = trailers.Attribute (record { name = []; place = record { line = 1; column = 1 } })

pub some-at : (xs : List code_trailer.Trailer) (i : ℕ) → i < length xs → is_none (trailers_from xs i) ≡ false
some-at xs i h = ap is_none (at_drop_more (λ ys. chained (map trailer_view ys) no_trailer) xs i some_trailer h) ∙ some-seen (get_or xs i some_trailer) (trailers_from xs (i + 1))

-- ---- postfixes, primaries and slices
pub postfix-seen : (x : code_postfix.Postfix) → postfix_view x ≡ postfix (primary_view x.primary) (chained (map trailer_view x.trailers.items) no_trailer)
postfix-seen x =
    sym (ap postfix_view (code_postfix.roll-out-Postfix x))
    ∙ code_postfix.fold-roll-Postfix Arg Index Primary Step (Trailers → Trailers) (Added → Added) (Compared → Compared) Expr Factor Postfix Power (Raised → Raised) (Scaled → Scaled) Sum Term
    arg_layer index_layer primary_layer step_layer trailer_layer added_layer compared_layer expr_layer factor_layer postfix_layer power_layer raised_layer scaled_layer
    sum_layer term_layer (code_postfix.out-Postfix x)

pub number-seen : (x : Frac) (p : Place) → primary_view (primaries.Number x p) ≡ number_at x p
number-seen x p =
    ap primary_view (sym (primaries.rolls-Number x p))
    ∙ code_primary.fold-roll-Primary Arg Index Primary Step (Trailers → Trailers) (Added → Added) (Compared → Compared) Expr Factor Postfix Power (Raised → Raised) (Scaled → Scaled) Sum Term
    arg_layer index_layer primary_layer step_layer trailer_layer added_layer compared_layer expr_layer factor_layer postfix_layer power_layer raised_layer scaled_layer
    sum_layer term_layer (Primary-F.Number x p)

pub text-seen : (t : List ℕ) (p : Place) → primary_view (primaries.Text t p) ≡ text_at t p
text-seen t p =
    ap primary_view (sym (primaries.rolls-Text t p))
    ∙ code_primary.fold-roll-Primary Arg Index Primary Step (Trailers → Trailers) (Added → Added) (Compared → Compared) Expr Factor Postfix Power (Raised → Raised) (Scaled → Scaled) Sum Term
    arg_layer index_layer primary_layer step_layer trailer_layer added_layer compared_layer expr_layer factor_layer postfix_layer power_layer raised_layer scaled_layer
    sum_layer term_layer (Primary-F.Text t p)

pub name-seen : (n : Named) → primary_view (primaries.Name n) ≡ name_at n
name-seen n =
    ap primary_view (sym (primaries.rolls-Name n))
    ∙ code_primary.fold-roll-Primary Arg Index Primary Step (Trailers → Trailers) (Added → Added) (Compared → Compared) Expr Factor Postfix Power (Raised → Raised) (Scaled → Scaled) Sum Term
    arg_layer index_layer primary_layer step_layer trailer_layer added_layer compared_layer expr_layer factor_layer postfix_layer power_layer raised_layer scaled_layer
    sum_layer term_layer (Primary-F.Name n)

pub truth-seen : (b : Bool) (p : Place) → primary_view (primaries.Truth b p) ≡ truth_at b p
truth-seen b p =
    ap primary_view (sym (primaries.rolls-Truth b p))
    ∙ code_primary.fold-roll-Primary Arg Index Primary Step (Trailers → Trailers) (Added → Added) (Compared → Compared) Expr Factor Postfix Power (Raised → Raised) (Scaled → Scaled) Sum Term
    arg_layer index_layer primary_layer step_layer trailer_layer added_layer compared_layer expr_layer factor_layer postfix_layer power_layer raised_layer scaled_layer
    sum_layer term_layer (Primary-F.Truth b p)

pub none-seen : (p : Place) → primary_view (primaries.None p) ≡ none_at p
none-seen p =
    ap primary_view (sym (primaries.rolls-None p))
    ∙ code_primary.fold-roll-Primary Arg Index Primary Step (Trailers → Trailers) (Added → Added) (Compared → Compared) Expr Factor Postfix Power (Raised → Raised) (Scaled → Scaled) Sum Term
    arg_layer index_layer primary_layer step_layer trailer_layer added_layer compared_layer expr_layer factor_layer postfix_layer power_layer raised_layer scaled_layer
    sum_layer term_layer (Primary-F.None p)

pub unit-seen : (p : Place) → primary_view (primaries.Unit p) ≡ unit p
unit-seen p =
    ap primary_view (sym (primaries.rolls-Unit p))
    ∙ code_primary.fold-roll-Primary Arg Index Primary Step (Trailers → Trailers) (Added → Added) (Compared → Compared) Expr Factor Postfix Power (Raised → Raised) (Scaled → Scaled) Sum Term
    arg_layer index_layer primary_layer step_layer trailer_layer added_layer compared_layer expr_layer factor_layer postfix_layer power_layer raised_layer scaled_layer
    sum_layer term_layer (Primary-F.Unit p)

pub round-seen : (p : Place) (x : Box code_expr.Expr Global) → primary_view (primaries.Round p x) ≡ round p (expr_view x.value)
round-seen p x =
    ap primary_view (sym (primaries.rolls-Round p x))
    ∙ code_primary.fold-roll-Primary Arg Index Primary Step (Trailers → Trailers) (Added → Added) (Compared → Compared) Expr Factor Postfix Power (Raised → Raised) (Scaled → Scaled) Sum Term
    arg_layer index_layer primary_layer step_layer trailer_layer added_layer compared_layer expr_layer factor_layer postfix_layer power_layer raised_layer scaled_layer
    sum_layer term_layer (Primary-F.Round p x)

pub tuple-seen : (p : Place) (x : Box code_expr.Expr Global) (xs : Vec code_expr.Expr Global) (comma : Bool)
    → primary_view (primaries.Tuple p x xs comma) ≡ tuple p (expr_view x.value) (items_of (map expr_view xs.items) comma)
tuple-seen p x xs comma =
    ap primary_view (sym (primaries.rolls-Tuple p x xs comma))
    ∙ code_primary.fold-roll-Primary Arg Index Primary Step (Trailers → Trailers) (Added → Added) (Compared → Compared) Expr Factor Postfix Power (Raised → Raised) (Scaled → Scaled) Sum Term
    arg_layer index_layer primary_layer step_layer trailer_layer added_layer compared_layer expr_layer factor_layer postfix_layer power_layer raised_layer scaled_layer
    sum_layer term_layer (Primary-F.Tuple p x xs comma)

pub empty-list-seen : (p : Place) → primary_view (primaries.EmptyList p) ≡ empty_list p
empty-list-seen p =
    ap primary_view (sym (primaries.rolls-EmptyList p))
    ∙ code_primary.fold-roll-Primary Arg Index Primary Step (Trailers → Trailers) (Added → Added) (Compared → Compared) Expr Factor Postfix Power (Raised → Raised) (Scaled → Scaled) Sum Term
    arg_layer index_layer primary_layer step_layer trailer_layer added_layer compared_layer expr_layer factor_layer postfix_layer power_layer raised_layer scaled_layer
    sum_layer term_layer (Primary-F.EmptyList p)

pub list-seen : (p : Place) (x : Box code_expr.Expr Global) (xs : Vec code_expr.Expr Global) (comma : Bool)
    → primary_view (primaries.List p x xs comma) ≡ list p (expr_view x.value) (more_items_of (map expr_view xs.items) comma)
list-seen p x xs comma =
    ap primary_view (sym (primaries.rolls-List p x xs comma))
    ∙ code_primary.fold-roll-Primary Arg Index Primary Step (Trailers → Trailers) (Added → Added) (Compared → Compared) Expr Factor Postfix Power (Raised → Raised) (Scaled → Scaled) Sum Term
    arg_layer index_layer primary_layer step_layer trailer_layer added_layer compared_layer expr_layer factor_layer postfix_layer power_layer raised_layer scaled_layer
    sum_layer term_layer (Primary-F.List p x xs comma)

pub comprehension-seen : (p : Place) (x : Box code_expr.Expr Global) (q : Place) (n : Named) (from : Box code_expr.Expr Global)
    → primary_view (primaries.Comprehension p x q n from) ≡ comprehension p (expr_view x.value) q n (expr_view from.value)
comprehension-seen p x q n from =
    ap primary_view (sym (primaries.rolls-Comprehension p x q n from))
    ∙ code_primary.fold-roll-Primary Arg Index Primary Step (Trailers → Trailers) (Added → Added) (Compared → Compared) Expr Factor Postfix Power (Raised → Raised) (Scaled → Scaled) Sum Term
    arg_layer index_layer primary_layer step_layer trailer_layer added_layer compared_layer expr_layer factor_layer postfix_layer power_layer raised_layer scaled_layer
    sum_layer term_layer (Primary-F.Comprehension p x q n from)

pub at-seen : (x : code_expr.Expr) → index_view (indices.At x) ≡ index_at (expr_view x)
at-seen x =
    ap index_view (sym (indices.rolls-At x))
    ∙ code_index.fold-roll-Index Arg Index Primary Step (Trailers → Trailers) (Added → Added) (Compared → Compared) Expr Factor Postfix Power (Raised → Raised) (Scaled → Scaled) Sum Term
    arg_layer index_layer primary_layer step_layer trailer_layer added_layer compared_layer expr_layer factor_layer postfix_layer power_layer raised_layer
    scaled_layer sum_layer term_layer (Index-F.At x)

pub slice-seen : (a b : Option code_expr.Expr) (c : code_step.Step) → index_view (indices.Slice a b c) ≡ slice (optional_view a) (optional_view b) (step_view c)
slice-seen None None c =
    ap index_view (sym (indices.rolls-Slice None None c))
    ∙ code_index.fold-roll-Index Arg Index Primary Step (Trailers → Trailers) (Added → Added) (Compared → Compared) Expr Factor Postfix Power (Raised → Raised) (Scaled → Scaled) Sum Term
    arg_layer index_layer primary_layer step_layer trailer_layer added_layer compared_layer expr_layer factor_layer postfix_layer power_layer raised_layer scaled_layer
    sum_layer term_layer (Index-F.Slice None None c)
slice-seen None (Some y) c =
    ap index_view (sym (indices.rolls-Slice None (Some y) c))
    ∙ code_index.fold-roll-Index Arg Index Primary Step (Trailers → Trailers) (Added → Added) (Compared → Compared) Expr Factor Postfix Power (Raised → Raised) (Scaled → Scaled) Sum Term
    arg_layer index_layer primary_layer step_layer trailer_layer added_layer compared_layer expr_layer factor_layer postfix_layer power_layer raised_layer scaled_layer
    sum_layer term_layer (Index-F.Slice None (Some y) c)
slice-seen (Some x) None c =
    ap index_view (sym (indices.rolls-Slice (Some x) None c))
    ∙ code_index.fold-roll-Index Arg Index Primary Step (Trailers → Trailers) (Added → Added) (Compared → Compared) Expr Factor Postfix Power (Raised → Raised) (Scaled → Scaled) Sum Term
    arg_layer index_layer primary_layer step_layer trailer_layer added_layer compared_layer expr_layer factor_layer postfix_layer power_layer raised_layer scaled_layer
    sum_layer term_layer (Index-F.Slice (Some x) None c)
slice-seen (Some x) (Some y) c =
    ap index_view (sym (indices.rolls-Slice (Some x) (Some y) c))
    ∙ code_index.fold-roll-Index Arg Index Primary Step (Trailers → Trailers) (Added → Added) (Compared → Compared) Expr Factor Postfix Power (Raised → Raised) (Scaled → Scaled) Sum Term
    arg_layer index_layer primary_layer step_layer trailer_layer added_layer compared_layer expr_layer factor_layer postfix_layer power_layer raised_layer scaled_layer
    sum_layer term_layer (Index-F.Slice (Some x) (Some y) c)

pub absent-seen : step_view steps.Absent ≡ no_step
absent-seen =
    ap step_view (sym steps.rolls-Absent)
    ∙ code_step.fold-roll-Step Arg Index Primary Step (Trailers → Trailers) (Added → Added) (Compared → Compared) Expr Factor Postfix Power (Raised → Raised) (Scaled → Scaled) Sum Term
    arg_layer index_layer primary_layer step_layer trailer_layer added_layer compared_layer expr_layer factor_layer postfix_layer power_layer raised_layer
    scaled_layer sum_layer term_layer (Step-F.Absent)

pub colon-seen : (a : Option code_expr.Expr) → step_view (steps.Colon a) ≡ step (optional_view a)
colon-seen None =
    ap step_view (sym (steps.rolls-Colon None))
    ∙ code_step.fold-roll-Step Arg Index Primary Step (Trailers → Trailers) (Added → Added) (Compared → Compared) Expr Factor Postfix Power (Raised → Raised) (Scaled → Scaled) Sum Term
    arg_layer index_layer primary_layer step_layer trailer_layer added_layer compared_layer expr_layer factor_layer postfix_layer power_layer raised_layer scaled_layer
    sum_layer term_layer (Step-F.Colon None)
colon-seen (Some x) =
    ap step_view (sym (steps.rolls-Colon (Some x)))
    ∙ code_step.fold-roll-Step Arg Index Primary Step (Trailers → Trailers) (Added → Added) (Compared → Compared) Expr Factor Postfix Power (Raised → Raised) (Scaled → Scaled) Sum Term
    arg_layer index_layer primary_layer step_layer trailer_layer added_layer compared_layer expr_layer factor_layer postfix_layer power_layer raised_layer scaled_layer
    sum_layer term_layer (Step-F.Colon (Some x))

pub by-place-seen : (x : code_expr.Expr) → arg_view (arguments.ByPlace x) ≡ by_place (expr_view x)
by-place-seen x =
    ap arg_view (sym (arguments.rolls-ByPlace x))
    ∙ code_arg.fold-roll-Arg Arg Index Primary Step (Trailers → Trailers) (Added → Added) (Compared → Compared) Expr Factor Postfix Power (Raised → Raised) (Scaled → Scaled) Sum Term
    arg_layer index_layer primary_layer step_layer trailer_layer added_layer compared_layer expr_layer factor_layer postfix_layer power_layer raised_layer
    scaled_layer sum_layer term_layer (Arg-F.ByPlace x)

pub by-name-seen : (n : Named) (x : code_expr.Expr) → arg_view (arguments.ByName n x) ≡ by_name n (expr_view x)
by-name-seen n x =
    ap arg_view (sym (arguments.rolls-ByName n x))
    ∙ code_arg.fold-roll-Arg Arg Index Primary Step (Trailers → Trailers) (Added → Added) (Compared → Compared) Expr Factor Postfix Power (Raised → Raised) (Scaled → Scaled) Sum Term
    arg_layer index_layer primary_layer step_layer trailer_layer added_layer compared_layer expr_layer factor_layer postfix_layer power_layer raised_layer scaled_layer
    sum_layer term_layer (Arg-F.ByName n x)

-- ---- what is no name
abbrev pub is_name : Primary → Bool
is_name (name_at n) = true
is_name (number_at x p) = false
is_name (text_at t p) = false
is_name (truth_at b p) = false
is_name (none_at p) = false
is_name (unit p) = false
is_name (round p x) = false
is_name (tuple p x xs) = false
is_name (empty_list p) = false
is_name (list p x xs) = false
is_name (comprehension p x q n from) = false

abbrev pub OpenedPrimary : Type 0
OpenedPrimary = Primary-F code_arg.Arg code_index.Index code_primary.Primary code_step.Step code_trailer.Trailer code_added.Added code_compared.Compared code_expr.Expr
    code_factor.Factor code_postfix.Postfix code_power.Power code_raised.Raised code_scaled.Scaled code_sum.Sum code_term.Term

pub not-name : (x : code_primary.Primary) → ((n : Named) → x ≡ primaries.Name n → ⊥) → is_name (primary_view x) ≡ false
not-name x never = subst (λ (y : code_primary.Primary). is_name (primary_view y) ≡ false) (code_primary.roll-out-Primary x) (by (code_primary.out-Primary x) refl)
  where
    opened : (y : code_primary.Primary) (z : code_primary.Primary) (w : Primary) → z ≡ y → primary_view y ≡ w → is_name (primary_view z) ≡ is_name w
    opened y z w rolls seen = ap (λ u. is_name (primary_view u)) rolls ∙ ap is_name seen

    by : (y : OpenedPrimary) → code_primary.out-Primary x ≡ y → is_name (primary_view (code_primary.roll-Primary y)) ≡ false
    by (Primary-F.Name n) e = absurd (never n (sym (code_primary.roll-out-Primary x) ∙ ap code_primary.roll-Primary e ∙ primaries.rolls-Name n))
    by (Primary-F.Number x p) e = opened _ _ _ (primaries.rolls-Number x p) (number-seen x p)
    by (Primary-F.Text t p) e = opened _ _ _ (primaries.rolls-Text t p) (text-seen t p)
    by (Primary-F.Truth b p) e = opened _ _ _ (primaries.rolls-Truth b p) (truth-seen b p)
    by (Primary-F.None p) e = opened _ _ _ (primaries.rolls-None p) (none-seen p)
    by (Primary-F.Unit p) e = opened _ _ _ (primaries.rolls-Unit p) (unit-seen p)
    by (Primary-F.Round p x) e = opened _ _ _ (primaries.rolls-Round p x) (round-seen p x)
    by (Primary-F.Tuple p x xs comma) e = opened _ _ _ (primaries.rolls-Tuple p x xs comma) (tuple-seen p x xs comma)
    by (Primary-F.EmptyList p) e = opened _ _ _ (primaries.rolls-EmptyList p) (empty-list-seen p)
    by (Primary-F.List p x xs comma) e = opened _ _ _ (primaries.rolls-List p x xs comma) (list-seen p x xs comma)
    by (Primary-F.Comprehension p x q n from) e = opened _ _ _ (primaries.rolls-Comprehension p x q n from) (comprehension-seen p x q n from)
