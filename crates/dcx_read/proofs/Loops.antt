-- Repetitions, read one item after the other.
use Rattle.std.proofs.Common.{◌≡◌, ℕ, true, false, List, [], ◌∷◌, ◌++◌, map, refl, sym, ap, ◌∙◌}
use Rattle.std.proofs.lemmas.List.{map_push}
use Rattle.dcx_tokens.specs.declared.token.Token.{Token}
use Rattle.dcx_read.specs.declared.role.Role.{Role}
use Rattle.dcx_read.specs.declared.role.Role.TheVariants as roles
use Rattle.dcx_syntax.specs.declared.tree.Sign.{Sign}
use Rattle.dcx_syntax.specs.declared.tree.Signed.{Signed}
use Rattle.dcx_read.specs.declared.front.Stop.{Stop}
use Rattle.dcx_syntax.specs.Terminal.{Terminal, plain, signs}
use Rattle.dcx_read.specs.Terminals.{terminals, terminal}
use Rattle.dcx_syntax.specs.Expressions.{Expr, Factor, factor, Power, Exponent, exponent, Postfix, Arg, Args, no_args, args}
use Rattle.dcx_syntax.specs.Expressions.{args_end, MoreArgs, Items, no_items, items, items_end, MoreItems, signs_text}
use Rattle.dcx_syntax.specs.View.{chained, then_arg, then_item, args_of, items_of}
use Rattle.dcx_read.specs.Moves.{Symbol, Tree, trees, factor_s, exponent_s, power_s, postfix_s, signed_factor, signed_exponent, args_behind, items_behind}
use Rattle.dcx_read.specs.Moves as moves
use Rattle.dcx_read.specs.Reading.{leading}
use Rattle.dcx_read.specs.Steps.{Gives, Progress, Loop, Stops, Lacks, IsSigns}
use Rattle.dcx_read.proofs.Progress.{front, begun, goes, joins, done, turns, stops}
use Rattle.dcx_read.proofs.Rules.{shifts, leads, LeadsAt}

chained-push : {A : Type 0} (fs : List (A → A)) (f : A → A) (x : A) → chained (fs ++ f ∷ []) x ≡ chained fs (f x)
chained-push [] f x = refl
chained-push (g ∷ fs) f x = ap g (chained-push fs f x)

-- an item more at the end of a list
pub pushed : {C A : Type 0} (view : C → A → A) (new old : List C) (y : C) (f : A → A) → new ≡ old ++ y ∷ [] → view y ≡ f → (x : A) → chained (map view new) x ≡ chained (map view old) (f x)
pushed view new old y f e h x = rw e (rw map_push (chained-push (map view old) (view y) x ∙ ap (λ g. chained (map view old) (g x)) h))

pub none-yet : {C A : Type 0} (view : C → A → A) (none : List C) → none ≡ [] → (x : A) → chained (map view none) x ≡ x
none-yet view none e x = rw e refl

-- the first part of a tree is read, and a repetition begins
pub loop-begin : (s s' a : Symbol) (us mid : List Terminal) (make : Tree a → Tree s' → Tree s) (x : Tree a) (complete : Tree s' → Tree s)
    → Progress s us us (a ∷ s' ∷ []) (λ ss f. front s ss (make f.0 f.1.0) f.1.1) → Gives a us x mid → ((y : Tree s') → make x y ≡ complete y) → Loop s s' us mid complete
loop-begin s s' a us mid make x complete p g e =
    joins s us mid (s' ∷ []) (λ ss f. front s ss (make x f.0) f.1) (λ ss f. front s ss (complete f.0) f.1) (λ ss f. ap (λ z. front s ss z f.1) (e f.0))
    (goes s a us us mid (s' ∷ []) (λ ss f. front s ss (make f.0 f.1.0) f.1.1) x p g)

-- an item is read, and the repetition goes on
pub loop-next : (s s' a : Symbol) (us rest after mid : List Terminal) (complete complete' : Tree s' → Tree s) (make : Tree a → Tree s' → Tree s') (x : Tree a)
    → Loop s s' us rest complete → Progress s' rest after (a ∷ s' ∷ []) (λ ss f. front s' ss (make f.0 f.1.0) f.1.1) → Gives a after x mid
    → ((y : Tree s') → complete (make x y) ≡ complete' y) → Loop s s' us mid complete'
loop-next s s' a us rest after mid complete complete' make x l p g e =
    joins s us mid (s' ∷ []) (λ ss f. front s ss (complete (make x f.0)) f.1) (λ ss f. front s ss (complete' f.0) f.1) (λ ss f. ap (λ z. front s ss z f.1) (e f.0))
    (turns s s' us rest mid (s' ∷ []) complete (λ ss f. front s' ss (make x f.0) f.1) l (goes s' a rest after mid (s' ∷ []) (λ ss f. front s' ss (make f.0 f.1.0) f.1.1) x p g))

pub loop-stops : (s s' : Symbol) (us rest : List Terminal) (complete : Tree s' → Tree s) (source : List ℕ) (e : Stop) → Loop s s' us rest complete → Stops s' source rest e → Stops s source us e
loop-stops s s' us rest complete source e l h = stops s s' us rest [] (λ ss f. front s ss (complete f.0) f.1) source e l h

-- signs before a power, and before a postfix
signed_factors : List Signed → Factor → Factor
signed_factors [] f = f
signed_factors (s ∷ ss) f = signed_factor s (signed_factors ss f)

signed_exponents : List Signed → Exponent → Exponent
signed_exponents [] f = f
signed_exponents (s ∷ ss) f = signed_exponent s (signed_exponents ss f)

factor-signs : (ss : List Signed) (us rest : List Terminal) → us ≡ signs_text ss ++ rest → Loop factor_s factor_s us rest (signed_factors ss)
unfolding signed_factors
factor-signs [] us rest e = rw e (begun factor_s rest)
factor-signs (s ∷ ss) us rest e =
    turns factor_s factor_s us (signs_text ss ++ rest) rest (factor_s ∷ []) (signed_factor s) (λ zs g. front factor_s zs (signed_factors ss g.0) g.1)
    (shifts factor_s (plain (signs s.sign s.place)) us (signs_text ss ++ rest) (factor_s ∷ []) (λ zs g. front factor_s zs (signed_factor s g.0) g.1) e refl)
    (factor-signs ss (signs_text ss ++ rest) rest refl)

factor-all : (ss : List Signed) (x : Power) → signed_factors ss (factor [] x) ≡ factor ss x
unfolding signed_factors
factor-all [] x = refl
factor-all (s ∷ ss) x = ap (signed_factor s) (factor-all ss x)

factor-role : (r : Role) (bytes : List ℕ) (p : _) → ((s : Sign) → r ≡ roles.Signs s → ⊥)
    → moves.move factor_s (terminal r bytes p) ≡ leading trees power_s factor_s (λ ss. ss) moves.factor_join (moves.move power_s (terminal r bytes p))
factor-role (roles.Signs s) bytes p n = absurd (n s refl)
factor-role r bytes p n = refl

factor-leads : (source : List ℕ) (ts : List Token) → ((s : Sign) → Lacks (roles.Signs s) ts) → LeadsAt power_s factor_s [] moves.factor_join (terminals source ts)
factor-leads source [] l = tt
factor-leads source (t ∷ ts) l = factor-role _ _ _ (λ s e. l s t ts refl e)

factor-progress : (source : List ℕ) (ts : List Token) (ss : List Signed) (mid : List Token) → IsSigns ts ss mid
    → Progress factor_s (terminals source ts) (terminals source mid) (power_s ∷ []) (λ zs g. front factor_s zs (factor ss g.0) g.1)
factor-progress source ts ss mid i =
    joins factor_s (terminals source ts) (terminals source mid) (power_s ∷ []) (λ zs g. front factor_s zs (signed_factors ss (factor [] g.0)) g.1)
    (λ zs g. front factor_s zs (factor ss g.0) g.1) (λ zs g. ap (λ z. front factor_s zs z g.1) (factor-all ss g.0))
    (turns factor_s factor_s (terminals source ts) (terminals source mid) (terminals source mid) (power_s ∷ []) (signed_factors ss) moves.factor_join
    (factor-signs ss (terminals source ts) (terminals source mid) (i.parts source))
    (leads power_s factor_s [] moves.factor_join refl refl (terminals source mid) (factor-leads source mid i.ends)))

pub factor-gives : (source : List ℕ) (ts : List Token) (ss : List Signed) (mid : List Token) (x : Power) (rest : List Terminal) → IsSigns ts ss mid
    → Gives power_s (terminals source mid) x rest → Gives factor_s (terminals source ts) (factor ss x) rest
factor-gives source ts ss mid x rest i g = done factor_s (terminals source ts) rest (λ zs f. front factor_s zs (factor ss x) f) (factor ss x) (λ zs f. refl)
    (goes factor_s power_s (terminals source ts) (terminals source mid) rest [] (λ zs g. front factor_s zs (factor ss g.0) g.1) x (factor-progress source ts ss mid i) g)

pub factor-stops : (source : List ℕ) (ts : List Token) (ss : List Signed) (mid : List Token) (e : Stop) → IsSigns ts ss mid → Stops power_s source (terminals source mid) e
    → Stops factor_s source (terminals source ts) e
factor-stops source ts ss mid e i h =
    stops factor_s power_s (terminals source ts) (terminals source mid) [] (λ zs g. front factor_s zs (factor ss g.0) g.1) source e (factor-progress source ts ss mid i) h

exponent-signs : (ss : List Signed) (us rest : List Terminal) → us ≡ signs_text ss ++ rest → Loop exponent_s exponent_s us rest (signed_exponents ss)
unfolding signed_exponents
exponent-signs [] us rest e = rw e (begun exponent_s rest)
exponent-signs (s ∷ ss) us rest e =
    turns exponent_s exponent_s us (signs_text ss ++ rest) rest (exponent_s ∷ []) (signed_exponent s) (λ zs g. front exponent_s zs (signed_exponents ss g.0) g.1)
    (shifts exponent_s (plain (signs s.sign s.place)) us (signs_text ss ++ rest) (exponent_s ∷ []) (λ zs g. front exponent_s zs (signed_exponent s g.0) g.1) e refl)
    (exponent-signs ss (signs_text ss ++ rest) rest refl)

exponent-all : (ss : List Signed) (x : Postfix) → signed_exponents ss (exponent [] x) ≡ exponent ss x
unfolding signed_exponents
exponent-all [] x = refl
exponent-all (s ∷ ss) x = ap (signed_exponent s) (exponent-all ss x)

exponent-role : (r : Role) (bytes : List ℕ) (p : _) → ((s : Sign) → r ≡ roles.Signs s → ⊥)
    → moves.move exponent_s (terminal r bytes p) ≡ leading trees postfix_s exponent_s (λ ss. ss) moves.exponent_join (moves.move postfix_s (terminal r bytes p))
exponent-role (roles.Signs s) bytes p n = absurd (n s refl)
exponent-role r bytes p n = refl

exponent-leads : (source : List ℕ) (ts : List Token) → ((s : Sign) → Lacks (roles.Signs s) ts) → LeadsAt postfix_s exponent_s [] moves.exponent_join (terminals source ts)
exponent-leads source [] l = tt
exponent-leads source (t ∷ ts) l = exponent-role _ _ _ (λ s e. l s t ts refl e)

exponent-progress : (source : List ℕ) (ts : List Token) (ss : List Signed) (mid : List Token) → IsSigns ts ss mid
    → Progress exponent_s (terminals source ts) (terminals source mid) (postfix_s ∷ []) (λ zs g. front exponent_s zs (exponent ss g.0) g.1)
exponent-progress source ts ss mid i =
    joins exponent_s (terminals source ts) (terminals source mid) (postfix_s ∷ []) (λ zs g. front exponent_s zs (signed_exponents ss (exponent [] g.0)) g.1)
    (λ zs g. front exponent_s zs (exponent ss g.0) g.1) (λ zs g. ap (λ z. front exponent_s zs z g.1) (exponent-all ss g.0))
    (turns exponent_s exponent_s (terminals source ts) (terminals source mid) (terminals source mid) (postfix_s ∷ []) (signed_exponents ss) moves.exponent_join
    (exponent-signs ss (terminals source ts) (terminals source mid) (i.parts source))
    (leads postfix_s exponent_s [] moves.exponent_join refl refl (terminals source mid) (exponent-leads source mid i.ends)))

pub exponent-gives : (source : List ℕ) (ts : List Token) (ss : List Signed) (mid : List Token) (x : Postfix) (rest : List Terminal) → IsSigns ts ss mid
    → Gives postfix_s (terminals source mid) x rest → Gives exponent_s (terminals source ts) (exponent ss x) rest
exponent-gives source ts ss mid x rest i g = done exponent_s (terminals source ts) rest (λ zs f. front exponent_s zs (exponent ss x) f) (exponent ss x) (λ zs f. refl) (goes
    exponent_s postfix_s (terminals source ts) (terminals source mid) rest [] (λ zs g. front exponent_s zs (exponent ss g.0) g.1) x (exponent-progress source ts ss mid i) g)

pub exponent-stops : (source : List ℕ) (ts : List Token) (ss : List Signed) (mid : List Token) (e : Stop) → IsSigns ts ss mid → Stops postfix_s source (terminals source mid) e
    → Stops exponent_s source (terminals source ts) e
exponent-stops source ts ss mid e i h = stops exponent_s postfix_s (terminals source ts) (terminals source mid) [] (λ zs g. front exponent_s zs (exponent ss g.0) g.1) source e
    (exponent-progress source ts ss mid i) h

-- some args, each before a comma, and then others
abbrev pub args_after : List Arg → Args → Args
args_after [] a = a
args_after (x ∷ xs) a = args x (chained (map then_arg xs) (args_behind a))

then_args-push : (xs : List Arg) (y : Arg) (a : MoreArgs) → chained (map then_arg (xs ++ y ∷ [])) a ≡ chained (map then_arg xs) (then_arg y a)
then_args-push xs y a = pushed then_arg (xs ++ y ∷ []) xs y (then_arg y) refl refl a

args_after-push : (xs : List Arg) (y : Arg) (a : Args) → args_after (xs ++ y ∷ []) a ≡ args_after xs (args y (args_behind a))
args_after-push [] y a = refl
args_after-push (x ∷ xs) y a = ap (args x) (then_args-push xs y (args_behind a))

pub args-more : {C : Type 0} (view : C → Arg) (new old : List C) (y : C) → new ≡ old ++ y ∷ [] → (a : Args) → args_after (map view old) (args (view y) (args_behind a)) ≡ args_after (map view new) a
args-more view new old y e a = sym (rw e (rw map_push (args_after-push (map view old) (view y) a)))

args_of-push : (xs : List Arg) (y : Arg) → args_of (xs ++ y ∷ []) false ≡ args_after xs (args y args_end)
args_of-push [] y = refl
args_of-push (x ∷ xs) y = ap (args x) (then_args-push xs y args_end)

pub args-last : {C : Type 0} (view : C → Arg) (new old : List C) (y : C) → new ≡ old ++ y ∷ [] → args_of (map view new) false ≡ args_after (map view old) (args (view y) args_end)
args-last view new old y e = rw e (rw map_push (args_of-push (map view old) (view y)))

pub args-none-behind : (xs : List Arg) → args_of xs true ≡ args_after xs no_args
args-none-behind [] = refl
args-none-behind (x ∷ xs) = refl

-- some items, each before a comma, and then others
abbrev pub items_after : List Expr → Items → Items
items_after [] a = a
items_after (x ∷ xs) a = items x (chained (map then_item xs) (items_behind a))

then_items-push : (xs : List Expr) (y : Expr) (a : MoreItems) → chained (map then_item (xs ++ y ∷ [])) a ≡ chained (map then_item xs) (then_item y a)
then_items-push xs y a = pushed then_item (xs ++ y ∷ []) xs y (then_item y) refl refl a

items_after-push : (xs : List Expr) (y : Expr) (a : Items) → items_after (xs ++ y ∷ []) a ≡ items_after xs (items y (items_behind a))
items_after-push [] y a = refl
items_after-push (x ∷ xs) y a = ap (items x) (then_items-push xs y (items_behind a))

pub items-more : {C : Type 0} (view : C → Expr) (new old : List C) (y : C) → new ≡ old ++ y ∷ [] → (a : Items)
    → items_after (map view old) (items (view y) (items_behind a)) ≡ items_after (map view new) a
items-more view new old y e a = sym (rw e (rw map_push (items_after-push (map view old) (view y) a)))

items_of-push : (xs : List Expr) (y : Expr) → items_of (xs ++ y ∷ []) false ≡ items_after xs (items y items_end)
items_of-push [] y = refl
items_of-push (x ∷ xs) y = ap (items x) (then_items-push xs y items_end)

pub items-last : {C : Type 0} (view : C → Expr) (new old : List C) (y : C) → new ≡ old ++ y ∷ [] → items_of (map view new) false ≡ items_after (map view old) (items (view y) items_end)
items-last view new old y e = rw e (rw map_push (items_of-push (map view old) (view y)))

pub items-none-behind : (xs : List Expr) → items_of xs true ≡ items_after xs no_items
items-none-behind [] = refl
items-none-behind (x ∷ xs) = refl
